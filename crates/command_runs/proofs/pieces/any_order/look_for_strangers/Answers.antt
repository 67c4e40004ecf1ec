use Rattle.std.proofs.Common.{refl, arith, inl, inr, ◌≡◌, ◌∙◌, ◌+◌, ◌<◌, ◌++◌, ◌∷◌, [], ℕ, List, Option, None, Some, String, ap, sym, subst, length, take}
use Rattle.std.specs.List.{All}
use Rattle.std.specs.declared.alloc.Global.{Global}
use Rattle.std.proofs.lemmas.List.{take_more}
use Rattle.std.proofs.lemmas.List.Elements.{All-nil, All-push}
use Rattle.std.proofs.Math.Seq.{take-length}
use Rattle.run_files.specs.Manifests.{PieceParts}
use Rattle.command_runs.specs.Pieces.{RefusesPiece, TellsFacts, facts_of_piece}
use Rattle.command_runs.specs.Traces.{IsInside, KeepsFirst}
use Rattle.command_runs.proofs.AnyOrder.{known_front}
use Rattle.command_runs.proofs.Traces.{begins, outside_later}
use Rattle.command_runs.proofs.Runs.{handed_on}
use Rattle.command_runs.proofs.pieces.any_order.look_for_strangers.Goals as goal

-- no stranger is kept
none_kept : (new : Option (String Global)) → ((path : String Global) → new ≡ Some path → ⊥) → new ≡ None
none_kept None none = refl
none_kept (Some path) none = absurd (none path refl)

pub loop-piece-init : goal.loop-piece-init
loop-piece-init g c = record { inside = All-nil (IsInside (g.O.Opener.file c.args.run.now.files.now) c.args.run.now.layout.now.ranks) }

pub loop-piece-preserved : goal.loop-piece-preserved
loop-piece-preserved g c =
    let file = g.O.Opener.file c.args.run.now.files.now in
    let ranks = c.args.run.now.layout.now.ranks in
    let pieces = c.args.pieces.now in
    let i = c.loop-piece.piece-index in
    let piece = c.piece-item.result in
    let facts = facts_of_piece c.in_ok-whole.whole in
    let below : i < length pieces = omega arith in
    let more : take (i + 1) pieces ≡ take i pieces ++ piece ∷ [] = take_more pieces i piece below ∙ ap (λ (p : PieceParts). take i pieces ++ p ∷ []) (sym c.piece-item.is) in
    let told : TellsFacts (file piece.file) piece.rank piece.first facts = c.in_ok-whole.ensures.ok in
    let keeps : KeepsFirst ranks piece facts None None =
    subst (λ (o : Option (String Global)). KeepsFirst ranks piece facts None o) (none_kept _ c.in_default.not-Some) c.in_ok-path.ensures in
    record {
      inside = outside_later file ranks (take i pieces) (take (i + 1) pieces) piece facts None None more c.loop-piece.invariant.inside told keeps;
    }

pub returns-in_err-whole-clause-err : goal.returns-in_err-whole-clause-err
returns-in_err-whole-clause-err g c =
    let file = g.O.Opener.file c.args.run.now.files.now in
    let pieces = c.args.pieces.now in
    let i = c.loop-piece.piece-index in
    let piece = c.piece-item.result in
    let below : i < length pieces = omega arith in
    let more : take (i + 1) pieces ≡ take i pieces ++ piece ∷ [] = take_more pieces i piece below ∙ ap (λ (p : PieceParts). take i pieces ++ p ∷ []) (sym c.piece-item.is) in
    let begin = begins pieces i piece more in
    let refuses : RefusesPiece piece.file piece.first (file piece.file) c.in_err-whole.field-0.0 = c.in_err-whole.ensures.err in
    handed_on c.from_residual.result _ _ c.from_residual.ensures.1
    (inr (inl (take i pieces, piece, begin, known_front file (take i pieces) piece pieces c.requires.0 begin c.requires.1, refuses)))

pub returns-in-Some-clause-err : goal.returns-in-Some-clause-err
returns-in-Some-clause-err g c =
    let file = g.O.Opener.file c.args.run.now.files.now in
    let ranks = c.args.run.now.layout.now.ranks in
    let pieces = c.args.pieces.now in
    let i = c.loop-piece.piece-index in
    let piece = c.piece-item.result in
    let facts = facts_of_piece c.in_ok-whole.whole in
    let below : i < length pieces = omega arith in
    let more : take (i + 1) pieces ≡ take i pieces ++ piece ∷ [] = take_more pieces i piece below ∙ ap (λ (p : PieceParts). take i pieces ++ p ∷ []) (sym c.piece-item.is) in
    let told : TellsFacts (file piece.file) piece.rank piece.first facts = c.in_ok-whole.ensures.ok in
    let named : KeepsFirst ranks piece facts None (Some c.in-Some.path) = rw c.in-Some.is at c.in_ok-path.ensures in
    inr (inr (c.requires, (take i pieces, piece, begins pieces i piece more, c.loop-piece.invariant.inside, (named.0, named.1, (facts, told, named.2)))))

pub returns-clause-ok : goal.returns-clause-ok
returns-clause-ok g c =
    let pieces = c.args.pieces.now in
    let end : c.loop-piece.piece-index ≡ length pieces = omega arith in
    let all : take c.loop-piece.piece-index pieces ≡ pieces = ap (λ (n : ℕ). take n pieces) end ∙ take-length pieces in
    subst (λ (ps : List PieceParts). All (IsInside (g.O.Opener.file c.args.run.now.files.now) c.args.run.now.layout.now.ranks) ps) all c.loop-piece.invariant.inside

pub loop-piece-preserved-then-rank-ranks : goal.loop-piece-preserved-then-rank-ranks
loop-piece-preserved-then-rank-ranks g c =
    let file = g.O.Opener.file c.args.run.now.files.now in
    let ranks = c.args.run.now.layout.now.ranks in
    let pieces = c.args.pieces.now in
    let i = c.loop-piece.piece-index in
    let piece = c.piece-item.result in
    let below : i < length pieces = omega arith in
    let more : take (i + 1) pieces ≡ take i pieces ++ piece ∷ [] = take_more pieces i piece below ∙ ap (λ (p : PieceParts). take i pieces ++ p ∷ []) (sym c.piece-item.is) in
    let low : piece.rank < ranks = omega (arith, c.if-rank-ranks.true, c.rank.ensures, c.ranks.ensures) in
    record {
      inside = subst (λ (ps : List PieceParts). All (IsInside file ranks) ps) (sym more) (All-push (IsInside file ranks) (take i pieces) piece c.loop-piece.invariant.inside (inl low));
    }
