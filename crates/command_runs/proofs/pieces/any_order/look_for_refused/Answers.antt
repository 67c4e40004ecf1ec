use Rattle.std.proofs.Common.{rules, refl, arith, inr, ◌≡◌, ◌∙◌, ◌+◌, ◌<◌, ◌++◌, ◌∷◌, [], ℕ, List, ap, sym, subst, length, take}
use Rattle.std.proofs.Math.Seq.{take-length}
use Rattle.std.proofs.lemmas.List.{take_more}
use Rattle.trace_know.specs.Trace.{view_of}
use Rattle.trace_know.specs.View.{join}
use Rattle.run_files.specs.Manifests.{PieceParts}
use Rattle.command_runs.specs.Pieces.{RefusesPiece, TellsFacts, facts_of_piece}
use Rattle.command_runs.specs.Refusals.{BlamesFile}
use Rattle.command_runs.specs.Traces.{IsKnown}
use Rattle.command_runs.proofs.AnyOrder.{first_blamed, first_of_whole}
use Rattle.command_runs.proofs.Traces.{begins, known_more}
use Rattle.command_runs.proofs.Runs.{handed_on}
use Rattle.command_runs.proofs.pieces.any_order.look_for_refused.Goals as goal

pub loop-piece-init : goal.loop-piece-init
loop-piece-init g c = record { whole = (view_of [], ([], refl, refl)) }

pub loop-piece-preserved : goal.loop-piece-preserved
loop-piece-preserved g c =
    let file = g.O.Opener.file c.args.files.now in
    let pieces = c.args.pieces.now in
    let i = c.loop-piece.piece-index in
    let piece = c.piece-item.result in
    let facts = facts_of_piece c.in_ok-whole.whole in
    let was = c.loop-piece.invariant.whole in
    let now = join was.0 (view_of facts) in
    let below : i < length pieces = omega arith in
    let more : take (i + 1) pieces ≡ take i pieces ++ piece ∷ [] = take_more pieces i piece below ∙ ap (λ (p : PieceParts). take i pieces ++ p ∷ []) (sym c.piece-item.is) in
    let told : TellsFacts (file piece.file) piece.rank piece.first facts = c.in_ok-whole.ensures.ok in
    record {
      whole = (now, subst (λ (ps : List PieceParts). IsKnown file ps now) (sym more) (known_more c.view_laws.ensures.union file (take i pieces) piece was.0 now facts was.1 told refl));
    }

pub returns-in_err-whole-clause-err : goal.returns-in_err-whole-clause-err
returns-in_err-whole-clause-err g c =
    let file = g.O.Opener.file c.args.files.now in
    let pieces = c.args.pieces.now in
    let i = c.loop-piece.piece-index in
    let piece = c.piece-item.result in
    let below : i < length pieces = omega arith in
    let more : take (i + 1) pieces ≡ take i pieces ++ piece ∷ [] = take_more pieces i piece below ∙ ap (λ (p : PieceParts). take i pieces ++ p ∷ []) (sym c.piece-item.is) in
    let refuses : RefusesPiece piece.file piece.first (file piece.file) c.in_err-whole.field-0.0 = c.in_err-whole.ensures.err in
    handed_on c.from_residual.result _ _ c.from_residual.ensures.1
    (inr (take i pieces, piece, begins pieces i piece more, c.loop-piece.invariant.whole, refuses))

pub returns-then-blames_file-clause-ok : goal.returns-then-blames_file-clause-ok
returns-then-blames_file-clause-ok g c =
    let file = g.O.Opener.file c.args.files.now in
    let pieces = c.args.pieces.now in
    let i = c.loop-piece.piece-index in
    let piece = c.piece-item.result in
    let was = c.loop-piece.invariant.whole in
    let below : i < length pieces = omega arith in
    let more : take (i + 1) pieces ≡ take i pieces ++ piece ∷ [] = take_more pieces i piece below ∙ ap (λ (p : PieceParts). take i pieces ++ p ∷ []) (sym c.piece-item.is) in
    let blames : BlamesFile piece.file c.args.fault.now = rw c.file.ensures at (c.blames_file.ensures (search rules)) in
    first_blamed file pieces i piece was.0 c.args.fault.now more was.1 blames c.requires

pub returns-clause-ok : goal.returns-clause-ok
returns-clause-ok g c =
    let file = g.O.Opener.file c.args.files.now in
    let pieces = c.args.pieces.now in
    let was = c.loop-piece.invariant.whole in
    let end : c.loop-piece.piece-index ≡ length pieces = omega arith in
    let all : take c.loop-piece.piece-index pieces ≡ pieces = ap (λ (n : ℕ). take n pieces) end ∙ take-length pieces in
    first_of_whole file pieces was.0 c.args.fault.now (subst (λ (ps : List PieceParts). IsKnown file ps was.0) all was.1) c.requires
