use Rattle.std.proofs.Common.{refl, arith, ◌≡◌, ◌∙◌, ◌+◌, ◌<◌, ◌++◌, ◌∷◌, [], ℕ, List, ap, sym, subst, inr, length, take, drop}
use Rattle.std.proofs.Math.Seq.{take-length}
use Rattle.std.proofs.lemmas.List.{take_more}
use Rattle.std.specs.FinMap.{empty}
use Rattle.trace_know.specs.View.{View, join}
use Rattle.trace_wire.specs.Packed.{IsOfRanks, Unpacks}
use Rattle.run_files.specs.Manifests.{PackedParts}
use Rattle.command_runs.specs.Packed.{RefusesPackedFile, TellPacked}
use Rattle.command_runs.specs.Shares.{TellShares, so_far, told_to}
use Rattle.command_runs.proofs.PackedShares.{Takes, all_of, none_shared, shares_are, shares_more, shares_same}
use Rattle.command_runs.proofs.Unpacking.{cut_at, packed_more, packed_untold}
use Rattle.command_runs.proofs.Within.{within_nothing}
use Rattle.command_runs.proofs.Runs.{handed_on}
use Rattle.command_runs.proofs.pieces.shares.shares_of.Goals as goal

pub loop-piece-init : goal.loop-piece-init
loop-piece-init g c = record {
  shares = none_shared (g.O.Opener.file c.args.run.now.files.now) c.args.run.now.layout.now.ranks (so_far c.new-told.result) c.new-told.ensures;
  together = (empty, refl);
  of = λ node. within_nothing c.args.run.now.layout.now _ (c.new-told.ensures node);
}

pub loop-piece-preserved : goal.loop-piece-preserved
loop-piece-preserved g c =
    let file = g.O.Opener.file c.args.run.now.files.now in
    let laws = c.join_laws.ensures in
    let ranks = c.args.run.now.layout.now.ranks in
    let front = take c.loop-piece.piece-index c.args.packed.now in
    let piece = c.piece-item.result in
    let own = c.in_ok-know.know in
    let below : c.loop-piece.piece-index < length c.args.packed.now = omega arith in
    let more : take (c.loop-piece.piece-index + 1) c.args.packed.now ≡ take c.loop-piece.piece-index c.args.packed.now ++ c.piece-item.result ∷ [] =
    take_more c.args.packed.now c.loop-piece.piece-index c.piece-item.result below
    ∙ ap (λ (p : PackedParts). take c.loop-piece.piece-index c.args.packed.now ++ p ∷ []) (sym c.piece-item.is) in
    let tells : Unpacks ranks (file piece.file) own = rw c.file.ensures at c.in_ok-know.ensures.ok in
    let takes : Takes piece own (so_far c.loop-piece.told) (so_far c.in_ok-told.told) = rw (c.side_of.ensures, c.node.ensures) at c.in_ok-told.ensures in
    let before = c.loop-piece.invariant.together in
    record {
      shares = shares_more laws.associative laws.commutative file ranks front (take (c.loop-piece.piece-index + 1) c.args.packed.now) piece
          (so_far c.loop-piece.told) (so_far c.in_ok-told.told) own more c.loop-piece.invariant.shares tells takes;
      together = (
        join before.0 own,
        subst (λ (ps : List PackedParts). TellPacked file ranks ps (join before.0 own)) (sym more)
            (packed_more laws.associative laws.commutative file ranks front piece before.0 own (join before.0 own) before.1 tells refl),
      );
      of = all_of laws.cells ranks piece (so_far c.loop-piece.told) (so_far c.in_ok-told.told) own c.loop-piece.invariant.of c.in_ok-know.ensures.of takes;
    }

pub returns-in_err-know-clause-err : goal.returns-in_err-know-clause-err
returns-in_err-know-clause-err g c =
    let file = g.O.Opener.file c.args.run.now.files.now in
    let below : c.loop-piece.piece-index < length c.args.packed.now = omega arith in
    let more : take (c.loop-piece.piece-index + 1) c.args.packed.now ≡ take c.loop-piece.piece-index c.args.packed.now ++ c.piece-item.result ∷ [] =
    take_more c.args.packed.now c.loop-piece.piece-index c.piece-item.result below
    ∙ ap (λ (p : PackedParts). take c.loop-piece.piece-index c.args.packed.now ++ p ∷ []) (sym c.piece-item.is) in
    let refuses : RefusesPackedFile c.piece-item.result.file c.args.run.now.layout.now.ranks (file c.piece-item.result.file) c.in_err-know.field-0.0 =
    rw c.file.ensures at c.in_err-know.ensures.err in
    handed_on c.from_residual.result _ _ c.from_residual.ensures.1 (inr (
      take c.loop-piece.piece-index c.args.packed.now,
      c.piece-item.result,
      drop (c.loop-piece.piece-index + 1) c.args.packed.now,
      cut_at c.args.packed.now c.loop-piece.piece-index c.piece-item.result more,
      c.loop-piece.invariant.together,
      refuses,
    ))

pub returns-in_err-know-clause-failed : goal.returns-in_err-know-clause-failed
returns-in_err-know-clause-failed g c = handed_on c.from_residual.result _ _ c.from_residual.ensures.1 (packed_untold _ _ _ c.args.run.now.layout.now.ranks c.in_err-know.field-0.0 c.in_err-know.ensures.err)

pub returns-clause-ok : goal.returns-clause-ok
returns-clause-ok g c =
    let file = g.O.Opener.file c.args.run.now.files.now in
    let end : c.loop-piece.piece-index ≡ length c.args.packed.now = omega arith in
    let all : take c.loop-piece.piece-index c.args.packed.now ≡ c.args.packed.now =
    ap (λ (n : ℕ). take n c.args.packed.now) end ∙ take-length c.args.packed.now in
    shares_same file c.args.run.now.layout.now.ranks c.args.packed.now (so_far c.loop-piece.told) (told_to c.in_ok-shares.shares)
    (shares_are c.loop-piece.told c.in_ok-shares.shares c.in_ok-shares.ensures.first c.in_ok-shares.ensures.second)
    (subst (λ (ps : List PackedParts). TellShares file c.args.run.now.layout.now.ranks ps (so_far c.loop-piece.told)) all c.loop-piece.invariant.shares)

pub returns-clause-within : goal.returns-clause-within
returns-clause-within g c node =
    subst (λ (v : View). IsOfRanks c.args.run.now.layout.now.ranks v)
    (sym (shares_are c.loop-piece.told c.in_ok-shares.shares c.in_ok-shares.ensures.first c.in_ok-shares.ensures.second node)) (c.loop-piece.invariant.of node)

pub returns-clause-together : goal.returns-clause-together
returns-clause-together g c =
    let file = g.O.Opener.file c.args.run.now.files.now in
    let end : c.loop-piece.piece-index ≡ length c.args.packed.now = omega arith in
    let all : take c.loop-piece.piece-index c.args.packed.now ≡ c.args.packed.now =
    ap (λ (n : ℕ). take n c.args.packed.now) end ∙ take-length c.args.packed.now in
    let told = c.loop-piece.invariant.together in
    (told.0, subst (λ (ps : List PackedParts). TellPacked file c.args.run.now.layout.now.ranks ps told.0) all told.1)
