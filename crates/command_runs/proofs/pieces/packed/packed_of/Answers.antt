use Rattle.std.proofs.Common.{arith, ◌≡◌, ◌∙◌, ◌+◌, ◌<◌, ◌++◌, ◌∷◌, [], ℕ, List, ap, sym, subst, inr, length, take, drop}
use Rattle.std.proofs.Math.Seq.{take-length}
use Rattle.std.proofs.lemmas.List.{take_more}
use Rattle.trace_know.specs.View.{View}
use Rattle.trace_wire.specs.Packed.{IsOfRanks, Unpacks}
use Rattle.run_files.specs.Manifests.{PackedParts}
use Rattle.command_runs.specs.Packed.{RefusesPackedFile, TellPacked}
use Rattle.command_runs.proofs.Unpacking.{cut_at, of_both, packed_more, packed_untold}
use Rattle.command_runs.proofs.Within.{within_nothing}
use Rattle.command_runs.proofs.Runs.{handed_on}
use Rattle.command_runs.proofs.pieces.packed.packed_of.Goals as goal

pub loop-piece-init : goal.loop-piece-init
loop-piece-init g c = record {
  known = c.new-all.ensures;
  of = within_nothing c.args.run.now.layout.now _ c.new-all.ensures;
}

pub loop-piece-preserved : goal.loop-piece-preserved
loop-piece-preserved g c =
    let file = g.O.Opener.file c.args.run.now.files.now in
    let laws = c.join_laws.ensures in
    let below : c.loop-piece.piece-index < length c.args.packed.now = omega arith in
    let more : take (c.loop-piece.piece-index + 1) c.args.packed.now ≡ take c.loop-piece.piece-index c.args.packed.now ++ c.piece-item.result ∷ [] =
    take_more c.args.packed.now c.loop-piece.piece-index c.piece-item.result below
    ∙ ap (λ (p : PackedParts). take c.loop-piece.piece-index c.args.packed.now ++ p ∷ []) (sym c.piece-item.is) in
    let tells : Unpacks c.args.run.now.layout.now.ranks (file c.piece-item.result.file) c.in_ok-know.know = rw c.file.ensures at c.in_ok-know.ensures.ok in
    record {
      known = subst (λ (ps : List PackedParts). TellPacked file c.args.run.now.layout.now.ranks ps c.in_ok-all.all) (sym more)
          (packed_more laws.associative laws.commutative file c.args.run.now.layout.now.ranks (take c.loop-piece.piece-index c.args.packed.now) c.piece-item.result
          c.loop-piece.all c.in_ok-know.know c.in_ok-all.all c.loop-piece.invariant.known tells c.in_ok-all.ensures);
      of = subst (λ (v : View). IsOfRanks c.args.run.now.layout.now.ranks v) (sym c.in_ok-all.ensures)
          (of_both laws.cells c.args.run.now.layout.now.ranks c.loop-piece.all c.in_ok-know.know c.loop-piece.invariant.of c.in_ok-know.ensures.of);
    }

pub returns-in_err-know-clause-err : goal.returns-in_err-know-clause-err
returns-in_err-know-clause-err g c =
    let file = g.O.Opener.file c.args.run.now.files.now in
    let below : c.loop-piece.piece-index < length c.args.packed.now = omega arith in
    let more : take (c.loop-piece.piece-index + 1) c.args.packed.now ≡ take c.loop-piece.piece-index c.args.packed.now ++ c.piece-item.result ∷ [] =
    take_more c.args.packed.now c.loop-piece.piece-index c.piece-item.result below
    ∙ ap (λ (p : PackedParts). take c.loop-piece.piece-index c.args.packed.now ++ p ∷ []) (sym c.piece-item.is) in
    let refuses : RefusesPackedFile c.piece-item.result.file c.args.run.now.layout.now.ranks (file c.piece-item.result.file) c.in_err-know.field-0.0 =
    rw c.file.ensures at c.in_err-know.ensures.err in
    handed_on c.from_residual.result _ _ c.from_residual.ensures.1 (inr (
      take c.loop-piece.piece-index c.args.packed.now,
      c.piece-item.result,
      drop (c.loop-piece.piece-index + 1) c.args.packed.now,
      cut_at c.args.packed.now c.loop-piece.piece-index c.piece-item.result more,
      (c.loop-piece.all, c.loop-piece.invariant.known),
      refuses,
    ))

pub returns-in_err-know-clause-failed : goal.returns-in_err-know-clause-failed
returns-in_err-know-clause-failed g c = handed_on c.from_residual.result _ _ c.from_residual.ensures.1 (packed_untold _ _ _ c.args.run.now.layout.now.ranks c.in_err-know.field-0.0 c.in_err-know.ensures.err)

pub returns-clause-ok : goal.returns-clause-ok
returns-clause-ok g c =
    let file = g.O.Opener.file c.args.run.now.files.now in
    let end : c.loop-piece.piece-index ≡ length c.args.packed.now = omega arith in
    let all : take c.loop-piece.piece-index c.args.packed.now ≡ c.args.packed.now =
    ap (λ (n : ℕ). take n c.args.packed.now) end ∙ take-length c.args.packed.now in
    subst (λ (v : View). TellPacked file c.args.run.now.layout.now.ranks c.args.packed.now v) (sym c.in_ok-into_knowledge.ensures)
    (subst (λ (ps : List PackedParts). TellPacked file c.args.run.now.layout.now.ranks ps c.loop-piece.all) all c.loop-piece.invariant.known)

pub returns-clause-within : goal.returns-clause-within
returns-clause-within g c = subst (λ (v : View). IsOfRanks c.args.run.now.layout.now.ranks v) (sym c.in_ok-into_knowledge.ensures) c.loop-piece.invariant.of
