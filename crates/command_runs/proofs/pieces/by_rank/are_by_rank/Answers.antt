use Rattle.std.proofs.Common.{◌≤◌, arith, length, refl, subst, List}
use Rattle.std.specs.List.Sorted.{IsNonDecreasingBy}
use Rattle.std.proofs.lemmas.List.{take_all}
use Rattle.run_files.specs.Manifests.{PieceParts}
use Rattle.command_runs.proofs.ByRank.{fallen, rises_on}
use Rattle.command_runs.proofs.pieces.by_rank.are_by_rank.Goals as goal

pub returns-then-rank : goal.returns-then-rank
returns-then-rank c =
    let some = c.loop-i.invariant.some in
    (λ e. absurd (cc e), λ rises. absurd (fallen c.args.pieces.now c.loop-i.i c.index-pieces-i.result c.index-pieces-i-in-loop-i.result some (omega arith) c.index-pieces-i.is c.index-pieces-i-in-loop-i.is (omega arith) rises))

pub loop-i-preserved : goal.loop-i-preserved
loop-i-preserved c = record {
  some = omega arith;
  rise = rises_on c.args.pieces.now c.loop-i.i c.index-pieces-i.result c.index-pieces-i-in-loop-i.result c.loop-i.invariant.some (omega arith) c.index-pieces-i.is c.index-pieces-i-in-loop-i.is (omega arith)
      c.loop-i.invariant.rise;
}

pub returns : goal.returns
returns c =
    let end : length c.args.pieces.now ≤ c.loop-i.i = omega arith in
    (λ e. subst (λ (ps : List PieceParts). IsNonDecreasingBy (λ p. p.rank) ps) (take_all c.loop-i.i c.args.pieces.now end) c.loop-i.invariant.rise, λ rises. refl)
