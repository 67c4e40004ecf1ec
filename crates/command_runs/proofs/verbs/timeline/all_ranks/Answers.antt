use Rattle.std.proofs.Common.{◌≡◌, ℕ, arith, inl, subst}
use Rattle.command_runs.specs.Tables.{HoldsRanks}
use Rattle.command_runs.proofs.OwnOps.{none_yet}
use Rattle.command_runs.proofs.Runs.{handed_on}
use Rattle.command_runs.proofs.verbs.timeline.all_ranks.Goals as goal

pub loop-rank-init : goal.loop-rank-init
loop-rank-init g c = none_yet _ c.new-ops.ensures.items

pub returns-in_err-more-clause-err : goal.returns-in_err-more-clause-err
returns-in_err-more-clause-err g c = handed_on c.from_residual-in_err-more.result _ _ c.from_residual-in_err-more.ensures.1 (inl c.in_err-more.ensures.err)

pub returns-clause-ok : goal.returns-clause-ok
returns-clause-ok g c =
    let end : c.loop-rank.rank ≡ c.args.run.now.layout.now.ranks = omega (arith, c.ranks-rank-end.ensures) in
    subst (λ (n : ℕ). HoldsRanks n c.loop-rank.ops.items) end c.loop-rank.invariant
