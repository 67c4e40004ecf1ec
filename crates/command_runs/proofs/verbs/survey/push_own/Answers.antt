use Rattle.std.proofs.Common.{◌+◌, List, subst, sym}
use Rattle.trace_ops.specs.Ops.{IsOwn, Ops}
use Rattle.command_runs.specs.Tables.{HoldsRanks}
use Rattle.command_runs.proofs.OwnOps.{one_more}
use Rattle.command_runs.proofs.verbs.survey.push_own.Goals as goal

pub returns : goal.returns
returns c =
    let own : IsOwn c.args.rank c.in_ok-own.own = subst (λ (o : Ops). IsOwn c.args.rank o) (sym c.in_ok-own.ensures) (c.ops_laws.ensures.own c.args.layout.now c.args.rank _ _) in
    subst (λ (l : List Ops). HoldsRanks (c.args.rank + 1) l) (sym c.in_ok-push.ensures.items) (one_more c.args.rank c.args.ops.now.items c.in_ok-own.own c.requires own)
