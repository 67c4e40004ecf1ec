use Rattle.std.proofs.Common.{List, subst, sym}
use Rattle.trace_ops.specs.Ops.{Ops, AreOwn}
use Rattle.trace_pair.proofs.Ranked.{own_moved}
use Rattle.trace_pair.proofs.index.set_ops.Goals as goal

pub returns-in_default-clause-own : goal.returns-in_default-clause-own
returns-in_default-clause-own c = subst (λ (h : List Ops). AreOwn 0 h) (sym c.put_ops.ensures) (own_moved c.args.held.now.items c.args.rank c.args.ops c.requires.held c.requires.own)

pub returns-clause-own : goal.returns-clause-own
returns-clause-own c = subst (λ (h : List Ops). AreOwn 0 h) (sym c.in_ok-state-2.ensures.held) (own_moved c.args.held.now.items c.args.rank c.args.ops c.requires.held c.requires.own)
