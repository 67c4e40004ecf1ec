use Rattle.std.proofs.Common.{◌≡◌, ap, sym, subst, ◌∙◌}
use Rattle.std.proofs.lemmas.Result.{err_from_is_err_and}
use Rattle.mpi_model.specs.Layouts.{Parts}
use Rattle.trace_node.specs.Node.{Held, IsWithin}
use Rattle.trace_know.specs.View.{join}
use Rattle.trace_cluster.specs.Meeting.{IsMore}
use Rattle.trace_cluster.proofs.Lists.{given, given_not}
use Rattle.trace_cluster.proofs.Owning.{knows_own}
use Rattle.trace_cluster.proofs.Stopping.{stopped, unmet, untold}
use Rattle.trace_cluster.proofs.nodes.cluster.Goals as goal

pub returns-in_err-nodes-clause-err : goal.returns-in_err-nodes-clause-err
returns-in_err-nodes-clause-err g c =
    let p = err_from_is_err_and c.from_residual-in_err-nodes.result c.from_residual-in_err-nodes.ensures.1 in
    rw (p.1, p.2) (stopped c.args.layout.now c.args.first.now c.args.second.now _ _ c.in_err-nodes.field-0.0 c.in_ok-one.ensures c.in_ok-other.ensures c.in_err-nodes.ensures.err)

pub both_told-requires-clause-one : goal.both_told-requires-clause-one
both_told-requires-clause-one g c =
    let is = ap (λ (node : Held). node.layout) c.in_ok-nodes.ensures.nodes.0 ∙ c.in_ok-one.ensures.layout_is in
    subst (λ (layout : Parts). IsWithin layout c.args.first.now.known) (sym is) c.requires.first

pub both_told-requires-clause-other : goal.both_told-requires-clause-other
both_told-requires-clause-other g c =
    let is = ap (λ (node : Held). node.layout) c.in_ok-nodes.ensures.nodes.1 ∙ c.in_ok-other.ensures.layout_is in
    subst (λ (layout : Parts). IsWithin layout c.args.second.now.known) (sym is) c.requires.second

pub returns-in_err-leader-clause-err : goal.returns-in_err-leader-clause-err
returns-in_err-leader-clause-err g c =
    let p = err_from_is_err_and c.from_residual-in_err-leader.result c.from_residual-in_err-leader.ensures.1 in
    rw (p.1, p.2) (untold c.args.layout.now c.args.first.now c.args.second.now _ _ c.in_err-leader.field-0.0 c.in_ok-one.ensures c.in_ok-other.ensures c.in_ok-nodes.ensures.clean c.in_err-leader.ensures.err)

pub returns-clause-ok : goal.returns-clause-ok
returns-clause-ok g c =
    let laws = c.join_laws.ensures in
    let clean = c.in_ok-nodes.ensures.clean in
    let nodes = c.in_ok-nodes.ensures.nodes in
    let one = c.in_ok-leader.ensures.leader in
    let other = c.in_ok-leader.ensures.follower in
    let own = knows_own laws.associative laws.unit laws.above_one laws.above_other laws.least laws.below c.view_laws.ensures.union c.args.layout.now in
    given c.exchange.result c.exchange.ensures.ok
    (λ met more. (
      own c.args.first.now _ _ met.0 c.in_ok-one.ensures clean.0.0 clean.1 (subst (λ (node : Held). IsMore node c.in_ok-leader.leader) nodes.0 one.0)
          (subst (λ (node : Held). c.in_ok-leader.leader.know ≡ join node.know c.args.first.now.known) nodes.0 one.1) more.0,
      own c.args.second.now _ _ met.1 c.in_ok-other.ensures clean.0.1 clean.2 (subst (λ (node : Held). IsMore node c.in_ok-leader.follower) nodes.1 other.0)
          (subst (λ (node : Held). c.in_ok-leader.follower.know ≡ join node.know c.args.second.now.known) nodes.1 other.1) more.1,
    ))

pub returns-clause-err : goal.returns-clause-err
returns-clause-err g c =
    given_not c.exchange.result c.exchange.ensures.err
    (λ fault of. unmet c.args.layout.now c.args.first.now c.args.second.now _ _ fault c.in_ok-one.ensures c.in_ok-other.ensures c.in_ok-nodes.ensures.clean of)
