use Rattle.std.proofs.Common.{[], List, arith, subst, sym}
use Rattle.std.proofs.lemmas.List.{take_all}
use Rattle.mpi_model.specs.declared.message.Message.{Message}
use Rattle.mpi_model.specs.declared.message.Receive.{Receive}
use Rattle.trace_ops.specs.Ops.{Ops, AreOwn}
use Rattle.trace_pair.specs.After.{comes_after}
use Rattle.trace_pair.specs.Calls.{ArePostedApart, between, IsPosting}
use Rattle.trace_pair.specs.Settled.{Settles}
use Rattle.trace_pair.specs.Table.{sends_of, receives_of}
use Rattle.trace_pair.proofs.Settling.{ranks_next}
use Rattle.trace_pair.proofs.batch.batch_of.Goals as goal

pub all_waiting-requires : goal.all_waiting-requires
all_waiting-requires c = subst (λ (os : List Ops). AreOwn 0 os) (sym c.ops-ops.ensures) c.requires

pub loop-own-preserved : goal.loop-own-preserved
loop-own-preserved c =
    let own = c.receives.result.now in
    let law = subst
    (λ (os : List Ops). (ms : List Message) (before : List Receive) → IsPosting before [] own → ArePostedApart (between before own []) → Settles (comes_after os) ms (between before [] []) c.loop-own.batch → Settles (comes_after os) ms (between before own []) c.add_receives.new.batch)
    (sym c.ops-ops.ensures) c.in_ok-add_receives.ensures in
    ranks_next c.ops-ops.result.now c.loop-own.own-index c.own-item.result own c.loop-own.batch c.add_receives.new.batch c.loop-own-test.true (subst (λ (os : List Ops). AreOwn 0 os) (sym c.ops-ops.ensures) c.requires) c.own-item.is c.receives.ensures law
    c.loop-own.invariant

pub returns : goal.returns
returns c =
    let os = c.ops-ops.result.now in
    subst (λ (r : List Ops). Settles (comes_after r) (sends_of r) (receives_of r) c.loop-own.batch) c.ops-ops.ensures
    (subst (λ (l : List Ops). Settles (comes_after os) (sends_of os) (receives_of l) c.loop-own.batch) (take_all c.loop-own.own-index os (omega arith)) c.loop-own.invariant)
