use Rattle.std.proofs.Common.{List, ◌++◌, take}
use Rattle.mpi_model.specs.declared.message.Message.{Message}
use Rattle.mpi_model.specs.declared.message.Receive.{Receive}
use Rattle.trace_pair.specs.Calls.{AddsReceives, ArePostedApart}
use Rattle.trace_pair.specs.Pairing.{After}
use Rattle.trace_pair.specs.Settled.{Settles, SettlesAmong}
use Rattle.trace_pair.proofs.batch.enter_receives.Given as goal

-- the first receives of the call have come
abbrev pub invariant-loop-q : goal.invariant-loop-q
invariant-loop-q l = (after : After) (ms : List Message) (qs more : List Receive) → AddsReceives qs more l.call → ArePostedApart more → Settles after ms qs l.initial.batch → SettlesAmong after ms more qs (take l.q-index l.call ++ qs) l.batch
