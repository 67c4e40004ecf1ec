-- The values that events can have. An `i64` has the range of its type.
use Rattle.std.specs.Prelude.{◌<◌, ◌^◌, ℕ, ℤ, Option, IfSome, FitsSigned, All}
use Rattle.std.specs.Int.{w64}
use Rattle.std.specs.Ordering.{nat_cmp, ordering_then}
use Rattle.std.specs.declared.cmp.Ordering.{Ordering}
use Rattle.mpi_model.specs.Times.{IsTimes}
use Rattle.mpi_model.specs.Ranges.{IsTold, IsSend, IsReceive, IsProbe, IsCollective, IsIcollective, BothEnvelopes, IsExchange}
use Rattle.mpi_model.specs.declared.envelope.Envelope.{Envelope}
use Rattle.mpi_model.specs.declared.call.Call.{Call}
use Rattle.mpi_model.specs.declared.call.Call.TheVariants as calls
use Rattle.mpi_model.specs.declared.outcome.Outs.{Outs}
use Rattle.mpi_model.specs.declared.outcome.Outs.TheVariants as outs
use Rattle.mpi_model.specs.declared.list.elements.Element.{Element}
use Rattle.mpi_model.specs.declared.event.Event.{Event}
use Rattle.mpi_model.specs.declared.event.OpName.{OpName}
use Rattle.mpi_model.specs.declared.event.Event.TheVariants as events

-- a number of a request or a datatype
abbrev pub IsSigned : ℤ → Type 0
IsSigned z = FitsSigned w64 z

-- the envelope of a send call, its datatype included
abbrev pub IsSent : Envelope → Type 0
IsSent e = IsSend e × IsSigned e.datatype

-- the envelope of a receive call, its datatype included
abbrev pub IsReceived : Envelope → Type 0
IsReceived e = IsReceive e × IsSigned e.datatype

-- the envelopes of a Sendrecv, their datatypes included
abbrev pub IsExchanged : BothEnvelopes → Type 0
IsExchanged b = IsExchange b × IsSigned b.send.datatype × IsSigned b.receive.datatype

-- Every value of the call lies in its range.
abbrev pub IsCall : Call → Type 0
IsCall calls.Local = Unit {0}
IsCall calls.Finalize = Unit {0}
IsCall (calls.Send mode e) = IsSent e
IsCall (calls.Isend mode e) = IsSent e
IsCall (calls.Recv e) = IsReceived e
IsCall (calls.Irecv e) = IsReceived e
IsCall (calls.Sendrecv b) = IsExchanged b
IsCall (calls.Wait request) = IsSigned request
IsCall (calls.Waitall requests) = All IsSigned requests
IsCall (calls.Waitany requests) = All IsSigned requests
IsCall (calls.Waitsome requests) = All IsSigned requests
IsCall (calls.Test request) = IsSigned request
IsCall (calls.Testall requests) = All IsSigned requests
IsCall (calls.Testany requests) = All IsSigned requests
IsCall (calls.Testsome requests) = All IsSigned requests
IsCall (calls.Cancel request) = IsSigned request
IsCall (calls.Free request) = IsSigned request
IsCall (calls.Collective c) = IsCollective c
IsCall (calls.Icollective c) = IsIcollective c
IsCall (calls.Probe e) = IsProbe e
IsCall (calls.SendInit mode e) = IsSent e
IsCall (calls.RecvInit e) = IsReceived e
IsCall (calls.Start request) = IsSigned request
IsCall (calls.Startall requests) = All IsSigned requests
IsCall (calls.Mprobe e) = IsProbe e
IsCall (calls.Improbe e) = IsProbe e
IsCall (calls.Iprobe e) = IsProbe e
IsCall calls.Imrecv = Unit {0}
IsCall calls.Unread = Unit {0}

-- a position in a call's list, where there is one
abbrev pub IsPosition : Option ℕ → Type 0
IsPosition position = IfSome position (λ n. n < 2 ^ 32)

-- a request that was completed
abbrev pub IsElement : Element → Type 0
IsElement e = (e.position < 2 ^ 32) × IsTold e.told

-- Every value of the outcome lies in its range.
abbrev pub IsOutcome : Outs → Type 0
IsOutcome outs.Nothing = Unit {0}
IsOutcome (outs.Posted request) = IsSigned request
IsOutcome (outs.Status told) = IsTold told
IsOutcome (outs.Statuses sources) = All IsTold sources
IsOutcome (outs.Index position told) = IsPosition position × IsTold told
IsOutcome (outs.Several elements) = All IsElement elements
IsOutcome (outs.Flag done told) = IsTold told

-- Every value of the event lies in its range.
abbrev pub IsEvent : Event → Type 0
IsEvent (events.Enter call time) = IsCall call × IsTimes time
IsEvent (events.Return found time) = IsOutcome found × IsTimes time

-- operations by their ranks, then by their calls, and then by their parts
abbrev pub name_cmp : OpName → OpName → Ordering
name_cmp a b = ordering_then (nat_cmp a.rank b.rank) (ordering_then (nat_cmp a.call b.call) (nat_cmp a.part b.part))
