-- What a call names.
use Rattle.std.specs.Prelude.{Option, Some, None}
use Rattle.mpi_model.specs.declared.envelope.CommRef.{CommRef}
use Rattle.mpi_model.specs.declared.call.Call.{Call}
use Rattle.mpi_model.specs.declared.call.Call.TheVariants as calls
use Rattle.mpi_model.specs.declared.object.Object.{Object}
use Rattle.mpi_model.specs.declared.object.Object.TheVariants.{Communicator}
use Rattle.mpi_model.specs.Kinds.{row}

-- The object that a call names, where it names one: a communicator, or the window or file of a collective call. Both
-- sides of a Sendrecv name one (MPI 4.0, 3.10). A start names none: that of its init says where it takes part.
abbrev pub comm_of : Call → Option CommRef
comm_of (calls.Send mode e) = Some e.comm
comm_of (calls.Isend mode e) = Some e.comm
comm_of (calls.Recv e) = Some e.comm
comm_of (calls.Irecv e) = Some e.comm
comm_of (calls.Sendrecv x) = Some x.send.comm
comm_of (calls.Collective c) = Some c.comm
comm_of (calls.Icollective c) = Some c.comm
comm_of (calls.Probe e) = Some e.comm
comm_of (calls.SendInit mode e) = Some e.comm
comm_of (calls.RecvInit e) = Some e.comm
comm_of (calls.Mprobe e) = Some e.comm
comm_of (calls.Improbe e) = Some e.comm
comm_of (calls.Iprobe e) = Some e.comm
comm_of calls.Local = None
comm_of calls.Finalize = None
comm_of (calls.Wait request) = None
comm_of (calls.Waitall requests) = None
comm_of (calls.Waitany requests) = None
comm_of (calls.Waitsome requests) = None
comm_of (calls.Test request) = None
comm_of (calls.Testall requests) = None
comm_of (calls.Testany requests) = None
comm_of (calls.Testsome requests) = None
comm_of (calls.Cancel request) = None
comm_of (calls.Free request) = None
comm_of (calls.Start request) = None
comm_of (calls.Startall requests) = None
comm_of calls.Imrecv = None
comm_of calls.Unread = None

-- the sort of the object that a call names
abbrev pub object_of : Call → Object
object_of (calls.Collective c) = (row c.kind).object
object_of (calls.Icollective c) = (row c.kind).object
object_of _ = Communicator
