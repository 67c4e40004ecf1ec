-- Calls by their function and communicator alone.
use Rattle.std.specs.Prelude.{ℕ, true, false, List, codes}
use Rattle.mpi_model.specs.declared.call.Call.{Call}
use Rattle.mpi_model.specs.declared.call.Call.TheVariants as calls
use Rattle.mpi_model.specs.Kinds.{row}
use Rattle.call_words.specs.Words.{collective_name, immediate_name, init_name, on_object_text, on_text, send_name}

-- `MPI_Send on communicator 5`, or `MPI_Waitall`
abbrev pub function_text : Call → List ℕ
function_text calls.Local = codes "a call of no other rank"
function_text calls.Finalize = codes "MPI_Finalize"
function_text (calls.Send mode e) = on_text (send_name mode) e.comm
function_text (calls.Isend mode e) = on_text (immediate_name mode) e.comm
function_text (calls.Recv e) = on_text (codes "MPI_Recv") e.comm
function_text (calls.Irecv e) = on_text (codes "MPI_Irecv") e.comm
function_text (calls.Sendrecv x) = on_text (codes "MPI_Sendrecv") x.send.comm
function_text (calls.Wait request) = codes "MPI_Wait"
function_text (calls.Waitall requests) = codes "MPI_Waitall"
function_text (calls.Waitany requests) = codes "MPI_Waitany"
function_text (calls.Waitsome requests) = codes "MPI_Waitsome"
function_text (calls.Test request) = codes "MPI_Test"
function_text (calls.Testall requests) = codes "MPI_Testall"
function_text (calls.Testany requests) = codes "MPI_Testany"
function_text (calls.Testsome requests) = codes "MPI_Testsome"
function_text (calls.Cancel request) = codes "MPI_Cancel"
function_text (calls.Free request) = codes "MPI_Request_free"
function_text (calls.Collective c) = on_object_text (collective_name false c.kind) (row c.kind).object c.comm
function_text (calls.Icollective c) = on_object_text (collective_name true c.kind) (row c.kind).object c.comm
function_text (calls.Probe e) = on_text (codes "MPI_Probe") e.comm
function_text (calls.SendInit mode e) = on_text (init_name mode) e.comm
function_text (calls.RecvInit e) = on_text (codes "MPI_Recv_init") e.comm
function_text (calls.Start request) = codes "MPI_Start"
function_text (calls.Startall requests) = codes "MPI_Startall"
function_text (calls.Mprobe e) = on_text (codes "MPI_Mprobe") e.comm
function_text (calls.Improbe e) = on_text (codes "MPI_Improbe") e.comm
function_text (calls.Iprobe e) = on_text (codes "MPI_Iprobe") e.comm
function_text calls.Imrecv = codes "MPI_Imrecv"
function_text calls.Unread = codes "a call that is not read"
