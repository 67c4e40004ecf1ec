-- The functions whose calls are read in place, by their names.
use Rattle.std.proofs.Common.{◌≡◌, codes, refl}
use Rattle.mpi_model.specs.Kinds.{all_kinds, row}
use Rattle.mpi_model.specs.declared.envelope.Mode.TheVariants as modes
use Rattle.mpi_model.specs.declared.kind.Kind.TheVariants as kinds
use Rattle.dumpi_calls.specs.Rows.{collective_named, function_named}
use Rattle.dumpi_calls.specs.declared.function.Function.TheVariants as functions

pub named_send : function_named (codes "MPI_Send") ≡ functions.Send modes.Standard
unfolding function_named
named_send = refl

pub named_ssend : function_named (codes "MPI_Ssend") ≡ functions.Send modes.Synchronous
unfolding function_named
named_ssend = refl

pub named_isend : function_named (codes "MPI_Isend") ≡ functions.Isend modes.Standard
unfolding function_named
named_isend = refl

pub named_issend : function_named (codes "MPI_Issend") ≡ functions.Isend modes.Synchronous
unfolding function_named
named_issend = refl

pub named_recv : function_named (codes "MPI_Recv") ≡ functions.Recv
unfolding function_named
named_recv = refl

pub named_irecv : function_named (codes "MPI_Irecv") ≡ functions.Irecv
unfolding function_named
named_irecv = refl

pub named_wait : function_named (codes "MPI_Wait") ≡ functions.Wait
unfolding function_named
named_wait = refl

pub named_waitall : function_named (codes "MPI_Waitall") ≡ functions.Waitall
unfolding function_named
named_waitall = refl

pub named_barrier : function_named (codes "MPI_Barrier") ≡ functions.Collective kinds.Barrier
unfolding function_named collective_named all_kinds row
named_barrier = refl

pub named_bcast : function_named (codes "MPI_Bcast") ≡ functions.Collective kinds.Bcast
unfolding function_named collective_named all_kinds row
named_bcast = refl

pub named_allreduce : function_named (codes "MPI_Allreduce") ≡ functions.Collective kinds.Allreduce
unfolding function_named collective_named all_kinds row
named_allreduce = refl

pub named_allgather : function_named (codes "MPI_Allgather") ≡ functions.Collective kinds.Allgather
unfolding function_named collective_named all_kinds row
named_allgather = refl

pub named_alltoall : function_named (codes "MPI_Alltoall") ≡ functions.Collective kinds.Alltoall
unfolding function_named collective_named all_kinds row
named_alltoall = refl

pub named_scatter : function_named (codes "MPI_Scatter") ≡ functions.Collective kinds.Scatter
unfolding function_named collective_named all_kinds row
named_scatter = refl

pub named_gather : function_named (codes "MPI_Gather") ≡ functions.Collective kinds.Gather
unfolding function_named collective_named all_kinds row
named_gather = refl

pub named_reduce : function_named (codes "MPI_Reduce") ≡ functions.Collective kinds.Reduce
unfolding function_named collective_named all_kinds row
named_reduce = refl
