-- The functions that programs call most, by their names.
use Rattle.std.proofs.Common.{◌≡◌, ℕ, List, true, false, codes, refl, sym, ap, ◌∙◌}
use Rattle.std.specs.Str.{bytes_eq}
use Rattle.std.proofs.lemmas.Slice.Eq.{bytes_eq-Decides}
use Rattle.mpi_model.specs.Kinds.{all_kinds, row}
use Rattle.mpi_model.specs.declared.envelope.Mode.TheVariants as modes
use Rattle.mpi_model.specs.declared.kind.Kind.TheVariants as kinds
use Rattle.dumpi_calls.specs.Rows.{collective_named, function_named}
use Rattle.dumpi_calls.specs.declared.function.Function.{Function}
use Rattle.dumpi_calls.specs.declared.function.Function.TheVariants as functions

-- a name that is a known one, byte for byte, names the same function
named_as : (name word : List ℕ) (function : Function) → bytes_eq name word ≡ true → function_named word ≡ function → function ≡ function_named name
named_as name word function same is = sym (ap function_named ((bytes_eq-Decides name word).0 same) ∙ is)

pub send_by : (name : List ℕ) → bytes_eq name (codes "MPI_Send") ≡ true → functions.Send modes.Standard ≡ function_named name
unfolding function_named
send_by name same = named_as name (codes "MPI_Send") (functions.Send modes.Standard) same refl

pub recv_by : (name : List ℕ) → bytes_eq name (codes "MPI_Recv") ≡ true → functions.Recv ≡ function_named name
unfolding function_named
recv_by name same = named_as name (codes "MPI_Recv") (functions.Recv) same refl

pub wait_by : (name : List ℕ) → bytes_eq name (codes "MPI_Wait") ≡ true → functions.Wait ≡ function_named name
unfolding function_named
wait_by name same = named_as name (codes "MPI_Wait") (functions.Wait) same refl

pub test_by : (name : List ℕ) → bytes_eq name (codes "MPI_Test") ≡ true → functions.Test ≡ function_named name
unfolding function_named
test_by name same = named_as name (codes "MPI_Test") (functions.Test) same refl

pub init_by : (name : List ℕ) → bytes_eq name (codes "MPI_Init") ≡ true → functions.Other ≡ function_named name
unfolding function_named collective_named all_kinds row
init_by name same = named_as name (codes "MPI_Init") (functions.Other) same refl

pub pack_by : (name : List ℕ) → bytes_eq name (codes "MPI_Pack") ≡ true → functions.Other ≡ function_named name
unfolding function_named collective_named all_kinds row
pack_by name same = named_as name (codes "MPI_Pack") (functions.Other) same refl

pub isend_by : (name : List ℕ) → bytes_eq name (codes "MPI_Isend") ≡ true → functions.Isend modes.Standard ≡ function_named name
unfolding function_named
isend_by name same = named_as name (codes "MPI_Isend") (functions.Isend modes.Standard) same refl

pub irecv_by : (name : List ℕ) → bytes_eq name (codes "MPI_Irecv") ≡ true → functions.Irecv ≡ function_named name
unfolding function_named
irecv_by name same = named_as name (codes "MPI_Irecv") (functions.Irecv) same refl

pub probe_by : (name : List ℕ) → bytes_eq name (codes "MPI_Probe") ≡ true → functions.Probe ≡ function_named name
unfolding function_named
probe_by name same = named_as name (codes "MPI_Probe") (functions.Probe) same refl

pub bcast_by : (name : List ℕ) → bytes_eq name (codes "MPI_Bcast") ≡ true → functions.Collective kinds.Bcast ≡ function_named name
unfolding function_named collective_named all_kinds row
bcast_by name same = named_as name (codes "MPI_Bcast") (functions.Collective kinds.Bcast) same refl

pub ssend_by : (name : List ℕ) → bytes_eq name (codes "MPI_Ssend") ≡ true → functions.Send modes.Synchronous ≡ function_named name
unfolding function_named
ssend_by name same = named_as name (codes "MPI_Ssend") (functions.Send modes.Synchronous) same refl

pub start_by : (name : List ℕ) → bytes_eq name (codes "MPI_Start") ≡ true → functions.Start ≡ function_named name
unfolding function_named collective_named all_kinds row
start_by name same = named_as name (codes "MPI_Start") (functions.Start) same refl

pub iprobe_by : (name : List ℕ) → bytes_eq name (codes "MPI_Iprobe") ≡ true → functions.Iprobe ≡ function_named name
unfolding function_named
iprobe_by name same = named_as name (codes "MPI_Iprobe") (functions.Iprobe) same refl

pub reduce_by : (name : List ℕ) → bytes_eq name (codes "MPI_Reduce") ≡ true → functions.Collective kinds.Reduce ≡ function_named name
unfolding function_named collective_named all_kinds row
reduce_by name same = named_as name (codes "MPI_Reduce") (functions.Collective kinds.Reduce) same refl

pub unpack_by : (name : List ℕ) → bytes_eq name (codes "MPI_Unpack") ≡ true → functions.Other ≡ function_named name
unfolding function_named collective_named all_kinds row
unpack_by name same = named_as name (codes "MPI_Unpack") (functions.Other) same refl

pub gather_by : (name : List ℕ) → bytes_eq name (codes "MPI_Gather") ≡ true → functions.Collective kinds.Gather ≡ function_named name
unfolding function_named collective_named all_kinds row
gather_by name same = named_as name (codes "MPI_Gather") (functions.Collective kinds.Gather) same refl

pub mprobe_by : (name : List ℕ) → bytes_eq name (codes "MPI_Mprobe") ≡ true → functions.Mprobe ≡ function_named name
unfolding function_named collective_named all_kinds row
mprobe_by name same = named_as name (codes "MPI_Mprobe") (functions.Mprobe) same refl

pub waitall_by : (name : List ℕ) → bytes_eq name (codes "MPI_Waitall") ≡ true → functions.Waitall ≡ function_named name
unfolding function_named
waitall_by name same = named_as name (codes "MPI_Waitall") (functions.Waitall) same refl

pub barrier_by : (name : List ℕ) → bytes_eq name (codes "MPI_Barrier") ≡ true → functions.Collective kinds.Barrier ≡ function_named name
unfolding function_named collective_named all_kinds row
barrier_by name same = named_as name (codes "MPI_Barrier") (functions.Collective kinds.Barrier) same refl

pub testall_by : (name : List ℕ) → bytes_eq name (codes "MPI_Testall") ≡ true → functions.Testall ≡ function_named name
unfolding function_named
testall_by name same = named_as name (codes "MPI_Testall") (functions.Testall) same refl

pub waitany_by : (name : List ℕ) → bytes_eq name (codes "MPI_Waitany") ≡ true → functions.Waitany ≡ function_named name
unfolding function_named
waitany_by name same = named_as name (codes "MPI_Waitany") (functions.Waitany) same refl

pub op_free_by : (name : List ℕ) → bytes_eq name (codes "MPI_Op_free") ≡ true → functions.Other ≡ function_named name
unfolding function_named collective_named all_kinds row
op_free_by name same = named_as name (codes "MPI_Op_free") (functions.Other) same refl

pub gatherv_by : (name : List ℕ) → bytes_eq name (codes "MPI_Gatherv") ≡ true → functions.Collective kinds.Gatherv ≡ function_named name
unfolding function_named collective_named all_kinds row
gatherv_by name same = named_as name (codes "MPI_Gatherv") (functions.Collective kinds.Gatherv) same refl

pub scatter_by : (name : List ℕ) → bytes_eq name (codes "MPI_Scatter") ≡ true → functions.Collective kinds.Scatter ≡ function_named name
unfolding function_named collective_named all_kinds row
scatter_by name same = named_as name (codes "MPI_Scatter") (functions.Collective kinds.Scatter) same refl

pub waitsome_by : (name : List ℕ) → bytes_eq name (codes "MPI_Waitsome") ≡ true → functions.Waitsome ≡ function_named name
unfolding function_named
waitsome_by name same = named_as name (codes "MPI_Waitsome") (functions.Waitsome) same refl

pub testsome_by : (name : List ℕ) → bytes_eq name (codes "MPI_Testsome") ≡ true → functions.Testsome ≡ function_named name
unfolding function_named
testsome_by name same = named_as name (codes "MPI_Testsome") (functions.Testsome) same refl

pub sendrecv_by : (name : List ℕ) → bytes_eq name (codes "MPI_Sendrecv") ≡ true → functions.Sendrecv ≡ function_named name
unfolding function_named
sendrecv_by name same = named_as name (codes "MPI_Sendrecv") (functions.Sendrecv) same refl

pub alltoall_by : (name : List ℕ) → bytes_eq name (codes "MPI_Alltoall") ≡ true → functions.Collective kinds.Alltoall ≡ function_named name
unfolding function_named collective_named all_kinds row
alltoall_by name same = named_as name (codes "MPI_Alltoall") (functions.Collective kinds.Alltoall) same refl

pub scatterv_by : (name : List ℕ) → bytes_eq name (codes "MPI_Scatterv") ≡ true → functions.Collective kinds.Scatterv ≡ function_named name
unfolding function_named collective_named all_kinds row
scatterv_by name same = named_as name (codes "MPI_Scatterv") (functions.Collective kinds.Scatterv) same refl

pub comm_dup_by : (name : List ℕ) → bytes_eq name (codes "MPI_Comm_dup") ≡ true → functions.OnObject kinds.CommDup false ≡ function_named name
unfolding function_named collective_named all_kinds row
comm_dup_by name same = named_as name (codes "MPI_Comm_dup") (functions.OnObject kinds.CommDup false) same refl

pub cart_sub_by : (name : List ℕ) → bytes_eq name (codes "MPI_Cart_sub") ≡ true → functions.OnObject kinds.CartSub false ≡ function_named name
unfolding function_named collective_named all_kinds row
cart_sub_by name same = named_as name (codes "MPI_Cart_sub") (functions.OnObject kinds.CartSub false) same refl

pub startall_by : (name : List ℕ) → bytes_eq name (codes "MPI_Startall") ≡ true → functions.Startall ≡ function_named name
unfolding function_named collective_named all_kinds row
startall_by name same = named_as name (codes "MPI_Startall") (functions.Startall) same refl

pub comm_rank_by : (name : List ℕ) → bytes_eq name (codes "MPI_Comm_rank") ≡ true → functions.Other ≡ function_named name
unfolding function_named collective_named all_kinds row
comm_rank_by name same = named_as name (codes "MPI_Comm_rank") (functions.Other) same refl

pub comm_size_by : (name : List ℕ) → bytes_eq name (codes "MPI_Comm_size") ≡ true → functions.Other ≡ function_named name
unfolding function_named collective_named all_kinds row
comm_size_by name same = named_as name (codes "MPI_Comm_size") (functions.Other) same refl

pub type_free_by : (name : List ℕ) → bytes_eq name (codes "MPI_Type_free") ≡ true → functions.Other ≡ function_named name
unfolding function_named collective_named all_kinds row
type_free_by name same = named_as name (codes "MPI_Type_free") (functions.Other) same refl

pub comm_free_by : (name : List ℕ) → bytes_eq name (codes "MPI_Comm_free") ≡ true → functions.OnObject kinds.CommFree false ≡ function_named name
unfolding function_named collective_named all_kinds row
comm_free_by name same = named_as name (codes "MPI_Comm_free") (functions.OnObject kinds.CommFree false) same refl

pub allreduce_by : (name : List ℕ) → bytes_eq name (codes "MPI_Allreduce") ≡ true → functions.Collective kinds.Allreduce ≡ function_named name
unfolding function_named collective_named all_kinds row
allreduce_by name same = named_as name (codes "MPI_Allreduce") (functions.Collective kinds.Allreduce) same refl

pub allgather_by : (name : List ℕ) → bytes_eq name (codes "MPI_Allgather") ≡ true → functions.Collective kinds.Allgather ≡ function_named name
unfolding function_named collective_named all_kinds row
allgather_by name same = named_as name (codes "MPI_Allgather") (functions.Collective kinds.Allgather) same refl

pub alltoallv_by : (name : List ℕ) → bytes_eq name (codes "MPI_Alltoallv") ≡ true → functions.Collective kinds.Alltoallv ≡ function_named name
unfolding function_named collective_named all_kinds row
alltoallv_by name same = named_as name (codes "MPI_Alltoallv") (functions.Collective kinds.Alltoallv) same refl

pub get_count_by : (name : List ℕ) → bytes_eq name (codes "MPI_Get_count") ≡ true → functions.Other ≡ function_named name
unfolding function_named collective_named all_kinds row
get_count_by name same = named_as name (codes "MPI_Get_count") (functions.Other) same refl

pub pack_size_by : (name : List ℕ) → bytes_eq name (codes "MPI_Pack_size") ≡ true → functions.Other ≡ function_named name
unfolding function_named collective_named all_kinds row
pack_size_by name same = named_as name (codes "MPI_Pack_size") (functions.Other) same refl

pub comm_split_by : (name : List ℕ) → bytes_eq name (codes "MPI_Comm_split") ≡ true → functions.OnObject kinds.CommSplit false ≡ function_named name
unfolding function_named collective_named all_kinds row
comm_split_by name same = named_as name (codes "MPI_Comm_split") (functions.OnObject kinds.CommSplit false) same refl

pub cart_shift_by : (name : List ℕ) → bytes_eq name (codes "MPI_Cart_shift") ≡ true → functions.Other ≡ function_named name
unfolding function_named collective_named all_kinds row
cart_shift_by name same = named_as name (codes "MPI_Cart_shift") (functions.Other) same refl

pub group_free_by : (name : List ℕ) → bytes_eq name (codes "MPI_Group_free") ≡ true → functions.Other ≡ function_named name
unfolding function_named collective_named all_kinds row
group_free_by name same = named_as name (codes "MPI_Group_free") (functions.Other) same refl

pub comm_group_by : (name : List ℕ) → bytes_eq name (codes "MPI_Comm_group") ≡ true → functions.Other ≡ function_named name
unfolding function_named collective_named all_kinds row
comm_group_by name same = named_as name (codes "MPI_Comm_group") (functions.Other) same refl

pub allgatherv_by : (name : List ℕ) → bytes_eq name (codes "MPI_Allgatherv") ≡ true → functions.Collective kinds.Allgatherv ≡ function_named name
unfolding function_named collective_named all_kinds row
allgatherv_by name same = named_as name (codes "MPI_Allgatherv") (functions.Collective kinds.Allgatherv) same refl

pub get_address_by : (name : List ℕ) → bytes_eq name (codes "MPI_Get_address") ≡ true → functions.Other ≡ function_named name
unfolding function_named collective_named all_kinds row
get_address_by name same = named_as name (codes "MPI_Get_address") (functions.Other) same refl

pub type_commit_by : (name : List ℕ) → bytes_eq name (codes "MPI_Type_commit") ≡ true → functions.Other ≡ function_named name
unfolding function_named collective_named all_kinds row
type_commit_by name same = named_as name (codes "MPI_Type_commit") (functions.Other) same refl

pub type_vector_by : (name : List ℕ) → bytes_eq name (codes "MPI_Type_vector") ≡ true → functions.Other ≡ function_named name
unfolding function_named collective_named all_kinds row
type_vector_by name same = named_as name (codes "MPI_Type_vector") (functions.Other) same refl

pub comm_create_by : (name : List ℕ) → bytes_eq name (codes "MPI_Comm_create") ≡ true → functions.OnObject kinds.CommCreate false ≡ function_named name
unfolding function_named collective_named all_kinds row
comm_create_by name same = named_as name (codes "MPI_Comm_create") (functions.OnObject kinds.CommCreate false) same refl

pub cart_create_by : (name : List ℕ) → bytes_eq name (codes "MPI_Cart_create") ≡ true → functions.OnObject kinds.CartCreate false ≡ function_named name
unfolding function_named collective_named all_kinds row
cart_create_by name same = named_as name (codes "MPI_Cart_create") (functions.OnObject kinds.CartCreate false) same refl

pub cart_coords_by : (name : List ℕ) → bytes_eq name (codes "MPI_Cart_coords") ≡ true → functions.Other ≡ function_named name
unfolding function_named collective_named all_kinds row
cart_coords_by name same = named_as name (codes "MPI_Cart_coords") (functions.Other) same refl

pub dims_create_by : (name : List ℕ) → bytes_eq name (codes "MPI_Dims_create") ≡ true → functions.Other ≡ function_named name
unfolding function_named collective_named all_kinds row
dims_create_by name same = named_as name (codes "MPI_Dims_create") (functions.Other) same refl

pub type_contiguous_by : (name : List ℕ) → bytes_eq name (codes "MPI_Type_contiguous") ≡ true → functions.Other ≡ function_named name
unfolding function_named collective_named all_kinds row
type_contiguous_by name same = named_as name (codes "MPI_Type_contiguous") (functions.Other) same refl

pub type_match_size_by : (name : List ℕ) → bytes_eq name (codes "MPI_Type_match_size") ≡ true → functions.Other ≡ function_named name
unfolding function_named collective_named all_kinds row
type_match_size_by name same = named_as name (codes "MPI_Type_match_size") (functions.Other) same refl

pub type_get_extent_by : (name : List ℕ) → bytes_eq name (codes "MPI_Type_get_extent") ≡ true → functions.Other ≡ function_named name
unfolding function_named collective_named all_kinds row
type_get_extent_by name same = named_as name (codes "MPI_Type_get_extent") (functions.Other) same refl

pub type_create_struct_by : (name : List ℕ) → bytes_eq name (codes "MPI_Type_create_struct") ≡ true → functions.Other ≡ function_named name
unfolding function_named collective_named all_kinds row
type_create_struct_by name same = named_as name (codes "MPI_Type_create_struct") (functions.Other) same refl
