-- Which arguments are compared, by the kind of the collective call (MPI 4.0, 6.4 to 6.12).
use Rattle.std.specs.Prelude.{ℕ, Bool, true, false, List, [], ◌∷◌, codes, ◌||◌, if◌then◌else◌}
use Rattle.mpi_model.specs.declared.kind.Kind.{Kind}
use Rattle.mpi_model.specs.declared.kind.Kind.TheVariants as kinds
use Rattle.call_arguments.specs.declared.table.Compared.{Compared}
use Rattle.call_arguments.specs.declared.table.Line.{Line}
use Rattle.call_arguments.specs.declared.table.Line.TheVariants as lines
use Rattle.call_arguments.specs.declared.table.Parameters.{Parameters}
use Rattle.call_arguments.specs.declared.table.Parameters.TheVariants.{Count, ReceiveCount, ReceiveCounts, Send, Receive, ReceiveList, SendList}
use Rattle.call_arguments.specs.declared.table.Rule.{Rule}
use Rattle.call_arguments.specs.declared.table.Rule.TheVariants.{Nothing, Alike, Rooted, Listed}

-- no operation, and counts by this rule
abbrev pub counted : Rule → Compared
counted rule = record { operation = false; counts = rule }

-- one operation, and counts by this rule
abbrev pub reduced : Rule → Compared
reduced rule = record { operation = true; counts = rule }

-- what is compared of the calls of a round, by their kind
abbrev pub compared_of : Kind → Compared
compared_of kinds.Bcast = counted (Alike Count)
compared_of kinds.Reduce = reduced (Alike Count)
compared_of kinds.Allreduce = reduced (Alike Count)
compared_of kinds.Scan = reduced (Alike Count)
compared_of kinds.Exscan = reduced (Alike Count)
compared_of kinds.ReduceScatterBlock = reduced (Alike ReceiveCount)
compared_of kinds.ReduceScatter = reduced (Alike ReceiveCounts)
compared_of kinds.Allgather = counted (Alike ReceiveCount)
compared_of kinds.Alltoall = counted (Alike ReceiveCount)
compared_of kinds.Allgatherv = counted (Alike ReceiveCounts)
compared_of kinds.Gather = counted (Rooted Send Receive)
compared_of kinds.Scatter = counted (Rooted Receive Send)
compared_of kinds.Gatherv = counted (Listed Send ReceiveList)
compared_of kinds.Scatterv = counted (Listed Receive SendList)
compared_of _ = counted Nothing

-- the line of counts
abbrev pub line_by : Rule → List Line
line_by Nothing = []
line_by (Alike parameters) = lines.Alike ∷ []
line_by (Rooted members root) = lines.Rooted ∷ []
line_by (Listed members root) = lines.Listed ∷ []

-- the lines of a kind, in their order
abbrev pub lines_of : Compared → List Line
lines_of compared = if compared.operation then lines.Operation ∷ line_by compared.counts else line_by compared.counts

-- counts are compared
abbrev pub compares_counts : Rule → Bool
compares_counts Nothing = false
compares_counts _ = true

-- something is compared of the calls of a round of this kind
abbrev pub is_compared : Kind → Bool
is_compared kind = (compared_of kind).operation || compares_counts (compared_of kind).counts

-- the first name of the parameter that has the count or the counts
abbrev pub count_name : Parameters → List ℕ
count_name Count = codes "count"
count_name ReceiveCount = codes "recvcount"
count_name ReceiveCounts = codes "recvcounts"
count_name Send = codes "sendcount"
count_name Receive = codes "recvcount"
count_name ReceiveList = codes "recvcounts"
count_name SendList = codes "sendcounts"

-- the name that counts where the call doesn't have the first
abbrev pub other_count_name : Parameters → List ℕ
other_count_name ReceiveCount = codes "count"
other_count_name parameters = count_name parameters

-- the first name of their datatype
abbrev pub type_name : Parameters → List ℕ
type_name Count = codes "datatype"
type_name ReceiveCount = codes "datatype"
type_name ReceiveCounts = codes "datatype"
type_name Send = codes "sendtype"
type_name Receive = codes "recvtype"
type_name ReceiveList = codes "recvtype"
type_name SendList = codes "sendtype"

-- the name that counts where the call doesn't have the first
abbrev pub other_type_name : Parameters → List ℕ
other_type_name ReceiveCount = codes "recvtype"
other_type_name ReceiveCounts = codes "recvtype"
other_type_name parameters = type_name parameters

-- one count for each member, in their order
abbrev pub is_list : Parameters → Bool
is_list ReceiveCounts = true
is_list ReceiveList = true
is_list SendList = true
is_list _ = false
