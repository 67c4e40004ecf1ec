use Rattle.std.proofs.Common.{◌≡◌, ◌||◌, take}
use Rattle.std.specs.List.{list_any}
use Rattle.std.specs.BTreeSet.{contains}
use Rattle.mpi_model.specs.declared.event.OpName.{OpName}
use Rattle.trace_pair.specs.KeyOrders.{name_cmp}
use Rattle.trace_pair.specs.Table.{same_name}
use Rattle.trace_diagnosis.proofs.candidates.note_posts.Given as goal

abbrev pub invariant-loop-post : goal.invariant-loop-post
invariant-loop-post l = (n : OpName) → contains name_cmp l.names n ≡ (list_any (λ p. same_name p.1 n) (take l.post-index l.active) || contains name_cmp l.fn.names n)
