use Rattle.std.proofs.Common.{◌≡◌, ℕ, ◌+◌, ◌<◌, false, get_or}
use Rattle.mpi_model.specs.declared.layout.names.Name.{Name}
use Rattle.mpi_model.specs.Names.{clashes}
use Rattle.mpi_model.proofs.layout.names.has_clash.Given as goal

abbrev pub invariant-loop-i : goal.invariant-loop-i
invariant-loop-i l = (k : ℕ) (d : Name) → k + 1 < l.i → clashes (get_or l.names k d) (get_or l.names (k + 1) d) ≡ false
