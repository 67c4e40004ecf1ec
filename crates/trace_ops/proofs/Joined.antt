-- Readable events that begin with others, and the ops of both.
use Rattle.std.proofs.Common.{ℕ, zero, suc, ◌≤◌, ◌++◌, Bool, List, ◌⊎◌, inl, inr, ⊎_elim, subst, sym, arith}
use Rattle.mpi_model.specs.declared.event.Event.{Event}
use Rattle.trace_know.specs.Prefix.{BeginsWith}
use Rattle.mpi_model.specs.Layouts.{Parts}
use Rattle.trace_ops.specs.Ops.{Grows}
use Rattle.trace_ops.specs.RankOps.{ops_by}

pub le_or_ge : (m n : ℕ) → (m ≤ n) ⊎ (n ≤ m)
le_or_ge zero n = inl (omega arith)
le_or_ge (suc m) zero = inr (omega arith)
le_or_ge (suc m) (suc n) = ⊎_elim (λ (h : m ≤ n). inl (omega arith)) (λ (h : n ≤ m). inr (omega arith)) (le_or_ge m n)

pub grown_by : (layout : Parts) (rank : ℕ) → ((one other : Bool) (events more : List Event) → Grows (ops_by layout rank one events) (ops_by layout rank other (events ++ more))) →
    (one other : Bool) (old new : List Event) → BeginsWith new old → Grows (ops_by layout rank one old) (ops_by layout rank other new)
grown_by layout rank grow one other old new b = subst (λ (l : List Event). Grows (ops_by layout rank one old) (ops_by layout rank other l)) (sym b.1) (grow one other old b.0)
