-- The collective calls of a rank on one communicator, and its Barriers among them. No public clause speaks of it.
use Rattle.std.specs.Prelude.{ℕ, suc, ◌<◌, ◌≤◌, ◌==◌, nat_lt, cond, Option, Some, None, unwrap_or, List, [], ◌∷◌, ◌++◌, length}
use Rattle.trace_ops.specs.Order.{Has}
use Rattle.trace_ops.specs.Round.{is_barrier}
use Rattle.trace_ops.specs.declared.entered.Entered.{Entered}
use Rattle.trace_pair.specs.declared.reach.Barrier.{Barrier}

-- The calls on a communicator, and its Barriers, each with how many of those calls stand before it.
pub record OnComm : Type 0 where
  pub calls : List ℕ
  pub barriers : List Barrier

-- a communicator on which the rank entered no call
abbrev pub no_entries : OnComm
no_entries = record { calls = []; barriers = [] }

-- the collective calls on a communicator, in their order
abbrev pub calls_on : ℕ → List Entered → List ℕ
calls_on comm [] = []
calls_on comm (x ∷ xs) = cond (x.comm == comm) (x.call ∷ calls_on comm xs) (calls_on comm xs)

-- a Barrier by its call, and by how many calls on its communicator stand before it
abbrev pub barrier_at : ℕ → Entered → Barrier
barrier_at before x = record { call = x.call; before = before }

-- the Barriers on a communicator that was entered so many times before
abbrev pub barriers_on : ℕ → ℕ → List Entered → List Barrier
barriers_on comm before [] = []
barriers_on comm before (x ∷ xs) =
    cond (x.comm == comm)
    (cond (is_barrier x) (barrier_at before x ∷ barriers_on comm (suc before) xs) (barriers_on comm (suc before) xs))
    (barriers_on comm before xs)

-- the collective calls on a communicator, and the Barriers among them
abbrev pub on_comm : ℕ → List Entered → OnComm
on_comm comm rounds = record { calls = calls_on comm rounds; barriers = barriers_on comm 0 rounds }

-- the Barriers, and behind them an entered call with so many calls before it, where that is a Barrier too
abbrev pub with_barrier : List Barrier → ℕ → Entered → List Barrier
with_barrier barriers before x = cond (is_barrier x) (barriers ++ barrier_at before x ∷ []) barriers

-- one call more on the communicator
abbrev pub with_entry : OnComm → Entered → OnComm
with_entry row x = record { calls = row.calls ++ x.call ∷ []; barriers = with_barrier row.barriers (length row.calls) x }

-- How many calls stand before the last of the Barriers that were entered before that call.
abbrev pub last_before : ℕ → List Barrier → Option ℕ
last_before call [] = None
last_before call (b ∷ bs) = cond (nat_lt b.call call) (Some (unwrap_or (last_before call bs) b.before)) None

-- The first Barrier is entered before the second, and no more calls stand before it than before the second.
pub record IsBarrierBefore (a b : Barrier) : Type 0 where
  pub call : a.call < b.call
  pub before : a.before ≤ b.before

-- each Barrier is before those that follow
abbrev pub Rise : List Barrier → Type 0
Rise [] = Unit {0}
Rise (b ∷ bs) = ((x : Barrier) → Has bs x → IsBarrierBefore b x) × Rise bs
