-- Who needs whom. A node for each rank, and behind them one for all rounds.
use Rattle.std.specs.Prelude.{◌≡◌, ℕ, Bool, true, false, ◌&&◌, not, ◌==◌, Option, Some, None, List, [], map, slice_get, Vec, if◌then◌else◌}
use Rattle.std.specs.declared.alloc.Global.{Global}
use Rattle.trace_ops.specs.declared.state.State.{State}
use Rattle.trace_ops.specs.declared.state.State.TheVariants.{Free, Waiting, Ended}
use Rattle.trace_stuck.specs.Graph.{edge, is_up}
use Rattle.trace_stuck.specs.Named.{at_rank}
use Rattle.trace_stuck.specs.Shape as waits
use Rattle.trace_diagnosis.specs.Conditions.{wait_at}
use Rattle.trace_diagnosis.specs.Holding.{holds, nobody}
use Rattle.trace_diagnosis.specs.Needs.{needs_of}
use Rattle.diagnosis_value.specs.declared.diagnosis.Need.{Need}
use Rattle.diagnosis_value.specs.declared.diagnosis.Need.TheVariants as needs

-- the rank hasn't ended
abbrev pub has_not_ended : State → Bool
has_not_ended Free = true
has_not_ended Waiting = true
has_not_ended Ended = false

-- the other ranks that can go on
abbrev pub others : List Bool → ℕ → ℕ → Bool
others able r s = is_up able s && not (r == s)

-- what a rank with this condition needs: nothing where it isn't held
abbrev pub needs_in : List Bool → ℕ → waits.Wait → List Need
needs_in able r w = if holds nobody w then [] else needs_of (others able r) w

-- what a rank with this condition needs, where it has one
abbrev pub needs_by : List Bool → ℕ → Option waits.Wait → List Need
needs_by able r None = []
needs_by able r (Some w) = needs_in able r w

-- what a rank needs
abbrev pub needs_at : List Bool → List (Option waits.Wait) → ℕ → List Need
needs_at able ws r = needs_by able r (wait_at ws r)

-- the node of a need: the rank, or the node of all rounds
abbrev pub node_of : ℕ → Need → ℕ
node_of ranks (needs.Rank r) = r
node_of ranks (needs.Round round) = ranks

-- the edges of each rank lead to the nodes of its needs; none leads out of another node
pub record HaveEdges (ranks : ℕ) (all : List (Vec Need Global)) (edges : List (Vec ℕ Global)) : Type 0 where
  pub there : (r : ℕ) (v : Vec Need Global) → slice_get all r ≡ Some v → at_rank edges r ≡ map (node_of ranks) v.items
  pub none : (r : ℕ) → slice_get all r ≡ None → at_rank edges r ≡ []

-- Edges lead only out of held ranks.
abbrev pub LeadOutOfHeld : List (Vec ℕ Global) → List Bool → Type 0
LeadOutOfHeld edges held = (r s : ℕ) → edge edges r s ≡ true → is_up held r ≡ true
