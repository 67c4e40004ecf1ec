-- What is gathered of a rank's steps from a place on, while they are gone through from the last to the first.
use Rattle.std.specs.Prelude.{◌≡◌, ℕ, Option, List, [], ◌∷◌, ◌++◌, length, reverse}
use Rattle.mpi_model.specs.Layouts.{Parts}
use Rattle.trace_ops.specs.Active.{active_of}
use Rattle.trace_ops.specs.Called.{plain_called}
use Rattle.trace_ops.specs.Calls.{Entry}
use Rattle.trace_ops.specs.Held.{AreInitsAt}
use Rattle.trace_ops.specs.Message.{sends_of}
use Rattle.trace_ops.specs.RankOps.{foreign_of}
use Rattle.trace_ops.specs.Receive.{receives_of}
use Rattle.trace_ops.specs.Round.{rounds_of}
use Rattle.trace_ops.specs.Steps.{Step, begun_step, steps_at, whole}
use Rattle.trace_ops.specs.Tables.{kept_of}
use Rattle.trace_ops.specs.Touched.{Follows}
use Rattle.trace_ops.specs.Trust.{cancelled_of, gives_back}
use Rattle.trace_ops.specs.declared.called.Called.{Called}
use Rattle.trace_ops.specs.declared.held.Init.{Init as Lent}
use Rattle.trace_ops.specs.declared.held.Part.{Part}
use Rattle.trace_ops.specs.declared.ops.gather.Gathered.{Gathered}

-- The lists have what these steps tell, turned round; the foreign ones of them are counted, what they touch is
-- followed, and it is told whether one of them may give a message back. The calls are all those of the rank.
pub record IsGathered (layout : Parts) (rank : ℕ) (calls : List Entry) (steps : List Step) (g : Gathered) : Type 0 where
  pub sends : reverse g.sends.items ≡ sends_of layout rank steps
  pub receives : reverse g.receives.items ≡ receives_of layout rank steps
  pub rounds : reverse g.rounds.items ≡ rounds_of layout rank steps
  pub active : reverse g.active.items ≡ active_of rank steps
  pub cancelled : reverse g.cancelled.items ≡ cancelled_of rank steps
  pub foreign : g.foreign ≡ foreign_of layout rank steps
  pub given_back : g.given_back ≡ gives_back steps
  pub touched : Follows calls steps (kept_of g.touched)

-- These steps are added: whatever steps behind them were gathered, now both are.
abbrev pub Adds : Parts → ℕ → List Entry → List Step → (old new : Gathered) → Type 0
Adds layout rank calls steps old new = (later : List Step) → IsGathered layout rank calls later old → IsGathered layout rank calls (steps ++ later) new

-- call n, which is one step, is added
abbrev pub AddsWhole : Parts → ℕ → List Entry → ℕ → Called → (old new : Gathered) → Type 0
AddsWhole layout rank calls n called old new = Adds layout rank calls (whole n (plain_called called) ∷ []) old new

-- a part of call n, a Start or Startall, is added
abbrev pub AddsPart : Parts → ℕ → List Entry → ℕ → Called → Part → (old new : Gathered) → Type 0
AddsPart layout rank calls n called part old new = Adds layout rank calls (begun_step n (plain_called called) part ∷ []) old new

-- Call n adds its steps, behind as many calls, where these inits hold the numbers that it lists.
abbrev pub AddsCall : Parts → ℕ → List Entry → ℕ → Called → List (Option Lent) → (old new : Gathered) → Type 0
AddsCall layout rank calls n called inits old new = (before : List Entry) → length before ≡ n → AreInitsAt before (plain_called called) inits →
    Adds layout rank calls (steps_at before (plain_called called)) old new
