-- Who has entered a round, and who hasn't (MPI 4.0, 6.1 and 6.12).
use Rattle.std.specs.Prelude.{◌≡◌, ℕ, Bool, not, Option, is_some, List, [], ◌∷◌, All, filter, map, slice_get}
use Rattle.std.specs.List.{flat_map}
use Rattle.std.specs.List.Sorted.{IsPermutation}
use Rattle.mpi_model.specs.Kinds.{KindFunction}
use Rattle.mpi_model.specs.Layouts.{Parts}
use Rattle.trace_ops.specs.Ops.{Ops}
use Rattle.trace_ops.specs.declared.entered.Entered.{Entered}
use Rattle.trace_stuck.specs.declared.condition.RoundName.{RoundName}
use Rattle.trace_wait.specs.Ranks.{ops_of}
use Rattle.trace_wait.specs.Rounds.{group, on_comm}
use Rattle.trace_wait.specs.declared.round.Round.{Round}
use Rattle.trace_wait.specs.declared.round.Standing.{Standing}
use Rattle.trace_wait.specs.declared.round.Standing.TheVariants.{Mismatched, Complete, Partial}
use Rattle.diagnosis_value.specs.declared.diagnosis.OpenRound.{OpenRound}
use Rattle.diagnosis_value.specs.declared.diagnosis.Rounds.{Rounds}

-- the call by which a rank entered a round, where it has
abbrev pub entered_at : List Ops → RoundName → ℕ → Option Entered
entered_at ops round r = slice_get (on_comm round.object (ops_of ops r).rounds) round.k

-- the rank has entered the round
abbrev pub has_entered : List Ops → RoundName → ℕ → Bool
has_entered ops round r = is_some (entered_at ops round r)

-- those of these members that have
abbrev pub entered : List Ops → RoundName → List ℕ → List ℕ
entered ops round members = filter (has_entered ops round) members

-- those that haven't
abbrev pub missing : List Ops → RoundName → List ℕ → List ℕ
missing ops round members = filter (λ r. not (has_entered ops round r)) members

-- The members of an open round's object in some order, as they have entered it, and as they haven't.
pub record HasMembers (layout : Parts) (ops : List Ops) (told : OpenRound) : Type 0 where
  pub members : List ℕ
  pub all : IsPermutation (group layout.comms told.round.object) members
  pub entered : told.entered.items ≡ entered ops told.round members
  pub missing : told.missing.items ≡ missing ops told.round members

-- the name of a round
abbrev pub name_of : Round → RoundName
name_of round = record { object = round.comm; k = round.k }

-- the name of a round whose calls don't match
abbrev pub mismatched_in : Round → List RoundName
mismatched_in round = by round.standing
  where
    by : Standing → List RoundName
    by Mismatched = name_of round ∷ []
    by (Complete function root) = []
    by (Partial function root entered members) = []

-- An open round by its call: its name, its function and its root.
pub record Opened : Type 0 where
  pub round : RoundName
  pub function : KindFunction
  pub root : Option ℕ

-- an open round of this name that was entered by such a call
abbrev pub opened : RoundName → KindFunction → Option ℕ → Opened
opened round function root = record { round = round; function = function; root = root }

-- the call of a round that some members haven't entered
abbrev pub open_in : Round → List Opened
open_in round = by round.standing
  where
    by : Standing → List Opened
    by Mismatched = []
    by (Complete function root) = []
    by (Partial function root entered members) = opened (name_of round) function root ∷ []

-- what is told of an open round's call
abbrev pub opened_told : OpenRound → Opened
opened_told o = opened o.round o.function o.root

-- All of these rounds whose calls don't match are told, and all that are open, in their order; each open one with who
-- has entered it and who hasn't.
pub record AreTold (layout : Parts) (ops : List Ops) (rounds : List Round) (told : Rounds) : Type 0 where
  pub mismatched : map (λ m. m.round) told.mismatched.items ≡ flat_map mismatched_in rounds
  pub calls : map opened_told told.open.items ≡ flat_map open_in rounds
  pub members : All (HasMembers layout ops) told.open.items
