-- What is made of the calls of all ranks, and why nothing is.
use Rattle.std.specs.Prelude.{◌≡◌, ◌<◌, ◌≤◌, ◌⊎◌, ◌&&◌, ℕ, Bool, true, false, List, Some, None, length, nat_le}
use Rattle.json.specs.Json.{Json}
use Rattle.mpi_model.specs.Communicators.{Communicator}
use Rattle.mpi_model.specs.Layouts.{fault_of}
use Rattle.mpi_model.specs.declared.layout.Sends.{Sends}
use Rattle.mpi_model.specs.declared.layout.TheConstants.{MOST_COMMS, MOST_RANKS}
use Rattle.mpi_model.specs.declared.layout.fault.LayoutFault.{LayoutFault}
use Rattle.mpi_model.specs.declared.layout.fault.LayoutFault.TheVariants.{RankCount}
use Rattle.comm_makings.specs.Derived.{IsSound}
use Rattle.comm_makings.specs.World.{world_fault, world_of}
use Rattle.comm_makings.specs.declared.answer.Choice.TheVariants as choices
use Rattle.comm_makings.specs.declared.answer.DeriveFault.TheVariants as derives
use Rattle.comm_makings.specs.declared.calls.RankCalls.{RankCalls}
use Rattle.run_files.specs.Values.{layout_value, line_of, parts_of}
use Rattle.run_files.specs.declared.input.TheConstants.{LONGEST_FILE}
use Rattle.text_layouts.specs.Sizes.{size_fault}
use Rattle.text_layouts.specs.declared.fault.MadeFault.{MadeFault}
use Rattle.text_layouts.specs.declared.fault.MadeFault.TheVariants as faults
use Rattle.text_layouts.specs.declared.made.Made.{Made}

-- ---- what the layout has

-- the file of a layout of these communicators, windows and files isn't too long
abbrev pub is_short : ℕ → ℕ → Sends → List Communicator → Bool
is_short ranks world sends comms = nat_le (length (line_of (layout_value (parts_of ranks world sends comms)))) LONGEST_FILE

-- they are no more than a layout can have, and its file isn't too long
abbrev pub fits : ℕ → ℕ → Sends → List Communicator → Bool
fits ranks world sends comms = nat_le (length comms) MOST_COMMS && is_short ranks world sends comms

-- All that calls of these ranks name doesn't fit into a layout.
pub record Outgrows (sends : Sends) (ranks : List RankCalls) : Type 0 where
  pub named : List Communicator
  pub sound : IsSound choices.Named (world_of ranks) ranks named
  pub too_much : fits (length ranks) (world_of ranks) sends named ≡ false

-- What a layout has of what these ranks make: all that some call names, where that fits, and else what some call names
-- that doesn't end it.
abbrev pub AreObjectsOf : Sends → List RankCalls → List Communicator → Type 0
AreObjectsOf sends ranks comms = (IsSound choices.Named (world_of ranks) ranks comms × (fits (length ranks) (world_of ranks) sends comms ≡ true))
    ⊎ (IsSound choices.Used (world_of ranks) ranks comms × Outgrows sends ranks)

-- ---- why nothing is made

-- the number of MPI_COMM_WORLD is refused, unless memory was wanting
abbrev pub RefusesWorld : List RankCalls → MadeFault → Type 0
RefusesWorld ranks faults.Memory = Unit {0}
RefusesWorld ranks (faults.World first second) = world_fault ranks ≡ Some (derives.World first second)
RefusesWorld ranks _ = ⊥

-- a rule of layouts refuses these communicators, unless memory was wanting
abbrev pub RefusesLayout : ℕ → ℕ → List Communicator → MadeFault → Type 0
RefusesLayout ranks world comms faults.Memory = Unit {0}
RefusesLayout ranks world comms (faults.Layout fault) = fault_of ranks world comms ≡ Some fault
RefusesLayout ranks world comms _ = ⊥

-- there is no rank, or there are more than a layout can have
abbrev pub AreMiscounted : List RankCalls → Type 0
AreMiscounted ranks = (length ranks ≡ 0) ⊎ (MOST_RANKS < length ranks)

-- A rule of layouts refuses what one has of what these ranks make, sends being so.
pub record RefusesComms (ranks : List RankCalls) (fault : LayoutFault) : Type 0 where
  pub comms : List Communicator
  pub sends : Sends
  pub are : AreObjectsOf sends ranks comms
  pub rule : fault_of (length ranks) (world_of ranks) comms ≡ Some fault

-- No two ranks tell different things of MPI_COMM_WORLD: neither of its size nor of its number.
abbrev pub TellsOneWorld : List RankCalls → Type 0
TellsOneWorld ranks = (size_fault ranks ≡ None) × (world_fault ranks ≡ None)

-- Why nothing is made: the number of ranks, then the size of the world, then its number, and then the communicators.
abbrev pub RefusesMaking : List RankCalls → MadeFault → Type 0
RefusesMaking ranks faults.Memory = Unit {0}
RefusesMaking ranks (faults.Size rank size) = size_fault ranks ≡ Some (rank, size)
RefusesMaking ranks (faults.World first second) = (size_fault ranks ≡ None) × (world_fault ranks ≡ Some (derives.World first second))
RefusesMaking ranks (faults.Layout fault) = ((fault ≡ RankCount) × AreMiscounted ranks) ⊎ (TellsOneWorld ranks × RefusesComms ranks fault)
RefusesMaking ranks faults.LayoutFile = ⊥
RefusesMaking ranks faults.ManifestFile = ⊥

-- ---- both files

-- The file of this value: its line, which isn't too long.
pub record IsFile (value : Json) (file : List ℕ) : Type 0 where
  pub bytes : file ≡ line_of value
  pub short : length file ≤ LONGEST_FILE

-- the value of the layout's file, with the communicators in the order in which they were derived
abbrev pub made_layout : Made → Json
made_layout made = layout_value (parts_of made.input.layout.ranks made.derived.world made.input.layout.sends made.derived.comms.items)

-- why the file of the layout isn't made: it is too long
abbrev pub RefusesLayoutFile : Json → MadeFault → Type 0
RefusesLayoutFile value faults.Memory = Unit {0}
RefusesLayoutFile value faults.LayoutFile = LONGEST_FILE < length (line_of value)
RefusesLayoutFile value _ = ⊥

-- why the file of the manifest isn't made: it is too long
abbrev pub RefusesManifestFile : Json → MadeFault → Type 0
RefusesManifestFile value faults.Memory = Unit {0}
RefusesManifestFile value faults.ManifestFile = LONGEST_FILE < length (line_of value)
RefusesManifestFile value _ = ⊥
