-- Which layout a text is.
use Rattle.std.specs.Prelude.{◌≡◌, ℕ, ◌==◌, List, [], ◌++◌, Option, Some, None, length, if◌then◌else◌, codes, option_and_then, option_map}
use Rattle.std.specs.Str.{bytes_eq}
use Rattle.serde_json.specs.Data.{Data, Items, no_items, item}
use Rattle.serde_json.specs.Find.{as_array, as_str, get}
use Rattle.mpi_model.specs.declared.layout.Sends.{Sends}
use Rattle.mpi_model.specs.declared.layout.Sends.TheVariants.{Wait, Buffer}
use Rattle.mpi_model.specs.declared.layout.comm.Stretch.{Stretch}
use Rattle.mpi_model.specs.declared.object.Object.{Object}
use Rattle.mpi_model.specs.declared.object.Object.TheVariants as sorts
use Rattle.mpi_model.specs.Communicators.{Communicator}
use Rattle.mpi_model.specs.Layouts.{Holds, Parts, fault_of}
use Rattle.run_files.specs.Fields.{IsJson, u32_in, u32s_in, with_first}
use Rattle.run_files.specs.Numbers.{numbers_in}
use Rattle.run_files.specs.declared.read.layout.Groups.{Groups as Held}
use Rattle.run_files.specs.declared.fault.Field.{Field}
use Rattle.run_files.specs.declared.fault.Field.TheVariants as fields
use Rattle.run_files.specs.declared.fault.InputFault.{InputFault}
use Rattle.run_files.specs.declared.fault.InputFault.TheVariants.{Memory, Json, Shape, Piece, Packed, Layout}

-- a sort of objects, by its word
abbrev pub object_named : List ℕ → Option Object
object_named word = if bytes_eq word (codes "communicator") then Some sorts.Communicator
    else if bytes_eq word (codes "window") then Some sorts.Window
    else if bytes_eq word (codes "file") then Some sorts.File else None

-- the sort of an object: a communicator, where no field tells it
abbrev pub object_in : Option Data → Option Object
object_in None = Some sorts.Communicator
object_in (Some value) = option_and_then object_named (as_str value)

-- the members of an object, and how many of these, the last ones, are the second group of an intercommunicator
pub record Groups : Type 0 where
  pub members : List ℕ
  pub remote_size : ℕ

-- the groups as they are read
abbrev pub plain : Held → Groups
plain g = record { members = g.members.items; remote_size = g.remote_size }

-- An object of one group.
abbrev pub alone : List ℕ → Groups
alone members = record { members = members; remote_size = 0 }

-- Two groups, one behind the other. Where the second is told and has no rank, no member is left, so that the rule is
-- broken that asks each group for one.
abbrev pub joined : List ℕ → List ℕ → Groups
joined members remote = if length remote == 0 then alone [] else record { members = members ++ remote; remote_size = length remote }

-- only a communicator has a second group
abbrev pub with_second : Object → List ℕ → Option (List ℕ) → Option Groups
with_second sorts.Communicator members remote = option_map (joined members) remote
with_second sorts.Window members remote = None
with_second sorts.File members remote = None

-- the groups of an object of these members, by the field of its second one
abbrev pub groups_in : Object → List ℕ → Option Data → Option Groups
groups_in object members None = Some (alone members)
groups_in object members (Some value) = with_second object members (option_and_then u32s_in (as_array value))

-- an object of these groups, where its numbers can be read
abbrev pub communicator_with : ℕ → Object → Option Groups → Option (List (Option Stretch)) → Option Communicator
communicator_with comm object None numbers = None
communicator_with comm object (Some g) numbers = option_map (λ ns. record { comm = comm; object = object; members = g.members; remote_size = g.remote_size; numbers = ns }) numbers

-- an object, where all of its fields can be read
abbrev pub communicator_from : Option ℕ → Option Object → Option (List ℕ) → Option Data → Option (List (Option Stretch)) → Option Communicator
communicator_from None object members remote numbers = None
communicator_from (Some comm) None members remote numbers = None
communicator_from (Some comm) (Some object) None remote numbers = None
communicator_from (Some comm) (Some object) (Some members) remote numbers = communicator_with comm object (groups_in object members remote) numbers

-- A communicator, a window or a file: its id, its sort, its members, the other group of an intercommunicator, and by
-- which numbers all of these name it.
abbrev pub communicator_in : Data → Option Communicator
communicator_in value = communicator_from (option_and_then u32_in (get (codes "id") value))
    (object_in (get (codes "object") value))
    (option_and_then u32s_in (option_and_then as_array (get (codes "members") value)))
    (get (codes "remote") value)
    (numbers_in (get (codes "numbers") value))

-- the communicators of a list, in its order
abbrev pub communicators_in : Items → Option (List Communicator)
communicators_in no_items = Some []
communicators_in (item value values) = with_first (communicator_in value) (communicators_in values)

-- how sends of standard mode complete, by the word
abbrev pub sends_named : List ℕ → Option Sends
sends_named word = if bytes_eq word (codes "wait") then Some Wait
    else if bytes_eq word (codes "buffer") then Some Buffer else None

-- a layout, where all of its fields can be read
abbrev pub parts_from : Option ℕ → Option ℕ → Option Sends → Option (List Communicator) → Option Parts
parts_from None world sends comms = None
parts_from (Some ranks) None sends comms = None
parts_from (Some ranks) (Some world) None comms = None
parts_from (Some ranks) (Some world) (Some sends) None = None
parts_from (Some ranks) (Some world) (Some sends) (Some comms) = Some (record { ranks = ranks; world = world; sends = sends; comms = comms })

-- the fields of a layout, its communicators in the order of the file
abbrev pub parts_in : Data → Option Parts
parts_in value = parts_from (option_and_then u32_in (get (codes "ranks") value))
    (option_and_then u32_in (get (codes "world") value))
    (option_and_then sends_named (option_and_then as_str (get (codes "sends") value)))
    (option_and_then communicators_in (option_and_then as_array (get (codes "comms") value)))

-- which field can't be read: `comms` where the three before it can
abbrev pub unreadable_from : Option ℕ → Option ℕ → Option Sends → Field
unreadable_from None world sends = fields.Ranks
unreadable_from (Some ranks) None sends = fields.World
unreadable_from (Some ranks) (Some world) None = fields.Sends
unreadable_from (Some ranks) (Some world) (Some sends) = fields.Comms

-- the first field that can't be read of a layout of which one can't
abbrev pub unreadable_field : Data → Field
unreadable_field value = unreadable_from (option_and_then u32_in (get (codes "ranks") value))
    (option_and_then u32_in (get (codes "world") value))
    (option_and_then sends_named (option_and_then as_str (get (codes "sends") value)))

-- The text tells these fields.
abbrev pub TellsParts : List ℕ → Parts → Type 0
TellsParts text given = (value : Data) × IsJson text value × (parts_in value ≡ Some given)

-- The text is this layout: it tells fields that break no rule, and the layout holds them.
abbrev pub IsLayoutOf : List ℕ → Parts → Type 0
IsLayoutOf text l = (given : Parts) × TellsParts text given
    × (fault_of given.ranks given.world given.comms ≡ None)
    × Holds given.ranks given.world given.sends given.comms l

-- Why the text is no layout.
abbrev pub RefusesLayout : List ℕ → InputFault → Type 0
RefusesLayout text Memory = Unit {0}
RefusesLayout text (Json line column) = (value : Data) → IsJson text value → ⊥
RefusesLayout text (Shape field) = (value : Data) × IsJson text value × (parts_in value ≡ None) × (field ≡ unreadable_field value)
RefusesLayout text Piece = ⊥
RefusesLayout text Packed = ⊥
RefusesLayout text (Layout fault) = (given : Parts) × TellsParts text given
    × (fault_of given.ranks given.world given.comms ≡ Some fault)
