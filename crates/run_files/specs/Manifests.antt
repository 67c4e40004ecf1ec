-- What a manifest holds, and which manifest a text is.
use Rattle.std.specs.Prelude.{◌≡◌, ◌+◌, ℕ, List, [], ◌∷◌, Bool, true, false, Option, Some, None, if◌then◌else◌, codes, is_none, is_some, length, map, option_and_then}
use Rattle.std.specs.List.{list_any}
use Rattle.serde_json.specs.Data.{Data, Items, no_items, item}
use Rattle.serde_json.specs.Find.{as_array, as_bool, as_str, get}
use Rattle.run_files.specs.Fields.{IsJson, bit_in, or_absent, u32_in, u64_in, with_first}
use Rattle.run_files.specs.Schedules.{posts_packed, posts_past, renumbered, steps_in}
use Rattle.run_files.specs.declared.fault.Field.{Field}
use Rattle.run_files.specs.declared.fault.Field.TheVariants as fields
use Rattle.run_files.specs.declared.fault.InputFault.{InputFault}
use Rattle.run_files.specs.declared.fault.InputFault.TheVariants.{Memory, Json, Shape, Piece, Packed, Layout}
use Rattle.run_files.specs.declared.manifest.PlannedStep.{PlannedStep}

-- ---- what it holds

-- a text file of one rank's calls, from the call of this number on, the node and the worker whose piece it is, and
-- whether it may have been cut off
pub record PieceParts : Type 0 where
  pub rank : ℕ
  pub first : ℕ
  pub file : List ℕ
  pub node : ℕ
  pub worker : ℕ
  pub cut : Bool

-- a file of packed knowledge, and the node whose piece it is
pub record PackedParts : Type 0 where
  pub file : List ℕ
  pub node : ℕ

-- its texts and its packed files, each in the order of its list; a step posts a text by its number among the texts
pub record ManifestParts : Type 0 where
  pub pieces : List PieceParts
  pub packed : List PackedParts
  pub nodes : ℕ
  pub schedule : List PlannedStep

-- the whole text of a rank, which names no node and no worker, and wasn't cut off
abbrev pub whole_text : ℕ → List ℕ → PieceParts
whole_text rank file = record { rank = rank; first = 0; file = file; node = 0; worker = 0; cut = false }

-- the same text with another mark
abbrev pub marked : Bool → PieceParts → PieceParts
marked is_cut p = record { rank = p.rank; first = p.first; file = p.file; node = p.node; worker = p.worker; cut = is_cut }

-- a manifest of texts alone, for one node, without a schedule
abbrev pub manifest_of_texts : List PieceParts → ManifestParts
manifest_of_texts texts = record { pieces = texts; packed = []; nodes = 1; schedule = [] }

-- ---- its pieces

-- a text, where all of its fields can be read
abbrev pub piece_from : Option ℕ → Option ℕ → Option (List ℕ) → Option ℕ → Option ℕ → Option Bool → Option PieceParts
piece_from None _ _ _ _ _ = None
piece_from (Some rank) None _ _ _ _ = None
piece_from (Some rank) (Some first) None _ _ _ = None
piece_from (Some rank) (Some first) (Some file) None _ _ = None
piece_from (Some rank) (Some first) (Some file) (Some at) None _ = None
piece_from (Some rank) (Some first) (Some file) (Some at) (Some by) None = None
piece_from (Some rank) (Some first) (Some file) (Some at) (Some by) (Some is_cut) = Some (record { rank = rank; first = first; file = file; node = at; worker = by; cut = is_cut })

-- the text that a piece of the manifest names
abbrev pub piece_in : Data → Option PieceParts
piece_in value = piece_from (option_and_then u32_in (get (codes "rank") value))
    (option_and_then u64_in (get (codes "first") value))
    (option_and_then as_str (get (codes "file") value))
    (or_absent 0 bit_in (get (codes "node") value))
    (or_absent 0 bit_in (get (codes "worker") value))
    (or_absent false as_bool (get (codes "cut") value))

-- a packed file, where all of its fields can be read
abbrev pub packed_from : Option (List ℕ) → Option ℕ → Option PackedParts
packed_from None _ = None
packed_from (Some file) None = None
packed_from (Some file) (Some at) = Some (record { file = file; node = at })

-- a packed piece names no text
abbrev pub packed_in : Data → Option PackedParts
packed_in value = if is_none (get (codes "file") value)
    then packed_from (option_and_then as_str (get (codes "packed") value)) (or_absent 0 bit_in (get (codes "node") value))
    else None

-- a piece with this field is a packed one, any other a text
abbrev pub is_packed : Data → Bool
is_packed value = is_some (get (codes "packed") value)

-- the texts of a list, in its order
abbrev pub pieces_in : Items → Option (List PieceParts)
pieces_in no_items = Some []
pieces_in (item value values) = if is_packed value then pieces_in values else with_first (piece_in value) (pieces_in values)

-- the packed files of a list, in its order
abbrev pub all_packed_in : Items → Option (List PackedParts)
all_packed_in no_items = Some []
all_packed_in (item value values) = if is_packed value then with_first (packed_in value) (all_packed_in values) else all_packed_in values

-- the numbers of the pieces of a list among its texts, from this one on; none of a packed one
abbrev pub numbers_from : ℕ → Items → List (Option ℕ)
numbers_from n no_items = []
numbers_from n (item value values) = if is_packed value then None ∷ numbers_from n values else Some n ∷ numbers_from (n + 1) values

-- ---- its fields

-- what a list of pieces holds: its texts, its packed files, and the number of each piece among the texts, none of a
-- packed one
pub record ListedParts : Type 0 where
  pub pieces : List PieceParts
  pub packed : List PackedParts
  pub numbers : List (Option ℕ)

-- the fields of a manifest; a step posts a piece by its number in the whole list
pub record GivenParts : Type 0 where
  pub listed : ListedParts
  pub nodes : ℕ
  pub schedule : List PlannedStep

-- the steps of the schedule
abbrev pub schedule_in : Data → Option (List PlannedStep)
schedule_in value = option_and_then steps_in (as_array value)

-- the steps of a manifest's schedule, none where it has no schedule
abbrev pub schedule_of : Data → Option (List PlannedStep)
schedule_of value = or_absent [] schedule_in (get (codes "schedule") value)

-- what is listed, where all of its pieces can be read
abbrev pub listed_from : Option (List PieceParts) → Option (List PackedParts) → List (Option ℕ) → Option ListedParts
listed_from None _ _ = None
listed_from (Some pieces) None _ = None
listed_from (Some pieces) (Some packed) numbers = Some (record { pieces = pieces; packed = packed; numbers = numbers })

-- the pieces of a list
abbrev pub listed_in : Items → Option ListedParts
listed_in listed = listed_from (pieces_in listed) (all_packed_in listed) (numbers_from 0 listed)

-- a manifest, where all of its fields can be read
abbrev pub given_from : Option ListedParts → Option ℕ → Option (List PlannedStep) → Option GivenParts
given_from None _ _ = None
given_from (Some listed) None _ = None
given_from (Some listed) (Some nodes) None = None
given_from (Some listed) (Some nodes) (Some schedule) = Some (record { listed = listed; nodes = nodes; schedule = schedule })

-- the fields by the list of pieces
abbrev pub given_by : Data → Option Items → Option GivenParts
given_by value None = None
given_by value (Some listed) = given_from (listed_in listed) (or_absent 1 u64_in (get (codes "nodes") value))
    (schedule_of value)

-- the fields of a manifest: without a number of nodes it has one, and without a schedule no step
abbrev pub given_in : Data → Option GivenParts
given_in value = given_by value (option_and_then as_array (get (codes "pieces") value))

-- which field can't be read: `pieces` where the others can
abbrev pub unreadable_from : Option ℕ → Option (List PlannedStep) → Field
unreadable_from None schedule = fields.Nodes
unreadable_from (Some nodes) None = fields.Schedule
unreadable_from (Some nodes) (Some schedule) = fields.Pieces

-- a field that can't be read of a manifest of which one can't
abbrev pub unreadable_field : Data → Field
unreadable_field value = unreadable_from (or_absent 1 u64_in (get (codes "nodes") value)) (schedule_of value)

-- The text tells these fields.
abbrev pub TellsFields : List ℕ → GivenParts → Type 0
TellsFields text given = (value : Data) × IsJson text value × (given_in value ≡ Some given)

-- ---- which manifest a text is

-- whether the schedule posts a piece that isn't listed
abbrev pub posts_absent : GivenParts → Bool
posts_absent g = list_any (posts_past (length g.listed.numbers)) g.schedule

-- whether the schedule posts a packed piece
abbrev pub posts_a_packed : GivenParts → Bool
posts_a_packed g = list_any (posts_packed g.listed.numbers) g.schedule

-- the manifest of these fields
abbrev pub manifest_of : GivenParts → ManifestParts
manifest_of g = record {
  pieces = g.listed.pieces;
  packed = g.listed.packed;
  nodes = g.nodes;
  schedule = map (renumbered g.listed.numbers) g.schedule;
}

-- The text is this manifest: that of the fields that it tells, and each piece that is posted is listed, and a text.
abbrev pub IsManifestOf : List ℕ → ManifestParts → Type 0
IsManifestOf text m = (given : GivenParts) × TellsFields text given
    × (posts_absent given ≡ false) × (posts_a_packed given ≡ false) × (m ≡ manifest_of given)

-- Why the text is no manifest.
abbrev pub RefusesManifest : List ℕ → InputFault → Type 0
RefusesManifest text Memory = Unit {0}
RefusesManifest text (Json line column) = (value : Data) → IsJson text value → ⊥
RefusesManifest text (Shape field) = (value : Data) × IsJson text value × (given_in value ≡ None) × (field ≡ unreadable_field value)
RefusesManifest text Piece = (given : GivenParts) × TellsFields text given × (posts_absent given ≡ true)
RefusesManifest text Packed = (given : GivenParts) × TellsFields text given × (posts_absent given ≡ false) × (posts_a_packed given ≡ true)
RefusesManifest text (Layout fault) = ⊥
