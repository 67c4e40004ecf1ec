-- The input of a run that is made of texts, and why none is.
use Rattle.std.specs.Prelude.{◌≡◌, ◌<◌, ◌≤◌, ◌⊎◌, ◌++◌, ℕ, Bool, true, false, List, [], Option, Some, None, ◌-◌, ◌^◌, codes, is_some, length, map, min, slice_get, string_bytes, if◌then◌else◌}
use Rattle.mpi_model.specs.Layouts.{Holds}
use Rattle.mpi_model.specs.declared.layout.Sends.{Sends}
use Rattle.mpi_model.specs.declared.layout.TheConstants.{MOST_RANKS}
use Rattle.comm_makings.specs.World.{world_of}
use Rattle.comm_makings.specs.declared.calls.RankCalls.{RankCalls}
use Rattle.run_files.specs.Manifests.{manifest_of_texts}
use Rattle.run_files.specs.Values.{line_of}
use Rattle.text_layouts.specs.Found.{found_value}
use Rattle.text_layouts.specs.Making.{AreObjectsOf, RefusesMaking}
use Rattle.text_layouts.specs.Names.{IsOrder, IsTwice, numbers_of}
use Rattle.text_layouts.specs.Seats.{beyond_by, in_order, missing_from, missing_text, seats_by, spread_by, texts_from, told_size}
use Rattle.text_layouts.specs.Words.{notes_text}
use Rattle.text_layouts.specs.declared.made.Made.{Made}
use Rattle.text_layouts.specs.declared.order.Order.{Order}
use Rattle.text_layouts.specs.declared.order.Order.TheVariants as orders
use Rattle.run_inputs.specs.TextCalls.{AllSay, RefusesOne}
use Rattle.run_inputs.specs.declared.load.prepared.Saying.{Saying}
use Rattle.run_inputs.specs.declared.load.prepared.Saying.TheVariants as sayings
use Rattle.run_inputs.specs.declared.faults.init_fault.InitFault.{InitFault}
use Rattle.run_inputs.specs.declared.faults.init_fault.InitFault.TheVariants.{Memory, TooMany, Twice, Beyond, Made as NotMade}

-- These are the names at those places, in their order.
abbrev pub AreAt : List (List ℕ) → List ℕ → List (List ℕ) → Type 0
AreAt names places ordered = map (λ place. slice_get names place) places ≡ map (λ name. Some name) ordered

-- the names by rank, where which is of which rank is told so
abbrev pub IsOrdered : List (List ℕ) → Order → List (List ℕ) → Type 0
IsOrdered names orders.Words ordered = ordered ≡ names
IsOrdered names (orders.Digits places) ordered = AreAt names places.items ordered
IsOrdered names (orders.Twice first second) ordered = ⊥

-- the digits at the ends of the names tell which is of which rank
abbrev pub tells_ranks : Order → Bool
tells_ranks (orders.Digits places) = true
tells_ranks _ = false

-- the names by rank: by the digits at their ends, where those tell it, or else in the order of the words
abbrev pub IsByRank : List (List ℕ) → Bool → List (List ℕ) → Type 0
IsByRank words by_digits names = (order : Order) × IsOrder (numbers_of words) order × IsOrdered words order names × (by_digits ≡ tells_ranks order)

-- The texts that these words name are those of these ranks: in the order of their names' digits or else of the words;
-- but by the numbers of their names, with ranks that have no text, where these and what the texts in that order tell of
-- the size of MPI_COMM_WORLD say so. None has the number of a rank that no layout has.
pub record AreSeated (file : List ℕ → Option (List ℕ)) (words : List (List ℕ)) (seats : List (Option (List ℕ))) : Type 0 where
  pub by_digits : Bool
  pub names : List (List ℕ)
  pub by_rank : IsByRank words by_digits names
  pub read : List RankCalls
  pub count : ℕ
  pub say : AllSay file (in_order names) read count
  pub within : beyond_by (told_size read) names ≡ None
  pub are : seats ≡ seats_by (told_size read) names

-- the digits of the names tell which text is of which rank
abbrev pub by_numbers : {file : List ℕ → Option (List ℕ)} {words : List (List ℕ)} {seats : List (Option (List ℕ))} → AreSeated file words seats → Bool
by_numbers s = if is_some (spread_by (told_size s.read) s.names) then true else s.by_digits

-- What a run reads is made of what the texts of these ranks say.
pub record IsMadeBy (sends : Sends) (seats : List (Option (List ℕ))) (ranks : List RankCalls) (made : Made) : Type 0 where
  pub world : made.derived.world ≡ world_of ranks
  pub objects : AreObjectsOf sends ranks made.derived.comms.items
  pub layout : Holds (length ranks) made.derived.world sends made.derived.comms.items made.input.layout
  pub manifest : made.input.manifest ≡ manifest_of_texts (texts_from 0 seats)

-- The input of a run is made of the texts that these words name.
pub record IsMadeOf (file : List ℕ → Option (List ℕ)) (sends : Sends) (words : List (List ℕ)) (made : Made) : Type 0 where
  pub seats : List (Option (List ℕ))
  pub seated : AreSeated file words seats
  pub ranks : List RankCalls
  pub calls : ℕ
  pub say : AllSay file seats ranks calls
  pub is_by : IsMadeBy sends seats ranks made

-- ---- why nothing is made

-- More texts than a layout can have ranks, else two texts of one rank by the digits of their names.
abbrev pub RefusesNames : List (List ℕ) → InitFault → Type 0
RefusesNames words Memory = Unit {0}
RefusesNames words TooMany = MOST_RANKS < length words
RefusesNames words (Twice path) = (length words ≤ MOST_RANKS) × (one other : ℕ) × IsTwice (numbers_of words) one other × (slice_get words other ≡ Some (string_bytes path))
RefusesNames words _ = ⊥

-- The first of these texts whose name has the number of a rank that no layout has, by the size that is told.
abbrev pub RefusesBeyond : List RankCalls → List (List ℕ) → InitFault → Type 0
RefusesBeyond read names Memory = Unit {0}
RefusesBeyond read names (Beyond path) = beyond_by (told_size read) names ≡ Some (string_bytes path)
RefusesBeyond read names _ = ⊥

-- By its number a name is of a rank that no layout has: by what the texts in the order of their names' digits or of the
-- words tell of the size of MPI_COMM_WORLD.
abbrev pub RefusesNumber : (List ℕ → Option (List ℕ)) → List (List ℕ) → InitFault → Type 0
RefusesNumber file words fault = (names : List (List ℕ)) × ((by_digits : Bool) × IsByRank words by_digits names)
    × ((read : List RankCalls) × ((count : ℕ) × AllSay file (in_order names) read count) × RefusesBeyond read names fault)

-- What the texts of these ranks say makes no layout.
abbrev pub RefusesMade : (List ℕ → Option (List ℕ)) → List (Option (List ℕ)) → InitFault → Type 0
RefusesMade file seats (NotMade fault) = (ranks : List RankCalls) × ((calls : ℕ) × AllSay file seats ranks calls) × RefusesMaking ranks fault
RefusesMade file seats _ = ⊥

-- Why nothing is made of the texts that these words name: their names, then one of the texts in their order, then the
-- number of a name, then one of the texts of the ranks, then what they say together.
abbrev pub RefusesWords : (List ℕ → Option (List ℕ)) → List (List ℕ) → InitFault → Type 0
RefusesWords file words fault = RefusesNames words fault
    ⊎ (((names : List (List ℕ)) × ((by_digits : Bool) × IsByRank words by_digits names) × (length words ≤ MOST_RANKS) × RefusesOne file (in_order names) fault)
    ⊎ (RefusesNumber file words fault
    ⊎ ((seats : List (Option (List ℕ))) × AreSeated file words seats × (RefusesOne file seats fault ⊎ RefusesMade file seats fault))))

-- ---- what is said of it

-- that the names' digits told the ranks, where they did
abbrev pub digits_text : Bool → List ℕ
digits_text true = codes "ranks by the digits at the ends of the names\n"
digits_text false = []

-- How it is said what was found: in words, or as JSON, which has the names of the layout's and the manifest's file.
pub data Form : Type 0 where
  as_words : Form
  as_json : List ℕ → List ℕ → Form

-- how it is said
abbrev pub form_of : Saying → Form
form_of sayings.Words = as_words
form_of (sayings.Json layout manifest) = as_json layout.now manifest.now

-- what is said in words of so many ranks with so many calls and of what they made: by what their ranks are known, which
-- have no text, and what was found
abbrev pub words_text : Bool → List ℕ → ℕ → ℕ → Made → List ℕ
words_text by_digits missing ranks calls made = digits_text by_digits ++ missing_text [] missing (codes "\n")
    ++ notes_text ranks calls made.derived.comms.items made.derived.left_out.items

-- the same, in this form
abbrev pub said_text : Form → Bool → List ℕ → ℕ → ℕ → Made → List ℕ
said_text as_words by_digits missing ranks calls made = words_text by_digits missing ranks calls made
said_text (as_json layout manifest) by_digits missing ranks calls made = line_of (found_value layout manifest by_digits missing calls made)

-- what is said of the texts of these ranks
abbrev pub made_notes : Form → Bool → List (Option (List ℕ)) → ℕ → ℕ → Made → List ℕ
made_notes form by_digits seats ranks calls made = said_text form by_digits (missing_from 0 seats) ranks calls made

-- what is said of what was made, whose calls are counted up to 2^64 - 1
abbrev pub notes_of : {file : List ℕ → Option (List ℕ)} {sends : Sends} {words : List (List ℕ)} → Form → (made : Made) → IsMadeOf file sends words made → List ℕ
notes_of form made is = made_notes form (by_numbers is.seated) is.seats (length is.ranks) (min is.calls (2 ^ 64 - 1)) made

-- What a run reads is made by what the texts of these ranks say, and this is said of it.
abbrev pub IsPreparedBy : Form → Sends → List (Option (List ℕ)) → Bool → List RankCalls → ℕ → Made → List ℕ → Type 0
IsPreparedBy form sends seats by_digits ranks calls made notes = IsMadeBy sends seats ranks made × (notes ≡ made_notes form by_digits seats (length ranks) calls made)

-- What a run reads is made of the texts that these words name, by rank, and this is said of it.
abbrev pub IsPrepared : (List ℕ → Option (List ℕ)) → Form → Sends → List (List ℕ) → Made → List ℕ → Type 0
IsPrepared file form sends words made notes = (is : IsMadeOf file sends words made) × (notes ≡ notes_of form made is)

-- why nothing is made by what ranks say, unless memory was wanting
abbrev pub RefusesSaid : List RankCalls → InitFault → Type 0
RefusesSaid ranks Memory = Unit {0}
RefusesSaid ranks (NotMade fault) = RefusesMaking ranks fault
RefusesSaid ranks _ = ⊥
