-- What is said of the texts that were read.
use Rattle.std.specs.Prelude.{◌+◌, ◌-◌, ◌&&◌, ◌||◌, ◌==◌, ℕ, zero, suc, Bool, true, false, not, List, [], ◌∷◌, ◌++◌, length, codes, decimal, filter, take, nat_le, nat_lt, is_some, Option, Some, None, if◌then◌else◌}
use Rattle.std.specs.List.{flat_map, list_any}
use Rattle.call_words.specs.More.{more_text}
use Rattle.call_words.specs.Ranges.{named_ranks_text}
use Rattle.text_notes.specs.Noted.{CallNotesParts, LookNeeds, UnreadParts, counted, sum_of}
use Rattle.text_notes.specs.Places.{first_where, place_of}
use Rattle.dumpi_calls.specs.declared.walking.Walked.{Walked}
use Rattle.text_notes.specs.declared.totals.TheConstants.{MOST_SHOWN}
use Rattle.text_notes.specs.declared.start.Start.{Start}
use Rattle.text_notes.specs.declared.start.Start.TheVariants.{Empty, Gzip, Bzip2, Xz, Zstd, Utf16, Mark, Binary, Lines}
use Rattle.text_notes.specs.declared.words.Kind.{Kind}
use Rattle.text_notes.specs.declared.words.Kind.TheVariants.{Unread, Callless, Skipped}

-- What was noted of the text of a piece: the piece's rank and first call, the name of its file and how a line shows it,
-- how many calls it has and how many lines were skipped, the first of these, the line of its last call, where that has
-- not returned, the functions of its calls that aren't read, for what it is looked at a second time, and, where it was
-- looked at again, what a text without calls is taken for.
pub record NoteParts : Type 0 where
  pub rank : ℕ
  pub first : ℕ
  pub path : List ℕ
  pub file : List ℕ
  pub calls : ℕ
  pub skipped : ℕ
  pub first_skipped : Option ℕ
  pub unfinished : Option ℕ
  pub unread : List UnreadParts
  pub needs : LookNeeds
  pub start : Option Start

-- the same, by the piece's rank and first call, the name of its file and how a line shows it, and what was told of its
-- text
abbrev pub noted_of : ℕ × ℕ → List ℕ → List ℕ → Walked → CallNotesParts → Option Start → NoteParts
noted_of piece path file walked notes start = record {
  rank = piece.0;
  first = piece.1;
  path = path;
  file = file;
  calls = walked.calls;
  skipped = walked.skipped;
  first_skipped = walked.first_skipped;
  unfinished = walked.unfinished;
  unread = notes.unread;
  needs = notes.needs;
  start = start;
}

-- what a walk over the text told
abbrev pub walked_in : NoteParts → Walked
walked_in note = record { calls = note.calls; skipped = note.skipped; first_skipped = note.first_skipped; unfinished = note.unfinished }

-- ---- names of functions: what isn't printed of ASCII stands as `?`, so nothing of a name is an order to a terminal

-- a byte of a name: a printed character of ASCII, or `?`
abbrev pub byte_text : ℕ → List ℕ
byte_text byte = if nat_lt 32 byte && nat_lt byte 127 then byte ∷ [] else codes "?"

-- the name of a function
abbrev pub name_text : List ℕ → List ℕ
name_text name = flat_map byte_text name

-- ---- all texts together

-- the first ten functions of calls that aren't read, each with its calls, and how many calls of others there are
pub record Totals : Type 0 where
  pub functions : List UnreadParts
  pub others : ℕ

-- the calls of no text
abbrev pub no_totals : Totals
no_totals = record { functions = []; others = 0 }

-- a function is listed, or there is room for it
abbrev pub has_room : List ℕ → List UnreadParts → Bool
has_room name functions = is_some (place_of name functions) || nat_lt (length functions) MOST_SHOWN

-- the calls of a function of one text more
abbrev pub added : Totals → UnreadParts → Totals
added t f =
    if has_room f.name t.functions
    then record { functions = counted f.first f.count f.name t.functions; others = t.others }
    else record { functions = t.functions; others = sum_of t.others f.count }

-- the calls with those of further functions
abbrev pub all_added : Totals → List UnreadParts → Totals
all_added t [] = t
all_added t (f ∷ functions) = all_added (added t f) functions

-- the functions of a text that aren't read
abbrev pub unread_of : NoteParts → List UnreadParts
unread_of note = note.unread

-- the functions that aren't read, over all texts
abbrev pub totals_of : List NoteParts → Totals
totals_of notes = all_added no_totals (flat_map unread_of notes)

-- `MPI_Isendrecv 4`
abbrev pub count_text : UnreadParts → List ℕ
count_text f = name_text f.name ++ codes " " ++ decimal f.count

-- a further function with its calls
abbrev pub next_text : UnreadParts → List ℕ
next_text f = codes ", " ++ count_text f

-- how many calls of others there are, behind those that are named
abbrev pub others_text : ℕ → List ℕ
others_text zero = []
others_text (suc n) = codes ", others " ++ decimal (suc n)

-- `  calls that are not read: MPI_Isendrecv 4, MPI_Psend_init 8`
abbrev pub totals_text : List UnreadParts → ℕ → List ℕ
totals_text [] others = []
totals_text (f ∷ functions) others =
    codes "  calls that are not read: " ++ count_text f ++ flat_map next_text functions ++ others_text others ++ codes "\n"

-- the line of all functions that aren't read
abbrev pub functions_text : Totals → List ℕ
functions_text t = totals_text t.functions t.others

-- ---- ranks of which nothing is known

-- a text of this rank
abbrev pub is_of_rank : ℕ → NoteParts → Bool
is_of_rank rank note = note.rank == rank

-- no text of the rank was given
abbrev pub has_no_text : List NoteParts → ℕ → Bool
has_no_text notes rank = not (list_any (is_of_rank rank) notes)

-- those that have no text
abbrev pub pieceless : List NoteParts → List ℕ → List ℕ
pieceless notes unknown = filter (has_no_text notes) unknown

-- `  no piece tells anything of ranks 3, 5`
abbrev pub these_pieceless_text : List ℕ → List ℕ
these_pieceless_text ranks = codes "  no piece tells anything of " ++ named_ranks_text ranks ++ codes "\n"

-- the ranks without a text: nothing where each has one
abbrev pub pieceless_text : List ℕ → List ℕ
pieceless_text [] = []
pieceless_text (r ∷ ranks) = these_pieceless_text (r ∷ ranks)

-- ---- text by text

-- `  rank 0, call 17: MPI_Isendrecv is not read (r0.txt)`, of the first such call
abbrev pub unread_text : NoteParts → List UnreadParts → List ℕ
unread_text note [] = []
unread_text note (f ∷ functions) =
    codes "  rank " ++ decimal note.rank ++ codes ", call " ++ decimal (sum_of note.first f.first) ++ codes ": "
    ++ name_text f.name ++ codes " is not read (" ++ note.file ++ codes ")\n"

-- what a text without calls is taken for
abbrev pub guess_text : Start → List ℕ
guess_text Empty = codes " is empty\n"
guess_text Gzip = codes " has no call, and begins as what gzip packed\n"
guess_text Bzip2 = codes " has no call, and begins as what bzip2 packed\n"
guess_text Xz = codes " has no call, and begins as what xz packed\n"
guess_text Zstd = codes " has no call, and begins as what zstd packed\n"
guess_text Utf16 = codes " has no call, and begins as UTF-16\n"
guess_text Mark = codes " has no call, and begins with a byte order mark\n"
guess_text Binary = codes " has no call, and a byte 0, as a binary trace\n"
guess_text Lines = codes " has no call\n"

-- the same, also where the text can't be looked at
abbrev pub start_text : Option Start → List ℕ
start_text None = codes " has no call\n"
start_text (Some start) = guess_text start

-- the line of a text without calls
abbrev pub callless_text : NoteParts → List ℕ
callless_text note = codes "  " ++ note.file ++ start_text note.start

-- `, the first of them line 9`
abbrev pub first_skipped_text : Option ℕ → List ℕ
first_skipped_text None = []
first_skipped_text (Some line) = codes ", the first of them line " ++ decimal line

-- the line of a text of which lines were skipped
abbrev pub skipped_text : NoteParts → List ℕ
skipped_text note = codes "  lines of " ++ note.file ++ codes " that were skipped: " ++ decimal note.skipped ++ first_skipped_text note.first_skipped ++ codes "\n"

-- whether there is something of a kind to say of a text
abbrev pub has_unread : List UnreadParts → Bool
has_unread [] = false
has_unread (f ∷ functions) = true

-- a text has something of this kind to note
abbrev pub has_kind : Kind → NoteParts → Bool
has_kind Unread note = has_unread note.unread
has_kind Callless note = note.calls == 0
has_kind Skipped note = nat_lt 0 note.skipped

-- the line of a text, of one kind
abbrev pub line_text : Kind → NoteParts → List ℕ
line_text Unread note = unread_text note note.unread
line_text Callless note = callless_text note
line_text Skipped note = skipped_text note

-- the texts of which something of the kind is to be said
abbrev pub of_kind : Kind → List NoteParts → List NoteParts
of_kind kind notes = filter (has_kind kind) notes

-- a line for each of the first ten, and how many more there are
abbrev pub kind_text : Kind → List NoteParts → List ℕ
kind_text kind notes = flat_map (line_text kind) (take MOST_SHOWN (of_kind kind notes)) ++ more_text (length (of_kind kind notes) - MOST_SHOWN)

-- ---- the whole

-- all that is noted of the texts
abbrev pub notes_text : List NoteParts → List ℕ
notes_text notes = functions_text (totals_of notes) ++ kind_text Unread notes ++ kind_text Callless notes ++ kind_text Skipped notes

-- ---- where calls stand

-- the text has the call of this number of a rank
abbrev pub has_call : ℕ → ℕ → NoteParts → Bool
has_call rank call note = note.rank == rank && (nat_le note.first call && nat_lt (call - note.first) note.calls)

-- the first text that has it
abbrev pub note_of : ℕ → ℕ → List NoteParts → Option ℕ
note_of rank call notes = first_where (has_call rank call) notes

-- the line where a call of this number of the text begins, where it is told: the last call's, unless it has returned
abbrev pub line_in_note : ℕ → NoteParts → Option ℕ
line_in_note number note = if number + 1 == note.calls then note.unfinished else None
