-- What the first bytes of a text without calls say of it.
use Rattle.std.specs.Prelude.{◌≡◌, ◌==◌, ℕ, Bool, true, false, List, [], ◌∷◌, Option, Some, None, take, if◌then◌else◌}
use Rattle.std.specs.List.{list_any}
use Rattle.text_notes.specs.declared.start.Start.{Start}
use Rattle.text_notes.specs.declared.start.Start.TheVariants.{Empty, Gzip, Bzip2, Xz, Zstd, Utf16, Mark, Binary, Lines}
use Rattle.text_notes.specs.declared.start.TheConstants.{LONGEST_FRONT}

-- the first two bytes are these
abbrev pub begins : ℕ → ℕ → List ℕ → Bool
begins one other (first ∷ second ∷ bytes) = if first == one then second == other else false
begins one other _ = false

-- the mark of a byte order in front of UTF-16 text
abbrev pub is_utf16 : List ℕ → Bool
is_utf16 front = if begins 255 254 front then true else begins 254 255 front

-- and of UTF-8
abbrev pub is_marked : List ℕ → Bool
is_marked (first ∷ second ∷ third ∷ bytes) = if first == 239 then (if second == 187 then third == 191 else false) else false
is_marked _ = false

-- some byte is 0, as a binary trace has one
abbrev pub has_zero : List ℕ → Bool
has_zero front = list_any (λ byte. byte == 0) front

-- the first three bytes are these
abbrev pub begins_by : ℕ → ℕ → ℕ → List ℕ → Bool
begins_by one two three (first ∷ second ∷ third ∷ bytes) = if first == one then (if second == two then third == three else false) else false
begins_by one two three _ = false

-- what packed a text, by its first bytes
abbrev pub packer_of : List ℕ → Option Start
packer_of front = if begins 31 139 front then Some Gzip
    else if begins_by 66 90 104 front then Some Bzip2
    else if begins_by 253 55 122 front then Some Xz
    else if begins_by 40 181 47 front then Some Zstd else None

-- what a front of some bytes is taken for that nothing packed
abbrev pub unpacked : List ℕ → Start
unpacked front = if is_utf16 front then Utf16 else if is_marked front then Mark else if has_zero front then Binary else Lines

-- the first where there is one
abbrev pub or_else : Option Start → Start → Start
or_else None other = other
or_else (Some start) other = start

-- what a front of some bytes is taken for
abbrev pub guess : List ℕ → Start
guess front = or_else (packer_of front) (unpacked front)

-- such a text has to be unpacked or written anew before it can be read
abbrev pub is_to_be_unpacked : Start → Bool
is_to_be_unpacked Empty = false
is_to_be_unpacked Mark = false
is_to_be_unpacked Lines = false
is_to_be_unpacked _ = true

-- by its first bytes
abbrev pub start_in : List ℕ → Start
start_in [] = Empty
start_in (byte ∷ bytes) = guess (byte ∷ bytes)

-- The text begins so, where its bytes are told.
abbrev pub IsStartOf : Option (List ℕ) → Start → Type 0
IsStartOf None start = Unit {0}
IsStartOf (Some text) start = start ≡ start_in (take LONGEST_FRONT text)
