-- The first lines of a text, counted chunk by chunk.
use Rattle.std.proofs.Common.{◌≡◌, ◌≢◌, ◌∙◌, ◌<◌, ◌≤◌, ◌+◌, ◌-◌, ◌^◌, ◌++◌, ℕ, zero, suc, Bool, true, false, List, [], ◌∷◌, Option, Some, None, cond, eqb, ap, arith, drop, get_or, length, min, refl, sym}
use Rattle.std.proofs.lemmas.Bool.{eq-eqb, ne_eqb}
use Rattle.std.proofs.lemmas.List.{drop_all, drop_more}
use Rattle.std.specs.Io.KnownBytes.{Consumes, IsAtEnd}
use Rattle.dumpi_text.specs.Bytes.{line_feed}
use Rattle.text_cuts.specs.Lines.{TellsLines, bytes_of_lines, missing_lines}
use Rattle.text_cuts.specs.declared.lines.FirstLines.{FirstLines}

-- the text is over
pub no_bytes : (count : ℕ) → bytes_of_lines count [] ≡ 0
no_bytes zero = refl
no_bytes (suc count) = refl

pub all_missing : (count : ℕ) → missing_lines count [] ≡ count
all_missing zero = refl
all_missing (suc count) = refl

-- one byte more
pub byte_more : (missing byte : ℕ) (rest : List ℕ) → 0 < missing
    → bytes_of_lines missing (byte ∷ rest) ≡ suc (cond (eqb byte line_feed) (bytes_of_lines (missing - 1) rest) (bytes_of_lines missing rest))
byte_more zero byte rest some = absurd (omega (arith, some))
byte_more (suc missing) byte rest some =
    let one : suc missing - 1 ≡ missing = omega arith in
    ap (λ (n : ℕ). suc (cond (eqb byte line_feed) (bytes_of_lines n rest) (bytes_of_lines (suc missing) rest))) (sym one)

pub missing_more : (missing byte : ℕ) (rest : List ℕ) → 0 < missing
    → missing_lines missing (byte ∷ rest) ≡ cond (eqb byte line_feed) (missing_lines (missing - 1) rest) (missing_lines missing rest)
missing_more zero byte rest some = absurd (omega (arith, some))
missing_more (suc missing) byte rest some =
    let one : suc missing - 1 ≡ missing = omega arith in
    ap (λ (n : ℕ). cond (eqb byte line_feed) (missing_lines n rest) (missing_lines (suc missing) rest)) (sym one)

-- the lines of two parts, one after the other
bytes_by : (count : ℕ) (byte : ℕ) (front back : List ℕ) (is : Bool)
    → ((n : ℕ) → bytes_of_lines n (front ++ back) ≡ bytes_of_lines n front + bytes_of_lines (missing_lines n front) back)
    → suc (cond is (bytes_of_lines count (front ++ back)) (bytes_of_lines (suc count) (front ++ back)))
    ≡ suc (cond is (bytes_of_lines count front) (bytes_of_lines (suc count) front)) + bytes_of_lines (cond is (missing_lines count front) (missing_lines (suc count) front)) back
bytes_by count byte front back true both = let h = both count in omega (arith, h)
bytes_by count byte front back false both = let h = both (suc count) in omega (arith, h)

pub bytes_both : (front back : List ℕ) (count : ℕ) → bytes_of_lines count (front ++ back) ≡ bytes_of_lines count front + bytes_of_lines (missing_lines count front) back
bytes_both [] back zero = refl
bytes_both [] back (suc count) = let here : bytes_of_lines (suc count) back ≡ 0 + bytes_of_lines (suc count) back = omega arith in here
bytes_both (byte ∷ front) back zero = refl
bytes_both (byte ∷ front) back (suc count) = bytes_by count byte front back (eqb byte line_feed) (bytes_both front back)

missing_by : (count : ℕ) (front back : List ℕ) (is : Bool)
    → ((n : ℕ) → missing_lines n (front ++ back) ≡ missing_lines (missing_lines n front) back)
    → cond is (missing_lines count (front ++ back)) (missing_lines (suc count) (front ++ back)) ≡ missing_lines (cond is (missing_lines count front) (missing_lines (suc count) front)) back
missing_by count front back true both = both count
missing_by count front back false both = both (suc count)

pub missing_both : (front back : List ℕ) (count : ℕ) → missing_lines count (front ++ back) ≡ missing_lines (missing_lines count front) back
missing_both [] back zero = refl
missing_both [] back (suc count) = refl
missing_both (byte ∷ front) back zero = refl
missing_both (byte ∷ front) back (suc count) = missing_by count front back (eqb byte line_feed) (missing_both front back)

-- no more bytes than there are
within_by : (count : ℕ) (bytes : List ℕ) (is : Bool) → ((n : ℕ) → bytes_of_lines n bytes ≤ length bytes)
    → suc (cond is (bytes_of_lines count bytes) (bytes_of_lines (suc count) bytes)) ≤ suc (length bytes)
within_by count bytes true within = let h = within count in omega (arith, h)
within_by count bytes false within = let h = within (suc count) in omega (arith, h)

pub lines_within : (bytes : List ℕ) (count : ℕ) → bytes_of_lines count bytes ≤ length bytes
lines_within bytes zero = omega arith
lines_within [] (suc count) = omega arith
lines_within (byte ∷ bytes) (suc count) = within_by count bytes (eqb byte line_feed) (lines_within bytes)

-- ---- a reader's text

-- So many of the lines of a text are counted, of which this is left.
pub record Counts (count : ℕ) (text rest : List ℕ) (bytes missing : ℕ) : Type 0 where
  pub exact : ℕ
  pub capped : bytes ≡ min exact (2 ^ 64 - 1)
  pub all : exact + bytes_of_lines missing rest ≡ bytes_of_lines count text
  pub missed : missing_lines missing rest ≡ missing_lines count text

abbrev pub Counted : ℕ → Option (List ℕ) → Option (List ℕ) → ℕ → ℕ → Type 0
Counted count None rest bytes missing = Unit {0}
Counted count (Some text) None bytes missing = ⊥
Counted count (Some text) (Some rest) bytes missing = Counts count text rest bytes missing

pub counts_none : (count : ℕ) (text : Option (List ℕ)) → Counted count text text 0 count
counts_none count None = tt
counts_none count (Some text) = record { exact = 0; capped = omega arith; all = omega arith; missed = refl }

capped_more : (exact bytes more most : ℕ) → bytes ≡ min exact most → min (bytes + more) most ≡ min (exact + more) most
capped_more exact bytes more most is = grind (arith, is)

pub counts_more : (count : ℕ) (text rest left : Option (List ℕ)) (chunk : List ℕ) (old new : FirstLines) → Counted count text rest old.bytes old.missing → Consumes rest left chunk
    → new.bytes ≡ min (old.bytes + bytes_of_lines old.missing chunk) (2 ^ 64 - 1) → new.missing ≡ missing_lines old.missing chunk
    → Counted count text left new.bytes new.missing
counts_more count None rest left chunk old new counted consumes bytes missing = tt
counts_more count (Some text) None left chunk old new counted consumes bytes missing = absurd counted
counts_more count (Some text) (Some rest) None chunk old new counted consumes bytes missing = absurd consumes
counts_more count (Some text) (Some rest) (Some left) chunk old new counted consumes bytes missing =
    let more = bytes_of_lines old.missing chunk in
    let split : bytes_of_lines old.missing rest ≡ more + bytes_of_lines new.missing left =
    ap (bytes_of_lines old.missing) consumes ∙ bytes_both chunk left old.missing ∙ ap (λ (n : ℕ). more + bytes_of_lines n left) (sym missing) in
    let whole = counted.all in
    record {
      exact = counted.exact + more;
      capped = bytes ∙ capped_more counted.exact old.bytes more (2 ^ 64 - 1) counted.capped;
      all = omega (arith, split, whole);
      missed = ap (λ (n : ℕ). missing_lines n left) missing ∙ sym (missing_both chunk left old.missing) ∙ ap (missing_lines old.missing) (sym consumes) ∙ counted.missed;
    }

-- the text is over
pub counts_end : (most count : ℕ) (text rest : Option (List ℕ)) (lines : FirstLines) → most < 2 ^ 64 → Counted count text rest lines.bytes lines.missing → IsAtEnd rest → TellsLines most count text lines
counts_end most count None rest lines few counted end = tt
counts_end most count (Some text) None lines few counted end = absurd counted
counts_end most count (Some text) (Some rest) lines few counted end = λ short.
    let nothing : bytes_of_lines lines.missing rest ≡ 0 = ap (bytes_of_lines lines.missing) end ∙ no_bytes lines.missing in
    let whole = counted.all in
    let within = lines_within text count in
    let capped = counted.capped in
    (grind (arith, nothing, whole, within, capped, short, few), sym (ap (missing_lines lines.missing) end ∙ all_missing lines.missing) ∙ counted.missed)

-- all lines are there
pub counts_all : (most count : ℕ) (text rest : Option (List ℕ)) (lines : FirstLines) → most < 2 ^ 64 → Counted count text rest lines.bytes lines.missing → lines.missing ≡ 0 → TellsLines most count text lines
counts_all most count None rest lines few counted none = tt
counts_all most count (Some text) None lines few counted none = absurd counted
counts_all most count (Some text) (Some rest) lines few counted none = λ short.
    let nothing : bytes_of_lines lines.missing rest ≡ 0 = ap (λ (n : ℕ). bytes_of_lines n rest) none in
    let whole = counted.all in
    let within = lines_within text count in
    let capped = counted.capped in
    (grind (arith, nothing, whole, within, capped, short, few), none ∙ sym (ap (λ (n : ℕ). missing_lines n rest) none) ∙ counted.missed)

nothing_left : (missing : ℕ) (rest : List ℕ) → bytes_of_lines missing rest ≡ 0 → missing_lines missing rest ≡ missing
nothing_left zero bytes none = refl
nothing_left (suc missing) [] none = refl
nothing_left (suc missing) (byte ∷ bytes) none = absurd (omega (arith, none))

-- as many bytes were counted as there can be
pub counts_most : (most count : ℕ) (text rest : Option (List ℕ)) (lines : FirstLines) → most < 2 ^ 64 → Counted count text rest lines.bytes lines.missing → most ≤ lines.bytes → TellsLines most count text lines
counts_most most count None rest lines few counted full = tt
counts_most most count (Some text) None lines few counted full = absurd counted
counts_most most count (Some text) (Some rest) lines few counted full = λ short.
    let whole = counted.all in
    let within = lines_within text count in
    let capped = counted.capped in
    let nothing : bytes_of_lines lines.missing rest ≡ 0 = grind (arith, whole, within, capped, short, few, full) in
    (grind (arith, nothing, whole, within, capped, short, few), sym (nothing_left lines.missing rest nothing) ∙ counted.missed)

-- ---- a chunk, byte by byte

-- no line is missing any more
pub counted_none : (bytes missing : ℕ) (rest : List ℕ) (all : ℕ) → missing ≡ 0 → bytes ≤ 2 ^ 64 - 1 → min (bytes + bytes_of_lines missing rest) (2 ^ 64 - 1) ≡ all → bytes ≡ all
counted_none bytes missing rest all none fits is =
    let nothing : bytes_of_lines missing rest ≡ 0 = ap (λ (n : ℕ). bytes_of_lines n rest) none in
    grind (arith, nothing, fits, is)

pub missed_none : (missing : ℕ) (rest : List ℕ) (all : ℕ) → missing ≡ 0 → missing_lines missing rest ≡ all → missing ≡ all
missed_none missing rest all none is = none ∙ sym (ap (λ (n : ℕ). missing_lines n rest) none) ∙ is

-- the chunk is over
pub counted_end : (bytes missing at : ℕ) (chunk : List ℕ) (all : ℕ) → length chunk ≤ at → bytes ≤ 2 ^ 64 - 1 → min (bytes + bytes_of_lines missing (drop at chunk)) (2 ^ 64 - 1) ≡ all → bytes ≡ all
counted_end bytes missing at chunk all over fits is =
    let nothing : bytes_of_lines missing (drop at chunk) ≡ 0 = ap (bytes_of_lines missing) (drop_all at chunk over) ∙ no_bytes missing in
    grind (arith, nothing, fits, is)

pub missed_end : (missing at : ℕ) (chunk : List ℕ) (all : ℕ) → length chunk ≤ at → missing_lines missing (drop at chunk) ≡ all → missing ≡ all
missed_end missing at chunk all over is = sym (ap (missing_lines missing) (drop_all at chunk over) ∙ all_missing missing) ∙ is

-- one byte more: a line feed, or another
pub counted_feed : (bytes missing at more fewer : ℕ) (chunk : List ℕ) → at < length chunk → 0 < missing → get_or chunk at 0 ≡ line_feed → more ≡ min (bytes + 1) (2 ^ 64 - 1) → fewer ≡ missing - 1
    → (min (more + bytes_of_lines fewer (drop (at + 1) chunk)) (2 ^ 64 - 1) ≡ min (bytes + bytes_of_lines missing (drop at chunk)) (2 ^ 64 - 1)) × (missing_lines fewer (drop (at + 1) chunk) ≡ missing_lines missing (drop at chunk))
counted_feed bytes missing at more fewer chunk within some is more_is fewer_is =
    let byte = get_or chunk at 0 in
    let rest = drop (at + 1) chunk in
    let here = drop_more chunk at 0 within in
    let test : eqb byte line_feed ≡ true = eq-eqb byte line_feed is in
    let all : bytes_of_lines missing (drop at chunk) ≡ suc (bytes_of_lines (missing - 1) rest) =
    ap (bytes_of_lines missing) here ∙ byte_more missing byte rest some ∙ ap (λ (b : Bool). suc (cond b (bytes_of_lines (missing - 1) rest) (bytes_of_lines missing rest))) test in
    let left : missing_lines missing (drop at chunk) ≡ missing_lines (missing - 1) rest =
    ap (missing_lines missing) here ∙ missing_more missing byte rest some ∙ ap (λ (b : Bool). cond b (missing_lines (missing - 1) rest) (missing_lines missing rest)) test in
    let same : bytes_of_lines fewer rest ≡ bytes_of_lines (missing - 1) rest = ap (λ (n : ℕ). bytes_of_lines n rest) fewer_is in
    let sum : bytes + 1 + bytes_of_lines fewer rest ≡ bytes + bytes_of_lines missing (drop at chunk) = omega (arith, all, same) in
    (capped_more (bytes + 1) more (bytes_of_lines fewer rest) (2 ^ 64 - 1) more_is ∙ ap (λ (n : ℕ). min n (2 ^ 64 - 1)) sum, ap (λ (n : ℕ). missing_lines n rest) fewer_is ∙ sym left)

pub counted_other : (bytes missing at more fewer : ℕ) (chunk : List ℕ) → at < length chunk → 0 < missing → get_or chunk at 0 ≢ line_feed → more ≡ min (bytes + 1) (2 ^ 64 - 1) → fewer ≡ missing
    → (min (more + bytes_of_lines fewer (drop (at + 1) chunk)) (2 ^ 64 - 1) ≡ min (bytes + bytes_of_lines missing (drop at chunk)) (2 ^ 64 - 1)) × (missing_lines fewer (drop (at + 1) chunk) ≡ missing_lines missing (drop at chunk))
counted_other bytes missing at more fewer chunk within some other more_is fewer_is =
    let byte = get_or chunk at 0 in
    let rest = drop (at + 1) chunk in
    let here = drop_more chunk at 0 within in
    let test : eqb byte line_feed ≡ false = ne_eqb byte line_feed other in
    let all : bytes_of_lines missing (drop at chunk) ≡ suc (bytes_of_lines missing rest) =
    ap (bytes_of_lines missing) here ∙ byte_more missing byte rest some ∙ ap (λ (b : Bool). suc (cond b (bytes_of_lines (missing - 1) rest) (bytes_of_lines missing rest))) test in
    let left : missing_lines missing (drop at chunk) ≡ missing_lines missing rest =
    ap (missing_lines missing) here ∙ missing_more missing byte rest some ∙ ap (λ (b : Bool). cond b (missing_lines (missing - 1) rest) (missing_lines missing rest)) test in
    let same : bytes_of_lines fewer rest ≡ bytes_of_lines missing rest = ap (λ (n : ℕ). bytes_of_lines n rest) fewer_is in
    let sum : bytes + 1 + bytes_of_lines fewer rest ≡ bytes + bytes_of_lines missing (drop at chunk) = omega (arith, all, same) in
    (capped_more (bytes + 1) more (bytes_of_lines fewer rest) (2 ^ 64 - 1) more_is ∙ ap (λ (n : ℕ). min n (2 ^ 64 - 1)) sum, ap (λ (n : ℕ). missing_lines n rest) fewer_is ∙ sym left)

-- a chunk that is not empty has a byte, where a line is missing
pub some_counted : (bytes missing most more : ℕ) (chunk : List ℕ) → 0 < missing → bytes < most → most < 2 ^ 64 → 0 < length chunk → more ≡ min (bytes + bytes_of_lines missing chunk) (2 ^ 64 - 1) → bytes < more
some_counted bytes missing most more [] some below few there is = absurd (omega (arith, there))
some_counted bytes missing most more (byte ∷ chunk) some below few there is = let one = byte_more missing byte chunk some in grind (arith, one, below, few, is)
