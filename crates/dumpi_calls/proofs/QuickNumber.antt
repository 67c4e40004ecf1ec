-- Numbers as dumpi2ascii writes them: digits, and a note after a space or none.
use Rattle.std.proofs.Common.{◌≡◌, ◌≢◌, ◌&&◌, ◌∙◌, ℕ, ◌+◌, ◌-◌, ◌*◌, ◌<◌, ◌≤◌, Bool, true, false, eqb, ℤ, pos, neg_ℤ, Option, Some, None, List, [], ◌∷◌, ◌++◌, length, get_or, drop, take, drop_of_length-le, nat_lt, arith, ap, sym, refl, inl, inr}
use Rattle.std.specs.List.{list_all}
use Rattle.std.proofs.lemmas.Bool.{cases_eq, false≢true}
use Rattle.std.proofs.lemmas.Grind.{common_steps}
use Rattle.std.proofs.lemmas.List.{drop_more, length-take-le, take-append-drop, take_more}
use Rattle.dumpi_text.specs.Number.{bracketed_front, integer_front, note_front, number_front}
use Rattle.dumpi_text.specs.Time.{is_digit, number_after, number_of}
use Rattle.dumpi_text.specs.Tokens.{after_spaces, digit_parts}
use Rattle.dumpi_text.specs.Stamps.{◌>>=◌}
use Rattle.dumpi_text.specs.Value.{after_count, bracket_rest, value_of, when_over}
use Rattle.dumpi_text.specs.declared.number.NumName.{NumName}
use Rattle.dumpi_text.specs.declared.number.NumName.TheVariants.{Other}
use Rattle.dumpi_text.specs.declared.value.Value.{Value}
use Rattle.dumpi_text.specs.declared.value.Value.TheVariants.{Number}

number_end : (n : ℕ) (digits : List ℕ) (d : ℕ) → number_after n (digits ++ d ∷ []) ≡ 10 * number_after n digits + (d - 48)
number_end n [] d = refl
number_end n (x ∷ xs) d = number_end (10 * n + (x - 48)) xs d

-- one digit more
pub number_more : (n : ℕ) (digits : List ℕ) (i : ℕ) → i < length digits → number_after n (take (i + 1) digits) ≡ 10 * number_after n (take i digits) + (get_or digits i 0 - 48)
number_more n digits i h = rw (take_more digits i 0 h) (number_end n (take i digits) (get_or digits i 0))

pub both_true : (p q : Bool) → (p && q) ≡ true → (p ≡ true) × (q ≡ true)
both_true true q h = (refl, h)
both_true false q h = cc

pub first_digit : (d : ℕ) (ds : List ℕ) → list_all is_digit (d ∷ ds) ≡ true → is_digit d ≡ true
first_digit d ds all = (both_true (is_digit d) (list_all is_digit ds) all).0

pub rest_digits : (d : ℕ) (ds : List ℕ) → list_all is_digit (d ∷ ds) ≡ true → list_all is_digit ds ≡ true
rest_digits d ds all = (both_true (is_digit d) (list_all is_digit ds) all).1

digits_end : (digits : List ℕ) (d : ℕ) → list_all is_digit digits ≡ true → is_digit d ≡ true → list_all is_digit (digits ++ d ∷ []) ≡ true
digits_end [] d all h = rw h refl
digits_end (x ∷ xs) d all h = rw (first_digit x xs all) (digits_end xs d (rest_digits x xs all) h)

pub digits_more : (digits : List ℕ) (i : ℕ) → i < length digits → list_all is_digit (take i digits) ≡ true → 48 ≤ get_or digits i 0 → get_or digits i 0 ≤ 57 → list_all is_digit (take (i + 1) digits) ≡ true
digits_more digits i h all low high = rw (take_more digits i 0 h) (digits_end (take i digits) (get_or digits i 0) all (grind (arith, common_steps)))

pub other_byte : (a b : ℕ) → a ≢ b → eqb a b ≡ false
other_byte a b h = grind arith

-- a digit is none of the bytes that aren't
pub unlike : (d b : ℕ) → is_digit d ≡ true → is_digit b ≡ false → eqb d b ≡ false
unlike d b digit other = elim (cases_eq d b) [ inl same ↦ absurd (false≢true (sym other ∙ ap is_digit (sym same) ∙ digit)) | inr differs ↦ other_byte d b differs ]

-- digits before what begins with none
pub digits_before : (digits rest : List ℕ) → list_all is_digit digits ≡ true → digit_parts rest ≡ ([], rest) → digit_parts (digits ++ rest) ≡ (digits, rest)
digits_before [] rest all none = none
digits_before (d ∷ ds) rest all none = rw (first_digit d ds all, digits_before ds rest (rest_digits d ds all) none) refl

-- the integer that digits are
integer_read : (d : ℕ) (ds rest : List ℕ) → list_all is_digit (d ∷ ds) ≡ true → number_of (d ∷ ds) < 1000000000000000000 → digit_parts rest ≡ ([], rest)
    → integer_front (d ∷ (ds ++ rest)) ≡ Some (pos (number_of (d ∷ ds)), rest)
unfolding integer_front
integer_read d ds rest all small none =
    let held : nat_lt 9223372036854775807 (number_of (d ∷ ds)) ≡ false = grind (arith, common_steps, small) in
    rw (unlike d 45 (first_digit d ds all) refl, digits_before (d ∷ ds) rest all none, held) refl

-- the number with its note, before what is left
pub number_read : (d : ℕ) (ds rest left : List ℕ) (name : NumName) → list_all is_digit (d ∷ ds) ≡ true → number_of (d ∷ ds) < 1000000000000000000 → digit_parts rest ≡ ([], rest)
    → note_front (after_spaces rest) ≡ Some (name, left) → number_front (d ∷ (ds ++ rest)) ≡ Some (record { value = pos (number_of (d ∷ ds)); name = name }, left)
unfolding number_front
number_read d ds rest left name all small none note = rw (integer_read d ds rest all small none, note) refl

-- the value of digits and what follows them
pub value_read : (digits rest : List ℕ) (name : NumName) → 0 < length digits → list_all is_digit digits ≡ true → number_of digits < 1000000000000000000 → digit_parts rest ≡ ([], rest)
    → note_front (after_spaces rest) ≡ Some (name, []) → value_of (digits ++ rest) ≡ Some (Number (record { value = pos (number_of digits); name = name }))
unfolding value_of
value_read [] rest name some all small none note = absurd (omega arith)
value_read (d ∷ ds) rest name some all small none note =
    let digit = first_digit d ds all in
    rw (unlike d 32 digit refl, unlike d 91 digit refl, unlike d 123 digit refl, number_read d ds rest [] name all small none note) refl

pub quick_value : (text : List ℕ) (count : ℕ) (rest : List ℕ) (name : NumName) → 0 < count → count ≤ length text → list_all is_digit (take count text) ≡ true
    → number_of (take count text) < 1000000000000000000 → rest ≡ drop count text → digit_parts rest ≡ ([], rest) → note_front (after_spaces rest) ≡ Some (name, [])
    → value_of text ≡ Some (Number (record { value = pos (number_of (take count text)); name = name }))
quick_value text count rest name some within all small is_rest none note =
    ap value_of (sym (take-append-drop count text) ∙ ap (λ (r : List ℕ). take count text ++ r) (sym is_rest))
    ∙ value_read (take count text) rest name (omega (arith, length-take-le count text)) all small none note

-- the same behind a `-`
integer_negative : (d : ℕ) (ds rest : List ℕ) → list_all is_digit (d ∷ ds) ≡ true → number_of (d ∷ ds) < 1000000000000000000 → digit_parts rest ≡ ([], rest)
    → integer_front (45 ∷ d ∷ (ds ++ rest)) ≡ Some (neg_ℤ (pos (number_of (d ∷ ds))), rest)
unfolding integer_front
integer_negative d ds rest all small none =
    let held : nat_lt 9223372036854775808 (number_of (d ∷ ds)) ≡ false = grind (arith, common_steps, small) in
    rw (digits_before (d ∷ ds) rest all none, held) refl

number_negative : (d : ℕ) (ds rest left : List ℕ) (name : NumName) → list_all is_digit (d ∷ ds) ≡ true → number_of (d ∷ ds) < 1000000000000000000 → digit_parts rest ≡ ([], rest)
    → note_front (after_spaces rest) ≡ Some (name, left) → number_front (45 ∷ d ∷ (ds ++ rest)) ≡ Some (record { value = neg_ℤ (pos (number_of (d ∷ ds))); name = name }, left)
unfolding number_front
number_negative d ds rest left name all small none note = rw (integer_negative d ds rest all small none, note) refl

pub value_negative : (digits rest : List ℕ) (name : NumName) → 0 < length digits → list_all is_digit digits ≡ true → number_of digits < 1000000000000000000 → digit_parts rest ≡ ([], rest)
    → note_front (after_spaces rest) ≡ Some (name, []) → value_of (45 ∷ (digits ++ rest)) ≡ Some (Number (record { value = neg_ℤ (pos (number_of digits)); name = name }))
unfolding value_of
value_negative [] rest name some all small none note = absurd (omega arith)
value_negative (d ∷ ds) rest name some all small none note = rw (number_negative d ds rest [] name all small none note) refl

pub quick_negative : (text : List ℕ) (count : ℕ) (rest : List ℕ) (name : NumName) (value : ℤ) → 0 < count → count ≤ length text → list_all is_digit (take count text) ≡ true
    → number_of (take count text) < 1000000000000000000 → rest ≡ drop count text → digit_parts rest ≡ ([], rest) → note_front (after_spaces rest) ≡ Some (name, [])
    → value ≡ neg_ℤ (pos (number_of (take count text))) → value_of (45 ∷ text) ≡ Some (Number (record { value = value; name = name }))
quick_negative text count rest name value some within all small is_rest none note is =
    let as_number : ℤ → Option Value = λ v. Some (Number (record { value = v; name = name })) in
    ap (λ (t : List ℕ). value_of (45 ∷ t)) (sym (take-append-drop count text) ∙ ap (λ (r : List ℕ). take count text ++ r) (sym is_rest))
    ∙ value_negative (take count text) rest name (omega (arith, length-take-le count text)) all small none note
    ∙ ap as_number (sym is)

-- no count stands before a list, since none follows
no_count : (d : ℕ) (ds : List ℕ) → list_all is_digit (d ∷ ds) ≡ true → after_count (d ∷ (ds ++ 93 ∷ [])) ≡ None
unfolding after_count
no_count d ds all = rw (digits_before (d ∷ ds) (93 ∷ []) all refl) refl

-- digits and the `]` after them
closed_read : (d : ℕ) (ds : List ℕ) → list_all is_digit (d ∷ ds) ≡ true → number_of (d ∷ ds) < 1000000000000000000
    → bracketed_front (d ∷ (ds ++ 93 ∷ [])) ≡ Some (record { value = pos (number_of (d ∷ ds)); name = Other }, [])
unfolding bracketed_front
closed_read d ds all small = rw (unlike d 32 (first_digit d ds all) refl, number_read d ds (93 ∷ []) (93 ∷ []) Other all small refl refl) refl

-- the value of digits in brackets
pub bracketed_read : (digits : List ℕ) → 0 < length digits → list_all is_digit digits ≡ true → number_of digits < 1000000000000000000
    → value_of (91 ∷ (digits ++ 93 ∷ [])) ≡ Some (Number (record { value = pos (number_of digits); name = Other }))
unfolding value_of
bracketed_read [] some all small = absurd (omega arith)
bracketed_read (d ∷ ds) some all small =
    let kept : after_spaces (d ∷ (ds ++ 93 ∷ [])) ≡ d ∷ (ds ++ 93 ∷ []) = rw (unlike d 32 (first_digit d ds all) refl) refl in
    let found : bracket_rest (d ∷ (ds ++ 93 ∷ [])) ≡ Some (Number (record { value = pos (number_of (d ∷ ds)); name = Other }), []) = rw (no_count d ds all, closed_read d ds all small) refl in
    let finish : Option (Value × List ℕ) → Option Value = λ core. core >>= (λ c. note_front (after_spaces c.1) >>= (λ note. when_over c.0 (after_spaces note.1))) in
    ap finish (ap bracket_rest kept ∙ found)

pub bracketed_value : (text : List ℕ) (count : ℕ) → 0 < count → count + 1 ≡ length text → get_or text count 0 ≡ 93 → list_all is_digit (take count text) ≡ true
    → number_of (take count text) < 1000000000000000000 → value_of (91 ∷ text) ≡ Some (Number (record { value = pos (number_of (take count text)); name = Other }))
bracketed_value text count some whole closing all small =
    let rest : drop count text ≡ 93 ∷ [] = drop_more text count 0 (omega arith) ∙ ap (λ (b : ℕ). b ∷ drop (count + 1) text) closing ∙ ap (λ (r : List ℕ). 93 ∷ r) (drop_of_length-le text (omega arith)) in
    ap (λ (t : List ℕ). value_of (91 ∷ t)) (sym (take-append-drop count text) ∙ ap (λ (r : List ℕ). take count text ++ r) rest)
    ∙ bracketed_read (take count text) (omega (arith, length-take-le count text)) all small

-- the number of digits in front of what follows them, after spaces
front_read : (digits rest left : List ℕ) (name : NumName) → 0 < length digits → list_all is_digit digits ≡ true → number_of digits < 1000000000000000000 → digit_parts rest ≡ ([], rest)
    → note_front (after_spaces rest) ≡ Some (name, left) → number_front (after_spaces (digits ++ rest)) ≡ Some (record { value = pos (number_of digits); name = name }, left)
front_read [] rest left name some all small none note = absurd (omega arith)
front_read (d ∷ ds) rest left name some all small none note = rw (unlike d 32 (first_digit d ds all) refl) (number_read d ds rest left name all small none note)

pub front_value : (text : List ℕ) (count : ℕ) (rest left : List ℕ) (name : NumName) → 0 < count → count ≤ length text → list_all is_digit (take count text) ≡ true
    → number_of (take count text) < 1000000000000000000 → rest ≡ drop count text → digit_parts rest ≡ ([], rest) → note_front (after_spaces rest) ≡ Some (name, left)
    → number_front (after_spaces text) ≡ Some (record { value = pos (number_of (take count text)); name = name }, left)
front_value text count rest left name some within all small is_rest none note =
    ap (λ (t : List ℕ). number_front (after_spaces t)) (sym (take-append-drop count text) ∙ ap (λ (r : List ℕ). take count text ++ r) (sym is_rest))
    ∙ front_read (take count text) rest left name (omega (arith, length-take-le count text)) all small none note
