-- Which requests the numbers of a list name, number by number.
use Rattle.std.proofs.Common.{◌≡◌, ◌∙◌, ℕ, ℤ, pos, suc, ◌+◌, ◌-◌, ◌<◌, ◌≤◌, List, [], ◌∷◌, ◌++◌, length, get_or, take, drop, Option, Some, None, Bool, true, false, ap, sym, refl, append_assoc, arith}
use Rattle.std.specs.Prelude.{if◌then◌else◌}
use Rattle.std.specs.List.{list_all}
use Rattle.std.proofs.lemmas.Grind.{common_steps}
use Rattle.std.proofs.lemmas.List.{drop_more, length-take-le, take-append-drop}
use Rattle.dumpi_calls.specs.Readings.{request_by, requests_of}
use Rattle.dumpi_calls.specs.Skims.{requests_from, requests_with}
use Rattle.dumpi_calls.proofs.QuickNumber.{digits_before, first_digit, number_read, rest_digits, unlike}
use Rattle.dumpi_text.specs.Items.{items_front, many_front, next_front, with_first}
use Rattle.dumpi_text.specs.Number.{note_front, number_item}
use Rattle.dumpi_text.specs.Stamps.{◌>>=◌}
use Rattle.dumpi_text.specs.Time.{is_digit, number_of}
use Rattle.dumpi_text.specs.Tokens.{after_byte, after_spaces, digit_parts}
use Rattle.dumpi_text.specs.Value.{after_count, all_numbers, brace_rest, bracket_rest, by_field, core_front, field_begins, value_of, when_over}
use Rattle.dumpi_text.specs.Words.{is_word_byte, word_parts}
use Rattle.dumpi_text.specs.declared.number.Num.{Num}
use Rattle.dumpi_text.specs.declared.number.NumName.{NumName}
use Rattle.dumpi_text.specs.declared.value.Value.{Value}

-- what follows a number, by what comes next
abbrev pub by_next : ℕ → Num → Option (Bool × List ℕ) → Option (List Num × List ℕ)
by_next most first next = next >>= (λ n. if n.0 then with_first first (many_front number_item 125 most n.1) else Some (first ∷ [], n.1))

read_first : (most : ℕ) (text : List ℕ) (found : Option (Num × List ℕ)) → number_item (after_spaces text) ≡ found
    → many_front number_item 125 (suc most) text ≡ (found >>= (λ first. by_next most first.0 (next_front 125 (after_spaces first.1))))
read_first most text found e = ap (λ (f : Option (Num × List ℕ)). f >>= (λ first. by_next most first.0 (next_front 125 (after_spaces first.1)))) e

-- a request is named before others
moved : (requests : List ℤ) (number : Num) (o : Option (List Num × List ℕ)) → requests_with requests (with_first number o) ≡ requests_with (requests ++ request_by number.name number.value ∷ []) o
moved requests number None = refl
moved requests number (Some (numbers, rest)) =
    let found : List ℤ → Option (List ℤ × List ℕ) = λ all. Some (all, rest) in
    ap found (sym (append_assoc requests (request_by number.name number.value ∷ []) (requests_of numbers)))

below : (count done : ℕ) → done < count → count - done ≡ suc (count - (done + 1))
below count done h = omega arith

-- one number more, after which another one follows
pub one_more : (count done : ℕ) (text : List ℕ) (requests new : List ℤ) (number : Num) (rest more : List ℕ)
    → done < count → number_item (after_spaces text) ≡ Some (number, rest) → next_front 125 (after_spaces rest) ≡ Some (true, more) → new ≡ requests ++ request_by number.name number.value ∷ []
    → requests_with requests (many_front number_item 125 (count - done) text) ≡ requests_with new (many_front number_item 125 (count - (done + 1)) more)
one_more count done text requests new number rest more h e n named =
    rw (below count done h, named)
    (ap (requests_with requests) (read_first (count - (done + 1)) text (Some (number, rest)) e ∙ ap (by_next (count - (done + 1)) number) n)
    ∙ moved requests number (many_front number_item 125 (count - (done + 1)) more))

-- the last number
pub the_last : (count done : ℕ) (text : List ℕ) (requests new : List ℤ) (number : Num) (rest more : List ℕ)
    → done < count → number_item (after_spaces text) ≡ Some (number, rest) → next_front 125 (after_spaces rest) ≡ Some (false, more) → new ≡ requests ++ request_by number.name number.value ∷ []
    → requests_with requests (many_front number_item 125 (count - done) text) ≡ Some (new, more)
the_last count done text requests new number rest more h e n named =
    rw (below count done h, named)
    (ap (requests_with requests) (read_first (count - (done + 1)) text (Some (number, rest)) e ∙ ap (by_next (count - (done + 1)) number) n))

-- a number of a list that is digits
item_read : (digits rest : List ℕ) (name : NumName) → 0 < length digits → list_all is_digit digits ≡ true → number_of digits < 1000000000000000000 → digit_parts rest ≡ ([], rest)
    → note_front (after_spaces rest) ≡ Some (name, rest) → number_item (digits ++ rest) ≡ Some (record { value = pos (number_of digits); name = name }, rest)
item_read [] rest name some all small none note = absurd (omega arith)
item_read (d ∷ ds) rest name some all small none note = rw (unlike d 91 (first_digit d ds all) refl) (number_read d ds rest rest name all small none note)

pub item_value : (text : List ℕ) (count : ℕ) (rest : List ℕ) (name : NumName) → 0 < count → count ≤ length text → list_all is_digit (take count text) ≡ true
    → number_of (take count text) < 1000000000000000000 → rest ≡ drop count text → digit_parts rest ≡ ([], rest) → note_front (after_spaces rest) ≡ Some (name, rest)
    → number_item text ≡ Some (record { value = pos (number_of (take count text)); name = name }, rest)
item_value text count rest name some within all small is_rest none note =
    ap number_item (sym (take-append-drop count text) ∙ ap (λ (r : List ℕ). take count text ++ r) (sym is_rest))
    ∙ item_read (take count text) rest name (omega (arith, length-take-le count text)) all small none note

-- ---- the list after its count

digit_of_word : (d : ℕ) → is_digit d ≡ true → is_word_byte d ≡ true
digit_of_word d digit = grind (arith, common_steps)

word_digits : (digits rest : List ℕ) → list_all is_digit digits ≡ true → word_parts rest ≡ ([], rest) → word_parts (digits ++ rest) ≡ (digits, rest)
word_digits [] rest all none = none
word_digits (d ∷ ds) rest all none = rw (digit_of_word d (first_digit d ds all), word_digits ds rest (rest_digits d ds all) none) refl

-- no field begins where digits stand that no `=` follows
no_field : (d : ℕ) (ds rest : List ℕ) → list_all is_digit (d ∷ ds) ≡ true → word_parts rest ≡ ([], rest) → after_byte 61 rest ≡ None → field_begins (d ∷ (ds ++ rest)) ≡ None
unfolding field_begins
no_field d ds rest all none equals = rw (word_digits (d ∷ ds) rest all none, equals) refl

numbers_read : (digits rest : List ℕ) → 0 < length digits → list_all is_digit digits ≡ true → word_parts rest ≡ ([], rest) → after_byte 61 rest ≡ None
    → brace_rest (after_spaces (digits ++ rest)) ≡ all_numbers (items_front number_item 125 (digits ++ rest))
numbers_read [] rest some all none equals = absurd (omega arith)
numbers_read (d ∷ ds) rest some all none equals =
    let digit = first_digit d ds all in
    let text : List ℕ = d ∷ (ds ++ rest) in
    let kept : after_spaces text ≡ text = rw (unlike d 32 digit refl) refl in
    let listed : by_field None text ≡ all_numbers (items_front number_item 125 text) = rw (unlike d 125 digit refl, unlike d 123 digit refl) refl in
    ap brace_rest kept ∙ ap (λ (field : Option (List ℕ)). by_field field text) (no_field d ds rest all none equals) ∙ listed

pub numbers_begin : (list : List ℕ) (count : ℕ) (rest : List ℕ) → 0 < count → count ≤ length list → list_all is_digit (take count list) ≡ true → rest ≡ drop count list
    → word_parts rest ≡ ([], rest) → after_byte 61 rest ≡ None → brace_rest (after_spaces list) ≡ all_numbers (items_front number_item 125 list)
numbers_begin list count rest some within all is_rest none equals =
    let parts : list ≡ take count list ++ rest = sym (take-append-drop count list) ∙ ap (λ (r : List ℕ). take count list ++ r) (sym is_rest) in
    let read : brace_rest (after_spaces (take count list ++ rest)) ≡ all_numbers (items_front number_item 125 (take count list ++ rest)) =
    numbers_read (take count list) rest (omega (arith, length-take-le count list)) all none equals in
    ap (λ (l : List ℕ). brace_rest (after_spaces l)) parts ∙ read ∙ ap (λ (l : List ℕ). all_numbers (items_front number_item 125 l)) (sym parts)

counted : (d : ℕ) (ds list : List ℕ) → list_all is_digit (d ∷ ds) ≡ true → after_count (d ∷ (ds ++ 93 ∷ 32 ∷ 123 ∷ list)) ≡ Some (123 ∷ list)
unfolding after_count
counted d ds list all = rw (digits_before (d ∷ ds) (93 ∷ 32 ∷ 123 ∷ list) all refl) refl

core_read : (digits list : List ℕ) → 0 < length digits → list_all is_digit digits ≡ true → core_front (91 ∷ (digits ++ 93 ∷ 32 ∷ 123 ∷ list)) ≡ brace_rest (after_spaces list)
core_read [] list some all = absurd (omega arith)
core_read (d ∷ ds) list some all =
    let text : List ℕ = d ∷ (ds ++ 93 ∷ 32 ∷ 123 ∷ list) in
    let kept : after_spaces text ≡ text = rw (unlike d 32 (first_digit d ds all) refl) refl in
    let found : bracket_rest text ≡ brace_rest (after_spaces list) = rw (counted d ds list all) refl in
    ap bracket_rest kept ∙ found

-- a text by what stands after its count
pub core_value : (text list : List ℕ) (count : ℕ) → 0 < count → count + 3 ≤ length text → list_all is_digit (take count text) ≡ true
    → get_or text count 0 ≡ 93 → get_or text (count + 1) 0 ≡ 32 → get_or text (count + 2) 0 ≡ 123 → list ≡ drop (count + 3) text
    → core_front (91 ∷ text) ≡ brace_rest (after_spaces list)
core_value text list count some room all one two three is_list =
    let e2 : count + 1 + 1 ≡ count + 2 = omega arith in
    let e3 : count + 2 + 1 ≡ count + 3 = omega arith in
    let third : drop (count + 2) text ≡ 123 ∷ list = drop_more text (count + 2) 0 (omega arith) ∙ ap (λ (b : ℕ). b ∷ drop (count + 2 + 1) text) three ∙ ap (λ (k : ℕ). 123 ∷ drop k text) e3 ∙ ap (λ (r : List ℕ). 123 ∷ r) (sym is_list) in
    let second : drop (count + 1) text ≡ 32 ∷ 123 ∷ list = drop_more text (count + 1) 0 (omega arith) ∙ ap (λ (b : ℕ). b ∷ drop (count + 1 + 1) text) two ∙ ap (λ (k : ℕ). 32 ∷ drop k text) e2 ∙ ap (λ (r : List ℕ). 32 ∷ r) third in
    let first : drop count text ≡ 93 ∷ 32 ∷ 123 ∷ list = drop_more text count 0 (omega arith) ∙ ap (λ (b : ℕ). b ∷ drop (count + 1) text) one ∙ ap (λ (r : List ℕ). 93 ∷ r) second in
    let parts : text ≡ take count text ++ 93 ∷ 32 ∷ 123 ∷ list = sym (take-append-drop count text) ∙ ap (λ (r : List ℕ). take count text ++ r) first in
    ap (λ (t : List ℕ). core_front (91 ∷ t)) parts ∙ core_read (take count text) list (omega (arith, length-take-le count text)) all

-- ---- all numbers

-- a value by its core, before its note
abbrev pub noted : Option (Value × List ℕ) → Option Value
noted core = core >>= (λ c. note_front (after_spaces c.1) >>= (λ note. when_over c.0 (after_spaces note.1)))

value_by_core : (text : List ℕ) → value_of (91 ∷ text) ≡ noted (core_front (91 ∷ text))
unfolding value_of
value_by_core text = refl

requests_by_list : (text list : List ℕ) (requests : List ℤ) (found : Option (List Num × List ℕ)) → items_front number_item 125 list ≡ found
    → core_front (91 ∷ text) ≡ all_numbers (items_front number_item 125 list) → requests_with [] found ≡ Some (requests, [])
    → requests_from (value_of (91 ∷ text)) ≡ Some requests
requests_by_list text list requests None e core w = cc w
requests_by_list text list requests (Some (numbers, rest)) e core w =
    let both : ◌≡◌ {A = List ℤ × List ℕ} (requests_of numbers, rest) (requests, []) = cc w in
    let end : rest ≡ [] = ap (λ (p : List ℤ × List ℕ). p.1) both in
    let same : requests_of numbers ≡ requests = ap (λ (p : List ℤ × List ℕ). p.0) both in
    let found : List ℕ → Option (List Num × List ℕ) = λ r. Some (numbers, r) in
    let named : List ℤ → Option (List ℤ) = λ r. Some r in
    ap requests_from (value_by_core text ∙ ap noted (core ∙ ap all_numbers (e ∙ ap found end))) ∙ ap named same

pub requests_value : (whole text list : List ℕ) (requests : List ℤ) → whole ≡ 91 ∷ text → core_front (91 ∷ text) ≡ all_numbers (items_front number_item 125 list)
    → requests_with [] (items_front number_item 125 list) ≡ Some (requests, []) → requests_from (value_of whole) ≡ Some requests
requests_value whole text list requests is_whole core w =
    ap (λ (t : List ℕ). requests_from (value_of t)) is_whole ∙ requests_by_list text list requests (items_front number_item 125 list) refl core w
