-- What a group tells, field by field.
use Rattle.std.proofs.Common.{◌≡◌, ◌∙◌, ℕ, suc, ◌+◌, ◌-◌, ◌<◌, ◌≤◌, List, [], ◌∷◌, ◌++◌, Option, Some, None, Bool, true, false, eqb, ap, sym, refl, pos, cond, codes, length, length-append, arith, inl, inr}
use Rattle.std.specs.Prelude.{if◌then◌else◌}
use Rattle.std.specs.List.{list_all}
use Rattle.std.specs.Str.{bytes_eq}
use Rattle.std.proofs.lemmas.Bool.{cases_eq, false≢true}
use Rattle.mpi_model.specs.declared.told.Told.{Told}
use Rattle.dumpi_calls.specs.Outcomes.{first_number, groups_from, told_at, told_from, told_of}
use Rattle.dumpi_calls.specs.Skims.{EndsFields, number_or, number_with, seen_with, told_with, unseen, with_told}
use Rattle.dumpi_calls.specs.declared.skim.Seen.{Seen}
use Rattle.dumpi_text.specs.Items.{field_item, fields_front, many_front, next_front, with_first}
use Rattle.dumpi_text.specs.Stamps.{◌>>=◌}
use Rattle.dumpi_text.specs.Tokens.{after_spaces}
use Rattle.dumpi_text.specs.Value.{after_count, field_begins, value_of}
use Rattle.dumpi_text.specs.Number.{integer_front, number_front}
use Rattle.dumpi_text.specs.Words.{is_word_byte, word_parts}
use Rattle.dumpi_text.specs.declared.group.Field.{Field}
use Rattle.dumpi_text.specs.declared.number.Num.{Num}
use Rattle.dumpi_text.specs.declared.number.NumName.TheVariants.{Other}
use Rattle.dumpi_calls.proofs.QuickNumber.{both_true, other_byte}

-- what follows a field, by what comes next
abbrev pub by_next : ℕ → Field → Option (Bool × List ℕ) → Option (List Field × List ℕ)
by_next most first next = next >>= (λ n. if n.0 then with_first first (many_front field_item 125 most n.1) else Some (first ∷ [], n.1))

read_first : (most : ℕ) (text : List ℕ) (found : Option (Field × List ℕ)) → field_item (after_spaces text) ≡ found
    → many_front field_item 125 (suc most) text ≡ (found >>= (λ first. by_next most first.0 (next_front 125 (after_spaces first.1))))
read_first most text found e = ap (λ (f : Option (Field × List ℕ)). f >>= (λ first. by_next most first.0 (next_front 125 (after_spaces first.1)))) e

-- a number is found before others, or not
number_moved : (word : List ℕ) (found : Option Num) (field : Field) (fields : List Field) → number_or word found (field ∷ fields) ≡ number_or word (number_with word found field) fields
number_moved word (Some number) field fields = refl
number_moved word None field fields =
    elim (bytes_eq field.word word) as (λ is. ◌≡◌ {A = Option Num} (cond {A = Option Num} is (Some field.number) (first_number word fields)) (number_or word (cond {A = Option Num} is (Some field.number) None) fields))
    [ true ↦ refl | false ↦ refl ]

-- a field is told before others
moved : (seen : Seen) (field : Field) (o : Option (List Field × List ℕ)) → with_told seen (with_first field o) ≡ with_told (seen_with seen field) o
moved seen field None = refl
moved seen field (Some (fields, rest)) =
    let told : Option Num → Option Num → Option (Told × List ℕ) = λ c s. Some (told_from c s, rest) in
    ap (λ (c : Option Num). told c (number_or (codes "source") seen.source (field ∷ fields))) (number_moved (codes "cancelled") seen.cancelled field fields)
    ∙ ap (told (number_or (codes "cancelled") (number_with (codes "cancelled") seen.cancelled field) fields)) (number_moved (codes "source") seen.source field fields)

-- no field more leaves what was found
pub none_more : (word : List ℕ) (found : Option Num) → number_or word found [] ≡ found
none_more word None = refl
none_more word (Some number) = refl

below : (count done : ℕ) → done < count → count - done ≡ suc (count - (done + 1))
below count done h = omega arith

-- one field more, after which another one follows
pub one_more : (count done : ℕ) (text : List ℕ) (seen new : Seen) (field : Field) (rest more : List ℕ)
    → done < count → field_item (after_spaces text) ≡ Some (field, rest) → next_front 125 (after_spaces rest) ≡ Some (true, more) → new ≡ seen_with seen field
    → with_told seen (many_front field_item 125 (count - done) text) ≡ with_told new (many_front field_item 125 (count - (done + 1)) more)
one_more count done text seen new field rest more h e n told =
    rw (below count done h, told)
    (ap (with_told seen) (read_first (count - (done + 1)) text (Some (field, rest)) e ∙ ap (by_next (count - (done + 1)) field) n)
    ∙ moved seen field (many_front field_item 125 (count - (done + 1)) more))

-- the last field
pub the_last : (count done : ℕ) (text : List ℕ) (seen new : Seen) (field : Field) (rest more : List ℕ)
    → done < count → field_item (after_spaces text) ≡ Some (field, rest) → next_front 125 (after_spaces rest) ≡ Some (false, more) → new ≡ seen_with seen field
    → with_told seen (many_front field_item 125 (count - done) text) ≡ Some (told_with new [], more)
the_last count done text seen new field rest more h e n told =
    rw (below count done h, told)
    (ap (with_told seen) (read_first (count - (done + 1)) text (Some (field, rest)) e ∙ ap (by_next (count - (done + 1)) field) n)
    ∙ moved seen field (Some ([], more)))

-- a status of one group
status_read : (text : List ℕ) (fields : List Field) → fields_front text ≡ Some (fields, 125 ∷ []) → told_at (groups_from (value_of (91 ∷ 49 ∷ 93 ∷ 32 ∷ 123 ∷ 123 ∷ text))) 0 ≡ told_of fields
unfolding value_of after_count field_begins
status_read text fields e = rw e refl

status_by : (text : List ℕ) (told : Told) (found : Option (List Field × List ℕ)) → fields_front text ≡ found → with_told unseen found ≡ Some (told, 125 ∷ [])
    → told_at (groups_from (value_of (91 ∷ 49 ∷ 93 ∷ 32 ∷ 123 ∷ 123 ∷ text))) 0 ≡ told
status_by text told None e w = cc
status_by text told (Some (fields, rest)) e w =
    let both : ◌≡◌ {A = Told × List ℕ} (told_of fields, rest) (told, 125 ∷ []) = cc in
    let end : rest ≡ 125 ∷ [] = ap (λ (p : Told × List ℕ). p.1) both in
    let same : told_of fields ≡ told = ap (λ (p : Told × List ℕ). p.0) both in
    let found : List ℕ → Option (List Field × List ℕ) = λ r. Some (fields, r) in
    status_read text fields (e ∙ ap found end) ∙ same

-- the same, of a text by its parts
pub status_value : (text fields rest : List ℕ) (told : Told) → text ≡ 91 ∷ 49 ∷ 93 ∷ 32 ∷ 123 ∷ 123 ∷ fields → with_told unseen (fields_front fields) ≡ Some (told, rest) → rest ≡ 125 ∷ []
    → told_at (groups_from (value_of text)) 0 ≡ told
status_value text fields rest told parts tells closes =
    let end : List ℕ → Option (Told × List ℕ) = λ r. Some (told, r) in
    ap (λ (t : List ℕ). told_at (groups_from (value_of t)) 0) parts ∙ status_by fields told (fields_front fields) refl (tells ∙ ap end closes)

first_of_word : (b : ℕ) (bs : List ℕ) → list_all is_word_byte (b ∷ bs) ≡ true → is_word_byte b ≡ true
first_of_word b bs all = (both_true (is_word_byte b) (list_all is_word_byte bs) all).0

rest_of_word : (b : ℕ) (bs : List ℕ) → list_all is_word_byte (b ∷ bs) ≡ true → list_all is_word_byte bs ≡ true
rest_of_word b bs all = (both_true (is_word_byte b) (list_all is_word_byte bs) all).1

no_space : (b : ℕ) → is_word_byte b ≡ true → eqb b 32 ≡ false
no_space b word = elim (cases_eq b 32) [ inl same ↦ absurd (false≢true (ap is_word_byte (sym same) ∙ word)) | inr differs ↦ other_byte b 32 differs ]

word_before : (word rest : List ℕ) → list_all is_word_byte word ≡ true → word_parts (word ++ 61 ∷ rest) ≡ (word, 61 ∷ rest)
word_before [] rest all = refl
word_before (b ∷ bs) rest all = rw (first_of_word b bs all, word_before bs rest (rest_of_word b bs all)) refl

field_read : (word text rest : List ℕ) (number : Num) → 0 < length word → list_all is_word_byte word ≡ true → number_front (after_spaces text) ≡ Some (number, rest)
    → field_item (after_spaces (word ++ 61 ∷ text)) ≡ Some (record { word = word; number = number }, rest)
unfolding field_item
field_read [] text rest number some all e = absurd (omega arith)
field_read (b ∷ bs) text rest number some all e = rw (no_space b (first_of_word b bs all), word_before (b ∷ bs) text all, e) refl

pub word_there : (word text rest : List ℕ) → text ≡ word ++ rest → length word ≤ length text
word_there word text rest e = omega (arith, ap (λ (t : List ℕ). length t) e, length-append word rest)

-- a field by its word, its `=` and its number
pub field_of_word : (word text equals after rest : List ℕ) (number : Num) → 0 < length word → list_all is_word_byte word ≡ true → text ≡ word ++ equals → equals ≡ 61 ∷ after
    → number_front (after_spaces after) ≡ Some (number, rest) → field_item (after_spaces text) ≡ Some (record { word = word; number = number }, rest)
field_of_word word text equals after rest number some all there equal e =
    let parts : text ≡ word ++ 61 ∷ after = there ∙ ap (λ (r : List ℕ). word ++ r) equal in
    ap (λ (t : List ℕ). field_item (after_spaces t)) parts ∙ field_read word after rest number some all e

-- after a field a `,` and a space stand, and then the next field
comma_follows : (rest next : List ℕ) → rest ≡ 44 ∷ 32 ∷ next → next_front 125 (after_spaces rest) ≡ Some (true, 32 ∷ next)
comma_follows rest next e = ap (λ (r : List ℕ). next_front 125 (after_spaces r)) e

brace_follows : (rest more : List ℕ) → rest ≡ 125 ∷ more → next_front 125 (after_spaces rest) ≡ Some (false, more)
brace_follows rest more e = ap (λ (r : List ℕ). next_front 125 (after_spaces r)) e

whole_count : (text : List ℕ) → fields_front text ≡ many_front field_item 125 (length text - 0) text
whole_count text =
    let same : length text ≡ length text - 0 = omega arith in
    ap (λ (n : ℕ). many_front field_item 125 n text) same

-- the number 0, without a name
abbrev pub nought : Num
nought = record { value = pos 0; name = Other }

-- what was not cancelled, and no error
not_cancelled : (t : List ℕ) → field_item (after_spaces (32 ∷ (codes "cancelled=0, " ++ t))) ≡ Some (record { word = codes "cancelled"; number = nought }, 44 ∷ 32 ∷ t)
unfolding field_item number_front integer_front
not_cancelled t = refl

no_error : (t : List ℕ) → field_item (after_spaces (32 ∷ (codes "error=0}" ++ t))) ≡ Some (record { word = codes "error"; number = nought }, 125 ∷ t)
unfolding field_item number_front integer_front
no_error t = refl

-- the five fields that dumpi2ascii writes, of which the second and the third tell
five_fields : (text a0 t2 a2 t3 a3 more : List ℕ) (n0 n2 n3 : Num) → 5 ≤ length text
    → field_item (after_spaces text) ≡ Some (record { word = codes "bytes"; number = n0 }, a0) → a0 ≡ codes ", cancelled=0, " ++ t2
    → field_item (after_spaces t2) ≡ Some (record { word = codes "source"; number = n2 }, a2) → a2 ≡ codes ", " ++ t3
    → field_item (after_spaces t3) ≡ Some (record { word = codes "tag"; number = n3 }, a3) → a3 ≡ codes ", error=0}" ++ more
    → with_told unseen (fields_front text) ≡ Some (told_from (Some nought) (Some n2), more)
five_fields text a0 t2 a2 t3 a3 more n0 n2 n3 long e0 c0 e2 c2 e3 c3 =
    let count = length text in
    let first : Seen = record { cancelled = Some nought; source = None } in
    let both : Seen = record { cancelled = Some nought; source = Some n2 } in
    let t1 : List ℕ = codes "cancelled=0, " ++ t2 in
    let t4 : List ℕ = codes "error=0}" ++ more in
    ap (with_told unseen) (whole_count text)
    ∙ one_more count 0 text unseen unseen (record { word = codes "bytes"; number = n0 }) a0 (32 ∷ t1) (omega arith) e0 (comma_follows a0 t1 c0) refl
    ∙ one_more count 1 (32 ∷ t1) unseen first (record { word = codes "cancelled"; number = nought }) (44 ∷ 32 ∷ t2) (32 ∷ t2) (omega arith) (not_cancelled t2) (comma_follows (44 ∷ 32 ∷ t2) t2 refl) refl
    ∙ one_more count 2 (32 ∷ t2) first both (record { word = codes "source"; number = n2 }) a2 (32 ∷ t3) (omega arith) e2 (comma_follows a2 t3 c2) refl
    ∙ one_more count 3 (32 ∷ t3) both both (record { word = codes "tag"; number = n3 }) a3 (32 ∷ t4) (omega arith) e3 (comma_follows a3 t4 c3) refl
    ∙ the_last count 4 (32 ∷ t4) both both (record { word = codes "error"; number = nought }) (125 ∷ more) more (omega arith) (no_error more) (brace_follows (125 ∷ more) more refl) refl

-- the same without the last
four_fields : (text a0 t2 a2 t3 a3 more : List ℕ) (n0 n2 n3 : Num) → 5 ≤ length text
    → field_item (after_spaces text) ≡ Some (record { word = codes "bytes"; number = n0 }, a0) → a0 ≡ codes ", cancelled=0, " ++ t2
    → field_item (after_spaces t2) ≡ Some (record { word = codes "source"; number = n2 }, a2) → a2 ≡ codes ", " ++ t3
    → field_item (after_spaces t3) ≡ Some (record { word = codes "tag"; number = n3 }, a3) → a3 ≡ 125 ∷ more
    → with_told unseen (fields_front text) ≡ Some (told_from (Some nought) (Some n2), more)
four_fields text a0 t2 a2 t3 a3 more n0 n2 n3 long e0 c0 e2 c2 e3 closes =
    let count = length text in
    let first : Seen = record { cancelled = Some nought; source = None } in
    let both : Seen = record { cancelled = Some nought; source = Some n2 } in
    let t1 : List ℕ = codes "cancelled=0, " ++ t2 in
    ap (with_told unseen) (whole_count text)
    ∙ one_more count 0 text unseen unseen (record { word = codes "bytes"; number = n0 }) a0 (32 ∷ t1) (omega arith) e0 (comma_follows a0 t1 c0) refl
    ∙ one_more count 1 (32 ∷ t1) unseen first (record { word = codes "cancelled"; number = nought }) (44 ∷ 32 ∷ t2) (32 ∷ t2) (omega arith) (not_cancelled t2) (comma_follows (44 ∷ 32 ∷ t2) t2 refl) refl
    ∙ one_more count 2 (32 ∷ t2) first both (record { word = codes "source"; number = n2 }) a2 (32 ∷ t3) (omega arith) e2 (comma_follows a2 t3 c2) refl
    ∙ the_last count 3 (32 ∷ t3) both both (record { word = codes "tag"; number = n3 }) a3 more (omega arith) e3 (brace_follows a3 more closes) refl

-- the first four fields, as they stand in the text, and how they end
pub usual_fields : (text t0 a0 t2 a2 t3 a3 more : List ℕ) (n0 n2 n3 : Num)
    → text ≡ codes "bytes=" ++ t0 → number_front (after_spaces t0) ≡ Some (n0, a0)
    → a0 ≡ codes ", cancelled=0, source=" ++ t2 → number_front (after_spaces t2) ≡ Some (n2, a2)
    → a2 ≡ codes ", tag=" ++ t3 → number_front (after_spaces t3) ≡ Some (n3, a3) → EndsFields a3 more
    → with_told unseen (fields_front text) ≡ Some (told_from (Some nought) (Some n2), more)
usual_fields text t0 a0 t2 a2 t3 a3 more n0 n2 n3 p0 e0 c0 e2 c2 e3 ends =
    let long : 5 ≤ length text = omega (arith, word_there (codes "bytes=") text t0 p0) in
    let bytes = ap (λ (t : List ℕ). field_item (after_spaces t)) p0 ∙ field_read (codes "bytes") t0 a0 n0 (omega arith) refl e0 in
    let source = field_read (codes "source") t2 a2 n2 (omega arith) refl e2 in
    let tag = field_read (codes "tag") t3 a3 n3 (omega arith) refl e3 in
    elim ends [
      | inl closes ↦ four_fields text a0 (codes "source=" ++ t2) a2 (codes "tag=" ++ t3) a3 more n0 n2 n3 long bytes c0 source c2 tag closes
      | inr error ↦ five_fields text a0 (codes "source=" ++ t2) a2 (codes "tag=" ++ t3) a3 more n0 n2 n3 long bytes c0 source c2 tag error
    ]

-- the three fields of other traces, of which the second tells
pub short_fields : (text a0 t1 a1 t2 a2 more : List ℕ) (n0 n1 n2 : Num) → 5 ≤ length text
    → field_item (after_spaces text) ≡ Some (record { word = codes "bytes"; number = n0 }, a0) → a0 ≡ codes ", " ++ t1
    → field_item (after_spaces t1) ≡ Some (record { word = codes "source"; number = n1 }, a1) → a1 ≡ codes ", " ++ t2
    → field_item (after_spaces t2) ≡ Some (record { word = codes "tag"; number = n2 }, a2) → a2 ≡ 125 ∷ more
    → with_told unseen (fields_front text) ≡ Some (told_from None (Some n1), more)
short_fields text a0 t1 a1 t2 a2 more n0 n1 n2 long e0 c0 e1 c1 e2 closes =
    let count = length text in
    let told : Seen = record { cancelled = None; source = Some n1 } in
    ap (with_told unseen) (whole_count text)
    ∙ one_more count 0 text unseen unseen (record { word = codes "bytes"; number = n0 }) a0 (32 ∷ t1) (omega arith) e0 (comma_follows a0 t1 c0) refl
    ∙ one_more count 1 (32 ∷ t1) unseen told (record { word = codes "source"; number = n1 }) a1 (32 ∷ t2) (omega arith) e1 (comma_follows a1 t2 c1) refl
    ∙ the_last count 2 (32 ∷ t2) told told (record { word = codes "tag"; number = n2 }) a2 more (omega arith) e2 (brace_follows a2 more closes) refl
