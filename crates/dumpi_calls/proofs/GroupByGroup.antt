-- What the groups of a list tell, group by group.
use Rattle.std.proofs.Common.{◌≡◌, ◌∙◌, ℕ, ℤ, suc, ◌+◌, ◌-◌, ◌<◌, ◌≤◌, List, [], ◌∷◌, ◌++◌, length, get_or, take, drop, map, Option, Some, None, Bool, true, false, ap, sym, refl, append_assoc, arith}
use Rattle.std.specs.Prelude.{if◌then◌else◌}
use Rattle.std.specs.List.{list_all}
use Rattle.std.proofs.lemmas.List.{drop_more, length-map, length-take-le, take-append-drop}
use Rattle.mpi_model.specs.declared.told.Told.{Told}
use Rattle.dumpi_calls.specs.Outcomes.{groups_from, told_at, told_of, tolds_from}
use Rattle.dumpi_calls.specs.Skims.{tolds_with, unseen, with_told}
use Rattle.dumpi_calls.proofs.QuickNumber.{digits_before, first_digit, unlike}
use Rattle.dumpi_text.specs.Items.{group_item, items_front, many_front, next_front, with_first}
use Rattle.dumpi_text.specs.Number.{note_front}
use Rattle.dumpi_text.specs.Stamps.{◌>>=◌}
use Rattle.dumpi_text.specs.Time.{is_digit}
use Rattle.dumpi_text.specs.Tokens.{after_spaces}
use Rattle.dumpi_text.specs.Value.{after_count, all_groups, bracket_rest, core_front, field_begins, value_of, when_over}
use Rattle.dumpi_text.specs.declared.group.Field.{Field}
use Rattle.dumpi_text.specs.declared.value.Value.{Value}

-- what follows a group, by what comes next
abbrev pub by_next : ℕ → List Field → Option (Bool × List ℕ) → Option (List (List Field) × List ℕ)
by_next most first next = next >>= (λ n. if n.0 then with_first first (many_front group_item 125 most n.1) else Some (first ∷ [], n.1))

read_first : (most : ℕ) (text : List ℕ) (found : Option (List Field × List ℕ)) → group_item (after_spaces text) ≡ found
    → many_front group_item 125 (suc most) text ≡ (found >>= (λ first. by_next most first.0 (next_front 125 (after_spaces first.1))))
read_first most text found e = ap (λ (f : Option (List Field × List ℕ)). f >>= (λ first. by_next most first.0 (next_front 125 (after_spaces first.1)))) e

-- a group is told before others
moved : (tolds : List Told) (group : List Field) (o : Option (List (List Field) × List ℕ)) → tolds_with tolds (with_first group o) ≡ tolds_with (tolds ++ told_of group ∷ []) o
moved tolds group None = refl
moved tolds group (Some (groups, rest)) =
    let found : List Told → Option (List Told × List ℕ) = λ all. Some (all, rest) in
    ap found (sym (append_assoc tolds (told_of group ∷ []) (map told_of groups)))

below : (count done : ℕ) → done < count → count - done ≡ suc (count - (done + 1))
below count done h = omega arith

-- one group more, after which another one follows, by what it is
group_more : (most : ℕ) (text : List ℕ) (tolds : List Told) (told : Told) (rest more : List ℕ) (found : Option (List Field × List ℕ))
    → group_item (after_spaces text) ≡ found → with_told unseen found ≡ Some (told, rest) → next_front 125 (after_spaces rest) ≡ Some (true, more)
    → tolds_with tolds (many_front group_item 125 (suc most) text) ≡ tolds_with (tolds ++ told ∷ []) (many_front group_item 125 most more)
group_more most text tolds told rest more None e w n = cc
group_more most text tolds told rest more (Some (group, left)) e w n =
    let both : ◌≡◌ {A = Told × List ℕ} (told_of group, left) (told, rest) = cc in
    let end : left ≡ rest = ap (λ (p : Told × List ℕ). p.1) both in
    let same : told_of group ≡ told = ap (λ (p : Told × List ℕ). p.0) both in
    ap (tolds_with tolds) (read_first most text (Some (group, left)) e ∙ ap (λ (l : List ℕ). by_next most group (next_front 125 (after_spaces l))) end ∙ ap (by_next most group) n)
    ∙ moved tolds group (many_front group_item 125 most more)
    ∙ ap (λ (t : Told). tolds_with (tolds ++ t ∷ []) (many_front group_item 125 most more)) same

-- the last group, by what it is
group_last : (most : ℕ) (text : List ℕ) (tolds : List Told) (told : Told) (rest more : List ℕ) (found : Option (List Field × List ℕ))
    → group_item (after_spaces text) ≡ found → with_told unseen found ≡ Some (told, rest) → next_front 125 (after_spaces rest) ≡ Some (false, more)
    → tolds_with tolds (many_front group_item 125 (suc most) text) ≡ Some (tolds ++ told ∷ [], more)
group_last most text tolds told rest more None e w n = cc
group_last most text tolds told rest more (Some (group, left)) e w n =
    let both : ◌≡◌ {A = Told × List ℕ} (told_of group, left) (told, rest) = cc in
    let end : left ≡ rest = ap (λ (p : Told × List ℕ). p.1) both in
    let same : told_of group ≡ told = ap (λ (p : Told × List ℕ). p.0) both in
    let found : Told → Option (List Told × List ℕ) = λ t. Some (tolds ++ t ∷ [], more) in
    ap (tolds_with tolds) (read_first most text (Some (group, left)) e ∙ ap (λ (l : List ℕ). by_next most group (next_front 125 (after_spaces l))) end ∙ ap (by_next most group) n)
    ∙ ap found same

pub one_more : (count done : ℕ) (text : List ℕ) (tolds new : List Told) (told : Told) (rest more : List ℕ)
    → done < count → with_told unseen (group_item (after_spaces text)) ≡ Some (told, rest) → next_front 125 (after_spaces rest) ≡ Some (true, more) → new ≡ tolds ++ told ∷ []
    → tolds_with tolds (many_front group_item 125 (count - done) text) ≡ tolds_with new (many_front group_item 125 (count - (done + 1)) more)
one_more count done text tolds new told rest more h w n is_new =
    rw (below count done h, is_new) (group_more (count - (done + 1)) text tolds told rest more (group_item (after_spaces text)) refl w n)

pub the_last : (count done : ℕ) (text : List ℕ) (tolds new : List Told) (told : Told) (rest more : List ℕ)
    → done < count → with_told unseen (group_item (after_spaces text)) ≡ Some (told, rest) → next_front 125 (after_spaces rest) ≡ Some (false, more) → new ≡ tolds ++ told ∷ []
    → tolds_with tolds (many_front group_item 125 (count - done) text) ≡ Some (new, more)
the_last count done text tolds new told rest more h w n is_new =
    rw (below count done h, is_new) (group_last (count - (done + 1)) text tolds told rest more (group_item (after_spaces text)) refl w n)

-- ---- the list after its count

counted : (d : ℕ) (ds fields : List ℕ) → list_all is_digit (d ∷ ds) ≡ true → after_count (d ∷ (ds ++ 93 ∷ 32 ∷ 123 ∷ 123 ∷ fields)) ≡ Some (123 ∷ 123 ∷ fields)
unfolding after_count
counted d ds fields all = rw (digits_before (d ∷ ds) (93 ∷ 32 ∷ 123 ∷ 123 ∷ fields) all refl) refl

core_read : (digits fields : List ℕ) → 0 < length digits → list_all is_digit digits ≡ true
    → core_front (91 ∷ (digits ++ 93 ∷ 32 ∷ 123 ∷ 123 ∷ fields)) ≡ all_groups (items_front group_item 125 (123 ∷ fields))
unfolding field_begins
core_read [] fields some all = absurd (omega arith)
core_read (d ∷ ds) fields some all =
    let text : List ℕ = d ∷ (ds ++ 93 ∷ 32 ∷ 123 ∷ 123 ∷ fields) in
    let kept : after_spaces text ≡ text = rw (unlike d 32 (first_digit d ds all) refl) refl in
    let found : bracket_rest text ≡ all_groups (items_front group_item 125 (123 ∷ fields)) = rw (counted d ds fields all) refl in
    ap bracket_rest kept ∙ found

-- a text by what stands after its count
pub core_value : (text list : List ℕ) (count : ℕ) → 0 < count → count + 4 ≤ length text → list_all is_digit (take count text) ≡ true
    → get_or text count 0 ≡ 93 → get_or text (count + 1) 0 ≡ 32 → get_or text (count + 2) 0 ≡ 123 → get_or text (count + 3) 0 ≡ 123 → list ≡ drop (count + 3) text
    → core_front (91 ∷ text) ≡ all_groups (items_front group_item 125 list)
core_value text list count some room all one two three four is_list =
    let fields : List ℕ = drop (count + 3 + 1) text in
    let e2 : count + 1 + 1 ≡ count + 2 = omega arith in
    let e3 : count + 2 + 1 ≡ count + 3 = omega arith in
    let last : drop (count + 3) text ≡ 123 ∷ fields = drop_more text (count + 3) 0 (omega arith) ∙ ap (λ (b : ℕ). b ∷ fields) four in
    let third : drop (count + 2) text ≡ 123 ∷ 123 ∷ fields = drop_more text (count + 2) 0 (omega arith) ∙ ap (λ (b : ℕ). b ∷ drop (count + 2 + 1) text) three ∙ ap (λ (k : ℕ). 123 ∷ drop k text) e3 ∙ ap (λ (r : List ℕ). 123 ∷ r) last in
    let second : drop (count + 1) text ≡ 32 ∷ 123 ∷ 123 ∷ fields = drop_more text (count + 1) 0 (omega arith) ∙ ap (λ (b : ℕ). b ∷ drop (count + 1 + 1) text) two ∙ ap (λ (k : ℕ). 32 ∷ drop k text) e2 ∙ ap (λ (r : List ℕ). 32 ∷ r) third in
    let first : drop count text ≡ 93 ∷ 32 ∷ 123 ∷ 123 ∷ fields = drop_more text count 0 (omega arith) ∙ ap (λ (b : ℕ). b ∷ drop (count + 1) text) one ∙ ap (λ (r : List ℕ). 93 ∷ r) second in
    let parts : text ≡ take count text ++ 93 ∷ 32 ∷ 123 ∷ 123 ∷ fields = sym (take-append-drop count text) ∙ ap (λ (r : List ℕ). take count text ++ r) first in
    ap (λ (t : List ℕ). core_front (91 ∷ t)) parts
    ∙ core_read (take count text) fields (omega (arith, length-take-le count text)) all
    ∙ ap (λ (l : List ℕ). all_groups (items_front group_item 125 l)) (sym (is_list ∙ last))

-- ---- all groups

-- a value by its core, before its note
abbrev pub noted : Option (Value × List ℕ) → Option Value
noted core = core >>= (λ c. note_front (after_spaces c.1) >>= (λ note. when_over c.0 (after_spaces note.1)))

value_by_core : (text : List ℕ) → value_of (91 ∷ text) ≡ noted (core_front (91 ∷ text))
unfolding value_of
value_by_core text = refl

tolds_by : (text list : List ℕ) (tolds : List Told) (found : Option (List (List Field) × List ℕ)) → items_front group_item 125 list ≡ found
    → core_front (91 ∷ text) ≡ all_groups (items_front group_item 125 list) → tolds_with [] found ≡ Some (tolds, [])
    → map told_of (groups_from (value_of (91 ∷ text))) ≡ tolds
tolds_by text list tolds None e core w = cc w
tolds_by text list tolds (Some (groups, rest)) e core w =
    let both : ◌≡◌ {A = List Told × List ℕ} (map told_of groups, rest) (tolds, []) = cc w in
    let end : rest ≡ [] = ap (λ (p : List Told × List ℕ). p.1) both in
    let same : map told_of groups ≡ tolds = ap (λ (p : List Told × List ℕ). p.0) both in
    let found : List ℕ → Option (List (List Field) × List ℕ) = λ r. Some (groups, r) in
    ap (λ (v : Option Value). map told_of (groups_from v)) (value_by_core text ∙ ap noted (core ∙ ap all_groups (e ∙ ap found end))) ∙ same

pub tolds_value : (whole text list : List ℕ) (tolds : List Told) → whole ≡ 91 ∷ text → core_front (91 ∷ text) ≡ all_groups (items_front group_item 125 list)
    → tolds_with [] (items_front group_item 125 list) ≡ Some (tolds, []) → map told_of (groups_from (value_of whole)) ≡ tolds
tolds_value whole text list tolds is_whole core w =
    ap (λ (t : List ℕ). map told_of (groups_from (value_of t))) is_whole ∙ tolds_by text list tolds (items_front group_item 125 list) refl core w

-- ---- one status for each request

one_past : (group : List Field) (groups : List (List Field)) (place : ℕ) (requests : List ℤ) → tolds_from (group ∷ groups) (suc place) requests ≡ tolds_from groups place requests
one_past group groups place [] = refl
one_past group groups place (r ∷ rs) =
    let next : suc place + 1 ≡ suc (place + 1) = omega arith in
    ap (λ (ts : List Told). told_at groups place ∷ ts) (ap (λ (k : ℕ). tolds_from (group ∷ groups) k rs) next ∙ one_past group groups (place + 1) rs)

each_told : (groups : List (List Field)) (requests : List ℤ) → length groups ≡ length requests → map told_of groups ≡ tolds_from groups 0 requests
each_told [] [] h = refl
each_told [] (r ∷ rs) h = absurd (omega (arith, h))
each_told (g ∷ gs) [] h = absurd (omega (arith, h))
each_told (g ∷ gs) (r ∷ rs) h = ap (λ (ts : List Told). told_of g ∷ ts) (each_told gs rs (omega (arith, h)) ∙ sym (one_past g gs 0 rs))

pub whole_list : (groups : List (List Field)) (requests : List ℤ) (tolds : List Told) → map told_of groups ≡ tolds → length tolds ≡ length requests → tolds ≡ tolds_from groups 0 requests
whole_list groups requests tolds told count = sym told ∙ each_told groups requests (sym (length-map groups told_of) ∙ ap length told ∙ count)
