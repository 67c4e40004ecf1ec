-- What holds the numbers that calls list, one call more, and the steps of these calls.
use Rattle.std.proofs.Common.{◌≡◌, ℕ, zero, suc, ◌+◌, ◌-◌, ◌<◌, ◌≤◌, Bool, true, false, List, [], ◌∷◌, ◌++◌, map, take, drop, get_or, length, reverse, refl, sym, ◌∙◌, ap, arith, append_assoc, length-append}
use Rattle.std.specs.Prelude.{ℤ, Option, Some, None, slice_get, if◌then◌else◌}
use Rattle.std.specs.List.{cons_option, filter_map}
use Rattle.std.specs.Map.{lookup}
use Rattle.std.specs.Option.{option_map}
use Rattle.std.specs.Ordering.{int_eq}
use Rattle.std.proofs.lemmas.Grind.{reverse_onto}
use Rattle.std.proofs.lemmas.List.{append-nil, drop_more, drop-map, length-map, length-reverse, length-take-le, map-append, reverse-append, take-map, take_more}
use Rattle.std.proofs.Math.Seq.{drop-append_seam, take-append_seam}
use Rattle.trace_ops.specs.declared.held.Init.{Init as Lent}
use Rattle.mpi_model.specs.declared.event.OpName.{OpName}
use Rattle.trace_ops.specs.Active.{held_of, held_still, idle_of, rising, unless_active}
use Rattle.trace_ops.specs.Calls.{Entry}
use Rattle.trace_ops.specs.Held.{Holds, Init, changes_hold, held_in, hold_by, inits_at, inits_from, plain_init}
use Rattle.trace_ops.specs.Request.{given_of, is_init, started_by}
use Rattle.trace_ops.specs.Steps.{steps_at, steps_from}
use Rattle.trace_ops.proofs.Placing.{drop_at}

-- the calls before the next place, the last of them first
pub before_more : (calls : List Entry) (n : ℕ) (c : Entry) → n < length calls → c ≡ get_or calls n c → reverse (take (n + 1) calls) ≡ c ∷ reverse (take n calls)
before_more calls n c lt at =
    ap (λ (l : List Entry). reverse l) (take_more calls n c lt) ∙ reverse-append (take n calls) (get_or calls n c ∷ []) ∙ ap (λ (x : Entry). x ∷ reverse (take n calls)) (sym at)

pub before_count : (calls : List Entry) (n : ℕ) → n ≤ length calls → length (reverse (take n calls)) ≡ n
before_count calls n le = length-reverse (take n calls) ∙ length-take-le n calls le

-- the calls from a place on
pub front : (calls : List Entry) (n : ℕ) (c : Entry) → n < length calls → c ≡ get_or calls n c → drop n calls ≡ c ∷ drop (n + 1) calls
front calls n c lt at = drop_more calls n c lt ∙ ap (λ (x : Entry). x ∷ drop (n + 1) calls) (sym at)

-- of each listed number what holds it, as plain data
held_each : (before : List Entry) (held : ℤ → Option Lent) (xs : List ℤ) → Holds before held → map (option_map plain_init) (map held xs) ≡ map (held_in before) xs
held_each before held [] h = refl
held_each before held (x ∷ xs) h = ap (λ (o : Option Init). o ∷ map (option_map plain_init) (map held xs)) (h x) ∙ ap (λ (l : List (Option Init)). held_in before x ∷ l) (held_each before held xs h)

-- the numbers of one call more
pub listed_more : (calls : List Entry) (n : ℕ) (c : Entry) (held : ℤ → Option Lent) (old new : List (Option Lent)) → n < length calls → c ≡ get_or calls n c →
    new ≡ old ++ map held (started_by c.call) → Holds (reverse (take n calls)) held →
    map (option_map plain_init) old ++ inits_from (reverse (take n calls)) (drop n calls) ≡ inits_from [] calls →
    map (option_map plain_init) new ++ inits_from (reverse (take (n + 1) calls)) (drop (n + 1) calls) ≡ inits_from [] calls
listed_more calls n c held old new lt at k h i =
    let b = reverse (take n calls) in
    let rest = inits_from (c ∷ b) (drop (n + 1) calls) in
    ap (λ (l : List Entry). map (option_map plain_init) new ++ inits_from l (drop (n + 1) calls)) (before_more calls n c lt at)
    ∙ ap (λ (l : List (Option Lent)). map (option_map plain_init) l ++ rest) k
    ∙ ap (λ (l : List (Option Init)). l ++ rest) (map-append (option_map plain_init) old (map held (started_by c.call)))
    ∙ ap (λ (l : List (Option Init)). (map (option_map plain_init) old ++ l) ++ rest) (held_each b held (started_by c.call) h)
    ∙ append_assoc (map (option_map plain_init) old) (inits_at b c) rest
    ∙ ap (λ (l : List Entry). map (option_map plain_init) old ++ inits_from b l) (sym (front calls n c lt at))
    ∙ i

-- what is listed by calls and one behind them
inits_more : (before calls : List Entry) (c : Entry) → inits_from before (calls ++ c ∷ []) ≡ inits_from before calls ++ inits_at (reverse calls ++ before) c
inits_more before [] c = append-nil (inits_at before c)
inits_more before (x ∷ calls) c =
    ap (λ (l : List (Option Init)). inits_at before x ++ l) (inits_more (x ∷ before) calls c)
    ∙ ap (λ (l : List Entry). inits_at before x ++ (inits_from (x ∷ before) calls ++ inits_at l c)) (sym (ap (λ (l : List Entry). l ++ before) (reverse_onto calls x []) ∙ append_assoc (reverse calls) (x ∷ []) before))
    ∙ sym (append_assoc (inits_at before x) (inits_from (x ∷ before) calls) (inits_at (reverse (x ∷ calls) ++ before) c))

-- what is listed before the next place
listed_split : (calls : List Entry) (n : ℕ) (c : Entry) → n < length calls → c ≡ get_or calls n c →
    inits_from [] (take (n + 1) calls) ≡ inits_from [] (take n calls) ++ inits_at (reverse (take n calls)) c
listed_split calls n c lt at =
    ap (inits_from []) (take_more calls n c lt) ∙ ap (λ (x : Entry). inits_from [] (take n calls ++ x ∷ [])) (sym at) ∙ inits_more [] (take n calls) c
    ∙ ap (λ (l : List Entry). inits_from [] (take n calls) ++ inits_at l c) (append-nil (reverse (take n calls)))

take_within : {X : Type 0} (m n : ℕ) (xs : List X) → m ≤ n → take m (take n xs) ≡ take m xs
take_within zero n xs le = refl
take_within (suc m) zero xs le = absurd (omega (arith, le))
take_within (suc m) (suc n) [] le = refl
take_within (suc m) (suc n) (x ∷ xs) le = ap (λ (l : List _). x ∷ l) (take_within m n xs (omega (arith, le)))

none_of : {X : Type 0} (k : ℕ) → take {A = X} k [] ≡ []
none_of zero = refl
none_of (suc k) = refl

-- a part of a list in two ways
pub middle : {X : Type 0} (m n : ℕ) (xs : List X) → m ≤ n → take (n - m) (drop m xs) ≡ drop m (take n xs)
middle zero n xs le = let e : n - 0 ≡ n = omega arith in ap (λ (k : ℕ). take k xs) e
middle (suc m) zero xs le = absurd (omega (arith, le))
middle {X} (suc m) (suc n) [] le = none_of {X = X} (suc n - suc m)
middle (suc m) (suc n) (x ∷ xs) le = let e : suc n - suc m ≡ n - m = omega arith in ap (λ (k : ℕ). take k (drop m xs)) e ∙ middle m n xs (omega (arith, le))

-- The last of what was listed before the next place is of the call at this place.
module _ (calls : List Entry) (n : ℕ) (c : Entry) (inits : List (Option Lent)) (old : ℕ) (lt : n < length calls) (at : c ≡ get_or calls n c) (le : old ≤ length inits)
    (h : map (option_map plain_init) (take old inits) ≡ inits_from [] (take (n + 1) calls)) where
  parted : map (option_map plain_init) (take old inits) ≡ inits_from [] (take n calls) ++ inits_at (reverse (take n calls)) c
  parted = h ∙ listed_split calls n c lt at

  all_count : old ≡ length (inits_from [] (take n calls)) + length (started_by c.call)
  all_count =
      sym (length-take-le old inits le) ∙ sym (length-map (take old inits) (option_map plain_init)) ∙ ap (λ (l : List (Option Init)). length l) parted
      ∙ length-append (inits_from [] (take n calls)) (inits_at (reverse (take n calls)) c)
      ∙ ap (λ (m : ℕ). length (inits_from [] (take n calls)) + m) (length-map (started_by c.call) (held_in (reverse (take n calls))))

  pub listed_within : length (started_by c.call) ≤ old
  listed_within = let e = all_count in omega (arith, e)

  module _ (left : ℕ) (e : left ≡ old - length (started_by c.call)) where
    left_count : left ≡ length (inits_from [] (take n calls))
    left_count = let k = all_count in omega (arith, e, k)

    pub listed_before : map (option_map plain_init) (take left inits) ≡ inits_from [] (take n calls)
    listed_before =
        ap (map (option_map plain_init)) (sym (take_within left old inits (omega (arith, e))))
        ∙ sym (take-map (option_map plain_init) left (take old inits)) ∙ ap (take left) parted
        ∙ ap (λ (m : ℕ). take m (inits_from [] (take n calls) ++ inits_at (reverse (take n calls)) c)) left_count ∙ take-append_seam (inits_from [] (take n calls)) (inits_at (reverse (take n calls)) c)

    pub listed_here : map (option_map plain_init) (drop left (take old inits)) ≡ inits_at (reverse (take n calls)) c
    listed_here =
        sym (drop-map (option_map plain_init) left (take old inits)) ∙ ap (drop left) parted
        ∙ ap (λ (m : ℕ). drop m (inits_from [] (take n calls) ++ inits_at (reverse (take n calls)) c)) left_count ∙ drop-append_seam (inits_from [] (take n calls)) (inits_at (reverse (take n calls)) c)

-- the steps from a place on
pub steps_more : (calls : List Entry) (n : ℕ) (c : Entry) → n < length calls → c ≡ get_or calls n c →
    steps_at (reverse (take n calls)) c ++ steps_from (reverse (take (n + 1) calls)) (drop (n + 1) calls) ≡ steps_from (reverse (take n calls)) (drop n calls)
steps_more calls n c lt at =
    ap (λ (l : List Entry). steps_at (reverse (take n calls)) c ++ steps_from l (drop (n + 1) calls)) (before_more calls n c lt at)
    ∙ sym (ap (steps_from (reverse (take n calls))) (front calls n c lt at))

-- a map without entries has nothing at any number
pub none_kept : (es : List (ℤ × Lent)) (x : ℤ) → length es ≡ 0 → lookup (int_eq x) es ≡ None
none_kept [] x h = refl
none_kept (e ∷ es) x h = absurd (omega (arith, h))

-- Where no number is held, none is held behind a call that is no init.
pub none_more : (before : List Entry) (c : Entry) (kept : ℤ → Option Lent) → ((x : ℤ) → kept x ≡ None) → is_init c.call ≡ false → Holds before kept → Holds (c ∷ before) kept
none_more before c kept none k h x = by (changes_hold x c)
  where
    by : (b : Bool) → option_map plain_init (kept x) ≡ (if b then hold_by (length before) c else held_in before x)
    by true = ap (option_map plain_init) (none x) ∙ sym (rw k refl)
    by false = h x

no_still : (all : List Entry) (n : ℕ) (o : Option ℤ) → ((x : ℤ) → held_in all x ≡ None) → held_still all n o ≡ None
no_still all n None none = refl
no_still all n (Some x) none = rw (none x) refl

no_held : (all : List Entry) (n : ℕ) (calls : List Entry) → ((x : ℤ) → held_in all x ≡ None) → held_of all n calls ≡ []
no_held all n [] none = refl
no_held all n (c ∷ calls) none =
    ap (λ (o : Option ℤ). cons_option o (held_of all (n + 1) calls)) (no_still all n (given_of c.call c.outs) none) ∙ no_held all (n + 1) calls none

-- Where no number is held at the end, none is idle.
pub none_idle : (active : List (ℤ × OpName)) (calls : List Entry) (kept : ℤ → Option Lent) → ((x : ℤ) → kept x ≡ None) → Holds (reverse calls) kept → [] ≡ idle_of active calls
none_idle active calls kept none h =
    sym (ap (λ (l : List ℤ). rising (filter_map (unless_active active) l)) (no_held (reverse calls) 0 calls (λ x. sym (h x) ∙ ap (option_map plain_init) (none x))))

joined : (o : Option ℤ) (rest : List ℤ) → cons_option o [] ++ rest ≡ cons_option o rest
joined None rest = refl
joined (Some x) rest = refl

-- the numbers that inits hold, of one call more
pub held_more : (all calls : List Entry) (n : ℕ) (c : Entry) (done new : List ℤ) (o : Option ℤ) (whole : List ℤ) → slice_get calls n ≡ Some c → o ≡ held_still all n (given_of c.call c.outs) →
    new ≡ done ++ cons_option o [] → done ++ held_of all n (drop n calls) ≡ whole → new ++ held_of all (n + 1) (drop (n + 1) calls) ≡ whole
held_more all calls n c done new o whole at k j e =
    let rest = held_of all (n + 1) (drop (n + 1) calls) in
    ap (λ (l : List ℤ). l ++ rest) j ∙ append_assoc done (cons_option o []) rest ∙ ap (λ (l : List ℤ). done ++ l) (joined o rest)
    ∙ ap (λ (p : Option ℤ). done ++ cons_option p rest) k ∙ sym (ap (λ (l : List Entry). done ++ held_of all n l) (drop_at calls n c at)) ∙ e
