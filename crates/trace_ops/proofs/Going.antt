-- The steps of calls that go on.
use Rattle.std.proofs.Common.{◌≡◌, ℕ, ◌+◌, ◌<◌, ◌≤◌, Bool, true, false, List, [], ◌∷◌, ◌++◌, inl, inr, length, refl, sym, subst, arith}
use Rattle.std.specs.Prelude.{ℤ, ◌^◌, Option, Some, None, nat_lt, if◌then◌else◌}
use Rattle.std.specs.List.{cons_option}
use Rattle.std.specs.Option.{option_map}
use Rattle.mpi_model.specs.declared.call.Call.{Call}
use Rattle.trace_ops.specs.Calls.{Entry}
use Rattle.trace_ops.specs.Held.{Init, held_in}
use Rattle.trace_ops.specs.Request.{is_start, started_by}
use Rattle.trace_ops.specs.Steps.{Step, part_step, parts_from, steps_at, steps_from, whole}
use Rattle.trace_ops.proofs.Entering.{GoesOn}
use Rattle.trace_ops.proofs.Growing.{AreFrom, AreOpen, GoesFrom}
use Rattle.trace_ops.proofs.Rising.{Behind, Rise, steps_rise}

rise_from : (n i m : ℕ) (steps : List Step) → m ≤ n → Rise n i steps → AreFrom m steps
rise_from n i m [] le r = tt
rise_from n i m (s ∷ later) le r = let k = le_of n i m s.number s.part le r.0 in (k, rise_from s.number (s.part + 1) m later k r.1)
  where
    le_of : (n i m number part : ℕ) → m ≤ n → Behind n i number part → m ≤ number
    le_of n i m number part le (inl lt) = omega (arith, le, lt)
    le_of n i m number part le (inr e) = let f = e.0 in omega (arith, le, f)

pub steps_are_from : (before calls : List Entry) → AreFrom (length before) (steps_from before calls)
steps_are_from before calls = rise_from (length before) 0 (length before) (steps_from before calls) (omega arith) (steps_rise before calls)

-- steps of calls below a number
abbrev pub AreBelow : ℕ → List Step → Type 0
AreBelow bound [] = Unit {0}
AreBelow bound (s ∷ later) = (s.number < bound) × AreBelow bound later

same_front : (bound : ℕ) (front old new : List Step) → AreBelow bound front → GoesFrom bound old new → GoesFrom bound (front ++ old) (front ++ new)
same_front bound [] old new b g = g
same_front bound (s ∷ front) old new b g = (b.0, inl refl, same_front bound front old new b.1 g)

parts_below : (before : List Entry) (c : Entry) (bound i : ℕ) (xs : List ℤ) → length before < bound → AreBelow bound (parts_from before c i xs)
parts_below before c bound i [] lt = tt
parts_below before c bound i (x ∷ xs) lt = by (nat_lt i (2 ^ 31)) (held_in before x) (parts_below before c bound (i + 1) xs lt)
  where
    by : (b : Bool) (o : Option Init) → AreBelow bound (parts_from before c (i + 1) xs) → AreBelow bound (cons_option (if b then option_map (part_step (length before) i c x) o else None) (parts_from before c (i + 1) xs))
    by false o more = more
    by true None more = more
    by true (Some init) more = (lt, more)

call_below : (before : List Entry) (c : Entry) (bound : ℕ) → length before < bound → AreBelow bound (steps_at before c)
call_below before c bound lt = by (is_start c.call)
  where
    by : (b : Bool) → AreBelow bound (if b then parts_from before c 0 (started_by c.call) else whole (length before) c ∷ [])
    by true = parts_below before c bound 0 (started_by c.call) lt
    by false = (lt, tt)

-- ---- the last call has returned

parts_open : (before : List Entry) (c : Entry) (i : ℕ) (xs : List ℤ) → c.outs ≡ None → is_start c.call ≡ true → AreOpen (parts_from before c i xs ++ [])
parts_open before c i [] k h = tt
parts_open before c i (x ∷ xs) k h = by (nat_lt i (2 ^ 31)) (held_in before x) (parts_open before c (i + 1) xs k h)
  where
    by : (b : Bool) (o : Option Init) → AreOpen (parts_from before c (i + 1) xs ++ []) → AreOpen (cons_option (if b then option_map (part_step (length before) i c x) o else None) (parts_from before c (i + 1) xs) ++ [])
    by false o more = more
    by true None more = more
    by true (Some init) more = (k, h, more)

parts_return : (before : List Entry) (c d : Entry) (bound i : ℕ) (xs : List ℤ) (rest : List Step) → length before < bound → d.call ≡ c.call → c.outs ≡ None → is_start c.call ≡ true → AreFrom bound rest →
    GoesFrom bound (parts_from before c i xs ++ []) (parts_from before d i xs ++ rest)
parts_return before c d bound i [] rest lt e k h f = f
parts_return before c d bound i (x ∷ xs) rest lt e k h f = by (nat_lt i (2 ^ 31)) (held_in before x) (parts_return before c d bound (i + 1) xs rest lt e k h f)
  where
    by : (b : Bool) (o : Option Init) → GoesFrom bound (parts_from before c (i + 1) xs ++ []) (parts_from before d (i + 1) xs ++ rest) →
        GoesFrom bound (cons_option (if b then option_map (part_step (length before) i c x) o else None) (parts_from before c (i + 1) xs) ++ [])
        (cons_option (if b then option_map (part_step (length before) i d x) o else None) (parts_from before d (i + 1) xs) ++ rest)
    by false o more = more
    by true None more = more
    by true (Some init) more = (lt, inr (record { number = refl; part = refl; call = e; begun = refl }, k, inr (h, parts_open before c (i + 1) xs k h)), more)

call_returns : (before : List Entry) (c d : Entry) (bound : ℕ) (rest : List Step) → length before < bound → d.call ≡ c.call → c.outs ≡ None → AreFrom bound rest → GoesFrom bound (steps_at before c ++ []) (steps_at before d ++ rest)
call_returns before c d bound rest lt e k f =
    subst (λ (call : Call). GoesFrom bound (steps_at before c ++ []) ((if is_start call then parts_from before d 0 (started_by call) else whole (length before) d ∷ []) ++ rest)) (sym e) (by (is_start c.call) refl)
  where
    by : (b : Bool) → b ≡ is_start c.call → GoesFrom bound ((if b then parts_from before c 0 (started_by c.call) else whole (length before) c ∷ []) ++ []) ((if b then parts_from before d 0 (started_by c.call) else whole (length before) d ∷ []) ++ rest)
    by true h = parts_return before c d bound 0 (started_by c.call) rest lt e k (sym h) f
    by false h = (lt, inr (record { number = refl; part = refl; call = e; begun = refl }, k, inl (refl, refl)), f)

pub steps_go : (before old new : List Entry) → GoesOn old new → GoesFrom (length before + length old) (steps_from before old) (steps_from before new)
steps_go before [] new g = let e : length before ≡ length before + length {A = Entry} [] = omega arith in subst (λ (n : ℕ). AreFrom n (steps_from before new)) e (steps_are_from before new)
steps_go before (c ∷ old) [] g = absurd g
steps_go before (c ∷ old) (d ∷ new) (inl s) =
    let e : length (c ∷ before) + length old ≡ length before + length (c ∷ old) = omega arith in
    let more = subst (λ (n : ℕ). GoesFrom n (steps_from (c ∷ before) old) (steps_from (c ∷ before) new)) e (steps_go (c ∷ before) old new s.1) in
    subst (λ (x : Entry). GoesFrom (length before + length (c ∷ old)) (steps_at before c ++ steps_from (c ∷ before) old) (steps_at before x ++ steps_from (x ∷ before) new)) (sym s.0)
    (same_front (length before + length (c ∷ old)) (steps_at before c) (steps_from (c ∷ before) old) (steps_from (c ∷ before) new) (call_below before c (length before + length (c ∷ old)) (omega arith)) more)
steps_go before (c ∷ old) (d ∷ new) (inr s) =
    let e : length (d ∷ before) ≡ length before + length (c ∷ []) = omega arith in
    let rest = subst (λ (n : ℕ). AreFrom n (steps_from (d ∷ before) new)) e (steps_are_from (d ∷ before) new) in
    subst (λ (l : List Entry). GoesFrom (length before + length (c ∷ l)) (steps_at before c ++ steps_from (c ∷ before) l) (steps_at before d ++ steps_from (d ∷ before) new)) (sym s.2)
    (call_returns before c d (length before + length (c ∷ [])) (steps_from (d ∷ before) new) (omega arith) s.0 s.1 rest)
