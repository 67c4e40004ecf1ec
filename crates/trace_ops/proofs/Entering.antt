-- The collective calls of a rank: told by its calls, they rise, and those that come are of later calls.
use Rattle.std.proofs.Common.{◌≡◌, ℕ, ◌+◌, ◌≤◌, Bool, true, false, List, [], ◌∷◌, ◌++◌, ◌⊎◌, inl, inr, length, take, drop, refl, sym, ◌∙◌, ap, subst, arith}
use Rattle.std.specs.Prelude.{ℤ, ◌^◌, Option, Some, None, nat_lt, if◌then◌else◌}
use Rattle.std.specs.List.{filter_map, cons_option}
use Rattle.std.specs.Option.{option_map}
use Rattle.std.proofs.lemmas.Bool.Decides.{nat_tests}
use Rattle.std.proofs.lemmas.List.Elements.{filter_map-append}
use Rattle.mpi_model.specs.declared.call.Call.{Call}
use Rattle.mpi_model.specs.declared.call.Call.TheVariants.{Collective, Icollective}
use Rattle.mpi_model.specs.declared.event.Event.{Event}
use Rattle.mpi_model.specs.Layouts.{Parts}
use Rattle.trace_ops.specs.declared.entered.Entered.{Entered}
use Rattle.trace_ops.specs.Calls.{Entry, calls_of}
use Rattle.trace_ops.specs.Foreign.{Group, group_of}
use Rattle.trace_ops.specs.Held.{Init, held_in}
use Rattle.trace_ops.specs.Order.{Has, AreEntered}
use Rattle.trace_ops.specs.Request.{is_start, started_by}
use Rattle.trace_ops.specs.Round.{entered_by, entered_in, entered_of, rounds_of}
use Rattle.trace_ops.specs.Steps.{part_step, parts_from, steps_from, whole}
use Rattle.trace_ops.proofs.Parts.{start_enters_none}

-- The new calls begin with the old ones, of which the last may have returned.
abbrev pub GoesOn : List Entry → List Entry → Type 0
GoesOn [] new = Unit {0}
GoesOn (c ∷ cs) [] = ⊥
GoesOn (c ∷ cs) (d ∷ ds) = ((d ≡ c) × GoesOn cs ds) ⊎ ((d.call ≡ c.call) × (c.outs ≡ None) × (cs ≡ []))

pub goes_on : (es more : List Event) → GoesOn (calls_of es) (calls_of (es ++ more))
goes_on [] more = tt
goes_on (e ∷ []) [] = inl (refl, tt)
goes_on (e ∷ []) (f ∷ more) = inr (refl, refl, refl)
goes_on (e ∷ f ∷ es) more = inl (refl, goes_on es more)

-- one of these calls: it is the same, or had not returned
abbrev pub Returns : Entry → Entry → Type 0
Returns c d = (d ≡ c) ⊎ ((d.call ≡ c.call) × (c.outs ≡ None))

pub same_call : (c d : Entry) → Returns c d → d.call ≡ c.call
same_call c d (inl e) = ap (λ (x : Entry). x.call) e
same_call c d (inr s) = s.0

-- ---- lists of what the calls tell by themselves, whatever follows them

-- what the calls tell, numbered from n
abbrev pub Told : {Y : Type 0} → (ℕ → Call → Option Y) → ℕ → List Entry → List Y
Told f n [] = []
Told f n (c ∷ calls) = cons_option (f n c.call) (Told f (n + 1) calls)

module _ {Y : Type 0} (f : ℕ → Call → Option Y) where
  front_stays : (o : Option Y) (xs ys : List Y) → take (length xs) ys ≡ xs → take (length (cons_option o xs)) (cons_option o ys) ≡ cons_option o xs
  front_stays None xs ys h = h
  front_stays (Some y) xs ys h = ap (λ (l : List Y). y ∷ l) h

  front_falls : (o : Option Y) (xs ys : List Y) → drop (length (cons_option o xs)) (cons_option o ys) ≡ drop (length xs) ys
  front_falls None xs ys = refl
  front_falls (Some y) xs ys = refl

  -- of an entry that goes on, and then of all
  same_front : (n : ℕ) (c d : Entry) (ds : List Entry) → Returns c d → Told f n (d ∷ ds) ≡ cons_option (f n c.call) (Told f (n + 1) ds)
  same_front n c d ds r = ap (λ (k : Call). cons_option (f n k) (Told f (n + 1) ds)) (same_call c d r)

  pub told_stay : (n : ℕ) (old new : List Entry) → GoesOn old new → take (length (Told f n old)) (Told f n new) ≡ Told f n old
  told_stay n [] new g = refl
  told_stay n (c ∷ cs) [] g = absurd g
  told_stay n (c ∷ cs) (d ∷ ds) (inl s) =
      ap (λ (l : List Y). take (length (Told f n (c ∷ cs))) l) (same_front n c d ds (inl s.0)) ∙ front_stays (f n c.call) (Told f (n + 1) cs) (Told f (n + 1) ds) (told_stay (n + 1) cs ds s.1)
  told_stay n (c ∷ cs) (d ∷ ds) (inr s) =
      subst (λ (l : List Entry). take (length (Told f n (c ∷ l))) (Told f n (d ∷ ds)) ≡ Told f n (c ∷ l)) (sym s.2)
      (ap (λ (l : List Y). take (length (Told f n (c ∷ []))) l) (same_front n c d ds (inr (s.0, s.1))) ∙ front_stays (f n c.call) [] (Told f (n + 1) ds) refl)

  -- what comes is told by a later call
  module _ (call : Y → ℕ) (member : (n : ℕ) (calls : List Entry) (y : Y) → Has (Told f n calls) y → n ≤ call y) where
    pub told_later : (n : ℕ) (old new : List Entry) → GoesOn old new → (y : Y) → Has (drop (length (Told f n old)) (Told f n new)) y → n + length old ≤ call y
    told_later n [] new g y h = let le = member n new y h in omega (arith, le)
    told_later n (c ∷ cs) [] g y h = absurd g
    told_later n (c ∷ cs) (d ∷ ds) (inl s) y h =
        let k : drop (length (Told f n (c ∷ cs))) (Told f n (d ∷ ds)) ≡ drop (length (Told f (n + 1) cs)) (Told f (n + 1) ds) =
        ap (λ (l : List Y). drop (length (Told f n (c ∷ cs))) l) (same_front n c d ds (inl s.0)) ∙ front_falls (f n c.call) (Told f (n + 1) cs) (Told f (n + 1) ds) in
        let le = told_later (n + 1) cs ds s.1 y (subst (λ (l : List Y). Has l y) k h) in
        omega (arith, le)
    told_later n (c ∷ cs) (d ∷ ds) (inr s) y h =
        let i = subst (λ (l : List Entry). Has (drop (length (Told f n (c ∷ l))) (Told f n (d ∷ ds))) y) s.2 h in
        let k : drop (length (Told f n (c ∷ []))) (Told f n (d ∷ ds)) ≡ Told f (n + 1) ds =
        ap (λ (l : List Y). drop (length (Told f n (c ∷ []))) l) (same_front n c d ds (inr (s.0, s.1))) ∙ front_falls (f n c.call) [] (Told f (n + 1) ds) in
        let le = member (n + 1) ds y (subst (λ (l : List Y). Has l y) k i) in
        let none : length cs ≡ 0 = ap (λ (l : List Entry). length l) s.2 in
        omega (arith, le, none)

  -- the steps tell the same, where a start tells nothing
  module _ (quiet : (n : ℕ) (call : Call) → is_start call ≡ true → f n call ≡ None) where
    parts_tell : (before : List Entry) (c : Entry) (i : ℕ) (xs : List ℤ) → is_start c.call ≡ true → filter_map (λ s. f s.number s.entry.call) (parts_from before c i xs) ≡ []
    parts_tell before c i [] h = refl
    parts_tell before c i (x ∷ xs) h = by (nat_lt i (2 ^ 31)) (held_in before x) (parts_tell before c (i + 1) xs h)
      where
        by : (b : Bool) (o : Option Init) → filter_map (λ s. f s.number s.entry.call) (parts_from before c (i + 1) xs) ≡ [] →
            filter_map (λ s. f s.number s.entry.call) (cons_option (if b then option_map (part_step (length before) i c x) o else None) (parts_from before c (i + 1) xs)) ≡ []
        by false o more = more
        by true None more = more
        by true (Some init) more = ap (λ (o : Option Y). cons_option o (filter_map (λ s. f s.number s.entry.call) (parts_from before c (i + 1) xs))) (quiet (length before) c.call h) ∙ more

    pub steps_tell : (before calls : List Entry) → filter_map (λ s. f s.number s.entry.call) (steps_from before calls) ≡ Told f (length before) calls
    steps_tell before [] = refl
    steps_tell before (c ∷ calls) = by (is_start c.call) refl (steps_tell (c ∷ before) calls)
      where
        next : length (c ∷ before) ≡ length before + 1
        next = omega arith

        by : (b : Bool) → b ≡ is_start c.call → filter_map (λ s. f s.number s.entry.call) (steps_from (c ∷ before) calls) ≡ Told f (length (c ∷ before)) calls →
            filter_map (λ s. f s.number s.entry.call) ((if b then parts_from before c 0 (started_by c.call) else whole (length before) c ∷ []) ++ steps_from (c ∷ before) calls) ≡ cons_option (f (length before) c.call) (Told f (length before + 1) calls)
        by true k more =
            filter_map-append (λ s. f s.number s.entry.call) (parts_from before c 0 (started_by c.call)) (steps_from (c ∷ before) calls)
            ∙ ap (λ (l : List Y). l ++ filter_map (λ s. f s.number s.entry.call) (steps_from (c ∷ before) calls)) (parts_tell before c 0 (started_by c.call) (sym k))
            ∙ more ∙ ap (λ (m : ℕ). Told f m calls) next ∙ sym (ap (λ (o : Option Y). cons_option o (Told f (length before + 1) calls)) (quiet (length before) c.call (sym k)))
        by false k more = ap (cons_option (f (length before) c.call)) (more ∙ ap (λ (m : ℕ). Told f m calls) next)

module _ (layout : Parts) (rank : ℕ) where
  pub rounds_told : (calls : List Entry) → rounds_of layout rank (steps_from [] calls) ≡ Told (entered_of layout rank) 0 calls
  rounds_told = steps_tell (entered_of layout rank) (λ n. start_enters_none layout rank n) []

  at_call : (n : ℕ) (call : Call) (x : Entered) → entered_of layout rank n call ≡ Some x → x.call ≡ n
  at_call n call x h = in_group (group_of layout rank n call) h
    where
      of : (g : Group) (k : Call) → entered_by g n k ≡ Some x → x.call ≡ n
      of g (Collective e) h = cc
      of g (Icollective e) h = cc
      of g k h = absurd (cc)

      in_group : (g : Option Group) → entered_in g n call ≡ Some x → x.call ≡ n
      in_group None h = absurd (cc)
      in_group (Some g) h = of g call h

  pub entered_member : (n : ℕ) (calls : List Entry) (x : Entered) → Has (Told (entered_of layout rank) n calls) x → n ≤ x.call
  entered_member n [] x h = absurd h
  entered_member n (c ∷ calls) x h = by (entered_of layout rank n c.call) refl h (entered_member (n + 1) calls x)
    where
      by : (o : Option Entered) → o ≡ entered_of layout rank n c.call → Has (cons_option o (Told (entered_of layout rank) (n + 1) calls)) x →
          (Has (Told (entered_of layout rank) (n + 1) calls) x → n + 1 ≤ x.call) → n ≤ x.call
      by None k h more = let le = more h in omega (arith, le)
      by (Some y) k (inl e) more = let at = at_call n c.call y (sym k) in let f : x.call ≡ y.call = ap (λ (z : Entered). z.call) e in omega (arith, at, f)
      by (Some y) k (inr h) more = let le = more h in omega (arith, le)

  told_rise : (n : ℕ) (calls : List Entry) → AreEntered (Told (entered_of layout rank) n calls)
  told_rise n [] = tt
  told_rise n (c ∷ calls) = by (entered_of layout rank n c.call) refl (told_rise (n + 1) calls)
    where
      by : (o : Option Entered) → o ≡ entered_of layout rank n c.call → AreEntered (Told (entered_of layout rank) (n + 1) calls) → AreEntered (cons_option o (Told (entered_of layout rank) (n + 1) calls))
      by None k more = more
      by (Some x) k more = ((λ y h. let at = at_call n c.call x (sym k) in let le = entered_member (n + 1) calls y h in grind (arith, nat_tests)), more)

  pub rounds_rise : (calls : List Entry) → AreEntered (rounds_of layout rank (steps_from [] calls))
  rounds_rise calls = subst (λ (l : List Entered). AreEntered l) (sym (rounds_told calls)) (told_rise 0 calls)

  pub rounds_stay : (old new : List Entry) → GoesOn old new → take (length (rounds_of layout rank (steps_from [] old))) (rounds_of layout rank (steps_from [] new)) ≡ rounds_of layout rank (steps_from [] old)
  rounds_stay old new g = rw (rounds_told old, rounds_told new) (told_stay (entered_of layout rank) 0 old new g)

  pub rounds_later : (old new : List Entry) → GoesOn old new → (x : Entered) → Has (drop (length (rounds_of layout rank (steps_from [] old))) (rounds_of layout rank (steps_from [] new))) x → length old ≤ x.call
  rounds_later old new g x h =
      let k : drop (length (rounds_of layout rank (steps_from [] old))) (rounds_of layout rank (steps_from [] new)) ≡ drop (length (Told (entered_of layout rank) 0 old)) (Told (entered_of layout rank) 0 new) = rw (rounds_told old, rounds_told new) refl in
      let le = told_later (entered_of layout rank) (λ y. y.call) entered_member 0 old new g x (subst (λ (l : List Entered). Has l x) k h) in
      omega (arith, le)
