-- The places of an outcome, and what is read at one.
use Rattle.std.proofs.Common.{◌≡◌, ℕ, zero, suc, ◌+◌, ◌<◌, Bool, true, false, ◌||◌, List, [], ◌∷◌, map, drop, get_or, length, refl, ap, ◌∙◌, sym, arith}
use Rattle.std.specs.Prelude.{ℤ, pos, Option, Some, None, is_some, slice_get, if◌then◌else◌}
use Rattle.std.specs.List.{cons_option, filter_map, list_any}
use Rattle.std.specs.Option.{option_or, unwrap_or}
use Rattle.mpi_model.specs.declared.call.Call.{Call}
use Rattle.mpi_model.specs.declared.call.Call.TheVariants.{Waitsome, Testsome}
use Rattle.mpi_model.specs.declared.outcome.Outs.{Outs}
use Rattle.mpi_model.specs.declared.outcome.Outs.TheVariants.{Several}
use Rattle.mpi_model.specs.declared.list.elements.Element.{Element}
use Rattle.mpi_model.specs.declared.told.Told.{Told}
use Rattle.mpi_model.specs.declared.told.Told.TheVariants.{Nothing}
use Rattle.trace_ops.specs.declared.completed.Completed.{Completed}
use Rattle.trace_ops.specs.declared.touched.Touch.{Touch}
use Rattle.trace_ops.specs.Places.{all_places, completed_in, places_of}
use Rattle.trace_ops.specs.Request.{completes, completions, element_of, is_completed}
use Rattle.trace_ops.specs.Source.{told_in}
use Rattle.trace_ops.specs.Touched.{ends_at, is_completed_at, told_at_place, with_firsts, with_place, with_tellings}

-- the request at a place of a list, with the entry at its own place
pub each_placed : (requests : List ℤ) (tells : List Told) (i : ℕ) → i < length requests →
    slice_get (all_places requests tells) i ≡ Some (Some (completes (get_or requests i (pos 0)) (unwrap_or (slice_get tells i) Nothing)))
each_placed [] tells i lt = absurd (omega (arith, lt))
each_placed (x ∷ requests) [] zero lt = refl
each_placed (x ∷ requests) [] (suc i) lt = each_placed requests [] i (omega (arith, lt))
each_placed (x ∷ requests) (told ∷ tells) zero lt = refl
each_placed (x ∷ requests) (told ∷ tells) (suc i) lt = each_placed requests tells i (omega (arith, lt))

-- of a list there are as many places as requests
pub each_count : (requests : List ℤ) (tells : List Told) → length (all_places requests tells) ≡ length requests
each_count [] tells = refl
each_count (x ∷ requests) [] = ap suc (each_count requests [])
each_count (x ∷ requests) (told ∷ tells) = ap suc (each_count requests tells)

-- the one request, where there is one
pub one_placed : (o : Option Completed) (i : ℕ) → i < length (map (λ c. Some c) (cons_option o [])) → slice_get (map (λ c. Some c) (cons_option o [])) i ≡ Some o
one_placed None i lt = absurd (omega (arith, lt))
one_placed (Some c) zero lt = refl
one_placed (Some c) (suc i) lt = absurd (omega (arith, lt))

-- the request that an element names
pub element_placed : (requests : List ℤ) (elements : List Element) (i : ℕ) (e : Element) → i < length elements → e ≡ get_or elements i e →
    slice_get (map (element_of requests) elements) i ≡ Some (element_of requests e)
element_placed requests [] i e lt at = absurd (omega (arith, lt))
element_placed requests (x ∷ elements) zero e lt at = ap (λ (y : Element). Some (element_of requests y)) (sym at)
element_placed requests (x ∷ elements) (suc i) e lt at = element_placed requests elements i e (omega (arith, lt)) at

all_there : (done : List Completed) → completed_in (map (λ c. Some c) done) ≡ done
all_there [] = refl
all_there (c ∷ done) = ap (λ (l : List Completed). c ∷ l) (all_there done)

some_there : (f : Element → Option Completed) (elements : List Element) → completed_in (map f elements) ≡ filter_map f elements
some_there f [] = refl
some_there f (e ∷ elements) = ap (λ (l : List Completed). cons_option (f e) l) (some_there f elements)

-- the places complete what the outcome completes
pub completed_there : (call : Call) (outs : Option Outs) → completed_in (places_of call outs) ≡ completions call outs
completed_there (Waitsome requests) (Some (Several elements)) = some_there (element_of requests) elements
completed_there (Testsome requests) (Some (Several elements)) = some_there (element_of requests) elements
completed_there call outs = all_there (completions call outs)

-- a number is completed at a place
pub any_completed : (x : ℤ) (places : List (Option Completed)) → list_any (is_completed_at x) places ≡ is_completed x (completed_in places)
any_completed x [] = refl
any_completed x (None ∷ places) = any_completed x places
any_completed x (Some c ∷ places) = ap (λ (b : Bool). is_completed_at x (Some c) || b) (any_completed x places)

-- the list from a place on
pub drop_at : {X : Type 0} (xs : List X) (i : ℕ) (x : X) → slice_get xs i ≡ Some x → drop i xs ≡ x ∷ drop (i + 1) xs
drop_at [] i x h = absurd (cc)
drop_at (y ∷ ys) zero x h = cc
drop_at (y ∷ ys) (suc i) x h = let m : suc i + 1 ≡ suc (i + 1) = omega arith in rw m (drop_at ys i x h)

-- what the places from one on tell
pub told_step : (members : List ℕ) (x : ℤ) (places : List (Option Completed)) (i : ℕ) (o : Option Completed) → slice_get places i ≡ Some o →
    told_in members x (completed_in (drop i places)) ≡ option_or (told_at_place members x o) (told_in members x (completed_in (drop (i + 1) places)))
told_step members x places i None h = ap (λ (l : List (Option Completed)). told_in members x (completed_in l)) (drop_at places i None h)
told_step members x places i (Some c) h = ap (λ (l : List (Option Completed)). told_in members x (completed_in l)) (drop_at places i (Some c) h)

-- the first place that tells decides
pub told_found : (members : List ℕ) (x : ℤ) (places : List (Option Completed)) (i : ℕ) (o : Option Completed) (told whole : Option ℕ) → slice_get places i ≡ Some o →
    told ≡ told_at_place members x o → is_some told ≡ true → told_in members x (completed_in (drop i places)) ≡ whole → told ≡ whole
told_found members x places i o None whole h k s e = absurd (cc)
told_found members x places i o (Some r) whole h k s e =
    ap (λ (t : Option ℕ). option_or t (told_in members x (completed_in (drop (i + 1) places)))) k ∙ sym (told_step members x places i o h) ∙ e

pub told_passed : (members : List ℕ) (x : ℤ) (places : List (Option Completed)) (i : ℕ) (o : Option Completed) (told whole : Option ℕ) → slice_get places i ≡ Some o →
    told ≡ told_at_place members x o → is_some told ≡ false → told_in members x (completed_in (drop i places)) ≡ whole →
    told_in members x (completed_in (drop (i + 1) places)) ≡ whole
told_passed members x places i o (Some r) whole h k s e = absurd (cc)
told_passed members x places i o None whole h k s e =
    ap (λ (t : Option ℕ). option_or t (told_in members x (completed_in (drop (i + 1) places)))) k ∙ sym (told_step members x places i o h) ∙ e

-- one of the places passes a test
pub any_step : (test : Option Completed → Bool) (places : List (Option Completed)) (i : ℕ) (o : Option Completed) → slice_get places i ≡ Some o →
    list_any test (drop i places) ≡ (test o || list_any test (drop (i + 1) places))
any_step test places i o h = ap (λ (l : List (Option Completed)). list_any test l) (drop_at places i o h)

pub any_found : (test : Option Completed → Bool) (places : List (Option Completed)) (i : ℕ) (o : Option Completed) (whole : Bool) → slice_get places i ≡ Some o →
    test o ≡ true → list_any test (drop i places) ≡ whole → true ≡ whole
any_found test places i o whole h t e = ap (λ (b : Bool). b || list_any test (drop (i + 1) places)) (sym t) ∙ sym (any_step test places i o h) ∙ e

pub any_passed : (test : Option Completed → Bool) (places : List (Option Completed)) (i : ℕ) (o : Option Completed) (whole : Bool) → slice_get places i ≡ Some o →
    test o ≡ false → list_any test (drop i places) ≡ whole → list_any test (drop (i + 1) places) ≡ whole
any_passed test places i o whole h t e = ap (λ (b : Bool). b || list_any test (drop (i + 1) places)) (sym t) ∙ sym (any_step test places i o h) ∙ e

-- ---- one place more towards the front

module _ (places : List (Option Completed)) (call i p : ℕ) (x : ℤ) (o : Option Completed) (new old first : Option Touch) (at : slice_get places i ≡ Some o) (up : p ≡ i + 1) where
  pub firsts_step : new ≡ (if is_completed_at x o then Some (ends_at call i) else old) → old ≡ with_firsts call p (drop p places) x first → new ≡ with_firsts call i (drop i places) x first
  firsts_step k h =
      k ∙ ap (λ (t : Option Touch). if is_completed_at x o then Some (ends_at call i) else t) (h ∙ ap (λ (m : ℕ). with_firsts call m (drop m places) x first) up)
      ∙ sym (ap (λ (l : List (Option Completed)). with_firsts call i l x first) (drop_at places i o at))

  pub tellings_step : new ≡ with_place call i x o old → old ≡ with_tellings call p (drop p places) x first → new ≡ with_tellings call i (drop i places) x first
  tellings_step k h =
      k ∙ ap (with_place call i x o) (h ∙ ap (λ (m : ℕ). with_tellings call m (drop m places) x first) up)
      ∙ sym (ap (λ (l : List (Option Completed)). with_tellings call i l x first) (drop_at places i o at))

  or_else : (a b : Bool) (e t : Option Touch) → (if a then e else (if b then e else t)) ≡ (if (a || b) then e else t)
  or_else true b e t = refl
  or_else false b e t = refl

  pub ends_step : (e : Option Touch) → new ≡ (if is_completed_at x o then e else old) → old ≡ (if list_any (is_completed_at x) (drop p places) then e else first) →
      new ≡ (if list_any (is_completed_at x) (drop i places) then e else first)
  ends_step e k h =
      k ∙ ap (λ (t : Option Touch). if is_completed_at x o then e else t) (h ∙ ap (λ (m : ℕ). if list_any (is_completed_at x) (drop m places) then e else first) up)
      ∙ or_else (is_completed_at x o) (list_any (is_completed_at x) (drop (i + 1) places)) e first
      ∙ sym (ap (λ (v : Bool). if v then e else first) (any_step (is_completed_at x) places i o at))
