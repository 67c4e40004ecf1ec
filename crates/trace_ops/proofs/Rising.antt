-- The steps of a rank rise by their calls and parts.
use Rattle.std.proofs.Common.{◌≡◌, ℕ, ◌+◌, ◌<◌, ◌≤◌, Bool, true, false, ◌&&◌, List, [], ◌∷◌, ◌++◌, ◌⊎◌, inl, inr, length, refl, sym, ◌∙◌, ap, subst, arith}
use Rattle.std.specs.Prelude.{ℤ, ◌^◌, Option, Some, None, ◌==◌, nat_lt, if◌then◌else◌}
use Rattle.std.specs.List.{filter_map, cons_option}
use Rattle.std.specs.Option.{option_map}
use Rattle.std.proofs.lemmas.Bool.Decides.{nat_tests}
use Rattle.mpi_model.specs.declared.event.OpName.{OpName}
use Rattle.trace_ops.specs.Calls.{Entry}
use Rattle.trace_ops.specs.Held.{Init, held_in}
use Rattle.trace_ops.specs.Order.{Has, named_before}
use Rattle.trace_ops.specs.Request.{is_start, started_by}
use Rattle.trace_ops.specs.Steps.{Placed, Step, name_of, part_step, parts_from, placed, steps_from, whole}

-- part j of call m stands at or behind part i of call n
abbrev pub Behind : (n i m j : ℕ) → Type 0
Behind n i m j = (n < m) ⊎ ((n ≡ m) × (i ≤ j))

behind_all : (n i m j k l : ℕ) → Behind n i m j → Behind m j k l → Behind n i k l
behind_all n i m j k l (inl a) (inl b) = inl (omega (arith, a, b))
behind_all n i m j k l (inl a) (inr b) = let e = b.0 in inl (omega (arith, a, e))
behind_all n i m j k l (inr a) (inl b) = let e = a.0 in inl (omega (arith, e, b))
behind_all n i m j k l (inr a) (inr b) = let e = a.1 in let f = b.1 in inr (a.0 ∙ b.0, omega (arith, e, f))

-- Each step stands at or behind part i of call n, and behind the steps before it.
abbrev pub Rise : ℕ → ℕ → List Step → Type 0
Rise n i [] = Unit {0}
Rise n i (s ∷ later) = Behind n i s.number s.part × Rise s.number (s.part + 1) later

pub from_before : (n i m j : ℕ) (steps : List Step) → Behind n i m j → Rise m j steps → Rise n i steps
from_before n i m j [] b r = tt
from_before n i m j (s ∷ later) b r = (behind_all n i m j s.number s.part b r.0, r.1)

-- the parts of a call, and steps of later calls
parts_rise : (before : List Entry) (c : Entry) (i : ℕ) (xs : List ℤ) (rest : List Step) → Rise (length before + 1) 0 rest → Rise (length before) i (parts_from before c i xs ++ rest)
parts_rise before c i [] rest r = from_before (length before) i (length before + 1) 0 rest (inl (omega arith)) r
parts_rise before c i (x ∷ xs) rest r = by (nat_lt i (2 ^ 31)) (held_in before x) (parts_rise before c (i + 1) xs rest r)
  where
    by : (b : Bool) (o : Option Init) → Rise (length before) (i + 1) (parts_from before c (i + 1) xs ++ rest) →
        Rise (length before) i (cons_option (if b then option_map (part_step (length before) i c x) o else None) (parts_from before c (i + 1) xs) ++ rest)
    by false o more = from_before (length before) i (length before) (i + 1) (parts_from before c (i + 1) xs ++ rest) (inr (refl, omega arith)) more
    by true None more = from_before (length before) i (length before) (i + 1) (parts_from before c (i + 1) xs ++ rest) (inr (refl, omega arith)) more
    by true (Some init) more = (inr (refl, omega arith), more)

pub steps_rise : (before calls : List Entry) → Rise (length before) 0 (steps_from before calls)
steps_rise before [] = tt
steps_rise before (c ∷ calls) = by (is_start c.call) (steps_rise (c ∷ before) calls)
  where
    by : (b : Bool) → Rise (length (c ∷ before)) 0 (steps_from (c ∷ before) calls) →
        Rise (length before) 0 ((if b then parts_from before c 0 (started_by c.call) else whole (length before) c ∷ []) ++ steps_from (c ∷ before) calls)
    by true more = let e : length (c ∷ before) ≡ length before + 1 = omega arith in
        parts_rise before c 0 (started_by c.call) (steps_from (c ∷ before) calls) (subst (λ (n : ℕ). Rise n 0 (steps_from (c ∷ before) calls)) e more)
    by false more = (inr (refl, omega arith), from_before (length before) 1 (length (c ∷ before)) 0 (steps_from (c ∷ before) calls) (inl (omega arith)) more)

-- ---- lists of what steps tell

-- an operation, where there is one, has the name of its step, and is of the rank
abbrev pub IsOf : {Y : Type 0} → (Y → OpName) → (Y → ℕ) → ℕ → Step → Option Y → Type 0
IsOf name at rank s None = Unit {0}
IsOf name at rank s (Some y) = (name y ≡ name_of rank s) × (at y ≡ rank)

-- a name at or behind part i of call n, of the rank
abbrev pub Lies : ℕ → ℕ → ℕ → OpName → Type 0
Lies rank n i a = (a.rank ≡ rank) × Behind n i a.call a.part

lower : (rank n i m j : ℕ) (a : OpName) → Behind n i m j → Lies rank m j a → Lies rank n i a
lower rank n i m j a b l = (l.0, behind_all n i m j a.call a.part b l.1)

ahead : (a b : OpName) (x y rank : ℕ) → x ≡ rank → y ≡ rank → Behind a.call (a.part + 1) b.call b.part → ((x == y) && named_before a b) ≡ true
ahead a b x y rank e f (inl lt) = grind (arith, nat_tests)
ahead a b x y rank e f (inr s) = let g = s.0 in let h = s.1 in grind (arith, nat_tests)

module _ {Y : Type 0} (name : Y → OpName) (at : Y → ℕ) (rank : ℕ) (f : Placed → Option Y) (own : (p : Placed) → IsOf name at rank p.step (f p)) where
  abbrev pub Sorted : List Y → Type 0
  Sorted [] = Unit {0}
  Sorted (y ∷ ys) = ((z : Y) → Has ys z → ((at y == at z) && named_before (name y) (name z)) ≡ true) × Sorted ys

  pub member : (n i : ℕ) (steps : List Step) → Rise n i steps → (y : Y) → Has (filter_map f (placed steps)) y → Lies rank n i (name y) × (at y ≡ rank)
  member n i [] r y h = absurd h
  member n i (s ∷ later) r y h = by (f (record { step = s; later = later })) (own (record { step = s; later = later })) h (member s.number (s.part + 1) later r.1 y)
    where
      next : Behind n i s.number (s.part + 1)
      next = behind_all n i s.number s.part s.number (s.part + 1) r.0 (inr (refl, omega arith))

      by : (o : Option Y) → IsOf name at rank s o → Has (cons_option o (filter_map f (placed later))) y →
          (Has (filter_map f (placed later)) y → Lies rank s.number (s.part + 1) (name y) × (at y ≡ rank)) → Lies rank n i (name y) × (at y ≡ rank)
      by None o h more = let m = more h in (lower rank n i s.number (s.part + 1) (name y) next m.0, m.1)
      by (Some z) o (inl e) more =
          (subst (λ (a : OpName). Lies rank n i a) (sym (ap name e ∙ o.0)) (refl, r.0), ap at e ∙ o.1)
      by (Some z) o (inr h) more = let m = more h in (lower rank n i s.number (s.part + 1) (name y) next m.0, m.1)

  pub sorted : (n i : ℕ) (steps : List Step) → Rise n i steps → Sorted (filter_map f (placed steps))
  sorted n i [] r = tt
  sorted n i (s ∷ later) r = by (f (record { step = s; later = later })) (own (record { step = s; later = later })) (sorted s.number (s.part + 1) later r.1)
    where
      by : (o : Option Y) → IsOf name at rank s o → Sorted (filter_map f (placed later)) → Sorted (cons_option o (filter_map f (placed later)))
      by None o t = t
      by (Some y) o t = (
        (λ z h. let m = member s.number (s.part + 1) later r.1 z h in
            ahead (name y) (name z) (at y) (at z) rank o.1 m.1 (subst (λ (a : OpName). Behind a.call (a.part + 1) (name z).call (name z).part) (sym o.0) m.0.1)),
        t,
      )
