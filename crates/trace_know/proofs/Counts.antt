-- The counts of a run as its cells change.
use Rattle.std.proofs.Common.{inl, inr, cond, Bool, ◌≡◌, ℕ, ◌+◌, ◌<◌, ◌≤◌, suc, zero, min, true, false, List, [], ◌∷◌, ◌++◌, length, map, drop, drop-cons, add-one, refl, sym, ap, ◌∙◌, arith}
use Rattle.std.specs.Prelude.{slice_set, slice_index_or}
use Rattle.mpi_model.specs.declared.event.Event.{Event}
use Rattle.trace_know.specs.declared.cell.Known.{Known}
use Rattle.trace_know.specs.declared.cell.Known.TheVariants.{One, Contradiction}
use Rattle.trace_know.specs.Cell.{is_contradiction}
use Rattle.trace_know.specs.Runs.{ends_prefix, sound_among, conflicts_among}
use Rattle.trace_know.proofs.SameEvents.{false_or_true}

pub set-same : {X : Type 0} (xs : List X) (i : ℕ) (x : X) → i < length xs → x ≡ slice_index_or xs i x → slice_set xs i x ≡ xs
set-same [] i x h is = refl
set-same (y ∷ ys) zero x h is = λ j. is j ∷ ys
set-same (y ∷ ys) (suc i) x h is = ap (λ zs. y ∷ zs) (set-same ys i x (omega arith) is)

-- ---- a cell at the front

-- a prefix ends at it
pub sound-none : (ks : List Known) (k : Known) → ends_prefix k ≡ true → sound_among (k ∷ ks) ≡ 0
sound-none ks k h = ap (λ (b : Bool). cond b 0 (suc (sound_among ks))) h

-- a prefix passes it
pub sound-front : (ks : List Known) (k : Known) → ends_prefix k ≡ false → sound_among (k ∷ ks) ≡ sound_among ks + 1
sound-front ks k h = let e : sound_among (k ∷ ks) ≡ suc (sound_among ks) = ap (λ (b : Bool). cond b 0 (suc (sound_among ks))) h in omega arith

pub sound-le : (ks : List Known) → sound_among ks ≤ length ks
sound-le [] = omega arith
sound-le (k ∷ ks) = elim (false_or_true (ends_prefix k)) [
  | inl t ↦ omega (arith, sound-none ks k t)
  | inr f ↦ omega (arith, sound-front ks k f, sound-le ks)
]

pub conflicts-most : (ks : List Known) → conflicts_among ks ≤ length ks
conflicts-most [] = omega arith
conflicts-most (One e ∷ ks) = omega (arith, conflicts-most ks)
conflicts-most (Contradiction ∷ ks) = omega (arith, conflicts-most ks)

-- where all are sound, none is a contradiction
pub whole : (ks : List Known) → sound_among ks ≡ length ks → conflicts_among ks ≡ 0
whole [] h = refl
whole (Contradiction ∷ ks) h = absurd (omega arith)
whole (One e ∷ ks) h = elim (false_or_true (ends_prefix (One e))) [
  | inl t ↦ absurd (omega (arith, sound-none ks (One e) t))
  | inr f ↦ whole ks (omega (arith, sound-front ks (One e) f))
]

-- ---- one cell turned

pub sound-turned : (ks : List Known) (i : ℕ) → i < length ks → sound_among (slice_set ks i Contradiction) ≡ min (sound_among ks) i
sound-turned [] i h = absurd (omega arith)
sound-turned (k ∷ ks) zero h = omega arith
sound-turned (k ∷ ks) (suc i) h =
    let rest = sound-turned ks i (omega arith) in
    elim (false_or_true (ends_prefix k)) [
      | inl t ↦ omega (arith, sound-none ks k t, sound-none (slice_set ks i Contradiction) k t)
      | inr f ↦ omega (arith, sound-front ks k f, sound-front (slice_set ks i Contradiction) k f, rest)
    ]

pub conflicts-turned : (ks : List Known) (i : ℕ) → i < length ks → is_contradiction (slice_index_or ks i Contradiction) ≡ false → (conflicts_among (slice_set ks i Contradiction) ≡ conflicts_among ks + 1) × (conflicts_among ks < length ks)
conflicts-turned [] i h one = absurd (omega arith)
conflicts-turned (One e ∷ ks) zero h one = let most = conflicts-most ks in (omega arith, omega arith)
conflicts-turned (Contradiction ∷ ks) zero h one = absurd cc
conflicts-turned (One e ∷ ks) (suc i) h one = let rest = conflicts-turned ks i (omega arith) one in (rest.0, omega (arith, rest.1))
conflicts-turned (Contradiction ∷ ks) (suc i) h one = let rest = conflicts-turned ks i (omega arith) one in (omega (arith, rest.0), omega (arith, rest.1))

-- ---- one cell more

pub sound-short : (ks : List Known) (k : Known) → sound_among ks < length ks → sound_among (ks ++ k ∷ []) ≡ sound_among ks
sound-short [] k h = absurd (omega arith)
sound-short (c ∷ ks) k h = elim (false_or_true (ends_prefix c)) [
  | inl t ↦ sound-none (ks ++ k ∷ []) c t ∙ sym (sound-none ks c t)
  | inr f ↦
      let rest = sound-short ks k (omega (arith, sound-front ks c f)) in
      sound-front (ks ++ k ∷ []) c f ∙ ap (λ (n : ℕ). n + 1) rest ∙ sym (sound-front ks c f)
]

pub sound-ended : (ks : List Known) (k : Known) → ends_prefix k ≡ true → sound_among (ks ++ k ∷ []) ≡ sound_among ks
sound-ended [] k h = sound-none [] k h
sound-ended (c ∷ ks) k h = elim (false_or_true (ends_prefix c)) [
  | inl t ↦ sound-none (ks ++ k ∷ []) c t ∙ sym (sound-none ks c t)
  | inr f ↦ sound-front (ks ++ k ∷ []) c f ∙ ap (λ (n : ℕ). n + 1) (sound-ended ks k h) ∙ sym (sound-front ks c f)
]

pub sound-more : (ks : List Known) (k : Known) → ends_prefix k ≡ false → sound_among ks ≡ length ks → sound_among (ks ++ k ∷ []) ≡ sound_among ks + 1
sound-more [] k h is = sound-front [] k h
sound-more (c ∷ ks) k h is = elim (false_or_true (ends_prefix c)) [
  | inl t ↦ absurd (omega (arith, sound-none ks c t))
  | inr f ↦
      let rest = sound-more ks k h (omega (arith, sound-front ks c f)) in
      sound-front (ks ++ k ∷ []) c f ∙ ap (λ (n : ℕ). n + 1) (rest ∙ sym (sound-front ks c f))
]

pub conflicts-back : (ks : List Known) (k : Known) → conflicts_among (ks ++ k ∷ []) ≡ conflicts_among (k ∷ ks)
conflicts-back [] k = refl
conflicts-back (One e ∷ ks) (One f) = conflicts-back ks (One f)
conflicts-back (One e ∷ ks) Contradiction = conflicts-back ks Contradiction
conflicts-back (Contradiction ∷ ks) (One f) = ap (λ n. suc n) (conflicts-back ks (One f))
conflicts-back (Contradiction ∷ ks) Contradiction = ap (λ n. suc n) (conflicts-back ks Contradiction)

pub conflicts-front : (ks : List Known) (k : Known) → is_contradiction k ≡ true → conflicts_among (k ∷ ks) ≡ conflicts_among ks + 1
conflicts-front ks (One e) h = absurd cc
conflicts-front ks Contradiction h = omega arith

pub conflicts-still : (ks : List Known) (k : Known) → is_contradiction k ≡ false → conflicts_among (k ∷ ks) ≡ conflicts_among ks
conflicts-still ks (One e) h = refl
conflicts-still ks Contradiction h = absurd cc

pub conflicts-events : (es : List Event) → conflicts_among (map (λ e. One e) es) ≡ 0
conflicts-events [] = refl
conflicts-events (e ∷ es) = conflicts-events es

pub length-ones : (es : List Event) → length (map (λ e. One e) es) ≡ length es
length-ones [] = refl
length-ones (e ∷ es) = ap (λ n. suc n) (length-ones es)

-- an event moved from the end of a list to the front of the cells
pub event_moved : (es : List Event) (e : Event) (ks : List Known) → map (λ e. One e) es ++ One e ∷ ks ≡ map (λ e. One e) (es ++ e ∷ []) ++ ks
event_moved [] e ks = refl
event_moved (f ∷ es) e ks = ap (λ xs. One f ∷ xs) (event_moved es e ks)

-- an event put behind the cells of others
pub ones_behind : (es : List Event) (e : Event) → map {B = Known} (λ e. One e) es ++ One e ∷ [] ≡ map (λ e. One e) (es ++ e ∷ [])
ones_behind [] e = refl
ones_behind (f ∷ es) e = ap (λ xs. One f ∷ xs) (ones_behind es e)

-- cells tell which events they are of
pub same_events : (es fs : List Event) → map {B = Known} (λ e. One e) es ≡ map (λ e. One e) fs → es ≡ fs
same_events [] [] is = refl
same_events [] (f ∷ fs) is = absurd cc
same_events (e ∷ es) [] is = absurd cc
same_events (e ∷ es) (f ∷ fs) is =
    let rest : map {B = Known} (λ e. One e) es ≡ map (λ e. One e) fs = cc in
    let same = same_events es fs rest in
    cc

-- ---- cells that are gone through

pub cells_left : (ks : List Known) (i : ℕ) (k : Known) → i < length ks → k ≡ slice_index_or ks i k → drop i ks ≡ k ∷ drop (i + 1) ks
cells_left ks i k h is = rw (drop-cons ks i k, sym is, add-one) refl

pub sound_left : (ks : List Known) (i : ℕ) (k : Known) → i < length ks → k ≡ slice_index_or ks i k → ends_prefix k ≡ false → sound_among (drop i ks) ≡ sound_among (drop (i + 1) ks) + 1
sound_left ks i k h is one = ap sound_among (cells_left ks i k h is) ∙ sound-front (drop (i + 1) ks) k one

pub none_sound : (ks : List Known) (i : ℕ) (k : Known) → i < length ks → k ≡ slice_index_or ks i k → ends_prefix k ≡ true → sound_among (drop i ks) ≡ 0
none_sound ks i k h is end = ap sound_among (cells_left ks i k h is) ∙ sound-none (drop (i + 1) ks) k end

pub conflict_left : (ks : List Known) (i : ℕ) (k : Known) → i < length ks → k ≡ slice_index_or ks i k → is_contradiction k ≡ true → conflicts_among (drop i ks) ≡ conflicts_among (drop (i + 1) ks) + 1
conflict_left ks i k h is two = ap conflicts_among (cells_left ks i k h is) ∙ conflicts-front (drop (i + 1) ks) k two

pub none_left : (ks : List Known) (i : ℕ) (k : Known) → i < length ks → k ≡ slice_index_or ks i k → is_contradiction k ≡ false → conflicts_among (drop i ks) ≡ conflicts_among (drop (i + 1) ks)
none_left ks i k h is one = ap conflicts_among (cells_left ks i k h is) ∙ conflicts-still (drop (i + 1) ks) k one
