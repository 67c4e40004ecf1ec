-- Events in parts, and the segments of these parts.
use Rattle.std.proofs.Common.{◌≡◌, ◌∙◌, ◌+◌, ◌*◌, ◌%◌, ◌<◌, ◌≤◌, ◌++◌, ◌∷◌, [], ℕ, zero, suc, List, Bool, true, false, length, length-append, ap, sym, refl, append_assoc, map, subst, get_or, take, drop, drop-cons, arith}
use Rattle.std.proofs.lemmas.List.{append-nil, map-id, take-append-drop}
use Rattle.mpi_model.specs.declared.event.Event.{Event}
use Rattle.mpi_model.specs.declared.event.Event.TheVariants.{Enter, Return}
use Rattle.trace_know.specs.Segment.{PlacedEvents, alternate}
use Rattle.dumpi_calls.specs.Collected.{AreSegments, IsPart, placed}
use Rattle.dumpi_calls.specs.Parts.{AreAllFull, joined}

-- ---- one part, one event

pub joined_more : (full : List (List Event)) (last more : List Event) → joined full (last ++ more) ≡ joined full last ++ more
joined_more [] last more = refl
joined_more (part ∷ full) last more = ap (λ (xs : List Event). part ++ xs) (joined_more full last more) ∙ sym (append_assoc part (joined full last) more)

-- the last part is a full one from now on
pub joined_full : (full : List (List Event)) (part : List Event) → joined (full ++ part ∷ []) [] ≡ joined full part
joined_full [] part = append-nil part
joined_full (first ∷ full) part = ap (λ (xs : List Event). first ++ xs) (joined_full full part)

pub full_more : (full : List (List Event)) (part : List Event) → AreAllFull full → length part ≡ 65536 → AreAllFull (full ++ part ∷ [])
full_more [] part h count = (count, tt)
full_more (first ∷ full) part h count = (h.0, full_more full part h.1 count)

pub joined_count : (full : List (List Event)) (last : List Event) → AreAllFull full → length (joined full last) ≡ 65536 * length full + length last
joined_count [] last h = omega arith
joined_count (part ∷ full) last h = omega (arith, length-append part (joined full last), joined_count full last h.1, h.0)

-- full parts have whole calls
pub last_even : (full : List (List Event)) (last : List Event) → AreAllFull full → length (joined full last) % 2 ≡ 0 → length last % 2 ≡ 0
last_even full last h e = omega (arith, joined_count full last h, e)

-- ---- a part in its turn

-- the part at a place stands between those before it and a rest
at_turn : (full before : List (List Event)) (part : List Event) → before ≡ take (length before) full → length before < length full → part ≡ get_or full (length before) part
    → full ≡ before ++ part ∷ drop (suc (length before)) full
at_turn full before part so_far some is =
    sym (take-append-drop (length before) full)
    ∙ ap (λ (xs : List (List Event)). xs ++ drop (length before) full) (sym so_far)
    ∙ ap (λ (xs : List (List Event)). before ++ xs) (drop-cons full (length before) part some ∙ ap (λ (p : List Event). p ∷ drop (suc (length before)) full) (sym is))

full_at : (before rest : List (List Event)) (part : List Event) → AreAllFull (before ++ part ∷ rest) → length part ≡ 65536
full_at [] rest part h = h.0
full_at (first ∷ before) rest part h = full_at before rest part h.1

even_split : (n : ℕ) (xs ys : List Event) → length xs ≡ 2 * n → alternate true (xs ++ ys) ≡ true → alternate true ys ≡ true
even_split n [] ys e a = a
even_split n (x ∷ []) ys e a = absurd (omega (arith, e))
even_split zero (x ∷ y ∷ zs) ys e a = absurd (omega (arith, e))
even_split (suc n) (Enter c s ∷ Return o t ∷ zs) ys e a = even_split n zs ys (omega (arith, e)) a
even_split (suc n) (Enter c s ∷ Enter d t ∷ zs) ys e a = cc
even_split (suc n) (Return o s ∷ y ∷ zs) ys e a = cc

front_alternates : (entering : Bool) (xs ys : List Event) → alternate entering (xs ++ ys) ≡ true → alternate entering xs ≡ true
front_alternates entering [] ys a = refl
front_alternates true (Enter c s ∷ xs) ys a = front_alternates false xs ys a
front_alternates false (Enter c s ∷ xs) ys a = a
front_alternates true (Return o s ∷ xs) ys a = a
front_alternates false (Return o s ∷ xs) ys a = front_alternates true xs ys a

-- what follows full parts alternates from an Enter, since these are of whole calls
pub last_alternates : (full : List (List Event)) (last : List Event) → AreAllFull full → alternate true (joined full last) ≡ true → alternate true last ≡ true
last_alternates [] last h a = a
last_alternates (part ∷ full) last h a = last_alternates full last h.1 (even_split 32768 part (joined full last) h.0 a)

part_alternates : (before rest : List (List Event)) (part : List Event) (last : List Event) → AreAllFull (before ++ part ∷ rest)
    → alternate true (joined (before ++ part ∷ rest) last) ≡ true → alternate true part ≡ true
part_alternates [] rest part last h a = front_alternates true part (joined rest last) a
part_alternates (first ∷ before) rest part last h a = part_alternates before rest part last h.1 (even_split 32768 first (joined (before ++ part ∷ rest) last) h.0 a)

-- What is known of a part in its turn: it is full, of whole calls, and so many events stand before it.
pub record IsInTurn (full before : List (List Event)) (part : List Event) (last : List Event) : Type 0 where
  pub count : length part ≡ 65536
  pub halves : alternate true part ≡ true
  pub within : 65536 * length before + 65536 ≤ length (joined full last)

split_turn : (full before rest : List (List Event)) (part : List Event) (last : List Event) → full ≡ before ++ part ∷ rest → AreAllFull full → alternate true (joined full last) ≡ true
    → IsInTurn full before part last
split_turn full before rest part last e h a =
    let all : AreAllFull (before ++ part ∷ rest) = subst AreAllFull e h in
    record {
      count = full_at before rest part all;
      halves = part_alternates before rest part last all (ap (λ (parts : List (List Event)). alternate true (joined parts last)) (sym e) ∙ a);
      within = omega (arith, joined_count full last h, ap (λ (parts : List (List Event)). length parts) e, length-append before (part ∷ rest));
    }

pub in_turn : (full before : List (List Event)) (part : List Event) (last : List Event) → map (λ (p : List Event). p) before ≡ take (length before) full
    → (length before < length full) × (part ≡ get_or full (length before) part) → AreAllFull full → alternate true (joined full last) ≡ true → IsInTurn full before part last
in_turn full before part last so_far turn h a =
    split_turn full before (drop (suc (length before)) full) part last (at_turn full before part (sym (map-id before) ∙ so_far) turn.0 turn.1) h a

-- ---- segments

-- the segments of full parts
abbrev pub placed_parts : ℕ → ℕ → List (List Event) → List PlacedEvents
placed_parts rank first [] = []
placed_parts rank first (part ∷ full) = placed rank first part ∷ placed_parts rank (first + 32768) full

pub one_more : (rank first : ℕ) (full : List (List Event)) (part : List Event)
    → placed_parts rank first (full ++ part ∷ []) ≡ placed_parts rank first full ++ placed rank (first + 32768 * length full) part ∷ []
one_more rank first [] part =
    let e : first ≡ first + 32768 * 0 = omega arith in
    ap (λ n. placed rank n part ∷ []) e
one_more rank first (front ∷ full) part =
    let e : (first + 32768) + 32768 * length full ≡ first + 32768 * length (front ∷ full) = omega arith in
    ap (λ (ss : List PlacedEvents). placed rank first front ∷ ss)
    (one_more rank (first + 32768) full part ∙ ap (λ n. placed_parts rank (first + 32768) full ++ placed rank n part ∷ []) e)

full_part : (part rest : List Event) → length part ≡ 65536 → IsPart part rest
full_part part rest count = record { some = omega (arith, count); most = omega (arith, count); full = λ some. count }

last_part : (part : List Event) → 0 < length part → length part ≤ 65536 → IsPart part []
last_part part some most = record { some = some; most = most; full = λ more. absurd (omega (arith, more)) }

-- no events are left
pub without_last : (rank first : ℕ) (full : List (List Event)) → AreAllFull full → AreSegments rank first (joined full []) (placed_parts rank first full)
without_last rank first [] h = refl
without_last rank first (part ∷ full) h = (joined full [], refl, full_part part (joined full []) h.0, refl, without_last rank (first + 32768) full h.1)

-- the last part gives the last segment
pub with_last : (rank first : ℕ) (full : List (List Event)) (last : List Event) → AreAllFull full → 0 < length last → length last ≤ 65536
    → AreSegments rank first (joined full last) (placed_parts rank first full ++ placed rank (first + 32768 * length full) last ∷ [])
with_last rank first [] last h some most =
    let e : first + 32768 * 0 ≡ first = omega arith in
    ([], sym (append-nil last), last_part last some most, ap (λ n. placed rank n last) e, refl)
with_last rank first (part ∷ full) last h some most =
    let e : first + 32768 * length (part ∷ full) ≡ (first + 32768) + 32768 * length full = omega arith in (
      joined full last,
      refl,
      full_part part (joined full last) h.0,
      refl,
      rw e (with_last rank (first + 32768) full last h.1 some most),
    )

pub no_events : (xs : List Event) → length xs ≡ 0 → xs ≡ []
no_events [] e = refl
no_events (x ∷ xs) e = absurd (omega (arith, e))
