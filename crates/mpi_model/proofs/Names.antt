-- Names in order: where two clash two neighbours do, and a name is found by halves.
use Rattle.std.proofs.Common.{◌≡◌, ℕ, zero, suc, ◌+◌, ◌-◌, ◌<◌, ◌≤◌, ◌==◌, ◌&&◌, ◌||◌, ◌∙◌, Bool, true, false, List, [], ◌∷◌, length, nat_le, nat_lt, get_or, refl, sym, arith, Option, Some, None, ◌⊎◌, inl, inr, ⊎_elim, All}
use Rattle.std.specs.Prelude.{find}
use Rattle.std.specs.Ordering.{is_lt, nat_cmp, ordering_then}
use Rattle.std.specs.List.Sorted.{IsPartitionPoint, IsPartitionedBy}
use Rattle.std.proofs.lemmas.List.{get_or_default}
use Rattle.std.proofs.lemmas.Grind.{common_steps}
use Rattle.std.proofs.lemmas.Bool.Decides.{nat_tests}
use Rattle.mpi_model.specs.declared.layout.comm.Stretch.{Stretch}
use Rattle.mpi_model.specs.declared.layout.names.Name.{Name}
use Rattle.mpi_model.specs.Names.{AreOrdered, clashes, has_calls, holds, is_before, is_name, names_by_numbers, precedes, shares}
use Rattle.mpi_model.proofs.Communicators.{and_true}
use Rattle.mpi_model.proofs.Finds.{find_none}
use Rattle.mpi_model.proofs.Pairs.{free_pair, only, pair_free}
use Rattle.mpi_model.specs.Communicators.{has_pair}

-- what the tests say, as facts
pub record Holds (first : ℕ) (end : Option ℕ) (call : ℕ) : Type 0 where
  pub from : first ≤ call
  pub to : is_before call end ≡ true

held : (s : Stretch) (call : ℕ) → holds s call ≡ true → Holds s.first s.end call
held s call h =
    let parts = and_true (nat_le s.first call) (is_before call s.end) h in
    let low : nat_le s.first call ≡ true = parts.0 in
    record { from = grind (arith, common_steps); to = parts.1 }

holding : (s : Stretch) (call : ℕ) → s.first ≤ call → is_before call s.end ≡ true → holds s call ≡ true
holding s call low high =
    let first : nat_le s.first call ≡ true = grind (arith, common_steps) in
    rw (first, high) refl

-- what comes before a later call comes before an earlier one
earlier : (end : Option ℕ) (a b : ℕ) → a ≤ b → is_before b end ≡ true → is_before a end ≡ true
earlier None a b le h = refl
earlier (Some end) a b le h = grind (arith, nat_tests, common_steps)

pub flips : (x y : Name) → clashes x y ≡ clashes y x
flips x y = grind (arith, nat_tests, common_steps)

-- two names of one rank and one number, of which the first holds the first call of the second
clash : (x y : Name) → x.rank ≡ y.rank → x.stretch.number ≡ y.stretch.number → holds x.stretch y.stretch.first ≡ true → clashes x y ≡ true
clash x y rank number hold =
    let ranks : (x.rank == y.rank) ≡ true = grind (arith, nat_tests, common_steps) in
    let numbers : (x.stretch.number == y.stretch.number) ≡ true = grind (arith, nat_tests, common_steps) in
    rw (ranks, numbers, hold) refl

record Named (rank call number : ℕ) (x : Name) : Type 0 where
  pub of_rank : x.rank ≡ rank
  pub of_number : x.stretch.number ≡ number
  pub in_call : Holds x.stretch.first x.stretch.end call

same_number : (a b : ℕ) → (a == b) ≡ true → a ≡ b
same_number a b h = grind (arith, nat_tests, common_steps)

named : (rank call number : ℕ) (x : Name) → is_name rank call number x ≡ true → Named rank call number x
named rank call number x h =
    let parts = and_true (x.rank == rank) ((x.stretch.number == number) && holds x.stretch call) h in
    let more = and_true (x.stretch.number == number) (holds x.stretch call) parts.1 in
    record { of_rank = same_number x.rank rank parts.0; of_number = same_number x.stretch.number number more.0; in_call = held x.stretch call more.1 }

-- two names of one number in one call clash
pub both_clash : (rank call number : ℕ) (x y : Name) → is_name rank call number x ≡ true → is_name rank call number y ≡ true → clashes x y ≡ true
both_clash rank call number x y h k =
    let a = named rank call number x h in
    let b = named rank call number y k in
    step (nat_le x.stretch.first y.stretch.first) refl
  where
    step : (le : Bool) → nat_le x.stretch.first y.stretch.first ≡ le → clashes x y ≡ true
    step true e =
        let a = named rank call number x h in
        let b = named rank call number y k in
        let low : x.stretch.first ≤ y.stretch.first = grind (arith, common_steps) in
        clash x y (a.of_rank ∙ sym b.of_rank) (a.of_number ∙ sym b.of_number)
        (holding x.stretch y.stretch.first low (earlier x.stretch.end y.stretch.first call b.in_call.from a.in_call.to))
    step false e =
        let a = named rank call number x h in
        let b = named rank call number y k in
        let low : y.stretch.first ≤ x.stretch.first = grind (arith, common_steps) in
        flips x y ∙ clash y x (b.of_rank ∙ sym a.of_rank) (b.of_number ∙ sym a.of_number)
        (holding y.stretch x.stretch.first low (earlier y.stretch.end x.stretch.first call a.in_call.from b.in_call.to))

-- a name before a place: of a lower rank, of a lower number, or of an earlier or the same first call
pub record Comes (rank number first rank' number' first' : ℕ) : Type 0 where
  pub ranks : rank ≤ rank'
  pub numbers : rank ≡ rank' → number ≤ number'
  pub firsts : rank ≡ rank' → number ≡ number' → first ≤ first'

pub comes : (rank number call : ℕ) (x : Name) → precedes rank number call x ≡ true → Comes x.rank x.stretch.number x.stretch.first rank number call
comes rank number call x h = record {
  ranks = grind (arith, nat_tests, common_steps);
  numbers = λ e. grind (arith, nat_tests, common_steps);
  firsts = λ e f. grind (arith, nat_tests, common_steps);
}

abbrev pub before : Name → Name → Bool
before y x = precedes y.rank y.stretch.number y.stretch.first x

pub coming : (rank number call : ℕ) (x : Name) → Comes x.rank x.stretch.number x.stretch.first rank number call → precedes rank number call x ≡ true
coming rank number call x h = step (nat_lt x.rank rank) (nat_lt x.stretch.number number) refl refl
  where
    step : (a b : Bool) → nat_lt x.rank rank ≡ a → nat_lt x.stretch.number number ≡ b → precedes rank number call x ≡ true
    step true b e f = rw e refl
    step false true e f =
        let low : rank ≤ x.rank = grind (arith, common_steps) in
        let same : x.rank ≡ rank = omega (arith, low, h.ranks) in
        let here : (x.rank == rank) ≡ true = grind (arith, nat_tests, common_steps) in
        rw (e, f, here) refl
    step false false e f =
        let low : rank ≤ x.rank = grind (arith, common_steps) in
        let same : x.rank ≡ rank = omega (arith, low, h.ranks) in
        let here : (x.rank == rank) ≡ true = grind (arith, nat_tests, common_steps) in
        let under : number ≤ x.stretch.number = grind (arith, common_steps) in
        let over = h.numbers same in
        let alike : x.stretch.number ≡ number = omega (arith, under, over) in
        let there : (x.stretch.number == number) ≡ true = grind (arith, nat_tests, common_steps) in
        let first = h.firsts same alike in
        let last : nat_le x.stretch.first call ≡ true = grind (arith, nat_tests, common_steps) in
        rw (e, f, here, there, last) refl

-- what precedes a name that precedes a place
pub further : (rank number call : ℕ) (x y : Name) → before y x ≡ true → precedes rank number call y ≡ true → Comes x.rank x.stretch.number x.stretch.first rank number call
further rank number call x y p q =
    let a = comes y.rank y.stretch.number y.stretch.first x p in
    let b = comes rank number call y q in
    record {
      ranks = omega (arith, a.ranks, b.ranks);
      numbers = λ e.
          let r : x.rank ≡ y.rank = omega (arith, a.ranks, b.ranks, e) in
          let s : y.rank ≡ rank = omega (arith, r, e) in
          let m = a.numbers r in
          let n = b.numbers s in
          omega (arith, m, n);
      firsts = λ e f.
          let r : x.rank ≡ y.rank = omega (arith, a.ranks, b.ranks, e) in
          let s : y.rank ≡ rank = omega (arith, r, e) in
          let m = a.numbers r in
          let n = b.numbers s in
          let t : x.stretch.number ≡ y.stretch.number = omega (arith, m, n, f) in
          let u : y.stretch.number ≡ number = omega (arith, t, f) in
          let v = a.firsts r t in
          let w = b.firsts s u in
          omega (arith, v, w);
    }

-- the place between two names: the name behind it has the rank, the number, and a first call from that of the first on
record Middle (x y : Name) (call : ℕ) : Type 0 where
  pub of_rank : x.rank ≡ y.rank
  pub of_number : x.stretch.number ≡ y.stretch.number
  pub from : x.stretch.first ≤ y.stretch.first
  pub to : y.stretch.first ≤ call

middle : (rank number call : ℕ) (x y : Name) → before y x ≡ true → precedes rank number call y ≡ true → x.rank ≡ rank → x.stretch.number ≡ number → Middle x y call
middle rank number call x y p q e f =
    let a = comes y.rank y.stretch.number y.stretch.first x p in
    let b = comes rank number call y q in
    let r : x.rank ≡ y.rank = omega (arith, a.ranks, b.ranks, e) in
    let s : y.rank ≡ rank = omega (arith, r, e) in
    let m = a.numbers r in
    let n = b.numbers s in
    let t : x.stretch.number ≡ y.stretch.number = omega (arith, m, n, f) in
    let u : y.stretch.number ≡ number = omega (arith, t, f) in
    record { of_rank = r; of_number = t; from = a.firsts r t; to = b.firsts s u }

-- a name that holds a call behind a later name's first one clashes with that
covers : (x y : Name) (call : ℕ) → Middle x y call → is_before call x.stretch.end ≡ true → clashes x y ≡ true
covers x y call m high = clash x y m.of_rank m.of_number (holding x.stretch y.stretch.first m.from (earlier x.stretch.end y.stretch.first call m.to high))

or_cases : (a b : Bool) → (a || b) ≡ true → (a ≡ true) ⊎ (b ≡ true)
or_cases true b h = inl refl
or_cases false b h = inr h

never_falls : (a b c a' b' c' : ℕ) → is_lt (ordering_then (ordering_then (nat_cmp a b) (nat_cmp a' b')) (nat_cmp c c')) ≡ false → Comes b b' c' a a' c
never_falls a b c a' b' c' h = record {
  ranks = grind (arith, nat_tests, common_steps);
  numbers = λ e. grind (arith, nat_tests, common_steps);
  firsts = λ e f. grind (arith, nat_tests, common_steps);
}

module _ (xs : List Name) (near : (k : ℕ) (d : Name) → k + 1 < length xs
    → is_lt (ordering_then (ordering_then (nat_cmp (get_or xs (k + 1) d).rank (get_or xs k d).rank) (nat_cmp (get_or xs (k + 1) d).stretch.number (get_or xs k d).stretch.number)) (nat_cmp (get_or xs (k + 1) d).stretch.first (get_or xs k d).stretch.first)) ≡ false) where
  next : (k : ℕ) (d : Name) → k + 1 < length xs → before (get_or xs (k + 1) d) (get_or xs k d) ≡ true
  next k d lt =
      let x = get_or xs k d in
      let y = get_or xs (k + 1) d in
      coming y.rank y.stretch.number y.stretch.first x (never_falls y.rank x.rank y.stretch.first y.stretch.number x.stretch.number x.stretch.first (near k d lt))

  far : (i n j : ℕ) (d : Name) → j ≡ i + n → j < length xs → before (get_or xs j d) (get_or xs i d) ≡ true
  far i zero j d e lt =
      let same : j ≡ i = omega arith in
      let x = get_or xs i d in
      rw same (coming x.rank x.stretch.number x.stretch.first x (record { ranks = omega arith; numbers = λ r. omega arith; firsts = λ r m. omega arith }))
  far i (suc n) j d e lt =
      let same : j ≡ i + n + 1 = omega arith in
      let y = get_or xs (i + n + 1) d in
      rw same (coming y.rank y.stretch.number y.stretch.first (get_or xs i d)
      (further y.rank y.stretch.number y.stretch.first (get_or xs i d) (get_or xs (i + n) d) (far i n (i + n) d refl (omega arith)) (next (i + n) d (omega arith))))

  -- names that don't fall from one to the next
  pub ordered_by_next : AreOrdered xs
  ordered_by_next i j d le lt = far i (j - i) j d (omega arith) lt

-- a clash with a later name is one with each name between
pub between : (x y z : Name) → before y x ≡ true → before z y ≡ true → has_calls x.stretch ≡ true → clashes x y ≡ false → clashes x z ≡ false
between x y z p q calls apart = step (clashes x z) refl
  where
    step : (b : Bool) → clashes x z ≡ b → clashes x z ≡ false
    step false e = e
    step true e =
        let parts = and_true (x.rank == z.rank) (shares x.stretch z.stretch) e in
        let more = and_true (x.stretch.number == z.stretch.number) (holds x.stretch z.stretch.first || holds z.stretch x.stretch.first) parts.1 in
        let rank = same_number x.rank z.rank parts.0 in
        let number = same_number x.stretch.number z.stretch.number more.0 in
        let m = middle z.rank z.stretch.number z.stretch.first x y p q rank number in
        let own = held x.stretch x.stretch.first calls in
        let clashing : clashes x y ≡ true = ⊎_elim
        (λ h. covers x y z.stretch.first m (held x.stretch z.stretch.first h).to)
        (λ h. let low = (held z.stretch x.stretch.first h).from in
        covers x y x.stretch.first (record { of_rank = m.of_rank; of_number = m.of_number; from = m.from; to = omega (arith, low, m.to) }) own.to)
        (or_cases (holds x.stretch z.stretch.first) (holds z.stretch x.stretch.first) more.1) in
        cc

module _ (xs : List Name) (ordered : AreOrdered xs) where
  -- neighbours that don't clash
  pub apart_all : All (λ x. has_calls x.stretch ≡ true) xs → ((k : ℕ) (d : Name) → k + 1 < length xs → clashes (get_or xs k d) (get_or xs (k + 1) d) ≡ false)
      → has_pair clashes xs ≡ false
  apart_all calls near = pair_free clashes xs (λ i j d lt in_range.
      between (get_or xs i d) (get_or xs (i + 1) d) (get_or xs j d) (ordered i (i + 1) d (omega arith) (omega arith)) (ordered (i + 1) j d (omega arith) in_range)
      (calls i d (omega arith)) (near i d (omega arith)))

  -- a search by halves may be asked
  pub parted : (rank number call : ℕ) → IsPartitionedBy (precedes rank number call) xs
  parted rank number call i j d le in_range h = coming rank number call (get_or xs i d) (further rank number call (get_or xs i d) (get_or xs j d) (ordered i j d le in_range) h)

  module _ (apart : has_pair clashes xs ≡ false) (rank number call at : ℕ)
      (point : IsPartitionPoint (λ x. precedes rank number call x ≡ true) (λ x. precedes rank number call x ≡ false) xs at) where
    not_behind : (j : ℕ) (d : Name) → at ≤ j → j < length xs → is_name rank call number (get_or xs j d) ≡ false
    not_behind j d le lt = step (is_name rank call number (get_or xs j d)) refl
      where
        step : (b : Bool) → is_name rank call number (get_or xs j d) ≡ b → is_name rank call number (get_or xs j d) ≡ false
        step false e = e
        step true e =
            let x = get_or xs j d in
            let n = named rank call number x e in
            let here : precedes rank number call x ≡ true = coming rank number call x (record {
              ranks = omega (arith, n.of_rank);
              numbers = λ r. omega (arith, n.of_number);
              firsts = λ r m. n.in_call.from;
            }) in
            let not : precedes rank number call x ≡ false = point.1 j d le lt in
            cc

    not_before : (j : ℕ) (d : Name) → j + 1 < at → at ≤ length xs → is_name rank call number (get_or xs j d) ≡ false
    not_before j d lt within = step (is_name rank call number (get_or xs j d)) refl
      where
        step : (b : Bool) → is_name rank call number (get_or xs j d) ≡ b → is_name rank call number (get_or xs j d) ≡ false
        step false e = e
        step true e =
            let x = get_or xs j d in
            let y = get_or xs (at - 1) d in
            let n = named rank call number x e in
            let m = middle rank number call x y (ordered j (at - 1) d (omega arith) (omega arith)) (point.0 (at - 1) d (omega arith) (omega arith)) n.of_rank n.of_number in
            let clashing : clashes x y ≡ true = covers x y call m n.in_call.to in
            let not : clashes x y ≡ false = free_pair clashes xs apart j (at - 1) d (omega arith) (omega arith) in
            cc

    -- none but the last name before the place can be the one
    pub nowhere : (d : Name) → at ≤ length xs → (0 < at → is_name rank call number (get_or xs (at - 1) d) ≡ false) → find (is_name rank call number) xs ≡ None
    nowhere d within last = find_none (is_name rank call number) xs d (λ j lt. ⊎_elim
        (λ (far : at ≤ j). not_behind j d far lt)
        (λ (near : j < at). ⊎_elim
        (λ (before : j + 1 < at). not_before j d before within)
        (λ (is : j ≡ at - 1). rw is (last (omega arith)))
        (sides_of j near))
        (halves j))
      where
        halves : (j : ℕ) → (at ≤ j) ⊎ (j < at)
        halves j = grind arith

        sides_of : (j : ℕ) → j < at → (j + 1 < at) ⊎ (j ≡ at - 1)
        sides_of j lt = grind arith

    pub there : (d : Name) → 0 < at → at ≤ length xs → is_name rank call number (get_or xs (at - 1) d) ≡ true → find (is_name rank call number) xs ≡ Some (get_or xs (at - 1) d)
    there d some within pass = only clashes (is_name rank call number) (both_clash rank call number) xs (at - 1) d apart (omega arith) pass

-- where either list is at its end nothing is left
pub done : (comm : ℕ) (members : List ℕ) (numbers : List (Option Stretch)) → (length members ≡ 0) ⊎ (length numbers ≡ 0) → names_by_numbers comm members numbers ≡ []
done comm [] numbers h = refl
done comm (m ∷ ms) [] h = refl
done comm (m ∷ ms) (n ∷ ns) h = absurd (⊎_elim (λ (a : length (m ∷ ms) ≡ 0). omega arith) (λ (b : length (n ∷ ns) ≡ 0). omega arith) h)

abbrev pub no_name : Name
no_name = record { rank = 0; comm = 0; stretch = record { number = 0; first = 0; end = None } }

-- the next two neighbours don't clash
pub more_apart : (xs : List Name) (i : ℕ) → 0 < i → i < length xs
    → ((k : ℕ) (d : Name) → k + 1 < i → clashes (get_or xs k d) (get_or xs (k + 1) d) ≡ false)
    → clashes (get_or xs (i - 1) no_name) (get_or xs i no_name) ≡ false
    → (k : ℕ) (d : Name) → k + 1 < i + 1 → clashes (get_or xs k d) (get_or xs (k + 1) d) ≡ false
more_apart xs i some lt before here k d le = ⊎_elim
    (λ (low : k + 1 < i). before k d low)
    (λ (is : k + 1 ≡ i).
    let at : k ≡ i - 1 = omega arith in
    rw (is, at, get_or_default xs (i - 1) d no_name (omega arith), get_or_default xs i d no_name lt) here)
    (cases k le)
  where
    cases : (k : ℕ) → k + 1 < i + 1 → (k + 1 < i) ⊎ (k + 1 ≡ i)
    cases k le = grind arith
