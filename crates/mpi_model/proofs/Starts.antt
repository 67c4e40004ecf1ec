-- Names by rank: those of a rank stand between its start and the next one.
use Rattle.std.proofs.Common.{◌≡◌, ℕ, ◌+◌, ◌-◌, ◌<◌, ◌≤◌, Bool, true, false, List, length, nat_lt, get_or, refl, arith, ◌⊎◌, ⊎_elim}
use Rattle.std.proofs.lemmas.Grind.{common_steps}
use Rattle.std.specs.List.{AllWithin, slice_range}
use Rattle.std.specs.List.Sorted.{IsPartitionPoint, IsPartitionedBy}
use Rattle.mpi_model.specs.declared.layout.names.Name.{Name}
use Rattle.mpi_model.specs.Names.{AreOrdered, precedes}
use Rattle.mpi_model.specs.Starts.{IsStart}
use Rattle.mpi_model.proofs.Names.{comes, coming, parted}

part_at : (xs : List Name) (a b k : ℕ) (d : Name) → a ≤ b → b ≤ length xs → k < b - a → get_or (slice_range xs a b) k d ≡ get_or xs (a + k) d
part_at xs a b k d up within lt = grind (arith, common_steps)

pub length_part : (xs : List Name) (a b : ℕ) → a ≤ b → b ≤ length xs → length (slice_range xs a b) ≡ b - a
length_part xs a b up within = grind (arith, common_steps)

-- a search by halves may be asked of a part
pub parted_part : (xs : List Name) → AreOrdered xs → (a b rank number call : ℕ) → a ≤ b → b ≤ length xs → IsPartitionedBy (precedes rank number call) (slice_range xs a b)
parted_part xs ordered a b rank number call up within i j d le lt h =
    let long = length_part xs a b up within in
    let at_j = part_at xs a b j d up within (omega (arith, long)) in
    let at_i = part_at xs a b i d up within (omega (arith, long)) in
    rw at_i (parted xs ordered rank number call (a + i) (a + j) d (omega arith) (omega (arith, long)) (rw at_j at h))

lower : (rank number call : ℕ) (x : Name) → x.rank < rank → precedes rank number call x ≡ true
lower rank number call x lt = coming rank number call x (record { ranks = omega arith; numbers = λ e. absurd (omega arith); firsts = λ e f. absurd (omega arith) })

higher : (rank number call : ℕ) (x : Name) → rank < x.rank → precedes rank number call x ≡ false
higher rank number call x lt = step (precedes rank number call x) refl
  where
    step : (b : Bool) → precedes rank number call x ≡ b → precedes rank number call x ≡ false
    step false e = e
    step true e = let c = comes rank number call x e in absurd (omega (arith, c.ranks))

sides : (a b : ℕ) → (a < b) ⊎ (b ≤ a)
sides a b = grind arith

-- the place among the names of a rank is the place among all
pub whole_point : (xs : List Name) (low high at rank number call : ℕ) → low ≤ high → high ≤ length xs
    → AllWithin (λ x. x.rank < rank) xs 0 low → AllWithin (λ x. rank < x.rank) xs high (length xs) → at ≤ high - low
    → IsPartitionPoint (λ x. precedes rank number call x ≡ true) (λ x. precedes rank number call x ≡ false) (slice_range xs low high) at
    → IsPartitionPoint (λ x. precedes rank number call x ≡ true) (λ x. precedes rank number call x ≡ false) xs (low + at)
whole_point xs low high at rank number call up within before behind few point = (
  λ k d from lt. ⊎_elim
      (λ (under : k < low). lower rank number call (get_or xs k d) (before k d (omega arith) under))
      (λ (over : low ≤ k).
      let here : k ≡ low + (k - low) = omega arith in
      let there = part_at xs low high (k - low) d up within (omega arith) in
      rw (here, ← there) (point.0 (k - low) d (omega arith) (omega arith)))
      (sides k low),
  λ k d from lt. ⊎_elim
      (λ (under : k < high).
      let long = length_part xs low high up within in
      let here : k ≡ low + (k - low) = omega arith in
      let there = part_at xs low high (k - low) d up within (omega arith) in
      rw (here, ← there) (point.1 (k - low) d (omega arith) (omega (arith, long))))
      (λ (over : high ≤ k). higher rank number call (get_or xs k d) (behind k d over lt))
      (sides k high),
)

pub parted_by_rank : (xs : List Name) → AreOrdered xs → (rank : ℕ) → IsPartitionedBy (λ x. nat_lt x.rank rank) xs
parted_by_rank xs ordered rank i j d le lt h =
    let x = get_or xs i d in
    let y = get_or xs j d in
    let c = comes y.rank y.stretch.number y.stretch.first x (ordered i j d le lt) in
    let low : y.rank < rank = grind (arith, common_steps, h) in
    let lower : x.rank < rank = omega (arith, c.ranks, low) in
    grind (arith, common_steps, lower)

below : (a b : ℕ) → nat_lt a b ≡ true → a < b
below a b h = grind (arith, common_steps)

above : (a b : ℕ) → nat_lt a b ≡ false → b ≤ a
above a b h = grind (arith, common_steps)

pub start_at : (xs : List Name) (rank at : ℕ) → at ≤ length xs → IsPartitionPoint (λ x. nat_lt x.rank rank ≡ true) (λ x. nat_lt x.rank rank ≡ false) xs at → IsStart xs rank at
start_at xs rank at within point = record {
  within = within;
  before = λ k d from lt. below (get_or xs k d).rank rank (point.0 k d from lt);
  behind = λ k d from lt. above (get_or xs k d).rank rank (point.1 k d from lt);
}

-- the start of a rank isn't behind that of the next
pub starts_rise : (xs : List Name) (rank a b : ℕ) → IsStart xs rank a → IsStart xs (rank + 1) b → (d : Name) → a ≤ b
starts_rise xs rank a b s t d = ⊎_elim
    (λ (lt : b < a).
    let before = s.before b d (omega arith) lt in
    let behind = t.behind b d (omega arith) (omega (arith, s.within)) in
    absurd (omega (arith, before, behind)))
    (λ le. le)
    (sides b a)
