-- Ranks that are read side by side.
use Rattle.std.proofs.Common.{◌≡◌, ◌⊎◌, ⊎_elim, inl, inr, ℕ, ◌+◌, ◌<◌, ◌≤◌, List, [], ◌∷◌, Option, None, Some, IfSome, length, take, subst, sym, arith}
use Rattle.std.specs.Prelude.{slice_range}
use Rattle.std.specs.List.{All, AllWithin, HoldsAt}
use Rattle.std.specs.List.Sorted.{IsNonDecreasingBy}
use Rattle.std.proofs.lemmas.Bool.{cases_order}
use Rattle.std.proofs.lemmas.List.{get_or-take, length-take-le}
use Rattle.mpi_model.specs.Layouts.{Parts}
use Rattle.run_files.specs.Manifests.{PieceParts}
use Rattle.command_runs.specs.Ranks.{IsRankAmong, IsRankRead, IsShare}
use Rattle.command_runs.specs.declared.pieces.rank_reads.RankRead.{RankRead}

abbrev Files : Type 0
Files = List ℕ → Option (List ℕ)

-- the pieces from the first of a rank on are of no lower one
pub risen : (pieces : List PieceParts) (rank start : ℕ) → IsNonDecreasingBy (λ p. p.rank) pieces
    → (start < length pieces → HoldsAt (λ p. rank ≤ p.rank) pieces start) → AllWithin (λ p. rank ≤ p.rank) pieces start (length pieces)
risen pieces rank start rises first k d low lt =
    let at = first (omega (arith, low, lt)) d in
    let up = rises start k d low lt in
    omega (arith, at, up)

-- the first pieces, one by one
pub front_within : (pieces : List PieceParts) (rank start : ℕ) → start ≤ length pieces → All (λ p. p.rank < rank) (take start pieces) → AllWithin (λ p. p.rank < rank) pieces 0 start
front_within pieces rank start le all k d low lt =
    let long : length (take start pieces) ≡ start = length-take-le start pieces le in
    subst (λ (p : PieceParts). p.rank < rank) (get_or-take start pieces k d lt) (all k d (omega (arith, long, lt)))

-- ---- the pieces of a rank stand in one place

no_earlier : (pieces : List PieceParts) (rank start end other last : ℕ) (d : PieceParts) → IsShare pieces rank start end → IsShare pieces rank other last → start < other → ⊥
no_earlier pieces rank start end other last d a b lt =
    let low = b.lower start d (omega arith) lt in
    let order = b.order in let bound = b.bound in
    ⊎_elim (λ (e : start ≡ end). let up = a.higher start d (omega (arith, e)) (omega (arith, lt, order, bound)) in omega (arith, low, up))
    (⊎_elim (λ (l : start < end). let is = a.own start d (omega arith) l in omega (arith, low, is)) (λ (g : end < start). let own = a.order in omega (arith, g, own)))
    (cases_order start end)

no_shorter : (pieces : List PieceParts) (rank start end other last : ℕ) (d : PieceParts) → IsShare pieces rank start end → IsShare pieces rank other last → start ≡ other → end < last → ⊥
no_shorter pieces rank start end other last d a b same lt =
    let order = a.order in let bound = b.bound in
    let is = b.own end d (omega (arith, same, order)) lt in
    let up = a.higher end d (omega arith) (omega (arith, lt, bound)) in
    omega (arith, is, up)

one_start : (pieces : List PieceParts) (rank start end other last : ℕ) → IsShare pieces rank start end → IsShare pieces rank other last → start ≡ other
one_start [] rank start end other last a b =
    let p = a.order in let q = a.bound in let r = b.order in let s = b.bound in omega (arith, p, q, r, s)
one_start (one ∷ more) rank start end other last a b = by (cases_order start other)
  where
    by : (start ≡ other) ⊎ ((start < other) ⊎ (other < start)) → start ≡ other
    by (inl e) = e
    by (inr (inl l)) = absurd (no_earlier (one ∷ more) rank start end other last one a b l)
    by (inr (inr g)) = absurd (no_earlier (one ∷ more) rank other last start end one b a g)

one_end : (pieces : List PieceParts) (rank start end other last : ℕ) → IsShare pieces rank start end → IsShare pieces rank other last → end ≡ last
one_end [] rank start end other last a b =
    let q = a.bound in let s = b.bound in omega (arith, q, s)
one_end (one ∷ more) rank start end other last a b = by (cases_order end last)
  where
    same : start ≡ other
    same = one_start (one ∷ more) rank start end other last a b

    by : (end ≡ last) ⊎ ((end < last) ⊎ (last < end)) → end ≡ last
    by (inl e) = e
    by (inr (inl l)) = absurd (no_shorter (one ∷ more) rank start end other last one a b same l)
    by (inr (inr g)) = absurd (no_shorter (one ∷ more) rank other last start end one b a (sym same) g)

-- what was read of them where they stand was read of the rank
pub same_share : (file : Files) (fails : Type 0) (l : Parts) (pieces : List PieceParts) (rank start end : ℕ) (read : RankRead) → IsShare pieces rank start end
    → IsRankRead file fails l (slice_range pieces start end) rank read → IsRankAmong file fails l pieces rank read
same_share file fails l pieces rank start end read a is other last b =
    subst (λ (n : ℕ). IsRankRead file fails l (slice_range pieces n last) rank read) (one_start pieces rank start end other last a b)
    (subst (λ (n : ℕ). IsRankRead file fails l (slice_range pieces start n) rank read) (one_end pieces rank start end other last a b) is)
