-- Pieces of a buffer that is read or written part by part.
use Rattle.std.proofs.Common.{◌≡◌, ℕ, zero, suc, ◌+◌, ◌-◌, ◌≤◌, List, [], ◌∷◌, ◌++◌, length, take, drop, arith, ap, refl, subst, ◌∙◌}
use Rattle.std.proofs.lemmas.List.{length-take}
use Rattle.std.proofs.lemmas.Slice.{take-put_mid}
use Rattle.std.proofs.Math.Seq.{take-add, take-append-add}
use Rattle.std.proofs.KnownBytes.{Keeps-trans}
use borrow.Rule.Slice.PartMut.{put_mid}
use Rattle.mpi_model.specs.Side.{Side, LeavesSide}

take_less : (n m : ℕ) (xs : List ℕ) → n ≤ m → take n xs ≡ take n (take m xs)
take_less zero m xs h = refl
take_less (suc n) zero xs h = absurd (omega arith)
take_less (suc n) (suc m) [] h = refl
take_less (suc n) (suc m) (x ∷ xs) h = ap (λ (r : List ℕ). x ∷ r) (take_less n m xs (omega arith))

-- a part of a buffer was filled from a place on
pub filled_more : (a n : ℕ) (xs ys : List ℕ) → a ≤ length xs → length ys ≡ length xs - a → n ≤ length ys → take (a + n) (put_mid a (length xs - a) xs ys) ≡ take a xs ++ take n ys
filled_more a n xs ys h k m =
    let whole : take (a + length ys) (put_mid a (length xs - a) xs ys) ≡ take a xs ++ ys = take-put_mid a (length xs - a) xs ys (a + length ys) refl h in
    let front : length (take a xs) ≡ a = length-take a xs ∙ omega arith in
    take_less (a + n) (a + length ys) (put_mid a (length xs - a) xs ys) (omega arith) ∙ ap (take (a + n)) whole ∙ subst (λ (b : ℕ). take (b + n) (take a xs ++ ys) ≡ take a xs ++ take n ys) front (take-append-add (take a xs) ys n)

-- the next part of a piece
pub next_part : (a n : ℕ) (xs : List ℕ) → n ≤ length xs - a → take (a + n) xs ≡ take a xs ++ take n (take (length xs - a) (drop a xs))
next_part a n xs h = take-add a n xs ∙ ap (λ (r : List ℕ). take a xs ++ r) (take_less n (length xs - a) (drop a xs) h)

-- two calls in turn leave the other side as it was
pub leaves_both : (a b c : Side) → LeavesSide a b → LeavesSide b c → LeavesSide a c
leaves_both a b c p q = record { bytes = Keeps-trans _ _ _ p.bytes q.bytes; failures = q.failures ∙ p.failures }
