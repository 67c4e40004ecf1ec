-- One rank more.
use Rattle.std.proofs.Common.{◌≡◌, ◌<◌, ◌+◌, ℕ, zero, suc, Option, List, [], ◌∷◌, ◌++◌, take, get_or, length, refl, sym, ◌∙◌, ap, arith, append_assoc, append-nil}
use Rattle.call_words.specs.declared.ranges.Range.{Range}
use Rattle.call_words.specs.Ranges.{next_range, range_after, text_before, text_of}

pub take_next : {X : Type 0} (xs : List X) (i : ℕ) (d x : X) → i < length xs → x ≡ get_or xs i d → take (i + 1) xs ≡ take i xs ++ x ∷ []
take_next [] i d x h e = absurd (omega (arith, h))
take_next {X = X} (y ∷ xs) zero d x h e = ap (λ (z : X). z ∷ []) (sym e)
take_next {X = X} (y ∷ xs) (suc i) d x h e =
    let n : suc i + 1 ≡ suc (i + 1) = omega arith in
    ap (λ (k : ℕ). take k (y ∷ xs)) n ∙ ap (λ (l : List X). y ∷ l) (take_next xs i d x (omega (arith, h)) e)

-- the range that is held behind one rank more
pub range_push : (held : Option Range) (xs : List ℕ) (r : ℕ) → range_after held (xs ++ r ∷ []) ≡ next_range (range_after held xs) r
range_push held [] r = refl
range_push held (x ∷ xs) r = range_push (next_range held x) xs r

-- what is said before it
pub text_push : (held : Option Range) (xs : List ℕ) (r : ℕ) → text_of held (xs ++ r ∷ []) ≡ text_of held xs ++ text_before (range_after held xs) r
text_push held [] r = append-nil (text_before held r)
text_push held (x ∷ xs) r = ap (λ (l : List ℕ). text_before held x ++ l) (text_push (next_range held x) xs r) ∙ sym (append_assoc (text_before held x) (text_of (next_range held x) xs) (text_before (range_after (next_range held x) xs) r))
