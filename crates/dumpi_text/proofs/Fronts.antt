-- Fronts of texts, eight bytes at a time.
use Rattle.std.proofs.Common.{◌≡◌, ◌≢◌, ℕ, ◌+◌, ◌-◌, ◌<◌, ◌≤◌, true, Option, Some, None, List, [], ◌∷◌, ◌++◌, eqb, length, length-drop, take, drop, arith, take-add, ap, sym, refl, ◌∙◌}
use Rattle.std.proofs.lemmas.List.{drop-append-le, take-append-drop, take-append-le, take_all, take_rest, take-take}
use Rattle.dumpi_text.specs.Words.{after_front, after_text}
use Rattle.dumpi_text.proofs.QuickParam.{front_whole}

-- what follows a front that is there
pub front_there : (front rest : List ℕ) → after_front front (front ++ rest) ≡ Some rest
front_there [] rest = refl
front_there (b ∷ bs) rest =
    let itself : eqb b b ≡ true = grind arith in
    rw itself (front_there bs rest)

eight_of : (front rest : List ℕ) (at : ℕ) → at + 8 ≤ length front → take 8 (drop at (front ++ rest)) ≡ take 8 (drop at front)
eight_of front rest at within =
    ap (take 8) (drop-append-le at front rest (omega arith))
    ∙ take-append-le 8 (drop at front) rest (omega (arith, length-drop at front))

eight_differ : (front text : List ℕ) (at : ℕ) (found : Option (List ℕ)) → at + 8 ≤ length front → take 8 (drop at text) ≢ take 8 (drop at front) → after_front front text ≡ found → found ≡ None
eight_differ front text at None within other is = refl
eight_differ front text at (Some rest) within other is =
    absurd (other (ap (λ (t : List ℕ). take 8 (drop at t)) (front_whole front text rest is) ∙ eight_of front rest at within))

-- a text whose eight bytes at a place are others doesn't begin with the front
pub eight_other : (front text : List ℕ) (at : ℕ) → at + 8 ≤ length front → take 8 (drop at text) ≢ take 8 (drop at front) → after_front front text ≡ None
eight_other front text at within other = eight_differ front text at (after_front front text) within other refl

-- eight bytes more are the same
pub eight_more : (front text : List ℕ) (at : ℕ) → take at text ≡ take at front → take 8 (drop at text) ≡ take 8 (drop at front) → take (at + 8) text ≡ take (at + 8) front
eight_more front text at same more =
    take-add at 8 text ∙ ap (λ (t : List ℕ). t ++ take 8 (drop at text)) same ∙ ap (λ (t : List ℕ). take at front ++ t) more ∙ sym (take-add at 8 front)

-- the last eight bytes are the same
pub last_eight : (front text : List ℕ) (at : ℕ) → 8 ≤ length front → length front < at + 8 → at ≤ length front → take at text ≡ take at front
    → take 8 (drop (length front - 8) text) ≡ take 8 (drop (length front - 8) front) → text ≡ front ++ drop (length front) text
last_eight front text at long over within same last =
    let n : ℕ = length front - 8 in
    let fewer : take n text ≡ take n front = sym (take-take n at text (omega arith)) ∙ ap (take n) same ∙ take-take n at front (omega arith) in
    let whole : n + 8 ≡ length front = omega arith in
    let there : take (length front) text ≡ front =
    ap (λ (k : ℕ). take k text) (sym whole) ∙ eight_more front text n fewer last ∙ ap (λ (k : ℕ). take k front) whole ∙ take_all (length front) front (omega arith) in
    sym (take-append-drop (length front) text) ∙ ap (λ (t : List ℕ). t ++ drop (length front) text) there

-- what follows a front that is there, as a slice of the text
pub rest_of_strip : (front text : List ℕ) → text ≡ front ++ drop (length front) text → Some (take (length text - length front) (drop (length front) text)) ≡ after_text front text
unfolding after_text
rest_of_strip front text whole =
    let found : List ℕ → Option (List ℕ) = λ rest. Some rest in
    ap found (take_rest text (length front)) ∙ sym (ap (after_front front) whole ∙ front_there front (drop (length front) text))
