-- Parameters, one after another.
use Rattle.std.proofs.Common.{◌≡◌, ◌∙◌, ◌<◌, ◌+◌, ℕ, zero, suc, List, [], ◌∷◌, drop, length, ap, sym, refl, arith}
use Rattle.dumpi_text.specs.Call.{Param}
use Rattle.comm_calls.specs.Calls.{beside_at, beside_in, or_number}

-- what the parameters from a place on say
pub one_param : (name : List ℕ) (params : List Param) (place : ℕ) → place < length params → beside_in name (drop place params) ≡ or_number (beside_at name params place) (beside_in name (drop (place + 1) params))
one_param name [] place h = absurd (omega (arith, h))
one_param name (p ∷ ps) zero h = refl
one_param name (p ∷ ps) (suc i) h =
    let n : suc i + 1 ≡ suc (i + 1) = omega arith in
    one_param name ps i (omega (arith, h)) ∙ ap (λ (k : ℕ). or_number (beside_at name ps i) (beside_in name (drop k (p ∷ ps)))) (sym n)
