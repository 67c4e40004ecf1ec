-- What takes messages, read for a few of them at a time.
use Rattle.std.proofs.Common.{◌≡◌, ◌∙◌, ◌+◌, ◌<◌, ◌≤◌, ℕ, List, [], ◌∷◌, ◌++◌, Option, None, ap, sym, length, get_or, arith, inl, inr}
use Rattle.std.proofs.lemmas.Bool.{cases_lt}
use Rattle.std.proofs.lemmas.List.{get_or_append_left, get_or_push, length_push}
use Rattle.trace_pair.specs.Waiting.{AreAhead, Takings, taker_at}
use Rattle.trace_pair.specs.declared.pair.Taker.{Taker}

-- what takes one message more
pub ahead_more : (t : Takings) (from : ℕ) (takers : List (Option Taker)) (place : ℕ) → AreAhead t from takers → place ≡ from + length takers
    → AreAhead t from (takers ++ taker_at t place ∷ [])
ahead_more t from takers place ahead is = λ i h.
    elim (cases_lt i (length takers)) [
      | inl within ↦ get_or_append_left takers (taker_at t place ∷ []) None i within ∙ ahead i within
      | inr past ↦
          let last : length takers ≡ i = omega (arith, length_push takers (taker_at t place)) in
          get_or_push takers (taker_at t place) None i last ∙ ap (taker_at t) (is ∙ ap (λ (n : ℕ). from + n) last)
    ]
