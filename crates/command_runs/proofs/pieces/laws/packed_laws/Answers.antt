use Rattle.std.proofs.Common.{◌≡◌, ◌∙◌, ap, sym, refl}
use Rattle.trace_know.specs.View.{View, join}
use Rattle.command_runs.proofs.Unpacking.{Associates, Commutes}
use Rattle.command_runs.proofs.pieces.laws.packed_laws.Goals as goal

-- two views before a third, in the other order
other_order : Associates → Commutes → (a b c : View) → join a (join b c) ≡ join b (join a c)
other_order associative commutative a b c = sym (associative a b c) ∙ ap (λ (v : View). join v c) (commutative a b) ∙ associative b a c

pub returns-clause-swapped : goal.returns-clause-swapped
returns-clause-swapped c = λ file ranks one other packed view h.
    let next = h.3 in (
      next.0,
      join h.0 next.1,
      next.2,
      (h.0, next.1, h.2, next.3, refl),
      h.4 ∙ ap (join h.0) next.4 ∙ other_order c.join_laws.ensures.associative c.join_laws.ensures.commutative h.0 next.0 next.1,
    )

pub returns-clause-again : goal.returns-clause-again
returns-clause-again c = λ file ranks one packed view h. (
  h.0,
  view,
  h.2,
  h,
  h.4 ∙ ap (λ (v : View). join v h.1) (sym (c.join_laws.ensures.idempotent h.0)) ∙ c.join_laws.ensures.associative h.0 h.0 h.1 ∙ ap (join h.0) (sym h.4),
)
