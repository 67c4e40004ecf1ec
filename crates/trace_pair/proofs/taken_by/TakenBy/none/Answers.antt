use Rattle.std.proofs.Common.{◌≡◌, ℕ, zero, suc, true, Bool, List, ◌∷◌, Option, None, refl, sym, ◌∙◌, ap}
use Rattle.std.specs.Borrow.{Bor}
use Rattle.std.specs.Option.{option_map}
use Rattle.std.specs.Prelude.{is_none, map, replicate}
use Rattle.mpi_model.specs.declared.message.Receive.{Receive}
use Rattle.trace_pair.specs.Coupled.{taker_of}
use Rattle.trace_pair.specs.declared.pair.Taker.{Taker}
use Rattle.trace_pair.proofs.taken_by.TakenBy.none.Goals as goal

abbrev taker_by : Option (Bor Receive) → Option Taker
taker_by = option_map (λ (q : Bor Receive). taker_of q.now)

each_none : (count : ℕ) → map taker_by (replicate count None) ≡ replicate count None
each_none zero = refl
each_none (suc count) = ap (λ (l : List (Option Taker)). None ∷ l) (each_none count)

all_marked : (count : ℕ) → replicate count true ≡ map (is_none {T = Bor Receive}) (replicate count None)
all_marked zero = refl
all_marked (suc count) = ap (λ (l : List Bool). true ∷ l) (all_marked count)

pub invariant_of-result : goal.invariant_of-result
invariant_of-result c = c.in_ok-waiting.ensures ∙ all_marked c.args.count ∙ ap (λ (l : List (Option (Bor Receive))). map (is_none {T = Bor Receive}) l) (sym c.in_ok-receives.ensures)

pub returns : goal.returns
returns c = ap (λ (l : List (Option (Bor Receive))). map taker_by l) c.in_ok-receives.ensures ∙ each_none c.args.count
