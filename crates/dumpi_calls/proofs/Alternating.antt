-- Events that alternate.
use Rattle.std.proofs.Common.{◌≡◌, ◌∙◌, List, [], ◌∷◌, ◌++◌, ◌%◌, Bool, true, false, not, refl, ap, sym, length, arith}
use Rattle.mpi_model.specs.Times.{Times}
use Rattle.mpi_model.specs.declared.call.Call.{Call}
use Rattle.mpi_model.specs.declared.outcome.Outs.{Outs}
use Rattle.mpi_model.specs.declared.event.Event.{Event}
use Rattle.mpi_model.specs.declared.event.Event.TheVariants.{Enter, Return}
use Rattle.trace_know.specs.Segment.{alternate}
use Rattle.dumpi_calls.specs.Collected.{ends_open, is_open_from}

-- more events alternate after these where they begin as these end
pub alternate_more : (is_open : Bool) (events more : List Event) → alternate (not is_open) events ≡ true → alternate (not (is_open_from is_open events)) more ≡ true → alternate (not is_open) (events ++ more) ≡ true
alternate_more is_open [] more a b = b
alternate_more true (Enter call stamp ∷ events) more a b = a
alternate_more false (Enter call stamp ∷ events) more a b = alternate_more true events more a b
alternate_more true (Return outs stamp ∷ events) more a b = alternate_more false events more a b
alternate_more false (Return outs stamp ∷ events) more a b = a

pub open_more : (is_open : Bool) (events more : List Event) → is_open_from is_open (events ++ more) ≡ is_open_from (is_open_from is_open events) more
open_more is_open [] more = refl
open_more is_open (Enter call stamp ∷ events) more = open_more true events more
open_more is_open (Return outs stamp ∷ events) more = open_more false events more

-- one call more that has not returned
pub enter_more : (events new : List Event) (call : Call) (stamp : Times) → alternate true events ≡ true → ends_open events ≡ false → new ≡ events ++ Enter call stamp ∷ []
    → (alternate true new ≡ true) × (true ≡ ends_open new)
enter_more events new call stamp a o e = (
  ap (alternate true) e ∙ alternate_more false events (Enter call stamp ∷ []) a (ap (λ (b : Bool). alternate (not b) (Enter call stamp ∷ [])) o),
  sym (ap ends_open e ∙ open_more false events (Enter call stamp ∷ [])),
)

-- one call more that has returned
pub both_more : (events new : List Event) (call : Call) (enter : Times) (outs : Outs) (exit : Times) → alternate true events ≡ true → ends_open events ≡ false
    → new ≡ events ++ Enter call enter ∷ Return outs exit ∷ []
    → (alternate true new ≡ true) × (false ≡ ends_open new)
both_more events new call enter outs exit a o e = (
  ap (alternate true) e ∙ alternate_more false events (Enter call enter ∷ Return outs exit ∷ []) a (ap (λ (b : Bool). alternate (not b) (Enter call enter ∷ Return outs exit ∷ [])) o),
  sym (ap ends_open e ∙ open_more false events (Enter call enter ∷ Return outs exit ∷ [])),
)

-- events of which each call has returned are pairs
pub closed_even : (events : List Event) → alternate true events ≡ true → ends_open events ≡ false → length events % 2 ≡ 0
closed_even [] a o = refl
closed_even (Enter c s ∷ []) a o = cc
closed_even (Enter c s ∷ Return d t ∷ events) a o = omega (arith, closed_even events a o)
closed_even (Enter c s ∷ Enter d t ∷ events) a o = cc
closed_even (Return d t ∷ events) a o = cc
