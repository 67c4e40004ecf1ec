use Rattle.std.proofs.Common.{◌≡◌, ℕ, zero, suc, false, Bool, List, [], ◌∷◌, Option, Some, None, refl, ◌∙◌, ap, slice_index_or}
use Rattle.std.specs.Borrow.{Bor}
use Rattle.std.specs.Option.{option_map}
use Rattle.std.specs.Prelude.{is_none, map}
use Rattle.mpi_model.specs.declared.message.Receive.{Receive}
use Rattle.trace_pair.specs.Coupled.{taker_of}
use Rattle.trace_pair.specs.Waiting.{waits_at}
use Rattle.trace_pair.specs.declared.pair.Taker.{Taker}
use Rattle.trace_pair.proofs.taken_by.TakenBy.waits_at.Goals as goal

abbrev taker_by : Option (Bor Receive) → Option Taker
taker_by = option_map (λ (q : Bor Receive). taker_of q.now)

marked : (rs : List (Option (Bor Receive))) (place : ℕ) → slice_index_or (map (is_none {T = Bor Receive}) rs) place false ≡ waits_at (map taker_by rs) place
marked [] zero = refl
marked [] (suc place) = refl
marked (None ∷ rs) zero = refl
marked (Some q ∷ rs) zero = refl
marked (None ∷ rs) (suc place) = marked rs place
marked (Some q ∷ rs) (suc place) = marked rs place

pub returns : goal.returns
returns c =
    c.mark_at.ensures ∙ ap (λ (l : List Bool). slice_index_or l c.args.place false) (c.deref.ensures.value ∙ c.self.invariant)
    ∙ marked c.self.inside.receives.items c.args.place ∙ ap (λ (l : List (Option Taker)). waits_at l c.args.place) c.self.view_is
