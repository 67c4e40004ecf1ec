use Rattle.std.proofs.Common.{◌∙◌, ap}
use Rattle.trace_diagnosis.specs.Places.{first_places}
use Rattle.trace_diagnosis.specs.Ways.{stands}
use Rattle.trace_diagnosis.proofs.near.receives_at.Goals as goal

pub returns : goal.returns
returns c = λ xs are.
    c.in_ok-found.ensures ∙ are c.place_for-place.result ∙ ap (λ p. first_places (stands c.args.way p) xs) c.place_for-place.ensures
