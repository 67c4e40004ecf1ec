use Rattle.std.proofs.Common.{rules, ◌≡◌, ◌∙◌, List, [], ◌∷◌, ◌++◌, ap}
use Rattle.mpi_model.specs.declared.event.Event.{Event}
use Rattle.dumpi_calls.proofs.Joined.{joined_more}
use Rattle.dumpi_calls.proofs.parts.Parts.push.Goals as goal

pub returns-clause-ok : goal.returns-clause-ok
returns-clause-ok c =
    let parts = c.see_room.new.self in
    let pushed : c.push.new.self ≡ parts.last ++ c.args.event ∷ [] = search rules in
    rw pushed (joined_more parts.full.items parts.last (c.args.event ∷ []) ∙ ap (λ (events : List Event). events ++ c.args.event ∷ []) c.see_room.ensures.same)
