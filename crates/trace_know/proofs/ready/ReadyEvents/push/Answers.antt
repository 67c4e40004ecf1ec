use Rattle.std.proofs.Common.{◌≡◌, List, [], ◌∷◌, ◌++◌, ap, ◌∙◌}
use Rattle.mpi_model.specs.declared.event.Event.{Event}
use Rattle.trace_know.specs.declared.cell.Known.{Known}
use Rattle.trace_know.specs.declared.cell.Known.TheVariants.{One}
use Rattle.trace_know.specs.Ready.{events_among}
use Rattle.trace_know.proofs.Pieces.{are_events, events_behind}
use Rattle.trace_know.proofs.ready.ReadyEvents.push.Goals as goal

pub invariant_of-self-2 : goal.invariant_of-self-2
invariant_of-self-2 c =
    let cells = c.self.inside.cells.items in
    let new = c.put_behind-self-inside.new.cells.items in
    let pushed : new ≡ cells ++ One c.args.event ∷ [] = c.put_behind-self-inside.ensures.cells ∙ ap (λ (ks : List Known). ks ++ One c.args.event ∷ []) c.reserve.ensures.items in
    are_events cells new c.put_behind-self-inside.result c.args.event c.self.invariant.whole pushed c.put_behind-self-inside.ensures.sound

pub returns-clause-ok : goal.returns-clause-ok
returns-clause-ok c =
    let cells = c.self.inside.cells.items in
    let new = c.put_behind-self-inside.new.cells.items in
    let pushed : new ≡ cells ++ One c.args.event ∷ [] = c.put_behind-self-inside.ensures.cells ∙ ap (λ (ks : List Known). ks ++ One c.args.event ∷ []) c.reserve.ensures.items in
    ap events_among pushed ∙ events_behind cells c.args.event ∙ ap (λ (es : List Event). es ++ c.args.event ∷ []) c.self.view_is
