use Rattle.std.proofs.Common.{◌≡◌, List, [], ◌∷◌, ◌++◌, ap, ◌∙◌, append_assoc}
use Rattle.mpi_model.specs.declared.event.Event.{Event}
use Rattle.trace_know.specs.declared.cell.Known.{Known}
use Rattle.trace_know.specs.declared.cell.Known.TheVariants.{One}
use Rattle.trace_know.specs.Ready.{events_among}
use Rattle.trace_know.proofs.Pieces.{are_events, events_behind}
use Rattle.trace_know.proofs.ready.ReadyEvents.push_both.Goals as goal

pub invariant_of-self-2 : goal.invariant_of-self-2
invariant_of-self-2 c =
    let cells = c.self.inside.cells.items in
    let one = c.put_behind-sound.new.cells.items in
    let both = c.put_behind-self-inside.new.cells.items in
    let first : one ≡ cells ++ One c.args.enter ∷ [] = c.put_behind-sound.ensures.cells ∙ ap (λ (ks : List Known). ks ++ One c.args.enter ∷ []) c.reserve.ensures.items in
    let middle = are_events cells one c.put_behind-sound.result c.args.enter c.self.invariant.whole first c.put_behind-sound.ensures.sound in
    are_events one both c.put_behind-self-inside.result c.args.exit middle.whole c.put_behind-self-inside.ensures.cells c.put_behind-self-inside.ensures.sound

pub returns-clause-ok : goal.returns-clause-ok
returns-clause-ok c =
    let cells = c.self.inside.cells.items in
    let one = c.put_behind-sound.new.cells.items in
    let first : one ≡ cells ++ One c.args.enter ∷ [] = c.put_behind-sound.ensures.cells ∙ ap (λ (ks : List Known). ks ++ One c.args.enter ∷ []) c.reserve.ensures.items in
    let middle : events_among one ≡ c.args.self.now ++ c.args.enter ∷ [] =
    ap events_among first ∙ events_behind cells c.args.enter ∙ ap (λ (es : List Event). es ++ c.args.enter ∷ []) c.self.view_is in
    ap events_among c.put_behind-self-inside.ensures.cells
    ∙ events_behind one c.args.exit
    ∙ ap (λ (es : List Event). es ++ c.args.exit ∷ []) middle
    ∙ append_assoc c.args.self.now (c.args.enter ∷ []) (c.args.exit ∷ [])
