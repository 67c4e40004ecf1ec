use Rattle.std.proofs.Common.{ap, ◌∙◌}
use Rattle.trace_know.specs.Prefix.{event_of, is_unread_enter}
use Rattle.std.specs.List.{slice_get}
use Rattle.trace_know.proofs.Fronts.{front-unread, no-front-unread}
use Rattle.trace_know.proofs.readers.is_unread_in.Goals as goal

pub returns-in-Some : goal.returns-in-Some
returns-in-Some c =
    let run = c.in-Some.run'.now in
    c.is_unread_at.ensures ∙ ap (λ n. is_unread_enter (event_of (slice_get run.cells.items n))) c.sound.ensures ∙ front-unread c.args.runs.now.items c.args.rank run c.in-Some.ensures

pub returns-in-None : goal.returns-in-None
returns-in-None c = no-front-unread c.args.runs.now.items c.args.rank c.in-None.ensures
