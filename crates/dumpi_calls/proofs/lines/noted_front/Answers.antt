use Rattle.dumpi_calls.proofs.InPlace.{number_behind}
use Rattle.dumpi_calls.proofs.lines.noted_front.Goals as goal

pub returns-in-Some : goal.returns-in-Some
returns-in-Some c =
    number_behind c.args.parameter c.args.kind.now c.args.start.now c.args.text.now c.args.behind.now c.in-Some.rest.now c.in-Some.number c.parameter_lines.ensures
    c.requires.kind c.requires.start c.requires.short c.requires.behind c.in-Some.ensures
