use Rattle.std.proofs.Common.{rules, arith}
use Rattle.std.proofs.lemmas.Grind.{common_steps}
use Rattle.dumpi_text.specs.Stamps.{Entering}
use Rattle.dumpi_text.specs.Usual.{HasLine}
use Rattle.dumpi_text.proofs.UsualLines.{entering_there}
use Rattle.dumpi_text.proofs.usual.entering_front.Goals as goal

pub returns : goal.returns
returns c =
    let there : HasLine (Entering c.args.name.now c.in-Some.at) c.args.text.now c.in-Some.rest.now =
    entering_there c.args.name.now c.args.text.now c.in_ok-after.after.now c.in_ok-stamp.stamp.now c.in-Some.rest.now c.in-Some.at c.requires (omega arith)
    c.in_ok-after.ensures.whole c.in_ok-stamp.ensures.whole c.in-Some.ensures in
    first_of (search (rules, there), grind (arith, common_steps, there))
