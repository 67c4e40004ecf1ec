use Rattle.dumpi_text.proofs.UsualLines.{stamp_ends}
use Rattle.dumpi_text.proofs.usual.stamp_front.Goals as goal

pub returns : goal.returns
returns c =
    stamp_ends c.in_ok-stamp.stamp c.in_ok-wall.wall c.in_ok-cpu.cpu c.args.text.now c.in_ok-wall.rest.now c.in_ok-second.second.now c.in_ok-cpu.rest.now c.in_ok-rest.rest.now
    c.in_ok-wall.ensures.there c.in_ok-second.ensures.whole c.in_ok-cpu.ensures.there c.in_ok-rest.ensures.whole c.in_ok-stamp.ensures.1
