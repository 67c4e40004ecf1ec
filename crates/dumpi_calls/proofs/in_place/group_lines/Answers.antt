use Rattle.std.proofs.Common.{rules, ◌≡◌, None, arith}
use Rattle.std.proofs.lemmas.Grind.{common_steps}
use Rattle.dumpi_calls.proofs.InPlace.{group_call_told}
use Rattle.dumpi_calls.proofs.in_place.group_lines.Goals as goal

pub returns-clause-says : goal.returns-clause-says
returns-clause-says c =
    let is : c.in_ok-collective.collective ≡ record { kind = c.args.kind; root = None; comm = c.in_ok-group.group } = first_of (search rules, grind (arith, common_steps)) in
    group_call_told c.args.kind c.moved_front-passed.result.0 c.in_ok-comm.comm c.in_ok-group.group c.in_ok-collective.collective
    c.args.text.now c.moved_front-passed.result.1.now c.in_ok-comm.rest.now
    c.requires.root c.requires.object c.moved_front-passed.ensures.says c.in_ok-comm.ensures c.in_ok-group.ensures.value is
