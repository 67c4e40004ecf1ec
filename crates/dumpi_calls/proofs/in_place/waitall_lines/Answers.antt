use Rattle.std.proofs.Common.{rules, ◌≡◌, ℤ, List, subst}
use Rattle.dumpi_calls.specs.InPlace.{TellsStatuses}
use Rattle.dumpi_calls.proofs.InPlace.{waitall_call_told}
use Rattle.dumpi_calls.proofs.in_place.waitall_lines.Goals as goal

pub returns-clause-says : goal.returns-clause-says
returns-clause-says c =
    let requests = c.in-Some.requests in
    let told = c.in-Some-statuses_front in
    let same : c.as_slice.result.now ≡ requests = first_of (search rules, cc) in
    let statuses : TellsStatuses requests told.tolds told.lines c.in-Some.rest.now told.rest.now =
    subst (λ (r : List ℤ). TellsStatuses r told.tolds told.lines c.in-Some.rest.now told.rest.now) same told.ensures.says in
    waitall_call_told c.passed_front-passed.result.0 requests told.tolds told.lines c.args.text.now c.passed_front-passed.result.1.now c.in-Some.rest.now told.rest.now
    c.passed_front-passed.ensures.says c.in-Some.ensures statuses
