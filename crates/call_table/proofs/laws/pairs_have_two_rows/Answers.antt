use Rattle.call_table.proofs.TwoRows.{two_rows}
use Rattle.call_table.proofs.laws.pairs_have_two_rows.Goals as goal

pub returns : goal.returns
returns c =
    let pairs = c.pairs_are_found.ensures in
    let operations = c.operations_are_found.ensures in
    two_rows pairs.apart pairs.made pairs.found operations.messages operations.receives
