use Rattle.std.proofs.Common.{arith}
use Rattle.std.proofs.lemmas.Grind.{common_steps}
use Rattle.dumpi_text.proofs.QuickParam.{its_pair, its_parameter, no_stamp_line}
use Rattle.dumpi_text.proofs.quick.quick_param.Goals as goal

pub returns-then-is_bare-clause-kind : goal.returns-then-is_bare-clause-kind
returns-then-is_bare-clause-kind c =
    let no_stamp = no_stamp_line c.args.line.now c.in_ok-named.named.now c.in_ok-value.value.now in
    grind (arith, common_steps, no_stamp)

pub returns-then-is_bare-clause-param : goal.returns-then-is_bare-clause-param
returns-then-is_bare-clause-param c =
    let parameter = its_parameter c.args.line.now c.in_ok-named.named.now c.in_ok-value.value.now in
    grind (arith, common_steps, parameter)

pub returns-then-is_bare-clause-pair : goal.returns-then-is_bare-clause-pair
returns-then-is_bare-clause-pair c =
    let pair = its_pair c.in_ok-named.named.now c.in_ok-value.value.now in
    grind (arith, common_steps, pair)
