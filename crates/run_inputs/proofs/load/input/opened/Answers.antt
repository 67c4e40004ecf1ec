use Rattle.std.proofs.Common.{rules, inr, refl}
use Rattle.run_inputs.proofs.load.input.opened.Goals as goal

pub returns-in_ok-to_string-in-Err-File-clause-err : goal.returns-in_ok-to_string-in-Err-File-clause-err
returns-in_ok-to_string-in-Err-File-clause-err g c = inr (_, refl, search rules, search rules)
