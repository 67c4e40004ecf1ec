use Rattle.std.proofs.Common.{rules, ◌≡◌, ◌∷◌, [], Some}
use Rattle.dumpi_text.specs.Items.{fields_front}
use Rattle.dumpi_calls.specs.Skims.{unseen, with_told}
use Rattle.dumpi_calls.proofs.FieldByField.{status_value}
use Rattle.dumpi_calls.proofs.skim.quick_status.Goals as goal

pub returns-then-closes_list : goal.returns-then-closes_list
returns-then-closes_list c =
    let fields = c.in_ok-fields.fields.now in
    let rest = c.in-Some.rest.now in
    let tells : with_told unseen (fields_front fields) ≡ Some (c.in-Some.told, rest) = search rules in
    let closes : rest ≡ 125 ∷ [] = search rules in
    let parts : c.args.text.now ≡ 91 ∷ 49 ∷ 93 ∷ 32 ∷ 123 ∷ 123 ∷ fields = search rules in
    status_value c.args.text.now fields rest c.in-Some.told parts tells closes
