use Rattle.std.proofs.Common.{◌≡◌, false, eqb, arith, sym, subst}
use Rattle.std.proofs.lemmas.Bool.Decides.{nat_tests}
use Rattle.trace_wire.specs.Outcomes.{Reads}
use Rattle.trace_wire.proofs.EventForms.{further}
use Rattle.trace_wire.proofs.read.event.middle_call_of.Goals as goal

pub returns-in_default : goal.returns-in_default
returns-in_default c =
    let n7 : eqb c.args.code 7 ≡ false = grind (arith, nat_tests, c.in_default) in
    let n8 : eqb c.args.code 8 ≡ false = grind (arith, nat_tests, c.in_default) in
    let n9 : eqb c.args.code 9 ≡ false = grind (arith, nat_tests, c.in_default) in
    let n10 : eqb c.args.code 10 ≡ false = grind (arith, nat_tests, c.in_default) in
    let n11 : eqb c.args.code 11 ≡ false = grind (arith, nat_tests, c.in_default) in
    let n12 : eqb c.args.code 12 ≡ false = grind (arith, nat_tests, c.in_default) in
    let n13 : eqb c.args.code 13 ≡ false = grind (arith, nat_tests, c.in_default) in
    let n14 : eqb c.args.code 14 ≡ false = grind (arith, nat_tests, c.in_default) in
    let same = further c.args.code c.args.bytes.now n7 n8 n9 n10 n11 n12 n13 n14 in
    subst (λ read. Reads (λ x. (x.0, x.1.now)) c.further_call_of.result read) (sym same) c.further_call_of.ensures
