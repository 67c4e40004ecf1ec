use Rattle.std.proofs.Common.{◌≡◌, false, eqb, arith, sym, subst}
use Rattle.std.proofs.lemmas.Bool.Decides.{nat_tests}
use Rattle.trace_wire.specs.Outcomes.{Reads}
use Rattle.trace_wire.proofs.EventForms.{later}
use Rattle.trace_wire.proofs.read.event.further_call_of.Goals as goal

pub returns-in_default : goal.returns-in_default
returns-in_default c =
    let n15 : eqb c.args.code 15 ≡ false = grind (arith, nat_tests, c.in_default) in
    let n16 : eqb c.args.code 16 ≡ false = grind (arith, nat_tests, c.in_default) in
    let n17 : eqb c.args.code 17 ≡ false = grind (arith, nat_tests, c.in_default) in
    let n18 : eqb c.args.code 18 ≡ false = grind (arith, nat_tests, c.in_default) in
    let n19 : eqb c.args.code 19 ≡ false = grind (arith, nat_tests, c.in_default) in
    let n20 : eqb c.args.code 20 ≡ false = grind (arith, nat_tests, c.in_default) in
    let same = later c.args.code c.args.bytes.now n15 n16 n17 n18 n19 n20 in
    subst (λ read. Reads (λ x. (x.0, x.1.now)) c.later_call_of.result read) (sym same) c.later_call_of.ensures
