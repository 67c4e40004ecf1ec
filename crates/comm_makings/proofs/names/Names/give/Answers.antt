use Rattle.std.proofs.Common.{rules, ◌≡◌, ◌∙◌, ℕ, Bool, true, Option, Some, ap, length, nat_eq, subst, sym}
use Rattle.std.specs.Prelude.{OnOk}
use Rattle.indexmap.specs.IndexMap.{get}
use Rattle.comm_makings.specs.Names.{name_after, number_given}
use Rattle.comm_makings.specs.Naming.{AreNamed, taken_by}
use Rattle.comm_makings.specs.declared.calls.Given.{Given}
use Rattle.comm_makings.specs.declared.calls.Given.TheVariants as givens
use Rattle.comm_makings.proofs.names.Names.give.Goals as goal

-- the number that a call gives that returned
number_is : (returned : Bool) (given : Given) (number : ℕ) → returned ≡ true → given ≡ givens.Number number → number_given returned given ≡ Some number
number_is returned given number r e = ap (λ (b : Bool). number_given b given) r ∙ ap (number_given true) e

pub returns-in-Number-clause-names : goal.returns-in-Number-clause-names
returns-in-Number-clause-names c =
    let returned : c.args.call.now.returned ≡ true = search rules in
    let P : Option ℕ → Type 0 =
    λ o. OnOk c.give_number.result
    (AreNamed c.give_number.new.self.comms (name_after (taken_by c.args.self.now) o (length c.args.self.now.handles.items) (get nat_eq c.args.self.now.comms))) in
    subst P (sym (number_is c.args.call.now.returned c.args.given c.in-Number.number returned c.in-Number.is)) c.give_number.ensures.names
