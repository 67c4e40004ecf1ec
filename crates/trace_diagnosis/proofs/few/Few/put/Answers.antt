use Rattle.std.proofs.Common.{◌≡◌, ◌∙◌, subst}
use Rattle.trace_diagnosis.specs.Fewest.{IsFullFor}
use Rattle.trace_diagnosis.proofs.Fewest.{passed_thing}
use Rattle.trace_diagnosis.proofs.few.Few.put.Goals as goal

pub returns-then-is_full : goal.returns-then-is_full
returns-then-is_full c =
    let is : c.self.inside.things.items ≡ c.args.self.now = cc (c.self.view_is) in
    let full : IsFullFor c.args.value c.args.self.now = subst (IsFullFor c.args.value) (c.deref.ensures.value ∙ is) (c.is_full.ensures.full c.if-is_full.true) in
    passed_thing c.args.value c.args.place c.args.self.now full
