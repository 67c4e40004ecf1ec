use Rattle.std.proofs.Common.{◌≡◌, ◌∙◌, Bool, false, filter, sym, true}
use Rattle.std.specs.Prelude.{not}
use Rattle.trace_pair.specs.Lanes.{is_within}
use Rattle.trace_pair.proofs.Afterwards.{none_hides, some_hides}
use Rattle.trace_pair.proofs.opened.Opened.hides_within.Goals as goal

was_false : (b : Bool) → not b ≡ true → b ≡ false
was_false true h = absurd (cc)
was_false false h = cc

was_true : (b : Bool) → not b ≡ false → b ≡ true
was_true true h = cc
was_true false h = absurd (cc)

pub returns-in-Some-clause-yes : goal.returns-in-Some-clause-yes
returns-in-Some-clause-yes c = λ h.
    some_hides c.args.reaches.now (filter (is_within c.args.limit) c.args.self.now) c.args.m.now c.in-Some.end c.in-Some.ensures (sym c.is_after.ensures ∙ was_false c.is_after.result h)

pub returns-in-Some-clause-no : goal.returns-in-Some-clause-no
returns-in-Some-clause-no c = λ h.
    none_hides c.args.reaches.now (filter (is_within c.args.limit) c.args.self.now) c.args.m.now c.in-Some.end c.in-Some.ensures (sym c.is_after.ensures ∙ was_true c.is_after.result h)
