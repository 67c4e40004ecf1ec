use Rattle.std.proofs.Common.{◌∙◌, sym}
use Rattle.trace_diagnosis.specs.Listed.{listed}
use Rattle.trace_diagnosis.proofs.Listing.{unasked}
use Rattle.trace_diagnosis.proofs.listed.put_under.Goals as goal

pub returns-then-not-contains : goal.returns-then-not-contains
returns-then-not-contains c = λ p h. unasked c.args.m.now c.args.asked.now c.args.pattern p (listed c.args.lists.now p) (sym c.contains.ensures ∙ c.if-not-contains.true) h

pub returns : goal.returns
returns c = λ p h. c.in_ok-put_one.ensures p
