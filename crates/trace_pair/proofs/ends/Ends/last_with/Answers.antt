use Rattle.std.proofs.Common.{◌∙◌, sym}
use Rattle.trace_pair.proofs.Latest.{none_of_kind, last_at}
use Rattle.trace_pair.proofs.ends.Ends.last_with.Goals as goal

pub returns-then-not-has : goal.returns-then-not-has
returns-then-not-has c = λ opened s. none_of_kind opened c.args.self.now s c.args.m.now c.args.source c.args.tag c.requires.source c.requires.tag (sym c.has.ensures ∙ c.if-not-has.true)

pub returns : goal.returns
returns c = λ opened s. last_at opened c.args.self.now s c.args.m.now c.args.source c.args.tag c.requires.source c.requires.tag c.copied.result (c.copied.ensures ∙ c.get.ensures.value)
