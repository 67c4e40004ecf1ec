use Rattle.std.proofs.Common.{◌∙◌, sym}
use Rattle.trace_pair.specs.Table.{taken_by}
use Rattle.trace_wait.specs.Matching.{is_unpaired_message}
use Rattle.trace_wait.specs.Patterns.{suits, offers, is_void_or_not}
use Rattle.trace_wait.proofs.Keys.{passed_over, taken_in, in_kind, of_another_kind}
use Rattle.trace_wait.proofs.unpaired.offer_unpaired.Goals as goal

pub returns-then-not-is_void_or_not : goal.returns-then-not-is_void_or_not
returns-then-not-is_void_or_not c = λ p. of_another_kind (is_unpaired_message c.args.pairs.now.pairs c.args.m.now) (suits c.args.m.now p) (is_void_or_not c.args.void c.args.m.now) _ (sym c.is_void_or_not.ensures ∙ c.if-not-is_void_or_not.true)

pub returns-then-is_taken : goal.returns-then-is_taken
returns-then-is_taken c = λ p. passed_over (taken_by c.args.pairs.now.pairs c.args.m.now.name) (offers c.args.void c.args.m.now p) _ (sym c.is_taken.ensures ∙ c.if-is_taken.true)

pub returns : goal.returns
returns c = λ p. taken_in (taken_by c.args.pairs.now.pairs c.args.m.now.name) (offers c.args.void c.args.m.now p) _ _ (sym c.is_taken.ensures ∙ c.if-is_taken.false) (in_kind (suits c.args.m.now p) (is_void_or_not c.args.void c.args.m.now) _ _ (sym c.is_void_or_not.ensures ∙ c.if-not-is_void_or_not.false) (c.in_ok-offer.ensures p))
