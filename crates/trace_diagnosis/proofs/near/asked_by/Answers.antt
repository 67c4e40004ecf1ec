use Rattle.std.proofs.Common.{◌∙◌}
use Rattle.std.proofs.lemmas.List.Elements.{All-nil}
use Rattle.std.proofs.lemmas.List.{get_or_default}
use Rattle.trace_diagnosis.proofs.Nearing.{asked_more}
use Rattle.trace_diagnosis.proofs.Shelving.{nothing_at}
use Rattle.trace_diagnosis.proofs.near.asked_by.Goals as goal

pub loop-q-init : goal.loop-q-init
loop-q-init c = record { asked = All-nil _; none = nothing_at c.new-shelf.result c.new-shelf.ensures }

pub loop-q-preserved : goal.loop-q-preserved
loop-q-preserved c = record {
  asked = asked_more c.args.way c.args.receives.now c.loop-q.q-index _ c.loop-q.shelf c.make_for.new.shelf c.loop-q-test.true (get_or_default c.args.receives.now c.loop-q.q-index _ _ c.loop-q-test.true)
      c.loop-q.invariant.asked c.in_ok-make_for.ensures;
  none = λ k v. c.in_ok-make_for.ensures.same k v ∙ c.loop-q.invariant.none k v;
}
