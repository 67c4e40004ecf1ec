use Rattle.std.proofs.Common.{◌≡◌, ◌∙◌, Some, ap, refl, sym, arith}
use Rattle.std.specs.List.{slice_get}
use Rattle.std.proofs.lemmas.Option.{slice_get-get_or}
use Rattle.comm_makings.proofs.Derivations.{derived_more, derived_none, own_some, world_derives}
use Rattle.comm_makings.proofs.run.add_first.Goals as goal
use Rattle.comm_makings.proofs.run.add_first.Goals.{then-is_some+in_ok-own_of+in_ok-push-2, else-is_some}

pub loop-calls-init : goal.loop-calls-init
loop-calls-init c = record {
  counted = refl;
  derived = rw c.in_ok-push.ensures.items
      (derived_more c.args.ranks.now c.args.views.now c.args.comms.now.items c.in_ok-world_of.field-0
      (rw c.requires.none (derived_none c.args.ranks.now c.args.views.now))
      (world_derives c.args.ranks.now c.args.views.now c.in_ok-world_of.field-0 c.in_ok-world_of.ensures));
}

pub loop-calls-preserved : goal.loop-calls-preserved
loop-calls-preserved c =
    let at : slice_get c.args.ranks.now c.loop-calls.calls-index ≡ Some c.calls-item.result =
    slice_get-get_or c.args.ranks.now c.loop-calls.calls-index c.calls-item.result c.loop-calls-test.true ∙ ap Some (sym c.calls-item.is) in
    elim c.if-is_some.branch [
      | then-is_some+in_ok-own_of+in_ok-push-2 w ↦ record {
        counted = omega (arith, c.loop-calls.invariant.counted);
        derived = rw w.comms-is (rw w.in_ok-push-2.ensures.items
            (derived_more c.args.ranks.now c.args.views.now c.loop-calls.comms.items w.in_ok-own_of.field-0 c.loop-calls.invariant.derived
            (own_some c.args.ranks.now c.args.views.now c.loop-calls.rank c.calls-item.result w.in_ok-own_of.field-0
            (ap (slice_get c.args.ranks.now) c.loop-calls.invariant.counted ∙ at) (sym c.is_some.ensures ∙ w.if-is_some.true) w.in_ok-own_of.ensures)));
      }
      | else-is_some w ↦ record { counted = omega (arith, c.loop-calls.invariant.counted); derived = rw w.comms-is c.loop-calls.invariant.derived }
    ]
