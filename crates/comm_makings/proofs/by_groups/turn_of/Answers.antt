use Rattle.std.proofs.Common.{◌≡◌, ◌∙◌, arith, false, sym, true}
use Rattle.comm_makings.specs.GroupKeys.{key_with}
use Rattle.comm_makings.proofs.Turns.{none_behind, none_more, times_no, turn_fits, turn_is}
use Rattle.comm_makings.proofs.by_groups.turn_of.Goals as goal

pub loop-behind-init : goal.loop-behind-init
loop-behind-init c = record { within = omega arith; none = none_behind c.args.own.now (key_with c.args.named.ranks.now c.args.named.tag) }

pub overflow_add-result : goal.overflow_add-result
overflow_add-result c = turn_fits c.args.own.now c.loop-behind.behind _ c.requires (omega arith) (omega arith) c.loop-behind.auto.behind-fits

pub returns-then-is_with : goal.returns-then-is_with
returns-then-is_with c =
    turn_is c.args.named.ranks.now c.args.named.tag c.args.own.now c.loop-behind.behind _ c.requires (omega arith) (omega arith)
    (c.is_with.ensures.0 c.if-is_with.true) c.loop-behind.invariant.none

pub loop-behind-preserved : goal.loop-behind-preserved
loop-behind-preserved c = record {
  within = omega arith;
  none = none_more c.args.own.now c.args.named.ranks.now c.args.named.tag c.loop-behind.behind _ (omega arith) (omega arith) c.loop-behind.invariant.none
      (λ is. absurd (let bad : false ≡ true = sym c.if-is_with.false ∙ c.is_with.ensures.1 is in cc));
}

pub returns : goal.returns
returns c = times_no (key_with c.args.named.ranks.now c.args.named.tag) c.args.own.now c.loop-behind.behind c.loop-behind-test.false c.loop-behind.invariant.none
