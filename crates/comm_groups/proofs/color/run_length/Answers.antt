use Rattle.std.proofs.Common.{◌≡◌, ◌<◌, length, arith}
use Rattle.std.proofs.lemmas.List.Elements.{All-more}
use Rattle.std.specs.Prelude.{pos}
use Rattle.comm_groups.specs.declared.color.Colored.{Colored}
use Rattle.comm_groups.proofs.color.run_length.Goals as goal

pub loop-asked-preserved : goal.loop-asked-preserved
loop-asked-preserved c =
    let d : Colored = record { color = 0; key = pos 0; rank = 0 } in
    let below : c.loop-asked.asked-index < length c.args.rest.now = omega arith in
    record {
      counted = omega arith;
      same = All-more (λ (e : Colored). e.color ≡ c.args.color) c.args.rest.now c.loop-asked.asked-index d below c.loop-asked.invariant.same c.if-asked-color.false;
    }
