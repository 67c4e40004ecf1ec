use Rattle.std.proofs.Common.{false, refl}
use Rattle.trace_ops.specs.declared.ops.gather.Gathered.{Gathered}
use Rattle.trace_ops.proofs.Nothing.{gathered_none}
use Rattle.trace_ops.proofs.ops.gather.Gathered.empty.Goals as goal

pub returns-clause-gathered : goal.returns-clause-gathered
returns-clause-gathered c layout rank =
    let first : Gathered = record {
      sends = c.in_ok-with_capacity.field-0;
      receives = c.in_ok-with_capacity-2.field-0;
      rounds = c.new.result;
      active = c.new-2.result;
      cancelled = c.new-3.result;
      foreign = 0;
      given_back = false;
      touched = c.in_ok-new.field-0;
    } in
    gathered_none layout rank c.args.calls.now first c.in_ok-with_capacity.ensures.items c.in_ok-with_capacity-2.ensures.items c.new.ensures.items c.new-2.ensures.items c.new-3.ensures.items
    refl refl c.in_ok-new.ensures
