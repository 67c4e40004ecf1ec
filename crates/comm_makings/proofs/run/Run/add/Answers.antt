use Rattle.std.proofs.Common.{◌∙◌, Some, length, ap, sym}
use Rattle.std.proofs.lemmas.Iterator.Adapters.{YieldsList-from_vec}
use Rattle.std.proofs.lemmas.Iterator.Consumers.{YieldsList-turn}
use Rattle.std.proofs.lemmas.Option.{slice_get-get_or}
use Rattle.comm_makings.proofs.run.Run.add.Goals as goal

pub add_one-requires-clause-comm : goal.add_one-requires-clause-comm
add_one-requires-clause-comm c =
    let b = c.into_iter-comm-iterator.ensures.into_iter_gives in
    let road = YieldsList-from_vec {s = c.into_iter-comm-iterator.result} c.args.made.items b.0 (b.1 ∙ c.args.made.ok.0) in
    let turn = YieldsList-turn road c.loop-comm.yielded _ c.loop-comm.yielded_by _ c.next.new.self c.in-Some.comm c.in-Some.is c.next.ensures.steps in
    c.requires.made.each (length c.loop-comm.yielded) c.in-Some.comm
    (slice_get-get_or c.args.made.items (length c.loop-comm.yielded) c.in-Some.comm turn.0 ∙ ap Some (sym turn.1))
