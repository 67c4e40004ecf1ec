use Rattle.std.proofs.Common.{OnErr, Result, Ok, Err}
use Rattle.trace_pair.proofs.PutAt.{write_more, write_same}
use Rattle.trace_pair.proofs.groups.add.Goals as goal

on_err : {X E P : Type 0} (r : Result X E) → P → OnErr r P
on_err (Ok _) p = tt
on_err (Err _) p = p

pub returns-in-Some-clause-ok : goal.returns-in-Some-clause-ok
returns-in-Some-clause-ok g c = write_more g.T.Ord.cmp g.met.K.Ord.total c.args.sets.now (c.get_mut.follows.lender c.insert.new.self) c.args.key c.in-Some.members.now c.insert.new.self
    c.in-Some.ensures.value (c.get_mut.follows.holds c.insert.new.self) c.args.x c.in_ok-insert.ensures.ok

pub returns-in_err-insert-clause-err : goal.returns-in_err-insert-clause-err
returns-in_err-insert-clause-err g c = on_err c.from_residual.result
    (write_same g.T.Ord.cmp g.met.K.Ord.total c.args.sets.now (c.get_mut.follows.lender c.insert.new.self) c.args.key c.in-Some.members.now c.insert.new.self
    c.in-Some.ensures.value (c.get_mut.follows.holds c.insert.new.self) c.in_err-insert.ensures.err)
