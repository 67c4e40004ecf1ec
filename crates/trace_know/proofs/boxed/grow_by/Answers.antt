use Rattle.std.proofs.Common.{◌≡◌, subst}
use Rattle.trace_know.specs.declared.run.Run.{Run}
use Rattle.trace_know.specs.Runs.{IsAlike}
use Rattle.trace_know.proofs.Touching.{can-take-alike, taken-alike}
use Rattle.trace_know.proofs.boxed.grow_by.Goals as goal

pub absorb-requires-clause-piece : goal.absorb-requires-clause-piece
absorb-requires-clause-piece c =
    let is : c.deref_mut.result.now ≡ c.args.run.now = cc in
    let same = subst (λ (r : Run). IsAlike c.make_room.new.run r) is c.make_room.ensures.same in
    can-take-alike c.args.piece c.make_room.new.run c.args.run.now same c.requires.piece

pub returns-clause-ok : goal.returns-clause-ok
returns-clause-ok c =
    let is : c.deref_mut.result.now ≡ c.args.run.now = cc in
    let same = subst (λ (r : Run). IsAlike c.make_room.new.run r) is c.make_room.ensures.same in
    taken-alike c.args.piece c.make_room.new.run c.args.run.now c.absorb.new.run same c.absorb.ensures.taken
