use Rattle.std.proofs.Common.{arith}
use Rattle.comm_makings.proofs.Holders.{other_number, same_number}
use Rattle.comm_makings.proofs.uses.latest.Goals as goal

pub returns-then-place-number : goal.returns-then-place-number
returns-then-place-number c =
    same_number c.args.handles.now c.args.places.now c.requires c.args.number c.args.call c.count_to-count.result c.count_to-count.ensures.bound c.count_to-count.ensures.point
    (omega arith) _ c.if-place-number.true

pub returns-else-place-number : goal.returns-else-place-number
returns-else-place-number c =
    other_number c.args.handles.now c.args.places.now c.requires c.args.number c.args.call c.count_to-count.result c.count_to-count.ensures.bound c.count_to-count.ensures.point
    (omega arith) _ c.if-place-number.false
