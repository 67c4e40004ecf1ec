use Rattle.std.proofs.Common.{ap, arith}
use Rattle.trace_know.proofs.InRoom.{sized}
use Rattle.trace_know.proofs.run_list.RunList.insert.Goals as goal

pub insert_among-requires-clause-room : goal.insert_among-requires-clause-room
insert_among-requires-clause-room c =
    let s = c.self.inside in
    let z = sized s.len s.room s.chunks.items c.args.self.now c.self.invariant.0 (ap (λ r. r.items) c.self.view_is) (ap (λ r. r.room) c.self.view_is) in
    let len = z.len in
    let room = z.room in
    omega arith

pub insert_among-requires-clause-at : goal.insert_among-requires-clause-at
insert_among-requires-clause-at c =
    let s = c.self.inside in
    let z = sized s.len s.room s.chunks.items c.args.self.now c.self.invariant.0 (ap (λ r. r.items) c.self.view_is) (ap (λ r. r.room) c.self.view_is) in
    let len = z.len in
    omega arith

pub overflow_add-self : goal.overflow_add-self
overflow_add-self c =
    let s = c.self.inside in
    let z = sized s.len s.room s.chunks.items c.args.self.now c.self.invariant.0 (ap (λ r. r.items) c.self.view_is) (ap (λ r. r.room) c.self.view_is) in
    let len = z.len in
    let room = z.room in
    omega arith

pub invariant_of-self : goal.invariant_of-self
invariant_of-self c =
    let s = c.self.inside in
    let z = sized s.len s.room s.chunks.items c.args.self.now c.self.invariant.0 (ap (λ r. r.items) c.self.view_is) (ap (λ r. r.room) c.self.view_is) in
    let len = z.len in
    let room = z.room in
    (c.insert_among.ensures.packed, omega arith)
