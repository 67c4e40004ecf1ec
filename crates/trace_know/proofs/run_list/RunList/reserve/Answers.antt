use Rattle.std.proofs.Common.{List, length, ap, ◌∙◌, arith}
use Rattle.trace_know.specs.declared.run.Run.{Run}
use Rattle.trace_know.proofs.InRoom.{sized}
use Rattle.trace_know.proofs.run_list.RunList.reserve.Goals as goal

pub returns-clause-ok : goal.returns-clause-ok
returns-clause-ok c =
    let s = c.self.inside in
    let z = sized s.len s.room s.chunks.items c.args.self.now c.self.invariant.0 (ap (λ r. r.items) c.self.view_is) (ap (λ r. r.room) c.self.view_is) in
    let len = z.len in
    let same = ap (λ (xs : List Run). length xs) (c.reserve_among-self-inside.ensures.items ∙ ap (λ r. r.items) c.self.view_is) in
    omega arith
