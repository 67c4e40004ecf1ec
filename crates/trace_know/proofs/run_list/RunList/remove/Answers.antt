use Rattle.std.proofs.Common.{◌≡◌, ◌-◌, ◌≤◌, length, ap, ◌∙◌, arith}
use Rattle.std.specs.List.{insert}
use Rattle.trace_know.specs.Chunks.{in_chunks}
use Rattle.trace_know.proofs.InRoom.{sized}
use Rattle.trace_know.proofs.Packing.{packed-length, put-rest, put-below, put-above}
use Rattle.trace_know.proofs.run_list.RunList.remove.Goals as goal

pub remove_among-run-requires-clause-at : goal.remove_among-run-requires-clause-at
remove_among-run-requires-clause-at c =
    let s = c.self.inside in
    let z = sized s.len s.room s.chunks.items c.args.self.now c.self.invariant.0 (ap (λ r. r.items) c.self.view_is) (ap (λ r. r.room) c.self.view_is) in
    let len = z.len in
    omega arith

pub overflow_sub-self : goal.overflow_sub-self
overflow_sub-self c =
    let s = c.self.inside in
    let z = sized s.len s.room s.chunks.items c.args.self.now c.self.invariant.0 (ap (λ r. r.items) c.self.view_is) (ap (λ r. r.room) c.self.view_is) in
    let len = z.len in
    omega arith

pub returns-clause-items : goal.returns-clause-items
returns-clause-items c =
    let s = c.self.inside in
    let z = sized s.len s.room s.chunks.items c.args.self.now c.self.invariant.0 (ap (λ r. r.items) c.self.view_is) (ap (λ r. r.room) c.self.view_is) in
    let len = z.len in
    let new = c.remove_among-run.new.chunks.items in
    let size = packed-length (s.len - 1) s.room new c.remove_among-run.ensures.packed in
    put-rest (in_chunks new) c.args.self.now.items c.args.at c.remove_among-run.result (omega arith) (c.remove_among-run.ensures.items ∙ ap (λ r. r.items) c.self.view_is)

pub returns-clause-fits : goal.returns-clause-fits
returns-clause-fits c =
    let s = c.self.inside in
    let z = sized s.len s.room s.chunks.items c.args.self.now c.self.invariant.0 (ap (λ r. r.items) c.self.view_is) (ap (λ r. r.room) c.self.view_is) in
    let len = z.len in
    let fits = c.self.invariant.1 in
    let size = packed-length (s.len - 1) s.room c.remove_among-run.new.chunks.items c.remove_among-run.ensures.packed in
    omega arith

pub returns-clause-by_index : goal.returns-clause-by_index
returns-clause-by_index c =
    let s = c.self.inside in
    let z = sized s.len s.room s.chunks.items c.args.self.now c.self.invariant.0 (ap (λ r. r.items) c.self.view_is) (ap (λ r. r.room) c.self.view_is) in
    let len = z.len in
    let new = c.remove_among-run.new.chunks.items in
    let run = c.remove_among-run.result in
    let size = packed-length (s.len - 1) s.room new c.remove_among-run.ensures.packed in
    let within : c.args.at ≤ length (in_chunks new) = omega arith in
    let is : insert (in_chunks new) c.args.at run ≡ c.args.self.now.items = c.remove_among-run.ensures.items ∙ ap (λ r. r.items) c.self.view_is in
    (λ k d l. put-below (in_chunks new) c.args.self.now.items c.args.at k run d within is l, λ k d l. put-above (in_chunks new) c.args.self.now.items c.args.at k run d within is l)
