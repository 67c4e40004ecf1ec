use Rattle.std.proofs.Common.{◌≡◌, ℕ, ◌+◌, length, ap, arith}
use Rattle.trace_wire.specs.Runs.{placed_run}
use Rattle.trace_wire.proofs.Fronts.{run_fits}
use Rattle.trace_wire.proofs.RunLaws.{placed_there}
use Rattle.trace_wire.proofs.read.runs.put_run.Goals as goal

pub overflow_add-end : goal.overflow_add-end
overflow_add-end g c = omega (arith, (run_fits _ _ _ _ c.args.before _ c.held.ensures.bytes c.in-Ok.ensures.ok).places)

pub put_run-requires-clause-some : goal.put_run-requires-clause-some
put_run-requires-clause-some g c = (run_fits _ _ _ _ c.args.before _ c.held.ensures.bytes c.in-Ok.ensures.ok).some

pub put_run-requires-clause-places : goal.put_run-requires-clause-places
put_run-requires-clause-places g c = (run_fits _ _ _ _ c.args.before _ c.held.ensures.bytes c.in-Ok.ensures.ok).places

pub put_run-requires-clause-placed : goal.put_run-requires-clause-placed
put_run-requires-clause-placed g c = placed_there _ _ _ (run_fits _ _ _ _ c.args.before _ c.held.ensures.bytes c.in-Ok.ensures.ok).cells

pub put_run-requires-clause-last : goal.put_run-requires-clause-last
put_run-requires-clause-last g c = c.requires _ _ (run_fits _ _ _ _ c.args.before _ c.held.ensures.bytes c.in-Ok.ensures.ok).past

pub returns-in-Ok-put_run-clause-ok : goal.returns-in-Ok-put_run-clause-ok
returns-in-Ok-put_run-clause-ok g c =
    let run = c.in-Ok.found in
    let fits = run_fits _ _ _ _ c.args.before _ c.held.ensures.bytes c.in-Ok.ensures.ok in
    let len : c.len.result ≡ length run.cells.items = omega arith in
    (placed_run (run.rank, run.first) run.cells.items, c.in-Ok.ensures.ok, (fits.past, ap (λ (n : ℕ). (run.rank, run.first + n)) len, c.in-Ok-put_run.ensures.ok))
