use Rattle.std.proofs.Common.{◌≡◌, true, false, rules, ◌∙◌}
use Rattle.trace_wire.specs.Cells.{is_past}
use Rattle.trace_wire.specs.Parts.{is_run}
use Rattle.trace_wire.proofs.WindowRuns.{no_cells, no_count, no_order, no_place, no_run, run_read}
use Rattle.trace_wire.proofs.Windows.{taken_then}
use Rattle.trace_wire.proofs.read.runs.run_of.Goals as goal

pub returns-in-Err-clause-err : goal.returns-in-Err-clause-err
returns-in-Err-clause-err g c = no_place _ _ _ _ _ _ c.args.before c.in-Err.fault c.in-Err.ensures.err

pub returns-then-not-is_past-clause-err : goal.returns-then-not-is_past-clause-err
returns-then-not-is_past-clause-err g c =
    let past : is_past c.args.before c.in-Ok.found ≡ false = search rules in
    no_order _ _ _ _ _ _ c.args.before c.in-Ok.found c.in-Ok.ensures.ok c.in-Ok.ensures.no_failure past

pub returns-in-Err-next_u32-clause-err : goal.returns-in-Err-next_u32-clause-err
returns-in-Err-next_u32-clause-err g c =
    let past : is_past c.args.before c.in-Ok.found ≡ true = search rules in
    no_count _ _ _ _ _ _ _ _ _ c.args.before c.in-Ok.found c.in-Err-next_u32.fault c.in-Ok.ensures.ok c.in-Ok.ensures.no_failure past c.in-Err-next_u32.ensures.err

pub returns-then-not-is_run-clause-err : goal.returns-then-not-is_run-clause-err
returns-then-not-is_run-clause-err g c =
    let past : is_past c.args.before c.in-Ok.found ≡ true = search rules in
    let cannot : is_run c.in-Ok.found.1 c.in-Ok-next_u32.found ≡ false = search rules in
    no_run _ _ _ _ _ _ _ _ c.args.before c.in-Ok.found c.in-Ok-next_u32.found c.in-Ok.ensures.ok past c.in-Ok-next_u32.ensures.ok cannot (c.in-Ok-next_u32.ensures.no_failure ∙ c.in-Ok.ensures.no_failure)

pub returns-in-Err-knowns_of-clause-err : goal.returns-in-Err-knowns_of-clause-err
returns-in-Err-knowns_of-clause-err g c =
    let past : is_past c.args.before c.in-Ok.found ≡ true = search rules in
    let can : is_run c.in-Ok.found.1 c.in-Ok-next_u32.found ≡ true = search rules in
    no_cells _ _ _ _ _ _ _ _ _ _ _ c.args.before c.in-Ok.found c.in-Ok-next_u32.found c.in-Err-knowns_of.fault c.in-Ok.ensures.ok past c.in-Ok-next_u32.ensures.ok can (c.in-Ok-next_u32.ensures.no_failure ∙ c.in-Ok.ensures.no_failure) c.in-Err-knowns_of.ensures.err

pub returns-clause-ok : goal.returns-clause-ok
returns-clause-ok g c =
    let past : is_past c.args.before c.in-Ok.found ≡ true = search rules in
    let can : is_run c.in-Ok.found.1 c.in-Ok-next_u32.found ≡ true = search rules in
    run_read _ _ _ _ _ _ _ _ c.args.before c.in-Ok.found c.in-Ok-next_u32.found c.in-Ok-knowns_of.found.items c.in-Ok.ensures.ok past c.in-Ok-next_u32.ensures.ok can c.in-Ok-knowns_of.ensures.ok

pub returns-in-Err-next_u32-clause-taken : goal.returns-in-Err-next_u32-clause-taken
returns-in-Err-next_u32-clause-taken g c = taken_then _ _ _ _ _ _ c.in-Ok.ensures.ok c.in-Err-next_u32.ensures.taken

pub returns-then-not-is_run-clause-taken : goal.returns-then-not-is_run-clause-taken
returns-then-not-is_run-clause-taken g c = taken_then _ _ _ _ _ _ c.in-Ok.ensures.ok c.in-Ok-next_u32.ensures.taken

pub returns-in-Err-knowns_of-clause-taken : goal.returns-in-Err-knowns_of-clause-taken
returns-in-Err-knowns_of-clause-taken g c = taken_then _ _ _ _ _ _ c.in-Ok.ensures.ok (taken_then _ _ _ _ _ _ c.in-Ok-next_u32.ensures.ok c.in-Err-knowns_of.ensures.taken)

pub returns-clause-taken : goal.returns-clause-taken
returns-clause-taken g c = taken_then _ _ _ _ _ _ c.in-Ok.ensures.ok (taken_then _ _ _ _ _ _ c.in-Ok-next_u32.ensures.ok c.in-Ok-knowns_of.ensures.taken)
