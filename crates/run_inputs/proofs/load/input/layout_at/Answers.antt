use Rattle.std.proofs.Common.{inl, inr}
use Rattle.run_files.specs.Layouts.{RefusesLayout}
use Rattle.run_inputs.proofs.Runs.{handed_on}
use Rattle.run_inputs.proofs.load.input.layout_at.Goals as goal

pub returns-in_err-text-clause-err : goal.returns-in_err-text-clause-err
returns-in_err-text-clause-err g c = handed_on c.from_residual.result _ _ c.from_residual.ensures.1 (inl c.in_err-text.ensures.err)

pub returns-clause-err : goal.returns-clause-err
returns-clause-err g c =
    let refuses : RefusesLayout c.in_ok-text.text.items c.in-Err.fault = rw c.deref.ensures.value at c.in-Err.ensures.err in
    inr (c.in_ok-text.text.items, c.in-Err.fault, c.in_ok-text.ensures.ok, refuses, c.in_ok-fault_at-in-Err.ensures)
