use Rattle.std.proofs.Common.{inl, inr}
use Rattle.run_inputs.proofs.Runs.{handed_on}
use Rattle.run_inputs.proofs.load.input.input_at.Goals as goal

pub returns-in_err-layout-clause-err : goal.returns-in_err-layout-clause-err
returns-in_err-layout-clause-err g c = handed_on c.from_residual.result _ _ c.from_residual.ensures.1 (inl c.in_err-layout.ensures.err)

pub returns-in_err-has_rank-clause-err : goal.returns-in_err-has_rank-clause-err
returns-in_err-has_rank-clause-err g c =
    handed_on c.from_residual-in_err-has_rank.result _ _ c.from_residual-in_err-has_rank.ensures.1
    (inr (c.in_ok-layout.layout, c.in_ok-layout.ensures.ok, inl c.in_err-has_rank.ensures.err))

pub returns-in_err-manifest-clause-err : goal.returns-in_err-manifest-clause-err
returns-in_err-manifest-clause-err g c =
    handed_on c.from_residual-in_err-manifest.result _ _ c.from_residual-in_err-manifest.ensures.1
    (inr (c.in_ok-layout.layout, c.in_ok-layout.ensures.ok, inr c.in_err-manifest.ensures.err))
