use Rattle.std.proofs.Common.{refl}
use Rattle.diagnosis_value.specs.declared.diagnosis.Why.TheVariants.{Taken, Postponed, Idle}
use Rattle.trace_diagnosis.specs.Missed.{IsFitMessage}
use Rattle.trace_diagnosis.proofs.Telling.{fit_of, goes_on_more}
use Rattle.trace_diagnosis.proofs.unmatched.AllMessages.push_fit.Goals as goal

pub returns : goal.returns
returns c = let q = c.args.q.now in
    let fit = IsFitMessage q in
    goes_on_more fit c.args.near.now.items _ _ (fit_of Taken q refl _ _ c.in_ok-push_taken.ensures)
    (goes_on_more fit _ _ _ (fit_of Postponed q refl _ _ c.in_ok-push_taken-2.ensures) (fit_of Idle q refl _ _ c.in_ok-push_messages.ensures.sort))
