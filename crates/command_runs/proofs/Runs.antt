-- What a run comes to: it is refused, its text was written, or a writer failed.
use Rattle.std.proofs.Common.{◌≡◌, ◌∙◌, inl, inr, ℕ, List, Option, Result, Ok, Err, IfErr, IsErrAnd, subst, sym}
use Rattle.std.proofs.KnownBytes.{Keeps-refl}
use Rattle.run_inputs.specs.Files.{NamesFailed}
use Rattle.command_runs.specs.Verbs.{RanSo}
use Rattle.run_inputs.specs.Writing.{BreaksOff}
use Rattle.run_inputs.specs.declared.faults.fault.RunFault.{RunFault}
use Rattle.run_inputs.specs.declared.faults.fault.RunFault.TheVariants.{Memory, Write}
use Rattle.command_runs.specs.declared.run.Outcome.{Outcome}

-- a fault that is handed on refuses as it did
pub handed_on : {T E : Type 0} (r : Result T E) (fault : E) (P : E → Type 0) → IsErrAnd r (λ e. e ≡ fault) → P fault → IfErr r P
handed_on (Ok t) fault P is h = absurd is
handed_on (Err e) fault P is h = subst P (sym is) h

-- ..and refuses a run before anything is written
pub run_refused : {W : Type 0} (Is Begins : List ℕ → Type 0) (Refuses : RunFault → Type 0) (r : Result Outcome RunFault) (fault : RunFault)
    (written : W → Option (List ℕ)) (failures : W → ℕ) (now : W) → IsErrAnd r (λ e. e ≡ fault) → Refuses fault → RanSo Is Begins Refuses r written failures now now
run_refused Is Begins Refuses (Ok outcome) fault written failures now is h = absurd is
run_refused Is Begins Refuses (Err e) fault written failures now is h = inr (subst Refuses (sym is) h, Keeps-refl (written now))

-- a text that is its whole output broke off
pub text_broken : {W : Type 0} (Is : List ℕ → Type 0) (Refuse : RunFault → Type 0) (text : List ℕ) (r : Result Outcome RunFault) (fault : RunFault)
    (written : W → Option (List ℕ)) (failures : W → ℕ) (old new : W) → IsErrAnd r (λ e. e ≡ fault) → Is text
    → (fault ≡ Write) × BreaksOff (λ t. t ≡ text) written failures old new → RanSo Is Is Refuse r written failures old new
text_broken Is Refuse text (Ok outcome) fault written failures old new same is err = absurd same
text_broken Is Refuse text (Err e) fault written failures old new same is err = inl (same ∙ err.0, ((err.1.0.0, subst Is (sym err.1.0.1) is, err.1.0.2), err.1.1))

-- a writer's failure is no reader's
pub unwritten_untold : (fails Other : Type 0) (r : Result Outcome RunFault) → IfErr r (λ fault. (fault ≡ Write) × Other) → IfErr r (NamesFailed fails)
unwritten_untold fails Other (Ok outcome) h = tt
unwritten_untold fails Other (Err fault) h = λ path line is. let one = h.0 in absurd (cc (one, is))

-- want of memory names no reader that failed
pub want_untold : {T : Type 0} (fails : Type 0) (r : Result T RunFault) → IsErrAnd r (λ e. e ≡ Memory) → IfErr r (NamesFailed fails)
want_untold fails r is = handed_on r Memory (NamesFailed fails) is (λ path line e. absurd (cc e))
