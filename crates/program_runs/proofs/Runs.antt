-- What a verb of this crate comes to: it is refused, its text was written, or a writer failed.
use Rattle.std.proofs.Common.{◌≡◌, inl, inr, ℕ, List, Option, Result, Ok, Err, IfErr, IfOk, IsErrAnd, subst, sym}
use Rattle.std.proofs.KnownBytes.{Keeps-refl}
use Rattle.std.specs.Io.KnownBytes.{Appends}
use Rattle.mpi_model.specs.Layouts.{Parts}
use Rattle.command_line.specs.declared.Verb.{Verb}
use Rattle.run_files.specs.Manifests.{ManifestParts}
use Rattle.run_inputs.specs.Files.{NamesFailed}
use Rattle.command_runs.specs.Verbs.{Ran, RanSo}
use Rattle.run_inputs.specs.Writing.{BreaksOff}
use Rattle.run_inputs.specs.declared.faults.fault.RunFault.{RunFault}
use Rattle.run_inputs.specs.declared.faults.fault.RunFault.TheVariants.{Write}
use Rattle.command_runs.specs.declared.run.Outcome.{Outcome}
use Rattle.command_runs.specs.declared.run.Outcome.TheVariants.{Good}

-- a fault that is handed on refuses a run before anything is written
pub run_refused : {W : Type 0} (Is Begins : List ℕ → Type 0) (Refuses : RunFault → Type 0) (r : Result Outcome RunFault) (fault : RunFault)
    (written : W → Option (List ℕ)) (failures : W → ℕ) (now : W) → IsErrAnd r (λ e. e ≡ fault) → Refuses fault → RanSo Is Begins Refuses r written failures now now
run_refused Is Begins Refuses (Ok outcome) fault written failures now is h = absurd is
run_refused Is Begins Refuses (Err e) fault written failures now is h = inr (subst Refuses (sym is) h, Keeps-refl (written now))

-- a text that is its whole output was written, or a front of it
pub text_written : {W : Type 0} (Is : List ℕ → Type 0) (Refuse : RunFault → Type 0) (text : List ℕ) (r : Result Outcome RunFault)
    (written : W → Option (List ℕ)) (failures : W → ℕ) (old new : W) → Is text
    → IfOk r (λ outcome. (outcome ≡ Good) × Appends (written old) (written new) text)
    → IfErr r (λ fault. (fault ≡ Write) × BreaksOff (λ t. t ≡ text) written failures old new)
    → RanSo Is Is Refuse r written failures old new
text_written Is Refuse text (Ok outcome) written failures old new is ok err = (ok.0, (text, is, ok.1))
text_written Is Refuse text (Err fault) written failures old new is ok err = inl (err.0, ((err.1.0.0, subst Is (sym err.1.0.1) is, err.1.0.2), err.1.1))

-- a writer's failure is no reader's
pub unwritten_untold : (fails Other : Type 0) (r : Result Outcome RunFault) → IfErr r (λ fault. (fault ≡ Write) × Other) → IfErr r (NamesFailed fails)
unwritten_untold fails Other (Ok outcome) h = tt
unwritten_untold fails Other (Err fault) h = λ path line is. let one = h.0 in absurd (cc (one, is))

-- a verb that was named is the one that ran
pub ran_as : {W : Type 0} (file : List ℕ → Option (List ℕ)) (verb other : Verb) (l : Parts) (m : ManifestParts) (result : Result Outcome RunFault)
    (written : W → Option (List ℕ)) (failures : W → ℕ) (old new : W) → verb ≡ other → Ran file other l m result written failures old new → Ran file verb l m result written failures old new
ran_as file verb other l m result written failures old new is ran = subst (λ (v : Verb). Ran file v l m result written failures old new) (sym is) ran
