use Rattle.std.proofs.Common.{◌≤◌, arith, refl}
use Rattle.run_files.specs.Stores.{File, file_of}
use Rattle.run_files.specs.declared.store.Which.TheVariants.{First}
use Rattle.run_files.specs.declared.store.Which.TheVariants as which
use Rattle.run_files.proofs.Stores.{both_taken_back, has_failed, replaced, spares_left, spares_refused, spares_unadded}
use Rattle.run_files.proofs.store.replace_by.Goals as goal

pub returns-in-Ok-clause-err : goal.returns-in-Ok-clause-err
returns-in-Ok-clause-err g c =
    let spare : File = record { name = c.args.spares.0.now; bytes = c.args.one.bytes.now } in
    let other_spare : File = record { name = c.args.spares.1.now; bytes = c.args.other.bytes.now } in
    λ _. both_taken_back spare other_spare _ _ _ _ c.in_default.ensures.ok c.in-Err-rename.ensures.err c.in-Ok.ensures.ok

pub returns-in-Ok-clause-cause : goal.returns-in-Ok-clause-cause
returns-in-Ok-clause-cause g c = has_failed _ _ _ c.in_default.ensures.failures (grind (arith, c.in-Err-rename.ensures.failures.1, c.in-Ok.ensures.failures))

pub returns-in-Err-remove_both-clause-err : goal.returns-in-Err-remove_both-clause-err
returns-in-Err-remove_both-clause-err g c = λ h. absurd (h First refl)

pub returns-in-Err-remove_both-clause-cause : goal.returns-in-Err-remove_both-clause-cause
returns-in-Err-remove_both-clause-cause g c =
    has_failed _ _ _ (grind (arith, c.in_default.ensures.failures, c.in-Err-rename.ensures.failures.0)) c.in-Err-remove_both.ensures.failed

pub returns-in-Ok-rename-clause-ok : goal.returns-in-Ok-rename-clause-ok
returns-in-Ok-rename-clause-ok g c =
    let spare : File = record { name = c.args.spares.0.now; bytes = c.args.one.bytes.now } in
    let other_spare : File = record { name = c.args.spares.1.now; bytes = c.args.other.bytes.now } in
    replaced (file_of c.args.one) (file_of c.args.other) spare other_spare refl refl c.requires.distinct _ _ _ _
    c.in_default.ensures.ok c.in_default-rename.ensures.ok c.in-Ok-rename.ensures.ok

pub returns-in-Err-rename-2-clause-err : goal.returns-in-Err-rename-2-clause-err
returns-in-Err-rename-2-clause-err g c = λ h. absurd (h which.Second refl)

pub returns-in-Err-rename-2-clause-cause : goal.returns-in-Err-rename-2-clause-cause
returns-in-Err-rename-2-clause-cause g c =
    let le : g.S.Store.failures c.args.store.now ≤ g.S.Store.failures c.rename.new.self = grind (arith, c.in_default.ensures.failures, c.in_default-rename.ensures.failures.0) in
    has_failed _ _ _ le (grind (arith, c.in-Err-rename-2.ensures.failures.1))

pub returns-in-Err-clause-cause : goal.returns-in-Err-clause-cause
returns-in-Err-clause-cause g c = rw c.fault_of_spares.ensures (spares_refused _ _ _ _ _ _ c.in-Err.fault c.requires.distinct c.in-Err.ensures.cause)

pub returns-in-Ok-clause-left : goal.returns-in-Ok-clause-left
returns-in-Ok-clause-left g c =
    let spare : File = record { name = c.args.spares.0.now; bytes = c.args.one.bytes.now } in
    let other_spare : File = record { name = c.args.spares.1.now; bytes = c.args.other.bytes.now } in
    both_taken_back spare other_spare _ _ _ _ c.in_default.ensures.ok c.in-Err-rename.ensures.err c.in-Ok.ensures.ok

pub returns-in-Err-remove_both-clause-left : goal.returns-in-Err-remove_both-clause-left
returns-in-Err-remove_both-clause-left g c =
    let spare : File = record { name = c.args.spares.0.now; bytes = c.args.one.bytes.now } in
    let other_spare : File = record { name = c.args.spares.1.now; bytes = c.args.other.bytes.now } in
    spares_left spare other_spare c.requires.distinct.third _ _ _ _ c.in_default.ensures.ok c.in-Err-rename.ensures.err c.in-Err-remove_both.ensures.left

pub returns-in-Err-clause-left : goal.returns-in-Err-clause-left
returns-in-Err-clause-left g c =
    let spare : File = record { name = c.args.spares.0.now; bytes = c.args.one.bytes.now } in
    let other_spare : File = record { name = c.args.spares.1.now; bytes = c.args.other.bytes.now } in
    rw c.fault_of_spares.ensures (spares_unadded (file_of c.args.one) spare other_spare c.in-Err.fault _ _ c.in-Err.ensures.left)
