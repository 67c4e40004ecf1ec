use Rattle.std.proofs.Common.{refl, subst, sym}
use Rattle.run_files.specs.Stores.{Goes, LeftOfAdding, file_of}
use Rattle.run_files.specs.declared.store.PutFault.{PutFault}
use Rattle.run_files.specs.declared.store.Which.TheVariants.{Second}
use Rattle.run_files.proofs.Stores.{nothing_left, taken_back}
use Rattle.run_files.proofs.store.add_both.Goals as goal

pub returns-in-Ok-remove-clause-err : goal.returns-in-Ok-remove-clause-err
returns-in-Ok-remove-clause-err g c = λ _. taken_back _ _ _ _ _ _ c.in_default.ensures.ok c.in-Err-add.ensures.err c.in-Ok-remove.ensures.ok

pub returns-in-Err-remove-clause-err : goal.returns-in-Err-remove-clause-err
returns-in-Err-remove-clause-err g c = λ h. absurd (h Second refl)

pub returns-in-Ok-remove-clause-left : goal.returns-in-Ok-remove-clause-left
returns-in-Ok-remove-clause-left g c =
    let one = file_of c.args.one in
    let old = g.S.Store.files c.args.store.now in
    let now = g.S.Store.files c.remove.new.self in
    subst (λ (fault : PutFault). Goes (LeftOfAdding one fault) old now) (sym c.fault_of-in-Ok-remove.ensures)
    (nothing_left one c.in-Err-add.fault Second old now
    (taken_back _ _ _ _ _ _ c.in_default.ensures.ok c.in-Err-add.ensures.err c.in-Ok-remove.ensures.ok))
