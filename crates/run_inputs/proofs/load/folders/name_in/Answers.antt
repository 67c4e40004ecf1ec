use Rattle.std.specs.Prelude.{codes}
use Rattle.std.proofs.Common.{◌≡◌, ◌∙◌, ℕ, List, false, ap, string_bytes, sym}
use Rattle.std.proofs.lemmas.Result.{IfOk-weaker}
use Rattle.run_inputs.specs.Folders.{ends_in}
use Rattle.run_inputs.proofs.Folders.{slash_between}
use Rattle.run_inputs.proofs.load.folders.name_in.Goals as goal

pub returns-else-ends_with : goal.returns-else-ends_with
returns-else-ends_with c =
    let plain : ends_in c.args.folder.now (codes "/") ≡ false =
    ap (λ (bytes : List ℕ). ends_in bytes (codes "/")) (sym c.as_bytes.ensures.value) ∙ sym c.ends_with.ensures.value ∙ c.if-ends_with.false in
    IfOk-weaker c.format-else-ends_with.result _ _ (λ s e. e ∙ slash_between c.args.folder.now c.args.entry.now plain) c.format-else-ends_with.ensures.ok
