use Rattle.std.proofs.Common.{IfSome, inl, inr, subst}
use Rattle.command_line.specs.Program.{texts_of}
use Rattle.run_inputs.specs.NoTexts.{AreNoTexts}
use Rattle.program_runs.proofs.Endings.{if_both}
use Rattle.program_runs.proofs.ending.over_no_texts.Goals as goal

pub returns-in-Some : goal.returns-in-Some
returns-in-Some g c =
    let are = subst (λ found. IfSome found (AreNoTexts (g.O.Opener.file c.args.files.now) (texts_of c.args.names.now))) c.in-Some.is c.in_ok-fault.ensures in
    if_both c.showing_init.result _ _ _ (λ e status errors. inl (c.in-Some.fault, are, status, errors))
    c.showing_init.ensures.status c.showing_init.ensures.errors

pub returns-in-None : goal.returns-in-None
returns-in-None g c =
    if_both c.strange_files.result _ _ _ (λ e status errors. inr (status, errors)) c.strange_files.ensures.status c.strange_files.ensures.errors
