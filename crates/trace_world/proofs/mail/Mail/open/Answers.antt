use Rattle.std.proofs.Common.{◌∙◌, Some, ap, sym, subst}
use Rattle.std.specs.FinMap.{entries}
use Rattle.trace_world.specs.declared.sheet.Sheet.{Sheet}
use Rattle.trace_world.specs.Worlds.{IsFrame}
use Rattle.trace_world.proofs.Mails.{one_mail, only_memory}
use Rattle.trace_world.proofs.mail.Mail.open.Goals as goal

pub want_of_memory-requires : goal.want_of_memory-requires
want_of_memory-requires c = only_memory c.frame_laws.ensures.refused _ _ (subst IsFrame (sym (c.new-letter.ensures ∙ c.bytes.ensures ∙ ap (λ (s : Sheet). s.bytes.items) c.deref.ensures)) c.self.invariant) c.in-Err.ensures.err

pub returns-in-Ok : goal.returns-in-Ok
returns-in-Ok c =
    let same = c.new-letter.ensures ∙ c.bytes.ensures ∙ ap (λ (s : Sheet). s.bytes.items) c.deref.ensures in
    (sym c.self.view_is ∙ sym same ∙ one_mail c.frame_laws.ensures.one _ (Some c.read_frame.new.reader.bytes.now) (entries c.in-Ok.know) (subst IsFrame (sym same) c.self.invariant) c.in-Ok.ensures.ok, c.in-Ok.ensures.fits)
