use Rattle.std.proofs.Common.{◌++◌, ap, ◌∙◌}
use Rattle.trace_wire.specs.Frames.{frame_of}
use Rattle.trace_world.proofs.Mails.{held_frame, held_fault}
use Rattle.trace_world.proofs.mail.Mail.of.Goals as goal

pub holding-requires : goal.holding-requires
holding-requires c = (c.args.know.now, c.in-Ok.ensures.ok ∙ ap (λ b. b ++ frame_of c.args.know.now) c.new-frame.ensures, c.in-Ok.ensures.fits)

pub returns-in-Ok-clause-ok : goal.returns-in-Ok-clause-ok
returns-in-Ok-clause-ok c = held_frame _ _ _ (c.in-Ok.ensures.ok ∙ ap (λ b. b ++ frame_of c.args.know.now) c.new-frame.ensures) c.in-Ok.ensures.fits c.holding.ensures.ok

pub returns-in-Ok-clause-err : goal.returns-in-Ok-clause-err
returns-in-Ok-clause-err c = held_fault _ _ c.in-Ok.ensures.fits c.holding.ensures.err
