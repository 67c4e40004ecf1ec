use Rattle.std.proofs.Common.{◌≡◌, take}
use Rattle.trace_world.proofs.copies.mails_of.Given as goal

abbrev pub invariant-loop-mail : goal.invariant-loop-mail
invariant-loop-mail l = l.copies.items ≡ take l.mail-index l.mails
