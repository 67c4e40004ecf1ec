use Rattle.std.proofs.Common.{◌≡◌, take}
use Rattle.trace_world.proofs.copies.inboxes_of.Given as goal

abbrev pub invariant-loop-inbox : goal.invariant-loop-inbox
invariant-loop-inbox l = l.copies.items ≡ take l.inbox-index l.inboxes
