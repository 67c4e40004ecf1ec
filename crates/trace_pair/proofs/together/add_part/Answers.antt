use Rattle.std.proofs.Common.{◌+◌, ap, sym, ◌∙◌, length, take}
use Rattle.trace_pair.specs.Calls.{between}
use Rattle.trace_pair.specs.Parts.{first_parts}
use Rattle.trace_pair.proofs.Parts.{first_grows, part_kept}
use Rattle.trace_pair.proofs.together.add_part.Goals as goal

pub add_messages-requires : goal.add_messages-requires
add_messages-requires c = rw (c.front_of-sent.ensures, c.front_of.ensures) (first_grows c.args.parts c.args.done c.sends-sends.result.now c.requires)

pub add_receives-requires : goal.add_receives-requires
add_receives-requires c = rw (c.front_of-posted.ensures, c.front_of-2.ensures) (first_grows c.args.parts c.args.done c.receives-receives.result.now c.requires)

pub returns : goal.returns
returns c =
    let parts = c.args.parts in
    let done = c.args.done in
    let own = c.args.own.now in
    let sent = part_kept parts done own.sends c.sends-sends.result.now c.front_of-sent.result.now c.front_of.result.now c.requires c.sends-sends.ensures c.front_of-sent.ensures c.front_of.ensures in
    let posted = part_kept parts done own.receives c.receives-receives.result.now c.front_of-posted.result.now c.front_of-2.result.now c.requires c.receives-receives.ensures c.front_of-posted.ensures c.front_of-2.ensures in
    rw (sym (c.front_of.ensures ∙ ap (first_parts parts (done + 1)) c.sends-sends.ensures), sym (c.front_of-2.ensures ∙ ap (first_parts parts (done + 1)) c.receives-receives.ensures), sym sent, sym posted)
    (λ before behind above below s s' p p' x.
    c.in_ok-add_receives.ensures above below (between before c.front_of.result.now behind) p'
    (c.in_ok-add_messages.ensures before behind (between above (take (length c.front_of-posted.result.now) c.front_of-2.result.now) below) s' x))
