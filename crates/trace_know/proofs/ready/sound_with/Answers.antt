use Rattle.std.proofs.Common.{◌≡◌, ◌<◌, sym, ◌∙◌, arith, length}
use Rattle.trace_know.specs.declared.cell.Known.TheVariants.{One}
use Rattle.trace_know.specs.Runs.{sound_among}
use Rattle.trace_know.proofs.Counts.{sound-le, sound-short, sound-ended, sound-more}
use Rattle.trace_know.proofs.ready.sound_with.Goals as goal

pub returns-then-sound-len : goal.returns-then-sound-len
returns-then-sound-len c =
    let cells = c.args.cells.now in
    let short : sound_among cells.items < length cells.items = omega (arith, c.requires.sound, c.if-sound-len.true, c.len.ensures, cells.ok.0) in
    c.requires.sound ∙ sym (sound-short cells.items (One c.args.event.now) short)

pub returns-then-enters_unread : goal.returns-then-enters_unread
returns-then-enters_unread c = c.requires.sound ∙ sym (sound-ended c.args.cells.now.items (One c.args.event.now) (sym c.enters_unread.ensures ∙ c.if-enters_unread.true))

pub overflow_add-result : goal.overflow_add-result
overflow_add-result c =
    let cells = c.args.cells.now in
    omega (arith, c.requires.sound, sound-le cells.items, cells.ok.0, c.requires.room)

pub returns : goal.returns
returns c =
    let cells = c.args.cells.now in
    let whole : sound_among cells.items ≡ length cells.items = omega (arith, sound-le cells.items, c.requires.sound, c.if-sound-len.false, c.len.ensures, cells.ok.0) in
    let more = sound-more cells.items (One c.args.event.now) (sym c.enters_unread.ensures ∙ c.if-enters_unread.false) whole in
    omega (arith, more, c.requires.sound)
