use Rattle.std.proofs.Common.{sym, ◌∙◌}
use Rattle.trace_pair.proofs.Slotted.{seen_value}
use Rattle.trace_pair.proofs.slots.fill_slot.Goals as goal

pub returns-in-Some-clause-there : goal.returns-in-Some-clause-there
returns-in-Some-clause-there g c = λ f n.
    let e = seen_value c.args.row.now.items c.deref.result.now c.deref.ensures.value c.args.place c.args.slot.at _ c.in-Some.ensures c.requires.rises c.requires.there ∙ n in
    absurd (cc)

pub returns-in-None-clause-free : goal.returns-in-None-clause-free
returns-in-None-clause-free g c = λ t. sym (seen_value c.args.row.now.items c.deref.result.now c.deref.ensures.value c.args.place c.args.slot.at _ c.in-None.ensures c.requires.rises c.requires.there)
