use Rattle.std.proofs.Common.{OnOk, List, ℕ, ap, subst, sym, ◌∙◌}
use Rattle.std.specs.List.{flat_map}
use Rattle.trace_stuck.specs.Named.{named, NotesAll}
use Rattle.trace_stuck.proofs.Named.{named_All, named_One}
use Rattle.trace_stuck.proofs.askers.+names.Goals as goal

pub note_named-returns-in-All : goal.note_named-returns-in-All
note_named-returns-in-All t c =
    subst (λ (l : List ℕ). OnOk c.note_each_named.result (NotesAll c.args.askers.now c.note_each_named.new.askers l c.args.r))
    (ap (flat_map named) c.deref.ensures.value ∙ sym (named_All c.in-All.all) ∙ sym (ap named c.in-All.is)) c.note_each_named.ensures

pub note_named-returns-in-One : goal.note_named-returns-in-One
note_named-returns-in-One t c =
    subst (λ (l : List ℕ). OnOk c.note_each_named-in-One.result (NotesAll c.args.askers.now c.note_each_named-in-One.new.askers l c.args.r))
    (ap (flat_map named) c.deref-in-One.ensures.value ∙ sym (named_One c.in-One.all) ∙ sym (ap named c.in-One.is)) c.note_each_named-in-One.ensures
