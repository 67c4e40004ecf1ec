use Rattle.std.proofs.Common.{◌∙◌, ap, inl, map, sym}
use Rattle.trace_diagnosis.specs.Askers.{asker, case_conditions}
use Rattle.trace_diagnosis.specs.Holding.{is_held}
use Rattle.trace_diagnosis.specs.Waiting.{held_told}
use Rattle.trace_diagnosis.proofs.Nobody.{case_none, none_held, unmatched_none}
use Rattle.trace_diagnosis.proofs.whole.matters_in.Goals as goal

pub returns-then-not-has_matters-clause-roots : goal.returns-then-not-has_matters-clause-roots
returns-then-not-has_matters-clause-roots c =
    let no = c.if-not-has_matters.true in
    inl (case_none c.args.case.now (c.has_matters.ensures.waits no) (c.has_matters.ensures.polls no), c.in_ok-nothing.ensures.roots)

pub returns-then-not-has_matters-clause-held : goal.returns-then-not-has_matters-clause-held
returns-then-not-has_matters-clause-held c =
    let no = c.if-not-has_matters.true in
    let case = c.args.case.now in
    ap (map held_told) c.in_ok-nothing.ensures.held
    ∙ sym (none_held (case_conditions case) case.ranks (case_none case (c.has_matters.ensures.waits no) (c.has_matters.ensures.polls no)))

pub returns-then-not-has_matters-clause-unmatched : goal.returns-then-not-has_matters-clause-unmatched
returns-then-not-has_matters-clause-unmatched c =
    let case = c.args.case.now in
    let told = c.in_ok-nothing.ensures in
    let no = c.if-not-has_matters.true in
    unmatched_none case.layout.now case.ops.now case.answer.now.pairs (map asker case.pollers.now) (map is_held (case_conditions case)) (case_conditions case) c.in_ok-nothing.nothing.unmatched
    (c.has_matters.ensures.loose no) (case_none case (c.has_matters.ensures.waits no) (c.has_matters.ensures.polls no)) told.left_over told.starving told.unfinished
