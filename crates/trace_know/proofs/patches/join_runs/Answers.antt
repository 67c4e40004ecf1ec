use Rattle.std.proofs.Common.{◌≡◌, List, [], ◌∷◌, length, sym, subst, ap, ◌∙◌, arith}
use Rattle.trace_know.specs.declared.run.Run.{Run}
use Rattle.trace_know.specs.Patches.{AllSettled, Covers}
use Rattle.trace_know.specs.Runs.{of_runs}
use Rattle.trace_know.specs.View.{View, join}
use Rattle.trace_know.proofs.Covering.{settled-covers}
use Rattle.trace_know.proofs.Joins.{join-empty}
use Rattle.trace_know.proofs.patches.join_runs.Goals as goal

-- an empty patch: all is held
all_held : (rs patch : List Run) (v : View) → length patch ≡ 0 → join (of_runs rs) (of_runs patch) ≡ v → of_runs rs ≡ v
all_held rs [] v h is = sym (join-empty (of_runs rs)) ∙ is
all_held rs (p ∷ patch) v h is = absurd (omega arith)

pub returns-then-len-eq0-clause-ok : goal.returns-then-len-eq0-clause-ok
returns-then-len-eq0-clause-ok c =
    let patch = c.in_ok-patch.patch.items in
    let others = c.args.others.now.items in
    let none : length patch ≡ 0 = omega arith in
    all_held c.args.runs.now.items patch (join (of_runs c.args.runs.now.items) (of_runs others)) none
    (c.in_ok-patch.ensures.view)

pub patched-requires-clause-covers : goal.patched-requires-clause-covers
patched-requires-clause-covers c =
    let patch = c.take_touched.new.patch.items in
    let runs = c.args.runs.now.items in
    let settled : AllSettled runs (of_runs patch) = c.in_ok-take_touched.ensures.settled in
    subst (λ v. Covers patch v.items) (sym c.replace-ours.ensures.value) (settled-covers patch runs c.take_touched.ensures.above c.requires.above settled)

pub returns-clause-ok : goal.returns-clause-ok
returns-clause-ok c =
    let patch = c.in_ok-patch.patch.items in
    let others = c.args.others.now.items in
    let runs = c.args.runs.now.items in
    c.patched.ensures.view
    ∙ ap (λ v. join (of_runs v.items) (of_runs c.take_touched.new.patch.items)) c.replace-ours.ensures.value
    ∙ c.in_ok-take_touched.ensures.view
    ∙ c.in_ok-patch.ensures.view
