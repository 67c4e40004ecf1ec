use Rattle.std.proofs.Common.{◌≡◌, ◌∙◌, List, ap, map, sym}
use Rattle.std.proofs.lemmas.List.{drop_all}
use Rattle.run_inputs.specs.Seen.{kept_of, limit_in}
use Rattle.run_inputs.specs.declared.load.cut_files.CutText.{CutText}
use Rattle.run_inputs.proofs.Seen.{here_limit, next_limit}
use Rattle.run_inputs.proofs.load.cut_files.cut_at.Goals as goal

pub returns-then-is_named : goal.returns-then-is_named
returns-then-is_named c =
    here_limit c.args.cuts.now c.loop-cut.cut-index c.cut-item.result c.args.path.now c.loop-cut-test.true c.cut-item.is (sym c.is_named.ensures ∙ c.if-is_named.true) c.loop-cut.invariant

pub loop-cut-preserved : goal.loop-cut-preserved
loop-cut-preserved c =
    next_limit c.args.cuts.now c.loop-cut.cut-index c.cut-item.result c.args.path.now c.loop-cut-test.true c.cut-item.is (sym c.is_named.ensures ∙ c.if-is_named.false) c.loop-cut.invariant

pub returns : goal.returns
returns c =
    sym (ap (λ (l : List CutText). limit_in (map kept_of l) c.args.path.now) (drop_all c.loop-cut.cut-index c.args.cuts.now c.loop-cut-test.false)) ∙ c.loop-cut.invariant
