use Rattle.std.proofs.Common.{ap, sym, ◌∙◌, map-id, flat_map}
use Rattle.std.specs.Result.{is_ok}
use Rattle.std.proofs.Output.{has_written_of_eq}
use Rattle.std.proofs.lemmas.Iterator.{YieldsList-from_chars}
use Rattle.std.proofs.lemmas.Iterator.Consumers.{YieldsList-end}
use Rattle.run_inputs.specs.FileNames.{shown_char}
use Rattle.run_inputs.proofs.OneByOne.{writes_next}
use Rattle.run_inputs.proofs.faults.file_name.put_name.Goals as goal

pub loop-c-preserved : goal.loop-c-preserved
loop-c-preserved g c = λ plain.
    let before = c.loop-c.invariant plain in
    writes_next _ shown_char _ _ _ c.loop-c.yielded c.in-Some.c before (c.put_char.ensures before.plain (ap is_ok c.in_ok-put_char.was))

pub returns : goal.returns
returns g c = λ plain _.
    let end = YieldsList-end (YieldsList-from_chars c.args.name.now c.utf8.name cc) c.loop-c.yielded _ c.loop-c.yielded_by _ _ c.in-None.is c.next.ensures.steps in
    has_written_of_eq _ _ _ _ _ (ap (flat_map shown_char) (sym (map-id c.loop-c.yielded) ∙ end.0)) (c.loop-c.invariant plain)
