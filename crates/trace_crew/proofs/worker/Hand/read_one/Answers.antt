use Rattle.std.proofs.Common.{rules, ◌∙◌, Ok, Err, sym}
use Rattle.std.proofs.lemmas.List.{append-nil}
use Rattle.trace_crew.proofs.Reading.{none_more}
use Rattle.trace_crew.proofs.worker.Hand.read_one.Goals as goal

pub returns-in-Ok-post_text-clause-ok : goal.returns-in-Ok-post_text-clause-ok
returns-in-Ok-post_text-clause-ok g c = record {
  outcome = Ok c.in-Ok.segments.items;
  is = c.in-Ok.ensures.ok;
  posted = c.in-Ok-post_text.ensures.ok;
  noted = c.post_text.ensures.faults ∙ sym (append-nil c.args.self.now.faults.items);
}

pub returns-in-Ok-push-clause-ok : goal.returns-in-Ok-push-clause-ok
returns-in-Ok-push-clause-ok g c = record {
  outcome = Err c.in-Err.fault;
  is = c.in-Err.ensures.err;
  posted = none_more _ _ _ c.requires.poster.1;
  noted = search rules;
}
