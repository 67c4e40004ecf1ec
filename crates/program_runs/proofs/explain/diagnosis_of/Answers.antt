use Rattle.program_runs.proofs.explain.diagnosis_of.Goals as goal

pub diagnose-requires-clause-answer : goal.diagnose-requires-clause-answer
diagnose-requires-clause-answer g c = c.requires.0

pub diagnose-requires-clause-did : goal.diagnose-requires-clause-did
diagnose-requires-clause-did g c = c.ops-ops.ensures c.args.run.now.layout.now c.args.know.now c.requires
