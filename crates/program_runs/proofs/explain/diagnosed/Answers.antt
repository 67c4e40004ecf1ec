use Rattle.program_runs.proofs.explain.diagnosed.Goals as goal

pub texts_of-requires : goal.texts_of-requires
texts_of-requires g c = (c.args.know.now, c.requires)
