use Rattle.run_inputs.specs.Folders.{AreTextsIn}
use Rattle.run_inputs.proofs.load.folders.texts_among.Given as goal

abbrev pub invariant-loop-entry : goal.invariant-loop-entry
invariant-loop-entry g l = AreTextsIn l.folder l.names.items
