use Rattle.std.proofs.Common.{◌≡◌, map, take}
use Rattle.run_inputs.specs.Inits.{all_marked}
use Rattle.run_inputs.specs.Seen.{is_cut, kept_of}
use Rattle.run_inputs.proofs.both_files.marked_of.Given as goal

abbrev pub invariant-loop-text : goal.invariant-loop-text
invariant-loop-text g l = l.marked.items ≡ all_marked (is_cut (map kept_of l.seen.cuts.items)) (take l.text-index l.texts)
