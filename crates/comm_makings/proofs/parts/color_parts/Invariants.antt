use Rattle.std.proofs.Common.{◌≡◌, map, option_map}
use Rattle.comm_makings.specs.Parts.{part_with}
use Rattle.comm_makings.proofs.parts.color_parts.Given as goal

abbrev pub invariant-loop-group : goal.invariant-loop-group
invariant-loop-group l = l.parts.items ≡ map (part_with (option_map (λ v. v.items) l.dims)) l.yielded
