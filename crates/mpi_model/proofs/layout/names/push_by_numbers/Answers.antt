use Rattle.std.proofs.Common.{◌≡◌, ◌⊎◌, arith, ap, sym, ◌∙◌, ◌++◌, List, append-nil, drop, length}
use Rattle.std.proofs.lemmas.Grind.{common_steps}
use Rattle.mpi_model.specs.declared.layout.names.Name.{Name}
use Rattle.mpi_model.proofs.Names.{done}
use Rattle.mpi_model.proofs.layout.names.push_by_numbers.Goals as goal

pub returns : goal.returns
returns c =
    let ended : (length (drop c.loop-i.i c.args.members.now) ≡ 0) ⊎ (length (drop c.loop-i.i c.args.numbers.now) ≡ 0) = grind (arith, common_steps) in
    let none = done c.args.comm (drop c.loop-i.i c.args.members.now) (drop c.loop-i.i c.args.numbers.now) ended in
    sym (append-nil c.loop-i.names.items) ∙ ap (λ (xs : List Name). c.loop-i.names.items ++ xs) (sym none) ∙ c.loop-i.invariant
