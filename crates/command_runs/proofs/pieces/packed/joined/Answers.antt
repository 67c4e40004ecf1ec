use Rattle.std.proofs.Common.{◌∙◌, sym, subst}
use Rattle.trace_know.specs.View.{View}
use Rattle.trace_wire.specs.Packed.{IsOfRanks}
use Rattle.command_runs.proofs.Unpacking.{of_both}
use Rattle.command_runs.proofs.pieces.packed.joined.Goals as goal

pub returns-then-few-many-clause-know : goal.returns-then-few-many-clause-know
returns-then-few-many-clause-know c = c.in_ok-swapped.ensures ∙ c.join_laws.ensures.commutative c.args.texts c.args.packed

pub returns-then-few-many-clause-within : goal.returns-then-few-many-clause-within
returns-then-few-many-clause-within c =
    subst (λ (v : View). IsOfRanks c.args.layout.now.ranks v) (sym c.in_ok-swapped.ensures)
    (of_both c.join_laws.ensures.cells c.args.layout.now.ranks c.args.texts c.args.packed c.requires.texts c.requires.packed)

pub returns-clause-within : goal.returns-clause-within
returns-clause-within c =
    subst (λ (v : View). IsOfRanks c.args.layout.now.ranks v) (sym c.in_ok-all.ensures)
    (of_both c.join_laws.ensures.cells c.args.layout.now.ranks c.args.packed c.args.texts c.requires.packed c.requires.texts)
