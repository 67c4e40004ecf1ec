use Rattle.std.proofs.Common.{Bool, subst}
use Rattle.comm_makings.specs.Makes.{AreGiven}
use Rattle.comm_makings.specs.State.{dims_of}
use Rattle.comm_makings.proofs.Derivations.{making_derives}
use Rattle.comm_makings.proofs.outcomes.making_outcome.Goals as goal

pub returns : goal.returns
returns c =
    making_derives c.args.ranks.now c.args.views.now c.args.parent.now.members.items (dims_of c.args.parent.now) c.args.all.now c.args.function c.in_ok-outcome.outcome c.requires
    (λ parts e. c.in_ok-made.ensures parts (c.in_ok-outcome.ensures.same parts e))
    (λ parts e. subst (λ (b : Bool). AreGiven b c.args.all.now parts) c.gives_later.ensures (c.in_ok-outcome.ensures.given parts e))
