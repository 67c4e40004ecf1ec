use Rattle.std.proofs.Common.{ℕ, List, subst}
use Rattle.comm_makings.specs.Offers.{AreOfWanted}
use Rattle.comm_makings.specs.State.{dims_of}
use Rattle.comm_makings.proofs.Derivations.{creation_derives}
use Rattle.comm_makings.proofs.outcomes.creation_outcome.Goals as goal

pub returns : goal.returns
returns c =
    creation_derives c.args.ranks.now c.args.views.now c.args.parent.now.members.items (dims_of c.args.parent.now) c.args.all.now c.args.comms.now c.args.values.now c.in_ok-outcome.outcome
    c.requires.groups c.requires.one
    (λ parts e. c.in_ok-made.ensures.known parts (c.in_ok-outcome.ensures.same parts e))
    (λ parts e. subst (λ (l : List ℕ). AreOfWanted c.args.values.now c.args.comms.now c.args.all.now l parts) c.requires.parent.same_ranks
    (c.in_ok-made.ensures.made parts (c.in_ok-outcome.ensures.same parts e)))
    c.in_ok-outcome.ensures.given
