use Rattle.std.proofs.Common.{◌≡◌, ◌∙◌, ◌∷◌, [], ℕ, false, List, ap, subst, sym}
use Rattle.comm_makings.specs.ByGroups.{part_at}
use Rattle.comm_makings.specs.Makes.{AreGiven}
use Rattle.comm_makings.specs.Selection.{Selection}
use Rattle.comm_makings.proofs.by_groups.is_sound.Goals as goal

pub returns : goal.returns
returns c = λ given.
    let parts : c.deref.result.now ≡ part_at c.args.places.now ∷ [] =
    c.deref.ensures.value ∙ c.in_ok-parts.ensures.items ∙ ap (λ (p : Selection). p ∷ []) c.new.ensures ∙ ap (λ (l : List ℕ). part_at l ∷ []) c.in_ok-copy_of.ensures in
    record {
      readable = sym c.some_unknown.ensures ∙ c.if-some_unknown.false;
      given = subst (λ (l : List Selection). AreGiven false c.args.all.now l) parts (c.in_ok-given.ensures given);
    }
