use Rattle.std.proofs.Common.{◌∙◌, ap, map, refl}
use Rattle.comm_makings.specs.ObjectMakings.{made_member}
use Rattle.comm_makings.proofs.objects.object_of.Goals as goal

pub returns : goal.returns
returns c = record {
  first = c.args.first;
  making = c.requires;
  sort = refl;
  members = c.in_ok-members.ensures ∙ ap (map (made_member c.args.ranks.now c.args.views.now c.args.object c.args.k)) c.deref.ensures.value;
  same_ranks = c.in_ok-same_ranks.ensures ∙ c.deref-2.ensures.value;
  no_dims = refl;
  one_group = refl;
  order = refl;
}
