use Rattle.std.proofs.Common.{◌≡◌, ◌∙◌, ℕ, List, [], ◌∷◌, None, ap, length, refl, subst}
use Rattle.std.specs.List.{range_with_len}
use Rattle.comm_makings.specs.Derives.{members_at}
use Rattle.comm_makings.specs.Intercomms.{whole}
use Rattle.comm_makings.specs.Made.{IsMakingOrder}
use Rattle.comm_makings.specs.Makes.{AreGiven}
use Rattle.comm_makings.specs.Selection.{Selection}
use Rattle.comm_makings.proofs.intercomms.inter_of.Goals as goal

pub returns : goal.returns
returns c =
    let count : ℕ = length c.args.members.now in
    let one : c.in_ok-parts.parts.items ≡ c.new.result ∷ [] = c.in_ok-parts.ensures.items in
    let places : c.in_ok-first_places.field-0.items ≡ range_with_len 0 count =
    c.in_ok-first_places.ensures ∙ ap (range_with_len 0) c.in-Ok.ensures.1 in
    let part : c.new.result ≡ whole count = c.new.ensures ∙ ap (λ (l : List ℕ). record { places = l; dims = None }) places in
    let first : c.index.result.now ≡ whole count = rw one at c.index.ensures ∙ part in
    let given : AreGiven c.args.later c.args.all.now c.deref.result.now = c.in_ok-are_given.ensures c.if-not-branch.false in
    record {
      chosen = c.in_ok-made.ensures.members
          ∙ ap (λ (p : Selection). members_at c.args.members.now c.args.all.now p.places) first;
      same_ranks = c.in_ok-made.ensures.ranks;
      order = subst (λ (p : Selection). IsMakingOrder p.places c.args.all.now c.in_ok-made.made.order) first
          c.in_ok-made.ensures.order;
      remote = refl;
      given = subst (AreGiven c.args.later c.args.all.now)
          (c.deref.ensures.value ∙ one ∙ ap (λ (p : Selection). p ∷ []) part) given;
    }
