use Rattle.std.proofs.Common.{rules, ◌≡◌, ◌∙◌, ◌<◌, List, true, length, ap, sym, arith}
use Rattle.std.proofs.lemmas.Option.{slice_get-get_or}
use Rattle.comm_makings.specs.declared.creates.Offer.{Offer}
use Rattle.comm_makings.proofs.OfferLemmas.{adds_again}
use Rattle.comm_makings.proofs.creates.Offers.repeat.Goals as goal

pub returns-then-has_rank : goal.returns-then-has_rank
returns-then-has_rank c =
    let groups : List Offer = c.args.self.now.groups.items in
    let below : c.args.group < length groups = omega arith in
    let one = slice_get-get_or groups c.args.group c.index.result.now below in
    let other = slice_get-get_or groups c.args.group c.index_mut.result.now below in
    let same : c.index.result.now ≡ c.index_mut.result.now = cc in
    let again : c.index.result.now.ranks.items ≡ c.args.ranks.now = c.is_of.ensures (search rules) in
    adds_again groups c.args.group (record { ranks = c.index_mut.result.now.ranks; wanted = true }) c.args.rank c.args.ranks.now
    (sym (ap (λ (o : Offer). o.ranks.items) same) ∙ again) (c.has_rank.ensures (search rules))
