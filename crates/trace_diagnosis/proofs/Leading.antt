-- Components, and what leads to them.
use Rattle.std.proofs.Common.{◌≡◌, ◌∙◌, ℕ, Bool, true, Option, Some, None, List, [], ◌∷◌, ◌++◌, Vec, Global, All, filter, refl, sym, subst}
use Rattle.std.specs.List.{range_with_len}
use Rattle.std.specs.Prelude.{is_some}
use Rattle.std.proofs.lemmas.List.Elements.{All-weaker, filter_passes}
use Rattle.trace_stuck.specs.Chains.{IsChain, Leads}
use Rattle.trace_stuck.specs.Graph.{IsFirst, edge, is_up, label_at}
use Rattle.trace_stuck.specs.Hearts.{AreHearts, IsHeartOf, IsInHeart, Reaches}
use Rattle.trace_diagnosis.specs.Roots.{LeadFrom, is_label, is_labelled, members}

chain_next : (step : ℕ → ℕ → Bool) (through : List ℕ) (r s t : ℕ) → IsChain step r through s → step s t ≡ true → IsChain step r (through ++ t ∷ []) t
chain_next step [] r s t e h = (subst (λ (x : ℕ). step x t ≡ true) (sym e) h, refl)
chain_next step (u ∷ through) r s t c h = (c.0, chain_next step through u s t c.1 h)

pub leads_next : (step : ℕ → ℕ → Bool) (r s t : ℕ) → Leads step r s → step s t ≡ true → Leads step r t
leads_next step r s t p h = (p.0 ++ t ∷ [], chain_next step p.0 r s t p.1 h)

chain_back : (step against : ℕ → ℕ → Bool) → ((x y : ℕ) → against x y ≡ step y x) → (through : List ℕ) (r s : ℕ) → IsChain against r through s → Leads step s r
chain_back step against turn [] r s e = ([], sym e)
chain_back step against turn (t ∷ through) r s c = leads_next step s t r (chain_back step against turn through t s c.1) (sym (turn r t) ∙ c.0)

-- a chain against the edges leads back
leads_back : (edges askers : List (Vec ℕ Global)) → ((r s : ℕ) → edge askers s r ≡ edge edges r s) → (l r : ℕ) → Leads (edge askers) l r → Reaches edges r l
leads_back edges askers turn l r p = chain_back (edge edges) (edge askers) (λ x y. turn y x) p.0 l r p.1

in_heart : (edges : List (Vec ℕ Global)) (least r : ℕ) (o : Option ℕ) → IsHeartOf edges r o → is_label least o ≡ true → IsInHeart edges r
in_heart edges least r None h e = absurd (cc)
in_heart edges least r (Some l) h e = h.0

-- what has a label is in a heart
pub labelled_in_heart : (edges : List (Vec ℕ Global)) (labels : List (Option ℕ)) → AreHearts edges labels → (least r : ℕ) → is_labelled labels least r ≡ true → IsInHeart edges r
labelled_in_heart edges labels hearts least r e = in_heart edges least r (label_at labels r) (hearts r) e

-- the ranks of a component are in a heart
pub members_in_heart : (edges : List (Vec ℕ Global)) (labels : List (Option ℕ)) → AreHearts edges labels → (ranks least : ℕ) → All (IsInHeart edges) (members labels ranks least)
members_in_heart edges labels hearts ranks least =
    All-weaker (λ r. is_labelled labels least r ≡ true) (IsInHeart edges) (λ r e. labelled_in_heart edges labels hearts least r e)
    (filter (is_labelled labels least) (range_with_len 0 ranks)) (filter_passes (is_labelled labels least) (range_with_len 0 ranks))

from_first : (edges askers : List (Vec ℕ Global)) (labels : List (Option ℕ)) (starts : List Bool) (least r : ℕ)
    → ((r s : ℕ) → edge askers s r ≡ edge edges r s) → ((s : ℕ) → is_up starts s ≡ true → is_labelled labels least s ≡ true)
    → (o : Option ℕ) → IsFirst (edge askers) (is_up starts) r o → is_some o ≡ true → LeadFrom edges labels least r
from_first edges askers labels starts least r turn own None f e = absurd (cc)
from_first edges askers labels starts least r turn own (Some l) f e = (l, own l f.0, leads_back edges askers turn l r f.1)

-- who was found by a search from nodes with a label leads to one of them
pub leading : (edges askers : List (Vec ℕ Global)) (labels : List (Option ℕ)) (starts : List Bool) (least : ℕ) (found : List (Option ℕ)) (held : List Bool) (ranks : List ℕ)
    → ((r s : ℕ) → edge askers s r ≡ edge edges r s) → ((s : ℕ) → is_up starts s ≡ true → is_labelled labels least s ≡ true)
    → ((x : ℕ) → IsFirst (edge askers) (is_up starts) x (label_at found x))
    → All (λ r. (is_up held r ≡ true) × (is_some (label_at found r) ≡ true)) ranks
    → All (λ r. (is_up held r ≡ true) × LeadFrom edges labels least r) ranks
leading edges askers labels starts least found held ranks turn own first all =
    All-weaker (λ r. (is_up held r ≡ true) × (is_some (label_at found r) ≡ true)) (λ r. (is_up held r ≡ true) × LeadFrom edges labels least r)
    (λ r h. (h.0, from_first edges askers labels starts least r turn own (label_at found r) (first r) h.1)) ranks all

-- what a root of ranks holds up reaches a heart
pub held_up : (edges : List (Vec ℕ Global)) (labels : List (Option ℕ)) → AreHearts edges labels → (least : ℕ) (held : List Bool) (ranks : List ℕ)
    → All (λ r. (is_up held r ≡ true) × LeadFrom edges labels least r) ranks
    → All (λ r. (is_up held r ≡ true) × ((s : ℕ) × IsInHeart edges s × Reaches edges r s)) ranks
held_up edges labels hearts least held ranks all =
    All-weaker (λ r. (is_up held r ≡ true) × LeadFrom edges labels least r) (λ r. (is_up held r ≡ true) × ((s : ℕ) × IsInHeart edges s × Reaches edges r s))
    (λ r h. (h.0, (h.1.0, labelled_in_heart edges labels hearts least h.1.0 h.1.1, h.1.2))) ranks all
