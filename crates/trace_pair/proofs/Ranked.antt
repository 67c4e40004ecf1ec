-- The ops of one rank among those of all.
use Rattle.std.proofs.Common.{subst, ◌≡◌, ℕ, zero, suc, ◌+◌, ◌<◌, ◌≤◌, List, [], ◌∷◌, ◌++◌, ⊎_elim, sym, refl, ◌∙◌, ap, arith, append_assoc, length, take, drop, get_or, set}
use Rattle.std.specs.List.{flat_map}
use Rattle.mpi_model.specs.declared.message.Message.{Message}
use Rattle.mpi_model.specs.declared.message.Receive.{Receive}
use Rattle.trace_ops.specs.Ops.{Ops, IsOwn, AreOwn}
use Rattle.trace_ops.specs.Order.{Has}
use Rattle.trace_pair.specs.Calls.{between, IsSequence, IsPosting, IsPostingByCall, IsSingle}
use Rattle.trace_pair.specs.Followed.{Indexes, FollowsBy, Moves}
use Rattle.trace_pair.specs.Pairing.{After}
use Rattle.trace_pair.specs.Kept.{IsKept}
use Rattle.trace_pair.specs.Table.{fresh, sends_of, receives_of}
use Rattle.trace_pair.specs.declared.index.Following.TheVariants.{NotYet}
use Rattle.trace_pair.specs.declared.matched.Matched.{Matched}
use Rattle.trace_pair.proofs.Ranks.{has_either}

module _ {X : Type 0} (part : Ops → List X) where
  pub split : (os : List Ops) (i : ℕ) (d : Ops) → i < length os → flat_map part os ≡ (flat_map part (take i os) ++ part (get_or os i d)) ++ flat_map part (drop (suc i) os)
  split [] i d lt = absurd (omega arith)
  split (o ∷ os) zero d lt = refl
  split (o ∷ os) (suc i) d lt =
      ap (λ l. part o ++ l) (split os i d (omega arith))
      ∙ sym (append_assoc (part o) (flat_map part (take i os) ++ part (get_or os i d)) (flat_map part (drop (suc i) os)))
      ∙ ap (λ l. l ++ flat_map part (drop (suc i) os)) (sym (append_assoc (part o) (flat_map part (take i os)) (part (get_or os i d))))

  pub split_set : (os : List Ops) (i : ℕ) (n : Ops) → i < length os → flat_map part (set os i n) ≡ (flat_map part (take i os) ++ part n) ++ flat_map part (drop (suc i) os)
  split_set [] i n lt = absurd (omega arith)
  split_set (o ∷ os) zero n lt = refl
  split_set (o ∷ os) (suc i) n lt =
      ap (λ l. part o ++ l) (split_set os i n (omega arith))
      ∙ sym (append_assoc (part o) (flat_map part (take i os) ++ part n) (flat_map part (drop (suc i) os)))
      ∙ ap (λ l. l ++ flat_map part (drop (suc i) os)) (sym (append_assoc (part o) (flat_map part (take i os)) (part n)))

  module _ (rank : X → ℕ) (own : (r : ℕ) (o : Ops) (x : X) → IsOwn r o → Has (part o) x → rank x ≡ r) where
    pub below : (os : List Ops) (first i : ℕ) (x : X) → AreOwn first os → Has (flat_map part (take i os)) x → rank x < first + i
    below [] first i x a h = absurd (elim i as (λ i. Has (flat_map part (take i [])) x → ⊥) [ zero ↦ λ h. h | suc i ↦ λ h. h ] h)
    below (o ∷ os) first zero x a h = absurd h
    below (o ∷ os) first (suc i) x a h =
        ⊎_elim (λ (j : Has (part o) x). let e = own first o x a.0 j in omega arith)
        (λ (j : Has (flat_map part (take i os)) x). let e = below os (first + 1) i x a.1 j in omega arith)
        (has_either (part o) (flat_map part (take i os)) x h)

    pub at_least : (os : List Ops) (first : ℕ) (x : X) → AreOwn first os → Has (flat_map part os) x → first ≤ rank x
    at_least [] first x a h = absurd h
    at_least (o ∷ os) first x a h =
        ⊎_elim (λ (j : Has (part o) x). let e = own first o x a.0 j in omega arith)
        (λ (j : Has (flat_map part os) x). let e = at_least os (first + 1) x a.1 j in omega arith)
        (has_either (part o) (flat_map part os) x h)

    pub above : (os : List Ops) (first i : ℕ) (x : X) → AreOwn first os → Has (flat_map part (drop (suc i) os)) x → first + i < rank x
    above [] first i x a h = absurd h
    above (o ∷ os) first zero x a h = let e = at_least os (first + 1) x a.1 h in omega arith
    above (o ∷ os) first (suc i) x a h = let e = above os (first + 1) i x a.1 h in omega arith

pub own_at : (os : List Ops) (first i : ℕ) (d : Ops) → i < length os → AreOwn first os → IsOwn (first + i) (get_or os i d)
own_at [] first i d lt a = absurd (omega arith)
own_at (o ∷ os) first zero d lt a = subst (λ (r : ℕ). IsOwn r o) (omega arith) a.0
own_at (o ∷ os) first (suc i) d lt a = subst (λ (r : ℕ). IsOwn r (get_or os i d)) (omega arith) (own_at os (first + 1) i d (omega arith) a.1)

pub own_set : (os : List Ops) (first i : ℕ) (n : Ops) → AreOwn first os → IsOwn (first + i) n → AreOwn first (set os i n)
own_set [] first i n a o' = a
own_set (o ∷ os) first zero n a o' = (subst (λ (r : ℕ). IsOwn r n) (omega arith) o', a.1)
own_set (o ∷ os) first (suc i) n a o' = (a.0, own_set os (first + 1) i n a.1 (subst (λ (r : ℕ). IsOwn r n) (omega arith) o'))

pub own_fresh : (n first : ℕ) → AreOwn first (fresh n)
own_fresh zero first = tt
own_fresh (suc n) first = (record { sent = λ m i. absurd i; sent_from = λ m i. absurd i; posted = λ q i. absurd i; posted_at = λ q i. absurd i; sends_rise = tt; receives_rise = tt; rounds_rise = tt; cancelled_by = λ b i. absurd i; cancelled_rise = tt }, own_fresh n (first + 1))

pub is_sequence : (os : List Ops) (i : ℕ) (n : Ops) → AreOwn 0 os → IsOwn i n → IsSingle n → IsSequence (sends_of (take i os)) (sends_of (drop (suc i) os)) n.sends
is_sequence os i n a o single = record {
  own = λ m h. o.sent m h ∙ sym (o.sent_from m h);
  order = single.sends;
  apart_before = λ m k h j e. let x = below (λ o. o.sends) (λ m. m.from) (λ r o m w. w.sent_from m) os 0 i m a h in let y = o.sent_from k j in omega arith;
  apart_after = λ m k h j e. let x = above (λ o. o.sends) (λ m. m.from) (λ r o m w. w.sent_from m) os 0 i m a h in let y = o.sent_from k j in omega arith;
}

pub is_posting : (os : List Ops) (i : ℕ) (n : Ops) → AreOwn 0 os → IsOwn i n → IsPosting (receives_of (take i os)) (receives_of (drop (suc i) os)) n.receives
is_posting os i n a o = record {
  own = λ q h. o.posted q h ∙ sym (o.posted_at q h);
  order = o.receives_rise;
  apart_before = λ m k h j e. let x = below (λ o. o.receives) (λ m. m.at) (λ r o m w. w.posted_at m) os 0 i m a h in let y = o.posted_at k j in omega arith;
  apart_after = λ m k h j e. let x = above (λ o. o.receives) (λ m. m.at) (λ r o m w. w.posted_at m) os 0 i m a h in let y = o.posted_at k j in omega arith;
}

pub is_posting_by_call : (os : List Ops) (i : ℕ) (n : Ops) → AreOwn 0 os → IsOwn i n → IsSingle n → IsPostingByCall (receives_of (take i os)) (receives_of (drop (suc i) os)) n.receives
is_posting_by_call os i n a o single = let p = is_posting os i n a o in record { own = p.own; order = single.receives; apart_before = p.apart_before; apart_after = p.apart_after }

-- ranks without calls
pub kept_fresh : (held : List Ops) (n : ℕ) → held ≡ fresh n → IsKept held NotYet
kept_fresh held n e = subst (λ (h : List Ops). IsKept h NotYet) (sym e) (record { own = own_fresh n 0; followed = tt })

-- a rank's ops are new ones
pub moved : (after : After) (held : List Ops) (i : ℕ) (d n : Ops) (old new : Matched) → i < length held → AreOwn 0 held → IsOwn i n → IsSingle d → IsSingle n → d ≡ get_or held i d → Moves after d n old new → FollowsBy after held old → FollowsBy after (set held i n) new
moved after held i d n old new lt a o was single e law x =
    let w : IsOwn i (get_or held i d) = subst (λ (r : ℕ). IsOwn r (get_or held i d)) (omega arith) (own_at held 0 i d lt a) in
    let alone = subst (λ (g : Ops). IsSingle g) e was in
    let s = split (λ o. o.sends) held i d lt in
    let r = split (λ o. o.receives) held i d lt in
    let s' = split_set (λ o. o.sends) held i n lt in
    let r' = split_set (λ o. o.receives) held i n lt in
    let x' = subst (λ (qs : List Receive). Indexes after (between (sends_of (take i held)) (get_or held i d).sends (sends_of (drop (suc i) held))) qs old) r (subst (λ (ms : List Message). Indexes after ms (receives_of held) old) s x) in
    let y = (subst (λ (g : Ops). Moves after g n old new) e law) (sends_of (take i held)) (sends_of (drop (suc i) held)) (receives_of (take i held)) (receives_of (drop (suc i) held))
    (is_sequence held i (get_or held i d) a w alone) (is_sequence held i n a o single) (is_posting_by_call held i (get_or held i d) a w alone) (is_posting_by_call held i n a o single) x' in
    subst (λ (ms : List Message). Indexes after ms (receives_of (set held i n)) new) (sym s')
    (subst (λ (qs : List Receive). Indexes after (between (sends_of (take i held)) n.sends (sends_of (drop (suc i) held))) qs new) (sym r') y)

pub own_moved : (held : List Ops) (i : ℕ) (n : Ops) → AreOwn 0 held → IsOwn i n → AreOwn 0 (set held i n)
own_moved held i n a o = own_set held 0 i n a (subst (λ (r : ℕ). IsOwn r n) (omega arith) o)
