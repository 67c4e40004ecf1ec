-- How an index follows one rank, and all of them.
use Rattle.std.proofs.Common.{◌≡◌, ℕ, ◌+◌, ◌<◌, ◌≢◌, Some, List, ◌⊎◌, inl, inr, ⊎_elim, length, get_or, set, refl, sym, ◌∙◌, ap, subst, arith, zero-add}
use Rattle.std.specs.Prelude.{slice_get}
use Rattle.std.proofs.Math.ListN.{length-set}
use Rattle.std.proofs.lemmas.Bool.{cases_order}
use Rattle.std.proofs.lemmas.Grind.{get_or-set_at}
use Rattle.std.proofs.lemmas.List.{ext_get_or, get_or-set_same, get_or-set_other}
use Rattle.std.proofs.lemmas.List.FromFn.{length-map-range_with_len, get_or-map-range_with_len}
use Rattle.std.proofs.lemmas.Option.{get_or_from_slice_get}
use Rattle.mpi_model.specs.Layouts.{Parts}
use Rattle.trace_know.specs.Prefix.{events_of, prefix_of, is_beyond}
use Rattle.trace_know.specs.View.{View, IsBelow}
use Rattle.trace_ops.specs.Ops.{Ops, no_ops}
use Rattle.trace_ops.specs.RankOps.{all_ops, ops_by, ops_of}
use Rattle.trace_node.specs.Following.{IsFollowing, IsFollowedTo, WasFollowed, no_reach, reach_of, reaches_of}
use Rattle.trace_node.specs.declared.follow.Followed.{Followed}
use Rattle.trace_node.specs.declared.follow.Reach.{Reach}
use Rattle.trace_node.proofs.Below.{below_itself}

-- one rank, followed now
followed_now : (layout : Parts) (know : View) (rank : ℕ) (reach : Reach) (ops : Ops) → reach ≡ reach_of know rank → ops ≡ ops_of layout know rank → WasFollowed layout know rank reach ops
followed_now layout know rank reach ops r o = record { old = know; below = below_itself know; reached = r; did = o }

-- the one number is the other, or isn't
same_or_not : (m n : ℕ) → (m ≡ n) ⊎ (m ≢ n)
same_or_not m n = ⊎_elim (λ (e : m ≡ n). inl e) (⊎_elim (λ (lt : m < n). inr (λ e. omega (arith, e, lt))) (λ (lt : n < m). inr (λ e. omega (arith, e, lt)))) (cases_order m n)

-- an index of all that is known follows it
pub follows_all : (layout : Parts) (know : View) (f : Followed) → f.index ≡ all_ops layout know → f.reaches.items ≡ reaches_of layout know → IsFollowing layout know f
follows_all layout know f i r = record {
  reaches_all = ap length r ∙ length-map-range_with_len (reach_of know) 0 layout.ranks;
  holds_all = ap length i ∙ length-map-range_with_len (ops_of layout know) 0 layout.ranks;
  each = λ rank lt. followed_now layout know rank _ _
      (ap (λ (l : List Reach). get_or l rank no_reach) r ∙ get_or-map-range_with_len (reach_of know) 0 layout.ranks rank rank no_reach lt (zero-add rank))
      (ap (λ (l : List Ops). get_or l rank no_ops) i ∙ get_or-map-range_with_len (ops_of layout know) 0 layout.ranks rank rank no_ops lt (zero-add rank));
}

-- more is known, and the index is as it was
pub follows_further : (layout : Parts) (know more : View) (f : Followed) → ((old : View) → IsBelow old know → IsBelow old more) → IsFollowing layout know f → IsFollowing layout more f
follows_further layout know more f further is = record {
  reaches_all = is.reaches_all;
  holds_all = is.holds_all;
  each = λ rank lt. let was = is.each rank lt in record { old = was.old; below = further was.old was.below; reached = was.reached; did = was.did };
}

-- one rank's calls came in as they are known now
pub follows_rank : (layout : Parts) (know : View) (f g : Followed) (rank : ℕ) (ops : Ops) → rank < layout.ranks → IsFollowing layout know f → ops ≡ ops_of layout know rank →
    g.index ≡ set f.index rank ops → g.reaches.items ≡ set f.reaches.items rank (reach_of know rank) → IsFollowing layout know g
follows_rank layout know f g rank ops lt is did i r = record {
  reaches_all = ap length r ∙ length-set f.reaches.items rank (reach_of know rank) ∙ is.reaches_all;
  holds_all = ap length i ∙ length-set f.index rank ops ∙ is.holds_all;
  each = λ q below.
      let reach = ap (λ (l : List Reach). get_or l q no_reach) r in
      let held = ap (λ (l : List Ops). get_or l q no_ops) i in
      ⊎_elim
      (λ (e : q ≡ rank). followed_now layout know q _ _
      (reach ∙ get_or-set_at f.reaches.items rank q (reach_of know rank) no_reach e (omega (arith, lt, is.reaches_all)) ∙ ap (reach_of know) (sym e))
      (held ∙ get_or-set_at f.index rank q ops no_ops e (omega (arith, lt, is.holds_all)) ∙ did ∙ ap (ops_of layout know) (sym e)))
      (λ (other : q ≢ rank). subst (λ (p : Reach × Ops). WasFollowed layout know q p.0 p.1)
      (λ j. (sym (reach ∙ get_or-set_other f.reaches.items rank q (reach_of know rank) no_reach other) j, sym (held ∙ get_or-set_other f.index rank q ops no_ops other) j))
      (is.each q below))
      (same_or_not q rank);
}

-- no rank is below the first
pub starts : (layout : Parts) (know : View) (f : Followed) → IsFollowing layout know f → IsFollowedTo layout know 0 f
starts layout know f is = record { following = is; reached = λ rank lt. absurd (omega (arith, lt)) }

-- a rank more was followed
next : (layout : Parts) (know : View) (rank : ℕ) (f g : Followed) → IsFollowedTo layout know rank f → IsFollowing layout know g →
    ((q : ℕ) → q ≢ rank → get_or g.reaches.items q no_reach ≡ get_or f.reaches.items q no_reach) → get_or g.reaches.items rank no_reach ≡ reach_of know rank → IsFollowedTo layout know (rank + 1) g
next layout know rank f g is following others here = record {
  following = following;
  reached = λ q lt. ⊎_elim
      (λ (e : q ≡ rank). subst (λ (k : ℕ). get_or g.reaches.items k no_reach ≡ reach_of know k) (sym e) here)
      (λ (other : q ≢ rank). others q other ∙ is.reached q (omega (arith, lt, other)))
      (same_or_not q rank);
}

-- the next rank is known as far as it was
pub stays : (layout : Parts) (know : View) (rank : ℕ) (f : Followed) → IsFollowedTo layout know rank f → slice_get f.reaches.items rank ≡ Some (reach_of know rank) → IsFollowedTo layout know (rank + 1) f
stays layout know rank f is same = next layout know rank f f is is.following (λ q other. refl) (get_or_from_slice_get f.reaches.items rank (reach_of know rank) no_reach same)

-- the next rank's calls came in
pub moves : (layout : Parts) (know : View) (rank : ℕ) (f g : Followed) → rank < layout.ranks → IsFollowedTo layout know rank f → IsFollowing layout know g →
    g.reaches.items ≡ set f.reaches.items rank (reach_of know rank) → IsFollowedTo layout know (rank + 1) g
moves layout know rank f g lt is following e =
    next layout know rank f g is following
    (λ q other. ap (λ (l : List Reach). get_or l q no_reach) e ∙ get_or-set_other f.reaches.items rank q (reach_of know rank) no_reach other)
    (ap (λ (l : List Reach). get_or l rank no_reach) e ∙ get_or-set_same f.reaches.items rank (reach_of know rank) no_reach (omega (arith, lt, is.following.reaches_all)))

-- Where more is known and a readable prefix is as long as before, its events are the same.
abbrev pub AreUnchanged : Type 0
AreUnchanged = (a b : View) (r : ℕ) → IsBelow a b → prefix_of b r ≡ prefix_of a r → events_of b r ≡ events_of a r

-- A rank that is known as far as it was did what it did then.
unchanged_ops : AreUnchanged → (layout : Parts) (know : View) (rank : ℕ) (reach : Reach) (ops : Ops) → WasFollowed layout know rank reach ops → reach ≡ reach_of know rank → ops ≡ ops_of layout know rank
unchanged_ops unchanged layout know rank reach ops was e =
    let same : reach_of know rank ≡ reach_of was.old rank = sym e ∙ was.reached in
    let prefix : prefix_of know rank ≡ prefix_of was.old rank = ap (λ (p : Reach). p.prefix) same in
    let beyond : is_beyond know rank ≡ is_beyond was.old rank = ap (λ (p : Reach). p.beyond) same in
    let events = unchanged was.old know rank was.below prefix in
    was.did ∙ sym (λ i. ops_by layout rank (beyond i) (events i))

-- all ranks are known as far as they were
pub all_followed : AreUnchanged → (layout : Parts) (know : View) (f : Followed) → IsFollowedTo layout know layout.ranks f → f.index ≡ all_ops layout know
all_followed unchanged layout know f is =
    let wide : length (all_ops layout know) ≡ layout.ranks = length-map-range_with_len (ops_of layout know) 0 layout.ranks in
    ext_get_or no_ops f.index (all_ops layout know) (is.following.holds_all ∙ sym wide) (λ rank below.
    let lt : rank < layout.ranks = omega (arith, below, is.following.holds_all) in
    unchanged_ops unchanged layout know rank _ _ (is.following.each rank lt) (is.reached rank lt)
    ∙ sym (get_or-map-range_with_len (ops_of layout know) 0 layout.ranks rank rank no_ops lt (zero-add rank)))
