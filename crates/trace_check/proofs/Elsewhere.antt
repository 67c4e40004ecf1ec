-- A piece of one rank changes what no other rank did.
use Rattle.std.proofs.Common.{◌≡◌, ◌∙◌, ◌≢◌, ◌↔◌, ◌+◌, ◌<◌, ◌≤◌, ℕ, zero, suc, true, List, [], ◌∷◌, Option, Some, None, IsSome, ap, refl, sym, subst, length, get_or, set, arith, ⊎_elim, ◌⊎◌, inl, inr, zero-add}
use Rattle.std.specs.Prelude.{Contains}
use Rattle.std.proofs.Math.ListN.{length-set}
use Rattle.std.proofs.lemmas.Bool.{cases_order}
use Rattle.std.proofs.lemmas.Grind.{get_or-set_at}
use Rattle.std.proofs.lemmas.List.{ext_get_or, get_or-set_other}
use Rattle.std.proofs.lemmas.List.FromFn.{length-map-range_with_len, get_or-map-range_with_len}
use Rattle.mpi_model.specs.Layouts.{Parts}
use Rattle.mpi_model.specs.declared.event.Event.{Event}
use Rattle.trace_know.specs.Cell.{join_cell}
use Rattle.trace_know.specs.Prefix.{IsBeyond, IsLeading, events_of, is_beyond, prefix_of, readable_at, readable_of}
use Rattle.trace_know.specs.Segment.{PlacedEvents}
use Rattle.trace_know.specs.Trace.{Fact, Trace, IsCellOf, facts_from, facts_of, view_of}
use Rattle.trace_know.specs.View.{View, cell, join}
use Rattle.trace_know.specs.declared.cell.Known.{Known}
use Rattle.trace_know.specs.declared.cell.Known.TheVariants.{One, Contradiction}
use Rattle.trace_ops.specs.Ops.{Ops, no_ops}
use Rattle.trace_ops.specs.RankOps.{all_ops, ops_by, ops_of}
use Rattle.trace_check.proofs.Judged.{same_bool}

-- the laws that are used
abbrev pub JoinsCells : Type 0
JoinsCells = (a b : View) (rank place : ℕ) → cell (join a b) rank place ≡ join_cell (cell a rank place) (cell b rank place)

abbrev pub ShowsFacts : Type 0
ShowsFacts = (facts : Trace) (rank place : ℕ) → IsCellOf facts rank place (cell (view_of facts) rank place)

abbrev pub TellsBeyond : Type 0
TellsBeyond = (view : View) (rank : ℕ) → (is_beyond view rank ≡ true) ↔ IsBeyond view rank (prefix_of view rank)

abbrev pub LeadsEvents : Type 0
LeadsEvents = (view : View) (rank : ℕ) → IsLeading (readable_at view rank) (events_of view rank)

abbrev pub HasOneList : Type 0
HasOneList = (view : View) (rank : ℕ) (events : List Event) → IsLeading (readable_at view rank) events → events ≡ events_of view rank

-- ---- a rank of which two views know the same

abbrev pub KnowsAlike : View → View → ℕ → Type 0
KnowsAlike a b rank = (place : ℕ) → cell a rank place ≡ cell b rank place

events_alike : LeadsEvents → HasOneList → (a b : View) (rank : ℕ) → KnowsAlike a b rank → events_of a rank ≡ events_of b rank
events_alike leads one a b rank alike =
    let is = leads a rank in
    one b rank (events_of a rank) (record {
      each = λ i lt. sym (ap readable_of (alike i)) ∙ is.each i lt;
      end = sym (ap readable_of (alike (length (events_of a rank)))) ∙ is.end;
    })

beyond_too : (a b : View) (rank : ℕ) → KnowsAlike a b rank → prefix_of a rank ≡ prefix_of b rank → IsBeyond a rank (prefix_of a rank) → IsBeyond b rank (prefix_of b rank)
beyond_too a b rank alike e is =
    (is.0, subst (λ (n : ℕ). n ≤ is.0) e is.1, subst (λ (known : Option Known). IsSome known) (alike is.0) is.2)

beyond_alike : TellsBeyond → (a b : View) (rank : ℕ) → KnowsAlike a b rank → prefix_of a rank ≡ prefix_of b rank → is_beyond a rank ≡ is_beyond b rank
beyond_alike tells a b rank alike e =
    same_bool (is_beyond a rank) (is_beyond b rank)
    (λ h. (tells b rank).1 (beyond_too a b rank alike e ((tells a rank).0 h)))
    (λ h. (tells a rank).1 (beyond_too b a rank (λ place. sym (alike place)) (sym e) ((tells b rank).0 h)))

ops_alike : LeadsEvents → HasOneList → TellsBeyond → (layout : Parts) (a b : View) (rank : ℕ) → KnowsAlike a b rank → ops_of layout a rank ≡ ops_of layout b rank
ops_alike leads one tells layout a b rank alike =
    let events = events_alike leads one a b rank alike in
    let beyond = beyond_alike tells a b rank alike (ap length events) in
    λ i. ops_by layout rank (beyond i) (events i)

-- ---- the facts of a piece

-- the facts of a rank's events are of that rank
of_rank : (rank place : ℕ) (events : List Event) (i : ℕ) (fact : Fact) → i < length (facts_from rank place events) → get_or (facts_from rank place events) i fact ≡ fact → fact.rank ≡ rank
of_rank rank place [] i fact below e = absurd (omega (arith, below))
of_rank rank place (event ∷ events) zero fact below e = sym (ap (λ (f : Fact). f.rank) e)
of_rank rank place (event ∷ events) (suc i) fact below e = of_rank rank (place + 1) events i fact (omega (arith, below)) e

none_at : (facts : Trace) (rank place : ℕ) (known : Option Known) → IsCellOf facts rank place known → ((fact : Fact) → Contains facts fact → fact.rank ≢ rank) → known ≡ None
none_at facts rank place None is never = refl
none_at facts rank place (Some (One event)) is never = absurd (never (record { rank = rank; place = place; event = event }) is.0 refl)
none_at facts rank place (Some Contradiction) is never = absurd (never (record { rank = rank; place = place; event = is.0 }) is.3 refl)

join_none : (known other : Option Known) → other ≡ None → join_cell known other ≡ known
join_none None other e = e
join_none (Some known) other e = rw e refl

-- of other ranks a piece tells nothing
alike_elsewhere : JoinsCells → ShowsFacts → (know : View) (piece : PlacedEvents) (rank : ℕ) → rank ≢ piece.rank → KnowsAlike (join know (view_of (facts_of piece))) know rank
alike_elsewhere joins shows know piece rank other place =
    let facts = facts_of piece in
    joins know (view_of facts) rank place
    ∙ join_none (cell know rank place) (cell (view_of facts) rank place)
    (none_at facts rank place (cell (view_of facts) rank place) (shows facts rank place)
    (λ fact among e. other (sym e ∙ of_rank piece.rank piece.first_place piece.events among.0 fact among.1 among.2)))

same_or_not : (m n : ℕ) → (m ≡ n) ⊎ (m ≢ n)
same_or_not m n = ⊎_elim (λ (e : m ≡ n). inl e) (⊎_elim (λ (lt : m < n). inr (λ e. omega (arith, e, lt))) (λ (lt : n < m). inr (λ e. omega (arith, e, lt)))) (cases_order m n)

module _ (joins : JoinsCells) (shows : ShowsFacts) (leads : LeadsEvents) (one : HasOneList) (tells : TellsBeyond) (layout : Parts) (know new : View) (piece : PlacedEvents) (is : new ≡ join know (view_of (facts_of piece))) where
  at : (view : View) (rank : ℕ) → rank < layout.ranks → get_or (all_ops layout view) rank no_ops ≡ ops_of layout view rank
  at view rank lt = get_or-map-range_with_len (ops_of layout view) 0 layout.ranks rank rank no_ops lt (zero-add rank)

  elsewhere : (rank : ℕ) → rank ≢ piece.rank → ops_of layout know rank ≡ ops_of layout new rank
  elsewhere rank other =
      sym (ap (λ (v : View). ops_of layout v rank) is
      ∙ ops_alike leads one tells layout (join know (view_of (facts_of piece))) know rank (alike_elsewhere joins shows know piece rank other))

  wide : (view : View) → length (all_ops layout view) ≡ layout.ranks
  wide view = length-map-range_with_len (ops_of layout view) 0 layout.ranks

  -- once the piece's rank is followed, all ranks are
  pub followed_all : (own : ℕ) (ops : Ops) → own ≡ piece.rank → own < layout.ranks → ops ≡ ops_of layout new own → set (all_ops layout know) own ops ≡ all_ops layout new
  followed_all own ops is_own lt did =
      let old = all_ops layout know in
      ext_get_or no_ops (set old own ops) (all_ops layout new) (length-set old own ops ∙ wide know ∙ sym (wide new)) (λ rank below.
      let few : length (set old own ops) ≡ layout.ranks = length-set old own ops ∙ wide know in
      let here : rank < layout.ranks = omega (arith, below, few) in
      let long : own < length old = omega (arith, lt, wide know) in
      ⊎_elim
      (λ (e : rank ≡ own). get_or-set_at old own rank ops no_ops e long ∙ did ∙ ap (ops_of layout new) (sym e) ∙ sym (at new rank here))
      (λ (other : rank ≢ own). get_or-set_other old own rank ops no_ops other ∙ at know rank here ∙ elsewhere rank (λ e. other (e ∙ sym is_own)) ∙ sym (at new rank here))
      (same_or_not rank own))

  -- a piece of no rank of the layout changes no rank's ops
  pub followed_none : (own : ℕ) → own ≡ piece.rank → layout.ranks ≤ own → all_ops layout know ≡ all_ops layout new
  followed_none own is_own ge =
      ext_get_or no_ops (all_ops layout know) (all_ops layout new) (wide know ∙ sym (wide new)) (λ rank below.
      let here : rank < layout.ranks = omega (arith, below, wide know) in
      at know rank here ∙ elsewhere rank (λ e. omega (arith, e, is_own, here, ge)) ∙ sym (at new rank here))
