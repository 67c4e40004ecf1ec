-- A pairing of all messages, as a call of several receives comes.
use Rattle.std.proofs.Common.{subst, ◌≡◌, ◌⊎◌, ℕ, ◌+◌, ◌<◌, ◌≤◌, true, List, [], ◌∷◌, ◌++◌, inl, inr, ⊎_elim, sym, refl, ◌∙◌, ap, arith, length, take, get_or, Some, None}
use Rattle.std.proofs.lemmas.List.{take_more, take_all}
use Rattle.std.specs.Prelude.{slice_get}
use Rattle.mpi_model.specs.declared.message.Message.{Message}
use Rattle.mpi_model.specs.declared.message.Receive.{Receive}
use Rattle.mpi_model.specs.Fit.{envelopes_fit}
use Rattle.mpi_model.specs.Trusts.{is_settled}
use Rattle.trace_ops.specs.Order.{Has}
use Rattle.trace_pair.specs.Calls.{AddsReceives, ArePostedApart}
use Rattle.trace_pair.specs.Coupled.{taker_of}
use Rattle.trace_pair.specs.Indexed.{AreSets, Found, IsFirstReceive, IsOfferedMessage, OffersMessage}
use Rattle.trace_pair.specs.Pairing.{After, Paired}
use Rattle.trace_pair.specs.Rising.{AreRising}
use Rattle.trace_pair.specs.Sets.{AddsTo, DropsFrom, IsSameSet}
use Rattle.trace_pair.specs.Settled.{Settles, SettlesAmong, IsNextPart, IsOfferedAt, waiting_of}
use Rattle.trace_pair.specs.Waiting.{Takings, with_taker}
use Rattle.trace_pair.specs.declared.batch.Batch.{Batch}
use Rattle.trace_pair.specs.declared.pair.Couple.{Couple}
use Rattle.trace_pair.specs.declared.pair.Taker.{Taker}
use Rattle.trace_pair.proofs.Fitting.{sure_stands}
use Rattle.trace_pair.proofs.Holding.{fewer_apart, same_sets, same_receives}
use Rattle.trace_pair.proofs.Known.{told_by}
use Rattle.trace_pair.proofs.Obeyed.{posted_lt}
use Rattle.trace_pair.proofs.Listed.{has_take}
use Rattle.trace_pair.proofs.Ranks.{has_left, has_right, has_either}
use Rattle.trace_pair.proofs.ReceiveParts as parts
use Rattle.trace_pair.proofs.Settling.{one_there, takes_at}
use Rattle.trace_pair.proofs.Steps.{receive-keeps, receive-adds_none}

-- the same receives are done, or the same ones stand in another list
module _ (after : After) (ms : List Message) (all done qs : List Receive) (b : Batch) (s : SettlesAmong after ms all done qs b) where
  pub same_done : (more : List Receive) → IsSameSet done more → SettlesAmong after ms all more qs b
  same_done more same = record {
    messages = s.messages;
    rise = s.rise;
    opened = s.opened;
    held = same_sets (Found after ms all (λ m r. Has done r)) ms qs _ _ _ _ s.held (Found after ms all (λ m r. Has more r)) (λ m r i j h. (h.0, same.keeps r h.1)) (λ m r i j h. (h.0, same.was r h.1));
    last = s.last;
  }

  pub same_there : (more : List Receive) → IsSameSet qs more → SettlesAmong after ms all done more b
  same_there more same = record {
    messages = s.messages;
    rise = s.rise;
    opened = s.opened;
    held = same_receives (Found after ms all (λ m r. Has done r)) ms qs _ _ _ _ s.held more same;
    last = s.last;
  }

module _ (after : After) (ms : List Message) (qs more call : List Receive) (adds : AddsReceives qs more call) where
  -- a receive of the call was not there
  pub absent_part : (q : Receive) → Has call q → Has qs q → ⊥
  absent_part q c i = let lt = posted_lt q q (adds.behind q q i c refl) in absurd (omega arith)

  -- the next part comes behind those before it
  pub one_comes : (i : ℕ) (d : Receive) → i < length call → AddsTo (take i call ++ qs) (take (i + 1) call ++ qs) (get_or call i d)
  one_comes i d lt =
      let q = get_or call i d in
      let e = take_more call i d lt in
      let to : (r : Receive) → Has ((take i call ++ q ∷ []) ++ qs) r → Has (take (i + 1) call ++ qs) r = λ r h. subst (λ (l : List Receive). Has (l ++ qs) r) (sym e) h in
      record {
        keeps = λ r h. to r (⊎_elim (λ (k : Has (take i call) r). has_left (take i call ++ q ∷ []) qs r (has_left (take i call) (q ∷ []) r k)) (λ (k : Has qs r). has_right (take i call ++ q ∷ []) qs r k) (has_either (take i call) qs r h));
        added = to q (has_left (take i call ++ q ∷ []) qs q (has_right (take i call) (q ∷ []) q (inl refl)));
        cases = λ r h. ⊎_elim
            (λ (k : Has (take i call ++ q ∷ []) r). ⊎_elim (λ (j : Has (take i call) r). inl (has_left (take i call) qs r j)) (λ (j : Has (q ∷ []) r). ⊎_elim (λ (f : r ≡ q). inr f) (λ x. absurd x) j) (has_either (take i call) (q ∷ []) r k))
            (λ (k : Has qs r). inl (has_right (take i call) qs r k)) (has_either (take i call ++ q ∷ []) qs r (subst (λ (l : List Receive). Has (l ++ qs) r) e h));
      }

  -- what has come is among all
  come : (i : ℕ) (r : Receive) → Has (take i call ++ qs) r → Has more r
  come i r h = ⊎_elim (λ (k : Has (take i call) r). adds.new r (has_take call i r k)) (λ (k : Has qs r). adds.old r k) (has_either (take i call) qs r h)

  pub apart_come : ArePostedApart more → (i : ℕ) → ArePostedApart (take i call ++ qs)
  apart_come apart i = fewer_apart (take i call ++ qs) more (come i) apart

  pub all_come : (i : ℕ) → length call ≤ i → IsSameSet (take i call ++ qs) more
  all_come i le = record {
    keeps = come i;
    was = λ r h. subst (λ (l : List Receive). Has (l ++ qs) r) (sym (take_all i call le)) (⊎_elim (λ (k : Has qs r). has_right call qs r k) (λ (k : Has call r). has_left call qs r k) (adds.cases r h));
  }

  -- none of the call has come
  pub awaits_none : (b : Batch) → Settles after ms qs b → SettlesAmong after ms more qs qs b
  awaits_none b s = record {
    messages = s.messages;
    rise = s.rise;
    opened = s.opened;
    held = same_sets (Paired after ms qs) ms qs _ _ _ _ s.held (Found after ms more (λ m r. Has qs r)) (λ m r i j h. (receive-keeps after ms qs more call adds m r i j h, j)) (λ m r i j h. receive-adds_none after ms qs more call adds m r i j h.0);
    last = s.last;
  }

  -- where all are done, all pairs are found
  pub all_settled : (done : List Receive) (b : Batch) → ((r : Receive) → Has more r → Has done r) → SettlesAmong after ms more done more b → Settles after ms more b
  all_settled done b all s = record {
    messages = s.messages;
    rise = s.rise;
    opened = s.opened;
    held = same_sets (Found after ms more (λ m r. Has done r)) ms more _ _ _ _ s.held (Paired after ms more) (λ m r i j h. h.0) (λ m r i j h. (h, all r j));
    last = s.last;
  }

  -- a part is settled
  module _ (q : Receive) (c : Has call q) (done : List Receive) (next : IsNextPart qs call done q) (b : Batch) (s : SettlesAmong after ms more done more b) where
    abbrev Done : Message → Receive → Type 0
    Done n r = Has done r

    one_more : (waiting : List Message) (free opened : List Receive) (couples : List Couple) → AreSets (Found after ms more (λ n r. Has done r ⊎ (r ≡ q))) ms more waiting free opened couples → AreSets (Found after ms more (λ n r. Has (q ∷ done) r)) ms more waiting free opened couples
    one_more waiting free opened couples held =
        same_sets (Found after ms more (λ n r. Has done r ⊎ (r ≡ q))) ms more waiting free opened couples held (Found after ms more (λ n r. Has (q ∷ done) r))
        (λ n r i j h. (h.0, ⊎_elim (λ (k : Has done r). inr k) (λ (e : r ≡ q). inl e) h.1)) (λ n r i j h. (h.0, ⊎_elim (λ (e : r ≡ q). inr e) (λ (k : Has done r). inl k) h.1))

    -- it is offered nothing
    pub settles_none : IsOfferedMessage after ms qs more q None → SettlesAmong after ms more (q ∷ done) more b
    settles_none none = record {
      messages = s.messages;
      rise = s.rise;
      opened = s.opened;
      held = same_sets (Found after ms more Done) ms more _ _ _ _ s.held (Found after ms more (λ n r. Has (q ∷ done) r)) (λ n r i j h. (h.0, inr h.1))
          (λ n r i j h. (h.0, ⊎_elim (λ (e : r ≡ q). absurd (none n i (subst (λ (x : Receive). Paired after ms more n x) e h.0))) (λ (k : Has done r). k) h.1));
      last = s.last;
    }

    module _ (place : ℕ) (offered : IsOfferedAt after ms qs more q (Some place)) (n : Message) (is_there : slice_get b.messages.messages place ≡ Some n) where
      abbrev m : Message
      m = offered.0

      settled : is_settled q ≡ true
      settled = offered.2.0

      offer : OffersMessage after ms qs more q m
      offer = offered.2.1

      there : slice_get b.messages.messages place ≡ Some m
      there = ap (λ (k : List Message). slice_get k place) s.messages ∙ offered.1

      stands_there : n ≡ m
      stands_there = one_there b.messages.messages place n m is_there there

      still_waits : Has (waiting_of b) m
      still_waits = s.held.waits_all m offer.member (sure_stands m.trust offer.sure)
          (λ r i h. ⊎_elim (λ (k : Has qs r). offer.waits r k (receive-adds_none after ms qs more call adds m r offer.member k h.0))
          (λ (k : Has call r). parts.another after ms qs more call adds s.held.messages_apart s.held.receives_apart q c settled m offer r k (λ e. next.fresh (subst (λ (x : Receive). Has done x) e h.1)) h.0)
          (adds.cases r i))

      still_free : Has b.free q
      still_free = s.held.frees_all q (adds.new q c) settled (λ n i h. next.fresh h.1)

      -- another free receive fits the message
      pub settles_left : (frees back : List Receive) → DropsFrom b.free frees q → AddsTo frees back q → (r : Receive) → IsFirstReceive frees n r → SettlesAmong after ms more (q ∷ done) more (record b { free = back })
      settles_left frees back removed put r f =
          let first = subst (λ (x : Message). IsFirstReceive frees x r) stands_there f in
          record {
            messages = s.messages;
            rise = s.rise;
            opened = s.opened;
            held = one_more _ _ _ _ (parts.settles_left after ms qs more call adds s.held.messages_apart s.held.receives_apart q c settled m offer Done (λ n r k. next.keeps r k) _ _ _ _ s.held
                (parts.left_free after ms qs more call adds s.held.messages_apart s.held.receives_apart q c settled m offer Done (λ n r k. next.keeps r k) _ _ _ _ s.held
                (λ n x k t told. ⊎_elim (λ (e : q.tag ≡ None). absurd (cc)) (λ (d : Has done x). d) (next.order x k t))
                r (removed.was r first.member) (λ e. removed.dropped (subst (λ (x : Receive). Has frees x) e first.member)) first.fit)
                back (record {
                  keeps = λ x i. ⊎_elim (λ (k : Has frees x). put.keeps x k) (λ (e : x ≡ q). subst (λ (y : Receive). Has back y) (sym e) put.added) (removed.keeps x i);
                  was = λ x i. ⊎_elim (λ (k : Has frees x). removed.was x k) (λ (e : x ≡ q). subst (λ (y : Receive). Has b.free y) (sym e) still_free) (put.cases x i);
                }));
            last = s.last;
          }

      -- none does
      pub settles_taken : (frees : List Receive) → DropsFrom b.free frees q → ((r : Receive) → Has frees r → envelopes_fit n r ≡ true → ⊥) → (t : Taker) (new : Takings) → t ≡ taker_of q → new ≡ with_taker b.messages place t
          → SettlesAmong after ms more (q ∷ done) more (record b { free = frees; messages = new })
      settles_taken frees removed misfit t new is made =
          let none = subst (λ (x : Message). (r : Receive) → Has frees r → envelopes_fit x r ≡ true → ⊥) stands_there misfit in
          let u = takes_at m q t b place (subst (λ (l : List Message). AreRising (λ (m : Message). m.name) l) (sym s.messages) s.rise) there still_waits (told_by m q (adds.own q c) settled offer.fit) is in
          subst (λ (x : Takings). SettlesAmong after ms more (q ∷ done) more (record b { free = frees; messages = x })) (sym made) (record {
            messages = s.messages;
            rise = s.rise;
            opened = s.opened;
            held = one_more _ _ _ _ (parts.settles_taken after ms qs more call adds s.held.messages_apart s.held.receives_apart q c settled m offer Done (λ n r k. next.keeps r k) _ _ _ _ s.held
                (parts.taken_free after ms qs more call adds s.held.messages_apart s.held.receives_apart q c settled m offer Done (λ n r k. next.keeps r k) _ _ _ _ s.held
                (λ r i not f. ⊎_elim (λ (k : Has frees r). none r k f) (λ (e : r ≡ q). not e) (removed.keeps r i)))
                _ frees _ u.0 removed u.1);
            last = s.last;
          })
