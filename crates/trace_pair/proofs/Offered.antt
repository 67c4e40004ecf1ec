-- All messages with what takes each, as a receive asks for one and takes it.
use Rattle.std.proofs.Common.{subst, ◌≡◌, ℕ, suc, Bool, true, List, [], ◌∷◌, sym, refl, ◌∙◌, ap, cond, Option, Some, None, length}
use Rattle.std.proofs.lemmas.List.{length-set}
use Rattle.std.specs.Prelude.{replicate, is_some, slice_set, IfSome}
use Rattle.std.specs.Ordering.{is_eq}
use Rattle.mpi_model.specs.declared.message.Message.{Message}
use Rattle.mpi_model.specs.declared.message.Receive.{Receive}
use Rattle.trace_pair.specs.KeyOrders.{Queue, queue_cmp, queue_of, Lane, lane_cmp, lane_of}
use Rattle.trace_pair.specs.Rising.{AreRising}
use Rattle.trace_pair.specs.Waiting.{from_waiting, places_at, sole_or_first, ArePlaces, ArePlain, AreTakings, IsSolePlace, Keyed}
use Rattle.trace_pair.specs.declared.pair.Taker.{Taker}
use Rattle.trace_pair.proofs.Orders.{exact_lanes, exact_queues, lanes_total, queues_total}
use Rattle.trace_pair.proofs.Queued.{queue, lane, queue_fits, fits_queue, lane_fits, fits_lane}
use Rattle.trace_pair.proofs.Waited.{places_passed, places_with}
use Rattle.trace_pair.proofs.SolePlaces.{IsLine, line_at, sole_if_first, sole_in}

abbrev nones : List Message → List (Option Taker)
nones ms = replicate (length ms) None

length_none : (ms : List Message) → length (nones ms) ≡ length ms
length_none [] = refl
length_none (m ∷ ms) = ap suc (length_none ms)

pub new_takings : (ms : List Message) (marked : Bool) → (marked ≡ true → ArePlain ms) → (ts : List (Option Taker)) (queues : Keyed Queue) → AreRising (λ (m : Message). m.name) ms → ts ≡ replicate (length ms) None → ((us : List (Option Taker)) → ArePlaces queue_cmp queue_of ms us queues) → AreTakings ms marked ts queues None
new_takings ms marked plain ts queues rise e placed = record { rise = rise; plain = plain; many = ap (λ (l : List (Option Taker)). length l) e ∙ length_none ms; queued = placed ts; laned = tt }

module _ (ms : List Message) (marked : Bool) (ts : List (Option Taker)) (queues : Keyed Queue) (lanes : Option (Keyed Lane)) (are : AreTakings ms marked ts queues lanes) where
  pub queue_passed : (new : Keyed Queue) (key : Queue) (us : List (Option Taker)) → us ≡ ts →
      ((k : Queue) → places_at queue_cmp new k ≡ cond (is_eq (queue_cmp key k)) (from_waiting us (places_at queue_cmp queues k)) (places_at queue_cmp queues k)) → AreTakings ms marked ts new lanes
  queue_passed new key us e law = record {
    rise = are.rise;
    many = are.many;
    plain = are.plain;
    queued = places_passed queues_total exact_queues queue_of ms ts queues new key are.queued
        (subst (λ (vs : List (Option Taker)). (k : Queue) → places_at queue_cmp new k ≡ cond (is_eq (queue_cmp key k)) (from_waiting vs (places_at queue_cmp queues k)) (places_at queue_cmp queues k)) e law);
    laned = are.laned;
  }

  pub lane_passed : (made new : Keyed Lane) (key : Lane) (us : List (Option Taker)) → us ≡ ts → ArePlaces lane_cmp lane_of ms ts made →
      ((k : Lane) → places_at lane_cmp new k ≡ cond (is_eq (lane_cmp key k)) (from_waiting us (places_at lane_cmp made k)) (places_at lane_cmp made k)) → AreTakings ms marked ts queues (Some new)
  lane_passed made new key us e placed law = record {
    rise = are.rise;
    many = are.many;
    plain = are.plain;
    queued = are.queued;
    laned = places_passed lanes_total exact_lanes lane_of ms ts made new key placed
        (subst (λ (vs : List (Option Taker)). (k : Lane) → places_at lane_cmp new k ≡ cond (is_eq (lane_cmp key k)) (from_waiting vs (places_at lane_cmp made k)) (places_at lane_cmp made k)) e law);
  }

  -- a message more is taken
  pub takings_with : (us : List (Option Taker)) (place : ℕ) (t : Taker) → us ≡ slice_set ts place (Some t) → AreTakings ms marked us queues lanes
  takings_with us place t e = subst (λ (vs : List (Option Taker)). AreTakings ms marked vs queues lanes) (sym e) (record {
    rise = are.rise;
    many = length-set ts place (Some t) ∙ are.many;
    plain = are.plain;
    queued = places_with queue_cmp queue_of ms ts place t queues are.queued;
    laned = lanes_with lanes are.laned;
  })
    where
      lanes_with : (had : Option (Keyed Lane)) → IfSome had (ArePlaces lane_cmp lane_of ms ts) → IfSome had (ArePlaces lane_cmp lane_of ms (slice_set ts place (Some t)))
      lanes_with None h = tt
      lanes_with (Some made) h = places_with lane_cmp lane_of ms ts place t made h

  -- the lanes that there were, or new ones
  pub lanes_made : (had : Option (Keyed Lane)) (made : Keyed Lane) (ns : List Message) → had ≡ lanes → ns ≡ ms →
      ((us : List (Option Taker)) → IfSome had (ArePlaces lane_cmp lane_of ns us) → ArePlaces lane_cmp lane_of ns us made) → ArePlaces lane_cmp lane_of ms ts made
  lanes_made had made ns e f law =
      subst (λ (l : List Message). ArePlaces lane_cmp lane_of l ts made) f
      (law ts (subst (λ (o : Option (Keyed Lane)). IfSome o (ArePlaces lane_cmp lane_of ns ts)) (sym e)
      (subst (λ (l : List Message). IfSome lanes (ArePlaces lane_cmp lane_of l ts)) (sym f) are.laned)))

  -- the place that is told in a line
  told_in : (q : Receive) → is_some q.source ≡ true → (ps : List ℕ) → IsLine ms ts q ps → (ns : List Message) (us : List (Option Taker)) (o : Option ℕ) → ns ≡ ms → us ≡ ts → (line : List (Option Taker) → List ℕ) → ps ≡ line ts
      → o ≡ sole_or_first marked ns us (line us) → IsSolePlace (record { messages = ms; takers = ts }) q o
  told_in q told ps is ns us o d e line f sole =
      sole_in ms ts are.rise q told ps is o
      (sole ∙ ap (λ (l : List Message). sole_or_first marked l us (line us)) d ∙ ap (λ (vs : List (Option Taker)). sole_or_first marked ms vs (line vs)) e
      ∙ ap (λ (l : List ℕ). sole_or_first marked ms ts l) (sym f) ∙ sole_if_first ms ts are.rise marked are.plain q told ps is)

  pub sole_in_queue : (q : Receive) (s t : ℕ) (ns : List Message) (us : List (Option Taker)) (o : Option ℕ) → ns ≡ ms → us ≡ ts → q.source ≡ Some s → q.tag ≡ Some t
      → o ≡ sole_or_first marked ns us (from_waiting us (places_at queue_cmp queues (queue q.comm s q.at t))) → IsSolePlace (record { messages = ms; takers = ts }) q o
  sole_in_queue q s t ns us o d e source tag sole =
      let ps = places_at queue_cmp queues (queue q.comm s q.at t) in
      told_in q (ap (λ (x : Option ℕ). is_some x) source) (from_waiting ts ps)
      (line_at queue_cmp queue_of ms ts queues are.queued q (queue q.comm s q.at t) (λ m f. queue_fits q s t m source tag f) (λ m k. fits_queue q s t m source tag k))
      ns us o d e (λ (vs : List (Option Taker)). from_waiting vs ps) refl sole

  pub sole_in_lane : (made : Keyed Lane) → ArePlaces lane_cmp lane_of ms ts made → (q : Receive) (s : ℕ) (ns : List Message) (us : List (Option Taker)) (o : Option ℕ) → ns ≡ ms → us ≡ ts → q.source ≡ Some s → q.tag ≡ None
      → o ≡ sole_or_first marked ns us (from_waiting us (places_at lane_cmp made (lane q.comm s q.at))) → IsSolePlace (record { messages = ms; takers = ts }) q o
  sole_in_lane made placed q s ns us o d e source tag sole =
      let ps = places_at lane_cmp made (lane q.comm s q.at) in
      told_in q (ap (λ (x : Option ℕ). is_some x) source) (from_waiting ts ps)
      (line_at lane_cmp lane_of ms ts made placed q (lane q.comm s q.at) (λ m f. lane_fits q s m source f) (λ m k. fits_lane q s m source tag k))
      ns us o d e (λ (vs : List (Option Taker)). from_waiting vs ps) refl sole
