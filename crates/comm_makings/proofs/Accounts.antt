-- What is made, written and left out, together.
use Rattle.std.proofs.Common.{◌≡◌, ◌⊎◌, ◌<◌, ◌++◌, ◌∙◌, ℕ, zero, suc, List, [], ◌∷◌, Option, Some, None, Vec, length, ap, sym, subst, refl, inl, inr, arith, add-one, option_map, option_and_then, unwrap_or}
use Rattle.std.specs.List.{Contains, cons_option, filter_map, flat_map, range_with_len, slice_get}
use Rattle.std.specs.declared.alloc.Global.{Global}
use Rattle.std.proofs.lemmas.Bool.{cases_lt}
use Rattle.std.proofs.lemmas.List.Elements.{Contains-append_left, Contains-append_right, Contains-push, filter_map-append}
use Rattle.std.proofs.lemmas.Option.{slice_get_within}
use Rattle.mpi_model.specs.Communicators.{Communicator}
use Rattle.comm_makings.specs.Derived.{AreAccounted, IsDerivedFrom, IsLeftOut, IsOfMade, IsSound}
use Rattle.comm_makings.specs.Here.{call_at, meant_at}
use Rattle.comm_makings.specs.Left.{calls_in, giving, is_known_to, left_at, left_in, left_out_of, left_with, why_left, why_open, with_handle}
use Rattle.comm_makings.specs.ObjectMakings.{AreObjects}
use Rattle.comm_makings.specs.State.{AreInterMembers, AreMembers, IsRight, standing_at}
use Rattle.comm_makings.specs.Uses.{AreAllCounted, count_at}
use Rattle.comm_makings.specs.Views.{AreViews}
use Rattle.comm_makings.specs.World.{world_of}
use Rattle.comm_makings.specs.Written.{IsWritten}
use Rattle.comm_makings.specs.declared.answer.Choice.{Choice}
use Rattle.comm_makings.specs.declared.answer.Derived.{Derived}
use Rattle.comm_makings.specs.declared.answer.LeftOut.{LeftOut}
use Rattle.comm_makings.specs.declared.answer.Why.{Why}
use Rattle.comm_makings.specs.declared.calls.CommCall.{CommCall}
use Rattle.comm_makings.specs.declared.calls.RankCalls.{RankCalls}
use Rattle.comm_makings.specs.declared.group_value.GroupValue.{GroupValue}
use Rattle.comm_makings.specs.declared.handle.Gives.TheVariants as gives
use Rattle.comm_makings.specs.declared.handle.Meant.{Meant}
use Rattle.comm_makings.specs.declared.left.Giver.{Giver}
use Rattle.comm_makings.specs.declared.state.HandleState.{HandleState}
use Rattle.comm_makings.specs.declared.state.HandleState.TheVariants as standings
use Rattle.comm_makings.specs.declared.state.Made.{Made}
use Rattle.comm_makings.specs.declared.state.Progress.{Progress}
use Rattle.comm_makings.specs.declared.uses.AllUses.{AllUses}
use Rattle.comm_makings.specs.declared.uses.HandleUses.{HandleUses}
use Rattle.comm_makings.specs.declared.view.RankView.{RankView}
use Rattle.comm_makings.proofs.Places.{numbers_joined, numbers_next}

-- what one of the first numbers gives stands in the list of what they give
given_in : {X : Type 0} (f : ℕ → Option X) (n k : ℕ) (x : X) → k < n → f k ≡ Some x → Contains (filter_map f (range_with_len 0 n)) x
given_in {X} f zero k x less e = absurd (omega arith)
given_in {X} f (suc n) k x less e =
    let before : List X = filter_map f (range_with_len 0 n) in
    let more : before ++ cons_option (f n) [] ≡ filter_map f (range_with_len 0 (suc n)) = sym (ap (filter_map f) (numbers_next n) ∙ filter_map-append f (range_with_len 0 n) (n ∷ [])) in
    subst (λ (l : List X). Contains l x) more (elim (cases_lt k n) [
      | inl below ↦ Contains-append_left before (cons_option (f n) []) x (given_in f n k x below e)
      | inr last ↦
          let same : k ≡ n = omega arith in
          let is : f n ≡ Some x = ap f (sym same) ∙ e in
          subst (λ (o : Option X). Contains (before ++ cons_option o []) x) (sym is) (Contains-push before x)
    ])

joined_in : {X : Type 0} (f : ℕ → List X) (n k : ℕ) (x : X) → k < n → Contains (f k) x → Contains (flat_map f (range_with_len 0 n)) x
joined_in {X} f zero k x less has = absurd (omega arith)
joined_in {X} f (suc n) k x less has =
    let before : List X = flat_map f (range_with_len 0 n) in
    subst (λ (l : List X). Contains l x) (numbers_joined f n ∙ ap (λ (m : ℕ). flat_map f (range_with_len 0 m)) (add-one n)) (elim (cases_lt k n) [
      | inl below ↦ Contains-append_left before (f n) x (joined_in f n k x below has)
      | inr last ↦
          let same : k ≡ n = omega arith in
          Contains-append_right before (f n) x (subst (λ (j : ℕ). Contains (f j) x) same has)
    ])

-- a call stands among those of its rank
rank_within : (ranks : List RankCalls) (rank at : ℕ) (call : CommCall) → call_at ranks rank at ≡ Some call → (rank < length ranks) × (at < calls_in ranks rank)
rank_within ranks rank at call e = of_some (slice_get ranks rank) refl e
  where
    of_some : (o : Option RankCalls) → slice_get ranks rank ≡ o → option_and_then (λ c. slice_get c.calls.items at) o ≡ Some call → (rank < length ranks) × (at < calls_in ranks rank)
    of_some None here e = absurd (cc)
    of_some (Some calls) here e =
        let within : at < length calls.calls.items = slice_get_within calls.calls.items at call e in
        let count : calls_in ranks rank ≡ length calls.calls.items = ap (λ (o : Option RankCalls). unwrap_or (option_map (λ c. length c.calls.items) o) 0) here in
        (slice_get_within ranks rank calls here, omega arith)

module _ (ranks : List RankCalls) (views : List RankView) (uses : List HandleUses) (made inters : List Made) (stand : List (Vec HandleState Global)) (members : AreMembers made stand) (sides : AreInterMembers inters stand) where
  module _ (rank at handle : ℕ) (call : CommCall) (giver : Giver) (meant : Meant) (called : call_at ranks rank at ≡ Some call) (gave : giving call.action ≡ Some giver)
      (means : meant_at views rank at ≡ Some meant) (given : meant.gives ≡ gives.Handle handle) where
    left_here : (why : Why) → why_left (standing_at stand rank handle) giver.made_by (is_known_to views rank at) ≡ Some why
        → left_at ranks views uses stand rank at ≡ Some (left_with uses rank call.call giver (with_handle handle why))
    left_here why e = rw (called, gave, means, given, e) refl

    listed : (why : Why) → why_left (standing_at stand rank handle) giver.made_by (is_known_to views rank at) ≡ Some why
        → IsLeftOut (left_out_of ranks views uses stand) rank call.call (count_at uses rank (Some handle))
    listed why e =
        let within = rank_within ranks rank at call called in
        let left : LeftOut = left_with uses rank call.call giver (with_handle handle why) in
        record {
          left = left;
          listed = joined_in (left_in ranks views uses stand) (length ranks) rank left within.0
              (given_in (left_at ranks views uses stand rank) (calls_in ranks rank) at left within.1 (left_here why e));
          of_rank = refl;
          of_call = refl;
          counted = refl;
        }

    by_standing : (o : Option HandleState) → standing_at stand rank handle ≡ o → IsOfMade made inters rank handle ⊎ IsLeftOut (left_out_of ranks views uses stand) rank call.call (count_at uses rank (Some handle))
    by_standing None e = inr (listed (why_open giver.made_by (is_known_to views rank at)) (ap (λ (s : Option HandleState). why_left s giver.made_by (is_known_to views rank at)) e))
    by_standing (Some standings.Open) e = inr (listed (why_open giver.made_by (is_known_to views rank at)) (ap (λ (s : Option HandleState). why_left s giver.made_by (is_known_to views rank at)) e))
    by_standing (Some (standings.Derived place)) e = inl (inl (place, members.each rank handle place e))
    by_standing (Some (standings.Inter place second)) e = inl (inr (place, second, sides.each rank handle place second e))
    by_standing (Some (standings.Left why)) e = inr (listed why (ap (λ (s : Option HandleState). why_left s giver.made_by (is_known_to views rank at)) e))

  pub accounted : AreAccounted ranks views uses made inters (left_out_of ranks views uses stand)
  accounted = record {
    each = λ rank at handle call giver meant called gave means given.
        by_standing rank at handle call giver meant called gave means given (standing_at stand rank handle) refl;
  }

pub derives : (choice : Choice) (ranks : List RankCalls) (views : List RankView) (uses : AllUses) (made inters objects all : List Made) (stand : List (Vec HandleState Global)) (values : List (Vec GroupValue Global)) (next : List Progress) (derived : Derived)
    → derived.world ≡ world_of ranks → AreViews (world_of ranks) ranks views → IsRight ranks views stand values made next inters → AreObjects ranks views made objects → AreAllCounted ranks views uses
    → all ≡ (made ++ inters) ++ objects → IsWritten choice (world_of ranks) (length ranks) views uses all derived.comms.items → derived.left_out.items ≡ left_out_of ranks views uses.comms.items stand → IsDerivedFrom choice ranks derived
derives choice ranks views uses made inters objects all stand values next derived world read right are counted both written left = record {
  views = views;
  uses = uses;
  made = made;
  inters = inters;
  objects = objects;
  standings = stand;
  world = world;
  read = read;
  counted = counted;
  derive = right.comms_derive;
  derive_inters = right.inters_derive;
  derive_objects = are;
  stand = right.handles_named;
  stand_inters = right.sides;
  written = subst (λ (l : List Made). IsWritten choice (world_of ranks) (length ranks) views uses l derived.comms.items) both written;
  left_out = left;
  accounted = subst (AreAccounted ranks views uses.comms.items made inters) (sym left) (accounted ranks views uses.comms.items made inters stand right.handles_named right.sides);
}

pub sounds : (choice : Choice) (ranks : List RankCalls) (views : List RankView) (uses : AllUses) (made inters objects all : List Made) (stand : List (Vec HandleState Global)) (values : List (Vec GroupValue Global)) (next : List Progress) (comms : List Communicator)
    → AreViews (world_of ranks) ranks views → IsRight ranks views stand values made next inters → AreObjects ranks views made objects → AreAllCounted ranks views uses
    → all ≡ (made ++ inters) ++ objects → IsWritten choice (world_of ranks) (length ranks) views uses all comms → IsSound choice (world_of ranks) ranks comms
sounds choice ranks views uses made inters objects all stand values next comms read right are counted both written = record {
  views = views;
  uses = uses;
  made = made;
  inters = inters;
  objects = objects;
  read = read;
  counted = counted;
  derive = right.comms_derive;
  derive_inters = right.inters_derive;
  derive_objects = are;
  written = subst (λ (l : List Made). IsWritten choice (world_of ranks) (length ranks) views uses l comms) both written;
}
