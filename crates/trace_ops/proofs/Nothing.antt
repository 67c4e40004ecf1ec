-- Before a rank's steps are gone through nothing is gathered.
use Rattle.std.proofs.Common.{◌≡◌, ℕ, Bool, true, false, List, [], ◌∷◌, ◌++◌, drop, take, length, reverse, refl, sym, ◌∙◌, subst, ap, arith, append_assoc}
use Rattle.std.specs.Prelude.{ℤ, Option, None, is_some, if◌then◌else◌}
use Rattle.std.specs.List.{AllByRecursion}
use Rattle.std.specs.Option.{option_map}
use Rattle.std.proofs.lemmas.Grind.{reverse_onto}
use Rattle.std.proofs.lemmas.List.{append-nil, drop_all}
use Rattle.mpi_model.specs.Layouts.{Parts}
use Rattle.trace_ops.specs.declared.ops.gather.Gathered.{Gathered}
use Rattle.trace_ops.specs.declared.held.Init.{Init as Lent}
use Rattle.trace_ops.specs.declared.touched.Touch.{Touch}
use Rattle.trace_ops.specs.Calls.{Entry}
use Rattle.trace_ops.specs.Gathered.{IsGathered}
use Rattle.trace_ops.specs.Held.{Holds, changes_hold, held_in, hold_by, plain_init}
use Rattle.trace_ops.specs.Request.{is_init, is_start}
use Rattle.trace_ops.specs.Source.{told_in}
use Rattle.trace_ops.specs.Steps.{Step, steps_at, steps_from, whole}
use Rattle.trace_ops.specs.Tables.{kept_of}
use Rattle.trace_ops.specs.Touched.{Follows, end_of, ended_at, is_marked, is_void_end, tellings_of}

-- of no steps nothing is kept
follows_none : (calls : List Entry) (kept : ℤ → Option Touch) → ((x : ℤ) → kept x ≡ None) → Follows calls [] kept
follows_none calls kept none = record {
  ended = λ x. ap (λ (t : Option Touch). is_some (end_of t)) (none x);
  by = λ x. ap (λ (t : Option Touch). ended_at calls (end_of t)) (none x);
  cancelled = λ x. ap (λ (t : Option Touch). is_marked t) (none x);
  void = λ x. ap (λ (t : Option Touch). is_void_end (end_of t)) (none x);
  told = λ members x. ap (λ (t : Option Touch). told_in members x (tellings_of calls (end_of t))) (none x);
}

-- empty lists have what no steps tell
pub gathered_none : (layout : Parts) (rank : ℕ) (calls : List Entry) (g : Gathered) → g.sends.items ≡ [] → g.receives.items ≡ [] → g.rounds.items ≡ [] →
    g.active.items ≡ [] → g.cancelled.items ≡ [] → g.foreign ≡ 0 → g.given_back ≡ false → ((x : ℤ) → kept_of g.touched x ≡ None) →
    IsGathered layout rank calls [] g
gathered_none layout rank calls g sends receives rounds active cancelled foreign given_back none = record {
  sends = ap reverse sends;
  receives = ap reverse receives;
  rounds = ap reverse rounds;
  active = ap reverse active;
  cancelled = ap reverse cancelled;
  foreign = foreign;
  given_back = given_back;
  touched = follows_none calls (kept_of g.touched) none;
}

-- no step is behind all calls
pub gathered_first : (layout : Parts) (rank : ℕ) (calls : List Entry) (g : Gathered) (n : ℕ) → n ≡ length calls → IsGathered layout rank calls [] g →
    IsGathered layout rank calls (steps_from (reverse (take n calls)) (drop n calls)) g
gathered_first layout rank calls g n all none =
    subst (λ (l : List Entry). IsGathered layout rank calls (steps_from (reverse (take n calls)) l) g) (sym (drop_all n calls (omega (arith, all)))) none

-- None of these calls is an init.
abbrev pub HaveNoInit : List Entry → Type 0
HaveNoInit calls = AllByRecursion (λ c. is_init c.call ≡ false) calls

-- where none of these calls is an init, none holds a number behind them
none_behind : (calls before : List Entry) → HaveNoInit calls → ((x : ℤ) → held_in before x ≡ None) → (x : ℤ) → held_in (reverse calls ++ before) x ≡ None
none_behind [] before none h x = h x
none_behind (c ∷ calls) before none h x =
    ap (λ (l : List Entry). held_in l x) (ap (λ (l : List Entry). l ++ before) (reverse_onto calls c []) ∙ append_assoc (reverse calls) (c ∷ []) before)
    ∙ none_behind calls (c ∷ before) none.1 one x
  where
    one : (y : ℤ) → held_in (c ∷ before) y ≡ None
    one y = by (changes_hold y c)
      where
        by : (b : Bool) → (if b then hold_by (length before) c else held_in before y) ≡ None
        by true = rw none.0 refl
        by false = h y

-- Where none of all calls is an init, no number is held at the end.
pub holds_nothing : (calls : List Entry) (kept : ℤ → Option Lent) → HaveNoInit calls → ((x : ℤ) → kept x ≡ None) → Holds (reverse calls) kept
holds_nothing calls kept none k x = ap (option_map plain_init) (k x) ∙ sym (ap (λ (l : List Entry). held_in l x) (sym (append-nil (reverse calls))) ∙ none_behind calls [] none (λ y. refl) x)

-- a call that starts nothing of an init is one step
pub one_step : (before : List Entry) (n : ℕ) (c : Entry) → length before ≡ n → is_start c.call ≡ false → whole n c ∷ [] ≡ steps_at before c
one_step before n c count start = sym (rw start (ap (λ (k : ℕ). whole k c ∷ []) count))
