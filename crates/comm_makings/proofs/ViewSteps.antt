-- What the ranks called, one rank after the other.
use Rattle.std.proofs.Common.{◌≡◌, ◌≤◌, ℕ, ◌+◌, ◌++◌, List, [], ◌∷◌, Some, length, ap, ◌∙◌, sym, inl, inr, subst, arith, length-append}
use Rattle.std.specs.List.{slice_get}
use Rattle.comm_makings.specs.Views.{AreViews, IsView}
use Rattle.comm_makings.specs.declared.calls.RankCalls.{RankCalls}
use Rattle.comm_makings.specs.declared.view.RankView.{RankView}
use Rattle.comm_makings.proofs.Lists.{get_more}

-- the views of the first ranks
pub record AreViewsTo (world : ℕ) (ranks : List RankCalls) (views : List RankView) (count : ℕ) : Type 0 where
  pub same : length views ≡ count
  pub each : (rank : ℕ) (view : RankView) (calls : RankCalls) → slice_get views rank ≡ Some view → slice_get ranks rank ≡ Some calls → IsView world calls view

pub views_none : (world : ℕ) (ranks : List RankCalls) → AreViewsTo world ranks [] 0
views_none world ranks = record { same = omega arith; each = λ rank view calls e f. absurd (cc) }

pub views_more : (world : ℕ) (ranks : List RankCalls) (views : List RankView) (count : ℕ) (calls : RankCalls) (view : RankView) → AreViewsTo world ranks views count
    → slice_get ranks count ≡ Some calls → IsView world calls view → AreViewsTo world ranks (views ++ view ∷ []) (count + 1)
views_more world ranks views count calls view are here is = record {
  same = omega (arith, length-append views (view ∷ []), are.same);
  each = λ rank v c e f. elim (get_more views view rank v e) [
    | inl before ↦ are.each rank v c before f
    | inr last ↦
        let at : Some c ≡ Some calls = sym f ∙ ap (slice_get ranks) (last.0 ∙ are.same) ∙ here in
        let same : calls ≡ c = cc in
        subst (λ (q : RankCalls). IsView world q v) same (subst (IsView world calls) (sym last.1) is)
  ];
}

pub views_all : (world : ℕ) (ranks : List RankCalls) (views : List RankView) (count : ℕ) → AreViewsTo world ranks views count → count ≤ length ranks → length ranks ≤ count
    → AreViews world ranks views
views_all world ranks views count are most least = record { same = omega (arith, are.same); each = are.each }
