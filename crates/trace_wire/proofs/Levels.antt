-- Levels of joined knowledge.
use Rattle.std.proofs.Common.{◌≡◌, List, [], ◌∷◌, ◌++◌, sym, ap, ◌∙◌}
use Rattle.std.specs.FinMap.{empty}
use Rattle.trace_know.specs.View.{View, join}
use Rattle.trace_wire.specs.declared.packed.joining.Level.{Level}
use Rattle.trace_wire.specs.Joining.{joined}

module _ (associative : (a b c : View) → join (join a b) c ≡ join a (join b c)) (commutative : (a b : View) → join a b ≡ join b a) (unit : (a : View) → join a empty ≡ a) where
  pub joined_last : (levels : List Level) (l : Level) → joined (levels ++ l ∷ []) ≡ join (joined levels) l.know
  joined_last [] l = commutative l.know empty
  joined_last (m ∷ levels) l = ap (join m.know) (joined_last levels l) ∙ sym (associative m.know (joined levels) l.know)

  -- the last level was joined to what follows
  pub joined_down : (old new : List Level) (l : Level) (top more : View) → old ≡ new ++ l ∷ [] → more ≡ join l.know top → join (joined new) more ≡ join (joined old) top
  joined_down old new l top more is e =
      ap (join (joined new)) e ∙ sym (associative (joined new) l.know top) ∙ ap (λ (v : View). join v top) (sym (ap joined is ∙ joined_last new l))

  -- no level is left
  pub joined_all : (levels : List Level) (top : View) → levels ≡ [] → join (joined levels) top ≡ top
  joined_all levels top is = ap (λ (ls : List Level). join (joined ls) top) is ∙ commutative empty top ∙ unit top
