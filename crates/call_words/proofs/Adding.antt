-- One piece after another.
use Rattle.std.proofs.Common.{◌≡◌, ℕ, List, [], ◌++◌, ap, sym, ◌∙◌, append_assoc, append-nil, subst}
use Rattle.call_words.specs.declared.text.Text.{Text}
use Rattle.call_words.specs.Texts.{Adds}

-- nothing was added
pub nothing : (t : Text) → Adds t t []
nothing t = record { before = λ w. w; bytes = λ w. sym (append-nil t.bytes.items) }

-- two pieces in turn are one
pub then : {s t u : Text} {xs ys : List ℕ} → Adds s t xs → Adds t u ys → Adds s u (xs ++ ys)
then {s} {t} {u} {xs} {ys} p q = record {
  before = λ w. p.before (q.before w);
  bytes = λ w. q.bytes w ∙ ap (λ (l : List ℕ). l ++ ys) (p.bytes (q.before w)) ∙ append_assoc s.bytes.items xs ys;
}

-- what was added reads so
pub reads : {s t : Text} {xs ys : List ℕ} → Adds s t xs → xs ≡ ys → Adds s t ys
reads {s} {t} p e = subst (λ (l : List ℕ). Adds s t l) e p
