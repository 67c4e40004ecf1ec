-- No `<` of a value stands in its page.
use Rattle.std.proofs.Common.{◌≡◌, ◌∙◌, ◌&&◌, ◌==◌, ℕ, Bool, true, false, List, [], ◌∷◌, ap₂, codes, cond, refl}
use Rattle.std.proofs.lemmas.List.Folds.{list_all-append}
use Rattle.page_words.specs.Page.{escape_of, escaped, is_free_of_markup}

by_test : (byte : ℕ) (is : Bool) → (byte == 60) ≡ is → is_free_of_markup (cond is (codes "\\u003c") (byte ∷ [])) ≡ true
by_test byte true e = refl
by_test byte false e = rw e refl

of_byte : (byte : ℕ) → is_free_of_markup (escape_of byte) ≡ true
of_byte byte = by_test byte (byte == 60) refl

pub stays_out : (json : List ℕ) → is_free_of_markup (escaped json) ≡ true
stays_out [] = refl
stays_out (byte ∷ rest) =
    list_all-append _ (escape_of byte) (escaped rest) ∙ ap₂ (λ (a b : Bool). a && b) (of_byte byte) (stays_out rest)
