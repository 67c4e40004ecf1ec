-- What is added to a text.
use Rattle.std.specs.Prelude.{◌≡◌, ℕ, true, List, ◌++◌}
use Rattle.call_words.specs.declared.text.Text.{Text}

-- The new text is the old one with this at its end, where it is whole.
pub record Adds (old new : Text) (piece : List ℕ) : Type 0 where
  pub before : new.is_whole ≡ true → old.is_whole ≡ true
  pub bytes : new.is_whole ≡ true → new.bytes.items ≡ old.bytes.items ++ piece
