-- What a text that is looked at once more begins with, and the value that it has for a parameter.
use Rattle.std.specs.Prelude.{◌≡◌, ℕ, List, Option, Some, None, Vec}
use Rattle.std.specs.declared.alloc.Global.{Global}
use Rattle.text_notes.specs.Starts.{IsStartOf}
use Rattle.text_notes.specs.Values.{IsValueAt}
use Rattle.text_notes.specs.declared.start.Start.{Start}

-- a text that was looked at begins so
abbrev pub BeginsSo : Option (List ℕ) → Option Start → Type 0
BeginsSo text None = Unit {0}
BeginsSo text (Some start) = IsStartOf text start

-- A value that a text was found to have for a parameter of a call is the one that it has.
abbrev pub HasValueSo : Option (List ℕ) → ℕ → List ℕ → Option (Vec ℕ Global) → Type 0
HasValueSo text line name None = Unit {0}
HasValueSo text line name (Some value) = IsValueAt text line name (Some value.items)
