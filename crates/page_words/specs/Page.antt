-- A page around its value.
use Rattle.std.specs.Prelude.{◌≡◌, ℕ, Bool, true, not, List, [], ◌∷◌, ◌++◌, ◌==◌, codes, flat_map, if◌then◌else◌}
use Rattle.std.specs.List.{list_all}
use Rattle.page_words.specs.declared.template.TheConstants.{HEAD, TAIL}

-- what stands in a page for a byte of its value: for `<` the escape that JSON has for it, and else the byte
abbrev pub escape_of : ℕ → List ℕ
escape_of byte = if byte == 60 then codes "\\u003c" else byte ∷ []

-- a JSON text as it stands in a page
abbrev pub escaped : List ℕ → List ℕ
escaped json = flat_map escape_of json

-- whether no byte of a text is `<`
abbrev pub is_free_of_markup : List ℕ → Bool
is_free_of_markup text = list_all (λ byte. not (byte == 60)) text

-- No `<` of a JSON text stands in its page, so nothing of it ends the element in which it stands.
abbrev pub MarkupStaysOut : Type 0
MarkupStaysOut = (json : List ℕ) → is_free_of_markup (escaped json) ≡ true

-- a JSON text between the two parts of a template
abbrev pub page_between : List ℕ → List ℕ → List ℕ → List ℕ
page_between head json tail = head ++ escaped json ++ tail

-- the page of a JSON text
abbrev pub page_around : List ℕ → List ℕ
page_around json = page_between HEAD.now json TAIL.now
