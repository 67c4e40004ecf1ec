use Rattle.std.proofs.Common.{◌∷◌, [], ℕ, List, ap, codes}
use Rattle.json.specs.Token.{key, string}
use Rattle.text_layouts.proofs.Putting.{one, reads, then}
use Rattle.text_layouts.proofs.found.put_left.Goals as goal

pub returns : goal.returns
returns c =
    then (one c.in_ok-begin_object.ensures)
    (then c.in_ok-put_number_field.ensures
    (then c.in_ok-put_number_field-2.ensures
    (then (reads c.in_ok-put_string_field.ensures (ap (λ (name : List ℕ). key (codes "function") ∷ string name ∷ []) c.function_text.ensures))
    (then (one c.in_ok-key.ensures)
    (then c.in_ok-put_given.ensures
    (then c.in_ok-put_number_field-3.ensures
    (then (reads c.in_ok-put_string_field-2.ensures (ap (λ (word : List ℕ). key (codes "why") ∷ string word ∷ []) c.why_word.ensures)) (one c.end_object.ensures))))))))
