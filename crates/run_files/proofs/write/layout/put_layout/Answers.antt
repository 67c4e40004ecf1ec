use Rattle.std.proofs.Common.{◌∷◌, [], ℕ, List, ap, codes}
use Rattle.json.specs.Token.{key, string}
use Rattle.run_files.proofs.Putting.{one, reads, then}
use Rattle.run_files.proofs.write.layout.put_layout.Goals as goal

pub returns : goal.returns
returns c =
    then (one c.in_ok-begin_object.ensures)
    (then c.in_ok-put_number_field.ensures
    (then c.in_ok-put_number_field-2.ensures
    (then (reads c.in_ok-put_string_field.ensures (ap (λ (word : List ℕ). key (codes "sends") ∷ string word ∷ []) c.sends_word.ensures))
    (then (one c.in_ok-key.ensures) (then c.in_ok-put_comms.ensures (one c.end_object.ensures))))))
