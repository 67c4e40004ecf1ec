use Rattle.std.proofs.Common.{◌∷◌, ◌++◌, [], ℕ, List, ap, codes, sym}
use Rattle.json.specs.Token.{Token, begin_object, key, string}
use Rattle.json.specs.Tree.{json_tokens}
use Rattle.run_files.specs.Values.{cut_tokens, number_of}
use Rattle.run_files.proofs.Putting.{cut_last, one, reads, then}
use Rattle.run_files.proofs.write.manifest.put_piece.Goals as goal

pub returns : goal.returns
returns c =
    reads (then (one c.in_ok-begin_object.ensures)
    (then (reads c.in_ok-put_number_field.ensures (ap (λ (n : ℕ). key (codes "rank") ∷ json_tokens (number_of n)) c.rank.ensures))
    (then (reads c.in_ok-put_number_field-2.ensures (ap (λ (n : ℕ). key (codes "first") ∷ json_tokens (number_of n)) c.first.ensures))
    (then (reads c.in_ok-put_string_field.ensures (ap (λ (file : List ℕ). key (codes "file") ∷ string file ∷ []) c.file.ensures))
    (then (reads c.in_ok-put_cut.ensures (ap cut_tokens c.is_cut.ensures)) (one c.end_object.ensures))))))
    (ap (λ (ts : List Token). begin_object ∷ key (codes "rank") ∷ json_tokens (number_of c.args.text.now.rank)
    ++ (key (codes "first") ∷ json_tokens (number_of c.args.text.now.first)
    ++ (key (codes "file") ∷ string c.args.text.now.file ∷ ts))) (sym (cut_last c.args.text.now.cut)))
