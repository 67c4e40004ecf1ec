use Rattle.std.proofs.Common.{◌≡◌, ◌∙◌, ◌∷◌, [], ℕ, List, Option, ap, codes}
use Rattle.json.specs.Token.{begin_array, key, string}
use Rattle.json.specs.Tree.{items_tokens, json_tokens}
use Rattle.mpi_model.specs.Communicators.{Communicator}
use Rattle.mpi_model.specs.declared.layout.comm.Stretch.{Stretch}
use Rattle.run_files.specs.Values.{entry_value, items_of, number_of}
use Rattle.text_layouts.proofs.Putting.{one, reads, then}
use Rattle.text_layouts.specs.Found.{name_value, object_word}
use Rattle.text_layouts.proofs.found.put_comm.Goals as goal

pub returns : goal.returns
returns c =
    let id : c.comm.inside.id ≡ c.args.comm.now.comm = ap (λ (g : Communicator). g.comm) c.comm.view_is in
    let sort : c.comm.inside.object ≡ c.args.comm.now.object = ap (λ (g : Communicator). g.object) c.comm.view_is in
    let told : c.comm.inside.numbers.items ≡ c.args.comm.now.numbers = ap (λ (g : Communicator). g.numbers) c.comm.view_is in
    let numbers : c.deref.result.now ≡ c.args.comm.now.numbers = cc in
    then (one c.in_ok-begin_object.ensures)
    (then (reads c.in_ok-put_number_field.ensures (ap (λ (n : ℕ). key (codes "id") ∷ json_tokens (number_of n)) id))
    (then (reads c.in_ok-put_string_field.ensures (ap (λ (word : List ℕ). key (codes "object") ∷ string word ∷ []) (c.object_word.ensures ∙ ap object_word sort)))
    (then (one c.in_ok-key.ensures)
    (then (reads c.in_ok-put_name.ensures (ap (λ (n : ℕ). json_tokens (name_value c.args.world n)) id))
    (then (reads c.in_ok-put_numbers_field.ensures (ap (λ (ms : List ℕ). key (codes "members") ∷ begin_array ∷ items_tokens (items_of number_of ms)) c.first_group.ensures))
    (then (reads c.in_ok-put_numbers_field-2.ensures (ap (λ (ms : List ℕ). key (codes "remote") ∷ begin_array ∷ items_tokens (items_of number_of ms)) c.second_group.ensures))
    (then (one c.in_ok-key-2.ensures)
    (then (reads c.in_ok-put_entries.ensures (ap (λ (es : List (Option Stretch)). begin_array ∷ items_tokens (items_of entry_value es)) numbers)) (one c.end_object.ensures)))))))))
