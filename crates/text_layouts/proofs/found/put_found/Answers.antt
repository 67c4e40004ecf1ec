use Rattle.std.proofs.Common.{◌∷◌, List, ap}
use Rattle.json.specs.Token.{begin_array}
use Rattle.json.specs.Tree.{items_tokens}
use Rattle.mpi_model.specs.Communicators.{Communicator}
use Rattle.comm_makings.specs.declared.answer.LeftOut.{LeftOut}
use Rattle.run_files.specs.Values.{items_of}
use Rattle.text_layouts.proofs.Putting.{one, reads, then}
use Rattle.text_layouts.specs.Found.{comm_value, left_value}
use Rattle.text_layouts.proofs.found.put_found.Goals as goal

pub returns : goal.returns
returns c =
    let made = c.args.made.now in
    then (one c.in_ok-begin_object.ensures)
    (then c.in_ok-put_number_field.ensures
    (then c.in_ok-put_counts.ensures
    (then c.in_ok-put_bool_field.ensures
    (then c.in_ok-put_numbers_field.ensures
    (then (one c.in_ok-key.ensures)
    (then (reads c.in_ok-put_comms.ensures (ap (λ (comms : List Communicator). begin_array ∷ items_tokens (items_of (comm_value made.derived.world) comms)) c.deref.ensures.value))
    (then (one c.in_ok-key-2.ensures)
    (then (reads c.in_ok-put_left_out.ensures (ap (λ (left_out : List LeftOut). begin_array ∷ items_tokens (items_of left_value left_out)) c.deref-2.ensures.value))
    (then c.in_ok-put_string_field.ensures
    (then c.in_ok-put_string_field-2.ensures (one c.end_object.ensures)))))))))))
