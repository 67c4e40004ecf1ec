use Rattle.std.proofs.Common.{◌≡◌, ◌∙◌, ◌∷◌, ◌++◌, ℕ, List, ap, codes, sym}
use Rattle.json.specs.Json.{array, member}
use Rattle.json.specs.Token.{Token, begin_array, begin_object, key}
use Rattle.json.specs.Tree.{items_tokens, json_tokens}
use Rattle.mpi_model.specs.declared.object.Object.{Object}
use Rattle.mpi_model.specs.Communicators.{Communicator, first_group}
use Rattle.run_files.specs.Values.{items_of, number_of, numbers_field, object_tokens, with_remote}
use Rattle.run_files.proofs.Objects.{object_first, remote_first}
use Rattle.run_files.proofs.Putting.{one, reads, then}
use Rattle.run_files.proofs.write.layout.put_comm.Goals as goal

pub returns : goal.returns
returns c =
    let g = c.args.comm.now in
    let id : c.comm.inside.id ≡ g.comm = ap (λ (h : Communicator). h.comm) c.comm.view_is in
    let sort : c.comm.inside.object ≡ g.object = ap (λ (h : Communicator). h.object) c.comm.view_is in
    let members = begin_array ∷ items_tokens (items_of number_of (first_group g)) in
    reads (then (one c.in_ok-begin_object.ensures)
    (then (reads c.in_ok-put_number_field.ensures (ap (λ (n : ℕ). key (codes "id") ∷ json_tokens (number_of n)) id))
    (then (reads c.in_ok-put_object.ensures (ap (λ (o : Object). object_tokens o) sort))
    (then (one c.in_ok-key.ensures)
    (then (reads c.in_ok-put_numbers.ensures (ap (λ (ms : List ℕ). begin_array ∷ items_tokens (items_of number_of ms)) c.first_group.ensures))
    (then c.in_ok-put_remote.ensures c.put_field.ensures))))))
    (ap (λ (ts : List Token). begin_object ∷ key (codes "id") ∷ json_tokens (number_of g.comm) ++ (object_tokens g.object ++ (key (codes "members") ∷ members ++ ts))) (sym (remote_first g (numbers_field g.numbers)))
    ∙ ap (λ (ts : List Token). begin_object ∷ key (codes "id") ∷ json_tokens (number_of g.comm) ++ ts) (sym (object_first g.object (member (codes "members") (array (items_of number_of (first_group g))) (with_remote g (numbers_field g.numbers))))))
