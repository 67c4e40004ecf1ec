use Rattle.std.proofs.Common.{◌∙◌, ◌++◌, List, ℕ, Vec, ap, drop, length}
use Rattle.std.specs.declared.alloc.Global.{Global}
use Rattle.mpi_model.specs.Held.{ids_by, listed}
use Rattle.mpi_model.proofs.Held.{front, ids_once}
use Rattle.mpi_model.proofs.layout.held.held_in.Goals as goal

pub returns : goal.returns
returns c = λ rank.
    let lists = c.add_all.new.lists in
    let empty = ap (λ (l : List (Vec ℕ Global)). listed l rank) c.deref_mut.ensures.value ∙ c.in_ok-lists.ensures.empty rank in
    ap (λ (l : List (Vec ℕ Global)). listed l rank) (front lists (drop (length lists) c.in_ok-lists.lists.items) c.in_ok-lists.lists.len (c.add_all.auto.lists ∙ c.deref_mut.ensures.len))
    ∙ c.in_ok-add_all.ensures rank ∙ ap (λ (l : List ℕ). l ++ ids_by rank c.args.comms.now) empty ∙ ids_once c.args.ranks rank c.args.comms.now c.requires
