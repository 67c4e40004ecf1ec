use Rattle.std.proofs.Common.{◌∙◌, ap, sym, Bool, false, List, Option, Some}
use Rattle.std.proofs.lemmas.List.{map-set}
use Rattle.std.specs.Borrow.{Bor}
use Rattle.std.specs.Option.{option_map}
use Rattle.std.specs.Prelude.{is_none, slice_set}
use Rattle.mpi_model.specs.declared.message.Receive.{Receive}
use Rattle.trace_pair.specs.Coupled.{taker_of}
use Rattle.trace_pair.specs.declared.pair.Taker.{Taker}
use Rattle.trace_pair.proofs.taken_by.TakenBy.take.Goals as goal

pub returns-clause-taken : goal.returns-clause-taken
returns-clause-taken c =
    map-set (option_map (λ (q : Bor Receive). taker_of q.now)) c.self.inside.receives.items c.args.place (Some c.args.q)
    ∙ ap (λ (l : List (Option Taker)). slice_set l c.args.place (Some (taker_of c.args.q.now))) c.self.view_is

pub invariant_of-self-2 : goal.invariant_of-self-2
invariant_of-self-2 c =
    ap (λ (l : List Bool). slice_set l c.args.place false) c.self.invariant
    ∙ sym (map-set (is_none {T = Bor Receive}) c.self.inside.receives.items c.args.place (Some c.args.q))
