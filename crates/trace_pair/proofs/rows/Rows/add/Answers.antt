use Rattle.std.proofs.Common.{◌≡◌, ◌∙◌, ◌++◌, [], ap, sym, cond, true, false, Option, Some, None, ◌&&◌}
use Rattle.std.proofs.lemmas.List.{append-nil}
use Rattle.std.specs.Prelude.{is_none}
use Rattle.std.specs.List.{cons_option}
use Rattle.std.specs.Option.{option_map}
use Rattle.mpi_model.specs.declared.message.Receive.{Receive}
use Rattle.trace_pair.specs.After.{comes_after}
use Rattle.trace_pair.specs.Table.{fits_open, is_postponed, pair_of}
use Rattle.trace_pair.specs.declared.pair.Pair.{Pair}
use Rattle.trace_pair.proofs.rows.Rows.add.Goals as goal

pub returns-in_ok-put-in-Some-clause-pairs : goal.returns-in_ok-put-in-Some-clause-pairs
returns-in_ok-put-in-Some-clause-pairs c = λ ms qs held i.
    c.in_ok-put-in-Some.ensures.pairs
    ∙ ap (λ (o : Option Pair). c.args.self.now.pairs ++ cons_option o []) (ap (λ (p : Pair). Some p) c.make_pair.ensures ∙ ap (option_map (pair_of c.args.m.now)) (c.in-Some.ensures (comes_after c.args.reaches.now) ms qs held i))

pub returns-in_ok-put-in-Some-clause-postponed : goal.returns-in_ok-put-in-Some-clause-postponed
returns-in_ok-put-in-Some-clause-postponed c = λ ms qs held i.
    let p : is_postponed (comes_after c.args.reaches.now) ms qs c.args.m.now ≡ false = ap (λ (o : Option Receive). is_none o && fits_open (comes_after c.args.reaches.now) qs c.args.m.now) (sym (c.in-Some.ensures (comes_after c.args.reaches.now) ms qs held i)) in
    c.in_ok-put-in-Some.ensures.postponed ∙ sym (append-nil c.args.self.now.postponed) ∙ ap (λ b. c.args.self.now.postponed ++ cons_option (cond b (Some c.args.m.now.name) None) []) (sym p)

pub returns-in_ok-postpone-in-None-clause-pairs : goal.returns-in_ok-postpone-in-None-clause-pairs
returns-in_ok-postpone-in-None-clause-pairs c = λ ms qs held i.
    c.in_ok-postpone-in-None.ensures.pairs ∙ sym (append-nil c.args.self.now.pairs)
    ∙ ap (λ (o : Option Receive). c.args.self.now.pairs ++ cons_option (option_map (pair_of c.args.m.now) o) []) (c.in-None.ensures (comes_after c.args.reaches.now) ms qs held i)

pub returns-else-does_open_fit-clause-pairs : goal.returns-else-does_open_fit-clause-pairs
returns-else-does_open_fit-clause-pairs c = λ ms qs held i.
    sym (append-nil c.args.self.now.pairs) ∙ ap (λ (o : Option Receive). c.args.self.now.pairs ++ cons_option (option_map (pair_of c.args.m.now) o) []) (c.in-None.ensures (comes_after c.args.reaches.now) ms qs held i)

pub returns-in_ok-postpone-in-None-clause-postponed : goal.returns-in_ok-postpone-in-None-clause-postponed
returns-in_ok-postpone-in-None-clause-postponed c = λ ms qs held i.
    let u = c.if-does_open_fit.ensures ms qs held in
    let p : is_postponed (comes_after c.args.reaches.now) ms qs c.args.m.now ≡ true = ap (λ (o : Option Receive). is_none o && fits_open (comes_after c.args.reaches.now) qs c.args.m.now) (sym (c.in-None.ensures (comes_after c.args.reaches.now) ms qs held i)) ∙ sym u in
    c.in_ok-postpone-in-None.ensures.postponed ∙ ap (λ b. c.args.self.now.postponed ++ cons_option (cond b (Some c.args.m.now.name) None) []) (sym p)

pub returns-else-does_open_fit-clause-postponed : goal.returns-else-does_open_fit-clause-postponed
returns-else-does_open_fit-clause-postponed c = λ ms qs held i.
    let u = c.if-does_open_fit.ensures ms qs held in
    let p : is_postponed (comes_after c.args.reaches.now) ms qs c.args.m.now ≡ false = ap (λ (o : Option Receive). is_none o && fits_open (comes_after c.args.reaches.now) qs c.args.m.now) (sym (c.in-None.ensures (comes_after c.args.reaches.now) ms qs held i)) ∙ sym u in
    sym (append-nil c.args.self.now.postponed) ∙ ap (λ b. c.args.self.now.postponed ++ cons_option (cond b (Some c.args.m.now.name) None) []) (sym p)
