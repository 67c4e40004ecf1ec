use Rattle.std.proofs.Common.{rules, ◌≡◌, ◌++◌, codes, decimal}
use Rattle.std.specs.Io.KnownBytes.{Appends}
use Rattle.std.proofs.lemmas.Result.{on_err_weaker}
use Rattle.run_inputs.specs.Writing.{AppendsFront}
use Rattle.command_runs.proofs.Nodes.{front_after, front_before, on_err}
use Rattle.command_runs.proofs.verbs.replay.write_line.Goals as goal

pub returns-in_err-write_piece-clause-err : goal.returns-in_err-write_piece-clause-err
returns-in_err-write_piece-clause-err g c =
    on_err c.from_residual.result (front_before _ _ (codes "node ") (decimal c.args.n ++ codes "\n") c.in_err-write_piece.ensures.err)

pub returns-in_err-write_piece-2-clause-err : goal.returns-in_err-write_piece-2-clause-err
returns-in_err-write_piece-2-clause-err g c =
    let is : c.as_bytes.result.now ≡ decimal c.args.n = search rules in
    let number : AppendsFront (g.W.Write.written c.write_piece.new.out) (g.W.Write.written c.write_piece-2.new.out) (decimal c.args.n) = rw is at c.in_err-write_piece-2.ensures.err in
    on_err c.from_residual-in_err-write_piece-2.result (front_after _ _ _ (codes "node ") (decimal c.args.n ++ codes "\n") c.in_ok-write_piece.ensures.ok
    (front_before _ _ (decimal c.args.n) (codes "\n") number))

pub returns-clause-err : goal.returns-clause-err
returns-clause-err g c =
    let is : c.as_bytes.result.now ≡ decimal c.args.n = search rules in
    let number : Appends (g.W.Write.written c.write_piece.new.out) (g.W.Write.written c.write_piece-2.new.out) (decimal c.args.n) = rw is at c.in_ok-write_piece-2.ensures.ok in
    on_err_weaker c.write_piece-3.result (λ h. front_after _ _ _ (codes "node ") (decimal c.args.n ++ codes "\n") c.in_ok-write_piece.ensures.ok
    (front_after _ _ _ (decimal c.args.n) (codes "\n") number h)) c.write_piece-3.ensures.err
