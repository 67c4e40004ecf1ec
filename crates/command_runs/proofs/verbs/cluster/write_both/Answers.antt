use Rattle.std.proofs.Common.{◌++◌, ℕ, List, refl}
use Rattle.std.proofs.lemmas.Result.{on_err_weaker, on_ok_weaker}
use Rattle.command_runs.specs.Replays.{node_text}
use Rattle.command_runs.proofs.Nodes.{appends_both, front_after, front_before, on_err}
use Rattle.command_runs.proofs.verbs.cluster.write_both.Goals as goal

pub returns-in_err-write_node-clause-err : goal.returns-in_err-write_node-clause-err
returns-in_err-write_node-clause-err g c =
    let first : List ℕ = node_text 0 c.args.one.now in
    let rest : List ℕ = node_text 1 c.args.other.now ++ c.equal_line-line.result.now in
    on_err c.from_residual.result (first ++ rest, (c.equal_line-line.result.now, c.equal_line-line.ensures, refl), front_before _ _ first rest c.in_err-write_node.ensures.err)

pub returns-in_err-write_node-2-clause-err : goal.returns-in_err-write_node-2-clause-err
returns-in_err-write_node-2-clause-err g c =
    let first : List ℕ = node_text 0 c.args.one.now in
    let second : List ℕ = node_text 1 c.args.other.now in
    let line : List ℕ = c.equal_line-line.result.now in
    on_err c.from_residual-in_err-write_node-2.result (
      first ++ (second ++ line),
      (line, c.equal_line-line.ensures, refl),
      front_after _ _ _ first (second ++ line) c.in_ok-write_node.ensures.ok (front_before _ _ second line c.in_err-write_node-2.ensures.err),
    )

pub returns-clause-ok : goal.returns-clause-ok
returns-clause-ok g c =
    let first : List ℕ = node_text 0 c.args.one.now in
    let second : List ℕ = node_text 1 c.args.other.now in
    let line : List ℕ = c.equal_line-line.result.now in
    on_ok_weaker c.write_piece.result (λ h. (
      first ++ (second ++ line),
      (line, c.equal_line-line.ensures, refl),
      appends_both _ _ _ first (second ++ line) c.in_ok-write_node.ensures.ok (appends_both _ _ _ second line c.in_ok-write_node-2.ensures.ok h),
    )) c.write_piece.ensures.ok

pub returns-clause-err : goal.returns-clause-err
returns-clause-err g c =
    let first : List ℕ = node_text 0 c.args.one.now in
    let second : List ℕ = node_text 1 c.args.other.now in
    let line : List ℕ = c.equal_line-line.result.now in
    on_err_weaker c.write_piece.result (λ h. (
      first ++ (second ++ line),
      (line, c.equal_line-line.ensures, refl),
      front_after _ _ _ first (second ++ line) c.in_ok-write_node.ensures.ok (front_after _ _ _ second line c.in_ok-write_node-2.ensures.ok h),
    )) c.write_piece.ensures.err
