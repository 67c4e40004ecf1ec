use Rattle.std.proofs.Common.{length, sym, subst, List, take}
use Rattle.std.specs.Prelude.{slice_range}
use Rattle.std.specs.FinMap.{empty}
use Rattle.std.specs.List.{All}
use Rattle.std.proofs.lemmas.List.Elements.{All-append}
use Rattle.trace_know.specs.View.{View, join}
use Rattle.run_files.specs.Manifests.{PieceParts}
use Rattle.command_runs.specs.Refusals.{RefusesPieces}
use Rattle.command_runs.specs.Traces.{IsInside, IsKnown}
use Rattle.command_runs.proofs.ByRank.{both_parts, inside_below, known_both, pieces_later}
use Rattle.command_runs.proofs.Runs.{handed_on}
use Rattle.command_runs.proofs.pieces.by_rank.answer_by_rank.Goals as goal

pub returns-in_err-read_strangers-clause-err : goal.returns-in_err-read_strangers-clause-err
returns-in_err-read_strangers-clause-err g c =
    let file = g.O.Opener.file c.args.run.now.files.now in
    let ranks = c.args.run.now.layout.now.ranks in
    let pieces = c.args.pieces.now in
    let end = c.in_ok-told.end in
    let told = c.in_ok-told.ensures.ok in
    let refuses : RefusesPieces file ranks (slice_range pieces end (length pieces)) c.in_err-read_strangers.field-0.0 = c.in_err-read_strangers.ensures.err in
    handed_on c.from_residual-in_err-read_strangers.result _ _ c.from_residual-in_err-read_strangers.ensures.1
    (pieces_later c.view_laws.ensures.union file ranks (take end pieces) (slice_range pieces end (length pieces)) pieces told.view c.in_err-read_strangers.field-0.0 (sym (both_parts pieces end)) told.known
    (inside_below file ranks (take end pieces) told.below) refuses)

pub returns-clause-ok : goal.returns-clause-ok
returns-clause-ok g c =
    let file = g.O.Opener.file c.args.run.now.files.now in
    let pieces = c.args.pieces.now in
    let end = c.in_ok-told.end in
    let told = c.in_ok-told.ensures.ok in
    let rest : IsKnown file (slice_range pieces end (length pieces)) empty = c.in_ok-read_strangers.ensures.ok in
    let all : IsKnown file pieces (join told.view empty) = subst (λ (ps : List PieceParts). IsKnown file ps (join told.view empty)) (both_parts pieces end)
    (known_both c.view_laws.ensures.union file (take end pieces) (slice_range pieces end (length pieces)) told.view empty told.known rest) in
    (told.view, subst (λ (v : View). IsKnown file pieces v) (c.join_laws.ensures.unit told.view) all, c.in_ok-answer.ensures told.view told.told_by)

pub returns-clause-inside : goal.returns-clause-inside
returns-clause-inside g c =
    let file = g.O.Opener.file c.args.run.now.files.now in
    let ranks = c.args.run.now.layout.now.ranks in
    let pieces = c.args.pieces.now in
    let end = c.in_ok-told.end in
    let rest : All (IsInside file ranks) (slice_range pieces end (length pieces)) = c.in_ok-read_strangers.ensures.inside in
    subst (λ (ps : List PieceParts). All (IsInside file ranks) ps) (both_parts pieces end)
    (All-append (IsInside file ranks) (take end pieces) (slice_range pieces end (length pieces)) (inside_below file ranks (take end pieces) c.in_ok-told.ensures.ok.below) rest)
