use Rattle.std.proofs.Common.{◌≡◌, []}
use Rattle.dumpi_calls.specs.Collected.{piece_of}
use Rattle.dumpi_calls.specs.Walks.{IsWalked}
use Rattle.text_notes.specs.Noted.{noted, nothing_noted}
use Rattle.run_inputs.specs.Files.{StandsAtFirst}
use Rattle.command_runs.proofs.Told.{may_fail, walk_told, walked_piece_told}
use Rattle.command_runs.proofs.pieces.noted.noted_piece.Goals as goal

pub returns-clause-ok : goal.returns-clause-ok
returns-clause-ok g c =
    let file = g.O.Opener.file c.args.files.now c.args.piece.now.file in
    let left = g.O.R.Read.left c.in_ok-reader.reader in
    let note = c.walk_with_buffer.new.sink in
    let walked = c.in-Ok.walked in
    let whole = c.in-Ok-into_piece.whole in
    let told : StandsAtFirst file left = rw c.file-path.ensures at c.in_ok-reader.ensures.ok in
    let walk : IsWalked noted left nothing_noted note walked = rw (c.new-watched.ensures, c.new-noting.ensures) at c.in-Ok.ensures.ok in
    let is : whole ≡ piece_of c.args.piece.now.rank c.args.piece.now.first note.events =
    rw (c.into_parts-collect.ensures.events, c.rank.ensures, c.first.ensures) at c.in-Ok-into_piece.ensures.ok in
    walked_piece_told file left c.args.piece.now.rank c.args.piece.now.first note.events walked whole c.whole_texts.ensures.tells told
    (c.noted_texts.ensures.collects left note walked walk) is

pub returns-in-Err-clause-err : goal.returns-in-Err-clause-err
returns-in-Err-clause-err g c =
    let file = g.O.Opener.file c.args.files.now c.args.piece.now.file in
    let left = g.O.R.Read.left c.new-watched.result.inner in
    let note = c.walk_with_buffer.new.sink in
    let told : StandsAtFirst file left = rw c.new-watched.ensures (rw c.file-path.ensures at c.in_ok-reader.ensures.ok) in
    walk_told c.args.piece.now.file c.args.piece.now.first file left [] note.events c.in-Err.fault c.in_ok-fault_of_walk-in-Err.field-0 told
    (c.noted_texts.ensures.stops left note c.in-Err.fault (rw c.new-noting.ensures at c.in-Err.ensures.err))
    (λ stops. may_fail _ _ c.new-watched.result _ _ (c.in-Err.ensures.failure stops)) (rw c.file-path.ensures at c.in_ok-fault_of_walk-in-Err.ensures.fault)
