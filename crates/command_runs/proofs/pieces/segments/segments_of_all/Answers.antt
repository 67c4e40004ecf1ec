use Rattle.std.proofs.Common.{rules, arith, refl, ◌≡◌, ◌∙◌, ◌+◌, ◌<◌, ◌++◌, ◌∷◌, [], ap, sym, inr, length, take}
use Rattle.std.proofs.lemmas.List.{take_more}
use Rattle.run_files.specs.Manifests.{PieceParts}
use Rattle.command_runs.specs.Pieces.{AreSegmentsOf, RefusesPiece, TellsSegments}
use Rattle.command_runs.specs.Schedules.{held_lists}
use Rattle.command_runs.proofs.ReadAhead.{here, there}
use Rattle.command_runs.proofs.Segments.{first_refused, segments_later}
use Rattle.command_runs.proofs.Runs.{handed_on}
use Rattle.command_runs.proofs.pieces.segments.segments_of_all.Goals as goal

pub loop-place-init : goal.loop-place-init
loop-place-init g c = record { listed = search rules; files = search rules; told = search rules }

pub loop-place-preserved : goal.loop-place-preserved
loop-place-preserved g c =
    let file = g.O.Opener.file c.args.files.now in
    let pieces = c.args.pieces.now in
    let place = c.loop-place.place in
    let i = c.loop-place.invariant in
    let below : place < length pieces = omega arith in
    let piece = (there pieces place below).0 in
    let more : take (place + 1) pieces ≡ take place pieces ++ piece ∷ [] =
    take_more pieces place piece below ∙ ap (λ (p : PieceParts). take place pieces ++ p ∷ []) (sym (there pieces place below).1) in
    let told : TellsSegments (file piece.file) piece.rank piece.first c.in_ok-segments.segments.items =
    here (λ f p. AreSegmentsOf f p c.in_ok-segments.segments.items) _ file _ pieces _ place piece (ap g.O.Opener.file i.files) i.listed refl (there pieces place below).1 c.in_ok-segments.ensures.ok in
    let told : TellsSegments (file piece.file) piece.rank piece.first c.in_ok-shared.field-0.items = rw c.in_ok-shared.ensures told in
    let pushed : c.push.new.self.items ≡ c.loop-place.lists.items ++ c.in_ok-shared.field-0 ∷ [] = search rules in
    record {
      listed = search rules;
      files = search rules;
      told = segments_later file (take place pieces) _ piece c.loop-place.lists.items _ c.in_ok-shared.field-0 more pushed i.told told;
    }

pub returns-in_err-segments-clause-err : goal.returns-in_err-segments-clause-err
returns-in_err-segments-clause-err g c =
    let file = g.O.Opener.file c.args.files.now in
    let pieces = c.args.pieces.now in
    let place = c.loop-place.place in
    let i = c.loop-place.invariant in
    let below : place < length pieces = omega arith in
    let piece = (there pieces place below).0 in
    let more : take (place + 1) pieces ≡ take place pieces ++ piece ∷ [] =
    take_more pieces place piece below ∙ ap (λ (p : PieceParts). take place pieces ++ p ∷ []) (sym (there pieces place below).1) in
    let fault = c.in_err-segments.field-0.0 in
    let refuses : RefusesPiece piece.file piece.first (file piece.file) fault =
    here (λ f p. RefusesPiece p.file p.first (f p.file) fault) _ file _ pieces _ place piece (ap g.O.Opener.file i.files) i.listed refl (there pieces place below).1 c.in_err-segments.ensures.err in
    handed_on c.from_residual-in_err-segments.result _ _ c.from_residual-in_err-segments.ensures.1
    (inr (first_refused c.whole_segments.ensures file pieces place piece (held_lists c.loop-place.lists.items) fault
    more i.told refuses))
