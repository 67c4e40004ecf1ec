use Rattle.std.proofs.Common.{rules, refl, arith, ◌≡◌, ◌∙◌, ◌+◌, ◌<◌, ◌++◌, ◌∷◌, [], ℕ, List, None, Some, ap, sym, subst, inl, inr, length, take}
use Rattle.std.specs.List.{All}
use Rattle.std.proofs.Math.Seq.{take-length}
use Rattle.std.proofs.lemmas.List.{take_more}
use Rattle.trace_know.specs.Trace.{view_of}
use Rattle.trace_know.specs.View.{join}
use Rattle.run_files.specs.Manifests.{PieceParts}
use Rattle.command_runs.specs.Pieces.{AreFactsOf, RefusesPiece, TellsFacts, facts_of_piece}
use Rattle.command_runs.specs.Traces.{IsFirstStranger, IsInside, IsKnown}
use Rattle.command_runs.proofs.ReadAhead.{here}
use Rattle.command_runs.proofs.Traces.{IsOutside, begins, known_more, outside_later}
use Rattle.command_runs.proofs.Within.{within_more, within_nothing}
use Rattle.command_runs.proofs.Runs.{handed_on}
use Rattle.command_runs.proofs.pieces.knowing.know_of.Goals as goal

pub loop-piece-init : goal.loop-piece-init
loop-piece-init g c = record {
  listed = c.requires.listed;
  files = c.requires.files;
  standing = refl;
  known = ([], refl, c.requires.known);
  outside = search rules;
  within = λ _. within_nothing c.args.run.now.layout.now _ c.requires.known;
  layout = refl;
}

pub loop-piece-preserved : goal.loop-piece-preserved
loop-piece-preserved g c =
    let file = g.O.Opener.file c.args.run.now.files.now in
    let below : c.loop-piece.piece-index < length c.args.pieces.now = omega arith in
    let more : take (c.loop-piece.piece-index + 1) c.args.pieces.now ≡ take c.loop-piece.piece-index c.args.pieces.now ++ c.piece-item.result ∷ [] =
    take_more c.args.pieces.now c.loop-piece.piece-index c.piece-item.result below
    ∙ ap (λ (p : PieceParts). take c.loop-piece.piece-index c.args.pieces.now ++ p ∷ []) (sym c.piece-item.is) in
    let i = c.loop-piece.invariant in
    let facts = facts_of_piece c.in_ok-whole.whole in
    let told : TellsFacts (file c.piece-item.result.file) c.piece-item.result.rank c.piece-item.result.first facts =
    here (λ f p. AreFactsOf f p facts) _ file _ c.args.pieces.now _ c.loop-piece.piece-index c.piece-item.result (ap g.O.Opener.file i.files) i.listed i.standing c.piece-item.is c.in_ok-whole.ensures.ok in
    let taken : g.G.Gatherer.known c.in_ok-know.know ≡ join (g.G.Gatherer.known c.loop-piece.know) (view_of (facts_of_piece c.in_ok-whole.whole)) = c.in_ok-know.ensures.known in
    record {
      listed = search rules;
      files = search rules;
      standing = omega (arith, i.standing);
      known = subst (λ (ps : List PieceParts). IsKnown file ps (g.G.Gatherer.known c.in_ok-know.know)) (sym more)
          (known_more c.view_laws.ensures.union file (take c.loop-piece.piece-index c.args.pieces.now) c.piece-item.result (g.G.Gatherer.known c.loop-piece.know) (g.G.Gatherer.known c.in_ok-know.know)
          (facts_of_piece c.in_ok-whole.whole) c.loop-piece.invariant.known told taken);
      outside = outside_later file c.args.run.now.layout.now.ranks (take c.loop-piece.piece-index c.args.pieces.now) _ c.piece-item.result
          (facts_of_piece c.in_ok-whole.whole) c.loop-piece.stranger _ more c.loop-piece.invariant.outside told (search rules);
      within = within_more c.join_laws.ensures.cells c.view_laws.ensures.cells _ c.args.run.now.layout.now c.piece-item.result (facts_of_piece c.in_ok-whole.whole)
          c.loop-piece.stranger _ (g.G.Gatherer.known c.loop-piece.know) (g.G.Gatherer.known c.in_ok-know.know) c.loop-piece.invariant.within told (search rules) taken;
      layout = c.in_ok-know.ensures.layout ∙ c.loop-piece.invariant.layout;
    }

pub returns-in_err-whole-clause-err : goal.returns-in_err-whole-clause-err
returns-in_err-whole-clause-err g c =
    let file = g.O.Opener.file c.args.run.now.files.now in
    let below : c.loop-piece.piece-index < length c.args.pieces.now = omega arith in
    let more : take (c.loop-piece.piece-index + 1) c.args.pieces.now ≡ take c.loop-piece.piece-index c.args.pieces.now ++ c.piece-item.result ∷ [] =
    take_more c.args.pieces.now c.loop-piece.piece-index c.piece-item.result below
    ∙ ap (λ (p : PieceParts). take c.loop-piece.piece-index c.args.pieces.now ++ p ∷ []) (sym c.piece-item.is) in
    let i = c.loop-piece.invariant in
    let fault = c.in_err-whole.field-0.0 in
    let refuses : RefusesPiece c.piece-item.result.file c.piece-item.result.first (file c.piece-item.result.file) fault =
    here (λ f p. RefusesPiece p.file p.first (f p.file) fault) _ file _ c.args.pieces.now _ c.loop-piece.piece-index c.piece-item.result (ap g.O.Opener.file i.files) i.listed i.standing c.piece-item.is
    c.in_err-whole.ensures.err in
    handed_on c.from_residual.result _ _ c.from_residual.ensures.1 (inr (inl (
      take c.loop-piece.piece-index c.args.pieces.now,
      c.piece-item.result,
      begins c.args.pieces.now c.loop-piece.piece-index c.piece-item.result more,
      (g.G.Gatherer.known c.loop-piece.know, c.loop-piece.invariant.known),
      refuses,
    )))

pub returns-in-Some-clause-err : goal.returns-in-Some-clause-err
returns-in-Some-clause-err g c =
    let file = g.O.Opener.file c.args.run.now.files.now in
    let end : c.loop-piece.piece-index ≡ length c.args.pieces.now = omega arith in
    let all : take c.loop-piece.piece-index c.args.pieces.now ≡ c.args.pieces.now =
    ap (λ (n : ℕ). take n c.args.pieces.now) end ∙ take-length c.args.pieces.now in
    let outside : IsOutside file c.args.run.now.layout.now.ranks (take c.loop-piece.piece-index c.args.pieces.now) (Some c.in-Some.path) =
    rw c.in-Some.is at c.loop-piece.invariant.outside in
    inr (inr (
      (g.G.Gatherer.known c.loop-piece.know, subst (λ (ps : List PieceParts). IsKnown file ps (g.G.Gatherer.known c.loop-piece.know)) all c.loop-piece.invariant.known),
      subst (λ (ps : List PieceParts). IsFirstStranger file c.args.run.now.layout.now.ranks ps c.in-Some.path) all outside,
    ))

pub returns-in-None-clause-inside : goal.returns-in-None-clause-inside
returns-in-None-clause-inside g c =
    let file = g.O.Opener.file c.args.run.now.files.now in
    let end : c.loop-piece.piece-index ≡ length c.args.pieces.now = omega arith in
    let all : take c.loop-piece.piece-index c.args.pieces.now ≡ c.args.pieces.now =
    ap (λ (n : ℕ). take n c.args.pieces.now) end ∙ take-length c.args.pieces.now in
    let outside : IsOutside file c.args.run.now.layout.now.ranks (take c.loop-piece.piece-index c.args.pieces.now) None = rw c.in-None.is at c.loop-piece.invariant.outside in
    subst (λ (ps : List PieceParts). All (IsInside file c.args.run.now.layout.now.ranks) ps) all outside
