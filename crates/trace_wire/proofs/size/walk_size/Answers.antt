use Rattle.std.proofs.Common.{◌≡◌, ◌+◌, ◌∷◌, List, length, rules, ap, sym, subst, ◌∙◌, arith}
use Rattle.trace_know.specs.Listing.{run_len}
use Rattle.trace_wire.specs.Cells.{AreInRange, Entry, known_bytes, knowns_bytes, knowns_of}
use Rattle.trace_wire.specs.Frames.{parts_in}
use Rattle.trace_wire.specs.Sizes.{part_end}
use Rattle.trace_wire.proofs.Lengths.{knowns_len, parts_step}
use Rattle.trace_wire.proofs.size.walk_size.Goals as goal

pub loop-known-preserved : goal.loop-known-preserved
loop-known-preserved c =
    let version = c.args.version in
    let e : Entry = ((c.in-Some.field-0-0, c.in-Some.field-0-1), c.in-Some.known.now) in
    let es : List Entry = c.next.new.self in
    let is : c.loop-known.cells ≡ e ∷ es = c.in-Some.ensures.steps in
    let was = c.loop-known.invariant in
    let count : c.part_end.result ≡ part_end version (run_len (e ∷ es)) = c.part_end.ensures ∙ ap (part_end version) (was.run_len ∙ ap run_len is) in
    let step : parts_in version c.loop-known.cells ≡ part_end version (run_len (e ∷ es)) + parts_in version es = ap (parts_in version) is ∙ parts_step version e es in
    let more : length (knowns_bytes (knowns_of c.loop-known.cells)) ≡ length (known_bytes e.1) + length (knowns_bytes (knowns_of es)) = ap (λ (l : List Entry). length (knowns_bytes (knowns_of l))) is ∙ knowns_len e.1 (knowns_of es) in
    record {
      run_len = search rules;
      parts_fit = omega arith;
      len_fits = omega arith;
      parts = omega (arith, count, step, was.parts, was.parts_fit);
      len = omega (arith, c.known_len.ensures.value, more, was.len, was.len_fits);
      range = λ ranges. was.range (subst (λ (l : List Entry). AreInRange l) (sym is) (c.known_len.ensures.range, ranges));
    }
