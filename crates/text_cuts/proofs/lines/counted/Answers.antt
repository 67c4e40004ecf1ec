use Rattle.std.proofs.Common.{◌≡◌, ◌≢◌, ◌∙◌, ◌<◌, ◌≤◌, ◌-◌, ◌^◌, arith, drop, get_or, length}
use Rattle.dumpi_text.specs.Bytes.{line_feed}
use Rattle.text_cuts.proofs.Counting.{counted_end, counted_feed, counted_none, counted_other, missed_end}
use Rattle.text_cuts.proofs.lines.counted.Goals as goal
use Rattle.text_cuts.proofs.lines.counted.Goals.{then-byte-eq10, else-byte-eq10}

pub returns-then-missing-eq0-clause-bytes : goal.returns-then-missing-eq0-clause-bytes
returns-then-missing-eq0-clause-bytes c =
    counted_none c.loop-byte.bytes c.loop-byte.missing (drop c.loop-byte.byte-index c.args.chunk.now) _ (omega arith) c.loop-byte.invariant.fits c.loop-byte.invariant.bytes

pub loop-byte-preserved : goal.loop-byte-preserved
loop-byte-preserved c =
    let at = c.loop-byte.byte-index in
    let chunk = c.args.chunk.now in
    let within : at < length chunk = omega arith in
    let some : 0 < c.loop-byte.missing = omega arith in
    let more = c.saturating_add-bytes.ensures in
    let fits : c.saturating_add-bytes.result ≤ 2 ^ 64 - 1 = grind (arith, more) in
    elim c.if-byte-eq10.branch [
      | then-byte-eq10 w ↦ (let is : get_or chunk at 0 ≡ line_feed = omega (arith, w.if-byte-eq10.true) in
          let both = counted_feed c.loop-byte.bytes c.loop-byte.missing at c.saturating_add-bytes.result c.if-byte-eq10.missing chunk within some is more w.missing-is in
          record { bytes = both.0 ∙ c.loop-byte.invariant.bytes; fits = fits; missing = both.1 ∙ c.loop-byte.invariant.missing })
      | else-byte-eq10 w ↦ (let other : get_or chunk at 0 ≢ line_feed = w.if-byte-eq10.false in
          let both = counted_other c.loop-byte.bytes c.loop-byte.missing at c.saturating_add-bytes.result c.if-byte-eq10.missing chunk within some other more w.missing-is in
          record { bytes = both.0 ∙ c.loop-byte.invariant.bytes; fits = fits; missing = both.1 ∙ c.loop-byte.invariant.missing })
    ]

pub returns-clause-bytes : goal.returns-clause-bytes
returns-clause-bytes c =
    let over : length c.args.chunk.now ≤ c.loop-byte.byte-index = omega arith in
    counted_end c.loop-byte.bytes c.loop-byte.missing c.loop-byte.byte-index c.args.chunk.now _ over c.loop-byte.invariant.fits c.loop-byte.invariant.bytes

pub returns-clause-missing : goal.returns-clause-missing
returns-clause-missing c =
    let over : length c.args.chunk.now ≤ c.loop-byte.byte-index = omega arith in
    missed_end c.loop-byte.missing c.loop-byte.byte-index c.args.chunk.now _ over c.loop-byte.invariant.missing
