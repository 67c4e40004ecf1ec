use Rattle.std.proofs.Common.{◌≡◌, ℕ, List, [], rules, refl, sym, subst}
use Rattle.trace_wire.specs.Sending.{Page, Sends}
use Rattle.trace_wire.proofs.Sending.{flushed, kept, passed, reads, then, with_pending}
use Rattle.trace_wire.proofs.write.paged.PagedSink.put_after_flush.Goals as goal

-- what was held was handed on, and then the bytes were kept
held_after : (s t : Page) (p q x bytes : List ℕ) → s.pending ≡ [] → t.pending ≡ [] → q ≡ p → x ≡ bytes → Sends s t q → Sends (with_pending s p) (with_pending t x) bytes
held_after s t p q x bytes e f a b h = subst (λ (l : List ℕ). Sends (with_pending s p) (with_pending t l) bytes) (sym b) (then (flushed s t p e f (reads h a)) (kept t [] bytes))

pub returns-then-is_err : goal.returns-then-is_err
returns-then-is_err g c =
    let a : c.as_slice.result.now ≡ c.args.self.now.page.items = search rules in
    let b : c.try_extend_from_slice.new.self.items ≡ [] = search rules in
    passed _ _ _ c.args.self.now.page.items _ c.try_extend_from_slice.new.self.items c.args.bytes.now refl refl refl a b c.put.ensures c.put-then-is_err.ensures

pub returns-else-is_err : goal.returns-else-is_err
returns-else-is_err g c =
    let a : c.as_slice.result.now ≡ c.args.self.now.page.items = search rules in
    let b : c.try_extend_from_slice.new.self.items ≡ c.args.bytes.now = search rules in
    held_after _ _ c.args.self.now.page.items _ c.try_extend_from_slice.new.self.items c.args.bytes.now refl refl a b c.put.ensures
