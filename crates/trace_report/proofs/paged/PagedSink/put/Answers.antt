use Rattle.std.proofs.Common.{◌≡◌, ◌++◌, [], rules, refl}
use Rattle.trace_report.proofs.Pages.{held, held_anew, passed}
use Rattle.trace_report.proofs.paged.PagedSink.put.Goals as goal

pub returns-then-is_err-2 : goal.returns-then-is_err-2
returns-then-is_err-2 g c =
    let a : c.as_slice.result.now ≡ c.args.self.now.page.items = search rules in
    let b : c.try_extend_from_slice-then-is_err.new.self.items ≡ [] = search rules in
    passed _ _ _ c.args.self.now.page.items _ c.try_extend_from_slice-then-is_err.new.self.items c.args.text.now refl refl refl a b c.put.ensures c.put-then-is_err-2.ensures

pub returns-else-is_err-2 : goal.returns-else-is_err-2
returns-else-is_err-2 g c =
    let a : c.as_slice.result.now ≡ c.args.self.now.page.items = search rules in
    let b : c.try_extend_from_slice-then-is_err.new.self.items ≡ c.args.text.now = search rules in
    held_anew _ _ c.args.self.now.page.items _ c.try_extend_from_slice-then-is_err.new.self.items c.args.text.now refl refl a b c.put.ensures

pub returns-else-is_err : goal.returns-else-is_err
returns-else-is_err g c =
    let b : c.try_extend_from_slice.new.self.items ≡ c.args.self.now.page.items ++ c.args.text.now = search rules in
    held _ c.try_extend_from_slice.new.self.items c.args.text.now b
