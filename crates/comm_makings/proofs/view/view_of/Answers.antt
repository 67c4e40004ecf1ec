use Rattle.std.proofs.Common.{◌≡◌, ◌∙◌, length, rules}
use Rattle.comm_makings.proofs.view.view_of.Goals as goal

pub returns : goal.returns
returns c =
    let count : c.len-count.result ≡ length c.in_ok-handles.handles.items = search rules in
    record {
      handles = c.in_ok-handles.ensures.handles;
      meant = c.in_ok-handles.ensures.meant;
      makings = rw c.deref.ensures.value at (rw c.deref-2.ensures.value at c.in_ok-makings.ensures.each);
      makings_each = c.in_ok-makings.ensures.all ∙ count;
      by_group = rw c.deref-3.ensures.value at (rw c.deref-4.ensures.value at c.in_ok-by_group.ensures.each);
      by_group_each = c.in_ok-by_group.ensures.all ∙ count;
      told = rw c.deref-10.ensures.value at (rw c.deref-11.ensures.value at c.in_ok-told.ensures.each);
      told_each = c.in_ok-told.ensures.all ∙ count;
      end = rw c.deref-12.ensures.value at (rw c.deref-13.ensures.value at c.end_of-end.ensures);
      windows = rw count at (rw c.deref-14.ensures.value at (rw c.deref-15.ensures.value at c.in_ok-windows.ensures));
      files = rw count at (rw c.deref-16.ensures.value at (rw c.deref-17.ensures.value at c.in_ok-files.ensures));
    }
