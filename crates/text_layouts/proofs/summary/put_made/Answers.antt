use Rattle.std.proofs.Common.{ℕ, ap, codes}
use Rattle.text_layouts.specs.Summary.{counted_text, objects_text}
use Rattle.text_layouts.proofs.Adding.{reads, then}
use Rattle.text_layouts.proofs.summary.put_made.Goals as goal

pub returns : goal.returns
returns c =
    then (then (reads c.put_counted.ensures (ap (λ (n : ℕ). counted_text n (codes " communicator") (codes " communicators")) c.sort_count-made.ensures))
    (reads c.put_objects.ensures (ap (λ (n : ℕ). objects_text n (codes " window") (codes " windows")) c.sort_count-windows.ensures)))
    (reads c.put_objects-2.ensures (ap (λ (n : ℕ). objects_text n (codes " file") (codes " files")) c.sort_count-files.ensures))
