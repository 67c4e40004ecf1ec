use Rattle.std.proofs.Common.{◌≡◌, List, [], None, ap, sym, ◌∙◌, append-nil}
use Rattle.std.specs.FinMap.{entries, find, get-entries}
use Rattle.trace_know.specs.View.{place_cmp}
use Rattle.trace_wire.specs.Cells.{Entry}
use Rattle.trace_wire.specs.Frames.{frame_as}
use Rattle.trace_wire.proofs.FrameLaws.{frame_takes, frame_again, one_frame, no_refusal, second_fits}
use Rattle.trace_wire.proofs.RunCells.{cells_of_runs, runs_fit, runs_of_cells}
use Rattle.trace_wire.proofs.laws.frame_laws.Goals as goal

pub returns-clause-read : goal.returns-clause-read
returns-clause-read c = λ bytes rest es fits e. frame_takes bytes (es, rest) fits e

pub returns-clause-again : goal.returns-clause-again
returns-clause-again c = frame_again

pub returns-clause-refused : goal.returns-clause-refused
returns-clause-refused c = λ version bytes rest es fault has parts e. no_refusal version bytes rest es fault has parts e

pub returns-clause-one : goal.returns-clause-one
returns-clause-one c = one_frame

pub returns-clause-views : goal.returns-clause-views
returns-clause-views c = λ one other v w hv hw e.
    let same : entries w ≡ entries v = (one_frame one other (entries v) (entries w) [] hv hw (sym e ∙ sym (append-nil (frame_as one (entries v))))).1 in
    c.join_laws.ensures.same_cells v w (λ rank place.
    get-entries v (rank, place) ∙ ap (λ (es : List Entry). find place_cmp (rank, place) es) (sym same) ∙ sym (get-entries w (rank, place)))

pub returns-clause-second : goal.returns-clause-second
returns-clause-second c = second_fits

pub returns-clause-runs : goal.returns-clause-runs
returns-clause-runs c = λ es h. (runs_fit es h, cells_of_runs es)

pub returns-clause-only : goal.returns-clause-only
returns-clause-only c = λ rs h. runs_of_cells None rs h
