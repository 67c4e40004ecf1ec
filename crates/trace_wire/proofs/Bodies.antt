-- A frame whose payload was read through a window.
use Rattle.std.proofs.Common.{◌≡◌, ℕ, List, length, Option, Ok, inl, inr, ◌∙◌}
use Rattle.std.specs.Io.KnownBytes.{Consumes}
use Rattle.trace_wire.specs.declared.fault.WireFault.{WireFault}
use Rattle.trace_wire.specs.Cells.{Entry}
use Rattle.trace_wire.specs.Forms.{IsBytes}
use Rattle.trace_wire.specs.Reading.{Told, len_of, IsUnread, ReadsFrame}
use Rattle.trace_wire.specs.Windows.{IsRefused, ReadsPayload}
use Rattle.trace_wire.proofs.Heads.{bad_body, no_body, whole_frame}

pub refused_body : (left mid new : Option (List ℕ)) (head : List ℕ) (n : Told) (before between now : ℕ) (fault : WireFault) → length head ≡ 10 → Consumes left mid head → between ≡ before → len_of head ≡ Ok n → IsRefused n.0 n.1 mid new between now fault → IsUnread left before now fault
refused_body left mid new head n before between now fault len c e is h = elim h [
  | inl u ↦ no_body left mid head n before between now fault len c e is u
  | inr r ↦ bad_body left mid new head r.2.0 n before now fault len c is r.2.1 r.2.2 (r.0 ∙ e) r.1 r.2.3
]

pub read_body : (left mid new : Option (List ℕ)) (head : List ℕ) (n : Told) (es : List Entry) → length head ≡ 10 → IsBytes head → Consumes left mid head → len_of head ≡ Ok n → ReadsPayload n.0 n.1 mid new es → ReadsFrame left new es
read_body left mid new head n es len fits c is r = whole_frame left mid new head r.0 n es len fits r.2 c is r.1 r.3 r.4
