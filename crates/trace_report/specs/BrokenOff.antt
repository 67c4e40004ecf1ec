-- A report that broke off.
use Rattle.std.specs.Prelude.{◌≡◌, ◌<◌, ℕ, Option, List, length, take}
use Rattle.std.specs.Io.KnownBytes.{Appends}
use Rattle.trace_report.specs.declared.fault.ReportFault.{ReportFault}
use Rattle.trace_report.specs.declared.fault.ReportFault.TheVariants.{Write}
use Rattle.trace_report.specs.Page.{capped}

-- how many bytes a fault tells
abbrev pub written_of : ReportFault → ℕ
written_of (Write written) = written

-- Just the first bytes of the text were written, and not all of it; the fault tells how many.
abbrev pub WritesFront : Option (List ℕ) → Option (List ℕ) → List ℕ → ReportFault → Type 0
WritesFront old new text fault = (n : ℕ) × (n < length text) × (written_of fault ≡ capped n) × Appends old new (take n text)
