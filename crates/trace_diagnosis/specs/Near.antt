-- In what a message and a receive differ that would be a pair else.
use Rattle.std.specs.Prelude.{ℕ, Bool, false, ◌&&◌, not, ◌==◌, Option, Some, None}
use Rattle.mpi_model.specs.Fit.{admits, envelopes_fit}
use Rattle.mpi_model.specs.declared.message.Message.{Message}
use Rattle.mpi_model.specs.declared.message.Receive.{Receive}
use Rattle.diagnosis_value.specs.declared.diagnosis.Why.{Why}
use Rattle.diagnosis_value.specs.declared.diagnosis.Why.TheVariants.{Tag, Comm, Source, Dest, Taken, Postponed, Idle}

-- the receive names another number than this
abbrev pub names_other : Option ℕ → ℕ → Bool
names_other None x = false
names_other (Some y) x = not (y == x)

-- the receive names this number
abbrev pub names : Option ℕ → ℕ → Bool
names None x = false
names (Some y) x = y == x

-- A near miss: they differ in this alone; what was taken, is postponed or idle fits.
abbrev pub is_near : Why → Message → Receive → Bool
is_near Tag m q = (m.comm == q.comm) && (m.to == q.at) && admits q.source m.from && names_other q.tag m.tag
is_near Comm m q = not (m.comm == q.comm) && (m.to == q.at) && admits q.source m.from && admits q.tag m.tag
is_near Source m q = (m.comm == q.comm) && (m.to == q.at) && names_other q.source m.from && admits q.tag m.tag
is_near Dest m q = (m.comm == q.comm) && not (m.to == q.at) && names q.source m.from && admits q.tag m.tag
is_near Taken m q = envelopes_fit m q
is_near Postponed m q = envelopes_fit m q
is_near Idle m q = envelopes_fit m q
