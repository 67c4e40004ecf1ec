-- The lines of faults with what the system says of a refused write.
use Rattle.std.specs.Prelude.{ℕ, List, [], ◌++◌, Option, None, Some, codes}
use Rattle.mpi_model.specs.declared.device.WriteReason.{WriteReason}
use Rattle.mpi_model.specs.declared.device.WriteReason.TheVariants.{NoSpace, Quota, FileTooLarge, Closed}
use Rattle.run_inputs.specs.FaultLines.{fault_line_of}
use Rattle.run_inputs.specs.InitFaults.{init_fault_line_of}
use Rattle.run_inputs.specs.declared.faults.fault.RunFault.{RunFault}
use Rattle.run_inputs.specs.declared.faults.fault.RunFault.TheVariants as runs
use Rattle.run_inputs.specs.declared.faults.init_fault.InitFault.{InitFault}
use Rattle.run_inputs.specs.declared.faults.init_fault.InitFault.TheVariants as inits

-- what the system says of a refused write, as it stands behind the name of the fault
abbrev pub write_reason_text : Option WriteReason → List ℕ
write_reason_text None = []
write_reason_text (Some NoSpace) = codes ": no space left on device"
write_reason_text (Some Quota) = codes ": disk quota exceeded"
write_reason_text (Some FileTooLarge) = codes ": file too large"
write_reason_text (Some Closed) = codes ": nobody reads it"

-- the line of a refused write
abbrev pub write_line : Option WriteReason → List ℕ
write_line reason = codes "mpimatch: R1 Write" ++ write_reason_text reason ++ codes "\n"

-- the line of a run's fault, and of a refused write with its reason
abbrev pub line_with : RunFault → Option WriteReason → List ℕ
line_with runs.Write reason = write_line reason
line_with fault reason = fault_line_of fault

-- the line of a fault of `init`, and of a refused write with its reason
abbrev pub init_line_with : InitFault → Option WriteReason → List ℕ
init_line_with inits.Write reason = write_line reason
init_line_with fault reason = init_fault_line_of fault
