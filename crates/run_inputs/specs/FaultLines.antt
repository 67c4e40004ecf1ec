-- The fault lines: what standard error shows for a run that is refused.
use Rattle.std.specs.Prelude.{ℕ, List, ◌++◌, String, string_bytes, codes, decimal}
use Rattle.std.specs.declared.alloc.Global.{Global}
use Rattle.mpi_model.specs.declared.layout.fault.LayoutFault.{LayoutFault}
use Rattle.mpi_model.specs.declared.layout.fault.LayoutFault.TheVariants as layouts
use Rattle.dumpi_text.specs.declared.fault.LineFault.{LineFault}
use Rattle.dumpi_text.specs.declared.fault.LineFault.TheVariants as lines
use Rattle.dumpi_text.specs.declared.fault.TextCause.{TextCause}
use Rattle.dumpi_text.specs.declared.fault.TextCause.TheVariants as causes
use Rattle.dumpi_calls.specs.Readings.{name_of}
use Rattle.trace_wire.specs.declared.fault.WireFault.{WireFault}
use Rattle.trace_wire.specs.declared.fault.WireFault.TheVariants as wires
use Rattle.trace_wire.specs.declared.packed.fault.PackedCause.{PackedCause}
use Rattle.trace_wire.specs.declared.packed.fault.PackedCause.TheVariants as packs
use Rattle.run_inputs.specs.FileNames.{shown_name}
use Rattle.run_inputs.specs.declared.faults.fault.RunFault.{RunFault}
use Rattle.run_inputs.specs.declared.faults.fault.RunFault.TheVariants.{Memory, File, Json, Shape, Piece, Packed, PackedFrame, Layout, Text, Missing, Wrong, Place, Rank, Outside, NodeCount, Step, Worker, Net, Frame, Write}
use Rattle.run_inputs.specs.declared.faults.fault.StepCause.{StepCause}
use Rattle.run_inputs.specs.declared.faults.fault.StepCause.TheVariants as steps

-- the name of a layout's fault
abbrev pub layout_fault_name : LayoutFault → List ℕ
layout_fault_name layouts.RankCount = codes "L1 RankCount"
layout_fault_name layouts.CommCount = codes "L2 CommCount"
layout_fault_name layouts.DoubleComm = codes "L3 DoubleComm"
layout_fault_name layouts.EmptyComm = codes "L4 EmptyComm"
layout_fault_name layouts.MemberRange = codes "L5 MemberRange"
layout_fault_name layouts.DoubleMember = codes "L6 DoubleMember"
layout_fault_name layouts.World = codes "L7 World"
layout_fault_name layouts.Numbers = codes "L8 Numbers"
layout_fault_name layouts.Memory = codes "Memory"

-- the name of the fault of a text's line
abbrev pub line_fault_name : LineFault → List ℕ
line_fault_name lines.LineTooLong = codes "F2 LineTooLong"
line_fault_name lines.BadStamp = codes "F3 BadStamp"
line_fault_name lines.OtherThread = codes "F4 OtherThread"
line_fault_name lines.ReturnOutside = codes "F5 ReturnOutside"
line_fault_name lines.NotReturned = codes "F6 NotReturned"
line_fault_name lines.NameDiffers = codes "F7 NameDiffers"
line_fault_name lines.BadParameter = codes "F8 BadParameter"
line_fault_name lines.Truncated = codes "F9 Truncated"
line_fault_name lines.TooManyLines = codes "F11 TooManyLines"

-- the name of the cause for which a text is refused
abbrev pub cause_name : TextCause → List ℕ
cause_name causes.Read = codes "F1 Read"
cause_name (causes.Line fault) = line_fault_name fault

-- the name of the cause for which a step can't be done
abbrev pub step_cause_name : StepCause → List ℕ
step_cause_name steps.NoNode = codes "V1 NoNode"
step_cause_name steps.NoMail = codes "V2 NoMail"
step_cause_name steps.EmptyInbox = codes "V3 EmptyInbox"
step_cause_name steps.Rank = codes "V4 Rank"
step_cause_name steps.FrameLength = codes "V5 FrameLength"
step_cause_name steps.NodeCount = codes "V7 NodeCount"

-- the name of a frame's fault
abbrev pub wire_fault_name : WireFault → List ℕ
wire_fault_name wires.Memory = codes "Memory"
wire_fault_name wires.Read = codes "W1 Read"
wire_fault_name wires.Write = codes "W1 Write"
wire_fault_name wires.Magic = codes "W2 Magic"
wire_fault_name wires.Version = codes "W3 Version"
wire_fault_name wires.Length = codes "W4 Length"
wire_fault_name wires.Short = codes "W5 Short"
wire_fault_name wires.Order = codes "W6 Order"
wire_fault_name wires.Content = codes "W7 Content"
wire_fault_name wires.Rest = codes "W8 Rest"

-- the name of the cause for which a packed file is refused
abbrev pub packed_cause_name : PackedCause → List ℕ
packed_cause_name (packs.Wire fault) = wire_fault_name fault
packed_cause_name packs.Rank = codes "N1 Rank"

-- a file's name, as it stands in a line
abbrev pub shown_path : String Global → List ℕ
shown_path path = shown_name (string_bytes path)

-- a line of a file
abbrev pub at_line : String Global → ℕ → List ℕ
at_line path line = codes " at " ++ shown_path path ++ codes ":" ++ decimal line

-- the name of a run's fault, and where it is: in which file, and at which line, frame or step
abbrev pub fault_text : RunFault → List ℕ
fault_text Memory = codes "Memory"
fault_text (File path) = codes "M1 File " ++ shown_path path
fault_text (Json path line column) = codes "M2 Json in " ++ shown_path path
fault_text (Shape path field) = codes "M3 Shape in " ++ shown_path path
fault_text (Piece path) = codes "M4 Piece in " ++ shown_path path
fault_text (Packed path) = codes "M5 Packed in " ++ shown_path path
fault_text (PackedFrame cause path frame) = packed_cause_name cause ++ codes " at frame " ++ decimal frame ++ codes " of " ++ shown_path path
fault_text (Layout fault path) = layout_fault_name fault ++ codes " in " ++ shown_path path
fault_text (Text cause path line) = cause_name cause ++ at_line path line
fault_text (Missing parameter path line) = codes "C1 Missing " ++ name_of parameter ++ at_line path line
fault_text (Wrong parameter path line) = codes "C2 Wrong " ++ name_of parameter ++ at_line path line
fault_text (Place path) = codes "S3 Place in " ++ shown_path path
fault_text (Rank path) = codes "N1 Rank in " ++ shown_path path
fault_text Outside = codes "N1 Rank"
fault_text NodeCount = codes "V7 NodeCount"
fault_text (Step cause step) = step_cause_name cause ++ codes " at step " ++ decimal step
fault_text Worker = codes "Y1 Worker"
fault_text Net = codes "Y3 Net"
fault_text (Frame fault) = wire_fault_name fault
fault_text Write = codes "R1 Write"

-- the line of a run's fault
abbrev pub fault_line_of : RunFault → List ℕ
fault_line_of fault = codes "mpimatch: " ++ fault_text fault ++ codes "\n"
