-- The parameters that a call's function has a use for, and no others.
use Rattle.std.specs.Prelude.{ℕ, Bool, false, ◌||◌, ◌&&◌, is_none, List, [], ◌∷◌, ◌++◌}
use Rattle.std.specs.Str.{bytes_eq}
use Rattle.dumpi_text.specs.Call.{Param, first_value}
use Rattle.mpi_model.specs.Kinds.{row}
use Rattle.dumpi_calls.specs.Readings.{name_of, object_parameters}
use Rattle.dumpi_calls.specs.Rows.{collective_parameters, function_named, probe_parameters, receive_parameters, send_parameters, sendrecv_parameters, sendrecv_replace_parameters}
use Rattle.dumpi_calls.specs.declared.function.Function.{Function}
use Rattle.dumpi_calls.specs.declared.function.Function.TheVariants as functions
use Rattle.dumpi_calls.specs.declared.parameter.Parameter.{Parameter}
use Rattle.dumpi_calls.specs.declared.parameter.Parameter.TheVariants.{Request, Requests, Index, Indices, Flag, Status, Statuses}

-- the parameters that a call of a function is read by: those of its row, and those that tell how it returned and may be
-- absent
abbrev pub looked_parameters : Function → List Parameter
looked_parameters (functions.Send mode) = send_parameters
looked_parameters (functions.Isend mode) = send_parameters ++ Request ∷ []
looked_parameters functions.Recv = receive_parameters ++ Status ∷ []
looked_parameters functions.Irecv = receive_parameters ++ Request ∷ []
looked_parameters functions.Sendrecv = sendrecv_parameters ++ Status ∷ []
looked_parameters functions.SendrecvReplace = sendrecv_replace_parameters ++ Status ∷ []
looked_parameters functions.Probe = probe_parameters ++ Status ∷ []
looked_parameters functions.Iprobe = probe_parameters ++ Flag ∷ Status ∷ []
looked_parameters functions.Wait = Request ∷ Status ∷ []
looked_parameters functions.Waitall = Requests ∷ Statuses ∷ []
looked_parameters functions.Waitany = Requests ∷ Index ∷ Status ∷ []
looked_parameters functions.Waitsome = Requests ∷ Indices ∷ Statuses ∷ []
looked_parameters functions.Test = Request ∷ Flag ∷ Status ∷ []
looked_parameters functions.Testall = Requests ∷ Flag ∷ Statuses ∷ []
looked_parameters functions.Testany = Requests ∷ Flag ∷ Index ∷ Status ∷ []
looked_parameters functions.Testsome = Requests ∷ Indices ∷ Statuses ∷ []
looked_parameters functions.Cancel = Request ∷ []
looked_parameters functions.Free = Request ∷ []
looked_parameters (functions.Collective kind) = collective_parameters kind
looked_parameters (functions.Icollective kind) = Request ∷ collective_parameters kind
looked_parameters (functions.OnObject kind nonblocking) = Request ∷ object_parameters (row kind).parameter
looked_parameters (functions.SendInit mode) = send_parameters ++ Request ∷ []
looked_parameters functions.RecvInit = receive_parameters ++ Request ∷ []
looked_parameters functions.Start = Request ∷ []
looked_parameters functions.Startall = Requests ∷ []
looked_parameters functions.Mprobe = probe_parameters ++ Status ∷ []
looked_parameters functions.Improbe = probe_parameters ++ Flag ∷ Status ∷ []
looked_parameters functions.Imrecv = Request ∷ []
looked_parameters functions.Unread = []
looked_parameters functions.Finalize = []
looked_parameters functions.Other = []

-- whether a name is of one of these parameters
abbrev pub is_named_in : List Parameter → List ℕ → Bool
is_named_in [] name = false
is_named_in (parameter ∷ parameters) name = bytes_eq name (name_of parameter) || is_named_in parameters name

-- a parameter is kept where the call's function is read by it, and it is the first of its name
abbrev pub looked_choice : List ℕ → List Param → List ℕ → Bool
looked_choice function kept name = is_none (first_value name kept) && is_named_in (looked_parameters (function_named function)) name
