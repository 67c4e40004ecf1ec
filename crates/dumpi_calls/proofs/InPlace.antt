-- Calls that are read where they stand: what their lines say of any call that has them.
use Rattle.std.proofs.Common.{◌≡◌, ℕ, ℤ, ◌+◌, ◌-◌, ◌≤◌, ◌&&◌, not, Bool, true, false, List, [], ◌∷◌, ◌++◌, length, drop, codes, Option, Some, None, Result, Ok, refl, sym, ap, ◌∙◌, subst, append_assoc, length-append, arith}
use Rattle.std.specs.Str.{bytes_eq}
use Rattle.std.proofs.Math.Seq.{drop-append_seam}
use Rattle.std.proofs.lemmas.Slice.Eq.{bytes_eq-Decides}
use Rattle.mpi_model.specs.Ranges.{CollectiveCall}
use Rattle.mpi_model.specs.Times.{Times}
use Rattle.mpi_model.specs.declared.call.Call.{Call}
use Rattle.mpi_model.specs.declared.call.Call.TheVariants as calls
use Rattle.mpi_model.specs.Kinds.{has_root, row as kind_row}
use Rattle.mpi_model.specs.declared.object.Object.TheVariants.{Communicator}
use Rattle.mpi_model.specs.declared.kind.Kind.{Kind as GroupKind}
use Rattle.mpi_model.specs.declared.envelope.CommRef.{CommRef}
use Rattle.mpi_model.specs.declared.envelope.Envelope.{Envelope}
use Rattle.mpi_model.specs.declared.envelope.Mode.{Mode}
use Rattle.mpi_model.specs.declared.envelope.Peer.{Peer}
use Rattle.mpi_model.specs.declared.outcome.Outs.{Outs}
use Rattle.mpi_model.specs.declared.outcome.Outs.TheVariants as outcomes
use Rattle.mpi_model.specs.declared.told.Told.{Told}
use Rattle.mpi_model.specs.declared.told.Told.TheVariants.{Nothing}
use Rattle.dumpi_text.specs.Call.{Param, TextCall, first_value, same_bytes}
use Rattle.dumpi_text.specs.Stamps.{Entering, Kind, Returning}
use Rattle.dumpi_text.specs.Usual.{HasCall, HasLine, Tells, TellsAll, TellsByItsParts, before_value, call_after, is_word}
use Rattle.dumpi_text.specs.Number.{integer_front, number_front}
use Rattle.dumpi_text.specs.Value.{value_of}
use Rattle.dumpi_text.specs.declared.number.Num.{Num}
use Rattle.dumpi_text.specs.declared.value.Value.{Value}
use Rattle.dumpi_text.specs.declared.value.Value.TheVariants.{Number}
use Rattle.dumpi_calls.specs.InPlace.{EndsNumber, IsWhole, PassesLines, TellsCall, TellsNumber, TellsReceive, TellsRequests, TellsSend, TellsStatus, TellsStatuses, is_unread, param_of, receive_lines, send_lines, usual_name}
use Rattle.dumpi_calls.specs.Outcomes.{groups_by, groups_from, groups_in, outcome_in, posted, told_at, tolds_from}
use Rattle.dumpi_calls.specs.Skims.{requests_from}
use Rattle.dumpi_calls.specs.Readings.{all_numbers, asked_tag_by, asked_tag_in, comm_by, comm_in, dest_by, dest_in, name_of, named_in, non_negative, non_negative_in, number_in, numbers_in, request_by, request_in, requests_in, requests_of, root_by, root_named, source_by, source_in, text_of}
use Rattle.dumpi_calls.specs.Rows.{Row, collective_call, collective_in, collective_parameters, envelope_of_receive, envelope_of_send, exit_in, first_missing, function_named, irecv_call, isend_call, missing_in, read_by, receive_part, recv_call, returned, row, send_call, send_part, typed_by, wait_call, waitall_call}
use Rattle.dumpi_calls.specs.declared.function.Function.{Function}
use Rattle.dumpi_calls.specs.declared.function.Function.TheVariants as functions
use Rattle.dumpi_calls.specs.declared.parameter.CallFault.{CallFault}
use Rattle.dumpi_calls.specs.declared.parameter.Parameter.{Parameter}
use Rattle.dumpi_calls.specs.declared.parameter.Parameter.TheVariants.{Count, Datatype, Dest, Source, Tag, Comm, OldComm, CommOld, LocalComm, Intercomm, Win, Fh, File, SendCount, SendType, SendTag, RecvCount, RecvType, RecvTag, Root, Request, Requests, Index, Indices, Flag, Status, Statuses}

-- each parameter's name is a word
pub named_by_a_word : (parameter : Parameter) → is_word (name_of parameter) ≡ true
named_by_a_word Count = refl
named_by_a_word Datatype = refl
named_by_a_word Dest = refl
named_by_a_word Source = refl
named_by_a_word Tag = refl
named_by_a_word Comm = refl
named_by_a_word OldComm = refl
named_by_a_word CommOld = refl
named_by_a_word LocalComm = refl
named_by_a_word Intercomm = refl
named_by_a_word Win = refl
named_by_a_word Fh = refl
named_by_a_word File = refl
named_by_a_word SendCount = refl
named_by_a_word SendType = refl
named_by_a_word SendTag = refl
named_by_a_word RecvCount = refl
named_by_a_word RecvType = refl
named_by_a_word RecvTag = refl
named_by_a_word Root = refl
named_by_a_word Request = refl
named_by_a_word Requests = refl
named_by_a_word Index = refl
named_by_a_word Indices = refl
named_by_a_word Flag = refl
named_by_a_word Status = refl
named_by_a_word Statuses = refl

-- a line that tells a number
pub number_told : (parameter : Parameter) (name value text rest : List ℕ) (number : Num) → Tells (record { name = name; value = value }) text rest → name ≡ name_of parameter → value_of value ≡ Some (Number number)
    → TellsNumber parameter number text rest
number_told parameter name value text rest number tells is means = record {
  value = value;
  tells = subst (λ (n : List ℕ). Tells (record { name = n; value = value }) text rest) is tells;
  means = means;
}

-- the same, by what stands before the number
pub number_behind : (parameter : Parameter) (kind start text behind rest : List ℕ) (number : Num) → TellsByItsParts → is_word kind ≡ true → start ≡ before_value kind (name_of parameter) → length start ≤ 100
    → text ≡ start ++ behind → EndsNumber number behind rest → TellsNumber parameter number text rest
number_behind parameter kind start text behind rest number law is_kind is few begins n = record {
  value = n.value;
  tells = law kind (name_of parameter) start n.value text behind rest is_kind (named_by_a_word parameter) is few begins n.line;
  means = n.means;
}

number_said : (parameter : Parameter) (raw : TextCall) (value : List ℕ) (number : Num) → text_of parameter raw ≡ Some value → value_of value ≡ Some (Number number) → number_in parameter raw ≡ Ok number
unfolding number_in
number_said parameter raw value number there means = rw (there, means) refl

-- a call's parameters, by their names
text_there : (parameter : Parameter) (raw : TextCall) (params : List Param) → raw.params ≡ params → text_of parameter raw ≡ first_value (name_of parameter) params
unfolding text_of
text_there parameter raw params is = ap (first_value (name_of parameter)) is

-- ---- envelopes

abbrev read_envelope : Envelope → Result Envelope CallFault
read_envelope envelope = Ok envelope

abbrev read_status : Told → Result Outs CallFault
read_status told = Ok (outcomes.Status told)

abbrev read_statuses : List Told → Result Outs CallFault
read_statuses tolds = Ok (outcomes.Statuses tolds)

abbrev read_wait : ℤ → Result Call CallFault
read_wait request = Ok (calls.Wait request)

abbrev read_collective : CollectiveCall → Result Call CallFault
read_collective collective = Ok (calls.Collective collective)

send_says : (raw : TextCall) (more : List Param) (v_count v_datatype v_dest v_tag v_comm : List ℕ) (count datatype dest tag comm : Num) (elements asked : ℕ) (peer : Peer) (group : CommRef)
    → raw.params ≡ send_lines v_count v_datatype v_dest v_tag v_comm ++ more
    → value_of v_count ≡ Some (Number count) → value_of v_datatype ≡ Some (Number datatype) → value_of v_dest ≡ Some (Number dest) → value_of v_tag ≡ Some (Number tag) → value_of v_comm ≡ Some (Number comm)
    → non_negative count.value ≡ Some elements → dest_by dest.name dest.value ≡ Some peer → non_negative tag.value ≡ Some asked → comm_by comm.name comm.value ≡ Some group
    → envelope_of_send raw ≡ Ok (record { peer = peer; tag = Some asked; comm = group; count = elements; datatype = datatype.value })
unfolding envelope_of_send send_part non_negative_in dest_in comm_in
send_says raw more v_count v_datatype v_dest v_tag v_comm count datatype dest tag comm elements asked peer group is m_count m_datatype m_dest m_tag m_comm as_count as_dest as_tag as_comm =
    rw (
      number_said Count raw v_count count (text_there Count raw _ is) m_count,
      as_count,
      number_said Datatype raw v_datatype datatype (text_there Datatype raw _ is) m_datatype,
      number_said Dest raw v_dest dest (text_there Dest raw _ is) m_dest,
      as_dest,
      number_said Tag raw v_tag tag (text_there Tag raw _ is) m_tag,
      as_tag,
      number_said Comm raw v_comm comm (text_there Comm raw _ is) m_comm,
      as_comm,
    ) refl

pub send_told : (t0 t1 t2 t3 t4 t5 : List ℕ) (count datatype dest tag comm : Num) (elements asked : ℕ) (peer : Peer) (group : CommRef) (envelope : Envelope)
    → TellsNumber Count count t0 t1 → TellsNumber Datatype datatype t1 t2 → TellsNumber Dest dest t2 t3 → TellsNumber Tag tag t3 t4 → TellsNumber Comm comm t4 t5
    → Some elements ≡ non_negative count.value → Some peer ≡ dest_by dest.name dest.value → Some asked ≡ non_negative tag.value → Some group ≡ comm_by comm.name comm.value
    → envelope ≡ record { peer = peer; tag = Some asked; comm = group; count = elements; datatype = datatype.value } → TellsSend envelope t0 t5
send_told t0 t1 t2 t3 t4 t5 count datatype dest tag comm elements asked peer group envelope n0 n1 n2 n3 n4 as_count as_dest as_tag as_comm is = record {
  count = n0.value;
  datatype = n1.value;
  dest = n2.value;
  tag = n3.value;
  comm = n4.value;
  tells = (t1, n0.tells, (t2, n1.tells, (t3, n2.tells, (t4, n3.tells, (t5, n4.tells, refl)))));
  says = λ raw more params. send_says raw more n0.value n1.value n2.value n3.value n4.value count datatype dest tag comm elements asked peer group params
      n0.means n1.means n2.means n3.means n4.means (sym as_count) (sym as_dest) (sym as_tag) (sym as_comm) ∙ ap read_envelope (sym is);
}

receive_says : (raw : TextCall) (more : List Param) (v_count v_datatype v_source v_tag v_comm : List ℕ) (count datatype source tag comm : Num) (elements : ℕ) (asked : Option ℕ) (peer : Peer) (group : CommRef)
    → raw.params ≡ receive_lines v_count v_datatype v_source v_tag v_comm ++ more
    → value_of v_count ≡ Some (Number count) → value_of v_datatype ≡ Some (Number datatype) → value_of v_source ≡ Some (Number source) → value_of v_tag ≡ Some (Number tag) → value_of v_comm ≡ Some (Number comm)
    → non_negative count.value ≡ Some elements → source_by source.name source.value ≡ Some peer → asked_tag_by tag.name tag.value ≡ Some asked → comm_by comm.name comm.value ≡ Some group
    → envelope_of_receive raw ≡ Ok (record { peer = peer; tag = asked; comm = group; count = elements; datatype = datatype.value })
unfolding envelope_of_receive receive_part non_negative_in source_in asked_tag_in comm_in
receive_says raw more v_count v_datatype v_source v_tag v_comm count datatype source tag comm elements asked peer group is m_count m_datatype m_source m_tag m_comm as_count as_source as_tag as_comm =
    rw (
      number_said Count raw v_count count (text_there Count raw _ is) m_count,
      as_count,
      number_said Datatype raw v_datatype datatype (text_there Datatype raw _ is) m_datatype,
      number_said Source raw v_source source (text_there Source raw _ is) m_source,
      as_source,
      number_said Tag raw v_tag tag (text_there Tag raw _ is) m_tag,
      as_tag,
      number_said Comm raw v_comm comm (text_there Comm raw _ is) m_comm,
      as_comm,
    ) refl

pub receive_told : (t0 t1 t2 t3 t4 t5 : List ℕ) (count datatype source tag comm : Num) (elements : ℕ) (asked : Option ℕ) (peer : Peer) (group : CommRef) (envelope : Envelope)
    → TellsNumber Count count t0 t1 → TellsNumber Datatype datatype t1 t2 → TellsNumber Source source t2 t3 → TellsNumber Tag tag t3 t4 → TellsNumber Comm comm t4 t5
    → Some elements ≡ non_negative count.value → Some peer ≡ source_by source.name source.value → Some asked ≡ asked_tag_by tag.name tag.value → Some group ≡ comm_by comm.name comm.value
    → envelope ≡ record { peer = peer; tag = asked; comm = group; count = elements; datatype = datatype.value } → TellsReceive envelope t0 t5
receive_told t0 t1 t2 t3 t4 t5 count datatype source tag comm elements asked peer group envelope n0 n1 n2 n3 n4 as_count as_source as_tag as_comm is = record {
  count = n0.value;
  datatype = n1.value;
  source = n2.value;
  tag = n3.value;
  comm = n4.value;
  tells = (t1, n0.tells, (t2, n1.tells, (t3, n2.tells, (t4, n3.tells, (t5, n4.tells, refl)))));
  says = λ raw more params. receive_says raw more n0.value n1.value n2.value n3.value n4.value count datatype source tag comm elements asked peer group params
      n0.means n1.means n2.means n3.means n4.means (sym as_count) (sym as_source) (sym as_tag) (sym as_comm) ∙ ap read_envelope (sym is);
}

-- ---- calls

-- lines and then further lines
tells_both : (first second : List Param) (text mid rest : List ℕ) → TellsAll first text mid → TellsAll second mid rest → TellsAll (first ++ second) text rest
tells_both [] second text mid rest a b = subst (λ (t : List ℕ). TellsAll second t rest) (sym a) b
tells_both (param ∷ first) second text mid rest a b = (a.0, a.1, tells_both first second a.0 mid rest a.2 b)

none_missing : (row : Row) (raw : TextCall) (exit : Times) → raw.exit ≡ Some exit → first_missing row.entry raw ≡ None → first_missing (row.outcome raw) raw ≡ None → missing_in row raw ≡ None
none_missing row raw exit returns entry outcome = rw (entry, outcome, returns) refl

came_back : (call : Call) (raw : TextCall) (outs : Outs) (exit : Times) → outcome_in call raw ≡ Ok outs → exit_in call (Some exit) raw ≡ Ok (Some (record { outs = outs; stamp = exit }))
unfolding returned
came_back call raw outs exit brings = rw brings refl

typed_so : (row : Row) (raw : TextCall) (call : Call) (outs : Outs) (exit : Times) → missing_in row raw ≡ None → row.call raw ≡ Ok call → raw.exit ≡ Some exit → outcome_in call raw ≡ Ok outs
    → typed_by row raw ≡ Ok (record { call = call; enter = raw.enter; exit = Some (record { outs = outs; stamp = exit }) })
unfolding read_by
typed_so row raw call outs exit missing reads returns brings =
    let exited : exit_in call raw.exit raw ≡ Ok (Some (record { outs = outs; stamp = exit })) = ap (λ (o : Option Times). exit_in call o raw) returns ∙ came_back call raw outs exit brings in
    rw (missing, reads, exited) refl

-- no parameter of a send is missing, and none of a receive
sends_all : (raw : TextCall) (more : List Param) (count datatype dest tag comm : List ℕ) → raw.params ≡ send_lines count datatype dest tag comm ++ more
    → first_missing (Count ∷ Datatype ∷ Dest ∷ Tag ∷ Comm ∷ []) raw ≡ None
sends_all raw more count datatype dest tag comm is = rw (text_there Count raw _ is, text_there Datatype raw _ is, text_there Dest raw _ is, text_there Tag raw _ is, text_there Comm raw _ is) refl

receives_all : (raw : TextCall) (more : List Param) (count datatype source tag comm : List ℕ) → raw.params ≡ receive_lines count datatype source tag comm ++ more
    → first_missing (Count ∷ Datatype ∷ Source ∷ Tag ∷ Comm ∷ []) raw ≡ None
receives_all raw more count datatype source tag comm is = rw (text_there Count raw _ is, text_there Datatype raw _ is, text_there Source raw _ is, text_there Tag raw _ is, text_there Comm raw _ is) refl

sent : (mode : Mode) (raw : TextCall) (envelope : Envelope) → envelope_of_send raw ≡ Ok envelope → send_call mode raw ≡ Ok (calls.Send mode envelope)
unfolding send_call
sent mode raw envelope is = rw is refl

isent : (mode : Mode) (raw : TextCall) (envelope : Envelope) → envelope_of_send raw ≡ Ok envelope → isend_call mode raw ≡ Ok (calls.Isend mode envelope)
unfolding isend_call
isent mode raw envelope is = rw is refl

received : (raw : TextCall) (envelope : Envelope) → envelope_of_receive raw ≡ Ok envelope → recv_call raw ≡ Ok (calls.Recv envelope)
unfolding recv_call
received raw envelope is = rw is refl

ireceived : (raw : TextCall) (envelope : Envelope) → envelope_of_receive raw ≡ Ok envelope → irecv_call raw ≡ Ok (calls.Irecv envelope)
unfolding irecv_call
ireceived raw envelope is = rw is refl

was_posted : (raw : TextCall) (number : Num) → number_in Request raw ≡ Ok number → posted raw ≡ Ok (outcomes.Posted (request_by number.name number.value))
unfolding posted request_in
was_posted raw number is = rw is refl

-- the lines of a Send
pub send_call_told : (mode : Mode) (envelope : Envelope) (text rest : List ℕ) → TellsSend envelope text rest → TellsCall (functions.Send mode) (calls.Send mode envelope) outcomes.Nothing 5 text rest
send_call_told mode envelope text rest h = record {
  params = send_lines h.count h.datatype h.dest h.tag h.comm;
  tells = h.tells;
  counted = refl;
  says = λ raw exit params returns.
      let row_is : Row = row (functions.Send mode) raw.name in
      typed_so row_is raw (calls.Send mode envelope) outcomes.Nothing exit
      (none_missing row_is raw exit returns (sends_all raw [] h.count h.datatype h.dest h.tag h.comm params) refl)
      (sent mode raw envelope (h.says raw [] params)) returns refl;
}

-- the lines of an Isend
pub isend_call_told : (mode : Mode) (envelope : Envelope) (number : Num) (text mid rest : List ℕ) → TellsSend envelope text mid → TellsNumber Request number mid rest
    → TellsCall (functions.Isend mode) (calls.Isend mode envelope) (outcomes.Posted (request_by number.name number.value)) 6 text rest
isend_call_told mode envelope number text mid rest h n = record {
  params = send_lines h.count h.datatype h.dest h.tag h.comm ++ param_of Request n.value ∷ [];
  tells = tells_both (send_lines h.count h.datatype h.dest h.tag h.comm) (param_of Request n.value ∷ []) text mid rest h.tells (rest, n.tells, refl);
  counted = refl;
  says = λ raw exit params returns.
      let row_is : Row = row (functions.Isend mode) raw.name in
      let there : text_of Request raw ≡ Some n.value = text_there Request raw _ params in
      let request : first_missing (Request ∷ []) raw ≡ None = rw there refl in
      typed_so row_is raw (calls.Isend mode envelope) (outcomes.Posted (request_by number.name number.value)) exit
      (none_missing row_is raw exit returns (sends_all raw (param_of Request n.value ∷ []) h.count h.datatype h.dest h.tag h.comm params) request)
      (isent mode raw envelope (h.says raw (param_of Request n.value ∷ []) params)) returns
      (was_posted raw number (number_said Request raw n.value number there n.means));
}

-- the lines of an Irecv
pub irecv_call_told : (envelope : Envelope) (number : Num) (text mid rest : List ℕ) → TellsReceive envelope text mid → TellsNumber Request number mid rest
    → TellsCall functions.Irecv (calls.Irecv envelope) (outcomes.Posted (request_by number.name number.value)) 6 text rest
irecv_call_told envelope number text mid rest h n = record {
  params = receive_lines h.count h.datatype h.source h.tag h.comm ++ param_of Request n.value ∷ [];
  tells = tells_both (receive_lines h.count h.datatype h.source h.tag h.comm) (param_of Request n.value ∷ []) text mid rest h.tells (rest, n.tells, refl);
  counted = refl;
  says = λ raw exit params returns.
      let row_is : Row = row functions.Irecv raw.name in
      let there : text_of Request raw ≡ Some n.value = text_there Request raw _ params in
      let request : first_missing (Request ∷ []) raw ≡ None = rw there refl in
      typed_so row_is raw (calls.Irecv envelope) (outcomes.Posted (request_by number.name number.value)) exit
      (none_missing row_is raw exit returns (receives_all raw (param_of Request n.value ∷ []) h.count h.datatype h.source h.tag h.comm params) request)
      (ireceived raw envelope (h.says raw (param_of Request n.value ∷ []) params)) returns
      (was_posted raw number (number_said Request raw n.value number there n.means));
}

pub isend_lines_told : (mode : Mode) (envelope : Envelope) (number : Num) (outs : Outs) (text mid rest : List ℕ) → TellsSend envelope text mid → TellsNumber Request number mid rest → outs ≡ outcomes.Posted (request_by number.name number.value)
    → TellsCall (functions.Isend mode) (calls.Isend mode envelope) outs 6 text rest
isend_lines_told mode envelope number outs text mid rest h n is =
    subst (λ (o : Outs). TellsCall (functions.Isend mode) (calls.Isend mode envelope) o 6 text rest) (sym is) (isend_call_told mode envelope number text mid rest h n)

pub irecv_lines_told : (envelope : Envelope) (number : Num) (outs : Outs) (text mid rest : List ℕ) → TellsReceive envelope text mid → TellsNumber Request number mid rest → outs ≡ outcomes.Posted (request_by number.name number.value)
    → TellsCall functions.Irecv (calls.Irecv envelope) outs 6 text rest
irecv_lines_told envelope number outs text mid rest h n is =
    subst (λ (o : Outs). TellsCall functions.Irecv (calls.Irecv envelope) o 6 text rest) (sym is) (irecv_call_told envelope number text mid rest h n)

-- what the groups of a status tell, by the lines of the outcome
status_said : (raw : TextCall) (params : List Param) (told : Told) → text_of Status raw ≡ first_value (name_of Status) params → told_at (groups_by (first_value (name_of Status) params)) 0 ≡ told
    → told_at (groups_in Status raw) 0 ≡ told
unfolding groups_in
status_said raw params told there says = rw there says

-- the lines of a Recv
pub recv_call_told : (envelope : Envelope) (told : Told) (lines : ℕ) (text mid rest : List ℕ) → TellsReceive envelope text mid → TellsStatus told lines mid rest
    → TellsCall functions.Recv (calls.Recv envelope) (outcomes.Status told) (5 + lines) text rest
recv_call_told envelope told lines text mid rest h s = record {
  params = receive_lines h.count h.datatype h.source h.tag h.comm ++ s.params;
  tells = tells_both (receive_lines h.count h.datatype h.source h.tag h.comm) s.params text mid rest h.tells s.tells;
  counted = ap (λ (n : ℕ). 5 + n) s.counted ∙ sym (length-append (receive_lines h.count h.datatype h.source h.tag h.comm) s.params);
  says = λ raw exit params returns.
      let row_is : Row = row functions.Recv raw.name in
      typed_so row_is raw (calls.Recv envelope) (outcomes.Status told) exit
      (none_missing row_is raw exit returns (receives_all raw s.params h.count h.datatype h.source h.tag h.comm params) refl)
      (received raw envelope (h.says raw s.params params)) returns
      (ap read_status (status_said raw s.params told (text_there Status raw _ params) s.says));
}

-- a status that tells nothing
ignored_read : told_at (groups_from (value_of (codes "<IGNORED>"))) 0 ≡ Nothing
unfolding value_of number_front integer_front
ignored_read = refl

pub ignored : (value : List ℕ) → bytes_eq value (codes "<IGNORED>") ≡ true → told_at (groups_from (value_of value)) 0 ≡ Nothing
ignored value same = ap (λ (t : List ℕ). told_at (groups_from (value_of t)) 0) ((bytes_eq-Decides value (codes "<IGNORED>")).0 same) ∙ ignored_read

-- no line of a status, and one
pub status_absent : (text : List ℕ) → TellsStatus Nothing 0 text text
status_absent text = record { params = []; tells = refl; counted = refl; says = refl }

pub status_told : (value text rest : List ℕ) (told : Told) → Tells (param_of Status value) text rest → told_at (groups_from (value_of value)) 0 ≡ told → TellsStatus told 1 text rest
status_told value text rest told tells says = record { params = param_of Status value ∷ []; tells = (rest, tells, refl); counted = refl; says = says }

-- ---- lines that are passed over

-- the first value of a name, beyond one parameter
first_beyond : (name : List ℕ) (param : Param) (front rest : List Param) (same : Bool) → same_bytes param.name name ≡ same → first_value name (param ∷ front) ≡ None
    → (first_value name front ≡ None → first_value name (front ++ rest) ≡ first_value name rest) → first_value name (param ∷ (front ++ rest)) ≡ first_value name rest
first_beyond name param front rest true is none others = (let found : ◌≡◌ {A = Option (List ℕ)} (Some param.value) None = rw is at none in cc found)
first_beyond name param front rest false is none others = (let left : first_value name front ≡ None = rw is at none in rw is (others left))

-- the first value of a name that a front has not
first_after : (name : List ℕ) (front rest : List Param) → first_value name front ≡ None → first_value name (front ++ rest) ≡ first_value name rest
first_after name [] rest none = refl
first_after name (param ∷ front) rest none = first_beyond name param front rest (same_bytes param.name name) refl none (λ left. first_after name front rest left)

pub nothing_passed : (text : List ℕ) → PassesLines 0 text text
nothing_passed text = record { params = []; tells = refl; counted = refl; root = refl; comm = refl; requests = refl; statuses = refl }

false_first : (p q : Bool) → (not p && q) ≡ true → (p ≡ false) × (q ≡ true)
false_first true q h = cc
false_first false q h = (refl, h)

not_true : (p : Bool) → not p ≡ true → p ≡ false
not_true true h = cc
not_true false h = refl

pub one_passed : (name value text rest : List ℕ) → is_unread name ≡ true → Tells (record { name = name; value = value }) text rest → PassesLines 1 text rest
one_passed name value text rest unread tells =
    let root = false_first (same_bytes name (codes "root")) _ unread in
    let comm = false_first (same_bytes name (codes "comm")) _ root.1 in
    let requests = false_first (same_bytes name (codes "requests")) _ comm.1 in
    let statuses : same_bytes name (codes "statuses") ≡ false = not_true (same_bytes name (codes "statuses")) requests.1 in
    record {
      params = record { name = name; value = value } ∷ [];
      tells = (rest, tells, refl);
      counted = refl;
      root = rw root.0 refl;
      comm = rw comm.0 refl;
      requests = rw requests.0 refl;
      statuses = rw statuses refl;
    }

pub more_passed : (first second : ℕ) (text mid rest : List ℕ) → PassesLines first text mid → PassesLines second mid rest → PassesLines (first + second) text rest
more_passed first second text mid rest a b = record {
  params = a.params ++ b.params;
  tells = tells_both a.params b.params text mid rest a.tells b.tells;
  counted = omega (arith, a.counted, b.counted, length-append a.params b.params);
  root = first_after (name_of Root) a.params b.params a.root ∙ b.root;
  comm = first_after (name_of Comm) a.params b.params a.comm ∙ b.comm;
  requests = first_after (name_of Requests) a.params b.params a.requests ∙ b.requests;
  statuses = first_after (name_of Statuses) a.params b.params a.statuses ∙ b.statuses;
}

-- ---- collective calls

-- no parameter of a call without a root is missing, and none of one with a root
all_of_group : (kind : GroupKind) (raw : TextCall) (comm : List ℕ) → has_root kind ≡ false → text_of Comm raw ≡ Some comm → first_missing (collective_parameters kind) raw ≡ None
all_of_group kind raw comm none there = rw none (rw there refl)

all_of_rooted : (kind : GroupKind) (raw : TextCall) (root comm : List ℕ) → has_root kind ≡ true → text_of Root raw ≡ Some root → text_of Comm raw ≡ Some comm → first_missing (collective_parameters kind) raw ≡ None
all_of_rooted kind raw root comm some there_root there = rw some (rw (there_root, there) refl)

grouped : (kind : GroupKind) (raw : TextCall) (number : Num) (comm : CommRef) → has_root kind ≡ false → (kind_row kind).object ≡ Communicator → number_in Comm raw ≡ Ok number → comm_by number.name number.value ≡ Some comm
    → collective_call kind raw ≡ Ok (calls.Collective (record { kind = kind; root = None; comm = comm }))
unfolding collective_call collective_in named_in
grouped kind raw number comm none object reads is = rw (none, object, reads, is) refl

rooted : (kind : GroupKind) (raw : TextCall) (root number : Num) (rank : Option ℕ) (comm : CommRef) → has_root kind ≡ true → (kind_row kind).object ≡ Communicator → number_in Root raw ≡ Ok root → root_by root.name root.value ≡ Some rank
    → number_in Comm raw ≡ Ok number → comm_by number.name number.value ≡ Some comm
    → collective_call kind raw ≡ Ok (calls.Collective (record { kind = kind; root = rank; comm = comm }))
unfolding collective_call collective_in root_named named_in
rooted kind raw root number rank comm some object reads_root is_root reads is = rw (some, object, reads_root, is_root, reads, is) refl

pub group_call_told : (kind : GroupKind) (passed : ℕ) (number : Num) (comm : CommRef) (collective : CollectiveCall) (text mid rest : List ℕ) → has_root kind ≡ false → (kind_row kind).object ≡ Communicator → PassesLines passed text mid → TellsNumber Comm number mid rest
    → Some comm ≡ comm_by number.name number.value → collective ≡ record { kind = kind; root = None; comm = comm }
    → TellsCall (functions.Collective kind) (calls.Collective collective) outcomes.Nothing (passed + 1) text rest
group_call_told kind passed number comm collective text mid rest none object p n as_comm is =
    let lines : List Param = param_of Comm n.value ∷ [] in
    record {
      params = p.params ++ lines;
      tells = tells_both p.params lines text mid rest p.tells (rest, n.tells, refl);
      counted = ap (λ (k : ℕ). k + 1) p.counted ∙ sym (length-append p.params lines);
      says = λ raw exit params returns.
          let row_is : Row = row (functions.Collective kind) raw.name in
          let there : text_of Comm raw ≡ Some n.value = text_there Comm raw _ params ∙ first_after (name_of Comm) p.params lines p.comm in
          typed_so row_is raw (calls.Collective collective) outcomes.Nothing exit
          (none_missing row_is raw exit returns (all_of_group kind raw n.value none there) refl)
          (grouped kind raw number comm none object (number_said Comm raw n.value number there n.means) (sym as_comm) ∙ ap read_collective (sym is)) returns refl;
    }

pub rooted_call_told : (kind : GroupKind) (passed : ℕ) (root number : Num) (rank : Option ℕ) (comm : CommRef) (collective : CollectiveCall) (text t1 t2 rest : List ℕ) → has_root kind ≡ true → (kind_row kind).object ≡ Communicator → PassesLines passed text t1
    → TellsNumber Root root t1 t2 → TellsNumber Comm number t2 rest → Some rank ≡ root_by root.name root.value → Some comm ≡ comm_by number.name number.value → collective ≡ record { kind = kind; root = rank; comm = comm }
    → TellsCall (functions.Collective kind) (calls.Collective collective) outcomes.Nothing (passed + 2) text rest
rooted_call_told kind passed root number rank comm collective text t1 t2 rest some object p r n as_root as_comm is =
    let lines : List Param = param_of Root r.value ∷ param_of Comm n.value ∷ [] in
    record {
      params = p.params ++ lines;
      tells = tells_both p.params lines text t1 rest p.tells (t2, r.tells, (rest, n.tells, refl));
      counted = ap (λ (k : ℕ). k + 2) p.counted ∙ sym (length-append p.params lines);
      says = λ raw exit params returns.
          let row_is : Row = row (functions.Collective kind) raw.name in
          let there_root : text_of Root raw ≡ Some r.value = text_there Root raw _ params ∙ first_after (name_of Root) p.params lines p.root in
          let there : text_of Comm raw ≡ Some n.value = text_there Comm raw _ params ∙ first_after (name_of Comm) p.params lines p.comm in
          typed_so row_is raw (calls.Collective collective) outcomes.Nothing exit
          (none_missing row_is raw exit returns (all_of_rooted kind raw r.value n.value some there_root there) refl)
          (rooted kind raw root number rank comm some object (number_said Root raw r.value root there_root r.means) (sym as_root) (number_said Comm raw n.value number there n.means) (sym as_comm) ∙ ap read_collective (sym is))
          returns refl;
    }

-- ---- calls that wait for requests

waited : (raw : TextCall) (number : Num) → number_in Request raw ≡ Ok number → wait_call raw ≡ Ok (calls.Wait (request_by number.name number.value))
unfolding wait_call request_in
waited raw number reads = rw reads refl

pub wait_call_told : (number : Num) (request : ℤ) (told : Told) (lines : ℕ) (text mid rest : List ℕ) → TellsNumber Request number text mid → TellsStatus told lines mid rest → request ≡ request_by number.name number.value
    → TellsCall functions.Wait (calls.Wait request) (outcomes.Status told) (1 + lines) text rest
wait_call_told number request told lines text mid rest n s is = record {
  params = param_of Request n.value ∷ s.params;
  tells = (mid, n.tells, s.tells);
  counted = ap (λ (k : ℕ). 1 + k) s.counted ∙ sym (length-append (param_of Request n.value ∷ []) s.params);
  says = λ raw exit params returns.
      let row_is : Row = row functions.Wait raw.name in
      let there : text_of Request raw ≡ Some n.value = text_there Request raw _ params in
      let entry : first_missing (Request ∷ []) raw ≡ None = rw there refl in
      typed_so row_is raw (calls.Wait request) (outcomes.Status told) exit
      (none_missing row_is raw exit returns entry refl)
      (waited raw number (number_said Request raw n.value number there n.means) ∙ ap read_wait (sym is)) returns
      (ap read_status (status_said raw s.params told (text_there Status raw _ params) s.says));
}

pub requests_told : (value text rest : List ℕ) (requests : List ℤ) → Tells (param_of Requests value) text rest → requests_from (value_of value) ≡ Some requests → TellsRequests requests text rest
requests_told value text rest requests tells means = record { value = value; tells = tells; means = means }

pub statuses_absent : (text : List ℕ) (requests : List ℤ) (tolds : List Told) → tolds ≡ tolds_from [] 0 requests → TellsStatuses requests tolds 0 text text
statuses_absent text requests tolds is = record { params = []; tells = refl; counted = refl; says = sym is }

pub statuses_told : (value text rest : List ℕ) (requests : List ℤ) (tolds : List Told) → Tells (param_of Statuses value) text rest → tolds ≡ tolds_from (groups_from (value_of value)) 0 requests → TellsStatuses requests tolds 1 text rest
statuses_told value text rest requests tolds tells is = record { params = param_of Statuses value ∷ []; tells = (rest, tells, refl); counted = refl; says = sym is }

-- the numbers of a value that lists requests
pub record ListsRequests (found : Option Value) (requests : List ℤ) : Type 0 where
  pub value : Value
  pub numbers : List Num
  pub there : found ≡ Some value
  pub means : all_numbers value ≡ Some numbers
  pub named : requests_of numbers ≡ requests

numbers_in_value : (value : Value) (found : Option (List Num)) (requests : List ℤ) → all_numbers value ≡ found → requests_from (Some value) ≡ Some requests → ListsRequests (Some value) requests
numbers_in_value value None requests is means = (let none : ◌≡◌ {A = Option (List ℤ)} None (Some requests) = rw is at means in cc none)
numbers_in_value value (Some numbers) requests is means =
    (let both : ◌≡◌ {A = Option (List ℤ)} (Some (requests_of numbers)) (Some requests) = rw is at means in
    let same : requests_of numbers ≡ requests = cc both in
    record { value = value; numbers = numbers; there = refl; means = is; named = same })

lists_requests : (found : Option Value) (requests : List ℤ) → requests_from found ≡ Some requests → ListsRequests found requests
lists_requests None requests means = cc means
lists_requests (Some value) requests means = numbers_in_value value (all_numbers value) requests refl means

waited_all : (raw : TextCall) (list : List ℕ) (requests : List ℤ) → text_of Requests raw ≡ Some list → requests_from (value_of list) ≡ Some requests → waitall_call raw ≡ Ok (calls.Waitall requests)
unfolding waitall_call requests_in numbers_in
waited_all raw list requests there means =
    let listed = lists_requests (value_of list) requests means in
    rw (there, listed.there, listed.means, listed.named) refl

all_told : (raw : TextCall) (params : List Param) (requests : List ℤ) (tolds : List Told) → text_of Statuses raw ≡ first_value (name_of Statuses) params → tolds_from (groups_by (first_value (name_of Statuses) params)) 0 requests ≡ tolds
    → tolds_from (groups_in Statuses raw) 0 requests ≡ tolds
unfolding groups_in
all_told raw params requests tolds there says = rw there says

pub waitall_call_told : (passed : ℕ) (requests : List ℤ) (tolds : List Told) (lines : ℕ) (text t1 t2 rest : List ℕ) → PassesLines passed text t1 → TellsRequests requests t1 t2 → TellsStatuses requests tolds lines t2 rest
    → TellsCall functions.Waitall (calls.Waitall requests) (outcomes.Statuses tolds) (passed + 1 + lines) text rest
waitall_call_told passed requests tolds lines text t1 t2 rest p r s =
    let listed : List Param = param_of Requests r.value ∷ s.params in
    record {
      params = p.params ++ listed;
      tells = tells_both p.params listed text t1 rest p.tells (t2, r.tells, s.tells);
      counted = omega (arith, p.counted, s.counted, length-append p.params listed, length-append (param_of Requests r.value ∷ []) s.params);
      says = λ raw exit params returns.
          let row_is : Row = row functions.Waitall raw.name in
          let there : text_of Requests raw ≡ Some r.value = text_there Requests raw _ params ∙ first_after (name_of Requests) p.params listed p.requests in
          let there_statuses : text_of Statuses raw ≡ first_value (name_of Statuses) s.params = text_there Statuses raw _ params ∙ first_after (name_of Statuses) p.params listed p.statuses in
          let entry : first_missing (Requests ∷ []) raw ≡ None = rw there refl in
          typed_so row_is raw (calls.Waitall requests) (outcomes.Statuses tolds) exit
          (none_missing row_is raw exit returns entry refl)
          (waited_all raw r.value requests there r.means) returns
          (ap read_statuses (all_told raw s.params requests tolds there_statuses s.says));
    }

-- ---- the whole call

line_front : (kind : Kind) (text rest : List ℕ) → HasLine kind text rest → (front : List ℕ) × (text ≡ front ++ rest)
line_front kind text rest h = (h.line ++ 10 ∷ [], h.front.whole ∙ sym (append_assoc h.line (10 ∷ []) rest))

both_fronts : (text mid rest : List ℕ) → ((front : List ℕ) × (text ≡ front ++ mid)) → ((front : List ℕ) × (mid ≡ front ++ rest)) → (front : List ℕ) × (text ≡ front ++ rest)
both_fronts text mid rest a b = (a.0 ++ b.0, a.1 ∙ ap (λ (t : List ℕ). a.0 ++ t) b.1 ∙ sym (append_assoc a.0 b.0 rest))

lines_front : (params : List Param) (text rest : List ℕ) → TellsAll params text rest → (front : List ℕ) × (text ≡ front ++ rest)
lines_front [] text rest h = ([], h)
lines_front (param ∷ params) text rest h = both_fronts text h.0 rest (line_front _ text h.0 h.1.line) (lines_front params h.0 rest h.2)

-- what follows a front, by its length
pub rest_of_front : (text rest front : List ℕ) → text ≡ front ++ rest → drop (length text - length rest) text ≡ rest
rest_of_front text rest front is =
    let count : length text - length rest ≡ length front = omega (arith, length-append front rest, ap (λ (t : List ℕ). length t) is) in
    ap (λ (n : ℕ). drop n text) count ∙ ap (drop (length front)) is ∙ drop-append_seam front rest

-- A call that stands whole, by its parts.
pub whole_told : (function : Function) (name text inside after rest : List ℕ) (enter exit : Times) (call : Call) (outs : Outs) (count bytes lines : ℕ) → function_named (usual_name function) ≡ function
    → HasLine (Entering name enter) text inside → TellsCall function call outs count inside after → HasLine (Returning name exit) after rest → name ≡ usual_name function → bytes ≡ length text - length rest → lines ≡ count + 2
    → IsWhole function (record { call = call; enter = enter; exit = Some (record { outs = outs; stamp = exit }) }) bytes lines text
whole_told function name text inside after rest enter exit call outs count bytes lines function_is enters told returns name_is bytes_are lines_are =
    let front = both_fronts text inside rest (line_front (Entering name enter) text inside enters) (both_fronts inside after rest (lines_front told.params inside after told.tells) (line_front (Returning name exit) after rest returns)) in
    let left : drop bytes text ≡ rest = ap (λ (n : ℕ). drop n text) bytes_are ∙ rest_of_front text rest front.0 front.1 in
    let stands : HasCall (record { name = name; params = told.params }) enter exit text rest = record { inside = inside; after = after; enters = enters; tells = told.tells; returns = returns } in
    let by_name : HasCall (record { name = usual_name function; params = told.params }) enter exit text rest =
    subst (λ (n : List ℕ). HasCall (record { name = n; params = told.params }) enter exit text rest) name_is stands in
    record {
      params = told.params;
      exit = exit;
      stands = subst (λ (t : List ℕ). HasCall (record { name = usual_name function; params = told.params }) enter exit text t) (sym left) by_name;
      within = omega arith;
      counted = lines_are ∙ ap (λ (n : ℕ). n + 2) told.counted;
      function_is = function_is;
      typed_as = λ at.
          let raw : TextCall = call_after at (record { name = usual_name function; params = told.params }) enter exit in
          subst (λ (f : Function). typed_by (row f (usual_name function)) raw ≡ Ok (record { call = call; enter = enter; exit = Some (record { outs = outs; stamp = exit }) })) (sym function_is) (told.says raw exit refl refl);
    }
