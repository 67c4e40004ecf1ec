-- A call is told by what is kept of it as it is by all of its parameters.
use Rattle.std.proofs.Common.{◌≡◌, ℕ, ℤ, Bool, true, false, ◌||◌, ◌&&◌, is_none, List, [], ◌∷◌, ◌++◌, Option, Some, None, Result, Ok, Err, if◌then◌else◌, refl, sym, ap, subst, ◌∙◌, append_assoc}
use Rattle.std.proofs.lemmas.List.{append-nil}
use Rattle.std.proofs.lemmas.Slice.Eq.{bytes_eq-Decides}
use Rattle.std.specs.Str.{bytes_eq}
use Rattle.mpi_model.specs.Kinds.{has_nonblocking, has_root, row as kind_row}
use Rattle.mpi_model.specs.declared.kind.ObjectParameter.{ObjectParameter}
use Rattle.mpi_model.specs.declared.kind.ObjectParameter.TheVariants as objects
use Rattle.mpi_model.specs.declared.object.Object.{Object}
use Rattle.mpi_model.specs.Times.{Times}
use Rattle.mpi_model.specs.Ranges.{CollectiveCall, Probed}
use Rattle.mpi_model.specs.declared.call.Call.{Call}
use Rattle.mpi_model.specs.declared.call.Call.TheVariants as calls
use Rattle.mpi_model.specs.declared.envelope.CommRef.{CommRef}
use Rattle.mpi_model.specs.declared.envelope.Envelope.{Envelope}
use Rattle.mpi_model.specs.declared.envelope.Mode.{Mode}
use Rattle.mpi_model.specs.declared.event.Exit.{Exit}
use Rattle.mpi_model.specs.declared.kind.Kind.{Kind}
use Rattle.mpi_model.specs.declared.outcome.Outs.{Outs}
use Rattle.dumpi_text.specs.Call.{Param, TextCall, first_value, same_bytes}
use Rattle.dumpi_text.specs.Kept.{kept_after, kept_call, more_kept}
use Rattle.dumpi_calls.specs.Looked.{is_named_in, looked_choice, looked_parameters}
use Rattle.dumpi_calls.specs.Outcomes.{all_done, any_done, flag, groups_in, index, index_where_set, indices_in, is_flagged, outcome_in, posted, posted_or_nothing, started, several, status, statuses}
use Rattle.dumpi_calls.specs.Readings.{◌>>=◌, asked_tag_in, comm_in, dest_in, name_of, non_negative_in, number_in, numbers_in, named_in, first_object, object_from, object_in, object_parameters, or_the_next, request_in, requests_in, root_in, root_named, source_in, text_of}
use Rattle.dumpi_calls.specs.Rows.{Row, cancel_call, collective_call, collective_in, collective_parameters, envelope_of, envelope_of_receive, envelope_of_send, exit_in, first_missing, free_call, function_named, icollective_call, improbe_call, iprobe_call, is_started, made_on, object_call, object_or_local, probe_or_local, started_call, started_request, irecv_call, isend_call, missing_by, missing_in, mprobe_call, probe_call, probe_parameters, probed_in, read_by, receive_parameters, receive_part, recv_call, recv_init_call, returned, row, send_call, send_init_call, send_parameters, send_part, sendrecv_call, sendrecv_parameters, sendrecv_replace_call, sendrecv_replace_parameters, start_call, startall_call, test_call, testall_call, testany_call, testsome_call, typed, typed_by, unless_missing, wait_call, waitall_call, waitany_call, waitsome_call}
use Rattle.dumpi_calls.specs.declared.envelope.Part.{Part}
use Rattle.dumpi_calls.specs.declared.function.Function.{Function}
use Rattle.dumpi_calls.specs.declared.function.Function.TheVariants as functions
use Rattle.dumpi_calls.specs.declared.parameter.CallFault.{CallFault}
use Rattle.dumpi_calls.specs.declared.parameter.Parameter.{Parameter}
use Rattle.dumpi_calls.specs.declared.parameter.Parameter.TheVariants.{Count, Datatype, Dest, Source, Tag, Comm, OldComm, CommOld, LocalComm, Intercomm, Win, Fh, File, SendCount, SendType, SendTag, RecvCount, RecvType, RecvTag, Root, Request, Requests, Index, Indices, Flag, Status, Statuses}
use Rattle.dumpi_calls.specs.declared.typing.TypedCall.{TypedCall}
use Rattle.dumpi_calls.proofs.Names.{same_test}

-- ---- what is kept: the first of each name

still_first : (name value : List ℕ) (same : Bool) (param : Param) (kept more : List Param) → same_bytes param.name name ≡ same → (first_value name kept ≡ Some value → first_value name (kept ++ more) ≡ Some value)
    → first_value name (param ∷ kept) ≡ Some value → first_value name (param ∷ (kept ++ more)) ≡ Some value
still_first name value true param kept more is others e = (let found : Some param.value ≡ Some value = rw is at e in rw is found)
still_first name value false param kept more is others e = (let left : first_value name kept ≡ Some value = rw is at e in rw is (others left))

value_before : (name value : List ℕ) (kept more : List Param) → first_value name kept ≡ Some value → first_value name (kept ++ more) ≡ Some value
value_before name value [] more e = cc
value_before name value (param ∷ kept) more e = still_first name value (same_bytes param.name name) param kept more refl (λ left. value_before name value kept more left) e

still_none : (name : List ℕ) (same : Bool) (param : Param) (kept more : List Param) → same_bytes param.name name ≡ same → (first_value name kept ≡ None → first_value name (kept ++ more) ≡ first_value name more)
    → first_value name (param ∷ kept) ≡ None → first_value name (param ∷ (kept ++ more)) ≡ first_value name more
still_none name true param kept more is others e = (let found : ◌≡◌ {A = Option (List ℕ)} (Some param.value) None = rw is at e in cc found)
still_none name false param kept more is others e = (let left : first_value name kept ≡ None = rw is at e in rw is (others left))

none_before : (name : List ℕ) (kept more : List Param) → first_value name kept ≡ None → first_value name (kept ++ more) ≡ first_value name more
none_before name [] more e = refl
none_before name (param ∷ kept) more e = still_none name (same_bytes param.name name) param kept more refl (λ left. none_before name kept more left) e

-- a parameter that isn't kept though none of this name is has another name
another_name : (function name : List ℕ) (kept : List Param) (param : Param) (same : Bool) → is_named_in (looked_parameters (function_named function)) name ≡ true → first_value name kept ≡ None
    → looked_choice function kept param.name ≡ false → same_bytes param.name name ≡ same → same ≡ false
another_name function name kept param false named none left is = refl
another_name function name kept param true named none left is =
    let equal : param.name ≡ name = (bytes_eq-Decides param.name name).0 (same_test param.name name ∙ is) in
    let chosen : looked_choice function kept name ≡ true = ap (λ (found : Option (List ℕ)). is_none found && is_named_in (looked_parameters (function_named function)) name) none ∙ named in
    let both : looked_choice function kept param.name ≡ true = subst (λ (n : List ℕ). looked_choice function kept n ≡ true) (sym equal) chosen in
    sym both ∙ left

beyond_other : (name : List ℕ) (param : Param) (more : List Param) → same_bytes param.name name ≡ false → first_value name (param ∷ more) ≡ first_value name more
beyond_other name param more e = rw e refl

-- the first of a name that is looked at, whether a parameter that isn't kept stands there or not
left_out : (function name : List ℕ) (kept : List Param) (param : Param) (more : List Param) (found : Option (List ℕ)) → is_named_in (looked_parameters (function_named function)) name ≡ true
    → looked_choice function kept param.name ≡ false → first_value name kept ≡ found → first_value name (kept ++ more) ≡ first_value name (kept ++ param ∷ more)
left_out function name kept param more (Some value) named left is = value_before name value kept more is ∙ sym (value_before name value kept (param ∷ more) is)
left_out function name kept param more None named left is =
    none_before name kept more is ∙ sym (beyond_other name param more (another_name function name kept param (same_bytes param.name name) named is left refl)) ∙ sym (none_before name kept (param ∷ more) is)

one_line : (function name : List ℕ) (kept : List Param) (param : Param) (more : List Param) (chosen : Bool) → is_named_in (looked_parameters (function_named function)) name ≡ true
    → looked_choice function kept param.name ≡ chosen → first_value name ((if chosen then kept ++ param ∷ [] else kept) ++ more) ≡ first_value name (kept ++ param ∷ more)
one_line function name kept param more true named is = ap (first_value name) (append_assoc kept (param ∷ []) more)
one_line function name kept param more false named is = left_out function name kept param more (first_value name kept) named is refl

kept_first : (function name : List ℕ) → is_named_in (looked_parameters (function_named function)) name ≡ true → (kept params : List Param) → first_value name (kept_after looked_choice function kept params) ≡ first_value name (kept ++ params)
kept_first function name named kept [] = ap (first_value name) (sym (append-nil kept))
kept_first function name named kept (param ∷ params) =
    kept_first function name named (more_kept looked_choice function kept param) params ∙ one_line function name kept param params (looked_choice function kept param.name) named refl

kept_text : (raw : TextCall) (parameter : Parameter) → is_named_in (looked_parameters (function_named raw.name)) (name_of parameter) ≡ true → text_of parameter (kept_call looked_choice raw) ≡ text_of parameter raw
unfolding text_of
kept_text raw parameter named = kept_first raw.name (name_of parameter) named [] raw.params

-- ---- calls that say the same by these parameters

record SameTold (looked : List Parameter) (a b : TextCall) : Type 0 where
  texts : (parameter : Parameter) → is_named_in looked (name_of parameter) ≡ true → text_of parameter a ≡ text_of parameter b
  enter : a.enter ≡ b.enter
  exit : a.exit ≡ b.exit

number_same : (parameter : Parameter) (a b : TextCall) → text_of parameter a ≡ text_of parameter b → number_in parameter a ≡ number_in parameter b
unfolding number_in
number_same parameter a b e = rw e refl

numbers_same : (parameter : Parameter) (a b : TextCall) → text_of parameter a ≡ text_of parameter b → numbers_in parameter a ≡ numbers_in parameter b
unfolding numbers_in
numbers_same parameter a b e = rw e refl

non_negative_same : (parameter : Parameter) (a b : TextCall) → text_of parameter a ≡ text_of parameter b → non_negative_in parameter a ≡ non_negative_in parameter b
unfolding non_negative_in
non_negative_same parameter a b e = rw (number_same parameter a b e) refl

dest_same : (a b : TextCall) → text_of Dest a ≡ text_of Dest b → dest_in a ≡ dest_in b
unfolding dest_in
dest_same a b e = rw (number_same Dest a b e) refl

source_same : (a b : TextCall) → text_of Source a ≡ text_of Source b → source_in a ≡ source_in b
unfolding source_in
source_same a b e = rw (number_same Source a b e) refl

asked_tag_same : (parameter : Parameter) (a b : TextCall) → text_of parameter a ≡ text_of parameter b → asked_tag_in parameter a ≡ asked_tag_in parameter b
unfolding asked_tag_in
asked_tag_same parameter a b e = rw (number_same parameter a b e) refl

root_same : (a b : TextCall) → text_of Root a ≡ text_of Root b → root_named a ≡ root_named b
unfolding root_named
root_same a b e = rw (number_same Root a b e) refl

comm_same : (a b : TextCall) → text_of Comm a ≡ text_of Comm b → comm_in a ≡ comm_in b
unfolding comm_in
comm_same a b e = rw (number_same Comm a b e) refl

named_same : (object : Object) (a b : TextCall) → text_of Comm a ≡ text_of Comm b → named_in object a ≡ named_in object b
unfolding named_in
named_same object a b e = rw (number_same Comm a b e) refl

-- the parameters say the same in both
abbrev AreSame : List Parameter → TextCall → TextCall → Type 0
AreSame [] a b = Unit {0}
AreSame (parameter ∷ parameters) a b = (text_of parameter a ≡ text_of parameter b) × AreSame parameters a b

one_object : (object : Object) (parameter : Parameter) (a b : TextCall) (first second : Option CommRef) (x y : Option (List ℕ)) → number_in parameter a ≡ number_in parameter b → first ≡ second → x ≡ y
    → or_the_next object parameter x a first ≡ or_the_next object parameter y b second
one_object object parameter a b first second None y number same e = subst (λ (t : Option (List ℕ)). first ≡ or_the_next object parameter t b second) e same
one_object object parameter a b first second (Some x) y number same e =
    subst (λ (t : Option (List ℕ)). object_from object (number_in parameter a) ≡ or_the_next object parameter t b second) e (ap (object_from object) number)

first_object_same : (object : Object) (parameters : List Parameter) (a b : TextCall) → AreSame parameters a b → first_object object parameters a ≡ first_object object parameters b
first_object_same object [] a b same = refl
first_object_same object (parameter ∷ parameters) a b same =
    one_object object parameter a b (first_object object parameters a) (first_object object parameters b) (text_of parameter a) (text_of parameter b) (number_same parameter a b same.0)
    (first_object_same object parameters a b same.1) same.0

request_same : (a b : TextCall) → text_of Request a ≡ text_of Request b → request_in a ≡ request_in b
unfolding request_in
request_same a b e = rw (number_same Request a b e) refl

requests_same : (a b : TextCall) → text_of Requests a ≡ text_of Requests b → requests_in a ≡ requests_in b
unfolding requests_in
requests_same a b e = rw (numbers_same Requests a b e) refl

groups_same : (parameter : Parameter) (a b : TextCall) → text_of parameter a ≡ text_of parameter b → groups_in parameter a ≡ groups_in parameter b
unfolding groups_in
groups_same parameter a b e = rw e refl

indices_same : (a b : TextCall) → text_of Indices a ≡ text_of Indices b → indices_in a ≡ indices_in b
unfolding indices_in
indices_same a b e = rw e refl

-- ---- envelopes

send_part_same : (count datatype tag : Parameter) (a b : TextCall) → text_of count a ≡ text_of count b → text_of datatype a ≡ text_of datatype b → text_of Dest a ≡ text_of Dest b → text_of tag a ≡ text_of tag b
    → send_part count datatype tag a ≡ send_part count datatype tag b
unfolding send_part
send_part_same count datatype tag a b c d p t = rw (non_negative_same count a b c, number_same datatype a b d, dest_same a b p, non_negative_same tag a b t) refl

receive_part_same : (count datatype tag : Parameter) (a b : TextCall) → text_of count a ≡ text_of count b → text_of datatype a ≡ text_of datatype b → text_of Source a ≡ text_of Source b → text_of tag a ≡ text_of tag b
    → receive_part count datatype tag a ≡ receive_part count datatype tag b
unfolding receive_part
receive_part_same count datatype tag a b c d p t = rw (non_negative_same count a b c, number_same datatype a b d, source_same a b p, asked_tag_same tag a b t) refl

send_same : (a b : TextCall) → text_of Count a ≡ text_of Count b → text_of Datatype a ≡ text_of Datatype b → text_of Dest a ≡ text_of Dest b → text_of Tag a ≡ text_of Tag b → text_of Comm a ≡ text_of Comm b
    → envelope_of_send a ≡ envelope_of_send b
unfolding envelope_of_send
send_same a b c d p t m = rw (send_part_same Count Datatype Tag a b c d p t, comm_same a b m) refl

receive_same : (a b : TextCall) → text_of Count a ≡ text_of Count b → text_of Datatype a ≡ text_of Datatype b → text_of Source a ≡ text_of Source b → text_of Tag a ≡ text_of Tag b → text_of Comm a ≡ text_of Comm b
    → envelope_of_receive a ≡ envelope_of_receive b
unfolding envelope_of_receive
receive_same a b c d p t m = rw (receive_part_same Count Datatype Tag a b c d p t, comm_same a b m) refl

probed_same : (a b : TextCall) → text_of Source a ≡ text_of Source b → text_of Tag a ≡ text_of Tag b → text_of Comm a ≡ text_of Comm b → probed_in a ≡ probed_in b
unfolding probed_in
probed_same a b p t m = rw (source_same a b p, asked_tag_same Tag a b t, comm_same a b m) refl

-- ---- what returned calls bring back

posted_same : (a b : TextCall) → text_of Request a ≡ text_of Request b → posted a ≡ posted b
unfolding posted
posted_same a b e = rw (request_same a b e) refl

started_same : (is_communication : Bool) (a b : TextCall) → text_of Request a ≡ text_of Request b → started is_communication a ≡ started is_communication b
started_same true a b e = posted_same a b e
started_same false a b e = ap (λ (said : Result Outs CallFault). Ok (posted_or_nothing said)) (posted_same a b e)

status_same : (a b : TextCall) → text_of Status a ≡ text_of Status b → ◌≡◌ {A = Result Outs CallFault} (Ok (status a)) (Ok (status b))
status_same a b e = rw (groups_same Status a b e) refl

statuses_same : (requests : List ℤ) (a b : TextCall) → text_of Statuses a ≡ text_of Statuses b → statuses requests a ≡ statuses requests b
statuses_same requests a b e = rw (groups_same Statuses a b e) refl

index_same : (requests : List ℤ) (a b : TextCall) → text_of Index a ≡ text_of Index b → text_of Status a ≡ text_of Status b → index requests a ≡ index requests b
unfolding index
index_same requests a b i s = rw (number_same Index a b i, groups_same Status a b s) refl

several_same : (requests : List ℤ) (a b : TextCall) → text_of Indices a ≡ text_of Indices b → text_of Statuses a ≡ text_of Statuses b → ◌≡◌ {A = Result Outs CallFault} (Ok (several requests a)) (Ok (several requests b))
several_same requests a b i s = rw (indices_same a b i, groups_same Statuses a b s) refl

flag_same : (a b : TextCall) → text_of Flag a ≡ text_of Flag b → text_of Status a ≡ text_of Status b → flag a ≡ flag b
unfolding flag
flag_same a b f s = rw (number_same Flag a b f, groups_same Status a b s) refl

all_done_same : (requests : List ℤ) (a b : TextCall) → text_of Flag a ≡ text_of Flag b → text_of Statuses a ≡ text_of Statuses b → all_done requests a ≡ all_done requests b
unfolding all_done
all_done_same requests a b f s = rw (number_same Flag a b f, groups_same Statuses a b s) refl

any_done_same : (requests : List ℤ) (a b : TextCall) → text_of Flag a ≡ text_of Flag b → text_of Index a ≡ text_of Index b → text_of Status a ≡ text_of Status b → any_done requests a ≡ any_done requests b
unfolding any_done
any_done_same requests a b f i s = rw (number_same Flag a b f, index_same requests a b i s) refl

-- ---- parameters that are missing

missing_same : (parameters : List Parameter) (a b : TextCall) → AreSame parameters a b → first_missing parameters a ≡ first_missing parameters b
missing_same [] a b same = refl
missing_same (parameter ∷ parameters) a b same = rw (same.0, missing_same parameters a b same.1) refl

index_missing : (is_set : Bool) (a b : TextCall) → text_of Index a ≡ text_of Index b → first_missing (if is_set then Index ∷ [] else []) a ≡ first_missing (if is_set then Index ∷ [] else []) b
index_missing true a b e = rw e refl
index_missing false a b e = refl

flag_missing : (a b : TextCall) → text_of Flag a ≡ text_of Flag b → text_of Index a ≡ text_of Index b → first_missing (Flag ∷ index_where_set a) a ≡ first_missing (Flag ∷ index_where_set b) b
flag_missing a b f i = rw (f, number_same Flag a b f, index_missing (is_flagged (number_in Flag b)) a b i) refl

-- ---- whole calls

-- how a call is read that returned so, if it did
abbrev finished : Call → Times → Result (Option Exit) CallFault → Result TypedCall CallFault
finished call enter said = do
  exit ← said
  Ok (record { call = call; enter = enter; exit = exit })

abbrev read_from : Result Call CallFault → TextCall → Result TypedCall CallFault
read_from called raw = do
  call ← called
  finished call raw.enter (exit_in call raw.exit raw)

exit_same : (call : Call) (exit : Option Times) (a b : TextCall) → outcome_in call a ≡ outcome_in call b → exit_in call exit a ≡ exit_in call exit b
unfolding returned
exit_same call None a b e = refl
exit_same call (Some stamp) a b e = rw e refl

read_one : (call : Call) (a b : TextCall) → a.enter ≡ b.enter → a.exit ≡ b.exit → outcome_in call a ≡ outcome_in call b → read_from (Ok call) a ≡ read_from (Ok call) b
read_one call a b enter exit e =
    ap (λ (at : Option Times). finished call a.enter (exit_in call at a)) exit ∙ ap (λ (at : Times). finished call at (exit_in call b.exit a)) enter
    ∙ ap (λ (said : Result (Option Exit) CallFault). finished call b.enter said) (exit_same call b.exit a b e)

read_made : {A : Type 0} → (made : A → Call) (said : Result A CallFault) (a b : TextCall) → a.enter ≡ b.enter → a.exit ≡ b.exit → ((value : A) → outcome_in (made value) a ≡ outcome_in (made value) b)
    → read_from (said >>= (λ value. Ok (made value))) a ≡ read_from (said >>= (λ value. Ok (made value))) b
read_made made (Ok value) a b enter exit e = read_one (made value) a b enter exit (e value)
read_made made (Err fault) a b enter exit e = refl

read_as : {A : Type 0} → (made : A → Call) (first second : Result A CallFault) (a b : TextCall) → first ≡ second → a.enter ≡ b.enter → a.exit ≡ b.exit → ((value : A) → outcome_in (made value) a ≡ outcome_in (made value) b)
    → read_from (first >>= (λ value. Ok (made value))) a ≡ read_from (second >>= (λ value. Ok (made value))) b
read_as {A = A} made first second a b same enter exit e = ap (λ (said : Result A CallFault). read_from (said >>= (λ value. Ok (made value))) a) same ∙ read_made made second a b enter exit e

typed_same : (r : Row) (a b : TextCall) → first_missing r.entry a ≡ first_missing r.entry b → first_missing (r.outcome a) a ≡ first_missing (r.outcome b) b → a.exit ≡ b.exit → read_by r a ≡ read_by r b → typed_by r a ≡ typed_by r b
typed_same r a b entry outcome exit read =
    ap (λ (first : Option Parameter). unless_missing (missing_by first a.exit (first_missing (r.outcome a) a)) (read_by r a)) entry
    ∙ ap (λ (first : Option Parameter). unless_missing (missing_by (first_missing r.entry b) a.exit first) (read_by r a)) outcome
    ∙ ap (λ (at : Option Times). unless_missing (missing_by (first_missing r.entry b) at (first_missing (r.outcome b) b)) (read_by r a)) exit
    ∙ ap (λ (said : Result TypedCall CallFault). unless_missing (missing_in r b) said) read

send_typed : (mode : Mode) (name : List ℕ) (a b : TextCall) → SameTold (looked_parameters (functions.Send mode)) a b → typed_by (row (functions.Send mode) name) a ≡ typed_by (row (functions.Send mode) name) b
unfolding read_by send_call
send_typed mode name a b s =
    typed_same (row (functions.Send mode) name) a b (missing_same send_parameters a b (s.texts Count refl, (s.texts Datatype refl, (s.texts Dest refl, (s.texts Tag refl, (s.texts Comm refl, tt)))))) (missing_same [] a b tt) s.exit
    (read_as {A = Envelope} (λ value. calls.Send mode value) (envelope_of_send a) (envelope_of_send b) a b (send_same a b (s.texts Count refl) (s.texts Datatype refl) (s.texts Dest refl) (s.texts Tag refl) (s.texts Comm refl)) s.enter s.exit (λ value. refl))

isend_typed : (mode : Mode) (name : List ℕ) (a b : TextCall) → SameTold (looked_parameters (functions.Isend mode)) a b → typed_by (row (functions.Isend mode) name) a ≡ typed_by (row (functions.Isend mode) name) b
unfolding read_by isend_call
isend_typed mode name a b s =
    typed_same (row (functions.Isend mode) name) a b (missing_same send_parameters a b (s.texts Count refl, (s.texts Datatype refl, (s.texts Dest refl, (s.texts Tag refl, (s.texts Comm refl, tt)))))) (missing_same (Request ∷ []) a b (s.texts Request refl, tt)) s.exit
    (read_as {A = Envelope} (λ value. calls.Isend mode value) (envelope_of_send a) (envelope_of_send b) a b (send_same a b (s.texts Count refl) (s.texts Datatype refl) (s.texts Dest refl) (s.texts Tag refl) (s.texts Comm refl)) s.enter s.exit (λ value. posted_same a b (s.texts Request refl)))

recv_typed : (name : List ℕ) (a b : TextCall) → SameTold (looked_parameters functions.Recv) a b → typed_by (row functions.Recv name) a ≡ typed_by (row functions.Recv name) b
unfolding read_by recv_call
recv_typed name a b s =
    typed_same (row functions.Recv name) a b (missing_same receive_parameters a b (s.texts Count refl, (s.texts Datatype refl, (s.texts Source refl, (s.texts Tag refl, (s.texts Comm refl, tt)))))) (missing_same [] a b tt) s.exit
    (read_as {A = Envelope} (λ value. calls.Recv value) (envelope_of_receive a) (envelope_of_receive b) a b (receive_same a b (s.texts Count refl) (s.texts Datatype refl) (s.texts Source refl) (s.texts Tag refl) (s.texts Comm refl)) s.enter s.exit (λ value. status_same a b (s.texts Status refl)))

irecv_typed : (name : List ℕ) (a b : TextCall) → SameTold (looked_parameters functions.Irecv) a b → typed_by (row functions.Irecv name) a ≡ typed_by (row functions.Irecv name) b
unfolding read_by irecv_call
irecv_typed name a b s =
    typed_same (row functions.Irecv name) a b (missing_same receive_parameters a b (s.texts Count refl, (s.texts Datatype refl, (s.texts Source refl, (s.texts Tag refl, (s.texts Comm refl, tt)))))) (missing_same (Request ∷ []) a b (s.texts Request refl, tt)) s.exit
    (read_as {A = Envelope} (λ value. calls.Irecv value) (envelope_of_receive a) (envelope_of_receive b) a b (receive_same a b (s.texts Count refl) (s.texts Datatype refl) (s.texts Source refl) (s.texts Tag refl) (s.texts Comm refl)) s.enter s.exit (λ value. posted_same a b (s.texts Request refl)))

send_init_typed : (mode : Mode) (name : List ℕ) (a b : TextCall) → SameTold (looked_parameters (functions.SendInit mode)) a b → typed_by (row (functions.SendInit mode) name) a ≡ typed_by (row (functions.SendInit mode) name) b
unfolding read_by send_init_call
send_init_typed mode name a b s =
    typed_same (row (functions.SendInit mode) name) a b (missing_same send_parameters a b (s.texts Count refl, (s.texts Datatype refl, (s.texts Dest refl, (s.texts Tag refl, (s.texts Comm refl, tt)))))) (missing_same (Request ∷ []) a b (s.texts Request refl, tt)) s.exit
    (read_as {A = Envelope} (λ value. calls.SendInit mode value) (envelope_of_send a) (envelope_of_send b) a b (send_same a b (s.texts Count refl) (s.texts Datatype refl) (s.texts Dest refl) (s.texts Tag refl) (s.texts Comm refl)) s.enter s.exit (λ value. posted_same a b (s.texts Request refl)))

recv_init_typed : (name : List ℕ) (a b : TextCall) → SameTold (looked_parameters functions.RecvInit) a b → typed_by (row functions.RecvInit name) a ≡ typed_by (row functions.RecvInit name) b
unfolding read_by recv_init_call
recv_init_typed name a b s =
    typed_same (row functions.RecvInit name) a b (missing_same receive_parameters a b (s.texts Count refl, (s.texts Datatype refl, (s.texts Source refl, (s.texts Tag refl, (s.texts Comm refl, tt)))))) (missing_same (Request ∷ []) a b (s.texts Request refl, tt)) s.exit
    (read_as {A = Envelope} (λ value. calls.RecvInit value) (envelope_of_receive a) (envelope_of_receive b) a b (receive_same a b (s.texts Count refl) (s.texts Datatype refl) (s.texts Source refl) (s.texts Tag refl) (s.texts Comm refl)) s.enter s.exit (λ value. posted_same a b (s.texts Request refl)))

probe_typed : (name : List ℕ) (a b : TextCall) → SameTold (looked_parameters functions.Probe) a b → typed_by (row functions.Probe name) a ≡ typed_by (row functions.Probe name) b
unfolding read_by probe_call
probe_typed name a b s =
    typed_same (row functions.Probe name) a b (missing_same probe_parameters a b (s.texts Source refl, (s.texts Tag refl, (s.texts Comm refl, tt)))) (missing_same [] a b tt) s.exit
    (read_as {A = Probed} (λ value. calls.Probe value) (probed_in a) (probed_in b) a b (probed_same a b (s.texts Source refl) (s.texts Tag refl) (s.texts Comm refl)) s.enter s.exit (λ value. status_same a b (s.texts Status refl)))

mprobe_typed : (name : List ℕ) (a b : TextCall) → SameTold (looked_parameters functions.Mprobe) a b → typed_by (row functions.Mprobe name) a ≡ typed_by (row functions.Mprobe name) b
unfolding read_by mprobe_call
mprobe_typed name a b s =
    typed_same (row functions.Mprobe name) a b (missing_same probe_parameters a b (s.texts Source refl, (s.texts Tag refl, (s.texts Comm refl, tt)))) (missing_same [] a b tt) s.exit
    (read_as {A = Probed} (λ value. calls.Mprobe value) (probed_in a) (probed_in b) a b (probed_same a b (s.texts Source refl) (s.texts Tag refl) (s.texts Comm refl)) s.enter s.exit (λ value. status_same a b (s.texts Status refl)))

improbe_typed : (name : List ℕ) (a b : TextCall) → SameTold (looked_parameters functions.Improbe) a b → typed_by (row functions.Improbe name) a ≡ typed_by (row functions.Improbe name) b
unfolding read_by improbe_call
improbe_typed name a b s =
    typed_same (row functions.Improbe name) a b (missing_same probe_parameters a b (s.texts Source refl, (s.texts Tag refl, (s.texts Comm refl, tt)))) (missing_same (Flag ∷ []) a b (s.texts Flag refl, tt)) s.exit
    (read_as {A = Probed} (λ value. calls.Improbe value) (probed_in a) (probed_in b) a b (probed_same a b (s.texts Source refl) (s.texts Tag refl) (s.texts Comm refl)) s.enter s.exit (λ value. flag_same a b (s.texts Flag refl) (s.texts Status refl)))

wait_typed : (name : List ℕ) (a b : TextCall) → SameTold (looked_parameters functions.Wait) a b → typed_by (row functions.Wait name) a ≡ typed_by (row functions.Wait name) b
unfolding read_by wait_call
wait_typed name a b s =
    typed_same (row functions.Wait name) a b (missing_same (Request ∷ []) a b (s.texts Request refl, tt)) (missing_same [] a b tt) s.exit
    (read_as {A = ℤ} (λ value. calls.Wait value) (request_in a) (request_in b) a b (request_same a b (s.texts Request refl)) s.enter s.exit (λ value. status_same a b (s.texts Status refl)))

test_typed : (name : List ℕ) (a b : TextCall) → SameTold (looked_parameters functions.Test) a b → typed_by (row functions.Test name) a ≡ typed_by (row functions.Test name) b
unfolding read_by test_call
test_typed name a b s =
    typed_same (row functions.Test name) a b (missing_same (Request ∷ []) a b (s.texts Request refl, tt)) (missing_same (Flag ∷ []) a b (s.texts Flag refl, tt)) s.exit
    (read_as {A = ℤ} (λ value. calls.Test value) (request_in a) (request_in b) a b (request_same a b (s.texts Request refl)) s.enter s.exit (λ value. flag_same a b (s.texts Flag refl) (s.texts Status refl)))

cancel_typed : (name : List ℕ) (a b : TextCall) → SameTold (looked_parameters functions.Cancel) a b → typed_by (row functions.Cancel name) a ≡ typed_by (row functions.Cancel name) b
unfolding read_by cancel_call
cancel_typed name a b s =
    typed_same (row functions.Cancel name) a b (missing_same (Request ∷ []) a b (s.texts Request refl, tt)) (missing_same [] a b tt) s.exit
    (read_as {A = ℤ} (λ value. calls.Cancel value) (request_in a) (request_in b) a b (request_same a b (s.texts Request refl)) s.enter s.exit (λ value. refl))

free_typed : (name : List ℕ) (a b : TextCall) → SameTold (looked_parameters functions.Free) a b → typed_by (row functions.Free name) a ≡ typed_by (row functions.Free name) b
unfolding read_by free_call
free_typed name a b s =
    typed_same (row functions.Free name) a b (missing_same (Request ∷ []) a b (s.texts Request refl, tt)) (missing_same [] a b tt) s.exit
    (read_as {A = ℤ} (λ value. calls.Free value) (request_in a) (request_in b) a b (request_same a b (s.texts Request refl)) s.enter s.exit (λ value. refl))

start_typed : (name : List ℕ) (a b : TextCall) → SameTold (looked_parameters functions.Start) a b → typed_by (row functions.Start name) a ≡ typed_by (row functions.Start name) b
unfolding read_by start_call
start_typed name a b s =
    typed_same (row functions.Start name) a b (missing_same (Request ∷ []) a b (s.texts Request refl, tt)) (missing_same [] a b tt) s.exit
    (read_as {A = ℤ} (λ value. calls.Start value) (request_in a) (request_in b) a b (request_same a b (s.texts Request refl)) s.enter s.exit (λ value. refl))

startall_typed : (name : List ℕ) (a b : TextCall) → SameTold (looked_parameters functions.Startall) a b → typed_by (row functions.Startall name) a ≡ typed_by (row functions.Startall name) b
unfolding read_by startall_call
startall_typed name a b s =
    typed_same (row functions.Startall name) a b (missing_same (Requests ∷ []) a b (s.texts Requests refl, tt)) (missing_same [] a b tt) s.exit
    (read_as {A = List ℤ} (λ value. calls.Startall value) (requests_in a) (requests_in b) a b (requests_same a b (s.texts Requests refl)) s.enter s.exit (λ value. refl))

waitall_typed : (name : List ℕ) (a b : TextCall) → SameTold (looked_parameters functions.Waitall) a b → typed_by (row functions.Waitall name) a ≡ typed_by (row functions.Waitall name) b
unfolding read_by waitall_call
waitall_typed name a b s =
    typed_same (row functions.Waitall name) a b (missing_same (Requests ∷ []) a b (s.texts Requests refl, tt)) (missing_same [] a b tt) s.exit
    (read_as {A = List ℤ} (λ value. calls.Waitall value) (requests_in a) (requests_in b) a b (requests_same a b (s.texts Requests refl)) s.enter s.exit (λ value. ap Ok (statuses_same value a b (s.texts Statuses refl))))

waitany_typed : (name : List ℕ) (a b : TextCall) → SameTold (looked_parameters functions.Waitany) a b → typed_by (row functions.Waitany name) a ≡ typed_by (row functions.Waitany name) b
unfolding read_by waitany_call
waitany_typed name a b s =
    typed_same (row functions.Waitany name) a b (missing_same (Requests ∷ []) a b (s.texts Requests refl, tt)) (missing_same (Index ∷ []) a b (s.texts Index refl, tt)) s.exit
    (read_as {A = List ℤ} (λ value. calls.Waitany value) (requests_in a) (requests_in b) a b (requests_same a b (s.texts Requests refl)) s.enter s.exit (λ value. index_same value a b (s.texts Index refl) (s.texts Status refl)))

waitsome_typed : (name : List ℕ) (a b : TextCall) → SameTold (looked_parameters functions.Waitsome) a b → typed_by (row functions.Waitsome name) a ≡ typed_by (row functions.Waitsome name) b
unfolding read_by waitsome_call
waitsome_typed name a b s =
    typed_same (row functions.Waitsome name) a b (missing_same (Requests ∷ []) a b (s.texts Requests refl, tt)) (missing_same [] a b tt) s.exit
    (read_as {A = List ℤ} (λ value. calls.Waitsome value) (requests_in a) (requests_in b) a b (requests_same a b (s.texts Requests refl)) s.enter s.exit (λ value. several_same value a b (s.texts Indices refl) (s.texts Statuses refl)))

testsome_typed : (name : List ℕ) (a b : TextCall) → SameTold (looked_parameters functions.Testsome) a b → typed_by (row functions.Testsome name) a ≡ typed_by (row functions.Testsome name) b
unfolding read_by testsome_call
testsome_typed name a b s =
    typed_same (row functions.Testsome name) a b (missing_same (Requests ∷ []) a b (s.texts Requests refl, tt)) (missing_same [] a b tt) s.exit
    (read_as {A = List ℤ} (λ value. calls.Testsome value) (requests_in a) (requests_in b) a b (requests_same a b (s.texts Requests refl)) s.enter s.exit (λ value. several_same value a b (s.texts Indices refl) (s.texts Statuses refl)))

testall_typed : (name : List ℕ) (a b : TextCall) → SameTold (looked_parameters functions.Testall) a b → typed_by (row functions.Testall name) a ≡ typed_by (row functions.Testall name) b
unfolding read_by testall_call
testall_typed name a b s =
    typed_same (row functions.Testall name) a b (missing_same (Requests ∷ []) a b (s.texts Requests refl, tt)) (missing_same (Flag ∷ []) a b (s.texts Flag refl, tt)) s.exit
    (read_as {A = List ℤ} (λ value. calls.Testall value) (requests_in a) (requests_in b) a b (requests_same a b (s.texts Requests refl)) s.enter s.exit (λ value. all_done_same value a b (s.texts Flag refl) (s.texts Statuses refl)))

testany_typed : (name : List ℕ) (a b : TextCall) → SameTold (looked_parameters functions.Testany) a b → typed_by (row functions.Testany name) a ≡ typed_by (row functions.Testany name) b
unfolding read_by testany_call
testany_typed name a b s =
    typed_same (row functions.Testany name) a b (missing_same (Requests ∷ []) a b (s.texts Requests refl, tt)) (flag_missing a b (s.texts Flag refl) (s.texts Index refl)) s.exit
    (read_as {A = List ℤ} (λ value. calls.Testany value) (requests_in a) (requests_in b) a b (requests_same a b (s.texts Requests refl)) s.enter s.exit
    (λ value. any_done_same value a b (s.texts Flag refl) (s.texts Index refl) (s.texts Status refl)))

-- what a Sendrecv names, from its parts
abbrev exchange_of : Result Part CallFault → Result Part CallFault → Result CommRef CallFault → Result Call CallFault
exchange_of first second group = do
  send ← first
  receive ← second
  comm ← group
  Ok (calls.Sendrecv (record { send = envelope_of send comm; receive = envelope_of receive comm }))

read_exchange : (first second : Result Part CallFault) (group : Result CommRef CallFault) (a b : TextCall) → a.enter ≡ b.enter → a.exit ≡ b.exit → text_of Status a ≡ text_of Status b
    → read_from (exchange_of first second group) a ≡ read_from (exchange_of first second group) b
read_exchange (Err fault) second group a b enter exit e = refl
read_exchange (Ok send) (Err fault) group a b enter exit e = refl
read_exchange (Ok send) (Ok receive) (Err fault) a b enter exit e = refl
read_exchange (Ok send) (Ok receive) (Ok comm) a b enter exit e =
    read_one (calls.Sendrecv (record { send = envelope_of send comm; receive = envelope_of receive comm })) a b enter exit (status_same a b e)

exchange_same : (first second third fourth : Result Part CallFault) (group other : Result CommRef CallFault) (a b : TextCall) → first ≡ third → second ≡ fourth → group ≡ other → a.enter ≡ b.enter → a.exit ≡ b.exit
    → text_of Status a ≡ text_of Status b → read_from (exchange_of first second group) a ≡ read_from (exchange_of third fourth other) b
exchange_same first second third fourth group other a b f g h enter exit e =
    ap (λ (r : Result Part CallFault). read_from (exchange_of r second group) a) f ∙ ap (λ (r : Result Part CallFault). read_from (exchange_of third r group) a) g
    ∙ ap (λ (r : Result CommRef CallFault). read_from (exchange_of third fourth r) a) h ∙ read_exchange third fourth other a b enter exit e

sendrecv_typed : (name : List ℕ) (a b : TextCall) → SameTold (looked_parameters functions.Sendrecv) a b → typed_by (row functions.Sendrecv name) a ≡ typed_by (row functions.Sendrecv name) b
unfolding read_by sendrecv_call
sendrecv_typed name a b s =
    typed_same (row functions.Sendrecv name) a b
    (missing_same sendrecv_parameters a b (s.texts SendCount refl, (s.texts SendType refl, (s.texts Dest refl, (s.texts SendTag refl, (s.texts RecvCount refl, (s.texts RecvType refl, (s.texts Source refl, (s.texts RecvTag refl, (s.texts Comm refl, tt)))))))))) refl s.exit
    (exchange_same (send_part SendCount SendType SendTag a) (receive_part RecvCount RecvType RecvTag a) (send_part SendCount SendType SendTag b) (receive_part RecvCount RecvType RecvTag b) (comm_in a) (comm_in b) a b
    (send_part_same SendCount SendType SendTag a b (s.texts SendCount refl) (s.texts SendType refl) (s.texts Dest refl) (s.texts SendTag refl))
    (receive_part_same RecvCount RecvType RecvTag a b (s.texts RecvCount refl) (s.texts RecvType refl) (s.texts Source refl) (s.texts RecvTag refl)) (comm_same a b (s.texts Comm refl)) s.enter s.exit (s.texts Status refl))

replace_typed : (name : List ℕ) (a b : TextCall) → SameTold (looked_parameters functions.SendrecvReplace) a b → typed_by (row functions.SendrecvReplace name) a ≡ typed_by (row functions.SendrecvReplace name) b
unfolding read_by sendrecv_replace_call
replace_typed name a b s =
    typed_same (row functions.SendrecvReplace name) a b
    (missing_same sendrecv_replace_parameters a b (s.texts Count refl, (s.texts Datatype refl, (s.texts Dest refl, (s.texts SendTag refl, (s.texts Source refl, (s.texts RecvTag refl, (s.texts Comm refl, tt)))))))) refl s.exit
    (exchange_same (send_part Count Datatype SendTag a) (receive_part Count Datatype RecvTag a) (send_part Count Datatype SendTag b) (receive_part Count Datatype RecvTag b) (comm_in a) (comm_in b) a b
    (send_part_same Count Datatype SendTag a b (s.texts Count refl) (s.texts Datatype refl) (s.texts Dest refl) (s.texts SendTag refl))
    (receive_part_same Count Datatype RecvTag a b (s.texts Count refl) (s.texts Datatype refl) (s.texts Source refl) (s.texts RecvTag refl)) (comm_same a b (s.texts Comm refl)) s.enter s.exit (s.texts Status refl))

-- ---- collective calls, which have a root where their kind has one

or_named : (first others : Bool) → others ≡ true → (first || others) ≡ true
or_named true others e = refl
or_named false others e = e

told_beyond : (parameter : Parameter) (looked : List Parameter) (a b : TextCall) → SameTold (parameter ∷ looked) a b → SameTold looked a b
told_beyond parameter looked a b s = record {
  texts = λ other named. s.texts other (or_named (bytes_eq (name_of other) (name_of parameter)) (is_named_in looked (name_of other)) named);
  enter = s.enter;
  exit = s.exit;
}

abbrev rooted : Bool → List Parameter
rooted has = if has then Root ∷ Comm ∷ [] else Comm ∷ []

group_told : (has : Bool) (a b : TextCall) → SameTold (rooted has) a b → text_of Comm a ≡ text_of Comm b
group_told true a b s = s.texts Comm refl
group_told false a b s = s.texts Comm refl

group_missing : (has : Bool) (a b : TextCall) → SameTold (rooted has) a b → first_missing (rooted has) a ≡ first_missing (rooted has) b
group_missing true a b s = missing_same (Root ∷ Comm ∷ []) a b (s.texts Root refl, (s.texts Comm refl, tt))
group_missing false a b s = missing_same (Comm ∷ []) a b (s.texts Comm refl, tt)

root_told : (has : Bool) (a b : TextCall) → SameTold (rooted has) a b → ◌≡◌ {A = Result (Option ℕ) CallFault} (if has then root_named a else Ok None) (if has then root_named b else Ok None)
root_told true a b s = root_same a b (s.texts Root refl)
root_told false a b s = refl

abbrev collective_of : Kind → Result (Option ℕ) CallFault → Result CommRef CallFault → Result CollectiveCall CallFault
collective_of kind named group = do
  root ← named
  comm ← group
  Ok (record { kind = kind; root = root; comm = comm })

collective_same : (kind : Kind) (a b : TextCall) → SameTold (collective_parameters kind) a b → collective_in kind a ≡ collective_in kind b
unfolding collective_in
collective_same kind a b s =
    ap (λ (r : Result (Option ℕ) CallFault). collective_of kind r (named_in (kind_row kind).object a)) (root_told (has_root kind) a b s)
    ∙ ap (λ (r : Result CommRef CallFault). collective_of kind (root_in kind b) r) (named_same (kind_row kind).object a b (group_told (has_root kind) a b s))

collective_typed : (kind : Kind) (name : List ℕ) (a b : TextCall) → SameTold (looked_parameters (functions.Collective kind)) a b → typed_by (row (functions.Collective kind) name) a ≡ typed_by (row (functions.Collective kind) name) b
unfolding read_by collective_call
collective_typed kind name a b s =
    typed_same (row (functions.Collective kind) name) a b (group_missing (has_root kind) a b s) refl s.exit
    (read_as {A = CollectiveCall} (λ value. calls.Collective value) (collective_in kind a) (collective_in kind b) a b (collective_same kind a b s) s.enter s.exit (λ value. refl))

request_missing : (is : Bool) (a b : TextCall) → text_of Request a ≡ text_of Request b → first_missing (started_request is) a ≡ first_missing (started_request is) b
request_missing true a b e = missing_same (Request ∷ []) a b (e, tt)
request_missing false a b e = refl

started_outcome : (is : Bool) (value : CollectiveCall) (a b : TextCall) → text_of Request a ≡ text_of Request b → outcome_in (started_call is value) a ≡ outcome_in (started_call is value) b
started_outcome true value a b e = started_same (kind_row value.kind).is_communication a b e
started_outcome false value a b e = refl

icollective_typed : (kind : Kind) (name : List ℕ) (a b : TextCall) → SameTold (looked_parameters (functions.Icollective kind)) a b → typed_by (row (functions.Icollective kind) name) a ≡ typed_by (row (functions.Icollective kind) name) b
unfolding read_by icollective_call
icollective_typed kind name a b s =
    let group = told_beyond Request (collective_parameters kind) a b s in
    typed_same (row (functions.Icollective kind) name) a b (group_missing (has_root kind) a b group) (request_missing (is_started kind) a b (s.texts Request refl)) s.exit
    (read_as {A = CollectiveCall} (λ value. started_call (is_started kind) value) (collective_in kind a) (collective_in kind b) a b (collective_same kind a b group) s.enter s.exit
    (λ value. started_outcome (is_started kind) value a b (s.texts Request refl)))

-- ---- collective calls on objects, and probes that don't wait

same_of : (parameter : ObjectParameter) (a b : TextCall) → SameTold (object_parameters parameter) a b → AreSame (object_parameters parameter) a b
same_of objects.Comm a b s = (s.texts Comm refl, tt)
same_of objects.OldComm a b s = (s.texts OldComm refl, (s.texts Comm refl, tt))
same_of objects.CommOld a b s = (s.texts OldComm refl, (s.texts CommOld refl, (s.texts Comm refl, tt)))
same_of objects.LocalComm a b s = (s.texts LocalComm refl, tt)
same_of objects.Intercomm a b s = (s.texts Intercomm refl, tt)
same_of objects.Win a b s = (s.texts Win refl, tt)
same_of objects.File a b s = (s.texts Fh refl, (s.texts File refl, tt))

object_same : (kind : Kind) (a b : TextCall) → SameTold (object_parameters (kind_row kind).parameter) a b → object_in kind a ≡ object_in kind b
unfolding object_in
object_same kind a b s = first_object_same (kind_row kind).object (object_parameters (kind_row kind).parameter) a b (same_of (kind_row kind).parameter a b s)

made_outcome : (is_communication has nonblocking : Bool) (value : CollectiveCall) (a b : TextCall) → text_of Request a ≡ text_of Request b
    → outcome_in (made_on is_communication has nonblocking value) a ≡ outcome_in (made_on is_communication has nonblocking value) b
made_outcome true has nonblocking value a b e = refl
made_outcome false has false value a b e = refl
made_outcome false true true value a b e = started_same (kind_row value.kind).is_communication a b e
made_outcome false false true value a b e = refl

object_outcome : (kind : Kind) (nonblocking : Bool) (found : Option CommRef) (a b : TextCall) → text_of Request a ≡ text_of Request b
    → outcome_in (object_or_local kind nonblocking found) a ≡ outcome_in (object_or_local kind nonblocking found) b
object_outcome kind nonblocking None a b e = refl
object_outcome kind nonblocking (Some comm) a b e = made_outcome (kind_row kind).is_communication (has_nonblocking kind) nonblocking (record { kind = kind; root = None; comm = comm }) a b e

object_typed : (kind : Kind) (nonblocking : Bool) (name : List ℕ) (a b : TextCall) → SameTold (looked_parameters (functions.OnObject kind nonblocking)) a b
    → typed_by (row (functions.OnObject kind nonblocking) name) a ≡ typed_by (row (functions.OnObject kind nonblocking) name) b
unfolding read_by object_call
object_typed kind nonblocking name a b s =
    let named = told_beyond Request (object_parameters (kind_row kind).parameter) a b s in
    typed_same (row (functions.OnObject kind nonblocking) name) a b refl refl s.exit
    (ap (λ (found : Option CommRef). read_from (Ok (object_or_local kind nonblocking found)) a) (object_same kind a b named)
    ∙ read_one (object_or_local kind nonblocking (object_in kind b)) a b s.enter s.exit (object_outcome kind nonblocking (object_in kind b) a b (s.texts Request refl)))

iprobe_outcome : (said : Result Probed CallFault) (a b : TextCall) → text_of Flag a ≡ text_of Flag b → text_of Status a ≡ text_of Status b → outcome_in (probe_or_local said) a ≡ outcome_in (probe_or_local said) b
iprobe_outcome (Err fault) a b f s = refl
iprobe_outcome (Ok probed) a b f s = ap (λ (said : Result Outs CallFault). Ok (posted_or_nothing said)) (flag_same a b f s)

iprobe_typed : (name : List ℕ) (a b : TextCall) → SameTold (looked_parameters functions.Iprobe) a b → typed_by (row functions.Iprobe name) a ≡ typed_by (row functions.Iprobe name) b
unfolding read_by iprobe_call
iprobe_typed name a b s =
    typed_same (row functions.Iprobe name) a b refl refl s.exit
    (ap (λ (said : Result Probed CallFault). read_from (Ok (probe_or_local said)) a) (probed_same a b (s.texts Source refl) (s.texts Tag refl) (s.texts Comm refl))
    ∙ read_one (probe_or_local (probed_in b)) a b s.enter s.exit (iprobe_outcome (probed_in b) a b (s.texts Flag refl) (s.texts Status refl)))

-- ---- calls without entry parameters

imrecv_typed : (name : List ℕ) (a b : TextCall) → SameTold (looked_parameters functions.Imrecv) a b → typed_by (row functions.Imrecv name) a ≡ typed_by (row functions.Imrecv name) b
unfolding read_by
imrecv_typed name a b s =
    typed_same (row functions.Imrecv name) a b refl (missing_same (Request ∷ []) a b (s.texts Request refl, tt)) s.exit (read_one calls.Imrecv a b s.enter s.exit (posted_same a b (s.texts Request refl)))

unread_typed : (name : List ℕ) (a b : TextCall) → a.enter ≡ b.enter → a.exit ≡ b.exit → typed_by (row functions.Unread name) a ≡ typed_by (row functions.Unread name) b
unfolding read_by
unread_typed name a b enter exit = typed_same (row functions.Unread name) a b refl refl exit (read_one calls.Unread a b enter exit refl)

finalize_typed : (name : List ℕ) (a b : TextCall) → a.enter ≡ b.enter → a.exit ≡ b.exit → typed_by (row functions.Finalize name) a ≡ typed_by (row functions.Finalize name) b
unfolding read_by
finalize_typed name a b enter exit = typed_same (row functions.Finalize name) a b refl refl exit (read_one calls.Finalize a b enter exit refl)

other_typed : (name : List ℕ) (a b : TextCall) → a.enter ≡ b.enter → a.exit ≡ b.exit → typed_by (row functions.Other name) a ≡ typed_by (row functions.Other name) b
unfolding read_by
other_typed name a b enter exit = typed_same (row functions.Other name) a b refl refl exit (read_one calls.Local a b enter exit refl)

-- ---- the table

by_row : (function : Function) (name : List ℕ) (a b : TextCall) → SameTold (looked_parameters function) a b → typed_by (row function name) a ≡ typed_by (row function name) b
by_row (functions.Send mode) name a b s = send_typed mode name a b s
by_row (functions.Isend mode) name a b s = isend_typed mode name a b s
by_row functions.Recv name a b s = recv_typed name a b s
by_row functions.Irecv name a b s = irecv_typed name a b s
by_row functions.Sendrecv name a b s = sendrecv_typed name a b s
by_row functions.SendrecvReplace name a b s = replace_typed name a b s
by_row functions.Probe name a b s = probe_typed name a b s
by_row functions.Iprobe name a b s = iprobe_typed name a b s
by_row functions.Wait name a b s = wait_typed name a b s
by_row functions.Waitall name a b s = waitall_typed name a b s
by_row functions.Waitany name a b s = waitany_typed name a b s
by_row functions.Waitsome name a b s = waitsome_typed name a b s
by_row functions.Test name a b s = test_typed name a b s
by_row functions.Testall name a b s = testall_typed name a b s
by_row functions.Testany name a b s = testany_typed name a b s
by_row functions.Testsome name a b s = testsome_typed name a b s
by_row functions.Cancel name a b s = cancel_typed name a b s
by_row functions.Free name a b s = free_typed name a b s
by_row (functions.Collective kind) name a b s = collective_typed kind name a b s
by_row (functions.Icollective kind) name a b s = icollective_typed kind name a b s
by_row (functions.OnObject kind nonblocking) name a b s = object_typed kind nonblocking name a b s
by_row (functions.SendInit mode) name a b s = send_init_typed mode name a b s
by_row functions.RecvInit name a b s = recv_init_typed name a b s
by_row functions.Start name a b s = start_typed name a b s
by_row functions.Startall name a b s = startall_typed name a b s
by_row functions.Mprobe name a b s = mprobe_typed name a b s
by_row functions.Improbe name a b s = improbe_typed name a b s
by_row functions.Imrecv name a b s = imrecv_typed name a b s
by_row functions.Unread name a b s = unread_typed name a b s.enter s.exit
by_row functions.Finalize name a b s = finalize_typed name a b s.enter s.exit
by_row functions.Other name a b s = other_typed name a b s.enter s.exit

by_threads : (raw : TextCall) (threads : Bool) → typed_by (row (if threads then functions.Unread else function_named raw.name) raw.name) (kept_call looked_choice raw) ≡ typed_by (row (if threads then functions.Unread else function_named raw.name) raw.name) raw
by_threads raw true = unread_typed raw.name (kept_call looked_choice raw) raw refl refl
by_threads raw false = by_row (function_named raw.name) raw.name (kept_call looked_choice raw) raw (record { texts = λ parameter named. kept_text raw parameter named; enter = refl; exit = refl })

-- a call is typed by what is kept of it as it is by all of its parameters
pub kept_typed : (raw : TextCall) → typed (kept_call looked_choice raw) ≡ typed raw
kept_typed raw = by_threads raw raw.threads
