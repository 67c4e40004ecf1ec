-- What is kept of texts that may have been cut off.
use Rattle.std.proofs.Common.{◌≡◌, ◌≢◌, ◌∙◌, ◌<◌, ◌+◌, ◌-◌, ◌++◌, ◌⊎◌, ℕ, suc, Bool, true, false, Bor, List, [], ◌∷◌, Option, Some, None, Contains, IfSome, inl, inr, ap, arith, cond, drop, drop-cons, get_or, length, map, nat_lt, option_map, refl, string_bytes, subst, sym, take}
use Rattle.std.proofs.lemmas.Bool.{lt-ltb}
use Rattle.std.proofs.lemmas.List.{take_more}
use Rattle.std.proofs.lemmas.List.Elements.{Contains-append_left, Contains-push, Contains-push_cases}
use Rattle.std.proofs.lemmas.Slice.Eq.{bytes_eq-Decides}
use Rattle.std.specs.List.{AllByRecursion}
use Rattle.std.specs.Prelude.{option_to_list}
use Rattle.std.specs.Str.{bytes_eq}
use Rattle.clap.specs.Words.{Text}
use Rattle.command_line.specs.Program.{texts_of}
use Rattle.dumpi_text.specs.Call.{TextCall}
use Rattle.dumpi_text.specs.Grammar.{Complete, Ending, Meaning, Stopped, text_meaning}
use Rattle.dumpi_text.specs.declared.fault.LineFault.{LineFault}
use Rattle.dumpi_text.specs.declared.fault.LineFault.TheVariants as lines
use Rattle.text_cuts.specs.Cuts.{CutAt, cut_by, cut_of, kept_by, lacking_before, lacking_in, lines_before}
use Rattle.text_cuts.specs.Ends.{EndsSo}
use Rattle.text_cuts.specs.Lines.{TellsLines, bytes_of_lines, first_lines, missing_lines}
use Rattle.text_cuts.specs.declared.end.TextEnd.{TextEnd}
use Rattle.text_cuts.specs.declared.end.TextEnd.TheVariants.{Whole, Refused}
use Rattle.text_cuts.specs.declared.lines.FirstLines.{FirstLines}
use Rattle.run_inputs.specs.Files.{IsLength, StandsAtFirst}
use Rattle.run_inputs.specs.Inputs.{RefusesOpening}
use Rattle.run_inputs.specs.Seen.{AreCutsOf, CutsInLine, CutsInStamp, EndsKnown, IsCutAt, KeepsBefore, KeepsLines, RefusesLook, RefusesLooks, Sees, TellsCut, TellsKnown, front_of, kept_known, kept_lines, kept_of, kept_of_end, limit_in, seen_by}
use Rattle.run_inputs.specs.declared.faults.fault.RunFault.{RunFault}
use Rattle.run_inputs.specs.declared.load.cut_files.CutText.{CutText}
use Rattle.run_inputs.proofs.Folders.{text_at}
use Rattle.run_inputs.proofs.Ordered.{map_push}

-- ---- one look

-- a file that can't be opened can't be looked at
pub look_unopened : (name : List ℕ) (file : Option (List ℕ)) (fault : RunFault) → RefusesOpening name file fault → RefusesLook name fault
look_unopened name file fault (inl memory) = subst (λ (f : RunFault). RefusesLook name f) (sym memory) tt
look_unopened name file fault (inr why) = subst (λ (f : RunFault). RefusesLook name f) (sym why.1) why.2

pub ends_known : (dropped : Bool) (limit : Option ℕ) (file left : Option (List ℕ)) (end : TextEnd) → StandsAtFirst file left → EndsSo dropped (front_of limit left) end → EndsKnown dropped (front_of limit file) end
ends_known dropped None None left end stands so = tt
ends_known dropped (Some limit) None left end stands so = tt
ends_known dropped None (Some bytes) left end stands so = subst (λ (t : Option (List ℕ)). EndsSo dropped t end) stands so
ends_known dropped (Some limit) (Some bytes) left end stands so = subst (λ (t : Option (List ℕ)). EndsSo dropped t end) (ap (front_of (Some limit)) stands) so

pub lines_known : (count length_of : ℕ) (file left : Option (List ℕ)) (first : FirstLines) → StandsAtFirst file left → IsLength file length_of → TellsLines length_of count left first → TellsKnown count file first
lines_known count length_of None left first stands is told = tt
lines_known count length_of (Some bytes) left first stands is told =
    let here : TellsLines length_of count (Some bytes) first = subst (λ (t : Option (List ℕ)). TellsLines length_of count t first) stands told in
    here (omega (arith, is))

pub keeps_known : (kept last : ℕ) (file : Option (List ℕ)) (first : FirstLines) (cut : CutText) → TellsKnown kept file first → cut.bytes ≡ first.bytes → cut.line ≡ last → KeepsLines kept last file cut
keeps_known kept last None first cut told bytes line = tt
keeps_known kept last (Some text) first cut told bytes line = (bytes ∙ told.0, line)

-- the calls of a text of which a line was dropped, by how its front ends
lacking_by : (text : List ℕ) (calls : List TextCall) (end : Ending) → text_meaning text ≡ record { calls = calls; end = end } → lacking_in text ≡ lacking_before true calls end
lacking_by text calls end means = ap (λ (m : Meaning). lacking_before true m.calls m.end) means

kept_by_end : (text : List ℕ) (end : TextEnd) (before : ℕ) → EndsSo true (Some text) end → kept_of_end end before ≡ lines_before (lacking_in text) before
kept_by_end text (Whole lacking line) before so = ap (λ (o : Option ℕ). lines_before o before) (so.3 ∙ sym (lacking_by text so.0 (Complete so.1) so.2))
kept_by_end text (Refused fault line) before so = ap (λ (o : Option ℕ). lines_before o before) (sym (lacking_by text so.0 (Stopped fault so.1) so.2))

kept_in_front : (line : ℕ) (text : List ℕ) (first : FirstLines) (end : TextEnd) → first.bytes ≡ bytes_of_lines (line - 1) text → EndsSo true (Some (take first.bytes text)) end
    → kept_of_end end (line - 1) ≡ kept_lines line text
kept_in_front line text first end bytes so =
    let front : take first.bytes text ≡ first_lines (line - 1) text = ap (λ (n : ℕ). take n text) bytes in
    kept_by_end (first_lines (line - 1) text) end (line - 1) (subst (λ (t : List ℕ). EndsSo true (Some t) end) front so)

pub before_known : (line before kept : ℕ) (file : Option (List ℕ)) (first : FirstLines) (end : TextEnd) → before ≡ line - 1 → TellsKnown before file first → EndsKnown true (front_of (Some first.bytes) file) end
    → kept ≡ kept_of_end end before → KeepsBefore line file kept
before_known line before kept None first end less told so is = tt
before_known line before kept (Some text) first end less told so is =
    let bytes : first.bytes ≡ bytes_of_lines (line - 1) text = told.0 ∙ ap (λ (n : ℕ). bytes_of_lines n text) less in
    is ∙ ap (kept_of_end end) less ∙ kept_in_front line text first end bytes so

pub line_cut : (line kept : ℕ) (file : Option (List ℕ)) (cut : CutText) → KeepsBefore line file kept → KeepsLines kept line file cut → CutsInLine line file cut
line_cut line kept None cut before keeps = tt
line_cut line kept (Some text) cut before keeps = subst (λ (n : ℕ). KeepsLines n line (Some text) cut) before keeps

-- ---- a bad stamp

some_missing : (line missing : ℕ) (text : List ℕ) (cut : CutText) → 0 < missing → KeepsLines (line - 1) line (Some text) cut
    → IsCutAt text (cond (nat_lt 0 missing) (Some (record { kept = line - 1; last = line })) None) (Some cut)
some_missing line missing text cut some keeps =
    subst (λ (b : Bool). IsCutAt text (cond b (Some (record { kept = line - 1; last = line })) None) (Some cut)) (sym (lt-ltb 0 missing some)) keeps

pub stamp_cut : (line before : ℕ) (file : Option (List ℕ)) (first : FirstLines) (cut : CutText) → before ≡ line - 1 → TellsKnown line file first → first.missing ≢ 0 → KeepsLines before line file cut
    → CutsInStamp line file (Some cut)
stamp_cut line before None first cut less told some keeps = tt
stamp_cut line before (Some text) first cut less told some keeps =
    let more : 0 < missing_lines line text = let is = told.1 in omega (arith, is, some) in
    some_missing line (missing_lines line text) text cut more (subst (λ (n : ℕ). KeepsLines n line (Some text) cut) less keeps)

pub no_stamp_cut : (line : ℕ) (file : Option (List ℕ)) (first : FirstLines) → TellsKnown line file first → first.missing ≡ 0 → CutsInStamp line file None
no_stamp_cut line None first told none = tt
no_stamp_cut line (Some text) first told none =
    subst (λ (n : ℕ). IsCutAt text (cond (nat_lt 0 n) (Some (record { kept = line - 1; last = line })) None) None) (sym none ∙ told.1) tt

-- ---- a whole text

cut_so : (text : List ℕ) (calls : List TextCall) (end : Ending) (cut : Option CutText) → text_meaning text ≡ record { calls = calls; end = end } → IsCutAt text (cut_by text calls end) cut → IsCutAt text (cut_of text) cut
cut_so text calls end cut means is = subst (λ (m : Meaning). IsCutAt text (cut_by text m.calls m.end) cut) (sym means) is

pub whole_known : (file : Option (List ℕ)) (line : ℕ) → EndsKnown false file (Whole None line) → TellsCut file None
whole_known None line so = tt
whole_known (Some text) line so =
    cut_so text so.0 (Complete so.1) None so.2
    (subst (λ (o : Option ℕ). IsCutAt text (option_map (λ call. record { kept = call - 1; last = so.1.line }) o) None) so.3 tt)

pub call_known : (file : Option (List ℕ)) (call kept line : ℕ) (cut : CutText) → EndsKnown false file (Whole (Some call) line) → kept ≡ call - 1 → KeepsLines kept line file cut → TellsCut file (Some cut)
call_known None call kept line cut so less keeps = tt
call_known (Some text) call kept line cut so less keeps =
    let bytes : cut.bytes ≡ bytes_of_lines (call - 1) text = keeps.0 ∙ ap (λ (n : ℕ). bytes_of_lines n text) less in
    cut_so text so.0 (Complete so.1) (Some cut) so.2
    (subst (λ (o : Option ℕ). IsCutAt text (option_map (λ n. record { kept = n - 1; last = so.1.line }) o) (Some cut)) so.3 (bytes, keeps.1 ∙ so.4))

pub line_known : (file : Option (List ℕ)) (line : ℕ) (cut : CutText) → EndsKnown false file (Refused lines.Truncated line) → CutsInLine line file cut → TellsCut file (Some cut)
line_known None line cut so cuts = tt
line_known (Some text) line cut so cuts =
    cut_so text so.0 (Stopped lines.Truncated so.1) (Some cut) so.2
    (subst (λ (n : ℕ). KeepsLines (kept_lines n text) n (Some text) cut) so.3 cuts)

pub stamp_known : (file : Option (List ℕ)) (line : ℕ) (cut : Option CutText) → EndsKnown false file (Refused lines.BadStamp line) → CutsInStamp line file cut → TellsCut file cut
stamp_known None line cut so cuts = tt
stamp_known (Some text) line cut so cuts =
    cut_so text so.0 (Stopped lines.BadStamp so.1) cut so.2
    (subst (λ (n : ℕ). CutsInStamp n (Some text) cut) so.3 cuts)

no_cut_by : (text : List ℕ) (calls : List TextCall) (fault : LineFault) (end : _) → fault ≢ lines.Truncated → fault ≢ lines.BadStamp → cut_by text calls (Stopped fault end) ≡ None
no_cut_by text calls lines.LineTooLong end one other = refl
no_cut_by text calls lines.BadStamp end one other = absurd (other refl)
no_cut_by text calls lines.OtherThread end one other = refl
no_cut_by text calls lines.ReturnOutside end one other = refl
no_cut_by text calls lines.NotReturned end one other = refl
no_cut_by text calls lines.NameDiffers end one other = refl
no_cut_by text calls lines.BadParameter end one other = refl
no_cut_by text calls lines.Truncated end one other = absurd (one refl)
no_cut_by text calls lines.TooManyLines end one other = refl

pub refused_known : (file : Option (List ℕ)) (fault : LineFault) (line : ℕ) → EndsKnown false file (Refused fault line) → fault ≢ lines.Truncated → fault ≢ lines.BadStamp → TellsCut file None
refused_known None fault line so one other = tt
refused_known (Some text) fault line so one other =
    cut_so text so.0 (Stopped fault so.1) None so.2 (subst (λ (o : Option CutAt). IsCutAt text o None) (sym (no_cut_by text so.0 fault so.1 one other)) tt)

-- ---- what is kept of a file

none_kept : (text : List ℕ) (at : Option CutAt) → IsCutAt text at None → kept_by at text ≡ text
none_kept text None is = refl
none_kept text (Some at) is = absurd is

some_kept : (text : List ℕ) (at : Option CutAt) (cut : CutText) → IsCutAt text at (Some cut) → take cut.bytes text ≡ kept_by at text
some_kept text None cut is = absurd is
some_kept text (Some at) cut is = ap (λ (n : ℕ). take n text) is.0

pub kept_whole : (file : Option (List ℕ)) → TellsCut file None → kept_known file ≡ file
kept_whole None told = refl
kept_whole (Some text) told = ap (λ (t : List ℕ). Some t) (none_kept text (cut_of text) told)

pub kept_front : (file : Option (List ℕ)) (cut : CutText) → TellsCut file (Some cut) → front_of (Some cut.bytes) file ≡ kept_known file
kept_front None cut told = refl
kept_front (Some text) cut told = ap (λ (t : List ℕ). Some t) (some_kept text (cut_of text) cut told)

-- ---- all of these files

both : (P : CutText → Type 0) (cuts more : List CutText) → AllByRecursion P cuts → AllByRecursion P more → AllByRecursion P (cuts ++ more)
both P [] more all rest = rest
both P (cut ∷ cuts) more all rest = (all.0, both P cuts more all.1 rest)

each : (P Q : CutText → Type 0) (cuts : List CutText) → ((cut : CutText) → P cut → Q cut) → AllByRecursion P cuts → AllByRecursion Q cuts
each P Q [] h all = tt
each P Q (cut ∷ cuts) h all = (h cut all.0, each P Q cuts h all.1)

limit_by : (name : List ℕ) (cut : List ℕ × ℕ) (is : Bool) (rest : Option ℕ) → cond is (Some cut.1) rest ≡ None → (is ≡ false) × (rest ≡ None)
limit_by name cut true rest none = absurd (cc none)
limit_by name cut false rest none = (refl, none)

-- no limit of a name among more is none among fewer
limit_front : (cuts more : List CutText) (name : List ℕ) → limit_in (map kept_of (cuts ++ more)) name ≡ None → limit_in (map kept_of cuts) name ≡ None
limit_front [] more name none = refl
limit_front (cut ∷ cuts) more name none =
    let by = limit_by name (kept_of cut) (bytes_eq (string_bytes cut.file) name) (limit_in (map kept_of (cuts ++ more)) name) none in
    ap (λ (b : Bool). cond b (Some cut.bytes) (limit_in (map kept_of cuts) name)) by.0 ∙ limit_front cuts more name by.1

limit_last : (cuts : List CutText) (cut : CutText) → limit_in (map kept_of (cuts ++ cut ∷ [])) (string_bytes cut.file) ≡ None → ⊥
limit_last [] cut none =
    let same : bytes_eq (string_bytes cut.file) (string_bytes cut.file) ≡ true = (bytes_eq-Decides (string_bytes cut.file) (string_bytes cut.file)).1 refl in
    cc ((limit_by (string_bytes cut.file) (kept_of cut) (bytes_eq (string_bytes cut.file) (string_bytes cut.file)) None none).0, same)
limit_last (one ∷ cuts) cut none =
    limit_last cuts cut (limit_by (string_bytes cut.file) (kept_of one) (bytes_eq (string_bytes one.file) (string_bytes cut.file)) (limit_in (map kept_of (cuts ++ cut ∷ [])) (string_bytes cut.file)) none).1

pub cuts_none : (file : List ℕ → Option (List ℕ)) → AreCutsOf file [] []
cuts_none file = record { good = tt; among = tt; whole = λ name among none. absurd (omega (arith, among.1)) }

one_good : (file : List ℕ → Option (List ℕ)) (name : List ℕ) (cut : Option CutText) → IfSome cut (λ c. string_bytes c.file ≡ name) → TellsCut (file name) cut
    → AllByRecursion (λ c. front_of (Some c.bytes) (file (string_bytes c.file)) ≡ kept_known (file (string_bytes c.file))) (option_to_list cut)
one_good file name None named told = tt
one_good file name (Some cut) named told =
    (kept_front (file (string_bytes cut.file)) cut (subst (λ (n : List ℕ). TellsCut (file n) (Some cut)) (sym named) told), tt)

one_among : (names : List (List ℕ)) (name : List ℕ) (cut : Option CutText) → IfSome cut (λ c. string_bytes c.file ≡ name)
    → AllByRecursion (λ c. Contains (names ++ name ∷ []) (string_bytes c.file)) (option_to_list cut)
one_among names name None named = tt
one_among names name (Some cut) named = (subst (λ (n : List ℕ). Contains (names ++ name ∷ []) n) (sym named) (Contains-push names name), tt)

last_whole : (file : List ℕ → Option (List ℕ)) (name : List ℕ) (cuts : List CutText) (cut : Option CutText) → IfSome cut (λ c. string_bytes c.file ≡ name) → TellsCut (file name) cut
    → limit_in (map kept_of (cuts ++ option_to_list cut)) name ≡ None → kept_known (file name) ≡ file name
last_whole file name cuts None named told none = kept_whole (file name) told
last_whole file name cuts (Some cut) named told none =
    absurd (limit_last cuts cut (subst (λ (n : List ℕ). limit_in (map kept_of (cuts ++ cut ∷ [])) n ≡ None) (sym named) none))

one_whole : (file : List ℕ → Option (List ℕ)) (names : List (List ℕ)) (name other : List ℕ) (cuts : List CutText) (cut : Option CutText) → AreCutsOf file names cuts
    → IfSome cut (λ c. string_bytes c.file ≡ name) → TellsCut (file name) cut → Contains names other ⊎ (name ≡ other)
    → limit_in (map kept_of (cuts ++ option_to_list cut)) other ≡ None → kept_known (file other) ≡ file other
one_whole file names name other cuts cut are named told (inl among) none = are.whole other among (limit_front cuts (option_to_list cut) other none)
one_whole file names name other cuts cut are named told (inr is) none =
    subst (λ (n : List ℕ). kept_known (file n) ≡ file n) is
    (last_whole file name cuts cut named told (subst (λ (n : List ℕ). limit_in (map kept_of (cuts ++ option_to_list cut)) n ≡ None) (sym is) none))

pub cuts_more : (file : List ℕ → Option (List ℕ)) (names : List (List ℕ)) (name : List ℕ) (cuts : List CutText) (cut : Option CutText) → AreCutsOf file names cuts
    → IfSome cut (λ c. string_bytes c.file ≡ name) → TellsCut (file name) cut → AreCutsOf file (names ++ name ∷ []) (cuts ++ option_to_list cut)
cuts_more file names name cuts cut are named told = record {
  good = both _ cuts (option_to_list cut) are.good (one_good file name cut named told);
  among = both _ cuts (option_to_list cut)
      (each (λ c. Contains names (string_bytes c.file)) (λ c. Contains (names ++ name ∷ []) (string_bytes c.file)) cuts (λ c among. Contains-append_left names (name ∷ []) (string_bytes c.file) among) are.among)
      (one_among names name cut named);
  whole = λ other among none. one_whole file names name other cuts cut are named told (Contains-push_cases names name other among) none;
}

-- ..of the names so far
pub cuts_more_at : (file : List ℕ → Option (List ℕ)) (names : List (Bor Text)) (i : ℕ) (d : Bor Text) (cuts more : List CutText) (cut : Option CutText) → i < length names
    → AreCutsOf file (texts_of (take i names)) cuts → IfSome cut (λ c. string_bytes c.file ≡ (get_or names i d).now) → TellsCut (file (get_or names i d).now) cut → more ≡ cuts ++ option_to_list cut
    → AreCutsOf file (texts_of (take (i + 1) names)) more
cuts_more_at file names i d cuts more cut below are named told is =
    let next : texts_of (take (i + 1) names) ≡ texts_of (take i names) ++ (get_or names i d).now ∷ [] =
    ap texts_of (take_more names i d below) ∙ map_push (λ (n : Bor Text). n.now) (take i names) (get_or names i d) in
    subst (λ (ns : List (List ℕ)). AreCutsOf file ns more) (sym next)
    (subst (λ (cs : List CutText). AreCutsOf file (texts_of (take i names) ++ (get_or names i d).now ∷ []) cs) (sym is)
    (cuts_more file (texts_of (take i names)) (get_or names i d).now cuts cut are named told))

-- one of them can't be looked at
pub looks_refused : (names : List (Bor Text)) (i : ℕ) (d : Bor Text) (fault : RunFault) → i < length names → RefusesLook (get_or names i d).now fault → RefusesLooks (texts_of names) fault
looks_refused names i d fault below refuses = inr ((get_or names i d).now, text_at names i d below, refuses)

pub looks_same : (names wanted : List (List ℕ)) (fault : RunFault) → names ≡ wanted → RefusesLooks names fault → RefusesLooks wanted fault
looks_same names wanted fault same refuses = subst (λ (ns : List (List ℕ)). RefusesLooks ns fault) same refuses

-- ---- the limit of a name, looked for from the front on

pub here_limit : (cuts : List CutText) (i : ℕ) (cut : CutText) (name : List ℕ) → i < length cuts → cut ≡ get_or cuts i cut → bytes_eq (string_bytes cut.file) name ≡ true
    → limit_in (map kept_of (drop i cuts)) name ≡ limit_in (map kept_of cuts) name → Some cut.bytes ≡ limit_in (map kept_of cuts) name
here_limit cuts i cut name below is same so =
    let front : drop i cuts ≡ cut ∷ drop (suc i) cuts = drop-cons cuts i cut below ∙ ap (λ (c : CutText). c ∷ drop (suc i) cuts) (sym is) in
    sym (ap (λ (b : Bool). cond b (Some cut.bytes) (limit_in (map kept_of (drop (suc i) cuts)) name)) same) ∙ sym (ap (λ (l : List CutText). limit_in (map kept_of l) name) front) ∙ so

pub next_limit : (cuts : List CutText) (i : ℕ) (cut : CutText) (name : List ℕ) → i < length cuts → cut ≡ get_or cuts i cut → bytes_eq (string_bytes cut.file) name ≡ false
    → limit_in (map kept_of (drop i cuts)) name ≡ limit_in (map kept_of cuts) name → limit_in (map kept_of (drop (i + 1) cuts)) name ≡ limit_in (map kept_of cuts) name
next_limit cuts i cut name below is other so =
    let one : suc i ≡ i + 1 = omega arith in
    let front : drop i cuts ≡ cut ∷ drop (i + 1) cuts =
    drop-cons cuts i cut below ∙ ap (λ (n : ℕ). get_or cuts i cut ∷ drop n cuts) one ∙ ap (λ (c : CutText). c ∷ drop (i + 1) cuts) (sym is) in
    sym (ap (λ (b : Bool). cond b (Some cut.bytes) (limit_in (map kept_of (drop (i + 1) cuts)) name)) other) ∙ sym (ap (λ (l : List CutText). limit_in (map kept_of l) name) front) ∙ so

-- ---- the files as they are seen

limit_here : (file : List ℕ → Option (List ℕ)) (names : List (List ℕ)) (cut : CutText) (rest : Option ℕ) (name : List ℕ) (limit : ℕ) (is : Bool)
    → bytes_eq (string_bytes cut.file) name ≡ is
    → front_of (Some cut.bytes) (file (string_bytes cut.file)) ≡ kept_known (file (string_bytes cut.file)) → Contains names (string_bytes cut.file)
    → (rest ≡ Some limit → (front_of (Some limit) (file name) ≡ kept_known (file name)) × Contains names name)
    → cond is (Some cut.bytes) rest ≡ Some limit → (front_of (Some limit) (file name) ≡ kept_known (file name)) × Contains names name
limit_here file names cut rest name limit true same good among more is =
    let name_is : string_bytes cut.file ≡ name = (bytes_eq-Decides (string_bytes cut.file) name).0 same in
    let limit_is : cut.bytes ≡ limit = cc is in
    subst (λ (n : List ℕ). (front_of (Some limit) (file n) ≡ kept_known (file n)) × Contains names n) name_is
    (subst (λ (b : ℕ). front_of (Some b) (file (string_bytes cut.file)) ≡ kept_known (file (string_bytes cut.file))) limit_is good, among)
limit_here file names cut rest name limit false same good among more is = more is

limit_good : (file : List ℕ → Option (List ℕ)) (names : List (List ℕ)) (cuts : List CutText) (name : List ℕ) (limit : ℕ)
    → AllByRecursion (λ c. front_of (Some c.bytes) (file (string_bytes c.file)) ≡ kept_known (file (string_bytes c.file))) cuts
    → AllByRecursion (λ c. Contains names (string_bytes c.file)) cuts
    → limit_in (map kept_of cuts) name ≡ Some limit → (front_of (Some limit) (file name) ≡ kept_known (file name)) × Contains names name
limit_good file names [] name limit good among is = absurd (cc is)
limit_good file names (cut ∷ cuts) name limit good among is =
    limit_here file names cut (limit_in (map kept_of cuts) name) name limit (bytes_eq (string_bytes cut.file) name) refl good.0 among.0 (λ more. limit_good file names cuts name limit good.1 among.1 more) is

sees_named : (file : List ℕ → Option (List ℕ)) (names : List (List ℕ)) (cuts : List CutText) (name : List ℕ) (limit : Option ℕ) → AreCutsOf file names cuts → Contains names name
    → limit_in (map kept_of cuts) name ≡ limit → front_of limit (file name) ≡ kept_known (file name)
sees_named file names cuts name None are among is = sym (are.whole name among is)
sees_named file names cuts name (Some limit) are among is = (limit_good file names cuts name limit are.good are.among is).0

sees_other : (file : List ℕ → Option (List ℕ)) (names : List (List ℕ)) (cuts : List CutText) (name : List ℕ) (limit : Option ℕ) → AreCutsOf file names cuts → (Contains names name → ⊥)
    → limit_in (map kept_of cuts) name ≡ limit → front_of limit (file name) ≡ file name
sees_other file names cuts name None are other is = refl
sees_other file names cuts name (Some limit) are other is = absurd (other (limit_good file names cuts name limit are.good are.among is).1)

pub sees_cuts : (file : List ℕ → Option (List ℕ)) (names : List (List ℕ)) (cuts : List CutText) → AreCutsOf file names cuts → Sees file names (seen_by (map kept_of cuts) file)
sees_cuts file names cuts are = record {
  named = λ name among. sees_named file names cuts name (limit_in (map kept_of cuts) name) are among refl;
  other = λ name other. sees_other file names cuts name (limit_in (map kept_of cuts) name) are other refl;
}

pub sees_kept : (file : List ℕ → Option (List ℕ)) (names wanted : List (List ℕ)) (cuts given : List CutText) → names ≡ wanted → given ≡ cuts → AreCutsOf file names cuts
    → Sees file wanted (seen_by (map kept_of given) file)
sees_kept file names wanted cuts given same is are =
    subst (λ (cs : List CutText). Sees file wanted (seen_by (map kept_of cs) file)) (sym is)
    (subst (λ (ns : List (List ℕ)). Sees file ns (seen_by (map kept_of cuts) file)) same (sees_cuts file names cuts are))
