-- A payload, read through a window to its end.
use Rattle.std.proofs.Common.{◌≡◌, ℕ, ◌+◌, ◌<◌, Bool, true, false, eqb, List, [], ◌∷◌, ◌++◌, length, Option, Result, Ok, Err, refl, sym, ap, subst, ◌∙◌, append-nil, arith, inr}
use Rattle.std.specs.Io.KnownBytes.{Consumes}
use Rattle.std.proofs.KnownBytes.{Consumes-trans}
use Rattle.std.proofs.lemmas.Bool.{eqb-true}
use Rattle.std.proofs.lemmas.Bool.Decides.{nat_tests}
use Rattle.std.proofs.lemmas.List.{length-append, nil_from_length}
use Rattle.trace_wire.specs.declared.fault.WireFault.{WireFault}
use Rattle.trace_wire.specs.declared.fault.WireFault.TheVariants.{Rest}
use Rattle.trace_wire.specs.declared.read.unread.Unread.{Unread}
use Rattle.trace_wire.specs.declared.read.unread.Unread.TheVariants.{Payload}
use Rattle.trace_wire.specs.declared.version.Version.{Version}
use Rattle.trace_wire.specs.Cells.{Entry}
use Rattle.trace_wire.specs.FirstFault.{no_rest, parts_of, payload_of}
use Rattle.trace_wire.specs.Held.{Held}
use Rattle.trace_wire.specs.Parts.{◌>=>◌, next_count}
use Rattle.trace_wire.specs.Reading.{IsUnfilled, TakesAtMost}
use Rattle.trace_wire.specs.Windows.{Comes, Gave, IsRefused, ReadsPayload, Stops}
use Rattle.trace_wire.proofs.Windows.{comes_then, stops_first, stops_then, taken_then, unfilled_after}

-- ---- as functions of bytes

payload_ok : (version : Version) (x y z : List ℕ) (count : ℕ) (es : List Entry) → next_count x ≡ Ok (count, y) → parts_of version count y ≡ Ok (es, z) → z ≡ [] → payload_of version x ≡ Ok es
unfolding payload_of
payload_ok version x y z count es number parts end =
    ap (λ (r : Result (ℕ × List ℕ) WireFault). (r >=> λ n. parts_of version n.0 n.1) >=> no_rest) number ∙ ap (λ (r : Result (List Entry × List ℕ) WireFault). r >=> no_rest) parts ∙ ap (λ (l : List ℕ). no_rest (es, l)) end

rest_there : (es : List Entry) (z : List ℕ) → 0 < length z → no_rest (es, z) ≡ Err Rest
rest_there es z some = let no : eqb (length z) 0 ≡ false = grind (arith, nat_tests) in rw no refl

payload_rest : (version : Version) (x y z : List ℕ) (count : ℕ) (es : List Entry) → next_count x ≡ Ok (count, y) → parts_of version count y ≡ Ok (es, z) → 0 < length z → payload_of version x ≡ Err Rest
unfolding payload_of
payload_rest version x y z count es number parts some =
    ap (λ (r : Result (ℕ × List ℕ) WireFault). (r >=> λ n. parts_of version n.0 n.1) >=> no_rest) number ∙ ap (λ (r : Result (List Entry × List ℕ) WireFault). r >=> no_rest) parts ∙ rest_there es z some

payload_no_count : (version : Version) (x : List ℕ) (g : WireFault) → next_count x ≡ Err g → payload_of version x ≡ Err g
unfolding payload_of
payload_no_count version x g number = ap (λ (r : Result (ℕ × List ℕ) WireFault). (r >=> λ n. parts_of version n.0 n.1) >=> no_rest) number

payload_no_parts : (version : Version) (x y : List ℕ) (count : ℕ) (g : WireFault) → next_count x ≡ Ok (count, y) → parts_of version count y ≡ Err g → payload_of version x ≡ Err g
unfolding payload_of
payload_no_parts version x y count g number parts =
    ap (λ (r : Result (ℕ × List ℕ) WireFault). (r >=> λ n. parts_of version n.0 n.1) >=> no_rest) number ∙ ap (λ (r : Result (List Entry × List ℕ) WireFault). r >=> no_rest) parts

-- ---- whether a window holds nothing

pub none_held : (seen bytes : List ℕ) (r : Bool) → seen ≡ bytes → r ≡ eqb (length seen) 0 → r ≡ true → bytes ≡ []
none_held seen bytes r same is e = sym same ∙ nil_from_length seen (eqb-true (length seen) 0 (sym is ∙ e))

pub some_held : (seen bytes : List ℕ) (r : Bool) → seen ≡ bytes → r ≡ eqb (length seen) 0 → r ≡ false → 0 < length bytes
some_held [] bytes r same is e = absurd cc
some_held (x ∷ xs) bytes r same is e = omega (arith, ap (λ (l : List ℕ). length l) same)

-- ---- through a window

-- the count and the parts of a payload, and what is left behind them
abbrev PartsRead : Version → ℕ → List Entry → List ℕ → List ℕ → Type 0
PartsRead version count es x z = (y : List ℕ) × (next_count x ≡ Ok (count, y)) × (parts_of version count y ≡ Ok (es, z))

parts_read : (a b c : Option (List ℕ)) (s t u : Held) (version : Version) (count : ℕ) (es : List Entry) → Comes a b s t (Gave next_count count) → Comes b c t u (Gave (parts_of version count) es) → Comes a c s u (PartsRead version count es)
parts_read a b c s t u version count es p q = comes_then a b c s t u (Gave next_count count) (Gave (parts_of version count) es) (PartsRead version count es) p q (λ x y z m n. (y, m, n))

nothing_left : (held more : List ℕ) → held ≡ [] → more ≡ [] → held ++ more ≡ []
nothing_left held more h m = ap (λ (l : List ℕ). l ++ more) h ∙ m

pub all_read : (a b c : Option (List ℕ)) (s t u : Held) (version : Version) (count : ℕ) (es : List Entry) → Comes a b s t (Gave next_count count) → Comes b c t u (Gave (parts_of version count) es) → u.bytes ≡ [] → u.coming ≡ 0 → Comes a c s u (λ whole rest. payload_of version whole ≡ Ok es)
all_read a b c s t u version count es p q none end =
    let r = parts_read a b c s t u version count es p q in
    record {
      taken = r.taken;
      took = r.took;
      fits = r.fits;
      count = r.count;
      stand = λ more len. let h = r.stand more len in payload_ok version (s.bytes ++ (r.taken ++ more)) h.0 (u.bytes ++ more) count es h.1 h.2 (nothing_left u.bytes more none (nil_from_length more (len ∙ end)));
    }

pub no_count : (a b : Option (List ℕ)) (before now : ℕ) (s t : Held) (version : Version) (stop : Unread) → Stops a b before now s t next_count stop → Stops a b before now s t (payload_of version) stop
no_count a b before now s t version stop h = stops_first a b before now s t (payload_of version) next_count stop h (λ g x e. payload_no_count version x g e)

pub no_parts : (a b c : Option (List ℕ)) (before between now : ℕ) (s t u : Held) (version : Version) (count : ℕ) (stop : Unread) → Comes a b s t (Gave next_count count) → between ≡ before → Stops b c between now t u (parts_of version count) stop → Stops a c before now s u (payload_of version) stop
no_parts a b c before between now s t u version count stop p e h =
    stops_then a b c before between now s t u (Gave next_count count) (payload_of version) (parts_of version count) stop p e h (λ g x y m n. payload_no_parts version x y count g m n)

-- something stands behind the last part
pub some_rest : (a b c : Option (List ℕ)) (before now : ℕ) (s t u : Held) (version : Version) (count : ℕ) (es : List Entry) → Comes a b s t (Gave next_count count) → Comes b c t u (Gave (parts_of version count) es) → 0 < length u.bytes + u.coming → now ≡ before
    → Stops a c before now s u (payload_of version) (Payload Rest)
some_rest a b c before now s t u version count es p q some e =
    let r = parts_read a b c s t u version count es p q in (
      e,
      tt,
      record {
        taken = r.taken;
        took = r.took;
        fits = r.fits;
        count = r.count;
        stand = λ more len. let h = r.stand more len in payload_rest version (s.bytes ++ (r.taken ++ more)) h.0 (u.bytes ++ more) count es h.1 h.2 (omega (arith, length-append u.bytes more, len, some));
      },
    )

-- ---- from its first byte

pub read_whole : (a b : Option (List ℕ)) (t : Held) (len : ℕ) (version : Version) (es : List Entry) → Comes a b (record { bytes = []; coming = len }) t (λ whole rest. payload_of version whole ≡ Ok es) → t.coming ≡ 0 → ReadsPayload version len a b es
read_whole a b t len version es p end =
    (p.taken, p.took, p.fits, omega (arith, p.count, end), subst (λ (bytes : List ℕ). payload_of version bytes ≡ Ok es) (append-nil p.taken) (p.stand [] (sym end)))

-- the bytes were refused, and the rest was read
pub refused_whole : (a b c : Option (List ℕ)) (before between now : ℕ) (t : Held) (len : ℕ) (version : Version) (fault : WireFault) (rest : List ℕ) → Stops a b before between (record { bytes = []; coming = len }) t (payload_of version) (Payload fault) → Consumes b c rest → length rest ≡ t.coming → now ≡ between
    → IsRefused version len a c before now fault
refused_whole a b c before between now t len version fault rest h took size e =
    let p = h.2 in
    inr (e ∙ h.0, h.1, (p.taken ++ rest, Consumes-trans a b c p.taken rest p.took took, omega (arith, length-append p.taken rest, p.count, size), p.stand rest size))

-- the bytes were refused, and the rest was not there
pub rest_missing : (a b : Option (List ℕ)) (before between now : ℕ) (t : Held) (len : ℕ) (version : Version) (cause fault : WireFault) → Stops a b before between (record { bytes = []; coming = len }) t (payload_of version) (Payload cause) → IsUnfilled t.coming b between now fault → IsUnfilled len a before now fault
rest_missing a b before between now t len version cause fault h u = let p = h.2 in unfilled_after a b p.taken t.coming len before between now fault p.took (omega (arith, p.count)) h.0 u

pub rest_taken : (a b c : Option (List ℕ)) (before between : ℕ) (t : Held) (len : ℕ) (version : Version) (cause : WireFault) → Stops a b before between (record { bytes = []; coming = len }) t (payload_of version) (Payload cause) → TakesAtMost t.coming b c → TakesAtMost len a c
rest_taken a b c before between t len version cause h q = taken_then a b c (record { bytes = []; coming = len }) t _ h.2 q
