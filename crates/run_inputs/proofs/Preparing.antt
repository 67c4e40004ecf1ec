-- What a run reads, as it is made of texts.
use Rattle.std.proofs.Common.{◌≡◌, ◌∙◌, ◌-◌, ◌^◌, ℕ, Bool, true, List, Option, Some, None, String, Global, ap, cond, inl, inr, is_some, length, min, sym}
use Rattle.mpi_model.specs.declared.layout.Sends.{Sends}
use Rattle.comm_makings.specs.declared.calls.RankCalls.{RankCalls}
use Rattle.text_layouts.specs.Seats.{IsSpread, beyond_by, in_order, kept, seats_by, seats_for, spread_by, told_size}
use Rattle.text_layouts.specs.declared.made.Made.{Made}
use Rattle.run_inputs.specs.Prepared.{AreSeated, Form, IsByRank, IsPrepared, IsPreparedBy, RefusesSaid, RefusesWords, made_notes}
use Rattle.run_inputs.specs.TextCalls.{AllSay}
use Rattle.run_inputs.specs.declared.faults.init_fault.InitFault.{InitFault}
use Rattle.run_inputs.specs.declared.faults.init_fault.InitFault.TheVariants as faults

-- the digits tell the ranks where some rank has no text, and else where they did
abbrev pub told_so : Option ℕ → Bool → Bool
told_so spread by_digits = cond (is_some spread) true by_digits

abbrev pub seated_so : (file : List ℕ → Option (List ℕ)) (words names : List (List ℕ)) (by_digits : Bool) (read : List RankCalls) (count : ℕ) (seats : List (Option (List ℕ)))
    → IsByRank words by_digits names → AllSay file (in_order names) read count → beyond_by (told_size read) names ≡ None → seats ≡ seats_by (told_size read) names → AreSeated file words seats
seated_so file words names by_digits read count seats by_rank say within are =
    record { by_digits = by_digits; names = names; by_rank = by_rank; read = read; count = count; say = say; within = within; are = are }

pub prepared_so : (file : List ℕ → Option (List ℕ)) (form : Form) (sends : Sends) (words : List (List ℕ)) (told : Bool) (ranks : List RankCalls) (calls shown : ℕ)
    (seats : List (Option (List ℕ))) (made : Made) (notes : List ℕ) (seated : AreSeated file words seats)
    → told ≡ told_so (spread_by (told_size seated.read) seated.names) seated.by_digits → AllSay file seats ranks calls → shown ≡ min calls (2 ^ 64 - 1)
    → IsPreparedBy form sends seats told ranks shown made notes → IsPrepared file form sends words made notes
prepared_so file form sends words told ranks calls shown seats made notes seated told_is say shown_is h = (
  record { seats = seats; seated = seated; ranks = ranks; calls = calls; say = say; is_by = h.0 },
  h.1 ∙ ap (λ (b : Bool). made_notes form b seats (length ranks) shown made) told_is
      ∙ ap (λ (n : ℕ). made_notes form (told_so (spread_by (told_size seated.read) seated.names) seated.by_digits) seats (length ranks) n made) shown_is,
)

-- what ranks say makes nothing
pub said_refused : (file : List ℕ → Option (List ℕ)) (words : List (List ℕ)) (seats : List (Option (List ℕ))) (ranks : List RankCalls) (calls : ℕ) (fault : InitFault)
    → AreSeated file words seats → AllSay file seats ranks calls → RefusesSaid ranks fault → RefusesWords file words fault
said_refused file words seats ranks calls faults.Memory seated say h = inl tt
said_refused file words seats ranks calls (faults.Made f) seated say h = inr (inr (inr (seats, seated, inr (ranks, (calls, say), h))))
said_refused file words seats ranks calls (faults.Text f) seated say h = absurd h
said_refused file words seats ranks calls (faults.NoCall path) seated say h = absurd h
said_refused file words seats ranks calls (faults.Piped path) seated say h = absurd h
said_refused file words seats ranks calls (faults.Strange path start) seated say h = absurd h
said_refused file words seats ranks calls (faults.NoTexts path) seated say h = absurd h
said_refused file words seats ranks calls faults.TooMany seated say h = absurd h
said_refused file words seats ranks calls (faults.Twice path) seated say h = absurd h
said_refused file words seats ranks calls (faults.Beyond path) seated say h = absurd h
said_refused file words seats ranks calls (faults.There path) seated say h = absurd h
said_refused file words seats ranks calls (faults.SpareThere path) seated say h = absurd h
said_refused file words seats ranks calls (faults.NotWritten path) seated say h = absurd h
said_refused file words seats ranks calls (faults.Half path) seated say h = absurd h
said_refused file words seats ranks calls (faults.Outside n) seated say h = absurd h
said_refused file words seats ranks calls faults.OneName seated say h = absurd h
said_refused file words seats ranks calls faults.Write seated say h = absurd h

-- each rank has a text
pub none_missing : (size : Option ℕ) (names : List (List ℕ)) → spread_by size names ≡ None → in_order names ≡ seats_by size names
none_missing size names none = sym (ap (λ (s : Option ℕ). seats_for s names) none)

pub told_by_names : (size : Option ℕ) (names : List (List ℕ)) (by_digits : Bool) → spread_by size names ≡ None → by_digits ≡ told_so (spread_by size names) by_digits
told_by_names size names by_digits none = sym (ap (λ (s : Option ℕ). told_so s by_digits) none)

-- some rank has none
pub spread_out : (size : Option ℕ) (names : List (List ℕ)) (seats : List (Option (String Global))) → IsSpread (spread_by size names) names seats → kept seats ≡ seats_by size names
spread_out size names seats h = h.2 ∙ sym (ap (λ (s : Option ℕ). seats_for s names) h.1)

pub told_by_numbers : (size : Option ℕ) (names : List (List ℕ)) (by_digits : Bool) (seats : List (Option (String Global))) → IsSpread (spread_by size names) names seats
    → true ≡ told_so (spread_by size names) by_digits
told_by_numbers size names by_digits seats h = sym (ap (λ (s : Option ℕ). told_so s by_digits) h.1)
