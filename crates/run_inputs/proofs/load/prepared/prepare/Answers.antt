use Rattle.std.proofs.Common.{◌≡◌, ◌∙◌, ℕ, IfNone, IfSome, List, Option, None, String, Global, true, ap, ap₂, inl, inr, map, string_bytes, subst, sym}
use Rattle.std.proofs.lemmas.Result.{IfErr-weaker, IfOk-weaker}
use Rattle.comm_makings.specs.declared.calls.RankCalls.{RankCalls}
use Rattle.text_layouts.specs.Seats.{IsSpread, beyond_by, in_order, kept, spread_by, told_size}
use Rattle.run_inputs.specs.Prepared.{IsPreparedBy, RefusesBeyond, form_of}
use Rattle.run_inputs.specs.TextCalls.{AllSay, RefusesOne}
use Rattle.run_inputs.proofs.Preparing.{none_missing, prepared_so, said_refused, seated_so, spread_out, told_by_names, told_by_numbers}
use Rattle.run_inputs.proofs.Runs.{handed_on}
use Rattle.run_inputs.proofs.load.prepared.prepare.Goals as goal

pub returns-in_err-all-clause-err : goal.returns-in_err-all-clause-err
returns-in_err-all-clause-err g c =
    let file = g.O.Opener.file c.args.files.now in
    let names = map string_bytes c.in_ok-texts.texts.items in
    let ordered : kept c.in_ok-ordered.ordered.items ≡ in_order names =
    c.in_ok-ordered.ensures.texts ∙ ap (λ (ts : List (String Global)). in_order (map string_bytes ts)) c.deref.ensures.value in
    let fault = c.in_err-all.field-0.0 in
    let refuses : RefusesOne file (in_order names) fault =
    subst (λ (ss : List (Option (List ℕ))). RefusesOne file ss fault) (ap kept c.deref-2.ensures.value ∙ ordered) c.in_err-all.ensures.err in
    handed_on c.from_residual-in_err-all.result _ _ c.from_residual-in_err-all.ensures.1
    (inr (inl (names, (c.in_ok-texts.by_digits, c.in_ok-texts.ensures.ok), c.in_ok-texts.ensures.words, refuses)))

pub returns-in_err-refuse_beyond-clause-err : goal.returns-in_err-refuse_beyond-clause-err
returns-in_err-refuse_beyond-clause-err g c =
    let file = g.O.Opener.file c.args.files.now in
    let names = map string_bytes c.in_ok-texts.texts.items in
    let read = c.in_ok-all.all.ranks.items in
    let told = c.in_ok-all.ensures.ok in
    let ordered : kept c.in_ok-ordered.ordered.items ≡ in_order names =
    c.in_ok-ordered.ensures.texts ∙ ap (λ (ts : List (String Global)). in_order (map string_bytes ts)) c.deref.ensures.value in
    let say : AllSay file (in_order names) read told.0 =
    subst (λ (ss : List (Option (List ℕ))). AllSay file ss read told.0) (ap kept c.deref-2.ensures.value ∙ ordered) told.1 in
    let fault = c.in_err-refuse_beyond.field-0.0 in
    let refuses : RefusesBeyond read names fault =
    subst (λ (rs : List RankCalls). RefusesBeyond rs names fault) c.deref-4.ensures.value
    (subst (λ (ts : List (String Global)). RefusesBeyond c.deref-4.result.now (map string_bytes ts) fault) c.deref-3.ensures.value c.in_err-refuse_beyond.ensures.err) in
    handed_on c.from_residual-in_err-refuse_beyond.result _ _ c.from_residual-in_err-refuse_beyond.ensures.1
    (inr (inr (inl (names, (c.in_ok-texts.by_digits, c.in_ok-texts.ensures.ok), (read, (told.0, say), refuses)))))

pub returns-in-None : goal.returns-in-None
returns-in-None g c =
    let file = g.O.Opener.file c.args.files.now in
    let words : List (List ℕ) = map (λ w. w.now) c.args.words.now in
    let names = map string_bytes c.in_ok-texts.texts.items in
    let by_digits = c.in_ok-texts.by_digits in
    let read = c.in_ok-all.all.ranks.items in
    let told = c.in_ok-all.ensures.ok in
    let ordered : kept c.in_ok-ordered.ordered.items ≡ in_order names =
    c.in_ok-ordered.ensures.texts ∙ ap (λ (ts : List (String Global)). in_order (map string_bytes ts)) c.deref.ensures.value in
    let say : AllSay file (in_order names) read told.0 =
    subst (λ (ss : List (Option (List ℕ))). AllSay file ss read told.0) (ap kept c.deref-2.ensures.value ∙ ordered) told.1 in
    let none : spread_by (told_size read) names ≡ None =
    ap₂ (λ (rs : List RankCalls) (ts : List (String Global)). spread_by (told_size rs) (map string_bytes ts)) (sym c.deref-6.ensures.value) (sym c.deref-5.ensures.value) ∙ subst (λ o. IfNone o (spread_by (told_size c.deref-6.result.now) (map string_bytes c.deref-5.result.now) ≡ None)) c.in-None.is c.in_ok-seats_of.ensures.none in
    let within : beyond_by (told_size read) names ≡ None =
    ap₂ (λ (rs : List RankCalls) (ts : List (String Global)). beyond_by (told_size rs) (map string_bytes ts)) (sym c.deref-4.ensures.value) (sym c.deref-3.ensures.value) ∙ c.in_ok-refuse_beyond.ensures.within in
    let seated = seated_so file words names by_digits read told.0 (in_order names) c.in_ok-texts.ensures.ok say within (none_missing (told_size read) names none) in
    record {
      made = IfOk-weaker c.prepared_by.result _ _ (λ p h. prepared_so file (form_of c.args.saying) c.args.sends words by_digits read told.0 c.in_ok-all.all.calls (in_order names) p.made p.notes.items seated
          (told_by_names (told_size read) names by_digits none) say told.2
          (subst (λ (ss : List (Option (List ℕ))). IsPreparedBy (form_of c.args.saying) c.args.sends ss by_digits read c.in_ok-all.all.calls p.made p.notes.items) (ap kept c.deref-in-None.ensures.value ∙ ordered) h)) c.prepared_by.ensures.made;
      err = IfErr-weaker c.prepared_by.result _ _ (λ fault h. said_refused file words (in_order names) read told.0 fault seated say h) c.prepared_by.ensures.err;
    }

pub returns-in_err-spread-in-Some-clause-err : goal.returns-in_err-spread-in-Some-clause-err
returns-in_err-spread-in-Some-clause-err g c =
    let file = g.O.Opener.file c.args.files.now in
    let words : List (List ℕ) = map (λ w. w.now) c.args.words.now in
    let names = map string_bytes c.in_ok-texts.texts.items in
    let read = c.in_ok-all.all.ranks.items in
    let told = c.in_ok-all.ensures.ok in
    let ordered : kept c.in_ok-ordered.ordered.items ≡ in_order names =
    c.in_ok-ordered.ensures.texts ∙ ap (λ (ts : List (String Global)). in_order (map string_bytes ts)) c.deref.ensures.value in
    let say : AllSay file (in_order names) read told.0 =
    subst (λ (ss : List (Option (List ℕ))). AllSay file ss read told.0) (ap kept c.deref-2.ensures.value ∙ ordered) told.1 in
    let spread : IsSpread (spread_by (told_size read) names) names c.in-Some.seats.items =
    subst (λ (rs : List RankCalls). IsSpread (spread_by (told_size rs) names) names c.in-Some.seats.items) c.deref-6.ensures.value
    (subst (λ (ts : List (String Global)). IsSpread (spread_by (told_size c.deref-6.result.now) (map string_bytes ts)) (map string_bytes ts) c.in-Some.seats.items) c.deref-5.ensures.value (subst (λ o. IfSome o (λ s. IsSpread (spread_by (told_size c.deref-6.result.now) (map string_bytes c.deref-5.result.now)) (map string_bytes c.deref-5.result.now) s.items)) c.in-Some.is c.in_ok-seats_of.ensures.some)) in
    let within : beyond_by (told_size read) names ≡ None =
    ap₂ (λ (rs : List RankCalls) (ts : List (String Global)). beyond_by (told_size rs) (map string_bytes ts)) (sym c.deref-4.ensures.value) (sym c.deref-3.ensures.value) ∙ c.in_ok-refuse_beyond.ensures.within in
    let seated = seated_so file words names c.in_ok-texts.by_digits read told.0 (kept c.in-Some.seats.items) c.in_ok-texts.ensures.ok say within (spread_out (told_size read) names c.in-Some.seats.items spread) in
    let fault = c.in_err-spread-in-Some.field-0.0 in
    let refuses : RefusesOne file (kept c.in-Some.seats.items) fault =
    subst (λ (ss : List (Option (String Global))). RefusesOne file (kept ss) fault) c.deref-in-Some.ensures.value c.in_err-spread-in-Some.ensures.err in
    handed_on c.from_residual-in_err-spread-in-Some.result _ _ c.from_residual-in_err-spread-in-Some.ensures.1 (inr (inr (inr (kept c.in-Some.seats.items, seated, inl refuses))))

pub returns : goal.returns
returns g c =
    let file = g.O.Opener.file c.args.files.now in
    let words : List (List ℕ) = map (λ w. w.now) c.args.words.now in
    let names = map string_bytes c.in_ok-texts.texts.items in
    let read = c.in_ok-all.all.ranks.items in
    let told = c.in_ok-all.ensures.ok in
    let ordered : kept c.in_ok-ordered.ordered.items ≡ in_order names =
    c.in_ok-ordered.ensures.texts ∙ ap (λ (ts : List (String Global)). in_order (map string_bytes ts)) c.deref.ensures.value in
    let say : AllSay file (in_order names) read told.0 =
    subst (λ (ss : List (Option (List ℕ))). AllSay file ss read told.0) (ap kept c.deref-2.ensures.value ∙ ordered) told.1 in
    let spread : IsSpread (spread_by (told_size read) names) names c.in-Some.seats.items =
    subst (λ (rs : List RankCalls). IsSpread (spread_by (told_size rs) names) names c.in-Some.seats.items) c.deref-6.ensures.value
    (subst (λ (ts : List (String Global)). IsSpread (spread_by (told_size c.deref-6.result.now) (map string_bytes ts)) (map string_bytes ts) c.in-Some.seats.items) c.deref-5.ensures.value (subst (λ o. IfSome o (λ s. IsSpread (spread_by (told_size c.deref-6.result.now) (map string_bytes c.deref-5.result.now)) (map string_bytes c.deref-5.result.now) s.items)) c.in-Some.is c.in_ok-seats_of.ensures.some)) in
    let seats = kept c.in-Some.seats.items in
    let within : beyond_by (told_size read) names ≡ None =
    ap₂ (λ (rs : List RankCalls) (ts : List (String Global)). beyond_by (told_size rs) (map string_bytes ts)) (sym c.deref-4.ensures.value) (sym c.deref-3.ensures.value) ∙ c.in_ok-refuse_beyond.ensures.within in
    let seated = seated_so file words names c.in_ok-texts.by_digits read told.0 seats c.in_ok-texts.ensures.ok say within (spread_out (told_size read) names c.in-Some.seats.items spread) in
    let of = c.in_ok-spread-in-Some.spread in
    let again = c.in_ok-spread-in-Some.ensures.ok in
    let says : AllSay file seats of.ranks.items again.0 = subst (λ (ss : List (Option (String Global))). AllSay file (kept ss) of.ranks.items again.0) c.deref-in-Some.ensures.value again.1 in
    record {
      made = IfOk-weaker c.prepared_by-in-Some.result _ _ (λ p h. prepared_so file (form_of c.args.saying) c.args.sends words true of.ranks.items again.0 of.calls seats p.made p.notes.items seated
          (told_by_numbers (told_size read) names c.in_ok-texts.by_digits c.in-Some.seats.items spread) says again.2
          (subst (λ (ss : List (Option (String Global))). IsPreparedBy (form_of c.args.saying) c.args.sends (kept ss) true of.ranks.items of.calls p.made p.notes.items) c.deref-in-Some-2.ensures.value h)) c.prepared_by-in-Some.ensures.made;
      err = IfErr-weaker c.prepared_by-in-Some.result _ _ (λ fault h. said_refused file words seats of.ranks.items again.0 fault seated says h) c.prepared_by-in-Some.ensures.err;
    }
