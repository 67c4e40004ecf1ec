use Rattle.std.proofs.Common.{◌≡◌, ◌∙◌, ℕ, List, IsErrAnd, ap, arith, inl, inr, map, refl, string_bytes, subst}
use Rattle.std.proofs.KnownBytes.{Keeps-refl}
use Rattle.std.specs.Io.KnownBytes.{Appends}
use Rattle.command_line.specs.Program.{texts_of, wish_of}
use Rattle.run_inputs.specs.InitFaults.{IsPutFault}
use Rattle.run_inputs.specs.Inits.{AreFilesOf, MakesOf, RefusesFiles, wished_form}
use Rattle.run_inputs.specs.Prepared.{Form, notes_of}
use Rattle.run_inputs.specs.Seen.{is_cut, kept_of, seen_by}
use Rattle.run_inputs.specs.Writing.{AppendsFront}
use Rattle.run_inputs.specs.declared.faults.init_fault.InitFault.{InitFault}
use Rattle.run_inputs.specs.declared.faults.init_fault.InitFault.TheVariants.{Memory}
use Rattle.run_inputs.proofs.Ended.{init_refused, made_refused, tells_cuts}
use Rattle.run_inputs.proofs.both_files.init.Goals as goal

pub returns-in_err-prepared : goal.returns-in_err-prepared
returns-in_err-prepared g c = init_refused _ _ _ _ _ c.from_residual.result c.in_err-prepared.field-0.0 g.W.Write.written g.W.Write.failures c.args.out.now c.from_residual.ensures.1 c.in_err-prepared.ensures.err

pub returns-in_err-both : goal.returns-in_err-both
returns-in_err-both g c =
    let file = g.O.Opener.file c.args.files.now in
    let cuts = map kept_of c.in_ok-prepared.seen.cuts.items in
    let of : MakesOf file (wish_of c.args.wanted).sends (texts_of c.args.texts.now) = record {
      seen = seen_by cuts file;
      is_cut = is_cut cuts;
      tells = tells_cuts file (texts_of c.args.texts.now) cuts c.in_ok-prepared.ensures.seen;
      made = c.in_ok-prepared.prepared.made;
      is_made = c.in_ok-prepared.ensures.made.0;
    } in
    let refuses : RefusesFiles of.made of.is_cut c.in_err-both.field-0.0 = c.in_err-both.ensures.err in
    made_refused file _ (wish_of c.args.wanted) _ _ c.from_residual-in_err-both.result c.in_err-both.field-0.0 g.W.Write.written g.W.Write.failures c.args.out.now of c.from_residual-in_err-both.ensures.1 refuses

pub returns-in_err-layout : goal.returns-in_err-layout
returns-in_err-layout g c =
    init_refused _ _ _ _ _ c.from_residual-in_err-layout.result Memory g.W.Write.written g.W.Write.failures c.args.out.now (subst (λ (f : InitFault). IsErrAnd c.from_residual-in_err-layout.result (λ e. e ≡ f)) c.in_err-layout.ensures.err c.from_residual-in_err-layout.ensures.1) (inr (inr (inr (inl refl))))

pub returns-in-Err : goal.returns-in-Err
returns-in-Err g c =
    let file = g.O.Opener.file c.args.files.now in
    let cuts = map kept_of c.in_ok-prepared.seen.cuts.items in
    let of : MakesOf file (wish_of c.args.wanted).sends (texts_of c.args.texts.now) = record {
      seen = seen_by cuts file;
      is_cut = is_cut cuts;
      tells = tells_cuts file (texts_of c.args.texts.now) cuts c.in_ok-prepared.ensures.seen;
      made = c.in_ok-prepared.prepared.made;
      is_made = c.in_ok-prepared.ensures.made.0;
    } in
    let told : IsPutFault c.args.wanted.layout.now c.args.wanted.manifest.now c.in-Err.fault c.put_fault.result =
    subst (λ (m : List ℕ). IsPutFault c.args.wanted.layout.now m c.in-Err.fault c.put_fault.result) c.in_ok-layout.ensures.manifest
    (subst (λ (l : List ℕ). IsPutFault l (string_bytes c.in_ok-layout.manifest) c.in-Err.fault c.put_fault.result) c.in_ok-layout.ensures.layout c.put_fault.ensures) in
    inr (inl (
      of,
      inr record {
        layout = c.in_ok-both.both.layout.items;
        manifest = c.in_ok-both.both.manifest.items;
        are = c.in_ok-both.ensures.ok;
        why = c.in-Err.fault;
        told = told;
        cause = c.in-Err.ensures.cause;
        nothing = c.in-Err.ensures.err;
        left = c.in-Err.ensures.left;
      },
      Keeps-refl (g.W.Write.written c.args.out.now),
    ))

pub returns-in-Ok : goal.returns-in-Ok
returns-in-Ok g c =
    let file = g.O.Opener.file c.args.files.now in
    let cuts = map kept_of c.in_ok-prepared.seen.cuts.items in
    let of : MakesOf file (wish_of c.args.wanted).sends (texts_of c.args.texts.now) = record {
      seen = seen_by cuts file;
      is_cut = is_cut cuts;
      tells = tells_cuts file (texts_of c.args.texts.now) cuts c.in_ok-prepared.ensures.seen;
      made = c.in_ok-prepared.prepared.made;
      is_made = c.in_ok-prepared.ensures.made.0;
    } in
    let both = c.in_ok-both.both in
    let form = wished_form (wish_of c.args.wanted) in
    let said : c.in_ok-prepared.prepared.notes.items ≡ notes_of form of.made of.is_made = c.in_ok-prepared.ensures.made.1 ∙ ap (λ (f : Form). notes_of f of.made of.is_made) c.saying_of-saying.ensures in
    let are : AreFilesOf of.made of.is_cut both.layout.items both.manifest.items = c.in_ok-both.ensures.ok in
    let wrote : Appends (g.W.Write.written c.args.out.now) (g.W.Write.written c.write_all.new.writer) (notes_of form of.made of.is_made) =
    subst (λ (t : List ℕ). Appends (g.W.Write.written c.args.out.now) (g.W.Write.written c.write_all.new.writer) t) (c.deref.ensures.value ∙ said) c.in-Ok.ensures.ok in
    (of, record { layout = both.layout.items; manifest = both.manifest.items; are = are; kept = c.in_default.ensures.ok }, wrote)

pub returns : goal.returns
returns g c =
    let file = g.O.Opener.file c.args.files.now in
    let cuts = map kept_of c.in_ok-prepared.seen.cuts.items in
    let of : MakesOf file (wish_of c.args.wanted).sends (texts_of c.args.texts.now) = record {
      seen = seen_by cuts file;
      is_cut = is_cut cuts;
      tells = tells_cuts file (texts_of c.args.texts.now) cuts c.in_ok-prepared.ensures.seen;
      made = c.in_ok-prepared.prepared.made;
      is_made = c.in_ok-prepared.ensures.made.0;
    } in
    let both = c.in_ok-both.both in
    let form = wished_form (wish_of c.args.wanted) in
    let said : c.in_ok-prepared.prepared.notes.items ≡ notes_of form of.made of.is_made = c.in_ok-prepared.ensures.made.1 ∙ ap (λ (f : Form). notes_of f of.made of.is_made) c.saying_of-saying.ensures in
    let are : AreFilesOf of.made of.is_cut both.layout.items both.manifest.items = c.in_ok-both.ensures.ok in
    let front : AppendsFront (g.W.Write.written c.args.out.now) (g.W.Write.written c.write_all.new.writer) (notes_of form of.made of.is_made) =
    subst (λ (t : List ℕ). AppendsFront (g.W.Write.written c.args.out.now) (g.W.Write.written c.write_all.new.writer) t) (c.deref.ensures.value ∙ said)
    (c.in-Err-write_all.field-0.written, c.in-Err-write_all.ensures.part, c.in-Err-write_all.ensures.err) in
    inr (inr (
      refl,
      (
        of,
        record { layout = both.layout.items; manifest = both.manifest.items; are = are; kept = c.in_default.ensures.ok },
        ((notes_of form of.made of.is_made, refl, front), grind (arith, c.in-Err-write_all.ensures.failures.1)),
      ),
    ))
