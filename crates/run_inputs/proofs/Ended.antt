-- How `init` ends, and what is no file.
use Rattle.std.proofs.Common.{◌≡◌, inl, inr, ℕ, Bool, false, is_some, List, Option, Some, None, Result, Ok, Err, IsErrAnd, refl, subst, sym}
use Rattle.std.specs.Io.KnownBytes.{Keeps}
use Rattle.command_line.specs.Program.{Wish}
use Rattle.run_files.specs.Manifests.{PieceParts}
use Rattle.run_files.specs.Stores.{Files, Goes, Same}
use Rattle.run_files.specs.Values.{manifest_value}
use Rattle.text_layouts.specs.Making.{IsFile, RefusesLayoutFile, RefusesManifestFile, made_layout}
use Rattle.text_layouts.specs.declared.fault.MadeFault.{MadeFault}
use Rattle.text_layouts.specs.declared.made.Made.{Made}
use Rattle.run_inputs.specs.Inits.{MakesOf, RanInit, RefusesFiles, TellsCuts, marked_texts}
use Rattle.run_inputs.specs.declared.faults.init_fault.InitFault.{InitFault}
use Rattle.run_inputs.specs.declared.faults.init_fault.InitFault.TheVariants as faults
use Rattle.run_inputs.specs.Seen.{Reads, RefusesTexts, front_of, is_cut, limit_in, seen_by}

pub keeps_same : (bytes : Option (List ℕ)) → Keeps bytes bytes
keeps_same None = tt
keeps_same (Some bytes) = refl

pub goes_same : (files : Option Files) → Goes Same files files
goes_same None = tt
goes_same (Some old) = (old, refl, λ name. refl)

-- nothing was made, or memory was wanting, before anything was kept
pub init_refused : {W : Type 0} (file : List ℕ → Option (List ℕ)) (words : List (List ℕ)) (wish : Wish) (store : Option Files) (failed : Type 0) (r : Result (Unit {0}) InitFault) (fault : InitFault)
    (written : W → Option (List ℕ)) (failures : W → ℕ) (out : W) → IsErrAnd r (λ e. e ≡ fault) → RefusesTexts file words fault
    → RanInit file words wish store store failed r written failures out out
init_refused file words wish store failed (Ok done) fault written failures out is h = absurd is
init_refused file words wish store failed (Err e) fault written failures out is h =
    inl (subst (RefusesTexts file words) (sym is) h, goes_same store, keeps_same (written out))

-- a file of what was made would be too long
pub made_refused : {W : Type 0} (file : List ℕ → Option (List ℕ)) (words : List (List ℕ)) (wish : Wish) (store : Option Files) (failed : Type 0) (r : Result (Unit {0}) InitFault) (fault : InitFault)
    (written : W → Option (List ℕ)) (failures : W → ℕ) (out : W) (of : MakesOf file wish.sends words) → IsErrAnd r (λ e. e ≡ fault) → RefusesFiles of.made of.is_cut fault
    → RanInit file words wish store store failed r written failures out out
made_refused file words wish store failed (Ok done) fault written failures out of err h = absurd err
made_refused file words wish store failed (Err e) fault written failures out of err h =
    inr (inl (of, inl (subst (RefusesFiles of.made of.is_cut) (sym err) h, goes_same store), keeps_same (written out)))

-- which texts were cut off
whole_by : (limit : Option ℕ) (file : Option (List ℕ)) → is_some limit ≡ false → front_of limit file ≡ file
whole_by None file none = refl
whole_by (Some limit) file none = absurd (cc none)

pub tells_cuts : (file : List ℕ → Option (List ℕ)) (words : List (List ℕ)) (cuts : List (List ℕ × ℕ)) → Reads file words (seen_by cuts file) → TellsCuts file words (seen_by cuts file) (is_cut cuts)
tells_cuts file words cuts reads = record { reads = reads; whole = λ name none. whole_by (limit_in cuts name) (file name) none }

-- ---- both files

pub layout_too_long : (made : Made) (is_cut : List ℕ → Bool) (cause : MadeFault) → RefusesLayoutFile (made_layout made) cause → RefusesFiles made is_cut (faults.Made cause)
layout_too_long made is_cut cause h = inr (cause, refl, inl h)

pub manifest_too_long : (made : Made) (is_cut : List ℕ → Bool) (texts : List PieceParts) (cause : MadeFault) → texts ≡ marked_texts made is_cut → RefusesManifestFile (manifest_value texts) cause
    → RefusesFiles made is_cut (faults.Made cause)
manifest_too_long made is_cut texts cause are h = inr (cause, refl, inr (subst (λ (ts : List PieceParts). RefusesManifestFile (manifest_value ts) cause) are h))

pub manifest_marked : (made : Made) (is_cut : List ℕ → Bool) (texts : List PieceParts) (file : List ℕ) → texts ≡ marked_texts made is_cut → IsFile (manifest_value texts) file
    → IsFile (manifest_value (marked_texts made is_cut)) file
manifest_marked made is_cut texts file are h = subst (λ (ts : List PieceParts). IsFile (manifest_value ts) file) are h
