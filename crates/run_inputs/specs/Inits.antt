-- `init`: how it ran.
use Rattle.std.specs.Prelude.{◌≡◌, ◌⊎◌, ℕ, Bool, true, false, List, [], Option, Result, Ok, Err, map, string_bytes, if◌then◌else◌}
use Rattle.std.specs.Io.KnownBytes.{Appends, Keeps}
use Rattle.mpi_model.specs.declared.layout.Sends.{Sends}
use Rattle.command_line.specs.Program.{Wish}
use Rattle.run_files.specs.Manifests.{PieceParts, marked}
use Rattle.run_files.specs.Stores.{AddsBoth, File, Files, Goes, HasBoth, LeavesNothing, LeftOfAdding, LeftOfReplacing, RefusesAdding, RefusesReplacing, Same, named, spare_name}
use Rattle.run_files.specs.Values.{manifest_value}
use Rattle.run_files.specs.declared.store.PutFault.{PutFault}
use Rattle.text_layouts.specs.Making.{IsFile, RefusesLayoutFile, RefusesManifestFile, made_layout}
use Rattle.text_layouts.specs.declared.fault.MadeFault.{MadeFault}
use Rattle.text_layouts.specs.declared.made.Made.{Made}
use Rattle.run_inputs.specs.InitFaults.{IsPutFault, init_fault_line_of}
use Rattle.run_inputs.specs.Prepared.{Form, IsMadeOf, as_json, as_words, notes_of}
use Rattle.run_inputs.specs.Seen.{Reads, RefusesTexts}
use Rattle.run_inputs.specs.Writing.{BreaksOff}
use Rattle.run_inputs.specs.declared.faults.init_fault.InitFault.{InitFault}
use Rattle.run_inputs.specs.declared.faults.init_fault.InitFault.TheVariants as faults

-- ---- both files

-- texts, each marked as one that was cut off if it was
abbrev pub all_marked : (List ℕ → Bool) → List PieceParts → List PieceParts
all_marked is_cut texts = map (λ p. marked (is_cut p.file) p) texts

-- the texts of the manifest's file
abbrev pub marked_texts : Made → (List ℕ → Bool) → List PieceParts
marked_texts made is_cut = all_marked is_cut made.input.manifest.pieces

-- These are the bytes of both files of what was made of texts of which these were cut off.
pub record AreFilesOf (made : Made) (is_cut : List ℕ → Bool) (layout manifest : List ℕ) : Type 0 where
  pub layout_is : IsFile (made_layout made) layout
  pub manifest_is : IsFile (manifest_value (marked_texts made is_cut)) manifest

-- One of the two files would be too long, or memory was wanting.
abbrev pub RefusesFiles : Made → (List ℕ → Bool) → InitFault → Type 0
RefusesFiles made is_cut fault = (fault ≡ faults.Memory) ⊎ ((cause : MadeFault) × (fault ≡ faults.Made cause)
    × (RefusesLayoutFile (made_layout made) cause ⊎ RefusesManifestFile (manifest_value (marked_texts made is_cut)) cause))

-- a file
abbrev pub file_with : List ℕ → List ℕ → File
file_with name bytes = record { name = name; bytes = bytes }

-- Both files are there then: in place of those of their names where that is wanted, else where none was.
abbrev pub PutsBoth : Bool → File → File → Files → Files → Type 0
PutsBoth true one other = HasBoth one other
PutsBoth false one other = AddsBoth one other

-- why both files aren't kept under these names: where they may replace others, and else
abbrev pub refuses_keeping : Bool → List ℕ → List ℕ → Option Files → Type 0 → PutFault → Type 0
refuses_keeping true one other = RefusesReplacing one other (spare_name one) (spare_name other)
refuses_keeping false one other = RefusesAdding one other

-- Why both files aren't kept as they are wanted.
abbrev pub RefusesPutting : Wish → Option Files → Type 0 → PutFault → Type 0
RefusesPutting wish = refuses_keeping wish.force wish.layout wish.manifest

-- What is left of both files: where they may replace others, and else.
abbrev pub LeftOfPutting : Bool → File → File → PutFault → Files → Files → Type 0
LeftOfPutting true one other = LeftOfReplacing one (named (spare_name one.name) one) (named (spare_name other.name) other)
LeftOfPutting false one other = LeftOfAdding one

-- What was made of the texts isn't kept for this cause; nothing has changed, unless the fault says that something is
-- left.
pub record IsUnkept (wish : Wish) (made : Made) (is_cut : List ℕ → Bool) (old new : Option Files) (failed : Type 0) (fault : InitFault) : Type 0 where
  pub layout : List ℕ
  pub manifest : List ℕ
  pub are : AreFilesOf made is_cut layout manifest
  pub why : PutFault
  pub told : IsPutFault wish.layout wish.manifest why fault
  pub cause : RefusesPutting wish old failed why
  pub nothing : LeavesNothing why → Goes Same old new
  pub left : Goes (LeftOfPutting wish.force (file_with wish.layout layout) (file_with wish.manifest manifest) why) old new

-- ---- `init`

-- Both files of what was made are kept as they are wanted.
pub record KeepsMade (wish : Wish) (made : Made) (is_cut : List ℕ → Bool) (old new : Option Files) : Type 0 where
  pub layout : List ℕ
  pub manifest : List ℕ
  pub are : AreFilesOf made is_cut layout manifest
  pub kept : Goes (PutsBoth wish.force (file_with wish.layout layout) (file_with wish.manifest manifest)) old new

-- how what was found is wanted
abbrev pub wished_form : Wish → Form
wished_form wish = if wish.json then as_json wish.layout wish.manifest else as_words

-- The texts that these words name were read so, and it is told of which a part was dropped: any other was read whole.
pub record TellsCuts (file : List ℕ → Option (List ℕ)) (words : List (List ℕ)) (seen : List ℕ → Option (List ℕ)) (is_cut : List ℕ → Bool) : Type 0 where
  pub reads : Reads file words seen
  pub whole : (name : List ℕ) → is_cut name ≡ false → seen name ≡ file name

-- How the texts that these words name were read, which of them were cut off, and what was made of them.
pub record MakesOf (file : List ℕ → Option (List ℕ)) (sends : Sends) (words : List (List ℕ)) : Type 0 where
  pub seen : List ℕ → Option (List ℕ)
  pub is_cut : List ℕ → Bool
  pub tells : TellsCuts file words seen is_cut
  pub made : Made
  pub is_made : IsMadeOf seen sends words made

-- How `init` ran over the texts that these words name, in a store of these files: both files are kept and the notes of
-- them written; or nothing was made, or what was made isn't kept, and nothing written; or only a front of the notes is.
abbrev pub RanInit : {W : Type 0} → (List ℕ → Option (List ℕ)) → List (List ℕ) → Wish → Option Files → Option Files → Type 0 → Result (Unit {0}) InitFault → (W → Option (List ℕ)) → (W → ℕ) → W → W → Type 0
RanInit file words wish old new failed (Ok done) written failures before after = (of : MakesOf file wish.sends words)
    × KeepsMade wish of.made of.is_cut old new × Appends (written before) (written after) (notes_of (wished_form wish) of.made of.is_made)
RanInit file words wish old new failed (Err fault) written failures before after =
    (RefusesTexts file words fault × Goes Same old new × Keeps (written before) (written after))
    ⊎ (((of : MakesOf file wish.sends words) × ((RefusesFiles of.made of.is_cut fault × Goes Same old new) ⊎ IsUnkept wish of.made of.is_cut old new failed fault)
    × Keeps (written before) (written after))
    ⊎ ((fault ≡ faults.Write) × ((of : MakesOf file wish.sends words) × KeepsMade wish of.made of.is_cut old new
    × BreaksOff (λ text. text ≡ notes_of (wished_form wish) of.made of.is_made) written failures before after)))
