-- Names for which words stand, and what is no text.
use Rattle.std.specs.Prelude.{Contains, codes, if◌then◌else◌}
use Rattle.std.proofs.Common.{◌≡◌, ◌∙◌, ◌<◌, ◌+◌, ◌++◌, ◌∷◌, [], ℕ, suc, Bool, Bor, List, Option, None, String, Global, true, false, append_assoc, ap, arith, drop, drop-cons, get_or, inl, inr, length, map, refl, string_bytes, subst, sym}
use Rattle.std.proofs.lemmas.List.{get_or-map, length-map}
use Rattle.clap.specs.Words.{Text}
use Rattle.command_line.specs.Program.{texts_of}
use Rattle.run_inputs.specs.Folders.{AreTextsIn, IsNoFolder, IsTextIn, NamesNoFolder, StandFor, StandForAll, ends_in, is_text_name, name_in}
use Rattle.run_inputs.specs.NoTexts.{IsNoText}
use Rattle.run_inputs.specs.declared.faults.init_fault.InitFault.{InitFault}

pub no_text : (folder : List ℕ) → AreTextsIn folder []
no_text folder = tt

texts_push : (folder : List ℕ) (names : List (String Global)) (name : String Global) → AreTextsIn folder names → IsTextIn folder (string_bytes name) → AreTextsIn folder (names ++ name ∷ [])
texts_push folder [] name h is = (is, tt)
texts_push folder (n ∷ names) name h is = (h.0, texts_push folder names name h.1 is)

pub one_text_more : (folder entry : List ℕ) (names : List (String Global)) (name : String Global) → AreTextsIn folder names → string_bytes name ≡ name_in folder entry
    → true ≡ is_text_name entry → AreTextsIn folder (names ++ name ∷ [])
one_text_more folder entry names name h within ends = texts_push folder names name h (record { entry = entry; within = within; ends = sym ends })

-- a word that stands for itself, or for the texts in a folder
pub stands_alone : (file : Option (List ℕ)) (word : List ℕ) (names : List (String Global)) → map string_bytes names ≡ word ∷ [] → StandFor file word names
stands_alone file word names e = inl e

pub stands_for_texts : (file : Option (List ℕ)) (word : List ℕ) (names : List (String Global)) → file ≡ None → AreTextsIn word names → StandFor file word names
stands_for_texts file word names e h = inr (e, h)

-- nothing is told of the bytes of a file of this name
pub no_folder : (word : List ℕ) (file : Option (List ℕ)) (fault : InitFault) → file ≡ None → IsNoFolder word None fault → IsNoFolder word file fault
no_folder word file fault e h = subst (λ (f : Option (List ℕ)). IsNoFolder word f fault) (sym e) h

pub untold_no_text : (name : List ℕ) (file : Option (List ℕ)) (fault : InitFault) → file ≡ None → IsNoText name None fault → IsNoText name file fault
untold_no_text name file fault e h = subst (λ (f : Option (List ℕ)). IsNoText name f fault) (sym e) h

-- the name of a file in a folder whose name ends without a slash
pub slash_between : (folder entry : List ℕ) → ends_in folder (codes "/") ≡ false → folder ++ (codes "/" ++ entry) ≡ name_in folder entry
slash_between folder entry other =
    sym (append_assoc folder (codes "/") entry) ∙ ap (λ (b : Bool). if b then folder ++ entry else folder ++ codes "/" ++ entry) (sym other)

-- the word at a place is among the words
pub text_at : (words : List (Bor Text)) (i : ℕ) (d : Bor Text) → i < length words → Contains (texts_of words) (get_or words i d).now
text_at words i d below =
    let long = length-map words (λ (w : Bor Text). w.now) in
    (i, subst (λ (n : ℕ). i < n) (sym long) below, get_or-map (λ (w : Bor Text). w.now) words i d (get_or words i d).now below)

-- the word at a place stands for no names
pub names_none : (file : List ℕ → Option (List ℕ)) (words : List (Bor Text)) (i : ℕ) (d : Bor Text) (fault : InitFault) → i < length words
    → IsNoFolder (get_or words i d).now (file (get_or words i d).now) fault → NamesNoFolder file (texts_of words) fault
names_none file words i d fault below h = inr ((get_or words i d).now, text_at words i d below, h)

drop_at : (words : List (Bor Text)) (i : ℕ) (d : Bor Text) → i < length words → drop i words ≡ get_or words i d ∷ drop (i + 1) words
drop_at words i d below =
    let one : suc i ≡ i + 1 = omega arith in
    drop-cons words i d below ∙ ap (λ (n : ℕ). get_or words i d ∷ drop n words) one

-- the names of a word, and then those of the words after it
pub stand_more : (file : List ℕ → Option (List ℕ)) (words : List (Bor Text)) (i : ℕ) (d : Bor Text) (some : List (String Global)) (more : List (List ℕ)) → i < length words
    → StandFor (file (get_or words i d).now) (get_or words i d).now some → StandForAll file (texts_of (drop (i + 1) words)) more
    → StandForAll file (texts_of (drop i words)) (map string_bytes some ++ more)
stand_more file words i d some more below h rest =
    subst (λ (ws : List (Bor Text)). StandForAll file (texts_of ws) (map string_bytes some ++ more)) (sym (drop_at words i d below)) (some, more, h, rest, refl)
