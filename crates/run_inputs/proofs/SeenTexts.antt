-- What is made of texts that may have been cut off, and why nothing is.
use Rattle.std.proofs.Common.{◌≡◌, ◌∙◌, ℕ, false, List, [], Option, None, Contains, String, Global, ap, inl, inr, map, refl, string_bytes, subst, sym}
use Rattle.mpi_model.specs.declared.layout.Sends.{Sends}
use Rattle.text_layouts.specs.declared.made.Made.{Made}
use Rattle.run_inputs.specs.Prepared.{Form, IsPrepared, RefusesWords}
use Rattle.run_inputs.specs.Seen.{AreCutsOf, NamesPiped, Reads, RefusesLooks, RefusesTexts, kept_of, says_cut, seen_by}
use Rattle.run_inputs.specs.declared.faults.fault.RunFault.{RunFault}
use Rattle.run_inputs.specs.declared.faults.init_fault.InitFault.{InitFault}
use Rattle.run_inputs.specs.declared.faults.init_fault.InitFault.TheVariants.{Memory, Piped, Text}
use Rattle.run_inputs.specs.declared.load.cut_files.CutText.{CutText}
use Rattle.run_inputs.proofs.Seen.{sees_kept}

-- where none was cut off, all are read whole
seen_whole : (file : List ℕ → Option (List ℕ)) (cuts : List CutText) → cuts ≡ [] → seen_by (map kept_of cuts) file ≡ file
seen_whole file cuts none = ap (λ (cs : List CutText). seen_by (map kept_of cs) file) none

pub reads_whole : (file : List ℕ → Option (List ℕ)) (words : List (List ℕ)) (cuts : List CutText) → cuts ≡ [] → Reads file words (seen_by (map kept_of cuts) file)
reads_whole file words cuts none = inl (seen_whole file cuts none)

pub reads_kept : (file : List ℕ → Option (List ℕ)) (words : List (List ℕ)) (cuts given : List CutText) → given ≡ cuts → AreCutsOf file words cuts → Reads file words (seen_by (map kept_of given) file)
reads_kept file words cuts given is are = inr (sees_kept file words words cuts given refl is are)

-- the same files
pub prepared_same : (file other : List ℕ → Option (List ℕ)) (cuts : List (List ℕ × ℕ)) (form : Form) (sends : Sends) (words : List (List ℕ)) (made : Made) (notes : List ℕ) → other ≡ file
    → IsPrepared (seen_by cuts other) form sends words made notes → IsPrepared (seen_by cuts file) form sends words made notes
prepared_same file other cuts form sends words made notes same is = subst (λ (f : List ℕ → Option (List ℕ)). IsPrepared (seen_by cuts f) form sends words made notes) same is

-- ---- why nothing is made

pub refused_whole : (file other : List ℕ → Option (List ℕ)) (words : List (List ℕ)) (cuts : List CutText) (fault : InitFault) → other ≡ file → cuts ≡ [] → RefusesWords (seen_by (map kept_of cuts) other) words fault
    → says_cut fault ≡ false → RefusesTexts file words fault
refused_whole file other words cuts fault same none refuses uncut =
    inl (subst (λ (f : List ℕ → Option (List ℕ)). RefusesWords f words fault) (seen_whole other cuts none ∙ same) refuses, uncut)

pub refused_piped : (file : List ℕ → Option (List ℕ)) (words : List (List ℕ)) (name : List ℕ) (path : String Global) → string_bytes path ≡ name → Contains words name → file name ≡ None
    → RefusesTexts file words (Piped path)
refused_piped file words name path is among untold =
    let piped : NamesPiped file words (Piped path) =
    subst (λ (n : List ℕ). Contains words n × (file n ≡ None)) (sym is) (among, untold) in
    inr (inl piped)

pub refused_memory : (file : List ℕ → Option (List ℕ)) (words : List (List ℕ)) (fault : InitFault) → fault ≡ Memory → RefusesTexts file words fault
refused_memory file words fault is = inr (inr (inr (inl is)))

pub refused_look : (file : List ℕ → Option (List ℕ)) (words : List (List ℕ)) (why : RunFault) → RefusesLooks words why → RefusesTexts file words (Text why)
refused_look file words why refuses = inr (inr (inr (inr (why, refl, refuses))))

pub refused_kept : (file other : List ℕ → Option (List ℕ)) (words : List (List ℕ)) (cuts given : List CutText) (fault : InitFault) → other ≡ file → given ≡ cuts → AreCutsOf file words cuts
    → RefusesWords (seen_by (map kept_of given) other) words fault → RefusesTexts file words fault
refused_kept file other words cuts given fault same is are refuses =
    inr (inr (inl (
      seen_by (map kept_of given) file,
      sees_kept file words words cuts given refl is are,
      subst (λ (f : List ℕ → Option (List ℕ)). RefusesWords (seen_by (map kept_of given) f) words fault) same refuses,
    )))
