-- How the program ends, by what a run answered.
use Rattle.std.proofs.Common.{◌≡◌, ◌≢◌, ◌∙◌, ◌∷◌, ℕ, List, [], Bool, Option, Result, Ok, Err, IfErr, IfOk, Bor, ap₂, arith, length, map, refl, slice_index_or, string_bytes, subst, sym}
use Rattle.std.proofs.lemmas.List.{length-map}
use Rattle.clap.specs.Words.{Text}
use Rattle.mpi_model.specs.Layouts.{Parts}
use Rattle.command_line.specs.declared.Verb.{Verb}
use Rattle.command_line.specs.Program.{asked_rank}
use Rattle.run_files.specs.Manifests.{ManifestParts}
use Rattle.run_inputs.specs.Advice.{IsShownIn, is_in_words}
use Rattle.program_runs.specs.Endings.{EndsRun, EndsShowing, IsEndedBy}
use Rattle.run_inputs.specs.Files.{NamesFailed}
use Rattle.run_inputs.specs.Inputs.{HasRank}
use Rattle.command_runs.specs.Verbs.{Ran, RanCluster}
use Rattle.program_runs.specs.declared.ending.Ending.{Ending}
use Rattle.run_inputs.specs.declared.faults.fault.RunFault.{RunFault}
use Rattle.command_runs.specs.declared.run.Outcome.{Outcome}

-- what holds of an answer by two clauses
pub if_both : {X E : Type 0} (r : Result X E) (P Q R : X → Type 0) → ((x : X) → P x → Q x → R x) → IfOk r P → IfOk r Q → IfOk r R
if_both (Ok x) P Q R h p q = h x p q
if_both (Err e) P Q R h p q = tt

-- a run of a verb over this input
pub ran_over : {W : Type 0} (fails : Type 0) (file other : List ℕ → Option (List ℕ)) (verb : Verb) (l k : Parts) (m n : ManifestParts) (ran : Result Outcome RunFault)
    (written : W → Option (List ℕ)) (failures : W → ℕ) (old new : W) (b : Bool) (e : Ending) → other ≡ file → k ≡ l → n ≡ m → b ≡ is_in_words verb
    → Ran other verb k n ran written failures old new → IfErr ran (NamesFailed fails) → IsEndedBy b file ran e → EndsRun fails file verb l m written failures old new e
ran_over fails file other verb l k m n ran written failures old new b e files layout manifest words h failed ended = (
  ran,
  subst (λ (f : List ℕ → Option (List ℕ)). Ran f verb l m ran written failures old new) files
      (subst (λ (p : Parts). Ran other verb p m ran written failures old new) layout (subst (λ (q : ManifestParts). Ran other verb k q ran written failures old new) manifest h)),
  failed,
  subst (λ (in_words : Bool). IsEndedBy in_words file ran e) words ended,
)

-- a run of a cluster over this input
pub cluster_ran : {W : Type 0} (fails : Type 0) (file other : List ℕ → Option (List ℕ)) (l k : Parts) (m n : ManifestParts) (ran : Result Outcome RunFault)
    (written : W → Option (List ℕ)) (failures : W → ℕ) (old new : W) → other ≡ file → k ≡ l → n ≡ m
    → RanCluster fails other k n ran written failures old new → RanCluster fails file l m ran written failures old new
cluster_ran fails file other l k m n ran written failures old new files layout manifest h =
    subst (λ (f : List ℕ → Option (List ℕ)). RanCluster fails f l m ran written failures old new) files
    (subst (λ (p : Parts). RanCluster fails other p m ran written failures old new) layout (subst (λ (q : ManifestParts). RanCluster fails other k q ran written failures old new) manifest h))

-- a fault that is shown
pub shown_so : {W : Type 0} (file : List ℕ → Option (List ℕ)) (fault : RunFault) (now : W) (b c : Bool) (e : Ending) → b ≡ c → e.status ≡ 1
    → IsShownIn b file fault (string_bytes e.errors) → EndsShowing c file fault now now e
shown_so file fault now b c e words one shown = (refl, one, subst (λ (in_words : Bool). IsShownIn in_words file fault (string_bytes e.errors)) words shown)

pub two_names : (names : List (Bor Text)) (first second : Bor Text) → length names ≡ 2 → first ≡ slice_index_or names 0 first → second ≡ slice_index_or names 1 second
    → map (λ n. n.now) names ≡ first.now ∷ second.now ∷ []
two_names [] first second two f s = absurd (omega (arith, two))
two_names (a ∷ []) first second two f s = absurd (omega (arith, two))
two_names (a ∷ b ∷ []) first second two f s = ap₂ (λ (x y : Bor Text). x.now ∷ y.now ∷ []) (sym f) (sym s)
two_names (a ∷ b ∷ c ∷ names) first second two f s = absurd (omega (arith, two))

pub not_two : (names : List (Bor Text)) → length names ≢ 2 → length (map (λ n. n.now) names) ≢ 2
not_two names other = λ two. other (sym (length-map names (λ n. n.now)) ∙ two)

-- A layout that is another's has the rank that a verb asks for, where that one has it.
pub rank_kept : (verb : Verb) (l k : Parts) → HasRank (asked_rank verb) l → k ≡ l → HasRank (asked_rank verb) k
rank_kept verb l k has same = subst (λ (p : Parts). HasRank (asked_rank verb) p) (sym same) has

-- A layout has the rank that a verb asks for, where it has the one that was asked for.
pub rank_asked : (verb : Verb) (asked : Option ℕ) (l : Parts) → HasRank asked l → asked ≡ asked_rank verb → HasRank (asked_rank verb) l
rank_asked verb asked l has same = subst (λ (r : Option ℕ). HasRank r l) same has
