-- Runs over readers of fronts, which fail only where the inner readers do.
use Rattle.std.proofs.Common.{◌≡◌, ◌⊎◌, ℕ, List, Option, Some, None, Result, Ok, Err, IfErr, inl, inr, subst}
use Rattle.mpi_model.specs.Layouts.{Parts}
use Rattle.dumpi_text.specs.Failing.{Fails}
use Rattle.run_files.specs.Manifests.{ManifestParts, PieceParts}
use Rattle.command_line.specs.declared.Verb.{Verb}
use Rattle.command_runs.specs.Clusters.{RefusesCluster}
use Rattle.run_inputs.specs.Files.{IsUnreadable, NamesFailed}
use Rattle.run_inputs.specs.Inputs.{RefusesFile}
use Rattle.command_runs.specs.NodeTexts.{RefusesBytes}
use Rattle.command_runs.specs.Verbs.{RanCluster}
use Rattle.run_inputs.specs.declared.faults.fault.RunFault.{RunFault}
use Rattle.run_inputs.specs.declared.load.front.Front.{Front}
use Rattle.run_inputs.specs.declared.load.whole.TheConstants.{LONGEST_PIECE}
use Rattle.command_runs.specs.declared.run.Outcome.{Outcome}
use Rattle.program_runs.specs.Endings.{EndsClusterRun, EndsRun}
use Rattle.program_runs.specs.declared.ending.Ending.{Ending}

-- a reader of a front that fails is one that fails
fails_inner : {R : Type 0} (failures : R → ℕ) → Fails {R = Front R} (λ f. failures f.inner) → Fails failures
fails_inner failures fails = (fails.0.inner, fails.1.inner, fails.2)

names_inner : {R A : Type 0} (failures : R → ℕ) (ran : Result A RunFault) → IfErr ran (NamesFailed (Fails {R = Front R} (λ f. failures f.inner))) → IfErr ran (NamesFailed (Fails failures))
names_inner failures (Ok done) named = tt
names_inner failures (Err fault) named = λ path line is. fails_inner failures (named path line is)

-- ---- a cluster whose readers fail only where those of another do

unreadable_weaker : (most : ℕ) (fails other : Type 0) (file : Option (List ℕ)) → (fails → other) → IsUnreadable most fails file → IsUnreadable most other file
unreadable_weaker most fails other None h why = tt
unreadable_weaker most fails other (Some bytes) h (inl failed) = inl (h failed)
unreadable_weaker most fails other (Some bytes) h (inr long) = inr long

file_weaker : (most : ℕ) (fails other : Type 0) (name : List ℕ) (file : Option (List ℕ)) (fault : RunFault) → (fails → other) → RefusesFile most fails name file fault → RefusesFile most other name file fault
file_weaker most fails other name file fault h (inl memory) = inl memory
file_weaker most fails other name file fault h (inr why) = inr (why.0, why.1, why.2, unreadable_weaker most fails other file h why.3)

bytes_weaker : (fails other : Type 0) (file : List ℕ → Option (List ℕ)) (pieces : List PieceParts) (fault : RunFault) → (fails → other) → RefusesBytes fails file pieces fault → RefusesBytes other file pieces fault
bytes_weaker fails other file pieces fault h (inl memory) = inl memory
bytes_weaker fails other file pieces fault h (inr why) = inr (why.0, why.1, why.2, why.3, file_weaker LONGEST_PIECE fails other why.1.file (file why.1.file) fault h why.4)

left_weaker : (A B C : Type 0) → (A → B) → A ⊎ C → B ⊎ C
left_weaker A B C h (inl a) = inl (h a)
left_weaker A B C h (inr c) = inr c

cluster_weaker : (fails other : Type 0) (file : List ℕ → Option (List ℕ)) (ranks : ℕ) (m : ManifestParts) (fault : RunFault) → (fails → other) → RefusesCluster fails file ranks m fault → RefusesCluster other file ranks m fault
cluster_weaker fails other file ranks m fault h (inl memory) = inl memory
cluster_weaker fails other file ranks m fault h (inr (inl packed)) = inr (inl packed)
cluster_weaker fails other file ranks m fault h (inr (inr why)) = inr (inr (why.0, left_weaker (RefusesBytes fails file m.pieces fault) (RefusesBytes other file m.pieces fault) _ (bytes_weaker fails other file m.pieces fault h) why.1))

ran_weaker : {W : Type 0} (fails other : Type 0) (file : List ℕ → Option (List ℕ)) (l : Parts) (m : ManifestParts) (ran : Result Outcome RunFault) (written : W → Option (List ℕ)) (failures : W → ℕ) (old new : W)
    → (fails → other) → RanCluster fails file l m ran written failures old new → RanCluster other file l m ran written failures old new
ran_weaker fails other file l m (Ok outcome) written failures old new h ran = ran
ran_weaker fails other file l m (Err fault) written failures old new h (inl wrote) = inl wrote
ran_weaker fails other file l m (Err fault) written failures old new h (inr refused) = inr (cluster_weaker fails other file l.ranks m fault h refused.0, refused.1)

-- ---- what ran over readers of fronts

pub run_inner : {R W : Type 0} (inner : R → ℕ) (file other : List ℕ → Option (List ℕ)) (verb : Verb) (l : Parts) (m : ManifestParts) (written : W → Option (List ℕ)) (failures : W → ℕ) (old new : W) (e : Ending)
    → other ≡ file → EndsRun (Fails {R = Front R} (λ f. inner f.inner)) other verb l m written failures old new e → EndsRun (Fails inner) file verb l m written failures old new e
run_inner inner file other verb l m written failures old new e same h =
    subst (λ (f : List ℕ → Option (List ℕ)). EndsRun (Fails inner) f verb l m written failures old new e) same (h.0, h.1, names_inner inner h.0 h.2, h.3)

pub cluster_inner : {R W : Type 0} (inner : R → ℕ) (file other : List ℕ → Option (List ℕ)) (l : Parts) (m : ManifestParts) (written : W → Option (List ℕ)) (failures : W → ℕ) (old new : W) (e : Ending)
    → other ≡ file → EndsClusterRun (Fails {R = Front R} (λ f. inner f.inner)) other l m written failures old new e → EndsClusterRun (Fails inner) file l m written failures old new e
cluster_inner {R = R} inner file other l m written failures old new e same h =
    subst (λ (f : List ℕ → Option (List ℕ)). EndsClusterRun (Fails inner) f l m written failures old new e) same
    (h.0, ran_weaker (Fails {R = Front R} (λ f. inner f.inner)) (Fails inner) other l m h.0 written failures old new (fails_inner inner) h.1, h.2, h.3)
