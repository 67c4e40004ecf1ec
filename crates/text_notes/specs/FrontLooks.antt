-- What a look at the first calls of a text tells.
use Rattle.std.specs.Prelude.{◌≡◌, ◌<◌, ◌≤◌, ℕ, List, [], ◌∷◌, ◌++◌, Option, Some, None, option_to_list}
use Rattle.std.specs.BTreeSet.{BTreeSet}
use Rattle.mpi_model.specs.Failures.{one_more}
use Rattle.dumpi_text.specs.Call.{TextCall}
use Rattle.dumpi_text.specs.Grammar.{text_meaning}
use Rattle.text_notes.specs.Looks.{greater, size_of, wanted_site}
use Rattle.text_notes.specs.Noted.{sum_of}
use Rattle.text_notes.specs.Sites.{SiteParts}

-- What a look tells of the first calls of a text: how many they are, the call sites of those that were wanted, and the
-- size of the world.
pub record FrontLookParts : Type 0 where
  pub calls : ℕ
  pub sites : List SiteParts
  pub size : Option ℕ

-- of no call
abbrev pub no_front : FrontLookParts
no_front = record { calls = 0; sites = []; size = None }

-- of one call more
abbrev pub with_front : BTreeSet ℕ → FrontLookParts → TextCall → FrontLookParts
with_front wanted look raw = record {
  calls = one_more look.calls;
  sites = look.sites ++ option_to_list (wanted_site wanted look.calls raw);
  size = greater look.size (size_of raw);
}

-- of some calls more
abbrev pub front_from : BTreeSet ℕ → FrontLookParts → List TextCall → FrontLookParts
front_from wanted look [] = look
front_from wanted look (raw ∷ raws) = front_from wanted (with_front wanted look raw) raws

-- The look tells of the first calls of the text: of so many, or of all if the text has fewer.
pub record TellsFront (wanted : BTreeSet ℕ) (most : ℕ) (text : List ℕ) (look : FrontLookParts) : Type 0 where
  pub raws : List TextCall
  pub more : List TextCall
  pub first : (text_meaning text).calls ≡ raws ++ more
  pub told : look ≡ front_from wanted no_front raws
  pub few : look.calls ≤ most
  pub all : look.calls < most → more ≡ []

-- the same, where the text's bytes are told
abbrev pub IsFrontLookOf : BTreeSet ℕ → ℕ → Option (List ℕ) → FrontLookParts → Type 0
IsFrontLookOf wanted most None look = Unit {0}
IsFrontLookOf wanted most (Some text) look = TellsFront wanted most text look

-- a call of a text that stands behind so many calls and lines of another
abbrev pub behind : ℕ → ℕ → SiteParts → SiteParts
behind calls lines site = record { number = sum_of site.number calls; line = sum_of site.line lines; name = site.name; caller = site.caller }
