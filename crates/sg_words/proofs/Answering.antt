-- What an answer of `clap` says of the words.
use Rattle.std.proofs.Common.{◌≡◌, ◌∙◌, refl, sym, ap, subst, inl, inr, true, List, [], ◌∷◌, map, Option, Some, None, option_and_then, String, string_bytes, true≢false}
use Rattle.std.proofs.lemmas.Str.{IsUtf8-string_bytes}
use Rattle.clap.specs.Words.{App, HasKind, HasMatchesOf, IsAmong, Kinds, fault_of, found_of, is_simple, is_simple_and_free, kind_of, matches_of, rows_of}
use Rattle.clap.specs.declared.error.Error.{Error}
use Rattle.clap.specs.declared.error.kind.ErrorKind.{ErrorKind}
use Rattle.clap.specs.declared.error.kind.ErrorKind.TheVariants.{OutOfMemory}
use Rattle.clap.specs.declared.parser.matches.ArgMatches.{ArgMatches}
use Rattle.clap.specs.Kinds.{HasKind}
use Rattle.std.proofs.Common.{Err}
use Rattle.sg_words.specs.declared.settings.WordsFault.{WordsFault}
use Rattle.sg_words.specs.declared.settings.WordsFault.TheVariants as fault
use Rattle.sg_words.specs.Arguments.{synopsis}
use Rattle.sg_words.specs.Settings.{checked, settings_of}
use Rattle.sg_words.specs.Words.{Said, Text}
use Rattle.sg_words.proofs.Tolerant.{said_by, same_asked}
use Rattle.sg_words.specs.Reading.{Matches, Shows}
use Rattle.sg_words.proofs.Rules.{free}
use Rattle.sg_words.proofs.Runs.{Agrees, AllUtf8, agrees}
use Rattle.sg_words.proofs.Shown.{shows}
use Rattle.sg_words.proofs.Steps.{refuses}

pub all_utf8 : {Z : Type 0} (words : List (String Z)) → AllUtf8 (map string_bytes words)
all_utf8 [] = tt
all_utf8 (word ∷ words) = (IsUtf8-string_bytes word, all_utf8 words)

simple : is_simple synopsis ≡ true
simple = refl

pub answered : (words : List Text) (app : App) (m : ArgMatches) → AllUtf8 words → app ≡ synopsis → (is_simple_and_free app ≡ true → fault_of app words ≡ []) → HasMatchesOf app words m
    → (said : Said) × (settings_of words ≡ checked said) × Shows m said
answered words app m u is kinds matches = go (said_by words) refl (agrees words u)
  where
    fine : fault_of synopsis words ≡ []
    fine = ap (λ app. fault_of app words) (sym is) ∙ kinds (ap is_simple_and_free is ∙ free)

    rows : rows_of (found_of m) ≡ matches_of synopsis words
    rows = (matches (ap is_simple is ∙ simple)).0 ∙ ap (λ app. matches_of app words) is

    go : (o : Option Said) → said_by words ≡ o → Agrees o (fault_of synopsis words) (matches_of synopsis words) → (said : Said) × (settings_of words ≡ checked said) × Shows m said
    go (Some said) e a = (said, same_asked words ∙ ap (option_and_then checked) e, shows m said (rows ∙ a.1))
    go None e a = absurd (true≢false (sym a ∙ ap refuses fine))

among_some : (k : ErrorKind) (kinds : Kinds) → IsAmong k kinds → kinds ≡ [] → ⊥
among_some k [] among e = among
among_some k (x ∷ xs) among e = true≢false (ap refuses e)

pub refused : (words : List Text) (app : App) (e : Error) → AllUtf8 words → app ≡ synopsis → (is_simple_and_free app ≡ true → HasKind (fault_of app words) e) → (kind_of e ≡ OutOfMemory → ⊥)
    → settings_of words ≡ None
refused words app e u is kinds other = go (said_by words) refl (agrees words u)
  where
    has : HasKind (fault_of synopsis words) e
    has = subst (λ app. HasKind (fault_of app words) e) is (kinds (ap is_simple_and_free is ∙ free))

    go : (o : Option Said) → said_by words ≡ o → Agrees o (fault_of synopsis words) (matches_of synopsis words) → settings_of words ≡ None
    go None q a = same_asked words ∙ ap (option_and_then checked) q
    go (Some said) q a = elim has [
      | inl memory ↦ absurd (other memory)
      | inr among ↦ absurd (among_some (kind_of e) (fault_of synopsis words) among a.0)
    ]

pub fault_matches : (words : List Text) (f : WordsFault) → (f ≡ fault.Usage → settings_of words ≡ None) → Matches words (Err f)
fault_matches words fault.Usage h = h refl
fault_matches words fault.Memory h = tt
