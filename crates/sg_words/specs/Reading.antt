-- What matches of clap show.
use Rattle.std.specs.Prelude.{◌≡◌, Bool, List, Option, None, Some, Result, Ok, Err, codes, if◌then◌else◌}
use Rattle.clap.specs.Words.{first_value, found_of, one_text}
use Rattle.clap.specs.declared.ArgMatches.{ArgMatches}
use Rattle.sg_words.specs.Settings.{checked, settings_of}
use Rattle.sg_words.specs.Words.{Name, Said, Text, budget, cache, drill, file, is_said, keep_going, spelled, stats, text_of}
use Rattle.sg_words.specs.declared.settings.WordsFault.{WordsFault}
use Rattle.sg_words.specs.declared.settings.WordsFault.TheVariants as fault

abbrev pub shown : ArgMatches → Name → Option Text
shown m n = first_value (found_of m) (spelled n)

abbrev pub flag_shown : ArgMatches → Name → Option Text
flag_shown m n = one_text (found_of m) (spelled n)

abbrev pub flag_text : Bool → Text
flag_text b = if b then codes "true" else codes "false"

-- the matches have each value that was said, and each flag
pub record Shows (m : ArgMatches) (said : Said) : Type 0 where
  pub of_budget : shown m budget ≡ text_of budget said
  pub of_cache : shown m cache ≡ text_of cache said
  pub of_drill : shown m drill ≡ text_of drill said
  pub of_file : shown m file ≡ text_of file said
  pub of_stats : flag_shown m stats ≡ Some (flag_text (is_said stats said))
  pub of_keep_going : flag_shown m keep_going ≡ Some (flag_text (is_said keep_going said))

-- the matches show what was said, and the words ask for what that asks for; Usage comes only where they ask for nothing
abbrev pub Matches : List Text → Result ArgMatches WordsFault → Type 0
Matches words (Ok m) = (said : Said) × (settings_of words ≡ checked said) × Shows m said
Matches words (Err fault.Usage) = settings_of words ≡ None
Matches words (Err fault.Memory) = Unit {0}
