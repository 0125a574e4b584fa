-- The settings of the code as what they ask for, and how a reading of words ends.
use Rattle.std.specs.Prelude.{◌≡◌, Option, None, Some, Result, Ok, Err}
use Rattle.std.specs.Option.{option_copied}
use Rattle.sg_words.specs.Settings.{Wanted}
use Rattle.sg_words.specs.declared.settings.Settings.{Settings}
use Rattle.sg_words.specs.declared.settings.WordsFault.{WordsFault}
use Rattle.sg_words.specs.declared.settings.WordsFault.TheVariants as fault

abbrev pub wanted_of : Settings → Wanted
wanted_of s = record { budget = s.budget; cache = s.cache; stats = s.stats; keep_going = s.keep_going; drill = s.drill; file = option_copied s.file }

-- Ok has the settings, and Usage comes exactly where there are none; want of memory is free
abbrev pub Answers : Option Wanted → Result Settings WordsFault → Type 0
Answers wanted (Ok s) = wanted ≡ Some (wanted_of s)
Answers wanted (Err fault.Usage) = wanted ≡ None
Answers wanted (Err fault.Memory) = Unit {0}
