-- The command as `clap` knows it.
use Rattle.std.specs.Prelude.{Some, true, codes}
use Rattle.clap.specs.Words.{App, Rule, new_app, new_rule, with_rule}
use Rattle.clap.specs.Simple.{on_top}
use Rattle.clap.specs.declared.builder.ArgAction.TheVariants.{SetTrue}
use Rattle.sg_words.specs.Words.{Text, budget, cache, drill, file, keep_going, spelled, stats}

abbrev pub long_rule : Text → Rule
long_rule name = record (new_rule name) { long = Some name }

abbrev pub flag_rule : Text → Rule
flag_rule name = record (new_rule name) { long = Some name; action = Some SetTrue }

abbrev pub bare : App
bare = on_top (λ s. record s { no_binary_name = true; disable_help_flag = true }) (new_app (codes "sgps"))

abbrev pub synopsis : App
synopsis = with_rule (with_rule (with_rule (with_rule (with_rule (with_rule bare
    (long_rule (spelled budget))) (long_rule (spelled cache))) (flag_rule (spelled stats))) (flag_rule (spelled keep_going)))
    (long_rule (spelled drill))) (new_rule (spelled file))
