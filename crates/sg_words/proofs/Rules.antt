-- What `clap` builds of the command.
use Rattle.std.proofs.Common.{◌≡◌, refl, true, List, [], ◌∷◌}
use Rattle.clap.specs.Words.{Rule, built, is_simple_and_free}
use Rattle.clap.specs.Simple.{filled, with_index}
use Rattle.sg_words.specs.Words.{Name, budget, cache, drill, file, keep_going, spelled, stats}
use Rattle.sg_words.specs.Arguments.{synopsis, long_rule, flag_rule}
use Rattle.clap.specs.Simple.{new_rule}
use Rattle.clap.proofs.OnLiterals.{clap_on_literals}

-- the rule of each thing, as built
abbrev pub rule_for : Name → Rule
rule_for budget = filled (long_rule (spelled budget))
rule_for cache = filled (long_rule (spelled cache))
rule_for stats = filled (flag_rule (spelled stats))
rule_for keep_going = filled (flag_rule (spelled keep_going))
rule_for drill = filled (long_rule (spelled drill))
rule_for file = with_index 1 (filled (new_rule (spelled file)))

abbrev pub rules : List Rule
rules = rule_for budget ∷ rule_for cache ∷ rule_for stats ∷ rule_for keep_going ∷ rule_for drill ∷ rule_for file ∷ []

pub free : is_simple_and_free synopsis ≡ true
unfolding clap_on_literals
free = refl

pub rules_are : (built synopsis).top.rules ≡ rules
unfolding clap_on_literals
rules_are = refl
