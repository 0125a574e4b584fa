use Rattle.std.proofs.Common.{ap, ◌∙◌, rules}
use Rattle.std.specs.Option.{option_map, option_or}
use Rattle.sg_calls.specs.Commands.{family_command, word_named}
use Rattle.sg_calls.specs.declared.command.Word.TheVariants as word
use Rattle.sg_calls.proofs.command.word_named.Goals as goal

pub returns-in-Some : goal.returns-in-Some
unfolding word_named
returns-in-Some c = ap (λ o. option_or o (option_map word.Command (family_command c.args.name.now))) c.in-Some.ensures

pub returns-in_err-family_command-in-None : goal.returns-in_err-family_command-in-None
unfolding word_named
returns-in_err-family_command-in-None c =
    search rules ∙ ap (option_map word.Command) c.in_err-family_command-in-None.ensures ∙ ap (λ o. option_or o (option_map word.Command (family_command c.args.name.now))) c.in-None.ensures

pub returns-in_ok-family_command-in-None : goal.returns-in_ok-family_command-in-None
unfolding word_named
returns-in_ok-family_command-in-None c =
    ap (option_map word.Command) c.in_ok-family_command-in-None.ensures ∙ ap (λ o. option_or o (option_map word.Command (family_command c.args.name.now))) c.in-None.ensures
