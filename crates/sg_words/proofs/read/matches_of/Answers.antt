use Rattle.std.proofs.Common.{◌∙◌, map, string_bytes}
use Rattle.clap.specs.Words.{app_of}
use Rattle.sg_words.proofs.Answering.{all_utf8, answered, fault_matches, refused}
use Rattle.sg_words.proofs.read.matches_of.Goals as goal

pub returns-in-Ok : goal.returns-in-Ok
returns-in-Ok c =
    answered (map string_bytes c.args.words.now) (app_of c.in_ok-command.command) c.in-Ok.matches (all_utf8 c.args.words.now) c.in_ok-command.ensures c.in-Ok.ensures.kinds c.in-Ok.ensures.matches

pub returns-in-Err : goal.returns-in-Err
returns-in-Err c =
    fault_matches (map string_bytes c.args.words.now) c.fault_of.result
    (λ usage. refused (map string_bytes c.args.words.now) (app_of c.in_ok-command.command) c.in-Err.error (all_utf8 c.args.words.now) c.in_ok-command.ensures c.in-Err.ensures.kinds
    (λ memory. c.fault_of.ensures.usage usage (c.kind.ensures ∙ memory)))
