use Rattle.std.proofs.Common.{ap, ◌∙◌, arith}
use Rattle.sg_token.specs.declared.token.Token.TheVariants as token
use Rattle.sg_token.specs.declared.word.Word.TheVariants as word
use Rattle.sg_expression.specs.Grammar.{times}
use Rattle.sg_expression.proofs.BindingLemmas.{times-more}
use Rattle.sg_expression.proofs.front.count_not.Goals as goal

pub loop-after-preserved : goal.loop-after-preserved
loop-after-preserved c = record {
  front = c.loop-after.invariant.front ∙ (ap (times c.loop-after.count (token.Word word.Not)) c.in-Some.ensures.after ∙ times-more c.loop-after.count (token.Word word.Not) c.in-Some.after.now);
  room = omega (arith, c.in-Some.ensures.shorter);
}
