use Rattle.std.proofs.Common.{◌+◌, ◌≡◌, ◌∙◌, arith, add-zero, sym, subst}
use Rattle.sg_cut.proofs.Beginnings.{BeginsFrom, begins_at_once, begins_more, to_Begins}
use Rattle.sg_cut.proofs.ignored.ignored_len.Goals as goal

pub loop-rest-preserved : goal.loop-rest-preserved
loop-rest-preserved c =
    let size = c.lexeme_len-size.result in
    let place = c.loop-rest.place in
    let after = c.split_at.result.1.now in
    record {
      counted = omega (arith, c.loop-rest.invariant.counted, c.split_at.ensures.back_len);
      begins = λ begin b.
          let behind = subst (λ bs. BeginsFrom bs begin) c.split_at.ensures.back b in
          let whole = begins_more size c.lexeme_len-size.ensures.within c.lexeme_len-size.ensures.some c.lexeme_len-size.ensures.first (sym c.starts_ignored.ensures ∙ c.loop-rest-test.true) behind in
          let counted : place + (size + begin) ≡ place + size + begin = omega arith in
          subst (λ n. BeginsFrom c.args.bytes.now n) counted (c.loop-rest.invariant.begins (size + begin) whole);
    }

pub returns : goal.returns
returns c =
    let here = begins_at_once c.loop-rest.rest.now (sym c.starts_ignored.ensures ∙ c.loop-rest-test.false) in
    to_Begins (subst (λ n. BeginsFrom c.args.bytes.now n) (add-zero c.loop-rest.place) (c.loop-rest.invariant.begins 0 here))
