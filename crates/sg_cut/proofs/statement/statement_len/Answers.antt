use Rattle.std.proofs.Common.{◌≡◌, ◌∙◌, [], ◌∷◌, arith, sym, subst, length, eqb-true}
use Rattle.std.proofs.lemmas.List.{nil_from_length}
use Rattle.sg_cut.specs.Lexemes.{IsLexeme}
use Rattle.sg_cut.proofs.Endings.{EndsFrom, GoesOn, ends_more, ends_nowhere_else, from_Ends, goes_on_if_other, nothing_ends, semicolon_at, semicolon_is, to_Ends}
use Rattle.sg_cut.proofs.statement.statement_len.Goals as goal
use Rattle.sg_cut.proofs.statement.statement_len.Goals.{else-depth-eq0-via-then-depth-eq0+else-eq, else-depth-eq0-via-else-depth-eq0}

pub returns-then-eq : goal.returns-then-eq
returns-then-eq c =
    let lexeme = c.split_at.result.0.now in
    let after = c.split_at.result.1.now in
    let is_end : lexeme ≡ 59 ∷ [] = semicolon_is lexeme c.as_slice.result.now c.eq.result c.eq.ensures c.as_slice.ensures c.if-eq.true in
    let here : EndsFrom c.loop-rest.depth c.loop-rest.rest.now (length lexeme) = semicolon_at c.loop-rest.depth after c.if-depth-eq0.true is_end c.split_at.ensures.by_index.0 in
    to_Ends (c.loop-rest.invariant.ends (length lexeme) here)

pub loop-rest-preserved : goal.loop-rest-preserved
loop-rest-preserved c =
    let lexeme = c.split_at.result.0.now in
    let after = c.split_at.result.1.now in
    let l : IsLexeme lexeme after = rw (c.split_at.ensures.front, c.split_at.ensures.back) c.lexeme_len.ensures.first in
    let goes_on : GoesOn c.loop-rest.depth lexeme = elim c.else-depth-eq0.branch [
      | else-depth-eq0-via-then-depth-eq0+else-eq w ↦ goes_on_if_other c.loop-rest.depth lexeme w.as_slice.result.now w.eq.result w.eq.ensures w.as_slice.ensures w.if-eq.false
      | else-depth-eq0-via-else-depth-eq0 w ↦ λ is_end. omega (arith, w.if-depth-eq0.false)
    ] in
    record {
      counted = omega (arith, c.loop-rest.invariant.counted, c.split_at.ensures.back_len, c.split_at.ensures.front_len);
      shallow = omega (arith, c.loop-rest.invariant.shallow, c.depth_after-depth.ensures.by_one, c.split_at.ensures.front_len, c.lexeme_len.ensures.some);
      ends = λ size e. ends_more c.loop-rest.place l c.split_at.ensures.by_index.0 goes_on c.depth_after-depth.ensures.after c.loop-rest.invariant.ends e;
      nowhere_else = λ size e. ends_nowhere_else c.loop-rest.place l c.split_at.ensures.by_index.0 goes_on c.depth_after-depth.ensures.after c.loop-rest.invariant.nowhere_else e;
    }

pub returns : goal.returns
returns c = λ size e.
    let found = c.loop-rest.invariant.nowhere_else size (from_Ends e) in
    let empty : c.loop-rest.rest.now ≡ [] = nil_from_length c.loop-rest.rest.now (eqb-true (length c.loop-rest.rest.now) 0 (sym c.is_empty.ensures ∙ c.loop-rest-test.false)) in
    nothing_ends (subst (λ bs. EndsFrom c.loop-rest.depth bs found.0) empty found.2)
