-- Each statement that stands at the front of tokens is the only one.
use Rattle.std.proofs.Common.{◌≡◌, List, [], ◌∷◌, refl, sym, subst, arith}
use Rattle.sg_token.specs.declared.token.Token.{Token}
use Rattle.sg_token.specs.declared.token.Token.TheVariants as token
use Rattle.sg_token.specs.declared.word.Word.TheVariants as word
use Rattle.sg_token.specs.declared.symbol.Symbol.TheVariants as symbol
use Rattle.sg_tree.specs.Tree.{Tree, variable, Code, Block}
use Rattle.sg_expression.specs.declared.rank.Rank.TheVariants as rank
use Rattle.sg_script.specs.Bodies.{EndsBody, EndsChoice}
use Rattle.sg_expression.specs.Grammar.{Chain}
use Rattle.sg_script.specs.Grammar.{Inner, assigned, chosen, repeated, performed, Arm, an_arm, Elifs, no_elif, one_elif, Otherwise, no_else, an_else, Body, no_more, one_more, OneOf, an_empty, an_inner, IsStatement, the_last, a_statement}
use Rattle.sg_expression.specs.Reading.{Found, Always}
use Rattle.sg_expression.specs.Binding.{StopsAt}
use Rattle.sg_expression.proofs.BeginLemmas.{starts-expression, Starts}
use Rattle.sg_expression.proofs.OnwardLemmas.{onward-found}
use Rattle.sg_expression.proofs.AtomLemmas.{found-closed}
use Rattle.sg_expression.proofs.ArgumentLemmas.{name-alone}
use Rattle.sg_script.proofs.StatementLemmas.{one-goes-on, found-nothing, found-assigned, found-if, found-for, IsPlain, found-performed, one-of-body, end-body, found-arm, arm-ends, otherwise-ends, one-elif, end-elifs, found-fi, found-else, found-choice, found-repetition}
use Rattle.sg_expression.proofs.UniqueLemmas.{one-chain}

-- what an expression and a semicolon begin with begins nothing else
plain-expression : {ts us : List Token} {t : Tree} → Chain rank.Or ts t (token.Symbol symbol.Semicolon ∷ us) → IsPlain ts
plain-expression {us = us} {t = t} d = record {
  empty = λ ws e. let s = subst (Starts 3) e (starts-expression d) in omega (arith, s.0);
  assigned = λ x ws e.
      let named : Found (Chain rank.Or) (StopsAt 1) (token.Name x ∷ token.Symbol symbol.Assign ∷ ws) (variable x) (token.Symbol symbol.Assign ∷ ws) = name-alone refl in
      let same = named.only t (token.Symbol symbol.Semicolon ∷ us) (subst (λ z. Chain rank.Or z t (token.Symbol symbol.Semicolon ∷ us)) e d) (omega arith) in
      let wrong = same.1 in
      cc;
  chosen = λ ws e. let s = subst (Starts 3) e (starts-expression d) in omega (arith, s.0);
  repeated = λ ws e. let s = subst (Starts 3) e (starts-expression d) in omega (arith, s.0);
}

mutual
  pub one-one : {ts us : List Token} {c : Code} → OneOf ts c us → Found OneOf Always ts c us
  one-one an_empty = found-nothing
  one-one (an_inner d) = one-inner d

  one-inner : {ts us : List Token} {c : Code} → Inner ts c us → Found OneOf Always ts c us
  one-inner (assigned d) = found-assigned (found-closed refl (one-chain d (omega arith)))
  one-inner (chosen a e o) = found-if (found-choice (one-arm a (arm-ends e (otherwise-ends o))) (one-elifs e (otherwise-ends o)) (one-otherwise o))
  one-inner (repeated d b) = found-for (found-repetition (found-closed refl (one-chain d (omega arith))) (one-body b refl))
  one-inner (performed d) = found-performed (plain-expression d) (found-closed refl (one-chain d (omega arith)))

  one-arm : {ts us : List Token} {a : Tree × Block} → Arm ts a us → EndsBody us → Found Arm EndsBody ts a us
  one-arm (an_arm d b) ends = found-arm (found-closed refl (one-chain d (omega arith))) (one-body b ends)

  one-elifs : {ts us : List Token} {others : List (Tree × Block)} → Elifs ts others us → EndsChoice us → Found Elifs EndsChoice ts others us
  one-elifs no_elif ends = end-elifs ends.1
  one-elifs (one_elif a e) ends = onward-found (one-elif (one-arm a (arm-ends e ends))) (one-elifs e ends)

  one-otherwise : {ts us : List Token} {other : List Code} → Otherwise ts other us → Found Otherwise Always ts other us
  one-otherwise no_else = found-fi
  one-otherwise (an_else b) = found-else (one-body b refl)

  one-body : {ts us : List Token} {cs : List Code} → Body ts cs us → EndsBody us → Found Body EndsBody ts cs us
  one-body no_more ends = end-body ends
  one-body (one_more o b) ends = onward-found (one-of-body (one-goes-on o) (one-one o)) (one-body b ends)

quit-only : {ts us : List Token} {c : Code} → OneOf (token.Word word.Quit ∷ ts) c us → ⊥
quit-only (an_inner (performed d)) = let s = starts-expression d in omega (arith, s.0)

-- tokens are one statement at most
pub one-code : {ts : List Token} {c d : Code} → IsStatement ts c → IsStatement ts d → c ≡ d
one-code the_last the_last = refl
one-code the_last (a_statement e) = absurd (quit-only e)
one-code (a_statement e) the_last = absurd (quit-only e)
one-code (a_statement e) (a_statement f) = sym ((one-one e).only _ [] f tt).0

-- `quit` begins nothing but the last statement
pub quit-alone : {ts : List Token} {c : Code} → IsStatement (token.Word word.Quit ∷ ts) c → ts ≡ token.Symbol symbol.Semicolon ∷ []
quit-alone the_last = refl
quit-alone (a_statement e) = absurd (quit-only e)

-- another statement is one that may stand in a block
pub not-the-last : {ts : List Token} {c : Code} → ((us : List Token) → ts ≡ token.Word word.Quit ∷ us → ⊥) → IsStatement ts c → OneOf ts c []
not-the-last not the_last = absurd (not (token.Symbol symbol.Semicolon ∷ []) refl)
not-the-last not (a_statement e) = e
