-- The trees that the grammar of statements gives are well formed.
use Rattle.std.proofs.Common.{List}
use Rattle.sg_token.specs.declared.token.Token.{Token}
use Rattle.sg_tree.specs.Tree.{Tree, Code, Block, block, arms}
use Rattle.sg_tree.specs.WellFormed.{IsWellFormed, GoesOn, IsWellFormedCode, AreWellFormedArms, IsWellFormedBlock}
use Rattle.sg_script.specs.Grammar.{Inner, assigned, chosen, repeated, performed, Arm, an_arm, Elifs, no_elif, one_elif, Otherwise, no_else, an_else, Body, no_more, one_more, OneOf, an_empty, an_inner, IsStatement, the_last, a_statement}
use Rattle.sg_expression.proofs.WellFormedLemmas.{good-chain}

mutual
  good-one : {ts us : List Token} {c : Code} → OneOf ts c us → GoesOn c × IsWellFormedCode c
  good-one an_empty = (tt, tt)
  good-one (an_inner d) = good-inner d

  good-inner : {ts us : List Token} {c : Code} → Inner ts c us → GoesOn c × IsWellFormedCode c
  good-inner (assigned d) = (tt, good-chain d)
  good-inner (chosen a e o) = let first = good-arm a in (tt, ((first.0, first.1, good-elifs e), good-otherwise o))
  good-inner (repeated d b) = (tt, (good-chain d, good-body b))
  good-inner (performed d) = (tt, good-chain d)

  good-arm : {ts us : List Token} {a : Tree × Block} → Arm ts a us → IsWellFormed a.0 × IsWellFormedBlock a.1
  good-arm (an_arm d b) = (good-chain d, good-body b)

  good-elifs : {ts us : List Token} {others : List (Tree × Block)} → Elifs ts others us → AreWellFormedArms (arms others)
  good-elifs no_elif = tt
  good-elifs (one_elif a e) = let first = good-arm a in (first.0, first.1, good-elifs e)

  good-otherwise : {ts us : List Token} {other : List Code} → Otherwise ts other us → IsWellFormedBlock (block other)
  good-otherwise no_else = tt
  good-otherwise (an_else b) = good-body b

  good-body : {ts us : List Token} {cs : List Code} → Body ts cs us → IsWellFormedBlock (block cs)
  good-body no_more = tt
  good-body (one_more o b) = let first = good-one o in (first.0, first.1, good-body b)

-- a statement of the grammar is well formed
pub good-statement : {ts : List Token} {c : Code} → IsStatement ts c → IsWellFormedCode c
good-statement the_last = tt
good-statement (a_statement e) = (good-one e).1
