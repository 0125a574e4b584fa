-- The trees that the grammar of expressions gives are well formed.
use Rattle.std.proofs.Common.{◌≡◌, ℕ, zero, suc, List, [], ◌∷◌, true, refl, sym, ◌∙◌, arith}
use Rattle.std.specs.Prelude.{⊤}
use Rattle.sg_token.specs.declared.token.Token.{Token}
use Rattle.sg_tree.specs.declared.expr.Op.{Op}
use Rattle.sg_tree.specs.declared.expr.Op.TheVariants as op
use Rattle.sg_tree.specs.Tree.{Tree, Argument, trees, arguments, links}
use Rattle.sg_tree.specs.WellFormed.{same_rank, AllOfRank, IsWellFormed, AreWellFormed, IsWellFormedArgument, AreWellFormedArguments, AreWellFormedLinks}
use Rattle.sg_expression.specs.declared.rank.Rank.{Rank}
use Rattle.sg_expression.specs.Grammar.{joined, negated, signed, indexed, Chain, chained, Linked, no_link, one_link, Operand, conjunction, negative, product, unary, Comparison, alone, compared, Item, an_item, Indices, no_index, one_index, Atom, a_number, a_string, a_true, a_false, a_fail, a_name, a_call, parenthesized, an_empty_list, a_list, a_range, Entries, last_entry, one_entry, Given, none_given, some_given, MoreGiven, last_given, one_given, OneGiven, an_arrow, a_value}
use Rattle.sg_expression.specs.Binding.{rank_of}

rank-same : (a b : Op) → rank_of a ≡ rank_of b → same_rank a b ≡ true
rank-same op.Or op.Or e = refl
rank-same op.And op.And e = refl
rank-same op.Plus op.Plus e = refl
rank-same op.Plus op.Less e = refl
rank-same op.Less op.Plus e = refl
rank-same op.Less op.Less e = refl
rank-same op.Times op.Times e = refl
rank-same op.Times op.Mod e = refl
rank-same op.Mod op.Times e = refl
rank-same op.Mod op.Mod e = refl
rank-same _ _ e = absurd (cc)

abbrev AreOfRank : Rank → List (Op × Tree) → Type 0
AreOfRank r [] = ⊤
AreOfRank r (l ∷ ls) = (rank_of l.0 ≡ r) × AreOfRank r ls

all-of-rank : {r : Rank} (o : Op) (ls : List (Op × Tree)) → rank_of o ≡ r → AreOfRank r ls → AllOfRank o (links ls)
all-of-rank o [] is all = tt
all-of-rank {r = r} o (l ∷ ls) is all = (rank-same o l.0 (is ∙ sym all.0), all-of-rank {r = r} o ls is all.1)

good-joined : (r : Rank) (t : Tree) (ls : List (Op × Tree)) → IsWellFormed t → AreOfRank r ls → AreWellFormedLinks (links ls) → IsWellFormed (joined t ls)
good-joined r t [] good ranks others = good
good-joined r t (l ∷ ls) good ranks others = (all-of-rank {r = r} l.0 ls ranks.0 ranks.1, good, others)

good-negated : (n : ℕ) (t : Tree) → IsWellFormed t → IsWellFormed (negated n t)
good-negated zero t good = good
good-negated (suc n) t good = (omega arith, good)

good-signed : (n : ℕ) (t : Tree) → IsWellFormed t → IsWellFormed (signed n t)
good-signed zero t good = good
good-signed (suc n) t good = (omega arith, good)

good-indexed : (t : Tree) (is : List Tree) → IsWellFormed t → AreWellFormed (trees is) → IsWellFormed (indexed t is)
good-indexed t [] good others = good
good-indexed t (i ∷ is) good others = (tt, good, others)

ranked : {r : Rank} {ts us : List Token} {ls : List (Op × Tree)} → Linked r ts ls us → AreOfRank r ls
ranked no_link = tt
ranked (one_link is rank o l) = (rank, ranked l)

-- each tree is well formed, by what the grammar makes it of
mutual
  -- an expression
  pub good-chain : {r : Rank} {ts us : List Token} {t : Tree} → Chain r ts t us → IsWellFormed t
  good-chain {r = r} (chained {t = t} {ls = ls} o l) = good-joined r t ls (good-operand o) (ranked l) (good-linked l)

  good-linked : {r : Rank} {ts us : List Token} {ls : List (Op × Tree)} → Linked r ts ls us → AreWellFormedLinks (links ls)
  good-linked no_link = tt
  good-linked (one_link is rank o l) = (good-operand o, good-linked l)

  good-operand : {r : Rank} {ts us : List Token} {t : Tree} → Operand r ts t us → IsWellFormed t
  good-operand (conjunction d) = good-chain d
  good-operand (negative n {t = t} d) = good-negated n t (good-comparison d)
  good-operand (product d) = good-chain d
  good-operand (unary n {t = t} d) = good-signed n t (good-item d)

  good-comparison : {ts us : List Token} {t : Tree} → Comparison ts t us → IsWellFormed t
  good-comparison (alone d) = good-chain d
  good-comparison (compared d is e) = (good-chain d, good-chain e)

  good-item : {ts us : List Token} {t : Tree} → Item ts t us → IsWellFormed t
  good-item (an_item {t = t} {is = is} a i) = good-indexed t is (good-atom a) (good-indices i)

  good-indices : {ts us : List Token} {is : List Tree} → Indices ts is us → AreWellFormed (trees is)
  good-indices no_index = tt
  good-indices (one_index d i) = (good-chain d, good-indices i)

  good-atom : {ts us : List Token} {t : Tree} → Atom ts t us → IsWellFormed t
  good-atom a_number = tt
  good-atom a_string = tt
  good-atom a_true = tt
  good-atom a_false = tt
  good-atom a_fail = tt
  good-atom a_name = tt
  good-atom (a_call g) = good-given g
  good-atom (parenthesized d) = good-chain d
  good-atom an_empty_list = tt
  good-atom (a_list d e) = (good-chain d, good-entries e)
  good-atom (a_range d e) = (good-chain d, good-chain e)

  good-entries : {ts us : List Token} {es : List Tree} → Entries ts es us → AreWellFormed (trees es)
  good-entries last_entry = tt
  good-entries (one_entry d e) = (good-chain d, good-entries e)

  good-given : {ts us : List Token} {given : List Argument} → Given ts given us → AreWellFormedArguments (arguments given)
  good-given none_given = tt
  good-given (some_given a m) = (good-argument a, good-more m)

  good-more : {ts us : List Token} {given : List Argument} → MoreGiven ts given us → AreWellFormedArguments (arguments given)
  good-more last_given = tt
  good-more (one_given a m) = (good-argument a, good-more m)

  good-argument : {ts us : List Token} {a : Argument} → OneGiven ts a us → IsWellFormedArgument a
  good-argument (an_arrow d) = good-chain d
  good-argument (a_value d) = good-chain d
