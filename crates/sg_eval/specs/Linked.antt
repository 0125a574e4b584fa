-- A chain, link by link.
use Rattle.std.specs.Prelude.{Bool, false, not, Option, Some, None}
use Rattle.sg_tree.specs.Tree.{Tree}
use Rattle.sg_tree.specs.declared.expr.Op.{Op}
use Rattle.sg_tree.specs.declared.expr.Op.TheVariants.{Or, And, Plus, Less, Times, Mod}
use Rattle.sg_calls.specs.declared.operator.Operator.{Operator}
use Rattle.sg_calls.specs.declared.operator.Operator.TheVariants as operator
use Rattle.sg_rows.specs.Order.{Plain}
use Rattle.sg_meaning.specs.Expressions.{eval, decided, ask}
use Rattle.sg_meaning.specs.Process.{Process, gives, ◌>>=◌}
use Rattle.sg_meaning.specs.Queries.{combines, indexes}
use Rattle.sg_meaning.specs.Vars.{Vars}

-- whether the value before an operator ends the chain
abbrev pub ends_chain : Op → Plain → Process Bool
ends_chain Or d = decided d (λ b. gives b)
ends_chain And d = decided d (λ b. gives (not b))
ends_chain Plus d = gives false
ends_chain Less d = gives false
ends_chain Times d = gives false
ends_chain Mod d = gives false

-- the value after one link more
abbrev pub linked : Vars → Op → Tree → Plain → Process Plain
linked env Or t d = eval env t >>= (λ e. decided e (λ b. gives e))
linked env And t d = eval env t >>= (λ e. decided e (λ b. gives e))
linked env Plus t d = eval env t >>= (λ e. ask (combines operator.Plus d e))
linked env Less t d = eval env t >>= (λ e. ask (combines operator.Less d e))
linked env Times t d = eval env t >>= (λ e. ask (combines operator.Times d e))
linked env Mod t d = eval env t >>= (λ e. ask (combines operator.Mod d e))

-- the operator on integers, or none for or and and
abbrev pub arithmetic : Op → Option Operator
arithmetic Or = None
arithmetic And = None
arithmetic Plus = Some operator.Plus
arithmetic Less = Some operator.Less
arithmetic Times = Some operator.Times
arithmetic Mod = Some operator.Mod

-- the entry at the place that an expression gives
abbrev pub placed : Vars → Plain → Tree → Process Plain
placed env d t = eval env t >>= (λ i. ask (indexes d i))

-- what an operator gives of a value and that of an expression
abbrev pub compared_with : Vars → Operator → Plain → Tree → Process Plain
compared_with env op a t = eval env t >>= (λ b. ask (combines op a b))
