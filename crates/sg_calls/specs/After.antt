-- What a store keeps once attributes were asked for.
use Rattle.std.specs.Prelude.{◌≡◌, ℕ, List, [], ◌∷◌, Result, Ok, Err, ⊤}
use Rattle.sg_rows.specs.Asks.{Attribute, apery_table, pseudo_frobenius, presentation, tame_degree, Asking}
use Rattle.sg_rows.specs.Order.{Case, AreAsked}
use Rattle.sg_rows.specs.declared.fault.CallFault.{CallFault}
use Rattle.sg_rows.specs.declared.fault.CallFault.TheVariants.{Script, Memory}
use Rattle.sg_store.specs.Attributes.{Attributes, table_answered, numbers_answered, presentation_answered, tame_answered}

-- after this attribute of this semigroup was asked for
abbrev pub after_one : Attribute → List ℕ → Attributes → Attributes
after_one apery_table G a = table_answered G a
after_one pseudo_frobenius G a = numbers_answered G a
after_one presentation G a = presentation_answered G a
after_one tame_degree G a = tame_answered G a

-- after these were asked for in turn
abbrev pub after_asked : List Asking → Attributes → Attributes
after_asked [] a = a
after_asked (x ∷ asked) a = after_asked asked (after_one x.0 x.1 a)

-- it holds unless memory was wanting
abbrev pub OnEnd : {A : Type 0} → Result A CallFault → Type 0 → Type 0
OnEnd (Ok v) P = P
OnEnd (Err (Script e)) P = P
OnEnd (Err (Memory e)) P = ⊤

-- what the case asks for was asked for, in order, and nothing else; for want of memory nothing is said
abbrev pub Asks : {A : Type 0} → Result A CallFault → Case → Attributes → Attributes → Type 0
Asks r c old new = OnEnd r ((asked : List Asking) × AreAsked c asked × (new ≡ after_asked asked old))

-- the same of what was asked for by then
abbrev pub Asked : {A : Type 0} → Result A CallFault → List Asking → Attributes → Attributes → Type 0
Asked r asked old new = OnEnd r (new ≡ after_asked asked old)
