-- Asks one after another, and what a case asks for once there is a reply.
use Rattle.std.proofs.Common.{◌≡◌, List, [], ◌∷◌, ◌++◌, refl}
use Rattle.sg_rows.specs.Asks.{Asking}
use Rattle.sg_store.specs.Attributes.{Attributes}
use Rattle.sg_calls.specs.After.{after_one, after_asked}

-- asks behind others
pub after_both : (xs ys : List Asking) (a : Attributes) → after_asked (xs ++ ys) a ≡ after_asked ys (after_asked xs a)
after_both [] ys a = refl
after_both (x ∷ xs) ys a = after_both xs ys (after_one x.0 x.1 a)
