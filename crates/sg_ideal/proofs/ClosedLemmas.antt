-- A table that need not tell 0, from its least number on.
use Rattle.std.proofs.Common.{◌≡◌, ℕ, ◌+◌, ◌-◌, ◌↔◌, List, subst, ◌∙◌, arith}
use Rattle.std.specs.Prelude.{ℤ, pos, ◌+ℤ◌, ◌-ℤ◌}
use Rattle.std.proofs.lemmas.Int.{ints}
use Rattle.sg_classes.specs.Classes.{IsAboveEntry}
use Rattle.sg_ideal.specs.Classes.{IsClosedTable, IsFrom, IsIdealTable, IsLeastAbove, IsRebased}
use Rattle.sg_ideal.proofs.FromLemmas.{at-natural, natural-at}
use Rattle.sg_ideal.proofs.TableLemmas.{zero-entry}

module _ (G t list : List ℕ) (least : ℕ) (h : IsClosedTable G t) (l : IsLeastAbove t least) (r : IsRebased t least list) where
  -- rebased at its least number, the set has 0
  pub rebased-table : IsIdealTable G list
  rebased-table = record {
    ambient = h.ambient;
    classes = r.classes;
    multiplicity = r.long ∙ h.multiplicity;
    zero = zero-entry list r.classes.not_empty ((r.same 0).1 (let e : least ≡ 0 + least = omega arith in subst (IsAboveEntry t) e l.above));
    closed = λ n g listed a.
        let e : (n + least) + g ≡ (n + g) + least = omega arith in
        (r.same (n + g)).1 (subst (IsAboveEntry t) e (h.closed (n + least) g listed ((r.same n).0 a)));
  }

  -- and tells the same integers
  pub rebased-from : (base x : ℤ) → IsFrom base t x ↔ IsFrom (base +ℤ pos least) list x
  rebased-from base x = (
    (λ m.
        let n = at-natural (IsAboveEntry t) (x -ℤ base) m in
        let e = n.1 in
        let b = l.below n.0 n.2 in
        let f : x -ℤ (base +ℤ pos least) ≡ pos (n.0 - least) = omega (arith, ints, e, b) in
        let g : n.0 ≡ (n.0 - least) + least = omega arith in
        natural-at (IsAboveEntry list) (x -ℤ (base +ℤ pos least)) (n.0 - least) f ((r.same (n.0 - least)).1 (subst (IsAboveEntry t) g n.2))),
    (λ m.
        let n = at-natural (IsAboveEntry list) (x -ℤ (base +ℤ pos least)) m in
        let e = n.1 in
        natural-at (IsAboveEntry t) (x -ℤ base) (n.0 + least) (omega (arith, ints, e)) ((r.same n.0).0 n.2)),
  )
