-- A numerical semigroup has one span, and of that it is decided whether it passes a limit.
use Rattle.std.proofs.Common.{◌≡◌, ℕ, ◌+◌, ◌-◌, ◌<◌, List, length, get_or, arith}
use Rattle.std.specs.Prelude.{pos, ◌-ℤ◌}
use Rattle.std.proofs.lemmas.Int.{ints}
use Rattle.sg_defs.specs.Membership.{IsNumericalSemigroup}
use Rattle.sg_defs.proofs.OneLemmas.{one-frobenius}
use Rattle.sg_classes.specs.Fit.{IsSpan}
use Rattle.sg_laws_invariants.specs.Decided.{Decided}
use Rattle.sg_laws_invariants.proofs.Decisions.{decided-same, decided-lt}
use Rattle.sg_laws_invariants.proofs.InvariantsExist.{conductor-exists}

-- it has one
pub span-exists : (G : List ℕ) → IsNumericalSemigroup G → (s : ℕ) × IsSpan G s
span-exists G s =
    let c = conductor-exists G s in
    let p = s.positive 0 0 s.not_empty in
    (c.0 + get_or G 0 0 + get_or G (length G - 1) 0 - 1, (pos c.0 -ℤ pos 1, c.1, omega (arith, ints, p)))

-- and no other
pub span-one : (G : List ℕ) (s t : ℕ) → IsSpan G s → IsSpan G t → s ≡ t
span-one G s t h k = let e = one-frobenius G h.0 k.0 h.1 k.1 in let a = h.2 in let b = k.2 in omega (arith, ints, a, b, e)

-- whether it passes a limit is decided
pub wide-decided : (G : List ℕ) → IsNumericalSemigroup G → (limit : ℕ) → Decided ((s : ℕ) × IsSpan G s × (limit < s))
wide-decided G s limit =
    let r = span-exists G s in
    decided-same (limit < r.0) ((s : ℕ) × IsSpan G s × (limit < s)) (λ l. (r.0, r.1, l))
    (λ h. let e = span-one G h.0 r.0 h.1 r.1 in let l = h.2 in omega (arith, e, l)) (decided-lt limit r.0)
