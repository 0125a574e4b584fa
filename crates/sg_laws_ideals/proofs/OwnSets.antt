-- The canonical and the maximal ideal are decided, bounded below and closed under adding members.
use Rattle.std.proofs.Common.{◌≡◌, ◌≢◌, ℕ, ◌+◌, List, get_or, subst, arith}
use Rattle.std.specs.Prelude.{ℤ, pos, ◌+ℤ◌, ◌-ℤ◌, ◌≤ℤ◌}
use Rattle.std.proofs.lemmas.Int.{ints}
use Rattle.sg_defs.specs.Membership.{IsMember, IsIntegerMember, IsNumericalSemigroup}
use Rattle.sg_defs.specs.Ideals.{IsInCanonical, IsInMaximal}
use Rattle.sg_defs.proofs.OneLemmas.{one-frobenius}
use Rattle.sg_defs.proofs.MembershipLemmas.{member-add, member-entry}
use Rattle.sg_invar.proofs.PseudoFrobeniusLemmas.{outside-below}
use Rattle.sg_ideal.proofs.FromLemmas.{at-natural, natural-at}
use Rattle.sg_laws_invariants.specs.Decided.{Decided}
use Rattle.sg_laws_invariants.proofs.Decisions.{decided-not, decided-and, decided-same, decided-eq_z}
use Rattle.sg_laws_invariants.proofs.InvariantsExist.{integer_member-decided, frobenius-exists}
use Rattle.sg_laws_ideals.specs.Sets.{IsIdealSet}

module _ (G : List ℕ) (num : IsNumericalSemigroup G) where
  canonical-decided : (x : ℤ) → Decided (IsInCanonical G x)
  canonical-decided x =
      let f = frobenius-exists G num in
      decided-same (IsIntegerMember G (f.0 -ℤ x) → ⊥) (IsInCanonical G x) (λ not. (f.0, f.1, not))
      (λ m. subst (λ g. IsIntegerMember G (g -ℤ x) → ⊥) (one-frobenius G m.0 f.0 m.1 f.1) m.2)
      (decided-not (IsIntegerMember G (f.0 -ℤ x)) (integer_member-decided G (f.0 -ℤ x)))

  canonical-low : (x : ℤ) → IsInCanonical G x → pos 0 ≤ℤ x
  canonical-low x m = let l = outside-below G m.0 (m.0 -ℤ x) m.1 m.2 in omega (arith, ints, l)

  canonical-closed : (x : ℤ) (s : ℕ) → IsInCanonical G x → IsMember G s → IsInCanonical G (x +ℤ pos s)
  canonical-closed x s m k = (
    m.0,
    m.1,
    λ h.
        let n = at-natural (IsMember G) (m.0 -ℤ (x +ℤ pos s)) h in
        let e = n.1 in
        m.2 (natural-at (IsMember G) (m.0 -ℤ x) (n.0 + s) (omega (arith, ints, e)) (member-add G n.0 s n.2 k)),
  )

  -- 1 past the Frobenius number is in it
  pub canonical-set : IsIdealSet G (IsInCanonical G)
  canonical-set =
      let f = frobenius-exists G num in
      record {
        decided = canonical-decided;
        some = (f.0 +ℤ pos 1, (f.0, f.1, λ h. let n = at-natural (IsMember G) (f.0 -ℤ (f.0 +ℤ pos 1)) h in let e = n.1 in omega (arith, ints, e)));
        bound = pos 0;
        low = canonical-low;
        closed = canonical-closed;
      }

  maximal-closed : (x : ℤ) (s : ℕ) → IsInMaximal G x → IsMember G s → IsInMaximal G (x +ℤ pos s)
  maximal-closed x s m k =
      let n = at-natural (IsMember G) x m.1 in
      let e = n.1 in
      let other : n.0 ≢ 0 = λ none. m.0 (omega (arith, ints, e, none)) in
      ((λ none. other (omega (arith, ints, e, none))), natural-at (IsMember G) (x +ℤ pos s) (n.0 + s) (omega (arith, ints, e)) (member-add G n.0 s n.2 k))

  -- the generators are in it
  pub maximal-set : IsIdealSet G (IsInMaximal G)
  maximal-set =
      let positive = num.positive 0 0 num.not_empty in
      record {
        decided = λ x. decided-and (x ≢ pos 0) (IsIntegerMember G x) (decided-not (x ≡ pos 0) (decided-eq_z x (pos 0))) (integer_member-decided G x);
        some = (pos (get_or G 0 0), ((λ none. omega (arith, ints, none, positive)), member-entry G 0 num.not_empty));
        bound = pos 0;
        low = λ x m. let n = at-natural (IsMember G) x m.1 in let e = n.1 in omega (arith, ints, e);
        closed = maximal-closed;
      }
