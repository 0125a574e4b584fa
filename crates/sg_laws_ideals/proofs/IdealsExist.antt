-- A set that is decided, bounded below and closed under adding members has a minimal list: its integers from which no
-- generator leads back into it. From some integer on all are in the set, so that such lie between two bounds.
use Rattle.std.proofs.Common.{◌≡◌, ◌≢◌, ℕ, zero, suc, ◌+◌, ◌<◌, ◌≤◌, List, length, get_or, subst, inl, inr, arith}
use Rattle.std.specs.Prelude.{ℤ, pos, nat_abs, ◌+ℤ◌, ◌-ℤ◌, ◌<ℤ◌, ◌≤ℤ◌}
use Rattle.std.proofs.lemmas.Int.{ints, by_lt_z}
use Rattle.sg_defs.specs.Listings.{ListsIntegers}
use Rattle.sg_defs.specs.Membership.{IsMember, IsIntegerMember, IsNumericalSemigroup}
use Rattle.sg_defs.specs.Ideals.{IsIdealMember}
use Rattle.sg_defs.proofs.MembershipLemmas.{member-zero, member-add, member-entry}
use Rattle.sg_classes.proofs.GeneratorLemmas.{member-split}
use Rattle.sg_ideal.specs.Value.{GeneratesIdeal}
use Rattle.sg_ideal.proofs.FromLemmas.{at-natural, natural-at}
use Rattle.sg_laws_invariants.specs.Decided.{Decided}
use Rattle.sg_laws_invariants.proofs.Decisions.{some-below}
use Rattle.sg_laws_invariants.proofs.BoundLemmas.{members-from}
use Rattle.sg_laws_invariants.proofs.ListsExist.{integers-exist}
use Rattle.sg_laws_ideals.specs.Sets.{IsIdealSet}

-- from some integer on, all are in the set
pub all-from : (G : List ℕ) → IsNumericalSemigroup G → (P : ℤ → Type 0) → IsIdealSet G P → (t : ℤ) × ((x : ℤ) → t ≤ℤ x → P x)
all-from G num P h = let c = members-from G num in (h.some.0 +ℤ pos c.0, from c.0 c.1)
  where
    from : (c : ℕ) → ((n : ℕ) → c ≤ n → IsMember G n) → (x : ℤ) → (h.some.0 +ℤ pos c) ≤ℤ x → P x
    from c all x l =
        let n : ℕ = nat_abs (x -ℤ h.some.0) in
        let e : h.some.0 +ℤ pos n ≡ x = omega (arith, ints, l) in
        let low : c ≤ n = omega (arith, ints, l) in
        subst P e (h.closed h.some.0 n h.some.1 (all n low))

module _ (G : List ℕ) (num : IsNumericalSemigroup G) (P : ℤ → Type 0) (h : IsIdealSet G P) where
  -- some generator leads back from x into the set
  abbrev IsLed : ℤ → Type 0
  IsLed x = (i : ℕ) × (i < length G) × P (x -ℤ pos (get_or G i 0))

  -- x is in the set, and no generator leads back
  abbrev IsFirst : ℤ → Type 0
  IsFirst x = P x × (IsLed x → ⊥)

  led-decided : (x : ℤ) → Decided (IsLed x)
  led-decided x = some-below (λ i. P (x -ℤ pos (get_or G i 0))) (λ i. h.decided (x -ℤ pos (get_or G i 0))) (length G)

  first-decided : (x : ℤ) → Decided (IsFirst x)
  first-decided x = elim (h.decided x) [
    | inr out ↦ inr (λ p. out p.0)
    | inl here ↦ elim (led-decided x) [ inl led ↦ inr (λ p. p.1 led) | inr not ↦ inl (here, not) ]
  ]

  -- from t and the first generator on none is such
  first-below : (t : ℤ) → ((x : ℤ) → t ≤ℤ x → P x) → (x : ℤ) → IsFirst x → x <ℤ (t +ℤ pos (get_or G 0 0))
  first-below t all x p = by_lt_z x (t +ℤ pos (get_or G 0 0)) (λ less. less)
      (λ more. absurd (p.1 (0, num.not_empty, all (x -ℤ pos (get_or G 0 0)) (omega (arith, ints, more)))))

  firsts-exist : (I : List ℤ) × ListsIntegers IsFirst I
  firsts-exist =
      let t = all-from G num P h in
      let k : ℕ = nat_abs h.bound in
      let top : ℕ = nat_abs (t.0 +ℤ pos (get_or G 0 0)) in
      integers-exist IsFirst first-decided k (top + k)
      (λ x p. let l = h.low x p.0 in omega (arith, ints, l))
      (λ x p. let l = first-below t.0 t.1 x p in omega (arith, ints, l))

  -- going back from an integer of the set ends at one of them
  first-under : (b : ℕ) (x : ℤ) → P x → x <ℤ (h.bound +ℤ pos b) → (w : ℤ) × (s : ℕ) × IsFirst w × IsMember G s × (x ≡ w +ℤ pos s)
  first-under zero x p l = absurd (let m = h.low x p in omega (arith, ints, l, m))
  first-under (suc b) x p l = elim (led-decided x) [
    | inr not ↦ (x, 0, (p, not), member-zero G, omega (arith, ints))
    | inl led ↦
        let g = get_or G led.0 0 in
        let positive = num.positive led.0 0 led.1 in
        let r = first-under b (x -ℤ pos g) led.2 (omega (arith, ints, l, positive)) in
        let e = r.4 in
        (r.0, r.1 + g, r.2, member-add G r.1 g r.3 (member-entry G led.0 led.1), omega (arith, ints, e))
  ]

  first-of : (x : ℤ) → P x → (w : ℤ) × (s : ℕ) × IsFirst w × IsMember G s × (x ≡ w +ℤ pos s)
  first-of x p = first-under (nat_abs (x -ℤ h.bound) + 1) x p (let l = h.low x p in omega (arith, ints, l))

  -- none of them is another one and a member
  firsts-apart : (x y : ℤ) → IsFirst x → IsFirst y → x ≢ y → IsIntegerMember G (x -ℤ y) → ⊥
  firsts-apart x y p q other m =
      let n = at-natural (IsMember G) (x -ℤ y) m in
      let e = n.1 in
      elim (member-split G n.0 n.2) [
        | inl none ↦ other (omega (arith, ints, e, none))
        | inr r ↦
            let f = r.4 in
            let back : y +ℤ pos r.1 ≡ x -ℤ pos (get_or G r.0 0) = omega (arith, ints, e, f) in
            p.1 (r.0, r.2, subst P back (h.closed y r.1 q.0 r.3))
      ]

  module _ (I : List ℤ) (listed : ListsIntegers IsFirst I) where
    set-member : (x : ℤ) → P x → IsIdealMember G I x
    set-member x p =
        let r = first-of x p in
        let e = r.4 in
        (r.0, (listed.exactly r.0).1 r.2, natural-at (IsMember G) (x -ℤ r.0) r.1 (omega (arith, ints, e)) r.3)

    member-set : (x : ℤ) → IsIdealMember G I x → P x
    member-set x m =
        let n = at-natural (IsMember G) (x -ℤ m.0) m.2 in
        let e = n.1 in
        let f : m.0 +ℤ pos n.0 ≡ x = omega (arith, ints, e) in
        subst P f (h.closed m.0 n.0 ((listed.exactly m.0).0 m.1).0 n.2)

    firsts-generate : GeneratesIdeal G P I
    firsts-generate = record {
      not_empty = (let m = set-member h.some.0 h.some.1 in let l = m.1.1 in omega (arith, l));
      minimal = record {
        ascending = listed.ascending;
        needed = λ x y p q other m. firsts-apart x y ((listed.exactly x).0 p) ((listed.exactly y).0 q) other m;
      };
      same = λ x. ((λ p. set-member x p), (λ m. member-set x m));
    }

-- the set of an ideal has a minimal list
pub ideal-exists : (G : List ℕ) → IsNumericalSemigroup G → (P : ℤ → Type 0) → IsIdealSet G P → (I : List ℤ) × GeneratesIdeal G P I
ideal-exists G num P h = let r = firsts-exist G num P h in (r.0, firsts-generate G num P h r.0 r.1)
