-- What a list generates is decided, bounded below and closed under adding members, and so are sums, differences,
-- intersections, multiples and translates of such sets.
use Rattle.std.proofs.Common.{◌≡◌, ℕ, zero, suc, ◌+◌, ◌<◌, List, [], ◌∷◌, length, get_or, refl, subst, arith}
use Rattle.std.specs.Prelude.{ℤ, pos, nat_abs, ◌+ℤ◌, ◌-ℤ◌, ◌≤ℤ◌, ◌↔◌, Contains}
use Rattle.std.proofs.lemmas.Int.{ints, by_lt_z}
use Rattle.std.proofs.lemmas.List.Elements.{Contains-get_or}
use Rattle.sg_defs.specs.Membership.{IsMember, IsNumericalSemigroup}
use Rattle.sg_defs.specs.Ideals.{IsIdealMember, IsInSum, IsInDifference, IsInMultiple, IsInTranslate}
use Rattle.sg_defs.proofs.MembershipLemmas.{member-add}
use Rattle.sg_ideal.specs.Value.{IsInBoth}
use Rattle.sg_ideal.proofs.FromLemmas.{at-natural, natural-at}
use Rattle.sg_ideal.proofs.PairLemmas.{listed-member}
use Rattle.sg_laws_invariants.proofs.Decisions.{decided-and, decided-same, each-below, some-below}
use Rattle.sg_laws_ideals.specs.Sets.{IsIdealSet}
use Rattle.sg_laws_ideals.proofs.IdealDecisions.{integer-place, ideal_member-decided}
use Rattle.sg_laws_ideals.proofs.IdealsExist.{all-from}

-- the same integers
pub same-set : (G : List ℕ) (P Q : ℤ → Type 0) → ((x : ℤ) → P x ↔ Q x) → IsIdealSet G P → IsIdealSet G Q
same-set G P Q same h = record {
  decided = λ x. decided-same (P x) (Q x) (same x).0 (same x).1 (h.decided x);
  some = (h.some.0, (same h.some.0).0 h.some.1);
  bound = h.bound;
  low = λ x q. h.low x ((same x).1 q);
  closed = λ x s q m. (same (x +ℤ pos s)).0 (h.closed x s ((same x).1 q) m);
}

-- ---- what a list generates

-- no entry is below it
pub lower-bound : (xs : List ℤ) → (b : ℤ) × ((k : ℕ) → k < length xs → b ≤ℤ get_or xs k (pos 0))
lower-bound [] = (pos 0, λ k l. absurd (omega arith))
lower-bound (x ∷ xs) = let r = lower-bound xs in by_lt_z {P = (b : ℤ) × ((k : ℕ) → k < length (x ∷ xs) → b ≤ℤ get_or (x ∷ xs) k (pos 0))} x r.0
    (λ less. (x, at x x xs r.0 r.1 (omega (arith, ints)) (omega (arith, ints, less))))
    (λ more. (r.0, at r.0 x xs r.0 r.1 more (omega (arith, ints))))
  where
    at : (b x : ℤ) (xs : List ℤ) (c : ℤ) → ((k : ℕ) → k < length xs → c ≤ℤ get_or xs k (pos 0)) → b ≤ℤ x → b ≤ℤ c → (k : ℕ) → k < length (x ∷ xs) → b ≤ℤ get_or (x ∷ xs) k (pos 0)
    at b x xs c h first rest zero l = first
    at b x xs c h first rest (suc k) l = let m = h k (omega arith) in omega (arith, ints, m, rest)

pub entry-low : (xs : List ℤ) (x : ℤ) → Contains xs x → (lower-bound xs).0 ≤ℤ x
entry-low xs x c = let k = integer-place xs x c in let l = (lower-bound xs).1 k.0 k.1 in let e = k.2 in omega (arith, ints, l, e)

-- a member and a member of the semigroup
pub ideal-add : (G : List ℕ) (I : List ℤ) (x : ℤ) (s : ℕ) → IsIdealMember G I x → IsMember G s → IsIdealMember G I (x +ℤ pos s)
ideal-add G I x s m q =
    let n = at-natural (IsMember G) (x -ℤ m.0) m.2 in
    let e = n.1 in
    (m.0, m.1, natural-at (IsMember G) ((x +ℤ pos s) -ℤ m.0) (n.0 + s) (omega (arith, ints, e)) (member-add G n.0 s n.2 q))

-- what integers generate is the set of an ideal
pub generated-set : (G : List ℕ) (zs : List ℤ) → 0 < length zs → IsIdealSet G (IsIdealMember G zs)
generated-set G zs long = record {
  decided = ideal_member-decided G zs;
  some = (get_or zs 0 (pos 0), listed-member G zs (get_or zs 0 (pos 0)) (Contains-get_or zs 0 (pos 0) long));
  bound = (lower-bound zs).0;
  low = λ x m.
      let n = at-natural (IsMember G) (x -ℤ m.0) m.2 in
      let e = n.1 in
      let l = entry-low zs m.0 m.1 in
      omega (arith, ints, e, l);
  closed = ideal-add G zs;
}

-- ---- of two sets

module _ (G : List ℕ) (P Q : ℤ → Type 0) (p : IsIdealSet G P) (q : IsIdealSet G Q) where
  -- the one summand is the first bound and a number
  abbrev IsSplit : ℤ → ℕ → Type 0
  IsSplit x n = P (p.bound +ℤ pos n) × Q (x -ℤ (p.bound +ℤ pos n))

  split-sum : (x : ℤ) (n : ℕ) → IsSplit x n → IsInSum P Q x
  split-sum x n h = (p.bound +ℤ pos n, x -ℤ (p.bound +ℤ pos n), h.0, h.1, omega (arith, ints))

  sum-split : (x : ℤ) → IsInSum P Q x → (n : ℕ) × (n < nat_abs ((x -ℤ p.bound) -ℤ q.bound) + 1) × IsSplit x n
  sum-split x m =
      let y = m.0 in
      let e = m.4 in
      let a = p.low y m.2 in
      let b = q.low m.1 m.3 in
      let n : ℕ = nat_abs (y -ℤ p.bound) in
      let f : y ≡ p.bound +ℤ pos n = omega (arith, ints, a) in
      let g : m.1 ≡ x -ℤ (p.bound +ℤ pos n) = omega (arith, ints, e, f) in
      (n, omega (arith, ints, a, b, e, f), (subst P f m.2, subst Q g m.3))

  -- so is a sum
  pub sum-set : IsIdealSet G (IsInSum P Q)
  sum-set = record {
    decided = λ x. decided-same ((n : ℕ) × (n < nat_abs ((x -ℤ p.bound) -ℤ q.bound) + 1) × IsSplit x n) (IsInSum P Q x) (λ h. split-sum x h.0 h.2) (sum-split x)
        (some-below (IsSplit x) (λ n. decided-and (P (p.bound +ℤ pos n)) (Q (x -ℤ (p.bound +ℤ pos n))) (p.decided (p.bound +ℤ pos n)) (q.decided (x -ℤ (p.bound +ℤ pos n))))
        (nat_abs ((x -ℤ p.bound) -ℤ q.bound) + 1));
    some = (p.some.0 +ℤ q.some.0, (p.some.0, q.some.0, p.some.1, q.some.1, refl));
    bound = p.bound +ℤ q.bound;
    low = λ x m. let a = p.low m.0 m.2 in let b = q.low m.1 m.3 in let e = m.4 in omega (arith, ints, a, b, e);
    closed = λ x s m k. let e = m.4 in (m.0, m.1 +ℤ pos s, m.2, q.closed m.1 s m.3 k, omega (arith, ints, e));
  }

  -- so is an intersection
  pub both-set : IsNumericalSemigroup G → IsIdealSet G (IsInBoth P Q)
  both-set num =
      let a = all-from G num P p in
      let b = all-from G num Q q in
      let x = a.0 +ℤ pos (nat_abs (b.0 -ℤ a.0)) in
      record {
        decided = λ x. decided-and (P x) (Q x) (p.decided x) (q.decided x);
        some = (x, (a.1 x (omega (arith, ints)), b.1 x (omega (arith, ints))));
        bound = p.bound;
        low = λ x m. p.low x m.0;
        closed = λ x s m k. (p.closed x s m.0 k, q.closed x s m.1 k);
      }

-- ---- what moves an ideal into a set

module _ (G : List ℕ) (P : ℤ → Type 0) (J : List ℤ) (p : IsIdealSet G P) where
  -- the generators are all that is to be tried
  generators-move : (x : ℤ) → ((k : ℕ) → k < length J → P (x +ℤ get_or J k (pos 0))) → IsInDifference P (IsIdealMember G J) x
  generators-move x each y m =
      let k = integer-place J m.0 m.1 in
      let n = at-natural (IsMember G) (y -ℤ m.0) m.2 in
      let e = n.1 in
      let f = k.2 in
      let g : (x +ℤ get_or J k.0 (pos 0)) +ℤ pos n.0 ≡ x +ℤ y = omega (arith, ints, e, f) in
      subst P g (p.closed (x +ℤ get_or J k.0 (pos 0)) n.0 (each k.0 k.1) n.2)

  -- so is a difference
  pub difference-set : IsNumericalSemigroup G → 0 < length J → IsIdealSet G (IsInDifference P (IsIdealMember G J))
  difference-set num long =
      let a = all-from G num P p in
      let first = get_or J 0 (pos 0) in
      let x = a.0 -ℤ (lower-bound J).0 in
      record {
        decided = λ x. decided-same ((k : ℕ) → k < length J → P (x +ℤ get_or J k (pos 0))) (IsInDifference P (IsIdealMember G J) x) (generators-move x)
            (λ h k l. h (get_or J k (pos 0)) (listed-member G J (get_or J k (pos 0)) (Contains-get_or J k (pos 0) l)))
            (each-below (λ k. P (x +ℤ get_or J k (pos 0))) (λ k. p.decided (x +ℤ get_or J k (pos 0))) (length J));
        some = (x, generators-move x (λ k l. let m = (lower-bound J).1 k l in a.1 (x +ℤ get_or J k (pos 0)) (omega (arith, ints, m))));
        bound = p.bound -ℤ first;
        low = λ x h. let l = p.low (x +ℤ first) (h first (listed-member G J first (Contains-get_or J 0 (pos 0) long))) in omega (arith, ints, l);
        closed = λ x s h m y q. let e : (x +ℤ y) +ℤ pos s ≡ (x +ℤ pos s) +ℤ y = omega (arith, ints) in subst P e (p.closed (x +ℤ y) s (h y q) m);
      }

-- ---- of one set

module _ (G : List ℕ) (P : ℤ → Type 0) (p : IsIdealSet G P) where
  one-summand : (x : ℤ) → P x ↔ IsInMultiple 1 P x
  one-summand x = (
    (λ m. (x, pos 0, m, refl, omega (arith, ints))),
    (λ m. let f = m.3 in let g = m.4 in let same : m.0 ≡ x = omega (arith, ints, f, g) in subst P same m.2),
  )

  -- so are the sums of k members
  pub multiple-set : (k : ℕ) → 0 < k → IsIdealSet G (IsInMultiple k P)
  multiple-set zero l = absurd (omega arith)
  multiple-set (suc zero) l = same-set G P (IsInMultiple 1 P) one-summand p
  multiple-set (suc (suc k)) l = sum-set G P (IsInMultiple (suc k) P) p (multiple-set (suc k) (omega arith))

  -- so is a translate
  pub translate-set : (a : ℤ) → IsIdealSet G (IsInTranslate a P)
  translate-set a = record {
    decided = λ x. p.decided (x -ℤ a);
    some = (p.some.0 +ℤ a, (let e : p.some.0 ≡ (p.some.0 +ℤ a) -ℤ a = omega (arith, ints) in subst P e p.some.1));
    bound = p.bound +ℤ a;
    low = λ x m. let l = p.low (x -ℤ a) m in omega (arith, ints, l);
    closed = λ x s m k. let e : (x -ℤ a) +ℤ pos s ≡ (x +ℤ pos s) -ℤ a = omega (arith, ints) in subst P e (p.closed (x -ℤ a) s m k);
  }
