-- The canonical relations of <2, 3>, and those at 30 of <6, 10, 15>.
use Rattle.std.proofs.Common.{◌≡◌, ℕ, zero, suc, ◌+◌, ◌*◌, ◌%◌, ◌<◌, List, [], ◌∷◌, get_or, refl, sym, ap, subst, ◌∙◌, inl, inr, arith}
use Rattle.std.specs.Prelude.{◌⊎◌, ⊤, Contains}
use Rattle.sg_defs.specs.Apery.{IsAperyEntry}
use Rattle.sg_defs.specs.Membership.{IsFactorization, IsMember}
use Rattle.sg_defs.specs.Vectors.{IsLexBelow}
use Rattle.sg_nonunique.specs.Classes.{IsSameClass, HasTwoClasses}
use Rattle.sg_nonunique.specs.Presentations.{Relation, IsStep, AreRelations, Presents, IsNoneSpare, IsLexGreatest, IsCanonicalRelation, IsCanonical}
use Rattle.sg_nonunique.specs.Walks.{IsWalk}
use Rattle.sg_nonunique.proofs.OrderLemmas.{lex-irreflexive}
use Rattle.sg_laws_finite.proofs.ElementLemmas.{contains-nil, here, pairs-nil}
use Rattle.sg_laws_finite.proofs.SetLemmas.{greatest-first}
use Rattle.sg_laws_families.proofs.BettiLemmas.{betti-candidate}
use Rattle.sg_laws_families.proofs.CanonicalLemmas.{canonical-relations, canonical-presents, canonical-none_spare, one-greatest}
use Rattle.sg_laws_families.proofs.ClassLemmas.{class-here, class-end}
use Rattle.sg_laws_families.proofs.Families.{IsFamily, numbers-family}
use Rattle.sg_nonunique_samples.specs.Relations.{relation}
use Rattle.sg_nonunique_samples.proofs.ClassSamples.{six-second, six-apart, three-one_class, thirty-middle, thirty-last, thirty-12, thirty-13}
use Rattle.sg_nonunique_samples.proofs.KnownLists.{by_one, by_two, one-of, two-of, positive-2, six-of_two_three, thirty}

-- a vector that is alone in its class is the greatest of it
alone-greatest : (V : List ℕ → Type 0) (x : List ℕ) → V x → ((y : List ℕ) → IsSameClass V x y → y ≡ x) → IsLexGreatest (λ z. IsSameClass V x z) x
alone-greatest V x v only = record {
  member = class-here V x v;
  greatest = λ z s below. lex-irreflexive x (subst (IsLexBelow x) (only z s) below);
}

-- ---- <2, 3>

abbrev F : ℕ → List ℕ → Type 0
F = IsFactorization (2 ∷ 3 ∷ [])

pub two_three-family : IsFamily (IsFactorization (2 ∷ 3 ∷ [])) (λ n. n) 2
two_three-family = numbers-family (2 ∷ 3 ∷ []) (positive-2 2 3 (omega arith) (omega arith))

-- w and 3, where w is no member after 2 is taken away, is 3 or 6
candidate : (n w : ℕ) → IsAperyEntry (2 ∷ 3 ∷ []) 2 (w % 2) w → n ≡ w + 3 → (n ≡ 3) ⊎ (n ≡ 6)
candidate n w entry e = by entry.member
  where
    less : (a b : ℕ) → 2 + (a * 2 + b * 3) ≡ w → ⊥
    less a b f = entry.least (a * 2 + b * 3) (omega arith) (a ∷ b ∷ [], record { places = refl; value = omega arith })

    at : (a b : ℕ) → a * 2 + b * 3 ≡ w → (n ≡ 3) ⊎ (n ≡ 6)
    at (suc a) b f = absurd (less a b (omega arith))
    at zero zero f = inl (omega arith)
    at zero (suc zero) f = inr (omega arith)
    at zero (suc (suc b)) f = absurd (less 2 b (omega arith))

    by : IsMember (2 ∷ 3 ∷ []) w → (n ≡ 3) ⊎ (n ≡ 6)
    by m = let p = by_two 2 3 w m.0 m.1 in at p.0 p.1 p.3

-- the one number with two classes
pub two_three-betti : (n : ℕ) → HasTwoClasses (IsFactorization (2 ∷ 3 ∷ []) n) → n ≡ 6
two_three-betti n h =
    let c = betti-candidate (2 ∷ 3 ∷ []) (positive-2 2 3 (omega arith) (omega arith)) n h in
    let one : c.place ≡ 1 = omega (arith, c.after_first, c.in_range) in
    elim (candidate n c.rest c.entry (c.sum ∙ ap (λ k. c.rest + get_or (2 ∷ 3 ∷ []) k 0) one)) [
      | inl e ↦ absurd (three-one_class (subst (λ m. HasTwoClasses (IsFactorization (2 ∷ 3 ∷ []) m)) e h))
      | inr e ↦ e
    ]

six-relation : IsCanonicalRelation F (relation 6 (3 ∷ 0 ∷ []) (0 ∷ 2 ∷ []))
six-relation = record {
  left = greatest-first (F 6) (3 ∷ 0 ∷ []) ((0 ∷ 2 ∷ []) ∷ []) six-of_two_three;
  right = alone-greatest (F 6) (0 ∷ 2 ∷ []) (record { places = refl; value = refl }) six-second;
  apart = six-apart;
}

-- there is no other canonical relation
six-only : (r : Relation ℕ) → IsCanonicalRelation F r → r ≡ relation 6 (3 ∷ 0 ∷ []) (0 ∷ 2 ∷ [])
six-only r h =
    let two : HasTwoClasses (F r.value) = (r.left, r.right, h.left.member, class-end (F r.value) r.right r.right h.right.member, h.apart) in
    let e = two_three-betti r.value two in
    let g : IsLexGreatest (F 6) r.left = subst (λ n. IsLexGreatest (F n) r.left) e h.left in
    let top = greatest-first (F 6) (3 ∷ 0 ∷ []) ((0 ∷ 2 ∷ []) ∷ []) six-of_two_three in
    let left : r.left ≡ 3 ∷ 0 ∷ [] = one-greatest (F 6) r.left (3 ∷ 0 ∷ []) g.member.places g top in
    let f : F 6 r.right = subst (λ n. F n r.right) e (class-end (F r.value) r.right r.right h.right.member) in
    let apart : IsSameClass (F 6) (3 ∷ 0 ∷ []) r.right → ⊥ = subst (λ v. IsSameClass (F 6) v r.right → ⊥) left (subst (λ n. IsSameClass (F n) r.left r.right → ⊥) e h.apart) in
    elim (two-of (3 ∷ 0 ∷ []) (0 ∷ 2 ∷ []) r.right ((six-of_two_three.exactly r.right).1 f)) [
      | inl same ↦ absurd (apart (subst (IsSameClass (F 6) (3 ∷ 0 ∷ [])) (sym same) (class-here (F 6) (3 ∷ 0 ∷ []) top.member)))
      | inr right ↦ same_relation r e left right
    ]
  where
    same_relation : (r : Relation ℕ) → r.value ≡ 6 → r.left ≡ 3 ∷ 0 ∷ [] → r.right ≡ 0 ∷ 2 ∷ [] → r ≡ relation 6 (3 ∷ 0 ∷ []) (0 ∷ 2 ∷ [])
    same_relation r a b c =
        let e : r ≡ relation 6 r.left r.right = ap (λ n. relation n r.left r.right) a in
        let f : relation 6 r.left r.right ≡ relation 6 (3 ∷ 0 ∷ []) r.right = ap (λ x. relation 6 x r.right) b in
        e ∙ f ∙ ap (λ y. relation 6 (3 ∷ 0 ∷ []) y) c

pub six-canonical : IsCanonical (◌<◌) (IsFactorization (2 ∷ 3 ∷ [])) (relation 6 (3 ∷ 0 ∷ []) (0 ∷ 2 ∷ []) ∷ [])
six-canonical = record {
  ordered = λ i j d l m. absurd (omega arith);
  canonical = λ r c. subst (IsCanonicalRelation F) (sym (one-of (relation 6 (3 ∷ 0 ∷ []) (0 ∷ 2 ∷ [])) r c)) six-relation;
  whole = λ r h. subst (Contains (relation 6 (3 ∷ 0 ∷ []) (0 ∷ 2 ∷ []) ∷ [])) (sym (six-only r h)) (here (relation 6 (3 ∷ 0 ∷ []) (0 ∷ 2 ∷ [])) []);
}

pub six-relations : AreRelations (IsFactorization (2 ∷ 3 ∷ [])) (relation 6 (3 ∷ 0 ∷ []) (0 ∷ 2 ∷ []) ∷ [])
six-relations = canonical-relations F (λ n. n) 2 two_three-family (◌<◌) (relation 6 (3 ∷ 0 ∷ []) (0 ∷ 2 ∷ []) ∷ []) six-canonical

pub six-presents : Presents (IsFactorization (2 ∷ 3 ∷ [])) (relation 6 (3 ∷ 0 ∷ []) (0 ∷ 2 ∷ []) ∷ [])
six-presents = canonical-presents F (λ n. n) 2 two_three-family (◌<◌) (relation 6 (3 ∷ 0 ∷ []) (0 ∷ 2 ∷ []) ∷ []) six-canonical

pub six-needed : IsNoneSpare (IsFactorization (2 ∷ 3 ∷ [])) (relation 6 (3 ∷ 0 ∷ []) (0 ∷ 2 ∷ []) ∷ [])
six-needed = canonical-none_spare F (λ n. n) 2 two_three-family (◌<◌) (relation 6 (3 ∷ 0 ∷ []) (0 ∷ 2 ∷ []) ∷ []) six-canonical (λ n l. omega arith)

-- without relations there are no steps
pub none-presents : Presents (IsFactorization (2 ∷ 3 ∷ [])) [] → ⊥
none-presents h =
    let j = h 6 (3 ∷ 0 ∷ []) (0 ∷ 2 ∷ []) (record { places = refl; value = refl }) (record { places = refl; value = refl }) in
    stays j.0 j.1
  where
    stays : (ps : List (List ℕ)) → IsWalk (λ _. ⊤) (IsStep {I = ℕ} []) (3 ∷ 0 ∷ []) ps (0 ∷ 2 ∷ []) → ⊥
    stays [] w = let f : ◌≡◌ {A = ℕ} 3 0 = ap (λ z. get_or z 0 0) w.1 in omega arith
    stays (p ∷ ps) w = let s = w.1 in contains-nil s.relation s.listed

-- one of the two is enough
pub twice-spare : IsNoneSpare (IsFactorization (2 ∷ 3 ∷ [])) (relation 6 (3 ∷ 0 ∷ []) (0 ∷ 2 ∷ []) ∷ relation 6 (3 ∷ 0 ∷ []) (0 ∷ 2 ∷ []) ∷ []) → ⊥
twice-spare h = let n = h 0 (omega arith) in n.5 (six-presents n.0 n.1 n.2 n.3 n.4)

-- ---- N: each number has one factorization

pub naturals-canonical : IsCanonical (◌<◌) (IsFactorization (1 ∷ [])) []
naturals-canonical = record {
  ordered = pairs-nil (λ r s. (r.value < s.value) ⊎ ((r.value ≡ s.value) × IsLexBelow s.right r.right));
  canonical = λ r c. absurd (contains-nil r c);
  whole = λ r h. absurd (none r h);
}
  where
    none : (r : Relation ℕ) → IsCanonicalRelation (IsFactorization (1 ∷ [])) r → ⊥
    none r h =
        let V = IsFactorization (1 ∷ []) r.value in
        let a = by_one 1 r.value r.left h.left.member in
        let b = by_one 1 r.value r.right (class-end V r.right r.right h.right.member) in
        let e : a.0 ≡ b.0 = omega (arith, a.2, b.2) in
        let f : r.left ≡ r.right = a.1 ∙ ap (λ n. n ∷ []) e ∙ sym b.1 in
        h.apart (subst (IsSameClass V r.left) f (class-here V r.left h.left.member))

-- ---- 30 in <6, 10, 15>

abbrev G : ℕ → List ℕ → Type 0
G = IsFactorization (6 ∷ 10 ∷ 15 ∷ [])

pub thirty-second : IsCanonicalRelation (IsFactorization (6 ∷ 10 ∷ 15 ∷ [])) (relation 30 (5 ∷ 0 ∷ 0 ∷ []) (0 ∷ 3 ∷ 0 ∷ []))
thirty-second = record {
  left = greatest-first (G 30) (5 ∷ 0 ∷ 0 ∷ []) ((0 ∷ 3 ∷ 0 ∷ []) ∷ (0 ∷ 0 ∷ 2 ∷ []) ∷ []) thirty;
  right = alone-greatest (G 30) (0 ∷ 3 ∷ 0 ∷ []) (record { places = refl; value = refl }) thirty-middle;
  apart = thirty-12;
}

pub thirty-third : IsCanonicalRelation (IsFactorization (6 ∷ 10 ∷ 15 ∷ [])) (relation 30 (5 ∷ 0 ∷ 0 ∷ []) (0 ∷ 0 ∷ 2 ∷ []))
thirty-third = record {
  left = greatest-first (G 30) (5 ∷ 0 ∷ 0 ∷ []) ((0 ∷ 3 ∷ 0 ∷ []) ∷ (0 ∷ 0 ∷ 2 ∷ []) ∷ []) thirty;
  right = alone-greatest (G 30) (0 ∷ 0 ∷ 2 ∷ []) (record { places = refl; value = refl }) thirty-last;
  apart = thirty-13;
}

pub thirty-no_other : IsCanonicalRelation (IsFactorization (6 ∷ 10 ∷ 15 ∷ [])) (relation 30 (0 ∷ 3 ∷ 0 ∷ []) (0 ∷ 0 ∷ 2 ∷ [])) → ⊥
thirty-no_other h = h.left.greatest (5 ∷ 0 ∷ 0 ∷ []) (record { places = refl; value = refl }) (inl (omega arith))
