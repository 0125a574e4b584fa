-- The canonical list of relations presents every element, none of it is spare, and there is one such list.
use Rattle.std.proofs.Common.{◌≡◌, ◌≢◌, ℕ, ◌<◌, List, length, get_or, sym, subst, ◌∙◌, inl, inr}
use Rattle.std.specs.Prelude.{◌⊎◌, Contains}
use Rattle.std.proofs.lemmas.Bool.{cases_order}
use Rattle.std.proofs.lemmas.List.{get_or_default}
use Rattle.sg_defs.specs.Vectors.{IsLexBelow}
use Rattle.sg_nonunique.specs.Classes.{IsSameClass}
use Rattle.sg_nonunique.specs.Presentations.{Relation, AreJoined, AreRelations, Presents, IsNoneSpare, IsLexGreatest, IsCanonical}
use Rattle.sg_nonunique.proofs.OrderLemmas.{lex-irreflexive, lex-then, lex-cases}
use Rattle.sg_laws_finite.proofs.OneListLemmas.{same-lists}
use Rattle.sg_laws_finite.proofs.SetLemmas.{class-decided, greatest-exists}
use Rattle.sg_laws_families.proofs.Families.{IsFamily}
use Rattle.sg_laws_families.proofs.ClassLemmas.{Crosses, class-induction, class-here, class-then, class-back, class-start, class-end}
use Rattle.sg_laws_families.proofs.SpareLemmas.{none-spare}
use Rattle.sg_laws_families.proofs.StepLemmas.{joined-raise, relation-joined, steps-here, steps-then, steps-back}

-- a set of vectors of one length has one greatest vector
pub one-greatest : (V : List ℕ → Type 0) (x y : List ℕ) → length x ≡ length y → IsLexGreatest V x → IsLexGreatest V y → x ≡ y
one-greatest V x y e g h = elim (lex-cases x y e) [
  | inl same ↦ same
  | inr differ ↦ elim differ [
    | inl less ↦ absurd (g.greatest y h.member less)
    | inr more ↦ absurd (h.greatest x g.member more)
  ]
]

-- the greatest vector of a class is that of each vector in it
pub greatest-of_class : (V : List ℕ → Type 0) (x y : List ℕ) → IsSameClass V x y → IsLexGreatest (λ z. IsSameClass V x z) y → IsLexGreatest (λ z. IsSameClass V y z) y
greatest-of_class V x y s g = record {
  member = class-then V y x y (class-back V x y s) s;
  greatest = λ z h. g.greatest z (class-then V x y z s h);
}

module _ {I : Type 0} (F : I → List ℕ → Type 0) (size : I → ℕ) (k : ℕ) (family : IsFamily F size k) where
  -- the greatest vector of an element
  pub root-exists : (n : I) (x : List ℕ) → F n x → (y : List ℕ) × IsLexGreatest (F n) y
  root-exists n x p =
      let g = greatest-exists (F n) (family.listed n).0 (family.listed n).1 (F n) (λ z. by_listed z) x p p in
      (g.0, record { member = g.1.member.0; greatest = λ z h. g.1.greatest z (h, h) })
    where
      by_listed : (z : List ℕ) → F n z ⊎ ¬ F n z
      by_listed z = elim (class-decided (F n) (family.listed n).0 (family.listed n).1 z z) [
        | inl s ↦ inl (class-start (F n) z z s)
        | inr none ↦ inr (λ h. none (class-here (F n) z h))
      ]

  -- the greatest vector of the class of a vector
  pub top-exists : (n : I) (x : List ℕ) → F n x → (y : List ℕ) × IsLexGreatest (λ z. IsSameClass (F n) x z) y
  top-exists n x p =
      let g = greatest-exists (F n) (family.listed n).0 (family.listed n).1 (λ z. IsSameClass (F n) x z)
      (class-decided (F n) (family.listed n).0 (family.listed n).1 x) x p (class-here (F n) x p) in
      (g.0, record { member = g.1.member.1; greatest = λ z h. g.1.greatest z (class-end (F n) x z h, h) })

  module _ (IsLess : I → I → Type 0) (P : List (Relation I)) (canonical : IsCanonical IsLess F P) where
    pub canonical-relations : AreRelations F P
    canonical-relations r c =
        let h = canonical.canonical r c in
        (h.left.member, class-end (F r.value) r.right r.right h.right.member)

    -- a vector is in the class of one that the greatest vector is joined with
    to_root : (n : I) (root x : List ℕ) → IsLexGreatest (F n) root → F n x → (a : List ℕ) × IsSameClass (F n) x a × AreJoined P root a
    to_root n root x g p = elim (class-decided (F n) (family.listed n).0 (family.listed n).1 root x) [
      | inl same ↦ (root, class-back (F n) root x same, steps-here P root)
      | inr apart ↦
          let top = top-exists n x p in
          let r : Relation I = record { value = n; left = root; right = top.0 } in
          let s = top.1.member in
          let c : Contains P r = canonical.whole r (record {
            left = g;
            right = greatest-of_class (F n) x top.0 s top.1;
            apart = λ h. apart (class-then (F n) root top.0 x h (class-back (F n) x top.0 s));
          }) in
          let f = canonical-relations r c in
          (top.0, s, relation-joined P r c (family.places n root f.0 ∙ sym (family.places n top.0 f.1)))
    ]

    cross : (n : I) (x y : List ℕ) → F n x → F n y → ¬ IsSameClass (F n) x y → Crosses (F n) (AreJoined P) x y
    cross n x y p q apart =
        let root = root-exists n x p in
        let a = to_root n root.0 x root.1 p in
        let b = to_root n root.0 y root.1 q in
        (a.0, b.0, a.1, steps-then P a.0 root.0 b.0 (steps-back P root.0 a.0 a.2) b.2, class-back (F n) y b.0 b.1)

    pub canonical-presents : Presents F P
    canonical-presents = class-induction F size k family (λ _. AreJoined P) (λ _ x _. steps-here P x) (λ _. steps-then P)
        (λ _ _ i _ _ x y _ _ j. joined-raise P x y i j) cross

    -- ---- none is spare

    same_root : (r s : Relation I) → Contains P r → Contains P s → r.value ≡ s.value → r.left ≡ s.left
    same_root r s c e f =
        let g = canonical.canonical r c in
        let h = canonical.canonical s e in
        let g' : IsLexGreatest (F s.value) r.left = subst (λ n. IsLexGreatest (F n) r.left) f g.left in
        one-greatest (F s.value) r.left s.left (family.places s.value r.left g'.member ∙ sym (family.places s.value s.left h.left.member)) g' h.left

    same_right : (r s : Relation I) → Contains P r → Contains P s → r.value ≡ s.value → IsSameClass (F s.value) r.right s.right → r.right ≡ s.right
    same_right r s c e f j =
        let V = F s.value in
        let g : IsLexGreatest (λ z. IsSameClass V r.right z) r.right = subst (λ n. IsLexGreatest (λ z. IsSameClass (F n) r.right z) r.right) f (canonical.canonical r c).right in
        let h = (canonical.canonical s e).right in
        let h' : IsLexGreatest (λ z. IsSameClass V r.right z) s.right =
        record { member = j; greatest = λ z i. h.greatest z (class-then V s.right r.right z (class-back V r.right s.right j) i) } in
        let len = family.places s.value r.right (class-start V r.right s.right j) ∙ sym (family.places s.value s.right (class-end V r.right s.right j)) in
        one-greatest (λ z. IsSameClass V r.right z) r.right s.right len g h'

    pub canonical-none_spare : ((n : I) → IsLess n n → ⊥) → IsNoneSpare F P
    canonical-none_spare strict = none-spare F size k family P (record {
      relations = canonical-relations;
      rooted = λ r s c e f j. (canonical.canonical s e).apart (subst (λ v. IsSameClass (F s.value) v s.right) (same_root r s c e f) j);
      distinct = distinct;
    })
      where
        ordered-apart : (i j : ℕ) (r s : Relation I) → i < j → j < length P → get_or P i r ≡ r → get_or P j s ≡ s → r.value ≡ s.value → r.right ≡ s.right → ⊥
        ordered-apart i j r s less inside a b f g =
            let o = canonical.ordered i j r less inside in
            let at : get_or P j r ≡ s = get_or_default P j r s inside ∙ b in
            let here : IsLess r.value s.value ⊎ ((r.value ≡ s.value) × IsLexBelow s.right r.right) =
            subst (λ t. IsLess r.value t.value ⊎ ((r.value ≡ t.value) × IsLexBelow t.right r.right)) at
            (subst (λ t. IsLess t.value (get_or P j r).value ⊎ ((t.value ≡ (get_or P j r).value) × IsLexBelow (get_or P j r).right t.right)) a o) in
            elim here [
              | inl lesser ↦ strict s.value (subst (λ n. IsLess n s.value) f lesser)
              | inr below ↦ lex-irreflexive s.right (subst (IsLexBelow s.right) g below.1)
            ]

        distinct : (i j : ℕ) (r s : Relation I) → i < length P → j < length P → get_or P i r ≡ r → get_or P j s ≡ s → i ≢ j →
            r.value ≡ s.value → IsSameClass (F s.value) r.right s.right → ⊥
        distinct i j r s li lj a b other f class =
            let g = same_right r s (i, li, a) (j, lj, b) f class in
            elim (cases_order i j) [
              | inl same ↦ other same
              | inr apart ↦ elim apart [
                | inl less ↦ ordered-apart i j r s less lj a b f g
                | inr more ↦ ordered-apart j i s r more li b a (sym f) (sym g)
              ]
            ]

-- the order of the canonical list
abbrev pub IsBefore : {I : Type 0} → (I → I → Type 0) → Relation I → Relation I → Type 0
IsBefore IsLess r s = IsLess r.value s.value ⊎ ((r.value ≡ s.value) × IsLexBelow s.right r.right)

before-apart : {I : Type 0} (IsLess : I → I → Type 0) → ((n m : I) → IsLess n m → IsLess m n → ⊥) → (r s : Relation I) → IsBefore IsLess r s → IsBefore IsLess s r → ⊥
before-apart IsLess strict r s (inl a) (inl b) = strict r.value s.value a b
before-apart IsLess strict r s (inl a) (inr b) = let h : IsLess r.value r.value = subst (IsLess r.value) b.0 a in strict r.value r.value h h
before-apart IsLess strict r s (inr a) (inl b) = let h : IsLess s.value s.value = subst (IsLess s.value) a.0 b in strict s.value s.value h h
before-apart IsLess strict r s (inr a) (inr b) = lex-irreflexive r.right (lex-then r.right s.right r.right b.1 a.1)

-- one canonical list at most
pub one-canonical : {I : Type 0} (F : I → List ℕ → Type 0) (IsLess : I → I → Type 0) → ((n m : I) → IsLess n m → IsLess m n → ⊥) →
    (P Q : List (Relation I)) → IsCanonical IsLess F P → IsCanonical IsLess F Q → P ≡ Q
one-canonical F IsLess strict P Q p q =
    same-lists (IsBefore IsLess) (before-apart IsLess strict) P Q p.ordered q.ordered (λ r c. q.whole r (p.canonical r c)) (λ r c. p.whole r (q.canonical r c))
