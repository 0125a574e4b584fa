-- The canonical list is there where the elements with two classes are listed: at each of them the greatest vectors of its
-- classes stand behind the greatest vector of all.
use Rattle.std.proofs.Common.{◌≡◌, ℕ, List, [], ◌∷◌, ◌++◌, map, refl, sym, ap, subst, ◌∙◌, inl, inr, arith}
use Rattle.std.specs.Prelude.{◌⊎◌, ◌↔◌, AllPairs, Contains}
use Rattle.std.proofs.lemmas.List.Elements.{Contains-append_left, Contains-append_right, Contains-append_cases}
use Rattle.std.proofs.lemmas.Bool.{cases_order}
use Rattle.sg_defs.specs.Vectors.{IsLexBelow, ListsDescending}
use Rattle.sg_defs.proofs.ListLemmas.{contains-cases}
use Rattle.sg_nonunique.specs.Classes.{IsSameClass, HasTwoClasses}
use Rattle.sg_nonunique.specs.Presentations.{Relation, IsLexGreatest, IsCanonicalRelation, IsCanonical}
use Rattle.sg_laws_finite.proofs.ElementLemmas.{contains-nil, here, later, contains-map, from-map, pairs-nil, pairs-first, pairs-tail, pairs-append, pairs-map}
use Rattle.sg_laws_finite.proofs.KeepLemmas.{keep, keep-pairs, keep-exactly}
use Rattle.sg_laws_finite.proofs.SearchLemmas.{each-decided}
use Rattle.sg_laws_finite.proofs.SetLemmas.{class-decided, greatest-first}
use Rattle.sg_laws_families.proofs.Families.{IsFamily}
use Rattle.sg_laws_families.proofs.CanonicalLemmas.{IsBefore, one-greatest}
use Rattle.sg_laws_families.proofs.ClassLemmas.{class-end}

-- whether the one vector is below the other is decided where they are of one length
lex-decided : (x y : List ℕ) → IsLexBelow x y ⊎ ¬ IsLexBelow x y
lex-decided [] y = inr (λ h. h)
lex-decided (a ∷ x) [] = inr (λ h. h)
lex-decided (a ∷ x) (b ∷ y) = elim (cases_order a b) [
  | inl same ↦ elim (lex-decided x y) [
    | inl below ↦ inl (inr (same, below))
    | inr not ↦ inr (λ h. elim h [ inl less ↦ omega arith | inr rest ↦ not rest.1 ])
  ]
  | inr differ ↦ elim differ [
    | inl less ↦ inl (inl less)
    | inr more ↦ inr (λ h. elim h [ inl less ↦ omega arith | inr rest ↦ omega (arith, rest.0, more) ])
  ]
]

module _ {I : Type 0} (F : I → List ℕ → Type 0) (size : I → ℕ) (k : ℕ) (family : IsFamily F size k) (IsLess : I → I → Type 0) where
  -- the greatest vector of another class than that of the root
  abbrev IsRight : I → List ℕ → List ℕ → Type 0
  IsRight n root w = (¬ IsSameClass (F n) root w) × IsLexGreatest (λ z. IsSameClass (F n) w z) w

  right-decided : (n : I) (root w : List ℕ) → IsRight n root w ⊎ ¬ IsRight n root w
  right-decided n root w =
      let l = (family.listed n).0 in
      let lists = (family.listed n).1 in
      elim (class-decided (F n) l lists root w) [
        | inl same ↦ inr (λ h. h.0 same)
        | inr apart ↦ elim (class-decided (F n) l lists w w) [
          | inr out ↦ inr (λ h. out h.1.member)
          | inl inside ↦ elim (each-decided (λ z. IsSameClass (F n) w z → IsLexBelow w z → ⊥) (λ z. not_both (class-decided (F n) l lists w z) (lex-decided w z)) l) [
            | inl all ↦ inl (apart, record { member = inside; greatest = λ z s. all z ((lists.exactly z).1 (class-end (F n) w z s)) s })
            | inr found ↦ inr (λ h. found.2 (λ s b. h.1.greatest found.0 s b))
          ]
        ]
      ]
    where
      not_both : {P Q : Type 0} → P ⊎ ¬ P → Q ⊎ ¬ Q → (P → Q → ⊥) ⊎ ¬ (P → Q → ⊥)
      not_both (inl p) (inl q) = inr (λ h. h p q)
      not_both (inl p) (inr n) = inl (λ p q. n q)
      not_both (inr n) d = inl (λ p q. n p)

  abbrev relation_of : I → List ℕ → List ℕ → Relation I
  relation_of n root w = record { value = n; left = root; right = w }

  relation-same : (r : Relation I) (n : I) (root : List ℕ) → r.value ≡ n → r.left ≡ root → relation_of n root r.right ≡ r
  relation-same r n root e f =
      let a : relation_of n root r.right ≡ relation_of r.value root r.right = ap (λ m. relation_of m root r.right) (sym e) in
      let b : relation_of r.value root r.right ≡ r = ap (λ v. relation_of r.value v r.right) (sym f) in
      a ∙ b

  -- the relations of one element
  at_element : (n : I) → (P : List (Relation I)) × AllPairs (IsBefore IsLess) P × ((r : Relation I) → Contains P r ↔ ((r.value ≡ n) × IsCanonicalRelation F r))
  at_element n = from_list (family.listed n).0 (family.listed n).1
    where
      from_list : (l : List (List ℕ)) → ListsDescending (F n) l →
          (P : List (Relation I)) × AllPairs (IsBefore IsLess) P × ((r : Relation I) → Contains P r ↔ ((r.value ≡ n) × IsCanonicalRelation F r))
      from_list [] lists = (
        [],
        pairs-nil (IsBefore IsLess),
        λ r. (
          (λ h. absurd (contains-nil r h)),
          (λ h. absurd (contains-nil r.left ((lists.exactly r.left).1 (subst (λ m. F m r.left) h.0 h.1.left.member)))),
        ),
      )
      from_list (root ∷ l) lists =
          let Q = IsRight n root in
          let rights = keep Q (right-decided n root) (root ∷ l) in
          let exactly = keep-exactly Q (right-decided n root) (F n) (root ∷ l) lists.exactly in
          let top = greatest-first (F n) root l lists in (
            map (relation_of n root) rights,
            pairs-map (λ x y. IsLexBelow y x) (IsBefore IsLess) (relation_of n root) (λ x y b. inr (refl, b)) rights
                (keep-pairs Q (right-decided n root) (λ x y. IsLexBelow y x) (root ∷ l) lists.descending),
            λ r. (
              (λ h.
                  let p = from-map (relation_of n root) rights r h in
                  let q = (exactly p.0).0 p.2 in
                  subst (λ t. (t.value ≡ n) × IsCanonicalRelation F t) (sym p.1) (refl, record { left = top; right = q.1.1; apart = q.1.0 })),
              (λ h. into root l top rights exactly r h.0 h.1),
            ),
          )
        where
          into : (root : List ℕ) (l : List (List ℕ)) → IsLexGreatest (F n) root → (rights : List (List ℕ)) → ((z : List ℕ) → Contains rights z ↔ (F n z × IsRight n root z)) →
              (r : Relation I) → r.value ≡ n → IsCanonicalRelation F r → Contains (map (relation_of n root) rights) r
          into root l top rights exactly r e c =
              let left : IsLexGreatest (F n) r.left = subst (λ m. IsLexGreatest (F m) r.left) e c.left in
              let right : IsLexGreatest (λ z. IsSameClass (F n) r.right z) r.right = subst (λ m. IsLexGreatest (λ z. IsSameClass (F m) r.right z) r.right) e c.right in
              let apart : ¬ IsSameClass (F n) r.left r.right = subst (λ m. ¬ IsSameClass (F m) r.left r.right) e c.apart in
              let is_root : r.left ≡ root = one-greatest (F n) r.left root (family.places n r.left left.member ∙ sym (family.places n root top.member)) left top in
              let inside = (exactly r.right).1 (class-end (F n) r.right r.right right.member, (subst (λ v. ¬ IsSameClass (F n) v r.right) is_root apart, right)) in
              subst (Contains (map (relation_of n root) rights)) (relation-same r n root e is_root) (contains-map (relation_of n root) rights r.right inside)

  -- the relations of listed elements
  gather : (ns : List I) → AllPairs IsLess ns →
      (P : List (Relation I)) × AllPairs (IsBefore IsLess) P × ((r : Relation I) → Contains P r ↔ (Contains ns r.value × IsCanonicalRelation F r))
  gather [] ordered = ([], pairs-nil (IsBefore IsLess), λ r. ((λ h. absurd (contains-nil r h)), (λ h. absurd (contains-nil r.value h.0))))
  gather (n ∷ ns) ordered =
      let one = at_element n in
      let rest = gather ns (pairs-tail IsLess n ns ordered) in (
        one.0 ++ rest.0,
        pairs-append (IsBefore IsLess) one.0 rest.0 one.1 rest.1
            (λ r s h j. inl (subst (λ m. IsLess m s.value) (sym ((one.2 r).0 h).0) (pairs-first IsLess n ns ordered s.value ((rest.2 s).0 j).0))),
        λ r. (
          (λ h. elim (Contains-append_cases one.0 rest.0 r h) [
            | inl first ↦ let p = (one.2 r).0 first in (subst (Contains (n ∷ ns)) (sym p.0) (here n ns), p.1)
            | inr behind ↦ let p = (rest.2 r).0 behind in (later n ns r.value p.0, p.1)
          ]),
          (λ h. elim (contains-cases n ns r.value h.0) [
            | inl e ↦ Contains-append_left one.0 rest.0 r ((one.2 r).1 (sym e, h.1))
            | inr behind ↦ Contains-append_right one.0 rest.0 r ((rest.2 r).1 (behind, h.1))
          ]),
        ),
      )

  -- the elements with two classes are among those listed
  pub canonical-exists : (ns : List I) → AllPairs IsLess ns → ((n : I) → HasTwoClasses (F n) → Contains ns n) → (P : List (Relation I)) × IsCanonical IsLess F P
  canonical-exists ns ordered all =
      let p = gather ns ordered in (
        p.0,
        record {
          ordered = p.1;
          canonical = λ r c. ((p.2 r).0 c).1;
          whole = λ r h. (p.2 r).1 (all r.value (r.left, r.right, h.left.member, class-end (F r.value) r.right r.right h.right.member, h.apart), h);
        },
      )
