-- Where each relation reaches a class that no other reaches, none can be left out.
use Rattle.std.proofs.Common.{◌≡◌, ◌≢◌, ℕ, ◌+◌, ◌<◌, List, [], ◌∷◌, length, get_or, replicate, refl, sym, ap, subst, ◌∙◌, inl, inr, arith}
use Rattle.std.specs.Prelude.{⊤, Contains, remove}
use Rattle.std.proofs.lemmas.Bool.{cases_lt}
use Rattle.std.proofs.lemmas.List.{get_or_default}
use Rattle.std.proofs.lemmas.List.Edits.{get_or-remove_below, get_or-remove_above, length-remove}
use Rattle.sg_defs.specs.Vectors.{plus}
use Rattle.sg_nonunique.specs.Walks.{IsWalk}
use Rattle.sg_nonunique.specs.Classes.{IsSameClass}
use Rattle.sg_nonunique.specs.Presentations.{Relation, IsStep, AreJoined, AreRelations, IsNoneSpare}
use Rattle.sg_nonunique.proofs.SumLemmas.{zero_or_positive, plus-positive, plus-zeros}
use Rattle.sg_laws_families.proofs.Families.{IsFamily}
use Rattle.sg_laws_families.proofs.ClassLemmas.{class-here, class-step, class-then}

-- the relations of one element lead from one class to others, each to another one
pub record IsApart {I : Type 0} (F : I → List ℕ → Type 0) (P : List (Relation I)) : Type 0 where
  pub relations : AreRelations F P
  pub rooted : (r s : Relation I) → Contains P r → Contains P s → r.value ≡ s.value → IsSameClass (F s.value) r.left s.right → ⊥
  pub distinct : (j k : ℕ) (r s : Relation I) → j < length P → k < length P → get_or P j r ≡ r → get_or P k s ≡ s → j ≢ k →
      r.value ≡ s.value → IsSameClass (F s.value) r.right s.right → ⊥

module _ {I : Type 0} (F : I → List ℕ → Type 0) (size : I → ℕ) (k : ℕ) (family : IsFamily F size k) (P : List (Relation I)) (apart : IsApart F P)
    (p : ℕ) (s : Relation I) (inside : p < length P) (at : get_or P p s ≡ s) where
  -- what is left when place p is left out stood at another place
  elsewhere : (r : Relation I) → Contains (remove P p) r → (j : ℕ) × (j < length P) × (get_or P j r ≡ r) × (j ≢ p)
  elsewhere r c = elim (cases_lt c.0 p) [
    | inl less ↦ (c.0, omega (arith, c.1, length-remove P p inside), sym (get_or-remove_below P p r c.0 less inside) ∙ c.2, omega arith)
    | inr more ↦ (c.0 + 1, omega (arith, c.1, length-remove P p inside), sym (get_or-remove_above P p r c.0 more inside) ∙ c.2, omega arith)
  ]

  -- a vector of the class of the right side of s
  abbrev Stays : List ℕ → Type 0
  Stays x = F s.value x × IsSameClass (F s.value) x s.right

  -- a step between a + c and b + c, for the two sides of another relation, stays in the class
  side : (m : I) (a b c x y : List ℕ) → F m a → F m b → length c ≡ length a → x ≡ plus a c → y ≡ plus b c →
      (m ≡ s.value → IsSameClass (F s.value) a s.right → ⊥) → Stays x → Stays y
  side m a b c x y fa fb len e f never h =
      let n = s.value in
      let at_x : F n (plus a c) = subst (F n) e h.0 in
      let at_y : F n y = subst (F n) (sym f) (family.moves m n a b c fa fb (len ∙ family.places m a fa) at_x) in
      elim (zero_or_positive c) [
        | inl none ↦
            let here : x ≡ a = e ∙ ap (plus a) (none ∙ ap (λ l. replicate l 0) len) ∙ plus-zeros a in
            absurd (never (family.one_element m n a fa (subst (F n) here h.0)) (subst (λ v. IsSameClass (F n) v s.right) here h.1))
        | inr some ↦
            let in_x : 0 < get_or x some.0 0 = subst (λ v. 0 < get_or v some.0 0) (sym e) (plus-positive a c some.0 (sym len) some.1) in
            let len_b : length b ≡ length c = family.places m b fb ∙ sym (family.places m a fa) ∙ sym len in
            let in_y : 0 < get_or y some.0 0 = subst (λ v. 0 < get_or v some.0 0) (sym f) (plus-positive b c some.0 len_b some.1) in
            (at_y, class-then (F n) y x s.right (class-step (F n) y x at_y h.0 (some.0, in_y, in_x)) h.1)
      ]

  step-stays : (x y : List ℕ) → IsStep (remove P p) x y → Stays x → Stays y
  step-stays x y t h =
      let r = t.relation in
      let j = elsewhere r t.listed in
      let c : Contains P r = (j.0, j.1, j.2) in
      let f = apart.relations r c in
      let listed : Contains P s = (p, inside, at) in
      elim t.step [
        | inl e ↦ side r.value r.left r.right t.rest x y f.0 f.1 t.places e.0 e.1 (λ g. apart.rooted r s c listed g) h
        | inr e ↦ side r.value r.right r.left t.rest x y f.1 f.0 (t.places ∙ family.places r.value r.left f.0 ∙ sym (family.places r.value r.right f.1)) e.0 e.1
            (λ g. apart.distinct j.0 p r s j.1 inside j.2 at j.3 g) h
      ]

  walk-stays : (ps : List (List ℕ)) (x y : List ℕ) → IsWalk (λ _. ⊤) (IsStep (remove P p)) x ps y → Stays x → Stays y
  walk-stays [] x y w h = subst Stays w.1 h
  walk-stays (q ∷ ps) x y w h = walk-stays ps q y w.2 (step-stays x q w.1 h)

  needed-at : AreJoined (remove P p) s.right s.left → ⊥
  needed-at j =
      let listed : Contains P s = (p, inside, at) in
      let f = apart.relations s listed in
      let h = walk-stays j.0 s.right s.left j.1 (f.1, class-here (F s.value) s.right f.1) in
      apart.rooted s s listed listed refl h.1

pub none-spare : {I : Type 0} (F : I → List ℕ → Type 0) (size : I → ℕ) (k : ℕ) → IsFamily F size k → (P : List (Relation I)) → IsApart F P → IsNoneSpare F P
none-spare F size k family [] apart p inside = absurd (omega arith)
none-spare F size k family (r ∷ P) apart p inside =
    let s = get_or (r ∷ P) p r in
    let at : get_or (r ∷ P) p s ≡ s = get_or_default (r ∷ P) p s r inside in
    let f = apart.relations s (p, inside, at) in
    (s.value, s.right, s.left, f.1, f.0, needed-at F size k family (r ∷ P) apart p s inside at)
