-- Whether a walk inside a listed set leads from one item to another is decided: a walk is cut at its last visit of the
-- item that it begins with, and what is left keeps to fewer items.
use Rattle.std.proofs.Common.{◌≡◌, ◌≢◌, ℕ, zero, suc, ◌≤◌, List, [], ◌∷◌, length, refl, sym, subst, ◌∙◌, inl, inr, arith}
use Rattle.std.specs.Prelude.{◌⊎◌, ◌↔◌, Contains}
use Rattle.sg_nonunique.specs.Walks.{IsWalk, IsJoined}
use Rattle.sg_laws_finite.proofs.KeepLemmas.{keep, keep-of, keep-all, keep-shorter}
use Rattle.sg_laws_finite.proofs.SearchLemmas.{some-decided}

both-decided : {P Q : Type 0} → P ⊎ ¬ P → Q ⊎ ¬ Q → (P × Q) ⊎ ¬ (P × Q)
both-decided (inl p) (inl q) = inl (p, q)
both-decided (inl p) (inr n) = inr (λ h. n h.1)
both-decided (inr n) q = inr (λ h. n h.0)

module _ {A : Type 0} (R : A → A → Type 0) where
  -- a walk keeps to a greater set
  pub walk-wider : (V W : A → Type 0) → ((x : A) → V x → W x) → (ps : List A) (x y : A) → IsWalk V R x ps y → IsWalk W R x ps y
  walk-wider V W wider [] x y w = (wider x w.0, w.1)
  walk-wider V W wider (p ∷ ps) x y w = (wider x w.0, w.1, walk-wider V W wider ps p y w.2)

  -- it begins inside
  pub walk-start : (V : A → Type 0) (ps : List A) (x y : A) → IsWalk V R x ps y → V x
  walk-start V [] x y w = w.0
  walk-start V (p ∷ ps) x y w = w.0

  -- after its last visit of u, a walk to another item keeps away from u
  pub last-visit : (V : A → Type 0) (u : A) → ((x : A) → (x ≡ u) ⊎ (x ≢ u)) → (ps : List A) (x y : A) → y ≢ u → IsWalk V R x ps y →
      IsWalk (λ z. V z × (z ≢ u)) R x ps y ⊎ ((p : A) × R u p × IsJoined (λ z. V z × (z ≢ u)) R p y)
  last-visit V u equal [] x y other w = inl ((w.0, λ e. other (sym w.1 ∙ e)), w.1)
  last-visit V u equal (p ∷ ps) x y other w = elim (last-visit V u equal ps p y other w.2) [
    | inr cut ↦ inr cut
    | inl rest ↦ elim (equal x) [
      | inl e ↦ inr (p, subst (λ v. R v p) e w.1, (ps, rest))
      | inr apart ↦ inl ((w.0, apart), w.1, rest)
    ]
  ]

module _ {A : Type 0} (R : A → A → Type 0) (related : (x y : A) → R x y ⊎ ¬ R x y) (equal : (x y : A) → (x ≡ y) ⊎ (x ≢ y)) where
  other_than : (u x : A) → (x ≢ u) ⊎ ¬ (x ≢ u)
  other_than u x = elim (equal x u) [ inl e ↦ inr (λ h. h e) | inr apart ↦ inl apart ]

  -- the items of the list but u
  abbrev without : A → List A → List A
  without u l = keep (λ x. x ≢ u) (other_than u) l

  from_neighbour : (l : List A) (x y p : A) → Contains l x → R x p → IsJoined (Contains (without x l)) R p y → IsJoined (Contains l) R x y
  from_neighbour l x y p there r j =
      (p ∷ j.0, (there, r, walk-wider R (Contains (without x l)) (Contains l) (λ z h. (keep-of (λ v. v ≢ x) (other_than x) l z h).0) j.0 p y j.1))

  to_neighbour : (l : List A) (x y : A) → x ≢ y → IsJoined (Contains l) R x y →
      (p : A) × Contains (without x l) p × R x p × IsJoined (Contains (without x l)) R p y
  to_neighbour l x y apart j = elim (last-visit R (Contains l) x (λ z. equal z x) j.0 x y (λ e. apart (sym e)) j.1) [
    | inl away ↦ absurd ((walk-start R (λ z. Contains l z × (z ≢ x)) j.0 x y away).1 refl)
    | inr cut ↦
        let rest = walk-wider R (λ z. Contains l z × (z ≢ x)) (Contains (without x l)) (λ z h. keep-all (λ v. v ≢ x) (other_than x) l z h.0 h.1) cut.2.0 cut.0 y cut.2.1 in
        (cut.0, walk-start R (Contains (without x l)) cut.2.0 cut.0 y rest, cut.1, (cut.2.0, rest))
  ]

  by_neighbours : (l : List A) (x y : A) → Contains l x → x ≢ y →
      ((p : A) × Contains (without x l) p × (R x p × IsJoined (Contains (without x l)) R p y))
      ⊎ ((p : A) → Contains (without x l) p → R x p × IsJoined (Contains (without x l)) R p y → ⊥) →
      IsJoined (Contains l) R x y ⊎ ¬ IsJoined (Contains l) R x y
  by_neighbours l x y there apart (inl found) = inl (from_neighbour l x y found.0 there found.2.0 found.2.1)
  by_neighbours l x y there apart (inr none) = inr (λ j. let p = to_neighbour l x y apart j in none p.0 p.1 (p.2, p.3))

  fewer : (l : List A) (x : A) (n : ℕ) → Contains l x → length l ≤ suc n → length (without x l) ≤ n
  fewer l x n there short = let s = keep-shorter (λ z. z ≢ x) (other_than x) l x there (λ h. h refl) in omega (arith, s, short)

  within : (n : ℕ) (l : List A) → length l ≤ n → (x y : A) → IsJoined (Contains l) R x y ⊎ ¬ IsJoined (Contains l) R x y
  within zero l short x y = inr (λ j. let h = walk-start R (Contains l) j.0 x y j.1 in omega (arith, h.1, short))
  within (suc n) l short x y = elim (some-decided (λ z. z ≡ x) (λ z. equal z x) l) [
    | inr out ↦ inr (λ j. out x (walk-start R (Contains l) j.0 x y j.1) refl)
    | inl found ↦
        let there : Contains l x = subst (Contains l) found.2 found.1 in
        elim (equal x y) [
          | inl same ↦ inl ([], (there, same))
          | inr apart ↦ by_neighbours l x y there apart (some-decided (λ p. R x p × IsJoined (Contains (without x l)) R p y)
              (λ p. both-decided (related x p) (within n (without x l) (fewer l x n there short) p y)) (without x l))
        ]
  ]

  -- of any two items of a listed set
  pub joined-decided : (V : A → Type 0) (l : List A) → ((x : A) → Contains l x ↔ V x) → (x y : A) → IsJoined V R x y ⊎ ¬ IsJoined V R x y
  joined-decided V l exactly x y = elim (within (length l) l (omega arith) x y) [
    | inl j ↦ inl (j.0, walk-wider R (Contains l) V (λ z h. (exactly z).0 h) j.0 x y j.1)
    | inr none ↦ inr (λ j. none (j.0, walk-wider R V (Contains l) (λ z v. (exactly z).1 v) j.0 x y j.1))
  ]
