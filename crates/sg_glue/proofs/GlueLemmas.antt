-- The gluing with a given left part: one, or none.
use Rattle.std.proofs.Common.{◌≡◌, ℕ, zero, suc, ◌*◌, ◌/◌, ◌<◌, ◌≤◌, ◌^◌, List, [], ◌∷◌, ◌++◌, length, get_or, refl, sym, ap, subst, ◌∙◌, inl, inr, arith}
use Rattle.std.specs.Prelude.{◌⊎◌, ◌↔◌, All, Contains}
use Rattle.std.specs.Int.{◌∣◌, IsGcd}
use Rattle.std.specs.List.Sorted.{IsStrictlyIncreasing}
use Rattle.std.proofs.Math.Nat.{mul_comm, one-dvd, pos_of_dvd_of_pos, eq-zero_of_zero-dvd}
use Rattle.std.proofs.lemmas.Bool.{cases_eq}
use Rattle.std.proofs.lemmas.List.{append-nil}
use Rattle.std.proofs.lemmas.List.Elements.{Contains-get_or, All-contains}
use Rattle.std.proofs.lemmas.Nat.Gcd.{le_of_dvd, dvd_antisymm, dvd_trans}
use Rattle.sg_defs.specs.Membership.{IsMember, IsNumericalSemigroup}
use Rattle.sg_nat.specs.Arithmetic.{IsLcm}
use Rattle.sg_nat.proofs.LcmLemmas.{IsLcm-by_gcd, same_from_IsLcm}
use Rattle.sg_classes.proofs.GeneratorLemmas.{entry-positive, place-contains}
use Rattle.sg_classes.proofs.OneListLemmas.{same-increasing}
use Rattle.sg_glue.specs.Gluings.{Split, IsGcdOf, AreParts, IsGluing, IsChosen, IsSide, IsMet, AddsGluing}
use Rattle.sg_glue.proofs.PairLemmas.{contains-head, contains-tail}

-- a list has a number or not
pub contained-or_not : (xs : List ℕ) (x : ℕ) → Contains xs x ⊎ (Contains xs x → ⊥)
contained-or_not [] x = inr (λ h. omega (arith, h.1))
contained-or_not (y ∷ xs) x = elim (cases_eq y x) [
  | inl same ↦ inl (0, omega arith, same)
  | inr other ↦ elim (contained-or_not xs x) [
    | inl later ↦ inl (contains-tail y xs x later)
    | inr not ↦ inr (λ h. nowhere other not h.0 h.1 h.2)
  ]
]
  where
    nowhere : ((y ≡ x) → ⊥) → (Contains xs x → ⊥) → (k : ℕ) → k < length (y ∷ xs) → get_or (y ∷ xs) k x ≡ x → ⊥
    nowhere other not zero l e = other e
    nowhere other not (suc k) l e = not (k, omega (arith, l), e)

-- a list has one greatest common divisor
pub one-gcd : (A : List ℕ) (d e : ℕ) → IsGcdOf A d → IsGcdOf A e → d ≡ e
one-gcd A d e g h = dvd_antisymm (h.greatest d g.divides) (g.greatest e h.divides)

pub split-same : (s t : Split) → s.left ≡ t.left → s.right ≡ t.right → s.d_left ≡ t.d_left → s.d_right ≡ t.d_right → s ≡ t
split-same s t a b c d =
    let p : s ≡ record { left = t.left; right = s.right; d_left = s.d_left; d_right = s.d_right } = ap (λ l. record { left = l; right = s.right; d_left = s.d_left; d_right = s.d_right }) a in
    let q : record { left = t.left; right = s.right; d_left = s.d_left; d_right = s.d_right } ≡ record { left = t.left; right = t.right; d_left = s.d_left; d_right = s.d_right } = ap (λ l. record { left = t.left; right = l; d_left = s.d_left; d_right = s.d_right }) b in
    let r : record { left = t.left; right = t.right; d_left = s.d_left; d_right = s.d_right } ≡ record { left = t.left; right = t.right; d_left = t.d_left; d_right = s.d_right } = ap (λ n. record { left = t.left; right = t.right; d_left = n; d_right = s.d_right }) c in
    let u : record { left = t.left; right = t.right; d_left = t.d_left; d_right = s.d_right } ≡ t = ap (λ n. record { left = t.left; right = t.right; d_left = t.d_left; d_right = n }) d in
    p ∙ q ∙ r ∙ u

-- the entries of G that are not in A
abbrev pub AreOthers : List ℕ → List ℕ → List ℕ → Type 0
AreOthers G A B = (g : ℕ) → Contains B g ↔ (Contains G g × (Contains A g → ⊥))

-- a part of the generators with its greatest common divisor
pub side : (G A : List ℕ) (d : ℕ) → IsNumericalSemigroup G → All (λ g. g < 2 ^ 62) G → ((g : ℕ) → Contains A g → Contains G g) → 0 < length A → IsGcdOf A d → IsSide A d
side G A d s small among some g =
    let first : 0 < get_or A 0 0 = entry-positive G s (get_or A 0 0) (among (get_or A 0 0) (place-contains A 0 some)) in
    let low : get_or A 0 0 < 2 ^ 62 = All-contains (λ g. g < 2 ^ 62) G (get_or A 0 0) small (among (get_or A 0 0) (place-contains A 0 some)) in
    let divides : d ∣ get_or A 0 0 = g.divides 0 0 some in
    record {
      positive = λ k e l. entry-positive G s (get_or A k e) (among (get_or A k e) (Contains-get_or A k e l));
      divisor = g;
      nonzero = pos_of_dvd_of_pos divides first;
      small = omega (arith, low, le_of_dvd first divides);
    }

module _ (G : List ℕ) (s : IsNumericalSemigroup G) (A B : List ℕ) (c : IsChosen G A) (up : IsStrictlyIncreasing B) (others : AreOthers G A B) where
  pub no-others : B ≡ [] → (before : List Split) → AddsGluing G A before before
  no-others empty before = record {
    added = [];
    joined = sym (append-nil before);
    at_most_one = omega arith;
    exactly = λ t. (
      (λ h. absurd (omega (arith, h.1))),
      (λ r. absurd (
          let here : Contains t.right (get_or t.right 0 0) = place-contains t.right 0 r.1.parts.right_not_empty in
          let inside : Contains G (get_or t.right 0 0) = (r.1.parts.all (get_or t.right 0 0)).1 (inr here) in
          let there : Contains B (get_or t.right 0 0) = (others (get_or t.right 0 0)).1 (inside, (λ a. r.1.parts.once (get_or t.right 0 0) (subst (λ l. Contains l (get_or t.right 0 0)) (sym r.0) a) here)) in
          let n : length B ≡ 0 = ap length empty in
          omega (arith, there.1, n))),
    );
  }

  parts : 0 < length B → AreParts G A B
  parts some = record {
    left_ascending = c.ascending;
    right_ascending = up;
    left_not_empty = omega (arith, c.first.1);
    right_not_empty = some;
    all = λ g. (
      (λ h. elim (contained-or_not A g) [
        | inl left ↦ inl left
        | inr not ↦ inr ((others g).1 (h, not))
      ]),
      (λ h. elim h [
        | inl left ↦ c.among g left
        | inr right ↦ ((others g).0 right).0
      ]),
    );
    once = λ g a b. ((others g).0 b).1 a;
    first = c.first;
  }

  module _ (some : 0 < length B) (d e : ℕ) (gd : IsGcdOf A d) (ge : IsGcdOf B e) where
    -- an entry is positive, and so is what divides it
    pub positive : 0 < d
    positive = pos_of_dvd_of_pos (All-contains (λ x. d ∣ x) A (get_or G 0 0) gd.divides c.first) (entry-positive G s (get_or G 0 0) (place-contains G 0 s.not_empty))

    pub coprime : IsGcd d e 1
    coprime = (one-dvd d, one-dvd e, λ n p q. small n (s.coprime n (λ k z l. divides n p q (get_or G k z) (Contains-get_or G k z l))) (λ h. nonzero n p h))
      where
        divides : (n : ℕ) → n ∣ d → n ∣ e → (g : ℕ) → Contains G g → n ∣ g
        divides n p q g h = elim (contained-or_not A g) [
          | inl left ↦ dvd_trans n p (All-contains (λ x. d ∣ x) A g gd.divides left)
          | inr not ↦ dvd_trans n q (All-contains (λ x. e ∣ x) B g ge.divides ((others g).1 (h, not)))
        ]

        nonzero : (n : ℕ) → n ∣ d → n ≡ 0 → ⊥
        nonzero n p h =
            let zero_divides : 0 ∣ d = subst (λ k. k ∣ d) h p in
            omega (arith, positive, eq-zero_of_zero-dvd zero_divides)

        small : (n : ℕ) → n ≤ 1 → (n ≡ 0 → ⊥) → n ∣ 1
        small zero l not = absurd (not refl)
        small (suc zero) l not = one-dvd 1
        small (suc (suc n)) l not = absurd (omega (arith, l))

    pub multiple : IsLcm d e (d * e)
    multiple =
        let one : d / 1 ≡ d = omega arith in
        subst (λ n. IsLcm d e (n * e)) one (IsLcm-by_gcd d e 1 positive coprime)

    abbrev split : Split
    split = record { left = A; right = B; d_left = d; d_right = e }

    glued : IsMet split → IsGluing G split
    glued met = record {
      parts = parts some;
      divisor_left = gd;
      divisor_right = ge;
      multiple = d * e;
      is_multiple = multiple;
      in_left = subst (IsMember A) (mul_comm e d) met.0;
      in_right = met.1;
    }

    same : (t : Split) → t.left ≡ A → IsGluing G t → t ≡ split
    same t l r =
        let right : t.right ≡ B = same-increasing t.right B r.parts.right_ascending up
        (λ x h. (others x).1 ((r.parts.all x).1 (inr h), (λ a. r.parts.once x (subst (λ y. Contains y x) (sym l) a) h)))
        (λ x h.
        let o = (others x).0 h in
        elim ((r.parts.all x).0 o.0) [
          | inl left ↦ absurd (o.1 (subst (λ y. Contains y x) l left))
          | inr here ↦ here
        ]) in
        split-same t split l right
        (one-gcd A t.d_left d (subst (λ y. IsGcdOf y t.d_left) l r.divisor_left) gd)
        (one-gcd B t.d_right e (subst (λ y. IsGcdOf y t.d_right) right r.divisor_right) ge)

    met : IsGluing G split → IsMet split
    met r =
        let m : r.multiple ≡ d * e = same_from_IsLcm d e r.multiple (d * e) r.is_multiple multiple in
        (subst (IsMember A) (m ∙ mul_comm d e) r.in_left, subst (IsMember B) m r.in_right)

    pub adds-one : IsMet split → (before : List Split) → AddsGluing G A before (before ++ split ∷ [])
    adds-one h before = record {
      added = split ∷ [];
      joined = refl;
      at_most_one = omega arith;
      exactly = λ t. (
        (λ p. only t p.0 p.1 p.2),
        (λ r. subst (Contains (split ∷ [])) (sym (same t r.0 r.1)) (contains-head split [])),
      );
    }
      where
        only : (t : Split) → (k : ℕ) → k < length (split ∷ []) → get_or (split ∷ []) k t ≡ t → (t.left ≡ A) × IsGluing G t
        only t zero l e = subst (λ u. (u.left ≡ A) × IsGluing G u) e (refl, glued h)
        only t (suc k) l e = absurd (omega (arith, l))

    pub adds-none : (IsMet split → ⊥) → (before : List Split) → AddsGluing G A before before
    adds-none not before = record {
      added = [];
      joined = sym (append-nil before);
      at_most_one = omega arith;
      exactly = λ t. (
        (λ p. absurd (omega (arith, p.1))),
        (λ r. absurd (not (met (subst (IsGluing G) (same t r.0 r.1) r.1)))),
      );
    }

-- a list that is not empty has an entry
pub not-empty : (l : List ℕ) → (l ≡ [] → ⊥) → 0 < length l
not-empty [] not = absurd (not refl)
not-empty (x ∷ l) not = omega arith
