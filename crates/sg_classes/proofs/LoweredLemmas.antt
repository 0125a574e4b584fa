-- Entries that are lowered to listed numbers of their classes.
use Rattle.std.proofs.Common.{◌≡◌, ℕ, ◌+◌, ◌%◌, ◌<◌, ◌≤◌, List, ◌++◌, length, get_or, take, drop, set, min, refl, sym, ap, subst, ◌∙◌, inl, inr, arith}
use Rattle.std.specs.Prelude.{◌⊎◌}
use Rattle.std.proofs.lemmas.Bool.{cases_lt, cases_eq}
use Rattle.std.proofs.lemmas.Nat.{mod_below}
use Rattle.std.proofs.Math.Seq.{take-append_seam}
use Rattle.std.proofs.lemmas.List.{length-set, get_or-set_same, get_or-set_other}
use Rattle.sg_classes.specs.Classes.{IsLoweredBy}

-- one more number that lowers the entry of its class
pub lowered-more : (list old now : List ℕ) (k c : ℕ) → 0 < length old → c ≡ get_or list k 0 % length old → IsLoweredBy list old now k →
    IsLoweredBy list old (set now c (min (get_or now c 0) (get_or list k 0))) (k + 1)
lowered-more list old now k c positive e h = record {
  long = length-set now c (min (get_or now c 0) (get_or list k 0)) ∙ h.long;
  entries = entries;
  down = down;
  listed = listed;
}
  where
    v : ℕ
    v = min (get_or now c 0) (get_or list k 0)

    inside : c < length old
    inside = omega (arith, e, mod_below (get_or list k 0) (length old) positive)

    here : get_or (set now c (min (get_or now c 0) (get_or list k 0))) c 0 ≡ min (get_or now c 0) (get_or list k 0)
    here = get_or-set_same now c (min (get_or now c 0) (get_or list k 0)) 0 (omega (arith, inside, h.long))

    there : (i : ℕ) → (i ≡ c → ⊥) → get_or (set now c (min (get_or now c 0) (get_or list k 0))) i 0 ≡ get_or now i 0
    there i other = get_or-set_other now c i (min (get_or now c 0) (get_or list k 0)) 0 other

    before : (i : ℕ) → i < length old → (get_or now i 0 ≡ get_or old i 0) ⊎ ((j : ℕ) × (j < k + 1) × (get_or now i 0 ≡ get_or list j 0) × (get_or list j 0 % length old ≡ i))
    before i l = elim (h.entries i l) [
      | inl same ↦ inl same
      | inr p ↦ inr (p.0, omega (arith, p.1), p.2, p.3)
    ]

    entries : (i : ℕ) → i < length old → (get_or (set now c (min (get_or now c 0) (get_or list k 0))) i 0 ≡ get_or old i 0) ⊎
        ((j : ℕ) × (j < k + 1) × (get_or (set now c (min (get_or now c 0) (get_or list k 0))) i 0 ≡ get_or list j 0) × (get_or list j 0 % length old ≡ i))
    entries i l = elim (cases_eq i c) [
      | inr other ↦ elim (before i l) [
        | inl same ↦ inl (there i other ∙ same)
        | inr p ↦ inr (p.0, p.1, there i other ∙ p.2, p.3)
      ]
      | inl f ↦ elim (cases_lt (get_or list k 0) (get_or now c 0)) [
        | inl less ↦ inr (k, omega arith, ap (λ j. get_or (set now c (min (get_or now c 0) (get_or list k 0))) j 0) f ∙ omega (arith, here), sym e ∙ sym f)
        | inr more ↦
            let g : get_or (set now c (min (get_or now c 0) (get_or list k 0))) i 0 ≡ get_or now i 0 =
            ap (λ j. get_or (set now c (min (get_or now c 0) (get_or list k 0))) j 0) f ∙ omega (arith, here, ap (λ j. get_or now j 0) f) in
            elim (before i l) [
              | inl same ↦ inl (g ∙ same)
              | inr p ↦ inr (p.0, p.1, g ∙ p.2, p.3)
            ]
      ]
    ]

    lower : (i : ℕ) → get_or (set now c (min (get_or now c 0) (get_or list k 0))) i 0 ≤ get_or now i 0
    lower i = elim (cases_eq i c) [
      | inr other ↦ omega (arith, there i other)
      | inl f ↦ omega (arith, here, ap (λ j. get_or now j 0) f, ap (λ j. get_or (set now c (min (get_or now c 0) (get_or list k 0))) j 0) f)
    ]

    down : (i : ℕ) → i < length old → get_or (set now c (min (get_or now c 0) (get_or list k 0))) i 0 ≤ get_or old i 0
    down i l = omega (arith, lower i, h.down i l)

    listed : (j : ℕ) → j < k + 1 → get_or (set now c (min (get_or now c 0) (get_or list k 0))) (get_or list j 0 % length old) 0 ≤ get_or list j 0
    listed j l = elim (cases_lt j k) [
      | inl less ↦ omega (arith, lower (get_or list j 0 % length old), h.listed j less)
      | inr last ↦
          let f : k ≡ j = omega arith in
          subst (λ j. get_or (set now c (min (get_or now c 0) (get_or list k 0))) (get_or list j 0 % length old) 0 ≤ get_or list j 0) f
          (subst (λ d. get_or (set now c (min (get_or now c 0) (get_or list k 0))) d 0 ≤ get_or list k 0) e (omega (arith, here)))
    ]

pub lowered-none : (list old : List ℕ) → IsLoweredBy list old old 0
lowered-none list old = record {
  long = refl;
  entries = λ i l. inl refl;
  down = λ i l. omega arith;
  listed = λ j l. absurd (omega arith);
}

-- what stands in a vector after a slice of its whole length was written back
pub writes-back : (xs ys : List ℕ) (n : ℕ) → n ≡ length xs → take n (xs ++ drop (length xs) ys) ≡ xs
writes-back xs ys n e = ap (λ k. take k (xs ++ drop (length xs) ys)) e ∙ take-append_seam xs (drop (length xs) ys)
