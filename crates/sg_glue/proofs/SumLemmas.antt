-- Sums of multiples, part by part and sum by sum.
use Rattle.std.proofs.Common.{◌≡◌, ◌≢◌, ℕ, zero, suc, ◌+◌, ◌-◌, ◌<◌, ◌≤◌, ◌↔◌, Bool, true, false, List, [], ◌∷◌, length, get_or, drop, set, refl, sym, ap, subst, ◌∙◌, inl, inr, arith}
use Rattle.std.specs.Prelude.{◌⊎◌}
use Rattle.std.proofs.lemmas.Bool.{cases_eq}
use Rattle.std.proofs.lemmas.List.{length-set, get_or-set_same, get_or-set_other}
use Rattle.std.proofs.Math.Seq.{drop-cons}
use Rattle.sg_defs.specs.Membership.{IsMember}
use Rattle.sg_glue.specs.Sums.{TellsSums}

-- with one part more: without it, or once less
sum-cases : (D : List ℕ) (g x : ℕ) → IsMember (g ∷ D) x → IsMember D x ⊎ ((g ≤ x) × IsMember (g ∷ D) (x - g))
sum-cases D g x ([], f) = absurd (omega (arith, f.places))
sum-cases D g x (zero ∷ z, f) = inl (z, record { places = omega (arith, f.places); value = omega (arith, f.value) })
sum-cases D g x (suc c ∷ z, f) = inr (omega (arith, f.value), (c ∷ z, record { places = f.places; value = omega (arith, f.value) }))

-- back: without it
sum-without : (D : List ℕ) (g x : ℕ) → IsMember D x → IsMember (g ∷ D) x
sum-without D g x (z, f) = (0 ∷ z, record { places = ap suc f.places; value = omega (arith, f.value) })

-- and once more
sum-with : (D : List ℕ) (g x : ℕ) → g ≤ x → IsMember (g ∷ D) (x - g) → IsMember (g ∷ D) x
sum-with D g x fits ([], f) = absurd (omega (arith, f.places))
sum-with D g x fits (c ∷ z, f) = (suc c ∷ z, record { places = f.places; value = omega (arith, f.value) })

-- entries below x know the new part, the others do not
pub record TellsSumsUpTo (D : List ℕ) (g : ℕ) (t : List Bool) (x : ℕ) : Type 0 where
  pub done : (y : ℕ) → y < x → y < length t → (get_or t y false ≡ true) ↔ IsMember (g ∷ D) y
  pub waiting : (y : ℕ) → x ≤ y → y < length t → (get_or t y false ≡ true) ↔ IsMember D y

-- no sum below the part has it
pub sums-first : (D : List ℕ) (g : ℕ) (t : List Bool) → TellsSums D t → TellsSumsUpTo D g t g
sums-first D g t h = record {
  done = λ y l inside. (
    (λ e. sum-without D g y ((h.each y inside).0 e)),
    (λ s. elim (sum-cases D g y s) [ inl without ↦ (h.each y inside).1 without | inr with ↦ absurd (omega (arith, with.0, l)) ]),
  );
  waiting = λ y l inside. h.each y inside;
}

-- one entry more, which is marked or stays
pub sums-next : (D : List ℕ) (g : ℕ) (t new : List Bool) (x : ℕ) → 0 < g → g ≤ x → x < length t → TellsSumsUpTo D g t x →
    ((get_or t (x - g) false ≡ true) × (new ≡ set t x true)) ⊎ ((get_or t (x - g) false ≡ true → ⊥) × (new ≡ t)) → TellsSumsUpTo D g new (x + 1)
sums-next D g t new x positive fits inside h step = record {
  done = λ y l inside_y. elim (cases_eq y x) [
    | inl same ↦ subst (λ k. (get_or new k false ≡ true) ↔ IsMember (g ∷ D) k) (sym same) here
    | inr other ↦ subst (λ b. (b ≡ true) ↔ IsMember (g ∷ D) y) (sym (kept y other)) (h.done y (omega (arith, l, other)) (omega (arith, long, inside_y)))
  ];
  waiting = λ y l inside_y. subst (λ b. (b ≡ true) ↔ IsMember D y) (sym (kept y (λ e. omega (arith, e, l)))) (h.waiting y (omega (arith, l)) (omega (arith, long, inside_y)));
}
  where
    long : length new ≡ length t
    long = elim step [ inl s ↦ ap length s.1 ∙ length-set t x true | inr s ↦ ap length s.1 ]

    kept : (y : ℕ) → y ≢ x → get_or new y false ≡ get_or t y false
    kept y other = elim step [
      | inl s ↦ ap (λ k. get_or k y false) s.1 ∙ get_or-set_other t x y true false other
      | inr s ↦ ap (λ k. get_or k y false) s.1
    ]

    before : (get_or t (x - g) false ≡ true) ↔ IsMember (g ∷ D) (x - g)
    before = h.done (x - g) (omega (arith, positive, fits)) (omega (arith, inside))

    now : (get_or t x false ≡ true) ↔ IsMember D x
    now = h.waiting x (omega arith) inside

    here : (get_or new x false ≡ true) ↔ IsMember (g ∷ D) x
    here = elim step [
      | inl s ↦ (
        (λ e. sum-with D g x fits (before.0 s.0)),
        (λ m. ap (λ k. get_or k x false) s.1 ∙ get_or-set_same t x true false inside),
      )
      | inr s ↦ (
        (λ e. sum-without D g x (now.0 (sym (ap (λ k. get_or k x false) s.1) ∙ e))),
        (λ m. elim (sum-cases D g x m) [
          | inl without ↦ ap (λ k. get_or k x false) s.1 ∙ now.1 without
          | inr with ↦ absurd (s.0 (before.1 with.1))
        ]),
      )
    ]

-- at the end all know it
pub sums-last : (D : List ℕ) (g : ℕ) (t : List Bool) (x : ℕ) → length t ≤ x → TellsSumsUpTo D g t x → TellsSums (g ∷ D) t
sums-last D g t x far h = record { each = λ y inside. h.done y (omega (arith, far, inside)) inside }

-- what stands from a place on, and what stands at it
pub from-place : (xs : List ℕ) (count : ℕ) → count < length xs →
    drop (length xs - (count + 1)) xs ≡ get_or xs (length xs - 1 - count) 0 ∷ drop (length xs - count) xs
from-place xs count l =
    let k = length xs - 1 - count in
    let e : length xs - (count + 1) ≡ k = omega arith in
    let f : suc k ≡ length xs - count = omega arith in
    ap (λ i. drop i xs) e ∙ drop-cons xs k 0 (omega arith) ∙ ap (λ i. get_or xs k 0 ∷ drop i xs) f

-- of no parts 0 is the only sum
pub sums-none : (t : List Bool) → 0 < length t → ((x : ℕ) → x < length t → get_or t x false ≡ false) → TellsSums [] (set t 0 true)
sums-none t some empty = record {
  each = λ x inside. elim (cases_eq x 0) [
    | inl same ↦ subst (λ k. (get_or (set t 0 true) k false ≡ true) ↔ IsMember [] k) (sym same)
        ((λ e. ([], record { places = refl; value = refl })), (λ m. get_or-set_same t 0 true false some))
    | inr other ↦ (
      (λ e. absurd (let f = sym e ∙ get_or-set_other t 0 x true false other ∙ empty x (omega (arith, inside, length-set t 0 true)) in cc)),
      (λ m. absurd (other (sym m.1.value))),
    )
  ];
}
