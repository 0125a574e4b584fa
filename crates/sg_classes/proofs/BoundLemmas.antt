-- Where the generators are at most B, the entries of an Apery list are at most B times their number.
use Rattle.std.proofs.Common.{◌≡◌, ℕ, zero, suc, ◌+◌, ◌*◌, ◌%◌, ◌<◌, ◌≤◌, cond, List, [], ◌∷◌, length, get_or, ap, subst, inl, inr, arith}
use Rattle.std.specs.Prelude.{nat_lt}
use Rattle.std.proofs.lemmas.Bool.{cases_lt, lt-ltb, le-ltb}
use Rattle.std.proofs.lemmas.Nat.{mod_below}
use Rattle.sg_defs.specs.Membership.{IsMember}
use Rattle.sg_defs.proofs.MembershipLemmas.{member-zero, member-add, member-entry, member-times}
use Rattle.sg_classes.specs.Table.{IsAperyTable}
use Rattle.sg_classes.proofs.AperyLemmas.{apery-member, congruent-split}
use Rattle.sg_classes.proofs.GeneratorLemmas.{member-split, entry-positive, place-contains}

-- how many entries are at most x
abbrev count_up_to : ℕ → List ℕ → ℕ
count_up_to x [] = 0
count_up_to x (y ∷ ys) = cond (nat_lt x y) (count_up_to x ys) (suc (count_up_to x ys))

count-over : (x y : ℕ) (ys : List ℕ) → x < y → count_up_to x (y ∷ ys) ≡ count_up_to x ys
count-over x y ys l = ap (λ b. cond b (count_up_to x ys) (suc (count_up_to x ys))) (lt-ltb x y l)

count-under : (x y : ℕ) (ys : List ℕ) → y ≤ x → count_up_to x (y ∷ ys) ≡ suc (count_up_to x ys)
count-under x y ys l = ap (λ b. cond b (count_up_to x ys) (suc (count_up_to x ys))) (le-ltb x y l)

count-at_most : (x : ℕ) (ys : List ℕ) → count_up_to x ys ≤ length ys
count-at_most x [] = omega arith
count-at_most x (y ∷ ys) = elim (cases_lt x y) [
  | inl less ↦ omega (arith, count-over x y ys less, count-at_most x ys)
  | inr more ↦ omega (arith, count-under x y ys more, count-at_most x ys)
]

-- a greater bound counts as many
count-monotone : (x z : ℕ) (ys : List ℕ) → x ≤ z → count_up_to x ys ≤ count_up_to z ys
count-monotone x z [] l = omega arith
count-monotone x z (y ∷ ys) l = elim (cases_lt z y) [
  | inl less ↦ omega (arith, count-over z y ys less, count-over x y ys (omega arith), count-monotone x z ys l)
  | inr more ↦ elim (cases_lt x y) [
    | inl under ↦ omega (arith, count-under z y ys more, count-over x y ys under, count-monotone x z ys l)
    | inr over ↦ omega (arith, count-under z y ys more, count-under x y ys over, count-monotone x z ys l)
  ]
]

-- and one more where an entry lies between
count-more : (x z : ℕ) (ys : List ℕ) (j : ℕ) → j < length ys → x < get_or ys j 0 → get_or ys j 0 ≤ z → count_up_to x ys + 1 ≤ count_up_to z ys
count-more x z [] j l m k = absurd (omega arith)
count-more x z (y ∷ ys) zero l m k = omega (arith, count-over x y ys m, count-under z y ys k, count-monotone x z ys (omega arith))
count-more x z (y ∷ ys) (suc j) l m k =
    let rest : count_up_to x ys + 1 ≤ count_up_to z ys = count-more x z ys j (omega arith) m k in
    elim (cases_lt z y) [
      | inl less ↦ omega (arith, rest, count-over z y ys less, count-over x y ys (omega (arith, m, k)))
      | inr more ↦ elim (cases_lt x y) [
        | inl under ↦ omega (arith, rest, count-under z y ys more, count-over x y ys under)
        | inr over ↦ omega (arith, rest, count-under z y ys more, count-under x y ys over)
      ]
    ]

count-first : (ys : List ℕ) → 0 < length ys → get_or ys 0 0 ≡ 0 → 1 ≤ count_up_to 0 ys
count-first [] l e = absurd (omega arith)
count-first (y ∷ ys) l e = let none : y ≤ 0 = omega (arith, e) in omega (arith, count-under 0 y ys none)

-- no member and the modulus make w
abbrev IsLeast : List ℕ → List ℕ → ℕ → Type 0
IsLeast G t w = (y : ℕ) → y + length t ≡ w → IsMember G y → ⊥

module _ (G t : List ℕ) (B : ℕ) (h : IsAperyTable G t) (small : (j : ℕ) → j < length G → get_or G j 0 ≤ B) where
  above : (x : ℕ) → IsMember G x → get_or t (x % length t) 0 ≤ x
  above x = (apery-member G (length t) t h.not_empty h.modulus h.apery x).0

  -- below a least member past x there is one past x by at most B
  descend : (b w x : ℕ) → w ≤ b → IsMember G w → IsLeast G t w → x < w → (v : ℕ) × IsMember G v × IsLeast G t v × (x < v) × (v ≤ x + B)
  descend zero w x l q least past = absurd (omega arith)
  descend (suc b) w x l q least past = elim (member-split G w q) [
    | inl e ↦ absurd (omega arith)
    | inr p ↦ elim (cases_lt x p.1) [
      | inl more ↦
          let g = entry-positive G h.semigroup (get_or G p.0 0) (place-contains G p.0 p.2) in
          descend b p.1 x (omega (arith, p.4)) p.3
          (λ y e r. least (y + get_or G p.0 0) (omega (arith, p.4, e)) (member-add G y (get_or G p.0 0) r (member-entry G p.0 p.2))) more
      | inr less ↦ (w, q, least, past, omega (arith, p.4, less, small p.0 p.2))
    ]
  ]

  -- a least member is an entry
  is_entry : (w : ℕ) → IsMember G w → IsLeast G t w → get_or t (w % length t) 0 ≡ w
  is_entry w q least =
      let i = w % length t in
      let inside : i < length t = mod_below w (length t) h.not_empty in
      let s = congruent-split (length t) (get_or t i 0) w h.not_empty (h.apery.residue i inside) (above w q) in
      step s.0 s.1
    where
      step : (k : ℕ) → w ≡ get_or t (w % length t) 0 + k * length t → get_or t (w % length t) 0 ≡ w
      step zero e = omega arith
      step (suc k) e =
          let v = get_or t (w % length t) 0 in
          absurd (least (v + k * length t) (omega arith)
          (member-add G v (k * length t) (h.apery.member (w % length t) (mod_below w (length t) h.not_empty)) (member-times G k (length t) h.modulus)))

  more : (i x : ℕ) → i < length t → x < get_or t i 0 → count_up_to x t + 1 ≤ count_up_to (x + B) t
  more i x inside past =
      let v = descend (get_or t i 0) (get_or t i 0) x (omega arith) (h.apery.member i inside) (λ y e. h.apery.least i y inside e) past in
      let e = is_entry v.0 v.1 v.2 in
      count-more x (x + B) t (v.0 % length t) (mod_below v.0 (length t) h.not_empty) (omega (arith, e, v.3)) (omega (arith, e, v.4))

  first : 1 ≤ count_up_to 0 t
  first =
      let e : 0 % length t ≡ 0 = omega arith in
      let low : get_or t 0 0 ≤ 0 = subst (λ i. get_or t i 0 ≤ 0) e (above 0 (member-zero G)) in
      count-first t h.not_empty (omega arith)

  enough : (i k : ℕ) → i < length t → k * B < get_or t i 0 → k + 1 ≤ count_up_to (k * B) t
  enough i zero inside past = let e : 0 ≡ 0 * B = omega arith in subst (λ x. 1 ≤ count_up_to x t) e first
  enough i (suc k) inside past =
      let e : k * B + B ≡ suc k * B = omega arith in
      let before : k + 1 ≤ count_up_to (k * B) t = enough i k inside (omega arith) in
      let next : count_up_to (k * B) t + 1 ≤ count_up_to (k * B + B) t = more i (k * B) inside (omega arith) in
      subst (λ x. suc k + 1 ≤ count_up_to x t) e (omega arith)

  pub apery-bound : (i : ℕ) → i < length t → get_or t i 0 ≤ length t * B
  apery-bound i inside = elim (cases_lt (length t * B) (get_or t i 0)) [
    | inl less ↦ absurd (omega (arith, enough i (length t) inside less, count-at_most (length t * B) t))
    | inr more ↦ more
  ]
