-- A set of naturals with all from a number on, in which the distance of two neighbours leads on from the second, is an
-- Arf semigroup: by induction from the end of its sequence of distances, where all naturals follow each other.
use Rattle.std.proofs.Common.{◌≡◌, ℕ, zero, suc, ◌+◌, ◌-◌, ◌*◌, ◌<◌, ◌≤◌, ◌↔◌, Bool, List, length, sym, subst, ◌∙◌, inl, inr, arith}
use Rattle.std.specs.Prelude.{◌⊎◌}
use Rattle.std.proofs.lemmas.Bool.{cases_lt, cases_eq}
use Rattle.sg_defs.specs.Membership.{IsMember}
use Rattle.sg_defs.specs.Closures.{IsArf}
use Rattle.sg_closure.specs.Marks.{IsIn}
use Rattle.sg_closure.specs.Steps.{HasSteps}
use Rattle.sg_closure.proofs.MarkLemmas.{in-past}

-- y is the neighbour after z
pub record IsNext (P : ℕ → Type 0) (z y : ℕ) : Type 0 where
  pub above : z < y
  pub inside : P y
  pub none : (n : ℕ) → z < n → n < y → P n → ⊥

module _ (P : ℕ → Type 0) (decided : (n : ℕ) → P n ⊎ (P n → ⊥)) where
  -- the first of the numbers after z, of d numbers that are looked at from n on
  next-from : (d z n x : ℕ) → z < n → ((k : ℕ) → z < k → k < n → P k → ⊥) → x < n + d → n ≤ x → P x → (y : ℕ) × IsNext P z y × (y ≤ x)
  next-from zero z n x above none l m p = absurd (omega arith)
  next-from (suc d) z n x above none l m p = elim (decided n) [
    | inl here ↦ (n, record { above = above; inside = here; none = none }, m)
    | inr out ↦ elim (cases_eq n x) [
      | inl e ↦ absurd (out (subst P (sym e) p))
      | inr other ↦ next-from d z (suc n) x (omega arith)
          (λ k a b q. elim (cases_lt k n) [ inl less ↦ none k a less q | inr more ↦ let e : k ≡ n = omega arith in out (subst P e q) ])
          (omega arith) (omega arith) p
    ]
  ]

  next : (z x : ℕ) → z < x → P x → (y : ℕ) × IsNext P z y × (y ≤ x)
  next z x l p = next-from x z (suc z) x (omega arith) (λ k a b q. omega arith) (omega arith) l p

  module _ (c : ℕ) (all : (n : ℕ) → c ≤ n → P n) (steps : (z y : ℕ) → z < y → P z → P y → ((n : ℕ) → z < n → n < y → P n → ⊥) → P (y + y - z)) where
    arf-above : (d z x y : ℕ) → c ≤ z + d → P z → z ≤ x → z ≤ y → P x → P y → P (x + y - z)
    arf-above zero z x y l in_z p q in_x in_y = all (x + y - z) (omega arith)
    arf-above (suc d) z x y l in_z p q in_x in_y = elim (cases_eq z x) [
      | inl e ↦ subst P (let f : y ≡ x + y - z = omega arith in f) in_y
      | inr below_x ↦ elim (cases_eq z y) [
        | inl e ↦ subst P (let f : x ≡ x + y - z = omega arith in f) in_x
        | inr below_y ↦
            let n = next z x (omega arith) in_x in
            let w = n.0 in
            let low : w ≤ y = elim (cases_lt y w) [ inl less ↦ absurd (n.1.none y (omega arith) less in_y) | inr more ↦ more ] in
            let above : z < w = n.1.above in
            let first = arf-above d w x y (omega arith) n.1.inside n.2 low in_x in_y in
            let second = steps z w above in_z n.1.inside n.1.none in
            let both = arf-above d w (x + y - w) (w + w - z) (omega arith) n.1.inside (omega (arith, n.2)) (omega arith) first second in
            subst P (let f : x + y - w + (w + w - z) - w ≡ x + y - z = omega (arith, n.2) in f) both
      ]
    ]

    -- a set with all steps between neighbours has x + y - z for all its x, y and z
    pub arf-from_steps : (x y z : ℕ) → z ≤ x → z ≤ y → P x → P y → P z → P (x + y - z)
    arf-from_steps x y z p q in_x in_y in_z = arf-above c z x y (omega arith) in_z p q in_x in_y

-- while the marks are gone through: steps lead on up to the last marked number below n
pub record IsMarking (before marks : List Bool) (last n : ℕ) : Type 0 where
  pub long : length marks ≡ length before
  pub low : last < n
  pub marked : IsIn marks last
  pub none : (k : ℕ) → last < k → k < n → IsIn marks k → ⊥
  pub keeps : (k : ℕ) → IsIn before k → IsIn marks k
  pub steps : (z y : ℕ) → z < y → y < n → IsIn marks z → IsIn marks y → ((k : ℕ) → z < k → k < y → IsIn marks k → ⊥) → IsIn marks (y + y - z)
  pub least : (K : List ℕ) → IsArf K → ((k : ℕ) → IsIn before k → IsMember K k) → (k : ℕ) → IsIn marks k → IsMember K k

-- at the start 0 alone was gone through
pub marking-begins : (marks : List Bool) → IsIn marks 0 → IsMarking marks marks 0 1
marking-begins marks zero_in = record {
  long = omega arith;
  low = omega arith;
  marked = zero_in;
  none = λ k a b p. omega arith;
  keeps = λ k p. p;
  steps = λ z y a b p q r. absurd (omega arith);
  least = λ K arf h k p. h k p;
}

-- an unmarked number is passed over
pub marking-passes : (before marks : List Bool) (last n : ℕ) → IsMarking before marks last n → (IsIn marks n → ⊥) → IsMarking before marks last (n + 1)
marking-passes before marks last n h out = record {
  long = h.long;
  low = omega (arith, h.low);
  marked = h.marked;
  none = λ k a b p. elim (cases_lt k n) [ inl less ↦ h.none k a less p | inr more ↦ let e : k ≡ n = omega arith in out (subst (IsIn marks) e p) ];
  keeps = h.keeps;
  steps = λ z y a b p q r. elim (cases_lt y n) [ inl less ↦ h.steps z y a less p q r | inr more ↦ let e : y ≡ n = omega arith in absurd (out (subst (IsIn marks) e q)) ];
  least = h.least;
}

-- after a marked number the next step is marked
pub marking-steps : (before marks new : List Bool) (last n : ℕ) → IsMarking before marks last n → IsIn marks n → length new ≡ length marks →
    ((k : ℕ) → IsIn new k ↔ (IsIn marks k ⊎ (k ≡ 2 * n - last))) → IsMarking before new n (n + 1)
marking-steps before marks new last n h here long told = record {
  long = long ∙ h.long;
  low = omega arith;
  marked = (told n).1 (inl here);
  none = λ k a b p. omega arith;
  keeps = λ k p. (told k).1 (inl (h.keeps k p));
  steps = λ z y a b p q r. elim (cases_lt y n) [
    | inl less ↦ (told (y + y - z)).1 (inl (h.steps z y a less (old z (omega arith) p) (old y (omega arith) q) (λ k c d s. r k c d ((told k).1 (inl s)))))
    | inr more ↦
        let e : y ≡ n = omega arith in
        let f : z ≡ last = elim (cases_lt z last) [
          | inl less ↦ absurd (r last less (omega (arith, h.low)) ((told last).1 (inl h.marked)))
          | inr high ↦ elim (cases_eq z last) [ inl same ↦ same | inr other ↦ absurd (h.none z (omega arith) (omega arith) (old z (omega arith) p)) ]
        ] in
        (told (y + y - z)).1 (inr (omega arith))
  ];
  least = λ K arf f k p. elim ((told k).0 p) [
    | inl was ↦ h.least K arf f k was
    | inr e ↦
        let g : n + n - last ≡ k = omega arith in
        subst (IsMember K) g (arf n n last (omega (arith, h.low)) (omega arith) (h.least K arf f n here) (h.least K arf f n here) (h.least K arf f last h.marked))
  ];
}
  where
    old : (k : ℕ) → k ≤ n → IsIn new k → IsIn marks k
    old k l p = elim ((told k).0 p) [ inl was ↦ was | inr e ↦ absurd (omega (arith, h.low)) ]

-- at the end steps lead on from each marked number, since what is past the marks is in the set
pub marking-ends : (before marks : List Bool) (last n : ℕ) → IsMarking before marks last n → length marks ≤ n → HasSteps marks
marking-ends before marks last n h end z y a p q r = elim (cases_lt y n) [
  | inl less ↦ h.steps z y a less p q r
  | inr more ↦ in-past marks (y + y - z) (omega arith)
]
