-- A generator that is followed round a circle of classes leads from none of them to a greater entry.
use Rattle.std.proofs.Common.{◌≡◌, ◌≢◌, ℕ, ◌+◌, ◌-◌, ◌*◌, ◌%◌, ◌^◌, ◌<◌, ◌≤◌, List, length, get_or, set, refl, sym, ap, subst, ◌∙◌, inl, inr, arith}
use Rattle.std.specs.Prelude.{◌⊎◌}
use Rattle.std.proofs.lemmas.Bool.{cases_lt, cases_eq}
use Rattle.std.proofs.lemmas.List.{length-set, get_or-set_same, get_or-set_other}
use Rattle.std.proofs.Math.Nat.{mod-add-mod, mod-eq_of_lt}
use Rattle.sg_defs.specs.Membership.{IsMember}
use Rattle.sg_defs.proofs.MembershipLemmas.{member-add}
use Rattle.sg_classes.proofs.ResidueLemmas.{same_residue-add}
use Rattle.sg_tables.specs.Circles.{AreKnown, IsClosedAt, IsFollowed, IsFollowedBut, IsLoweredOn}

-- the sum of an entry and a generator is known, where it is written
pub known-set : (M t : List ℕ) (g i k v : ℕ) → IsMember M g → AreKnown M t → i < length t → k ≡ (i + g) % length t → v ≡ get_or t i 0 + g → v < 2 ^ 64 - 1 → v < get_or t k 0 → AreKnown M (set t k v)
known-set M t g i k v member known inside target sum fits less = record {
  not_empty = omega (arith, long, known.not_empty);
  zero = elim (cases_eq k 0) [
    | inl e ↦ absurd (omega (arith, less, ap (λ j. get_or t j 0) e, known.zero))
    | inr other ↦ get_or-set_other t k 0 v 0 (λ e. other (sym e)) ∙ known.zero
  ];
  entry = entry;
}
  where
    long : length (set t k v) ≡ length t
    long = length-set t k v

    here : IsMember M v × (v % length t ≡ k)
    here = elim (known.entry i inside) [
      | inl none ↦ absurd (omega (arith, none, sum, fits))
      | inr some ↦
          let same : (get_or t i 0 + g) % length t ≡ (i + g) % length t = same_residue-add (get_or t i 0) i g (length t) (some.1 ∙ sym (mod-eq_of_lt inside)) in
          (subst (IsMember M) (sym sum) (member-add M (get_or t i 0) g some.0 member), ap (λ x. x % length t) sum ∙ same ∙ sym target)
    ]

    entry : (j : ℕ) → j < length (set t k v) → (get_or (set t k v) j 0 ≡ 2 ^ 64 - 1) ⊎ (IsMember M (get_or (set t k v) j 0) × (get_or (set t k v) j 0 % length (set t k v) ≡ j))
    entry j l = elim (cases_eq j k) [
      | inl e ↦
          let at : get_or (set t k v) j 0 ≡ v = ap (λ i. get_or (set t k v) i 0) e ∙ get_or-set_same t k v 0 (omega (arith, e, l, long)) in
          inr (subst (IsMember M) (sym at) here.0, ap (λ x. x % length (set t k v)) at ∙ ap (λ n. v % n) long ∙ here.1 ∙ sym e)
      | inr other ↦
          let at : get_or (set t k v) j 0 ≡ get_or t j 0 = get_or-set_other t k j v 0 other in
          elim (known.entry j (omega (arith, l, long))) [
            | inl none ↦ inl (at ∙ none)
            | inr some ↦ inr (subst (IsMember M) (sym at) some.0, ap (λ x. x % length (set t k v)) at ∙ ap (λ n. get_or t j 0 % n) long ∙ some.1)
          ]
    ]

-- nothing is lowered yet
pub lowered_on-none : (g r : ℕ) (t : List ℕ) → IsLoweredOn g r t t
lowered_on-none g r t = record { long = refl; down = λ i l. omega arith; circle = λ i l. inl refl }

-- and one entry of the circle more
pub lowered_on-more : (g r j k : ℕ) (old t u : List ℕ) → IsLoweredOn g r old t → length u ≡ length t → k ≡ (r + j * g) % length old → get_or u k 0 ≤ get_or t k 0 →
    ((i : ℕ) → i ≢ k → get_or u i 0 ≡ get_or t i 0) → IsLoweredOn g r old u
lowered_on-more g r j k old t u h long at down others = record {
  long = long ∙ h.long;
  down = λ i l. elim (cases_eq i k) [
    | inl e ↦ omega (arith, down, h.down i l, ap (λ x. get_or u x 0) e, ap (λ x. get_or t x 0) e)
    | inr other ↦ omega (arith, others i other, h.down i l)
  ];
  circle = λ i l. elim (cases_eq i k) [
    | inl e ↦ inr (j, e ∙ at)
    | inr other ↦ elim (h.circle i l) [ inl same ↦ inl (others i other ∙ same) | inr some ↦ inr some ]
  ];
}

-- what was lowered in two parts
pub lowered_on-both : (g r : ℕ) (old t u : List ℕ) → IsLoweredOn g r old t → IsLoweredOn g r t u → IsLoweredOn g r old u
lowered_on-both g r old t u a b = record {
  long = b.long ∙ a.long;
  down = λ i l. omega (arith, a.down i l, b.down i (omega (arith, a.long, l)));
  circle = λ i l. elim (b.circle i (omega (arith, a.long, l))) [
    | inl same ↦ elim (a.circle i l) [ inl before ↦ inl (same ∙ before) | inr some ↦ inr some ]
    | inr some ↦ inr (some.0, subst (λ n. i ≡ (r + some.0 * g) % n) a.long some.1)
  ];
}

-- the class after one step more
pub class-after : (n r j g k : ℕ) → k ≡ (r + j * g) % n → (k + g) % n ≡ (r + (j + 1) * g) % n
class-after n r j g k e =
    let f : r + j * g + g ≡ r + (j + 1) * g = omega arith in
    ap (λ x. (x + g) % n) e ∙ mod-add-mod (r + j * g) n g ∙ ap (λ x. x % n) f

-- one step of the circle from class i to class k
module _ (g i k : ℕ) (t u : List ℕ) (long : length u ≡ length t) (target : k ≡ (i + g) % length t) (down : get_or u k 0 ≤ get_or t k 0) (others : (x : ℕ) → x ≢ k → get_or u x 0 ≡ get_or t x 0) where
  lower : (x : ℕ) → get_or u x 0 ≤ get_or t x 0
  lower x = elim (cases_eq x k) [
    | inl e ↦ omega (arith, down, ap (λ y. get_or u y 0) e, ap (λ y. get_or t y 0) e)
    | inr other ↦ omega (arith, others x other)
  ]

  -- a class from which the generator led to no greater entry, but maybe the one that was lowered
  pub closed-still : (x : ℕ) → IsClosedAt t g x → (x ≡ k) ⊎ IsClosedAt u g x
  closed-still x h = elim (cases_eq x k) [
    | inl e ↦ inl e
    | inr other ↦ inr (omega (arith, ap (λ n. get_or u ((x + g) % n) 0) long, lower ((x + g) % length t), others x other, h))
  ]

  -- so are the classes before, and the one that the step began at
  pub followed-still : (r n : ℕ) → IsClosedAt u g i → IsFollowedBut t g r n i → IsFollowedBut u g r n k
  followed-still r n here h j l =
      let e : (r + j * g) % length u ≡ (r + j * g) % length t = ap (λ m. (r + j * g) % m) long in
      elim (h j l) [
        | inl at ↦ inr (subst (IsClosedAt u g) (sym (e ∙ at)) here)
        | inr closed ↦ elim (closed-still ((r + j * g) % length t) closed) [
          | inl at ↦ inl (e ∙ at)
          | inr still ↦ inr (subst (IsClosedAt u g) (sym e) still)
        ]
      ]

-- one class more that was followed
pub followed-more : (t : List ℕ) (g r n i k : ℕ) → i ≡ (r + n * g) % length t → IsFollowedBut t g r n k → (i ≡ k) ⊎ IsClosedAt t g i → IsFollowedBut t g r (n + 1) k
followed-more t g r n i k at h here j l = elim (cases_lt j n) [
  | inl before ↦ h j before
  | inr last ↦
      let e : j ≡ n = omega arith in
      let f : (r + j * g) % length t ≡ i = ap (λ x. (r + x * g) % length t) e ∙ sym at in
      elim here [ inl same ↦ inl (f ∙ same) | inr closed ↦ inr (subst (IsClosedAt t g) (sym f) closed) ]
]

-- where the generator led to no greater entry from the last class either
pub followed-all : (t : List ℕ) (g r n i : ℕ) → IsFollowedBut t g r n i → IsClosedAt t g i → IsFollowed t g r n
followed-all t g r n i h last j l = elim (h j l) [
  | inl at ↦ subst (IsClosedAt t g) (sym at) last
  | inr closed ↦ closed
]

-- the next class by the residue of the step
pub step-class : (n at g s next : ℕ) → s ≡ g % n → next ≡ (at + s) % n → next ≡ (at + g) % n
step-class n at g s next e f =
    let a : at + s ≡ g % n + at = omega (arith, e) in
    let b : g + at ≡ at + g = omega arith in
    f ∙ ap (λ x. x % n) a ∙ mod-add-mod g n at ∙ ap (λ x. x % n) b
