-- A numerical semigroup within the limits has every number from the product of the limits on.
use Rattle.std.proofs.Common.{◌≡◌, ℕ, zero, suc, ◌+◌, ◌-◌, ◌*◌, ◌%◌, ◌<◌, ◌≤◌, List, length, get_or, map, sym, ap, subst, ◌∙◌, inl, inr, arith}
use Rattle.std.specs.Prelude.{◌⊎◌}
use Rattle.std.proofs.lemmas.Bool.{cases_lt}
use Rattle.std.proofs.lemmas.Nat.{mod_below, mod-mul-add}
use Rattle.std.proofs.Math.Nat.{add-mod_right}
use Rattle.std.specs.List.{range_with_len}
use Rattle.std.proofs.lemmas.List.FromFn.{get_or-map-range_with_len, length-map-range_with_len}
use Rattle.sg_defs.specs.Membership.{IsMember, IsNumericalSemigroup, Generates}
use Rattle.sg_defs.specs.Apery.{IsApery}
use Rattle.sg_defs.proofs.DecidedLemmas.{member-decided}
use Rattle.sg_defs.proofs.MembershipLemmas.{member-entry}
use Rattle.sg_classes.specs.Entries.{AreSmall}
use Rattle.sg_classes.specs.Fit.{IsFit, IsPastLimits, IsTooLarge}
use Rattle.sg_classes.specs.Table.{IsAperyTable}
use Rattle.sg_classes.proofs.ResidueLemmas.{member-residue}
use Rattle.sg_classes.proofs.AperyLemmas.{apery-member}
use Rattle.sg_classes.proofs.BoundLemmas.{apery-bound}
use Rattle.sg_classes.proofs.ExistsLemmas.{IsCofinite, generates-exists}
use Rattle.sg_classes.specs.declared.limits.TheConstants.{APERY_ENTRY_LIMIT, GENERATOR_LIMIT, MULTIPLICITY_LIMIT}

-- whether one of the first entries is past its limit
large-search : (M : List ℕ) (n : ℕ) → n ≤ length M → ((k : ℕ) × (k < length M) × (GENERATOR_LIMIT ≤ get_or M k 0)) ⊎ ((k : ℕ) → k < n → get_or M k 0 < GENERATOR_LIMIT)
large-search M zero l = inr (λ k m. absurd (omega arith))
large-search M (suc n) l = elim (large-search M n (omega arith)) [
  | inl found ↦ inl found
  | inr none ↦ elim (cases_lt (get_or M n 0) GENERATOR_LIMIT) [
    | inr large ↦ inl (n, omega arith, large)
    | inl small ↦ inr (λ k m. elim (cases_lt k n) [
      | inl before ↦ none k before
      | inr last ↦ let e : k ≡ n = omega arith in omega (arith, small, ap (λ j. get_or M j 0) e)
    ])
  ]
]

-- whether a list is within the limits
fit-decided : (M : List ℕ) → IsFit M ⊎ IsPastLimits M
fit-decided M = elim (cases_lt MULTIPLICITY_LIMIT (get_or M 0 0)) [
  | inl past ↦ inr (inl past)
  | inr within ↦ elim (large-search M (length M) (omega arith)) [
    | inl large ↦ inr (inr large)
    | inr none ↦ inl (record { multiplicity = within; small = none })
  ]
]

-- w is a member, and w less m is none
abbrev IsLeastOf : List ℕ → ℕ → ℕ → ℕ → Type 0
IsLeastOf M m r w = IsMember M w × (w % m ≡ r) × ((y : ℕ) → y + m ≡ w → IsMember M y → ⊥)

module _ (M : List ℕ) (m : ℕ) (positive : 0 < m) (decided : (n : ℕ) → IsMember M n ⊎ (IsMember M n → ⊥)) where
  -- below a member there is a least one of its class
  descend : (b n r : ℕ) → n ≤ b → IsMember M n → n % m ≡ r → (w : ℕ) × IsLeastOf M m r w
  descend zero n r l q e = (n, (q, e, λ y f p. omega (arith, f, positive)))
  descend (suc b) n r l q e = elim (cases_lt n m) [
    | inl less ↦ (n, (q, e, λ y f p. omega (arith, f)))
    | inr more ↦ elim (decided (n - m)) [
      | inr out ↦ (n, (q, e, λ y f p. let g : y ≡ n - m = omega (arith, f) in out (subst (IsMember M) g p)))
      | inl in_m ↦
          let f : n - m + m ≡ n = omega arith in
          descend b (n - m) r (omega (arith, positive)) in_m (sym (add-mod_right (n - m) m) ∙ ap (λ x. x % m) f ∙ e)
    ]
  ]

module _ (M : List ℕ) (m : ℕ) (semigroup : IsNumericalSemigroup M) (positive : 0 < m) where
  -- the least member in each class, and something elsewhere
  chosen : (i : ℕ) → (w : ℕ) × (i < m → IsLeastOf M m i w)
  chosen i = elim (cases_lt i m) [
    | inr past ↦ (0, λ l. absurd (omega arith))
    | inl inside ↦
        let n = member-residue M m i semigroup inside in
        let p = descend M m positive (member-decided M) n.0 n.0 i (omega arith) n.1 n.2 in
        (p.0, λ l. p.1)
  ]

  -- a numerical semigroup has an Apery list modulo each number
  pub apery-exists : (t : List ℕ) × IsApery M m t
  apery-exists = (
    map (λ i. (chosen i).0) (range_with_len 0 m),
    record {
      entries = length-map-range_with_len (λ i. (chosen i).0) 0 m;
      member = λ i l. subst (IsMember M) (sym (at i l)) ((chosen i).1 l).0;
      residue = λ i l. ap (λ x. x % m) (at i l) ∙ ((chosen i).1 l).1;
      least = λ i y l e. ((chosen i).1 l).2 y (e ∙ at i l);
    },
  )
    where
      at : (i : ℕ) → i < m → get_or (map (λ i. (chosen i).0) (range_with_len 0 m)) i 0 ≡ (chosen i).0
      at i l = get_or-map-range_with_len (λ i. (chosen i).0) 0 m i i 0 l (omega arith)

-- its Apery list modulo a member, with generators below the limit
pub small-apery : (G : List ℕ) (n : ℕ) → IsNumericalSemigroup G → AreSmall G → 0 < n → IsMember G n →
    (a : List ℕ) × IsApery G n a × ((i : ℕ) → i < n → get_or a i 0 ≤ n * GENERATOR_LIMIT)
small-apery G n s small positive member =
    let a = apery-exists G n s positive in
    let long = a.1.entries in
    let table : IsAperyTable G a.0 = record {
      semigroup = s;
      not_empty = omega (arith, long, positive);
      modulus = subst (IsMember G) (sym long) member;
      apery = subst (λ k. IsApery G k a.0) (sym long) a.1;
    } in
    (a.0, a.1, λ i l. omega (arith, apery-bound G a.0 GENERATOR_LIMIT table (λ j k. omega (arith, small j k)) i (omega (arith, long, l)), long))

module _ (P : ℕ → Type 0) (c : ℕ) (h : IsCofinite P c) where
  -- within the limits every number from their product on is there
  fit-all : (M : List ℕ) → Generates P M → IsFit M → (n : ℕ) → APERY_ENTRY_LIMIT ≤ n → P n
  fit-all M g fit n l =
      let m = get_or M 0 0 in
      let positive : 0 < m = omega (arith, g.semigroup.positive 0 0 g.semigroup.not_empty) in
      let first : IsMember M m = member-entry M 0 g.semigroup.not_empty in
      let made = small-apery M m g.semigroup fit.small positive first in
      let bound = made.2 (n % m) (mod_below n m positive) in
      (g.same n).1 ((apery-member M m made.0 positive first made.1 n).1 (omega (arith, bound, fit.multiplicity, l)))

  -- with a gap past that the semigroup is past the limits
  pub too_large-from_gap : (n : ℕ) → APERY_ENTRY_LIMIT ≤ n → (P n → ⊥) → IsTooLarge P
  too_large-from_gap n l out =
      let made = generates-exists P c h in
      elim (fit-decided made.0) [
        | inr past ↦ (made.0, made.1, past)
        | inl fit ↦ absurd (out (fit-all made.0 made.1 fit n l))
      ]

  -- and where no number up to the limit on multiplicities is in it
  pub too_large-from_least : (m : ℕ) → MULTIPLICITY_LIMIT < m → ((x : ℕ) → 0 < x → P x → m ≤ x) → IsTooLarge P
  too_large-from_least m l least =
      let made = generates-exists P c h in
      let M = made.0 in
      let first = member-entry M 0 made.1.semigroup.not_empty in
      let low : m ≤ get_or M 0 0 = least (get_or M 0 0) (omega (arith, made.1.semigroup.positive 0 0 made.1.semigroup.not_empty)) ((made.1.same (get_or M 0 0)).1 first) in
      (M, made.1, inl (omega (arith, low)))
