-- Of a kind of numerical semigroups the least one above a given one exists, where each that is not of the kind lacks a
-- number that all above it have which are: such numbers are added until none is left.
use Rattle.std.proofs.Common.{◌≡◌, ℕ, zero, suc, ◌+◌, ◌<◌, ◌≤◌, List, ◌∷◌, length, get_or, sym, subst, inl, inr, arith}
use Rattle.std.specs.Prelude.{◌⊎◌}
use Rattle.std.specs.Int.{◌∣◌}
use Rattle.std.proofs.lemmas.Bool.{cases_lt, cases_eq}
use Rattle.std.proofs.lemmas.List.Elements.{All-cons, All-tail}
use Rattle.sg_defs.specs.Membership.{IsMember, IsNumericalSemigroup, Holds}
use Rattle.sg_defs.specs.Invariants.{IsGap}
use Rattle.sg_defs.specs.Closures.{IsLeast}
use Rattle.sg_defs.proofs.MembershipLemmas.{member-zero, member-entry}
use Rattle.sg_classes.proofs.GeneratorLemmas.{holds-from_entries}
use Rattle.sg_defs.proofs.DecidedLemmas.{member-decided}
use Rattle.sg_laws_invariants.proofs.BoundLemmas.{members-from}

-- ---- one more generator

gap-positive : (K : List ℕ) (x : ℕ) → IsGap K x → 0 < x
gap-positive K x gap = elim (cases_eq x 0) [
  | inl none ↦ absurd (gap (subst (IsMember K) (sym none) (member-zero K)))
  | inr some ↦ omega arith
]

pub more-semigroup : (K : List ℕ) (x : ℕ) → IsNumericalSemigroup K → 0 < x → IsNumericalSemigroup (x ∷ K)
more-semigroup K x s l = record {
  not_empty = omega arith;
  positive = All-cons (λ g. 1 ≤ g) x K (omega arith) s.positive;
  coprime = λ d all. s.coprime d (All-tail (λ g. d ∣ g) x K all);
}

-- the old members are members
pub more-holds : (K : List ℕ) (x : ℕ) → Holds (x ∷ K) K
more-holds K x = holds-from_entries (x ∷ K) K (λ k l. member-entry (x ∷ K) (suc k) (omega arith))

pub more-held : (K L : List ℕ) (x : ℕ) → Holds L K → IsMember L x → Holds L (x ∷ K)
more-held K L x h p = holds-from_entries L (x ∷ K) entry
  where
    entry : (k : ℕ) → k < length (x ∷ K) → IsMember L (get_or (x ∷ K) k 0)
    entry zero l = p
    entry (suc k) l = h (get_or K k 0) (member-entry K k (omega arith))

-- ---- how many numbers below a bound are missing

counted : (K : List ℕ) (c : ℕ) → IsMember K c ⊎ (IsMember K c → ⊥) → ℕ → ℕ
counted K c (inl member) n = n
counted K c (inr gap) n = suc n

missing : List ℕ → ℕ → ℕ
missing K zero = 0
missing K (suc c) = counted K c (member-decided K c) (missing K c)

counted-no_more : (K L : List ℕ) (c m n : ℕ) → Holds L K → m ≤ n → (p : IsMember K c ⊎ (IsMember K c → ⊥)) (q : IsMember L c ⊎ (IsMember L c → ⊥)) → counted L c q m ≤ counted K c p n
unfolding counted
counted-no_more K L c m n h l (inl p) (inl q) = l
counted-no_more K L c m n h l (inl p) (inr q) = absurd (q (h c p))
counted-no_more K L c m n h l (inr p) (inl q) = omega arith
counted-no_more K L c m n h l (inr p) (inr q) = omega arith

missing-no_more : (K L : List ℕ) → Holds L K → (c : ℕ) → missing L c ≤ missing K c
unfolding missing
missing-no_more K L h zero = omega arith
missing-no_more K L h (suc c) = counted-no_more K L c (missing L c) (missing K c) h (missing-no_more K L h c) (member-decided K c) (member-decided L c)

counted-fewer : (K L : List ℕ) (c m n : ℕ) → Holds L K → m < n → (p : IsMember K c ⊎ (IsMember K c → ⊥)) (q : IsMember L c ⊎ (IsMember L c → ⊥)) → counted L c q m < counted K c p n
unfolding counted
counted-fewer K L c m n h l (inl p) (inl q) = l
counted-fewer K L c m n h l (inl p) (inr q) = absurd (q (h c p))
counted-fewer K L c m n h l (inr p) (inl q) = omega arith
counted-fewer K L c m n h l (inr p) (inr q) = omega arith

counted-here : (K L : List ℕ) (c m n : ℕ) → IsGap K c → IsMember L c → m ≤ n → (p : IsMember K c ⊎ (IsMember K c → ⊥)) (q : IsMember L c ⊎ (IsMember L c → ⊥)) → counted L c q m < counted K c p n
unfolding counted
counted-here K L c m n gap member l (inl p) q = absurd (gap p)
counted-here K L c m n gap member l (inr p) (inl q) = omega arith
counted-here K L c m n gap member l (inr p) (inr q) = absurd (q member)

missing-fewer : (K L : List ℕ) (x : ℕ) → Holds L K → IsGap K x → IsMember L x → (c : ℕ) → x < c → missing L c < missing K c
unfolding missing
missing-fewer K L x h gap member zero l = absurd (omega arith)
missing-fewer K L x h gap member (suc c) l = elim (cases_lt x c) [
  | inl less ↦ counted-fewer K L c (missing L c) (missing K c) h (missing-fewer K L x h gap member c less) (member-decided K c) (member-decided L c)
  | inr more ↦
      let e : x ≡ c = omega arith in
      counted-here K L c (missing L c) (missing K c) (subst (IsGap K) e gap) (subst (IsMember L) e member) (missing-no_more K L h c) (member-decided K c) (member-decided L c)
]

-- ---- the least of a kind

-- a number that is missing, whose addition keeps a condition, and which all of the kind have that hold K
pub record IsWanting (P I : List ℕ → Type 0) (K : List ℕ) (x : ℕ) : Type 0 where
  pub gap : IsGap K x
  pub keeps : I (x ∷ K)
  pub wanted : (L : List ℕ) → IsNumericalSemigroup L → P L → Holds L K → IsMember L x

module _ (P I : List ℕ → Type 0) (G : List ℕ) (c : ℕ) (all : (n : ℕ) → c ≤ n → IsMember G n)
    (step : (K : List ℕ) → IsNumericalSemigroup K → Holds K G → I K → P K ⊎ ((x : ℕ) × IsWanting P I K x)) where
  least-below : (k : ℕ) (K : List ℕ) → IsNumericalSemigroup K → Holds K G → I K → ((L : List ℕ) → IsNumericalSemigroup L → P L → Holds L G → Holds L K) → missing K c < k →
      (H : List ℕ) × IsLeast P G H
  least-below zero K s h i least l = absurd (omega arith)
  least-below (suc k) K s h i least l = elim (step K s h i) [
    | inl found ↦ (K, record { semigroup = s; has = found; holds = h; least = least })
    | inr w ↦
        let x = w.0 in
        let low : x < c = elim (cases_lt x c) [ inl less ↦ less | inr more ↦ absurd (w.1.gap (h x (all x more))) ] in
        let fewer = missing-fewer K (x ∷ K) x (more-holds K x) w.1.gap (member-entry (x ∷ K) 0 (omega arith)) c low in
        least-below k (x ∷ K) (more-semigroup K x s (gap-positive K x w.1.gap)) (λ n p. more-holds K x n (h n p)) w.1.keeps
        (λ L t q above. more-held K L x (least L t q above) (w.1.wanted L t q (least L t q above))) (omega (arith, fewer, l))
  ]

-- where semigroups without the kind lack a number that all of the kind above have, there is a least one of the kind
pub least-exists : (P I : List ℕ → Type 0) (G : List ℕ) → IsNumericalSemigroup G → I G →
    ((K : List ℕ) → IsNumericalSemigroup K → Holds K G → I K → P K ⊎ ((x : ℕ) × IsWanting P I K x)) → (H : List ℕ) × IsLeast P G H
least-exists P I G s i step =
    let r = members-from G s in
    least-below P I G r.0 r.1 step (missing G r.0 + 1) G s (λ n p. p) i (λ L t q above. above) (omega arith)
