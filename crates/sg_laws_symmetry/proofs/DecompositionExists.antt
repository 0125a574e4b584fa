-- A numerical semigroup has a decomposition: the special gaps are chosen one after the other, and the cover of each that is
-- chosen has a minimal list.
use Rattle.std.proofs.Common.{◌≡◌, ℕ, ◌*◌, List, [], ◌∷◌, get_or, refl, subst, inl, inr, arith}
use Rattle.std.specs.Prelude.{◌⊎◌, ℤ, pos, negsuc, ◌-ℤ◌, ◌<ℤ◌, ◌≤ℤ◌, All, reverse}
use Rattle.std.specs.List.{AllZip}
use Rattle.std.proofs.lemmas.Int.{ints}
use Rattle.std.proofs.lemmas.List.Elements.{All-nil, All-cons, All-head, All-tail, Contains-get_or}
use Rattle.sg_defs.specs.Membership.{IsMember, IsIntegerMember, IsNumericalSemigroup, Generates}
use Rattle.sg_defs.specs.Listings.{ListsIntegers}
use Rattle.sg_defs.specs.Invariants.{IsSpecialGap}
use Rattle.sg_defs.specs.Decomposition.{IsInCover, IsInEachCover, IsChosen, IsDecomposition}
use Rattle.sg_defs.proofs.MembershipLemmas.{member-zero}
use Rattle.sg_irred.proofs.CoverLemmas.{cover-add}
use Rattle.sg_irred.proofs.IrredundantLemmas.{special-natural}
use Rattle.sg_irred.proofs.PlaceLemmas.{contains-reversed}
use Rattle.sg_laws_invariants.specs.Decided.{Decided, IsNumericalSet}
use Rattle.sg_laws_invariants.proofs.Decisions.{decided-not, decided-and, decided-or, decided-same, decided-lt_z, decided-all}
use Rattle.sg_defs.proofs.DecidedLemmas.{member-decided}
use Rattle.sg_laws_invariants.proofs.BoundLemmas.{members-from, numerical-set, minimal_list-exists}
use Rattle.sg_laws_invariants.proofs.InvariantsExist.{integer_member-decided, special_gaps-exist}

-- ---- covers

cover-decided : (G : List ℕ) (h : ℤ) (x : ℕ) → Decided (IsInCover G h x)
cover-decided G h x = decided-or (IsMember G x) ((h <ℤ pos x) ⊎ ((h <ℤ pos (2 * x)) × (pos x <ℤ h) × (IsIntegerMember G (h -ℤ pos x) → ⊥))) (member-decided G x)
    (decided-or (h <ℤ pos x) ((h <ℤ pos (2 * x)) × (pos x <ℤ h) × (IsIntegerMember G (h -ℤ pos x) → ⊥)) (decided-lt_z h (pos x))
    (decided-same ((h <ℤ pos (2 * x)) × ((pos x <ℤ h) × (IsIntegerMember G (h -ℤ pos x) → ⊥))) ((h <ℤ pos (2 * x)) × (pos x <ℤ h) × (IsIntegerMember G (h -ℤ pos x) → ⊥))
    (λ p. (p.0, p.1.0, p.1.1)) (λ p. (p.0, (p.1, p.2)))
    (decided-and (h <ℤ pos (2 * x)) ((pos x <ℤ h) × (IsIntegerMember G (h -ℤ pos x) → ⊥)) (decided-lt_z h (pos (2 * x)))
    (decided-and (pos x <ℤ h) (IsIntegerMember G (h -ℤ pos x) → ⊥) (decided-lt_z (pos x) h) (decided-not (IsIntegerMember G (h -ℤ pos x)) (integer_member-decided G (h -ℤ pos x)))))))

cover-set : (G : List ℕ) (h : ℤ) → IsNumericalSemigroup G → pos 0 ≤ℤ h → IsNumericalSet (IsInCover G h)
cover-set G h s natural =
    let c = members-from G s in
    record { decided = cover-decided G h; zero_in = inl (member-zero G); sums = λ x y p q. cover-add G h x y natural p q; from = c.0; all = λ n l. inl (c.1 n l) }

in_cover-decided : (G : List ℕ) (k h : ℤ) → Decided ((x : ℕ) × (h ≡ pos x) × IsInCover G k x)
in_cover-decided G k (pos n) = decided-same (IsInCover G k n) ((x : ℕ) × (pos n ≡ pos x) × IsInCover G k x) (λ p. (n, refl, p))
    (λ p. let e : p.0 ≡ n = omega (arith, ints, p.1) in subst (IsInCover G k) e p.2) (cover-decided G k n)
in_cover-decided G k (negsuc n) = inr (λ p. omega (arith, ints, p.1))

in_each-decided : (G : List ℕ) (ks : List ℤ) (h : ℤ) → Decided (IsInEachCover G ks h)
in_each-decided G ks h = decided-all (λ k. (x : ℕ) × (h ≡ pos x) × IsInCover G k x) (λ k. in_cover-decided G k h) ks

-- ---- the chosen gaps

abbrev AreNatural : List ℤ → Type 0
AreNatural hs = All (λ h. pos 0 ≤ℤ h) hs

chosen-exists : (G : List ℕ) (before hs : List ℤ) → AreNatural hs → (chosen : List ℤ) × IsChosen G before hs chosen × AreNatural chosen
chosen-exists G before [] natural = ([], refl, All-nil (λ h. pos 0 ≤ℤ h))
chosen-exists G before (h ∷ hs) natural = elim (in_each-decided G before h) [
  | inl each ↦
      let r = chosen-exists G (h ∷ before) hs (All-tail (λ k. pos 0 ≤ℤ k) h hs natural) in
      (h ∷ r.0, inl (each, (r.0, refl, r.1)), All-cons (λ k. pos 0 ≤ℤ k) h r.0 (All-head (λ k. pos 0 ≤ℤ k) h hs natural) r.2)
  | inr not ↦ let r = chosen-exists G before hs (All-tail (λ k. pos 0 ≤ℤ k) h hs natural) in (r.0, inr (not, r.1), r.2)
]

covers-exist : (G : List ℕ) → IsNumericalSemigroup G → (hs : List ℤ) → AreNatural hs → (L : List (List ℕ)) × AllZip (λ h M. Generates (IsInCover G h) M) hs L
covers-exist G s [] natural = ([], tt)
covers-exist G s (h ∷ hs) natural =
    let m = minimal_list-exists (IsInCover G h) (cover-set G h s (All-head (λ k. pos 0 ≤ℤ k) h hs natural)) in
    let r = covers-exist G s hs (All-tail (λ k. pos 0 ≤ℤ k) h hs natural) in
    (m.0 ∷ r.0, (m.1, r.1))

special-reversed : (G : List ℕ) (special : List ℤ) → ListsIntegers (IsSpecialGap G) special → AreNatural (reverse special)
special-reversed G special h k d l =
    let p = special-natural G (get_or (reverse special) k d) ((h.exactly (get_or (reverse special) k d)).0
    (contains-reversed special (get_or (reverse special) k d) (Contains-get_or (reverse special) k d l))) in
    let e = p.1 in
    omega (arith, ints, e)

-- ---- the decomposition

from-special : (G : List ℕ) → IsNumericalSemigroup G → (special : List ℤ) → ListsIntegers (IsSpecialGap G) special → (L : List (List ℕ)) × IsDecomposition G L
from-special G s [] h =
    let m = minimal_list-exists (IsMember G) (numerical-set G s) in
    (m.0 ∷ [], record { special = []; is_special = h; chosen = []; is_chosen = refl; covers = λ l. absurd (omega arith); whole = λ e. (m.0, refl, m.1) })
from-special G s (x ∷ xs) h =
    let c = chosen-exists G [] (reverse (x ∷ xs)) (special-reversed G (x ∷ xs) h) in
    let r = covers-exist G s c.0 c.2 in
    (r.0, record { special = x ∷ xs; is_special = h; chosen = c.0; is_chosen = c.1; covers = λ l. r.1; whole = λ e. absurd cc })

-- there is a decomposition
pub decomposition-exists : (G : List ℕ) → IsNumericalSemigroup G → (L : List (List ℕ)) × IsDecomposition G L
decomposition-exists G s = let r = special_gaps-exist G s in from-special G s r.0 r.1
