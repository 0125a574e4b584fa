-- The rows that make semigroups have a value: their conditions are decided, and the minimal list exists.
use Rattle.std.proofs.Common.{◌≡◌, ℕ, zero, suc, ◌+◌, ◌*◌, ◌%◌, ◌<◌, ◌≤◌, ℤ, pos, negsuc, List, [], ◌∷◌, length, get_or, sym, subst, inl, inr, arith}
use Rattle.std.specs.Prelude.{◌⊎◌, ◌<ℤ◌, ◌≤ℤ◌, ◌*ℤ◌, All, Contains, unsigned_abs}
use Rattle.std.proofs.lemmas.Int.{ints}
use Rattle.std.proofs.lemmas.List.Elements.{All-cons, All-nil, All-head, All-tail}
use Rattle.sg_defs.specs.Membership.{IsMember, IsIntegerMember, IsNumericalSemigroup, Generates}
use Rattle.sg_apery.specs.Classes.{IsAboveEntry, IsKunz}
use Rattle.sg_apery.specs.Conditions.{IsInBoth, IsInQuotient, IsClosedSet}
use Rattle.sg_apery.specs.Fundamental.{DividesNone}
use Rattle.sg_apery.specs.Modular.{IsModular, IsProportional}
use Rattle.sg_apery.specs.Limits.{GENERATOR_LIMIT, FUNDAMENTAL_GAP_LIMIT, MODULUS_LIMIT}
use Rattle.sg_laws_invariants.specs.Decided.{Decided}
use Rattle.sg_laws_invariants.proofs.Decisions.{decided-not, decided-and, decided-or, decided-same, decided-all, decided-eq_z, decided-lt_z, decided-le_z, some-below}
use Rattle.sg_laws_invariants.proofs.SemigroupDecisions.{semigroup-decided}
use Rattle.sg_laws_invariants.proofs.BoundLemmas.{numerical-set, minimal_list-exists}
use Rattle.sg_laws_invariants.proofs.SetsExist.{closed-or_not, closed-set, generated-decided, both-set, quotient-set, above-set, kunz-decided, divides_none-decided, modular-set, same-generated}
use Rattle.sg_lawful.specs.Lawful.{IsLawfulList}
use Rattle.sg_value.specs.Data.{Items}
use Rattle.sg_value.specs.Plain.{Things}
use Rattle.sg_rows.specs.Asks.{apery_table}
use Rattle.sg_rows.specs.Lawful.{AreLawful}
use Rattle.sg_rows.proofs.FormLaws.{of_list_some, of_list_or_integers_some, of_two_integers_some, of_three_integers_some, of_two_semigroups_some, of_semigroup_then_integer_some}
use Rattle.sg_rows.proofs.SomeValue.{SomeValue, generates_some, HasValue}
use Rattle.sg_rows_constructors.specs.Integers.{naturals, AreBelow, AreNatural, ArePositive, Generate, IsSemigroup, IsNoEntry, IsEntryOrAbove, AreGaps, AreSmallElements, AreApery, AreWithin, AreFundamental}
use Rattle.sg_rows_constructors.specs.Rows.{apery_list_row, fundamental_gaps_row, gaps_row, generators_row, small_elements_row, modular_row, proportional_row, intersection_row, quotient_row}
use Rattle.sg_rows_constructors.specs.Makers.{integers_row, case_of}
use Rattle.sg_rows_constructors.specs.declared.maker.Maker.{Maker}
use Rattle.sg_rows_constructors.specs.declared.maker.Maker.TheVariants.{OfList, OfListOrIntegers, Modular, ProportionallyModular, Intersection, Quotient}
use Rattle.sg_rows_constructors.specs.declared.maker.IntegersMaker.{IntegersMaker}
use Rattle.sg_rows_constructors.specs.declared.maker.IntegersMaker.TheVariants.{ByAperyList, ByFundamentalGaps, ByGaps, ByGenerators, BySmallElements}

no : ⊥ → ⊥
no h = h

-- what is not refused is there
stable : (P : Type 0) → Decided P → ¬ (¬ P) → P
stable P (inl p) h = p
stable P (inr not) h = absurd (h not)

positive-decided : (zs : List ℤ) → Decided (ArePositive zs)
positive-decided zs = decided-all (λ z. pos 1 ≤ℤ z) (λ z. decided-le_z (pos 1) z) zs

natural-decided : (zs : List ℤ) → Decided (AreNatural zs)
natural-decided zs = decided-all (λ z. pos 0 ≤ℤ z) (λ z. decided-le_z (pos 0) z) zs

-- ---- generators

generate-decided : (zs : List ℤ) → Decided (Generate zs)
generate-decided zs = decided-and (ArePositive zs) (IsNumericalSemigroup (naturals zs)) (positive-decided zs) (semigroup-decided (naturals zs))

generators_some : (zs : List ℤ) → HasValue (generators_row zs)
generators_some zs = generates_some (¬ AreBelow zs) (¬ Generate zs) (IsMember (naturals zs))
    (decided-not (AreBelow zs) (decided-all (λ z. z <ℤ pos GENERATOR_LIMIT) (λ z. decided-lt_z z (pos GENERATOR_LIMIT)) zs))
    (λ a. decided-not (Generate zs) (generate-decided zs))
    (λ a b. let g = stable (Generate zs) (generate-decided zs) b in minimal_list-exists (IsMember (naturals zs)) (numerical-set (naturals zs) g.1))

-- ---- from other semigroups

intersection_some : (G H : List ℕ) → IsLawfulList G → IsLawfulList H → HasValue (intersection_row G H)
intersection_some G H g h = generates_some ⊥ ⊥ (IsInBoth G H) (inr no) (λ p. inr no) (λ p q. minimal_list-exists (IsInBoth G H) (both-set G H g.semigroup h.semigroup))

quotient-generated : (G : List ℕ) (d : ℤ) → IsNumericalSemigroup G → ((d <ℤ pos 1) → ⊥) → (M : List ℕ) × Generates (λ n. IsIntegerMember G (d *ℤ pos n)) M
quotient-generated G (negsuc k) s some = absurd (some (omega (arith, ints)))
quotient-generated G (pos zero) s some = absurd (some (omega (arith, ints)))
quotient-generated G (pos (suc k)) s some = same-generated (IsInQuotient G (suc k)) (λ n. IsIntegerMember G (pos (suc k) *ℤ pos n))
    (λ n p. subst (IsIntegerMember G) (same k n) p) (λ n p. subst (IsIntegerMember G) (sym (same k n)) p)
    (minimal_list-exists (IsInQuotient G (suc k)) (quotient-set G (suc k) s (omega arith)))
  where
    same : (k n : ℕ) → pos (suc k * n) ≡ pos (suc k) *ℤ pos n
    same k n = omega (arith, ints)

quotient_some : (G : List ℕ) (d : ℤ) → IsLawfulList G → HasValue (quotient_row G d)
quotient_some G d g = generates_some ⊥ (d <ℤ pos 1) (λ n. IsIntegerMember G (d *ℤ pos n)) (inr no) (λ p. decided-lt_z d (pos 1)) (λ p q. quotient-generated G d g.semigroup q)

-- ---- from lists of integers

contains_z-decided : (zs : List ℤ) (z : ℤ) → Decided (Contains zs z)
contains_z-decided zs z = decided-same ((k : ℕ) × (k < length zs) × (get_or zs k z ≡ z)) (Contains zs z) (λ h. h) (λ h. h)
    (some-below (λ k. get_or zs k z ≡ z) (λ k. decided-eq_z (get_or zs k z) z) (length zs))

-- all entries are below some natural
bound_z : (zs : List ℤ) → (b : ℕ) × All (λ z. z <ℤ pos b) zs
bound_z [] = (0, All-nil (λ z. z <ℤ pos 0))
bound_z (z ∷ zs) =
    let r = bound_z zs in
    let b = unsigned_abs z + suc r.0 in
    (b, All-cons (λ x. x <ℤ pos b) z zs (high z r.0) (λ k d l. let m = r.1 k d l in omega (arith, ints, m)))
  where
    high : (z : ℤ) (b : ℕ) → z <ℤ pos (unsigned_abs z + suc b)
    high (pos n) b = omega (arith, ints)
    high (negsuc n) b = omega (arith, ints)

module _ (zs : List ℤ) where
  none-decided : (n : ℕ) → Decided (IsNoEntry zs n)
  none-decided n = decided-not (Contains zs (pos n)) (contains_z-decided zs (pos n))

  none-from : (n : ℕ) → (bound_z zs).0 ≤ n → IsNoEntry zs n
  none-from n l h = let m = (bound_z zs).1 h.0 (pos n) h.1 in let e = h.2 in omega (arith, ints, m, e, l)

  gaps-decided : Decided (AreGaps zs)
  gaps-decided = decided-and (ArePositive zs) (IsSemigroup (IsNoEntry zs)) (positive-decided zs) (generated-decided (IsNoEntry zs) none-decided (bound_z zs).0 none-from)

  gaps_some : HasValue (gaps_row zs)
  gaps_some = generates_some ⊥ (¬ AreGaps zs) (IsNoEntry zs) (inr no) (λ p. decided-not (AreGaps zs) gaps-decided) (λ p q. (stable (AreGaps zs) gaps-decided q).1)

  above-decided : (n : ℕ) → Decided (IsEntryOrAbove zs n)
  above-decided n = decided-or (Contains zs (pos n)) (All (λ z. z <ℤ pos n) zs) (contains_z-decided zs (pos n)) (decided-all (λ z. z <ℤ pos n) (λ z. decided-lt_z z (pos n)) zs)

  above-from : (n : ℕ) → (bound_z zs).0 ≤ n → IsEntryOrAbove zs n
  above-from n l = inr (λ k d q. let m = (bound_z zs).1 k d q in omega (arith, ints, m, l))

  small-decided : Decided (AreSmallElements zs)
  small-decided = decided-same (AreNatural zs × (Contains zs (pos 0) × IsClosedSet (IsEntryOrAbove zs))) (AreSmallElements zs) (λ h. (h.0, h.1.0, h.1.1)) (λ h. (h.0, (h.1, h.2)))
      (decided-and (AreNatural zs) (Contains zs (pos 0) × IsClosedSet (IsEntryOrAbove zs)) (natural-decided zs)
      (decided-and (Contains zs (pos 0)) (IsClosedSet (IsEntryOrAbove zs)) (contains_z-decided zs (pos 0))
      (elim (closed-or_not (IsEntryOrAbove zs) above-decided (bound_z zs).0 above-from) [ inl closed ↦ inl closed | inr broken ↦ inr (λ h. broken.4 (h broken.0 broken.1 broken.2 broken.3)) ])))

  small_some : HasValue (small_elements_row zs)
  small_some = generates_some ⊥ (¬ AreSmallElements zs) (IsEntryOrAbove zs) (inr no) (λ p. decided-not (AreSmallElements zs) small-decided)
      (λ p q. let h = stable (AreSmallElements zs) small-decided q in
      minimal_list-exists (IsEntryOrAbove zs) (closed-set (IsEntryOrAbove zs) above-decided (bound_z zs).0 above-from (inl h.1) h.2))

  apery-decided : Decided (AreApery zs)
  apery-decided = decided-and (AreNatural zs) (IsKunz (naturals zs)) (natural-decided zs) (kunz-decided (naturals zs))

  apery_some : HasValue (apery_list_row zs)
  apery_some = generates_some ⊥ (¬ AreApery zs) (IsAboveEntry (naturals zs)) (inr no) (λ p. decided-not (AreApery zs) apery-decided)
      (λ p q. minimal_list-exists (IsAboveEntry (naturals zs)) (above-set (naturals zs) (stable (AreApery zs) apery-decided q).1))

positive-naturals : (zs : List ℤ) → ArePositive zs → (k : ℕ) → k < length (naturals zs) → 0 < get_or (naturals zs) k 0
positive-naturals [] h k l = absurd (omega arith)
positive-naturals (z ∷ zs) h zero l = size z (All-head (λ x. pos 1 ≤ℤ x) z zs h)
  where
    size : (z : ℤ) → pos 1 ≤ℤ z → 0 < unsigned_abs z
    size (pos n) l = omega (arith, ints, l)
    size (negsuc n) l = omega arith
positive-naturals (z ∷ zs) h (suc k) l = positive-naturals zs (All-tail (λ x. pos 1 ≤ℤ x) z zs h) k (omega arith)

fundamental-decided : (zs : List ℤ) → Decided (AreFundamental zs)
fundamental-decided zs = elim (positive-decided zs) [
  | inr not ↦ inr (λ h. not h.0)
  | inl positive ↦ elim (divides_none-decided (naturals zs) (positive-naturals zs positive)) [
    | inl found ↦ inl (positive, found)
    | inr not ↦ inr (λ h. not h.1)
  ]
]

fundamental_some : (zs : List ℤ) → HasValue (fundamental_gaps_row zs)
fundamental_some zs = generates_some (¬ AreWithin zs) (¬ AreFundamental zs) (DividesNone (naturals zs))
    (decided-not (AreWithin zs) (decided-all (λ z. z ≤ℤ pos FUNDAMENTAL_GAP_LIMIT) (λ z. decided-le_z z (pos FUNDAMENTAL_GAP_LIMIT)) zs))
    (λ p. decided-not (AreFundamental zs) (fundamental-decided zs)) (λ p q. (stable (AreFundamental zs) (fundamental-decided zs) q).1)

-- ---- modular semigroups

size-positive : (z : ℤ) → ((z <ℤ pos 1) → ⊥) → 0 < unsigned_abs z
size-positive (pos zero) h = absurd (h (omega (arith, ints)))
size-positive (pos (suc n)) h = omega arith
size-positive (negsuc n) h = omega arith

modular-generated : (a b : ℕ) → 0 < b → (M : List ℕ) × Generates (IsModular a b) M
modular-generated a b l = same-generated (λ x. (a * x) % b ≤ 1 * x) (IsModular a b) (λ x p. omega (arith, p)) (λ x p. omega (arith, p)) (minimal_list-exists (λ x. (a * x) % b ≤ 1 * x) (modular-set a b 1 l (omega arith)))

modular_some : (a b : ℤ) → HasValue (modular_row a b)
modular_some a b = generates_some (pos MODULUS_LIMIT <ℤ b) ((a <ℤ pos 1) ⊎ (b <ℤ pos 1)) (IsModular (unsigned_abs a) (unsigned_abs b)) (decided-lt_z (pos MODULUS_LIMIT) b)
    (λ p. decided-or (a <ℤ pos 1) (b <ℤ pos 1) (decided-lt_z a (pos 1)) (decided-lt_z b (pos 1)))
    (λ p q. modular-generated (unsigned_abs a) (unsigned_abs b) (size-positive b (λ l. q (inr l))))

proportional_some : (a b c : ℤ) → HasValue (proportional_row a b c)
proportional_some a b c =
    generates_some (pos MODULUS_LIMIT <ℤ b) ((a <ℤ pos 1) ⊎ (b <ℤ pos 1) ⊎ (c <ℤ pos 1)) (IsProportional (unsigned_abs a) (unsigned_abs b) (unsigned_abs c)) (decided-lt_z (pos MODULUS_LIMIT) b)
    (λ p. decided-or (a <ℤ pos 1) ((b <ℤ pos 1) ⊎ (c <ℤ pos 1)) (decided-lt_z a (pos 1)) (decided-or (b <ℤ pos 1) (c <ℤ pos 1) (decided-lt_z b (pos 1)) (decided-lt_z c (pos 1))))
    (λ p q. minimal_list-exists (IsProportional (unsigned_abs a) (unsigned_abs b) (unsigned_abs c))
    (modular-set (unsigned_abs a) (unsigned_abs b) (unsigned_abs c) (size-positive b (λ l. q (inr (inl l)))) (size-positive c (λ l. q (inr (inr l))))))

-- ---- the rows

integers_some : (m : IntegersMaker) (zs : List ℤ) → HasValue (integers_row m zs)
integers_some ByAperyList zs = apery_some zs
integers_some ByFundamentalGaps zs = fundamental_some zs
integers_some ByGaps zs = gaps_some zs
integers_some ByGenerators zs = generators_some zs
integers_some BySmallElements zs = small_some zs

pub maker_some : (m : Maker) (args : Items Things) → AreLawful args → SomeValue (case_of m args)
maker_some (OfList m) = of_list_some (integers_row m) (integers_some m)
maker_some (OfListOrIntegers m) = λ args l. of_list_or_integers_some (integers_row m) (integers_some m) args
maker_some Modular = of_two_integers_some modular_row modular_some
maker_some ProportionallyModular = of_three_integers_some proportional_row proportional_some
maker_some Intersection = of_two_semigroups_some (apery_table ∷ []) intersection_row intersection_some
maker_some Quotient = of_semigroup_then_integer_some (apery_table ∷ []) quotient_row quotient_some
