-- Semigroups that integers generate.
use Rattle.std.proofs.Common.{◌≡◌, ◌⊎◌, ◌<◌, ◌≤◌, ◌+◌, ◌*◌, ℕ, zero, suc, ℤ, pos, negsuc, List, [], ◌∷◌, length, get_or, inl, inr, refl, sym, subst, arith}
use Rattle.std.specs.Prelude.{◌≤ℤ◌, ◌<ℤ◌, All, EachIndex, slice_index}
use Rattle.std.proofs.lemmas.Int.{ints}
use Rattle.sg_defs.specs.Vectors.{value_of}
use Rattle.sg_defs.specs.Membership.{IsMember, Generates}
use Rattle.sg_defs.proofs.MembershipLemmas.{member-entry}
use Rattle.sg_apery.specs.Fit.{IsFit}
use Rattle.sg_apery.specs.Generators.{AreAccepted, AreRefused}
use Rattle.sg_apery.specs.declared.fault.TableFault.TheVariants as table
use Rattle.sg_apery.specs.Limits.{GENERATOR_LIMIT, MULTIPLICITY_LIMIT}
use Rattle.sg_rows_constructors.specs.Integers.{AreBelow, ArePositive, naturals, Generate}
use Rattle.sg_rows_constructors.proofs.Serving.{Serves}

-- entries that are small and positive are small naturals
small_natural : (zs : List ℤ) → AreBelow zs → All (λ z. pos 1 ≤ℤ z) zs → (k : ℕ) → k < length (naturals zs) → GENERATOR_LIMIT ≤ slice_index (naturals zs) k → ⊥
small_natural [] small positive k within large = omega arith
small_natural (pos n ∷ zs) small positive zero within large = let below : pos n <ℤ pos GENERATOR_LIMIT = small 0 (pos 0) (omega arith) in omega (arith, ints, below)
small_natural (negsuc n ∷ zs) small positive zero within large = let from : pos 1 ≤ℤ negsuc n = positive 0 (pos 0) (omega arith) in omega (arith, ints, from)
small_natural (z ∷ zs) small positive (suc k) within large = small_natural zs (λ i d h. small (suc i) d (omega arith)) (λ i d h. positive (suc i) d (omega arith)) k (omega arith) large

-- where all generators are above a number, so is each value above 0
value_split : (L : ℕ) (gs zs : List ℕ) → ((k : ℕ) → k < length gs → L < slice_index gs k) → (value_of gs zs ≡ 0) ⊎ (L < value_of gs zs)
value_split L [] zs above = inl refl
value_split L (g ∷ gs) [] above = inl refl
value_split L (g ∷ gs) (zero ∷ zs) above = by (value_split L gs zs (λ k h. above (suc k) (omega arith)))
  where
    by : (value_of gs zs ≡ 0) ⊎ (L < value_of gs zs) → (0 * g + value_of gs zs ≡ 0) ⊎ (L < 0 * g + value_of gs zs)
    by (inl e) = inl (omega arith)
    by (inr h) = inr (omega arith)
value_split L (g ∷ gs) (suc k ∷ zs) above = let first : L < g = above 0 (omega arith) in inr (omega arith)

-- a semigroup is not fit where all its generators are above the limit of multiplicities
not_fit : (given G : List ℕ) → EachIndex given (λ k. MULTIPLICITY_LIMIT < slice_index given k) → Generates (IsMember given) G → IsFit G → ⊥
not_fit given G large generated fit =
    let some : 0 < length G = generated.semigroup.not_empty in
    let first : 1 ≤ get_or G 0 0 = generated.semigroup.positive 0 0 some in
    let member = (generated.same (get_or G 0 0)).1 (member-entry G 0 some) in
    by (value_split MULTIPLICITY_LIMIT given member.0 large) member.1.value first fit.multiplicity
  where
    by : {n v : ℕ} → (v ≡ 0) ⊎ (MULTIPLICITY_LIMIT < v) → v ≡ n → 1 ≤ n → n ≤ MULTIPLICITY_LIMIT → ⊥
    by (inl e) f h k = omega arith
    by (inr l) f h k = omega arith

-- the constructor from generators serves the row
pub generators_serve : (zs : List ℤ) (list : List ℕ) → list ≡ naturals zs → AreBelow zs → ArePositive zs
    → Serves (IsMember (naturals zs)) (IsMember list) (AreAccepted list) (AreRefused list) (¬ AreBelow zs) (¬ Generate zs)
generators_serve zs list is small positive = subst (λ l. Serves (IsMember (naturals zs)) (IsMember l) (AreAccepted l) (AreRefused l) (¬ AreBelow zs) (¬ Generate zs)) (sym is) (record {
  small = λ n. n small;
  same = λ n. ((λ h. h), (λ h. h));
  good = λ G g accepted n. n (positive, accepted.semigroup);
  refused = λ h m. h.1 m.1;
  large = by;
})
  where
    by : AreRefused (naturals zs) table.TooLarge → (¬ ¬ Generate zs) × ((G : List ℕ) → Generates (IsMember (naturals zs)) G → ¬ IsFit G)
    by (inl large) = absurd (small_natural zs small positive large.0 large.1 large.2)
    by (inr late) = ((λ n. n (positive, late.1)), (λ G generated fit. not_fit (naturals zs) G late.2 generated fit))
