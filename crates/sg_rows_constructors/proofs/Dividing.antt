-- Semigroups by fundamental gaps as replies.
use Rattle.std.proofs.Common.{◌≡◌, ◌<◌, ◌≤◌, ℕ, ℤ, pos, negsuc, nat_abs, List, get_or, inl, inr, sym, subst, arith}
use Rattle.std.specs.Prelude.{◌≤ℤ◌}
use Rattle.std.proofs.lemmas.Int.{ints}
use Rattle.std.proofs.Math.ListN.{get_or-map}
use Rattle.sg_defs.specs.Membership.{Generates}
use Rattle.sg_apery.specs.Fit.{IsFit}
use Rattle.sg_apery.specs.Fundamental.{AreWithin as AreWithinNaturals, HasPast, DividesNone, AreFundamentalRefused}
use Rattle.sg_apery.specs.declared.fault.TableFault.TheVariants as table
use Rattle.sg_apery.specs.Limits.{FUNDAMENTAL_GAP_LIMIT}
use Rattle.sg_rows_constructors.specs.Integers.{naturals, ArePositive, AreWithin, AreFundamental}
use Rattle.sg_rows_constructors.proofs.Serving.{Serves, unfit}
use Rattle.sg_rows_constructors.proofs.Naturals.{as_long}

within_natural : (z : ℤ) (L : ℕ) → z ≤ℤ pos L → pos 1 ≤ℤ z → nat_abs z ≤ L
within_natural (pos n) L h k = omega (arith, ints, h)
within_natural (negsuc n) L h k = absurd (omega (arith, ints, k))

none_past : (zs : List ℤ) → AreWithin zs → ArePositive zs → HasPast (naturals zs) → ⊥
none_past zs within positive past =
    let k = past.0 in
    let l = subst (λ n. k < n) (as_long zs) past.1 in
    let small = within_natural (get_or zs k (pos 0)) FUNDAMENTAL_GAP_LIMIT (within k (pos 0) l) (positive k (pos 0) l) in
    let large = subst (λ n. FUNDAMENTAL_GAP_LIMIT < n) (get_or-map nat_abs zs k (pos 0)) past.2 in
    omega (arith, small, large)

pub fundamental_serves : (zs : List ℤ) (list : List ℕ) → list ≡ naturals zs → AreWithin zs → ArePositive zs
    → Serves (DividesNone (naturals zs)) (DividesNone list) (AreWithinNaturals list) (AreFundamentalRefused list) (¬ AreWithin zs) (¬ AreFundamental zs)
fundamental_serves zs list is within positive = subst (λ l. Serves (DividesNone (naturals zs)) (DividesNone l) (AreWithinNaturals l) (AreFundamentalRefused l) (¬ AreWithin zs) (¬ AreFundamental zs)) (sym is) (record {
  small = λ n. n within;
  same = λ n. ((λ h. h), (λ h. h));
  good = λ G g ok n. n (positive, (G, g));
  refused = λ h gaps. h.1 gaps.1.0 gaps.1.1;
  large = by;
})
  where
    by : AreFundamentalRefused (naturals zs) table.TooLarge → (¬ ¬ AreFundamental zs) × ((G : List ℕ) → Generates (DividesNone (naturals zs)) G → ¬ IsFit G)
    by (inl past) = absurd (none_past zs within positive past)
    by (inr t) = ((λ n. n (positive, (t.1.0, t.1.1))), unfit (DividesNone (naturals zs)) (DividesNone (naturals zs)) (λ n. ((λ h. h), (λ h. h))) t.1)
