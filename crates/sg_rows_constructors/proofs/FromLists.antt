-- Semigroups by lists as replies.
use Rattle.std.proofs.Common.{◌≡◌, ◌↔◌, ◌+◌, ◌<◌, ◌∙◌, ℕ, ℤ, List, inl, inr, sym, subst, arith}
use Rattle.sg_apery.specs.Classes.{IsAboveEntry, IsKunz}
use Rattle.sg_apery.specs.Conditions.{IsAperyRefused, IsInSmall, IsClosedSet, AreSmallAccepted, AreSmallRefused, IsOutside, AreGapsRefused}
use Rattle.sg_apery.specs.declared.fault.TableFault.TheVariants as table
use Rattle.sg_apery.proofs.DerivedLemmas.{generates-iff}
use Rattle.sg_rows_constructors.specs.Integers.{naturals, AreNatural, ArePositive, IsNoEntry, AreGaps, IsEntryOrAbove, AreSmallElements, AreApery}
use Rattle.sg_rows_constructors.proofs.Serving.{Serves, unfit}
use Rattle.sg_rows_constructors.proofs.Naturals.{as_long, positive_natural, contains_natural, above_natural}

-- the naturals outside of a list
no_entry_iff : (zs : List ℤ) → AreNatural zs → (n : ℕ) → IsNoEntry zs n ↔ IsOutside (naturals zs) n
no_entry_iff zs natural n =
    let same = contains_natural zs natural n in
    ((λ h c. h (same.1 c)), (λ h c. h (same.0 c)))

pub gaps_serve : (zs : List ℤ) (list : List ℕ) → list ≡ naturals zs → ArePositive zs → Serves (IsNoEntry zs) (IsOutside list) (Unit {0}) (AreGapsRefused list) ⊥ (¬ AreGaps zs)
gaps_serve zs list is positive =
    let same = no_entry_iff zs (positive_natural zs positive) in
    subst (λ l. Serves (IsNoEntry zs) (IsOutside l) (Unit {0}) (AreGapsRefused l) ⊥ (¬ AreGaps zs)) (sym is) (record {
      small = λ n. n;
      same = same;
      good = λ G g ok n. n (positive, (G, g));
      refused = λ none gaps. none gaps.1.0 (generates-iff (IsOutside (naturals zs)) (IsNoEntry zs) (λ n. ((same n).1, (same n).0)) gaps.1.0 gaps.1.1);
      large = λ t. ((λ n. n (positive, (t.0, generates-iff (IsNoEntry zs) (IsOutside (naturals zs)) same t.0 t.1))), unfit (IsNoEntry zs) (IsOutside (naturals zs)) same t);
    })

-- the entries and the naturals above all of them
small_iff : (zs : List ℤ) → AreNatural zs → (n : ℕ) → IsEntryOrAbove zs n ↔ IsInSmall (naturals zs) n
small_iff zs natural n =
    let same = contains_natural zs natural n in
    let above = above_natural zs natural n in (
      (λ h. elim h [ inl c ↦ inl (same.0 c) | inr a ↦ inr (above.0 a) ]),
      (λ h. elim h [ inl c ↦ inl (same.1 c) | inr a ↦ inr (above.1 a) ]),
    )

closed_iff : (P Q : ℕ → Type 0) → ((n : ℕ) → P n ↔ Q n) → IsClosedSet Q → IsClosedSet P
closed_iff P Q same closed x y p q = (same (x + y)).1 (closed x y ((same x).0 p) ((same y).0 q))

module _ (zs : List ℤ) (natural : AreNatural zs) where
  accepted_small : AreSmallAccepted (naturals zs) → AreSmallElements zs
  accepted_small h = (natural, (contains_natural zs natural 0).1 h.0, closed_iff (IsEntryOrAbove zs) (IsInSmall (naturals zs)) (small_iff zs natural) h.1)

  refused_small : AreSmallRefused (naturals zs) table.BadArgument → AreSmallElements zs → ⊥
  refused_small (inl none) good = let l = subst (λ n. good.1.0 < n) (sym (as_long zs) ∙ none) good.1.1 in omega arith
  refused_small (inr (inl missing)) good = missing ((contains_natural zs natural 0).0 good.1)
  refused_small (inr (inr h)) good =
      let same = small_iff zs natural in
      h.4 ((same (h.0 + h.1)).0 (good.2 h.0 h.1 ((same h.0).1 h.2) ((same h.1).1 h.3)))

pub small_serve : (zs : List ℤ) (list : List ℕ) → list ≡ naturals zs → AreNatural zs → Serves (IsEntryOrAbove zs) (IsInSmall list) (AreSmallAccepted list) (AreSmallRefused list) ⊥ (¬ AreSmallElements zs)
small_serve zs list is natural =
    subst (λ l. Serves (IsEntryOrAbove zs) (IsInSmall l) (AreSmallAccepted l) (AreSmallRefused l) ⊥ (¬ AreSmallElements zs)) (sym is) (record {
      small = λ n. n;
      same = small_iff zs natural;
      good = λ G g ok n. n (accepted_small zs natural ok);
      refused = refused_small zs natural;
      large = λ t. ((λ n. n (accepted_small zs natural t.0)), unfit (IsEntryOrAbove zs) (IsInSmall (naturals zs)) (small_iff zs natural) t.1);
    })

pub apery_serves : (zs : List ℤ) (list : List ℕ) → list ≡ naturals zs → AreNatural zs → Serves (IsAboveEntry (naturals zs)) (IsAboveEntry list) (IsKunz list) (IsAperyRefused list) ⊥ (¬ AreApery zs)
apery_serves zs list is natural =
    subst (λ l. Serves (IsAboveEntry (naturals zs)) (IsAboveEntry l) (IsKunz l) (IsAperyRefused l) ⊥ (¬ AreApery zs)) (sym is) (record {
      small = λ n. n;
      same = λ n. ((λ h. h), (λ h. h));
      good = λ G g kunz n. n (natural, kunz);
      refused = λ no apery. no apery.1;
      large = λ t. ((λ n. n (natural, t.0)), unfit (IsAboveEntry (naturals zs)) (IsAboveEntry (naturals zs)) (λ n. ((λ h. h), (λ h. h))) t.1);
    })
