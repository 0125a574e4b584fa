-- The covers of the chosen special gaps are irreducible, meet in the semigroup, and none of them can be left out.
use Rattle.std.proofs.Common.{◌≡◌, ℕ, zero, suc, ◌+◌, ◌<◌, ◌≤◌, List, [], ◌∷◌, length, get_or, refl, sym, subst, ◌∙◌, inl, inr, arith}
use Rattle.std.specs.Prelude.{◌↔◌, ℤ, pos, negsuc, ◌+ℤ◌, ◌<ℤ◌, ◌≤ℤ◌, reverse, All, AllPairs, Contains}
use Rattle.std.proofs.lemmas.Bool.{cases_lt, cases_eq}
use Rattle.std.proofs.lemmas.Int.{ints, by_lt_z}
use Rattle.std.proofs.lemmas.List.{get_or_default}
use Rattle.std.proofs.lemmas.List.Elements.{All-cons, All-nil, Contains-get_or}
use Rattle.std.proofs.lemmas.Slice.Zip.{AllZip-long}
use Rattle.sg_defs.specs.Listings.{ListsIntegers}
use Rattle.sg_defs.specs.Membership.{IsMember, IsIntegerMember, Generates}
use Rattle.sg_defs.specs.Invariants.{IsFrobenius, IsGap, IsSpecialGap}
use Rattle.sg_defs.specs.Symmetry.{IsIrreducible}
use Rattle.sg_defs.specs.Decomposition.{IsInCover, IsInEachCover, IsChosen, IsInAll, IsIrredundant}
use Rattle.sg_defs.proofs.MembershipLemmas.{member-zero}
use Rattle.sg_classes.specs.Fit.{IsSpan}
use Rattle.sg_classes.specs.declared.limits.TheConstants.{SPAN_LIMIT}
use Rattle.sg_irred.specs.Cover.{AreNatural}
use Rattle.sg_defs.proofs.SymmetryLemmas.{symmetric-irreducible}
use Rattle.sg_irred.proofs.TestLemmas.{naturals-symmetric}
use Rattle.sg_irred.proofs.CoverLemmas.{below-zero, cover-add}
use Rattle.sg_irred.proofs.ChoiceLemmas.{LiesInCover, IsLater, chosen-missing, chosen-in, chosen-pairs, descending}
use Rattle.sg_irred.proofs.PlaceLemmas.{AreCovers, zip-at, contains-reversed, reversed-contains}
use Rattle.sg_defs.proofs.DecidedLemmas.{member-decided}
use Rattle.sg_irred.proofs.CoverIrreducibleLemmas.{cover-irreducible}

-- a special gap is a natural that is no member
pub special-natural : (G : List ℕ) (x : ℤ) → IsSpecialGap G x → (n : ℕ) × (x ≡ pos n) × IsGap G n
special-natural G (pos n) s = (n, refl, s.pseudo_frobenius.outside)
special-natural G (negsuc a) s = absurd (below-zero G (negsuc a +ℤ negsuc a) (omega (arith, ints)) s.double)

-- a special gap is at most the Frobenius number
pub special-low : (G : List ℕ) (x f : ℤ) → IsSpecialGap G x → IsFrobenius G f → f <ℤ x → ⊥
special-low G x f s h l = s.pseudo_frobenius.outside (h.above x l)

-- the special gaps are within the entries of an Apery list where the span is within its limit
pub special-bounded : (G : List ℕ) (special : List ℤ) (s : ℕ) → ListsIntegers (IsSpecialGap G) special → IsSpan G s → s ≤ SPAN_LIMIT → AreNatural special
special-bounded G special s sp span within k l =
    let x = get_or special k (pos 0) in
    let gap = (sp.exactly x).0 (Contains-get_or special k (pos 0) l) in
    let e = (special-natural G x gap).1 in
    let f = span.2 in
    (omega (arith, ints, e), by_lt_z span.0 x (λ (past : span.0 <ℤ x). absurd (special-low G x span.0 gap span.1 past)) (λ (low : x ≤ℤ span.0). omega (arith, ints, low, f, within)))

-- the Frobenius number is a special gap where it is not negative
frobenius-special : (G : List ℕ) (F : ℕ) → IsFrobenius G (pos F) → IsSpecialGap G (pos F)
frobenius-special G F h = record {
  pseudo_frobenius = record { outside = h.outside; absorbed = λ s some q. h.above (pos F +ℤ pos s) (omega (arith, ints, some)) };
  double = h.above (pos F +ℤ pos F) (let some = positive in omega (arith, ints, some));
}
  where
    positive : 0 < F
    positive = elim (cases_lt 0 F) [
      | inl some ↦ some
      | inr none ↦ absurd (h.outside (subst (IsMember G) (let e : 0 ≡ F = omega arith in e) (member-zero G)))
    ]

-- without special gaps every natural is a member
pub all-members : (G : List ℕ) (f : ℤ) → IsFrobenius G f → ((x : ℤ) → IsSpecialGap G x → ⊥) → IsFrobenius G (negsuc 0)
all-members G (pos F) h none = absurd (none (pos F) (frobenius-special G F h))
all-members G (negsuc a) h none = record { outside = λ p. p; above = above }
  where
    above : (x : ℤ) → negsuc 0 <ℤ x → IsIntegerMember G x
    above (pos n) l = h.above (pos n) (omega (arith, ints))
    above (negsuc b) l = absurd (omega (arith, ints, l))

-- the same members among the integers
integer-same : (G M : List ℕ) → ((n : ℕ) → IsMember G n ↔ IsMember M n) → (x : ℤ) → IsIntegerMember G x ↔ IsIntegerMember M x
integer-same G M same (pos n) = same n
integer-same G M same (negsuc n) = ((λ p. p), λ p. p)

-- a list that is not empty has an entry
pub some-entry : (xs : List ℤ) → (xs ≡ [] → ⊥) → 0 < length xs
some-entry [] n = absurd (n refl)
some-entry (x ∷ xs) n = omega arith

-- an empty list lists no special gap
pub no-special : (G : List ℕ) (special : List ℤ) → ListsIntegers (IsSpecialGap G) special → special ≡ [] → (x : ℤ) → IsSpecialGap G x → ⊥
no-special G special sp e x s = let t = subst (λ l. Contains l x) e ((sp.exactly x).1 s) in omega (arith, t.1)

-- the naturals are irreducible
pub whole-irredundant : (G M : List ℕ) → IsFrobenius G (negsuc 0) → Generates (IsMember G) M → IsIrredundant G (M ∷ [])
whole-irredundant G M h g = record {
  irreducible = All-cons IsIrreducible M [] (symmetric-irreducible M (naturals-symmetric M frobenius)) (All-nil IsIrreducible);
  meets = λ x. (
    (λ p. All-cons (λ M. IsIntegerMember M x) M [] ((integer-same G M g.same x).0 p) (All-nil (λ M. IsIntegerMember M x))),
    (λ all. (integer-same G M g.same x).1 (all 0 [] (omega arith))),
  );
  needed = λ k l. (negsuc 0, (λ p. p), (λ j m d. absurd (d (omega (arith, l, m)))));
}
  where
    frobenius : IsFrobenius M (negsuc 0)
    frobenius = record { outside = λ p. p; above = λ x l. (integer-same G M g.same x).0 (h.above x l) }

-- the number itself lies in the cover
lies-at : (G : List ℕ) (n : ℕ) (k : ℤ) → LiesInCover G (pos n) k → IsInCover G k n
lies-at G n k t = subst (IsInCover G k) (let e = t.1 in let same : t.0 ≡ n = omega (arith, ints, e) in same) t.2

module _ (G : List ℕ) (special chosen : List ℤ) (L : List (List ℕ)) (f : ℤ) (sp : ListsIntegers (IsSpecialGap G) special) (ch : IsChosen G [] (reverse special) chosen)
    (covers : AreCovers G chosen L) (frobenius : IsFrobenius G f) (some : 0 < length special) where
  -- a cover for each chosen gap
  long : length L ≡ length chosen
  long = AllZip-long (λ h M. Generates (IsInCover G h) M) chosen L covers

  -- the k-th is the cover of the k-th
  at : (k : ℕ) → k < length L → Generates (IsInCover G (get_or chosen k (pos 0))) (get_or L k [])
  at k l = zip-at (λ h M. Generates (IsInCover G h) M) chosen L k (pos 0) [] covers (omega (arith, l, long))

  -- a chosen one is a gap
  chosen-gap : (k : ℕ) → k < length chosen → (n : ℕ) × (get_or chosen k (pos 0) ≡ pos n) × IsGap G n
  chosen-gap k l =
      let t = chosen-in G [] (reverse special) chosen ch k (pos 0) l in
      special-natural G (get_or chosen k (pos 0)) ((sp.exactly (get_or chosen k (pos 0))).0 (contains-reversed special (get_or chosen k (pos 0)) t.0))

  -- each cover is irreducible
  irreducible : All IsIrreducible L
  irreducible k d l =
      let t = chosen-gap k (omega (arith, l, long)) in
      subst IsIrreducible (get_or_default L k [] d l)
      (cover-irreducible G t.0 (get_or L k []) t.2 (subst (λ h. Generates (IsInCover G h) (get_or L k [])) t.1 (at k l)))

  -- what lies in each cover, and two such numbers together
  each-add : (a b : ℕ) → IsInEachCover G chosen (pos a) → IsInEachCover G chosen (pos b) → IsInEachCover G chosen (pos (a + b))
  each-add a b p q k d l =
      let t = chosen-gap k l in
      let e = t.1 ∙ refl in
      let same = get_or_default chosen k (pos 0) d l in
      let low : pos 0 ≤ℤ get_or chosen k d = subst (λ h. pos 0 ≤ℤ h) (sym e ∙ same) (omega (arith, ints)) in
      (a + b, refl, cover-add G (get_or chosen k d) a b low (lies-at G a (get_or chosen k d) (p k d l)) (lies-at G b (get_or chosen k d) (q k d l)))

  -- a member lies in each cover
  each-member : (n : ℕ) → IsMember G n → IsInEachCover G chosen (pos n)
  each-member n p k d l = (n, refl, inl p)

  -- the greatest number of all covers that is no member would be a special gap
  met : (k n : ℕ) → f <ℤ pos (n + k) → IsInEachCover G chosen (pos n) → IsMember G n
  met zero n l all = frobenius.above (pos n) (omega (arith, ints, l))
  met (suc k) n l all = elim (member-decided G n) [
    | inl member ↦ member
    | inr gap ↦
        let positive : 0 < n = positive-gap n gap in
        let found : IsSpecialGap G (pos n) = record {
          pseudo_frobenius = record { outside = gap; absorbed = λ s more q. met k (n + s) (omega (arith, ints, l, more)) (each-add n s all (each-member s q)) };
          double = met k (n + n) (omega (arith, ints, l, positive)) (each-add n n all all);
        } in
        absurd (chosen-missing G [] (reverse special) chosen ch n (reversed-contains special (pos n) ((sp.exactly (pos n)).1 found)) gap (All-nil (LiesInCover G (pos n))) all)
  ]
    where
      positive-gap : (n : ℕ) → IsGap G n → 0 < n
      positive-gap n gap = elim (cases_lt 0 n) [
        | inl more ↦ more
        | inr none ↦ absurd (gap (subst (IsMember G) (let e : 0 ≡ n = omega arith in e) (member-zero G)))
      ]

  -- so far past n all are members
  past : (f : ℤ) (n : ℕ) → (k : ℕ) × (f <ℤ pos (n + k))
  past (pos F) n = (F + 1, omega (arith, ints))
  past (negsuc a) n = (0, omega (arith, ints))

  -- there is a chosen one
  not-empty : 0 < length L
  not-empty = elim (cases_eq (length chosen) 0) [
    | inl none ↦
        let x = get_or special 0 (pos 0) in
        let has = Contains-get_or special 0 (pos 0) some in
        let t = special-natural G x ((sp.exactly x).0 has) in
        absurd (chosen-missing G [] (reverse special) chosen ch t.0 (reversed-contains special (pos t.0) (subst (Contains special) t.1 has)) t.2
        (All-nil (LiesInCover G (pos t.0))) (λ k d l. absurd (omega (arith, l, none))))
    | inr more ↦ omega (arith, more, long)
  ]

  -- the covers meet in the semigroup
  meets : (x : ℤ) → IsIntegerMember G x ↔ IsInAll L x
  meets (pos n) = (
    (λ p k d l. subst (λ M. IsMember M n) (get_or_default L k [] d l) (((at k l).same n).0 (inl p))),
    (λ all.
        let t = past f n in
        met t.0 n t.1 (λ k d l. (n, refl, subst (λ h. IsInCover G h n) (get_or_default chosen k (pos 0) d l) (((at k (omega (arith, l, long))).same n).1 (all k [] (omega (arith, l, long))))))),
  )
  meets (negsuc a) = ((λ p. absurd p), (λ all. all 0 [] not-empty))

  -- any two of the chosen ones
  pairs : AllPairs (IsLater G) chosen
  pairs = chosen-pairs G [] (reverse special) chosen (descending special sp.ascending) ch

  -- the k-th chosen gap is in all covers but its own: it is above the later ones, and the earlier ones took it in
  needed : (k : ℕ) → k < length L → (x : ℤ) × (IsIntegerMember G x → ⊥) × ((j : ℕ) → j < length L → (j ≡ k → ⊥) → IsIntegerMember (get_or L j []) x)
  needed k l =
      let t = chosen-gap k (omega (arith, l, long)) in (
        pos t.0,
        t.2,
        (λ j m d. ((at j m).same t.0).0 (elim (cases_lt j k) [
          | inl before ↦
              let p = pairs j k (pos 0) before (omega (arith, l, long)) in
              lies-at G t.0 (get_or chosen j (pos 0)) (subst (λ h. LiesInCover G h (get_or chosen j (pos 0))) t.1 p.lies)
          | inr after ↦
              let p = pairs k j (pos 0) (omega (arith, after, d)) (omega (arith, m, long)) in
              inr (inl (subst (λ h. get_or chosen j (pos 0) <ℤ h) t.1 p.less))
        ])),
      )

  -- the three together
  pub covers-irredundant : IsIrredundant G L
  covers-irredundant = record { irreducible = irreducible; meets = meets; needed = needed }
