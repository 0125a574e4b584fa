-- What the order and the repeats of given generators do not change, and what does not change with a condition's form.
use Rattle.std.proofs.Common.{◌≡◌, ℕ, ◌<◌, ◌≤◌, List, length, get_or, subst, ◌∙◌, inl, inr, arith, ◌↔◌}
use Rattle.std.specs.Prelude.{Contains}
use Rattle.std.specs.Int.{◌∣◌}
use Rattle.std.specs.List.Sorted.{IsStrictlyIncreasing}
use Rattle.std.proofs.lemmas.List.Elements.{All-from_get_or}
use Rattle.sg_defs.specs.Membership.{IsMember, IsNumericalSemigroup, Generates}
use Rattle.sg_defs.proofs.MinimalLemmas.{first-least}
use Rattle.sg_defs.proofs.MembershipLemmas.{member-entry}
use Rattle.sg_classes.proofs.OneListLemmas.{entry-listed}
use Rattle.sg_classes.proofs.GeneratorLemmas.{contains-place, place-contains, member-listed, member-split, holds-from_entries}
use Rattle.sg_classes.specs.Entries.{AreSmall}
use Rattle.sg_classes.specs.Table.{IsAperyTable, IsTable, IsMinimalTable}
use Rattle.sg_classes.specs.declared.limits.TheConstants.{GENERATOR_LIMIT}
use Rattle.sg_classes.specs.Fit.{IsTooLarge}

-- what holds of each entry of ys holds of each entry of xs, where ys lists those
pub each-kept : (P : ℕ → Type 0) (xs ys : List ℕ) → ((x : ℕ) → Contains xs x → Contains ys x) → ((k : ℕ) → k < length ys → P (get_or ys k 0)) → (k : ℕ) → k < length xs → P (get_or xs k 0)
each-kept P xs ys keeps h k l =
    let p = contains-place ys (get_or xs k 0) (keeps (get_or xs k 0) (place-contains xs k l)) in
    subst P p.2 (h p.0 p.1)

-- xs and ys list the same numbers
module _ (xs ys : List ℕ) (keeps : (x : ℕ) → Contains xs x → Contains ys x) (adds_none : (x : ℕ) → Contains ys x → Contains xs x) where
  long : 0 < length ys → 0 < length xs
  long l = let p = contains-place xs (get_or ys 0 0) (adds_none (get_or ys 0 0) (place-contains ys 0 l)) in omega (arith, p.1)

  pub member-same : (n : ℕ) → IsMember xs n → IsMember ys n
  member-same = holds-from_entries ys xs (λ k l. member-listed ys (get_or xs k 0) (keeps (get_or xs k 0) (place-contains xs k l)))

  pub small-same : AreSmall ys → AreSmall xs
  small-same = each-kept (λ x. x < GENERATOR_LIMIT) xs ys keeps

  pub semigroup-same : IsNumericalSemigroup ys → IsNumericalSemigroup xs
  semigroup-same s = record {
    not_empty = long s.not_empty;
    positive = All-from_get_or (λ g. 1 ≤ g) xs 0 (each-kept (λ g. 1 ≤ g) xs ys keeps (λ k l. s.positive k 0 l));
    coprime = λ d h. s.coprime d (All-from_get_or (λ g. d ∣ g) ys 0 (each-kept (λ g. d ∣ g) ys xs adds_none (λ k l. h k 0 l)));
  }

pub generates-same : (xs ys : List ℕ) → ((x : ℕ) → Contains xs x → Contains ys x) → ((x : ℕ) → Contains ys x → Contains xs x) → (M : List ℕ) → Generates (IsMember ys) M → Generates (IsMember xs) M
generates-same xs ys keeps adds_none M g = record {
  semigroup = g.semigroup;
  minimal = g.minimal;
  same = λ n. ((λ p. (g.same n).0 (member-same xs ys keeps adds_none n p)), (λ q. member-same ys xs adds_none keeps n ((g.same n).1 q)));
}

-- no member above 0 is below the first entry
first-below : (G : List ℕ) → IsStrictlyIncreasing G → (n : ℕ) → 0 < n → IsMember G n → get_or G 0 0 ≤ n
first-below G up n positive h = elim (member-split G n h) [
  | inl e ↦ absurd (omega (arith, positive, e))
  | inr p ↦ omega (arith, first-least G up p.0 p.2, p.4)
]

-- lists with the same members begin with the same number
first-same : (D M : List ℕ) → IsStrictlyIncreasing D → IsNumericalSemigroup D → Generates (IsMember D) M → get_or D 0 0 ≡ get_or M 0 0
first-same D M up s g =
    let a = first-below D up (get_or M 0 0) (omega (arith, g.semigroup.positive 0 0 g.semigroup.not_empty)) ((g.same (get_or M 0 0)).1 (member-entry M 0 g.semigroup.not_empty)) in
    let b = first-below M g.minimal.ascending (get_or D 0 0) (omega (arith, s.positive 0 0 s.not_empty)) ((g.same (get_or D 0 0)).0 (member-entry D 0 s.not_empty)) in
    omega (arith, a, b)

-- a table serves every list with the same members
pub table-same : (D M t : List ℕ) → IsStrictlyIncreasing D → AreSmall D → length t ≡ get_or D 0 0 → IsTable D t → Generates (IsMember D) M → IsMinimalTable M t
table-same D M t up all_small long h g = record {
  table = record {
    semigroup = g.semigroup;
    not_empty = h.not_empty;
    short = h.short;
    modulus = (g.same (length t)).0 h.modulus;
    apery = record {
      entries = h.apery.entries;
      member = λ i l. (g.same (get_or t i 0)).0 (h.apery.member i l);
      residue = h.apery.residue;
      least = λ i y l e q. h.apery.least i y l e ((g.same y).1 q);
    };
    small = h.small;
  };
  minimal = g.minimal;
  fit = record {
    multiplicity = omega (arith, h.short, long, first-same D M up h.semigroup g);
    small = each-kept (λ x. x < GENERATOR_LIMIT) M D listed all_small;
  };
  multiplicity = long ∙ first-same D M up h.semigroup g;
}
  where
    listed : (x : ℕ) → Contains M x → Contains D x
    listed x c =
        let p = contains-place M x c in
        subst (Contains D) p.2 (entry-listed (IsMember D) M D g h.semigroup (λ n. ((λ q. q), (λ q. q))) p.0 p.1)

pub table-apery : (G t : List ℕ) → IsTable G t → IsAperyTable G t
table-apery G t h = record { semigroup = h.semigroup; not_empty = h.not_empty; modulus = h.modulus; apery = h.apery }

pub generates-iff : (P Q : ℕ → Type 0) → ((n : ℕ) → P n ↔ Q n) → (M : List ℕ) → Generates Q M → Generates P M
generates-iff P Q same M g = record {
  semigroup = g.semigroup;
  minimal = g.minimal;
  same = λ n. ((λ p. (g.same n).0 ((same n).0 p)), (λ q. (same n).1 ((g.same n).1 q)));
}

pub too_large-iff : (P Q : ℕ → Type 0) → ((n : ℕ) → P n ↔ Q n) → IsTooLarge Q → IsTooLarge P
too_large-iff P Q same h = (h.0, generates-iff P Q same h.0 h.1, h.2)
