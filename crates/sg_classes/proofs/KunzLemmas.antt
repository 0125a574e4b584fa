-- A list that meets Kunz's conditions is the Apery list of the numerical semigroup of the numbers above its entries.
use Rattle.std.proofs.Common.{◌≡◌, ℕ, ◌+◌, ◌*◌, ◌/◌, ◌%◌, ◌<◌, ◌≤◌, ◌↔◌, List, length, get_or, set, refl, sym, ap, subst, ◌∙◌, inl, inr, arith}
use Rattle.std.specs.Prelude.{Contains}
use Rattle.std.specs.Int.{◌∣◌}
use Rattle.std.proofs.lemmas.Bool.{cases_lt, cases_eq}
use Rattle.std.proofs.lemmas.Nat.{mod_below}
use Rattle.std.proofs.lemmas.Nat.Gcd.{le_of_dvd, dvd_trans}
use Rattle.std.proofs.lemmas.List.{length-set, get_or-set_same, get_or-set_other}
use Rattle.std.proofs.lemmas.List.Elements.{All-from_get_or}
use Rattle.std.proofs.Math.Nat.{mod-add-div, mod_self, add-mod_right, dvd-add_iff_left, dvd-mul_left}
use Rattle.sg_defs.specs.Membership.{IsMember, IsNumericalSemigroup, Generates}
use Rattle.sg_defs.proofs.MembershipLemmas.{member-zero, member-add, member-induction}
use Rattle.sg_classes.specs.Classes.{IsAboveEntry, IsClassList, IsKunz}
use Rattle.sg_classes.specs.Fit.{IsFit}
use Rattle.sg_classes.specs.Table.{IsAperyTable, IsMinimalTable}
use Rattle.sg_classes.proofs.ResidueLemmas.{residue-sum, zero-residue}
use Rattle.sg_classes.proofs.AperyLemmas.{apery-member, member-above}
use Rattle.sg_classes.proofs.GeneratorLemmas.{contains-place, place-contains, member-listed}
use Rattle.sg_classes.proofs.BoundLemmas.{apery-bound}
use Rattle.sg_classes.specs.declared.limits.TheConstants.{GENERATOR_LIMIT}

module _ (t : List ℕ) (c : IsClassList t) where
  pub above-zero : IsAboveEntry t 0
  above-zero = let e = ap (λ i. get_or t i 0) (zero-residue (length t) c.not_empty) in omega (arith, e, c.zero)

  pub above-entry : (i : ℕ) → i < length t → IsAboveEntry t (get_or t i 0)
  above-entry i l = let e = ap (λ j. get_or t j 0) (c.residue i l) in omega (arith, e)

  pub above-modulus : IsAboveEntry t (length t)
  above-modulus =
      omega (arith, ap (λ j. get_or t j 0) (mod_self (length t)), c.zero)

-- the modulus and the other entries
abbrev pub class_generators : List ℕ → List ℕ
class_generators t = set t 0 (length t)

module _ (t : List ℕ) (k : IsKunz t) where
  positive : 0 < length t
  positive = k.classes.not_empty

  pub above-add : (a b : ℕ) → IsAboveEntry t a → IsAboveEntry t b → IsAboveEntry t (a + b)
  above-add a b p q =
      let e = ap (λ j. get_or t j 0) (residue-sum a b (length t)) in
      omega (arith, e, k.sums (a % length t) (b % length t) (mod_below a (length t) positive) (mod_below b (length t) positive), p, q)

  gen-above : (i : ℕ) → i < length (class_generators t) → IsAboveEntry t (get_or (class_generators t) i 0)
  gen-above i l = elim (cases_eq i 0) [
    | inl e ↦ subst (IsAboveEntry t) (sym (get_or-set_same t 0 (length t) 0 positive) ∙ ap (λ j. get_or (class_generators t) j 0) (sym e)) (above-modulus t k.classes)
    | inr other ↦ subst (IsAboveEntry t) (sym (get_or-set_other t 0 i (length t) 0 other)) (above-entry t k.classes i (omega (arith, length-set t 0 (length t))))
  ]

  -- what the generators make is above its entry
  pub above-member : (D : List ℕ) → ((x : ℕ) → Contains D x → Contains (class_generators t) x) → (x : ℕ) → IsMember D x → IsAboveEntry t x
  above-member D listed = member-induction (IsAboveEntry t) D (above-zero t k.classes) (λ i x l p.
      let q = contains-place (class_generators t) (get_or D i 0) (listed (get_or D i 0) (place-contains D i l)) in
      above-add x (get_or D i 0) p (subst (IsAboveEntry t) q.2 (gen-above q.0 q.1)))

-- an entry is made by a list that holds the generators
pub entry-made : (t D : List ℕ) → IsClassList t → ((x : ℕ) → Contains (class_generators t) x → Contains D x) → (i : ℕ) → i < length t → IsMember D (get_or t i 0)
entry-made t D c listed i l = elim (cases_eq i 0) [
  | inl e ↦ subst (IsMember D) (sym (ap (λ j. get_or t j 0) e ∙ c.zero)) (member-zero D)
  | inr other ↦ member-listed D (get_or t i 0) (listed (get_or t i 0)
      (subst (Contains (class_generators t)) (get_or-set_other t 0 i (length t) 0 other) (place-contains (class_generators t) i (omega (arith, length-set t 0 (length t))))))
]

-- the modulus stands among the generators
pub modulus-listed : (t : List ℕ) → 0 < length t → Contains (class_generators t) (length t)
modulus-listed t l = subst (Contains (class_generators t)) (get_or-set_same t 0 (length t) 0 l) (place-contains (class_generators t) 0 (omega (arith, length-set t 0 (length t))))

-- a number that is above its entry is made by a list that holds the generators
pub member-made : (t D : List ℕ) → IsClassList t → ((x : ℕ) → Contains (class_generators t) x → Contains D x) → (x : ℕ) → IsAboveEntry t x → IsMember D x
member-made t D c listed x h =
    let i = x % length t in
    let inside : i < length t = mod_below x (length t) c.not_empty in
    member-above D (length t) (get_or t i 0) x c.not_empty (member-listed D (length t) (listed (length t) (modulus-listed t c.not_empty)))
    (entry-made t D c listed i inside) (c.residue i inside) h

-- the entries and the modulus have no common divisor above 1
coprime : (t : List ℕ) → IsClassList t → (d : ℕ) → ((x : ℕ) → Contains (class_generators t) x → d ∣ x) → d ≤ 1
coprime t c d h = elim (cases_lt 1 (length t)) [
  | inl more ↦
      let w = get_or t 1 0 in
      let listed : Contains (class_generators t) w = subst (Contains (class_generators t)) (get_or-set_other t 0 1 (length t) 0 (λ e. absurd (omega arith)))
      (place-contains (class_generators t) 1 (omega (arith, length-set t 0 (length t)))) in
      let split : 1 + (w / length t) * length t ≡ w = omega (arith, mod-add-div w (length t), c.residue 1 more) in
      let whole : d ∣ (1 + (w / length t) * length t) = subst (λ n. d ∣ n) (sym split) (h w listed) in
      let part : d ∣ ((w / length t) * length t) = dvd_trans d (h (length t) (modulus-listed t c.not_empty)) (dvd-mul_left (length t) (w / length t)) in
      le_of_dvd (omega arith) ((dvd-add_iff_left d part).1 whole)
  | inr less ↦
      let e : length t ≡ 1 = omega (arith, c.not_empty) in
      le_of_dvd (omega arith) (subst (λ n. d ∣ n) e (h (length t) (modulus-listed t c.not_empty)))
]

-- the generators are above 0
pub gen-positive : (t : List ℕ) → IsClassList t → (x : ℕ) → Contains (class_generators t) x → 1 ≤ x
gen-positive t c x h =
    let p = contains-place (class_generators t) x h in
    elim (cases_eq p.0 0) [
      | inl e ↦ omega (arith, p.2, get_or-set_same t 0 (length t) 0 c.not_empty, ap (λ j. get_or (class_generators t) j 0) e, c.not_empty)
      | inr other ↦
          let inside : p.0 < length t = omega (arith, p.1, length-set t 0 (length t)) in
          let same : get_or t p.0 0 ≡ x = sym (get_or-set_other t 0 p.0 (length t) 0 other) ∙ p.2 in
          elim (cases_eq x 0) [
            | inl none ↦ absurd (other (sym (c.residue p.0 inside) ∙ ap (λ w. w % length t) (same ∙ none) ∙ zero-residue (length t) c.not_empty))
            | inr some ↦ omega arith
          ]
    ]

-- a list that holds the generators and no others is a numerical semigroup's
pub class-semigroup : (t D : List ℕ) → IsClassList t → ((x : ℕ) → Contains (class_generators t) x → Contains D x) → ((x : ℕ) → Contains D x → Contains (class_generators t) x) → IsNumericalSemigroup D
class-semigroup t D c listed only = record {
  not_empty = let p = contains-place D (length t) (listed (length t) (modulus-listed t c.not_empty)) in omega (arith, p.1);
  positive = All-from_get_or (λ g. 1 ≤ g) D 0 (λ i l. gen-positive t c (get_or D i 0) (only (get_or D i 0) (place-contains D i l)));
  coprime = λ d h. coprime t c d (λ x q. let p = contains-place D x (listed x q) in subst (λ n. d ∣ n) p.2 (h p.0 0 p.1));
}

-- of what is above its entry the list is the Apery list
pub kunz-table : (t G : List ℕ) → IsKunz t → IsNumericalSemigroup G → ((n : ℕ) → IsAboveEntry t n ↔ IsMember G n) → IsAperyTable G t
kunz-table t G k s same = record {
  semigroup = s;
  not_empty = k.classes.not_empty;
  modulus = (same (length t)).0 (above-modulus t k.classes);
  apery = record {
    entries = refl;
    member = λ i l. (same (get_or t i 0)).0 (above-entry t k.classes i l);
    residue = k.classes.residue;
    least = least;
  };
}
  where
    least : (i y : ℕ) → i < length t → y + length t ≡ get_or t i 0 → IsMember G y → ⊥
    least i y l e q =
        let r : y % length t ≡ i = sym (add-mod_right y (length t)) ∙ ap (λ x. x % length t) e ∙ k.classes.residue i l in
        let low : get_or t i 0 ≤ y = subst (λ j. get_or t j 0 ≤ y) r ((same y).1 q) in
        omega (arith, k.classes.not_empty)

-- a list that meets Kunz's conditions is the Apery list of some semigroup
pub kunz-has_table : (t : List ℕ) → IsKunz t → (G : List ℕ) × IsAperyTable G t
kunz-has_table t k =
    let D = class_generators t in (
      D,
      kunz-table t D k (class-semigroup t D k.classes (λ x h. h) (λ x h. h)) (λ n. (member-made t D k.classes (λ x h. h) n, above-member t k D (λ x h. h) n)),
    )

-- and of each that has the numbers above its entries
pub kunz-generated_table : (t M : List ℕ) → IsKunz t → Generates (IsAboveEntry t) M → IsAperyTable M t
kunz-generated_table t M k g = kunz-table t M k g.semigroup g.same

-- an Apery list meets Kunz's conditions
pub kunz-apery : (G t : List ℕ) → IsAperyTable G t → IsKunz t
kunz-apery G t h = record {
  classes = record {
    not_empty = h.not_empty;
    zero =
        let e = ap (λ i. get_or t i 0) (zero-residue (length t) h.not_empty) in
        omega (arith, e, (apery-member G (length t) t h.not_empty h.modulus h.apery 0).0 (member-zero G));
    residue = h.apery.residue;
  };
  sums = λ i j l m.
      let v = get_or t i 0 in
      let w = get_or t j 0 in
      let low = (apery-member G (length t) t h.not_empty h.modulus h.apery (v + w)).0 (member-add G v w (h.apery.member i l) (h.apery.member j m)) in
      let r : (v + w) % length t ≡ (i + j) % length t = sym (residue-sum v w (length t)) ∙ ap (λ x. (x + w % length t) % length t) (h.apery.residue i l) ∙ ap (λ x. (i + x) % length t) (h.apery.residue j m) in
      subst (λ x. get_or t x 0 ≤ v + w) r low;
}

-- the table of a list that meets Kunz's conditions modulo the multiplicity
pub kunz-minimal_table : (t M : List ℕ) → IsKunz t → Generates (IsAboveEntry t) M → IsFit M → length t ≡ get_or M 0 0 → IsMinimalTable M t
kunz-minimal_table t M k g fit first =
    let table = kunz-table t M k g.semigroup g.same in
    record {
      table = record {
        semigroup = g.semigroup;
        not_empty = table.not_empty;
        short = omega (arith, first, fit.multiplicity);
        modulus = table.modulus;
        apery = table.apery;
        small = λ i l. omega (arith, apery-bound M t GENERATOR_LIMIT table (λ j m. omega (arith, fit.small j m)) i l, first, fit.multiplicity);
      };
      minimal = g.minimal;
      fit = fit;
      multiplicity = first;
    }

-- a class list of a set that is closed under sums meets Kunz's conditions
pub kunz-from_closed : (P : ℕ → Type 0) (t : List ℕ) → IsClassList t → ((n : ℕ) → P n ↔ IsAboveEntry t n) → ((a b : ℕ) → P a → P b → P (a + b)) → IsKunz t
kunz-from_closed P t c same sums = record {
  classes = c;
  sums = λ i j l m.
      let v = get_or t i 0 in
      let w = get_or t j 0 in
      let low : get_or t ((v + w) % length t) 0 ≤ v + w = (same (v + w)).0 (sums v w ((same v).1 (above-entry t c i l)) ((same w).1 (above-entry t c j m))) in
      let r : (v + w) % length t ≡ (i + j) % length t = sym (residue-sum v w (length t)) ∙ ap (λ x. (x + w % length t) % length t) (c.residue i l) ∙ ap (λ x. (i + x) % length t) (c.residue j m) in
      subst (λ x. get_or t x 0 ≤ v + w) r low;
}
