-- From the least members that are known to the Apery list.
use Rattle.std.proofs.Common.{◌≡◌, ℕ, zero, suc, ◌+◌, ◌-◌, ◌*◌, ◌%◌, ◌^◌, ◌<◌, ◌≤◌, List, [], ◌∷◌, ◌++◌, length, get_or, set, refl, sym, ap, subst, ◌∙◌, inl, inr, arith}
use Rattle.std.specs.Prelude.{◌↔◌}
use Rattle.std.proofs.lemmas.Bool.{cases_eq}
use Rattle.std.proofs.lemmas.Nat.{mod_below}
use Rattle.std.proofs.lemmas.List.{length-set, get_or-set_same, get_or-set_other, length_push, get_or_append_left, get_or_push}
use Rattle.std.proofs.Math.Nat.{add-mod_right, mod-add-mod, mul-mod_left}
use Rattle.sg_defs.specs.Membership.{IsMember, IsNumericalSemigroup}
use Rattle.sg_defs.specs.Apery.{IsApery}
use Rattle.sg_defs.proofs.MembershipLemmas.{member-zero, member-add, member-entry, member-induction}
use Rattle.sg_classes.specs.Classes.{IsAboveEntry}
use Rattle.sg_classes.specs.Entries.{AreSmall}
use Rattle.sg_classes.specs.Table.{IsTable}
use Rattle.sg_classes.specs.declared.limits.TheConstants.{GENERATOR_LIMIT, MULTIPLICITY_LIMIT}
use Rattle.sg_classes.proofs.AperyLemmas.{member-above}
use Rattle.sg_classes.proofs.FitLemmas.{small-apery}
use Rattle.sg_classes.proofs.GeneratorLemmas.{holds-from_entries, push_cases}
use Rattle.sg_tables.specs.Circles.{AreKnown}
use Rattle.sg_tables.specs.Closed.{IsClosedUnder}
use Rattle.sg_tables.specs.Few.{IsTableOf}
use Rattle.sg_tables.proofs.CoverLemmas.{member-of_one}

-- the least members of a semigroup are its Apery list: each class has one, since none is above the limit
pub known-table : (G t : List ℕ) → IsNumericalSemigroup G → AreSmall G → length t ≤ MULTIPLICITY_LIMIT → IsTableOf G t → IsTable G t
known-table G t s small short h = record {
  semigroup = s;
  not_empty = h.known.not_empty;
  short = short;
  modulus = h.modulus;
  apery = record {
    entries = refl;
    member = λ i l. (reached i l).0;
    residue = λ i l. (reached i l).1;
    least = λ i y l e q.
        let low : get_or t (y % length t) 0 ≤ y = h.below y q in
        let same : y % length t ≡ i = sym (add-mod_right y (length t)) ∙ ap (λ x. x % length t) e ∙ (reached i l).1 in
        omega (arith, low, ap (λ j. get_or t j 0) same, e, h.known.not_empty);
  };
  small = λ i l. omega (arith, bound i l, short);
}
  where
    apery : (a : List ℕ) × IsApery G (length t) a × ((i : ℕ) → i < length t → get_or a i 0 ≤ length t * GENERATOR_LIMIT)
    apery = small-apery G (length t) s small h.known.not_empty h.modulus

    bound : (i : ℕ) → i < length t → get_or t i 0 ≤ length t * GENERATOR_LIMIT
    bound i l =
        let low : get_or t (get_or apery.0 i 0 % length t) 0 ≤ get_or apery.0 i 0 = h.below (get_or apery.0 i 0) (apery.1.member i l) in
        omega (arith, low, ap (λ j. get_or t j 0) (apery.1.residue i l), apery.2 i l)

    reached : (i : ℕ) → i < length t → IsMember G (get_or t i 0) × (get_or t i 0 % length t ≡ i)
    reached i l = elim (h.known.entry i l) [
      | inl none ↦ absurd (omega (arith, none, bound i l, short))
      | inr some ↦ some
    ]

-- what is known of the members of M is known of a list that makes them
pub known-more : (M N t : List ℕ) → ((x : ℕ) → IsMember M x → IsMember N x) → AreKnown M t → AreKnown N t
known-more M N t more h = record {
  not_empty = h.not_empty;
  zero = h.zero;
  entry = λ i l. elim (h.entry i l) [ inl none ↦ inl none | inr some ↦ inr (more (get_or t i 0) some.0, some.1) ];
}

-- a list that makes the same has the same table
pub table_of-same : (M N t : List ℕ) → ((x : ℕ) → IsMember N x ↔ IsMember M x) → IsTableOf M t → IsTableOf N t
table_of-same M N t same h = record {
  known = known-more M N t (λ x. (same x).1) h.known;
  below = λ x q. h.below x ((same x).0 q);
  modulus = (same (length t)).1 h.modulus;
}

-- a number that is at least the entry of its class is a member
pub above-is_member : (M t : List ℕ) (g : ℕ) → IsTableOf M t → g < 2 ^ 64 - 1 → IsAboveEntry t g → IsMember M g
above-is_member M t g h fits above =
    let i = g % length t in
    elim (h.known.entry i (mod_below g (length t) h.known.not_empty)) [
      | inl none ↦ absurd (omega (arith, none, above, fits))
      | inr some ↦ member-above M (length t) (get_or t i 0) g h.known.not_empty h.modulus some.0 some.1 above
    ]

-- the members of M are members of M and g
pub member-pushed : (M : List ℕ) (g x : ℕ) → IsMember M x → IsMember (M ++ g ∷ []) x
member-pushed M g = holds-from_entries (M ++ g ∷ []) M (λ k l.
    subst (IsMember (M ++ g ∷ [])) (get_or_append_left M (g ∷ []) 0 k l) (member-entry (M ++ g ∷ []) k (omega (arith, length_push M g))))

-- and so is g
pub last-pushed : (M : List ℕ) (g : ℕ) → IsMember (M ++ g ∷ []) g
last-pushed M g = subst (IsMember (M ++ g ∷ [])) (get_or_push M g 0 (length M) refl) (member-entry (M ++ g ∷ []) (length M) (omega (arith, length_push M g)))

-- a member of M and g is a member of M and a multiple of g
pushed-split : (M : List ℕ) (g x : ℕ) → IsMember (M ++ g ∷ []) x → (y n : ℕ) × IsMember M y × (x ≡ y + n * g)
pushed-split M g = member-induction (λ x. (y n : ℕ) × IsMember M y × (x ≡ y + n * g)) (M ++ g ∷ []) (0, 0, member-zero M, omega arith) step
  where
    step : (i x : ℕ) → i < length (M ++ g ∷ []) → ((y n : ℕ) × IsMember M y × (x ≡ y + n * g)) → (y n : ℕ) × IsMember M y × (x + get_or (M ++ g ∷ []) i 0 ≡ y + n * g)
    step i x l p = elim (push_cases M g i l) [
      | inl old ↦ (p.0 + get_or M i 0, p.1, member-add M p.0 (get_or M i 0) p.2 (member-entry M i old.0), omega (arith, p.3, old.1))
      | inr new ↦ (p.0, p.1 + 1, p.2, omega (arith, p.3, new.1))
    ]

-- so many steps by g, under which the table is closed
steps-below : (t : List ℕ) (g y n : ℕ) → 0 < length t → IsClosedUnder t g → IsAboveEntry t y → IsAboveEntry t (y + n * g)
steps-below t g y zero some closed h = subst (IsAboveEntry t) (let e : y ≡ y + 0 * g = omega arith in e) h
steps-below t g y (suc n) some closed h =
    let x = y + n * g in
    let i = x % length t in
    let before : get_or t i 0 ≤ x = steps-below t g y n some closed h in
    let step : get_or t ((i + g) % length t) 0 ≤ get_or t i 0 + g = closed i (mod_below x (length t) some) in
    let same : (i + g) % length t ≡ (x + g) % length t = mod-add-mod x (length t) g in
    let next : IsAboveEntry t (x + g) = omega (arith, before, step, ap (λ j. get_or t j 0) same) in
    subst (IsAboveEntry t) (let e : x + g ≡ y + suc n * g = omega arith in e) next

-- a generator more, under which the table was closed
pub table_of-pushed : (M t u : List ℕ) (g : ℕ) → IsTableOf M t → length u ≡ length t → ((i : ℕ) → i < length t → get_or u i 0 ≤ get_or t i 0) → IsClosedUnder u g →
    (AreKnown (M ++ g ∷ []) t → AreKnown (M ++ g ∷ []) u) → IsTableOf (M ++ g ∷ []) u
table_of-pushed M t u g h long down closed known = record {
  known = known (known-more M (M ++ g ∷ []) t (member-pushed M g) h.known);
  below = λ x q.
      let p = pushed-split M g x q in
      let i = p.0 % length t in
      let first : IsAboveEntry u p.0 = omega (arith, ap (λ n. get_or u (p.0 % n) 0) long, down i (mod_below p.0 (length t) h.known.not_empty), h.below p.0 p.2) in
      subst (IsAboveEntry u) (sym p.3) (steps-below u g p.0 p.1 (omega (arith, long, h.known.not_empty)) closed first);
  modulus = subst (IsMember (M ++ g ∷ [])) (sym long) (member-pushed M g (length t) h.modulus);
}

-- a table in which 0 alone is known has the multiples of its length
pub table_of-first : (t : List ℕ) (m : ℕ) → length t ≡ m → 0 < m → ((k : ℕ) → k < length t → get_or t k 0 ≡ 2 ^ 64 - 1) → IsTableOf (m ∷ []) (set t 0 0)
table_of-first t m long some none = record {
  known = record {
    not_empty = omega (arith, same, long, some);
    zero = zeroth;
    entry = λ i l. elim (cases_eq i 0) [
      | inl e ↦
          let at : get_or (set t 0 0) i 0 ≡ 0 = ap (λ j. get_or (set t 0 0) j 0) e ∙ zeroth in
          inr (subst (IsMember (m ∷ [])) (sym at) (member-zero (m ∷ [])), (let r : 0 % length (set t 0 0) ≡ 0 = omega arith in ap (λ x. x % length (set t 0 0)) at ∙ r ∙ sym e))
      | inr other ↦ inl (get_or-set_other t 0 i 0 0 other ∙ none i (omega (arith, same, l)))
    ];
  };
  below = λ x q.
      let p = member-of_one m x q in
      let r : x % length (set t 0 0) ≡ 0 = ap (λ n. x % n) (same ∙ long) ∙ ap (λ y. y % m) p.1 ∙ mul-mod_left p.0 m in
      omega (arith, ap (λ j. get_or (set t 0 0) j 0) r, zeroth);
  modulus = subst (IsMember (m ∷ [])) (sym (same ∙ long)) (member-entry (m ∷ []) 0 (omega arith));
}
  where
    same : length (set t 0 0) ≡ length t
    same = length-set t 0 0

    zeroth : get_or (set t 0 0) 0 0 ≡ 0
    zeroth = get_or-set_same t 0 0 0 (omega (arith, long, some))
