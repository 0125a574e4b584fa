-- Intersections by their residue classes.
use Rattle.std.proofs.Common.{◌≡◌, ℕ, ◌+◌, ◌%◌, ◌<◌, ◌≤◌, ◌↔◌, List, length, get_or, max, ap, ◌∙◌, inl, inr, arith}
use Rattle.std.specs.Prelude.{◌⊎◌}
use Rattle.std.proofs.lemmas.Bool.{cases_lt}
use Rattle.std.proofs.lemmas.Nat.{mod_below}
use Rattle.sg_defs.specs.Membership.{IsMember, IsNumericalSemigroup, Generates}
use Rattle.sg_defs.specs.Apery.{IsApery}
use Rattle.sg_defs.proofs.MembershipLemmas.{member-zero, member-add, member-entry}
use Rattle.sg_classes.specs.Classes.{IsAboveEntry, IsClassList, IsKunz}
use Rattle.sg_classes.specs.Fit.{IsTooLarge}
use Rattle.sg_classes.proofs.AperyLemmas.{apery-member}
use Rattle.sg_classes.proofs.ExistsLemmas.{IsCofinite, generates-exists}
use Rattle.sg_classes.proofs.KunzLemmas.{kunz-from_closed}
use Rattle.sg_classes.proofs.ResidueLemmas.{zero-residue}
use Rattle.sg_classes.specs.declared.limits.TheConstants.{MULTIPLICITY_LIMIT}
use Rattle.sg_classes.proofs.EntryLemmas.{too_large-iff}
use Rattle.sg_classes.proofs.TableLemmas.{table-member}
use Rattle.sg_apery.specs.Common.{AreGreaterEntries, IsCommonEntry}
use Rattle.sg_apery.specs.Conditions.{IsInBoth}
use Rattle.sg_apery.specs.Fit.{IsSizeFault}
use Rattle.sg_apery.specs.declared.fault.TableFault.{TableFault}
use Rattle.sg_apery.specs.declared.fault.TableFault.TheVariants.{BadArgument, TooLarge, Memory}

-- of the greater entries of two Apery lists
module _ (A B s t list : List ℕ) (n : ℕ) (positive : 0 < n) (in_a : IsMember A n) (in_b : IsMember B n) (first : IsApery A n s) (second : IsApery B n t)
    (long : length list ≡ length s) (entries : (i : ℕ) → i < length s → get_or list i 0 ≡ max (get_or s i 0) (get_or t i 0)) where
  same_length : length list ≡ n
  same_length = long ∙ first.entries

  entry : (i : ℕ) → i < n → get_or list i 0 ≡ max (get_or s i 0) (get_or t i 0)
  entry i l = entries i (omega (arith, first.entries))

  zero-entry : (G u : List ℕ) → IsMember G n → IsApery G n u → get_or u 0 0 ≡ 0
  zero-entry G u q h =
      let e = ap (λ i. get_or u i 0) (zero-residue n positive) in
      omega (arith, e, (apery-member G n u positive q h 0).0 (member-zero G))

  -- the residue of the greater of two numbers of one residue
  residue-max : (x y i : ℕ) → x % n ≡ i → y % n ≡ i → max x y % n ≡ i
  residue-max x y i p q = elim (cases_lt x y) [
    | inl less ↦ let e : max x y ≡ y = omega arith in ap (λ z. z % n) e ∙ q
    | inr more ↦ let e : max x y ≡ x = omega arith in ap (λ z. z % n) e ∙ p
  ]

  pub greater-classes : IsClassList list
  greater-classes = record {
    not_empty = omega (arith, same_length, positive);
    zero = omega (arith, entry 0 positive, zero-entry A s in_a first, zero-entry B t in_b second);
    residue = λ i l.
        let m : i < n = omega (arith, same_length) in
        ap (λ k. get_or list i 0 % k) same_length ∙ ap (λ x. x % n) (entry i m) ∙ residue-max (get_or s i 0) (get_or t i 0) i (first.residue i m) (second.residue i m);
  }

  pub greater-same : (x : ℕ) → IsInBoth A B x ↔ IsAboveEntry list x
  greater-same x =
      let i = x % n in
      let l : i < n = mod_below x n positive in
      let e : get_or list (x % length list) 0 ≡ max (get_or s i 0) (get_or t i 0) = ap (λ k. get_or list (x % k) 0) same_length ∙ entry i l in
      let a = apery-member A n s positive in_a first x in
      let b = apery-member B n t positive in_b second x in
      ((λ p. omega (arith, e, a.0 p.0, b.0 p.1)), (λ q. (a.1 (omega (arith, e, q)), b.1 (omega (arith, e, q)))))

both-sums : (A B : List ℕ) (x y : ℕ) → IsInBoth A B x → IsInBoth A B y → IsInBoth A B (x + y)
both-sums A B x y p q = (member-add A x y p.0 q.0, member-add B x y p.1 q.1)

pub greater-kunz : (A B s t list : List ℕ) (n : ℕ) → 0 < n → IsMember A n → IsMember B n → IsApery A n s → IsApery B n t →
    AreGreaterEntries s t list → IsKunz list
greater-kunz A B s t list n positive in_a in_b first second g =
    kunz-from_closed (IsInBoth A B) list (greater-classes A B s t list n positive in_a in_b first second g.long g.entries)
    (greater-same A B s t list n positive in_a in_b first second g.long g.entries) (both-sums A B)

-- no number within the limit on multiplicities is a member of both
pub both-too_large : (A B s t : List ℕ) (c : ℕ) → IsNumericalSemigroup A → IsNumericalSemigroup B → length s ≡ get_or A 0 0 → length t ≡ get_or B 0 0 →
    IsApery A (get_or A 0 0) s → IsApery B (get_or B 0 0) t → ((i : ℕ) → i < length s → get_or s i 0 ≤ c) → ((i : ℕ) → i < length t → get_or t i 0 ≤ c) →
    ((n : ℕ) → IsCommonEntry s t n → ⊥) → IsTooLarge (IsInBoth A B)
both-too_large A B s t c a b long_s long_t first second small_s small_t none = (made.0, made.1, inl past)
  where
    in_a : (x : ℕ) → IsMember A x ↔ IsAboveEntry s x
    in_a = table-member A s a long_s first

    in_b : (x : ℕ) → IsMember B x ↔ IsAboveEntry t x
    in_b = table-member B t b long_t second

    positive : (G : List ℕ) → IsNumericalSemigroup G → 0 < get_or G 0 0
    positive G s = omega (arith, s.positive 0 0 s.not_empty)

    inside : (G u : List ℕ) → IsNumericalSemigroup G → length u ≡ get_or G 0 0 → (x : ℕ) → x % length u < length u
    inside G u s long x = mod_below x (length u) (omega (arith, long, s.positive 0 0 s.not_empty))

    decided : (x : ℕ) → IsInBoth A B x ⊎ (IsInBoth A B x → ⊥)
    decided x = elim (cases_lt x (get_or s (x % length s) 0)) [
      | inl less ↦ inr (λ p. omega (arith, (in_a x).0 p.0, less))
      | inr more ↦ elim (cases_lt x (get_or t (x % length t) 0)) [
        | inl less ↦ inr (λ p. omega (arith, (in_b x).0 p.1, less))
        | inr also ↦ inl ((in_a x).1 more, (in_b x).1 also)
      ]
    ]

    cofinite : IsCofinite (IsInBoth A B) c
    cofinite = record {
      decided = decided;
      zero_in = (member-zero A, member-zero B);
      sums = both-sums A B;
      all = λ x l. ((in_a x).1 (omega (arith, small_s (x % length s) (inside A s a long_s x))), (in_b x).1 (omega (arith, small_t (x % length t) (inside B t b long_t x))));
    }

    made : (M : List ℕ) × Generates (IsInBoth A B) M
    made = generates-exists (IsInBoth A B) c cofinite

    past : MULTIPLICITY_LIMIT < get_or made.0 0 0
    past = elim (cases_lt MULTIPLICITY_LIMIT (get_or made.0 0 0)) [
      | inl less ↦ less
      | inr more ↦
          let p : IsInBoth A B (get_or made.0 0 0) = (made.1.same (get_or made.0 0 0)).1 (member-entry made.0 0 made.1.semigroup.not_empty) in
          absurd (none (get_or made.0 0 0) (record {
            positive = omega (arith, made.1.semigroup.positive 0 0 made.1.semigroup.not_empty);
            small = more;
            first = (in_a (get_or made.0 0 0)).0 p.0;
            second = (in_b (get_or made.0 0 0)).0 p.1;
          }))
    ]

-- the condition of an intersection, by the greater entries
pub greater-member : (A B s t list : List ℕ) (n : ℕ) → 0 < n → IsMember A n → IsMember B n → IsApery A n s → IsApery B n t → AreGreaterEntries s t list → (x : ℕ) → IsInBoth A B x ↔ IsAboveEntry list x
greater-member A B s t list n positive in_a in_b first second g = greater-same A B s t list n positive in_a in_b first second g.long g.entries

pub size_fault-iff : (P Q : ℕ → Type 0) → ((n : ℕ) → P n ↔ Q n) → (f : TableFault) → IsSizeFault Q f → IsSizeFault P f
size_fault-iff P Q same BadArgument h = h
size_fault-iff P Q same TooLarge h = too_large-iff P Q same h
size_fault-iff P Q same (Memory e) h = tt
