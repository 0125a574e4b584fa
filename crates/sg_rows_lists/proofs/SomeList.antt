-- The rows on lists and integers have a value.
use Rattle.std.proofs.Common.{◌≡◌, ℕ, zero, suc, ◌+◌, ◌-◌, ◌<◌, ◌≤◌, List, [], ◌∷◌, Option, Some, None, length, get_or, inl, inr, refl, arith}
use Rattle.std.specs.Prelude.{IfSome, ℤ, pos, ⊤, ◌≤ℤ◌, All, Contains, unsigned_abs}
use Rattle.std.specs.Int.{IsGcd}
use Rattle.std.proofs.lemmas.Bool.{cases_lt, cases_eq}
use Rattle.std.proofs.lemmas.Int.{ints, by_lt_z}
use Rattle.std.proofs.lemmas.List.Elements.{All-nil, All-cons}
use Rattle.std.proofs.lemmas.Nat.Gcd.{IsGcd-from_zero, IsGcd-from_sub, IsGcd-swap, dvd-zero, dvd_trans}
use Rattle.sg_value.specs.Data.{int, list, Items}
use Rattle.sg_value.specs.Plain.{Things}
use Rattle.sg_rows.specs.Asks.{nothing}
use Rattle.sg_rows.specs.Entries.{entry_count}
use Rattle.sg_rows.specs.Kinds.{as_list, one}
use Rattle.sg_rows.specs.Lawful.{IsLawfulThing, AreLawful}
use Rattle.sg_rows.specs.Order.{fits}
use Rattle.sg_rows.specs.Values.{answers, a_natural}
use Rattle.sg_rows.proofs.FormLaws.{of_list_some, of_list_or_integers_some}
use Rattle.sg_rows.proofs.KindLemmas.{any_some}
use Rattle.sg_rows.proofs.SomeValue.{SomeValue, given_some, fitted_some, answers_some, bad_some, entry_some, natural_some, is_some_value, HasValue}
use Rattle.sg_rows_lists.specs.Concatenations.{concatenated}
use Rattle.sg_rows_lists.specs.Integers.{total, IsGreatest, IsLeast, IsGcdOfAll, IsLcmOfAll}
use Rattle.sg_rows_lists.specs.Lists.{a_number, integers_row, length_row, case_of}
use Rattle.sg_rows_lists.specs.declared.lists.ListCommand.{ListCommand}
use Rattle.sg_rows_lists.specs.declared.lists.ListCommand.TheVariants.{OfList, OfListOrIntegers, Length, Concatenation}
use Rattle.sg_rows_lists.specs.declared.lists.IntegersFact.{IntegersFact}
use Rattle.sg_rows_lists.specs.declared.lists.IntegersFact.TheVariants.{Gcd, Lcm, Maximum, Minimum, Sum}
use Rattle.sg_rows_lists.proofs.Dividing.{lcm_exists}
use Rattle.sg_rows_lists.proofs.Joining.{known-concatenated}

contains-first : (z : ℤ) (zs : List ℤ) → Contains (z ∷ zs) z
contains-first z zs = (0, (let l : 0 < length (z ∷ zs) = omega arith in l), refl)

contains-later : (z y : ℤ) (zs : List ℤ) → Contains zs y → Contains (z ∷ zs) y
contains-later z y zs h = (suc h.0, (let l : suc h.0 < length (z ∷ zs) = omega (arith, h.1) in l), h.2)

all-mono : (P Q : ℤ → Type 0) (zs : List ℤ) → ((y : ℤ) → P y → Q y) → All P zs → All Q zs
all-mono P Q zs f h k d l = f (get_or zs k d) (h k d l)

greatest-exists : (z : ℤ) (zs : List ℤ) → (g : ℤ) × IsGreatest (z ∷ zs) g
greatest-exists z [] = (z, (contains-first z [], All-cons (λ y. y ≤ℤ z) z [] (omega (arith, ints)) (All-nil (λ y. y ≤ℤ z))))
greatest-exists z (y ∷ ys) =
    let r = greatest-exists y ys in
    by_lt_z {P = (g : ℤ) × IsGreatest (z ∷ y ∷ ys) g} r.0 z
    (λ less. (z, (contains-first z (y ∷ ys), All-cons (λ x. x ≤ℤ z) z (y ∷ ys) (omega (arith, ints)) (all-mono (λ x. x ≤ℤ r.0) (λ x. x ≤ℤ z) (y ∷ ys) (λ x h. omega (arith, ints)) r.1.1))))
    (λ more. (r.0, (contains-later z r.0 (y ∷ ys) r.1.0, All-cons (λ x. x ≤ℤ r.0) z (y ∷ ys) more r.1.1)))

least-exists : (z : ℤ) (zs : List ℤ) → (g : ℤ) × IsLeast (z ∷ zs) g
least-exists z [] = (z, (contains-first z [], All-cons (λ y. z ≤ℤ y) z [] (omega (arith, ints)) (All-nil (λ y. z ≤ℤ y))))
least-exists z (y ∷ ys) =
    let r = least-exists y ys in
    by_lt_z {P = (g : ℤ) × IsLeast (z ∷ y ∷ ys) g} z r.0
    (λ less. (z, (contains-first z (y ∷ ys), All-cons (λ x. z ≤ℤ x) z (y ∷ ys) (omega (arith, ints)) (all-mono (λ x. r.0 ≤ℤ x) (λ x. z ≤ℤ x) (y ∷ ys) (λ x h. omega (arith, ints)) r.1.1))))
    (λ more. (r.0, (contains-later z r.0 (y ∷ ys) r.1.0, All-cons (λ x. r.0 ≤ℤ x) z (y ∷ ys) more r.1.1)))

-- by going down with the sum of the two
gcd-below : (k a b : ℕ) → a + b ≤ k → (g : ℕ) × IsGcd a b g
gcd-below zero a b l = (a, IsGcd-from_zero a b (omega arith))
gcd-below (suc k) a b l = elim (cases_eq b 0) [
  | inl none ↦ (a, IsGcd-from_zero a b none)
  | inr some ↦ elim (cases_lt a b) [
    | inr more ↦ let r = gcd-below k (a - b) b (omega arith) in (r.0, IsGcd-from_sub a b r.0 more r.1)
    | inl less ↦ elim (cases_eq a 0) [
      | inl nothing ↦ (b, IsGcd-swap b a b (IsGcd-from_zero b a nothing))
      | inr other ↦
          let order : a ≤ b = omega arith in
          let r = gcd-below k (b - a) a (omega arith) in
          (r.0, IsGcd-swap b a r.0 (IsGcd-from_sub b a r.0 order r.1))
    ]
  ]
]

gcd-exists : (zs : List ℤ) → (g : ℕ) × IsGcdOfAll zs g
gcd-exists [] = (0, λ d. ((λ h. tt), (λ h. dvd-zero d)))
gcd-exists (z ∷ zs) =
    let r = gcd-exists zs in
    let g = gcd-below (unsigned_abs z + r.0) (unsigned_abs z) r.0 (omega arith) in
    (g.0, λ d. ((λ h. (dvd_trans d h g.1.0, (r.1 d).0 (dvd_trans d h g.1.1))), (λ h. g.1.2 d h.0 ((r.1 d).1 h.1))))

concatenated_lawful : (args : Items Things) (o : Option (Items Things)) → concatenated args ≡ o → AreLawful args → IfSome o AreLawful
concatenated_lawful args None e h = tt
concatenated_lawful args (Some ds) e h = known-concatenated IsLawfulThing args ds e h

number_some : (P : List ℤ → ℕ → Type 0) → ((zs : List ℤ) → (n : ℕ) × P zs n) → (zs : List ℤ) → HasValue (a_number (P zs) zs)
number_some P exists [] = bad_some ([] ≡ []) (a_natural (P [])) (inl refl) (λ some. absurd (some refl))
number_some P exists (z ∷ zs) = bad_some ((z ∷ zs) ≡ []) (a_natural (P (z ∷ zs))) (inr (λ e. cc)) (λ some. natural_some (P (z ∷ zs)) (exists (z ∷ zs)))

integers_some : (f : IntegersFact) (zs : List ℤ) → HasValue (integers_row f zs)
integers_some Gcd zs = number_some IsGcdOfAll gcd-exists zs
integers_some Lcm zs = number_some IsLcmOfAll lcm_exists zs
integers_some Maximum zs = entry_some IsGreatest greatest-exists zs
integers_some Minimum zs = entry_some IsLeast least-exists zs
integers_some Sum zs = answers_some (λ d. d ≡ int (total zs)) (is_some_value (int (total zs)) tt)

pub list_some : (c : ListCommand) (args : Items Things) → AreLawful args → SomeValue (case_of c args)
list_some (OfList f) = of_list_some (integers_row f) (integers_some f)
list_some (OfListOrIntegers f) = λ args l. of_list_or_integers_some (integers_row f) (integers_some f) args
list_some Length = λ args l.
    fitted_some (λ ds. ⊤) (one as_list args) nothing length_row (any_some (one as_list args)) (λ ds u. answers_some (λ d. d ≡ int (pos (entry_count ds))) (is_some_value (int (pos (entry_count ds))) tt))
list_some Concatenation = λ args l.
    given_some AreLawful (concatenated args) (λ ds. fits [] (answers (λ d. d ≡ list ds))) (concatenated_lawful args (concatenated args) refl l) (λ ds h. answers_some (λ d. d ≡ list ds) (is_some_value (list ds) h))
