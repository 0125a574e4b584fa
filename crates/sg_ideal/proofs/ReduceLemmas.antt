-- What generators move into a set, generator by generator; and the least number of a set.
use Rattle.std.proofs.Common.{◌≡◌, ℕ, ◌+◌, ◌%◌, ◌<◌, ◌≤◌, ◌↔◌, List, length, get_or, refl, sym, ap, subst, ◌∙◌, inl, inr, arith}
use Rattle.std.specs.Prelude.{ℤ, pos, ◌+ℤ◌, ◌-ℤ◌, Contains}
use Rattle.std.proofs.lemmas.Bool.{cases_lt}
use Rattle.std.proofs.lemmas.Int.{ints}
use Rattle.std.proofs.lemmas.Nat.{mod_below}
use Rattle.std.proofs.lemmas.List.{get_or_default}
use Rattle.std.proofs.Math.Nat.{mod-eq_of_lt, mod-le}
use Rattle.sg_classes.specs.declared.limits.TheConstants.{MULTIPLICITY_LIMIT}
use Rattle.sg_classes.specs.Classes.{IsAboveEntry}
use Rattle.sg_ideal.specs.Classes.{AreClasses, IsEveryClass, IsFrom, IsLeastAbove, IsRebased, IsReduced}
use Rattle.sg_ideal.proofs.FromLemmas.{at-natural, natural-at}

-- the classes of all naturals
pub every-classes : (count : ℕ) (list : List ℕ) → 0 < count → count ≤ MULTIPLICITY_LIMIT → IsEveryClass count list → AreClasses list
every-classes count list positive short h = record {
  not_empty = omega (arith, h.long);
  short = omega (arith, h.long);
  residue = λ i l. let inside : i < count = omega (arith, h.long) in ap (λ n. get_or list i 0 % n) h.long ∙ ap (λ x. x % count) (h.entries i inside) ∙ mod-eq_of_lt inside;
  small = λ i l. let inside : i < count = omega (arith, h.long) in let e = h.entries i inside in omega (arith, e);
}

pub every-above : (count : ℕ) (list : List ℕ) → 0 < count → IsEveryClass count list → (n : ℕ) → IsAboveEntry list n
every-above count list positive h n =
    let inside : n % count < count = mod_below n count positive in
    let e = ap (λ k. get_or list (n % k) 0) h.long ∙ h.entries (n % count) inside in
    omega (arith, e, mod-le n count)

-- what is narrowed from all naturals
pub rebased-narrowed : (t list now : List ℕ) (b count : ℕ) → 0 < count → IsEveryClass count list → length now ≡ length list → length list ≡ length t → AreClasses now →
    ((n : ℕ) → IsAboveEntry now n ↔ (IsAboveEntry list n × IsAboveEntry t (n + b))) → IsRebased t b now
rebased-narrowed t list now b count positive every long same_long classes same = record {
  long = long ∙ same_long;
  classes = classes;
  same = λ n. ((λ a. ((same n).0 a).1), (λ a. (same n).1 (every-above count list positive every n, a)));
}

-- b is how far g lies above the base
pub moved-shift : (g base : ℤ) (b n : ℕ) (t : List ℕ) → pos b ≡ g -ℤ base → IsFrom base t (g +ℤ pos n) ↔ IsAboveEntry t (n + b)
moved-shift g base b n t e =
    let f : (g +ℤ pos n) -ℤ base ≡ pos (n + b) = omega (arith, ints, e) in (
      (λ h. let k = at-natural (IsAboveEntry t) ((g +ℤ pos n) -ℤ base) h in let q = k.1 in let same : k.0 ≡ n + b = omega (arith, ints, f, q) in subst (IsAboveEntry t) same k.2),
      (λ a. natural-at (IsAboveEntry t) ((g +ℤ pos n) -ℤ base) (n + b) f a),
    )

-- what the distances of the first k generators move into the set
pub record IsReducedSoFar (t : List ℕ) (base : ℤ) (I : List ℤ) (k : ℕ) (list : List ℕ) : Type 0 where
  pub long : length list ≡ length t
  pub classes : AreClasses list
  pub same : (n : ℕ) → IsAboveEntry list n ↔ (IsAboveEntry t n × ((i : ℕ) → i < k → IsFrom base t (get_or I i (pos 0) +ℤ pos n)))

pub reduced-none : (t : List ℕ) (base : ℤ) (I : List ℤ) (list : List ℕ) → AreClasses t → list ≡ t → IsReducedSoFar t base I 0 list
reduced-none t base I list c e = subst (IsReducedSoFar t base I 0) (sym e) (record {
  long = refl;
  classes = c;
  same = λ n. ((λ h. (h, λ i l. absurd (omega arith))), (λ h. h.0));
})

-- one more generator
pub reduced-more : (t : List ℕ) (base : ℤ) (I : List ℤ) (k : ℕ) (list now : List ℕ) (b : ℕ) → pos b ≡ get_or I k (pos 0) -ℤ base → length now ≡ length list → AreClasses now →
    ((n : ℕ) → IsAboveEntry now n ↔ (IsAboveEntry list n × IsAboveEntry t (n + b))) → IsReducedSoFar t base I k list → IsReducedSoFar t base I (k + 1) now
reduced-more t base I k list now b e long classes same h = record {
  long = long ∙ h.long;
  classes = classes;
  same = λ n. (to n, from n);
}
  where
    shift : (n : ℕ) → IsFrom base t (get_or I k (pos 0) +ℤ pos n) ↔ IsAboveEntry t (n + b)
    shift n = moved-shift (get_or I k (pos 0)) base b n t e

    to : (n : ℕ) → IsAboveEntry now n → IsAboveEntry t n × ((i : ℕ) → i < k + 1 → IsFrom base t (get_or I i (pos 0) +ℤ pos n))
    to n a =
        let p = (same n).0 a in
        let q = (h.same n).0 p.0 in (
          q.0,
          λ i l. elim (cases_lt i k) [
            | inl less ↦ q.1 i less
            | inr more ↦ let at : k ≡ i = omega arith in subst (λ i. IsFrom base t (get_or I i (pos 0) +ℤ pos n)) at ((shift n).1 p.1)
          ],
        )

    from : (n : ℕ) → IsAboveEntry t n × ((i : ℕ) → i < k + 1 → IsFrom base t (get_or I i (pos 0) +ℤ pos n)) → IsAboveEntry now n
    from n p = (same n).1 ((h.same n).1 (p.0, λ i l. p.1 i (omega arith)), (shift n).0 (p.1 k (omega arith)))

-- the base itself is a generator
pub reduced-all : (t : List ℕ) (base : ℤ) (I : List ℤ) (k : ℕ) (list : List ℕ) → Contains I base → k ≡ length I → IsReducedSoFar t base I k list → IsReduced t base I list
reduced-all t base I k list listed all h = record {
  long = h.long;
  classes = h.classes;
  same = λ n. (to n, from n);
}
  where
    to : (n : ℕ) → IsAboveEntry list n → (g : ℤ) → Contains I g → IsFrom base t (g +ℤ pos n)
    to n a g c =
        let l = c.1 in
        let e : get_or I c.0 (pos 0) ≡ g = get_or_default I c.0 (pos 0) g l ∙ c.2 in
        subst (λ g. IsFrom base t (g +ℤ pos n)) e (((h.same n).0 a).1 c.0 (omega arith))

    from : (n : ℕ) → ((g : ℤ) → Contains I g → IsFrom base t (g +ℤ pos n)) → IsAboveEntry list n
    from n each =
        let z : pos 0 ≡ base -ℤ base = omega (arith, ints) in
        let e : n + 0 ≡ n = omega arith in
        (h.same n).1 (
          subst (IsAboveEntry t) e ((moved-shift base base 0 n t z).0 (each base listed)),
          λ i l. let inside : i < length I = omega arith in each (get_or I i (pos 0)) (i, inside, get_or_default I i (get_or I i (pos 0)) (pos 0) inside),
        )

-- the least entry is the least number
pub least-above : (t : List ℕ) (least n : ℕ) → AreClasses t → (k : ℕ) × (k < length t) × (get_or t k 0 ≡ least) → ((k : ℕ) → k < n → least ≤ get_or t k 0) → n ≡ length t → IsLeastAbove t least
least-above t least n c listed below all = record {
  above =
      let e : least % length t ≡ listed.0 = ap (λ x. x % length t) (sym listed.2) ∙ c.residue listed.0 listed.1 in
      let f = ap (λ k. get_or t k 0) e ∙ listed.2 in
      omega (arith, f);
  below = λ x a. let l = mod_below x (length t) c.not_empty in let b = below (x % length t) (omega arith) in omega (arith, a, b);
  small = let s = c.small listed.0 listed.1 in let e = listed.2 in omega (arith, s, e);
}
