-- Sets of naturals by marks.
use Rattle.std.proofs.Common.{◌≡◌, ◌≢◌, ℕ, zero, suc, ◌+◌, ◌*◌, ◌%◌, ◌<◌, ◌≤◌, ◌↔◌, Bool, true, false, List, [], ◌∷◌, ◌++◌, length, get_or, set, replicate, refl, sym, ap, subst, ◌∙◌, inl, inr, arith}
use Rattle.std.specs.Prelude.{◌⊎◌, IsTrue}
use Rattle.std.proofs.lemmas.Bool.{cases_lt, cases_eq, both_ways}
use Rattle.std.proofs.lemmas.Nat.{mod_below}
use Rattle.std.proofs.lemmas.List.{get_or_default, get_or_past, get_or-replicate, get_or_append_left, get_or_push, get_or-set_same, get_or-set_other}
use Rattle.std.proofs.Math.Nat.{mod-eq_of_lt}
use Rattle.sg_classes.specs.Classes.{IsAboveEntry, IsClassList, IsKunz}
use Rattle.sg_classes.proofs.AperyLemmas.{congruent-split}
use Rattle.sg_classes.proofs.KunzLemmas.{kunz-from_closed}
use Rattle.sg_closure.specs.Marks.{IsIn, IsLeastIn, AreLeastIn}

-- a test of a mark, read at another default
pub in-true : (marks : List Bool) (n : ℕ) → n < length marks → get_or marks n false ≡ true → IsIn marks n
in-true marks n l e = get_or_default marks n true false l ∙ e

pub true-in : (marks : List Bool) (n : ℕ) → n < length marks → IsIn marks n → get_or marks n false ≡ true
true-in marks n l h = get_or_default marks n false true l ∙ h

-- what is not marked is outside
pub out-false : (marks : List Bool) (n : ℕ) → n < length marks → get_or marks n false ≡ false → IsIn marks n → ⊥
out-false marks n l e h = both_ways (get_or marks n false) e (true-in marks n l h)

-- what is past the marks is inside
pub in-past : (marks : List Bool) (n : ℕ) → length marks ≤ n → IsIn marks n
in-past marks n l = get_or_past marks n true l

told : (b : Bool) → (b ≡ true) ⊎ (b ≡ true → ⊥)
told true = inl refl
told false = inr (λ e. both_ways false refl e)

-- each number is inside or outside
pub in-decided : (marks : List Bool) (n : ℕ) → IsIn marks n ⊎ (IsIn marks n → ⊥)
in-decided marks n = told (get_or marks n true)

-- one mark more, at the end
pub marks-push : (Q : ℕ → Type 0) (marks : List Bool) (b : Bool) (n : ℕ) → length marks ≡ n → ((k : ℕ) → k < n → IsIn marks k ↔ Q k) → (IsTrue b ↔ Q n) →
    (k : ℕ) → k < n + 1 → IsIn (marks ++ b ∷ []) k ↔ Q k
marks-push Q marks b n long before here k l = elim (cases_lt k n) [
  | inl less ↦
      let e = get_or_append_left marks (b ∷ []) true k (omega (arith, long, less)) in
      ((λ p. (before k less).0 (sym e ∙ p)), (λ q. e ∙ (before k less).1 q))
  | inr more ↦
      let same : n ≡ k = omega arith in
      let e = get_or_push marks b true k (long ∙ same) in
      ((λ p. subst Q same (here.0 (sym e ∙ p))), (λ q. e ∙ here.1 (subst Q (sym same) q)))
]

-- a mark that is written
pub in-set : (marks : List Bool) (n : ℕ) (b : Bool) → n < length marks → IsIn (set marks n b) n ↔ (b ≡ true)
in-set marks n b l = let e = get_or-set_same marks n b true l in ((λ p. sym e ∙ p), (λ q. e ∙ q))

-- setting one mark leaves the others
pub in-set_other : (marks : List Bool) (n k : ℕ) (b : Bool) → k ≢ n → IsIn (set marks n b) k ↔ IsIn marks k
in-set_other marks n k b other = let e = get_or-set_other marks n k b true other in ((λ p. sym e ∙ p), (λ q. e ∙ q))

-- where nothing is marked, only what is past the marks is in the set
pub none-in : (k n : ℕ) → n < k → IsIn (replicate k false) n → ⊥
none-in k n l h = both_ways (get_or (replicate k false) n true) (get_or-replicate k n false true l) h

-- a number after n of the same residue is at least as far as the modulus
pub next-class : (m n k : ℕ) → 0 < m → n % m ≡ k % m → n < k → n + m ≤ k
next-class m n k positive e l = let s = congruent-split m n k positive e (omega arith) in far s.0 s.1
  where
    far : (c : ℕ) → k ≡ n + c * m → n + m ≤ k
    far zero f = absurd (omega arith)
    far (suc c) f = omega arith

-- no number below the modulus is in its class before itself
pub class-begins : (m i k : ℕ) → i < m → k % m ≡ i → k < i → ⊥
class-begins m i k l e less = let h : k < m = omega arith in omega (arith, mod-eq_of_lt h, e)

-- the next number of a class, where this one is outside
pub class-passes : (marks : List Bool) (m i n : ℕ) → 0 < m → n % m ≡ i → ((k : ℕ) → k % m ≡ i → k < n → IsIn marks k → ⊥) → (IsIn marks n → ⊥) →
    (k : ℕ) → k % m ≡ i → k < n + m → IsIn marks k → ⊥
class-passes marks m i n positive residue before out k e l p = elim (cases_lt k n) [
  | inl less ↦ before k e less p
  | inr more ↦ elim (cases_eq n k) [
    | inl same ↦ out (subst (IsIn marks) (sym same) p)
    | inr other ↦ omega (arith, l, next-class m n k positive (residue ∙ sym e) (omega arith))
  ]
]

-- what is outside is not past the marks
pub out-below : (marks : List Bool) (n : ℕ) → (IsIn marks n → ⊥) → n < length marks
out-below marks n out = elim (cases_lt n (length marks)) [ inl less ↦ less | inr more ↦ absurd (out (in-past marks n more)) ]

-- the least numbers of the classes tell which numbers are in a set that is closed under sums
module _ (marks : List Bool) (m : ℕ) (list : List ℕ) (positive : 0 < m) (h : AreLeastIn marks m list) (zero_in : IsIn marks 0)
    (modulus_in : IsIn marks m) (sums : (a b : ℕ) → IsIn marks a → IsIn marks b → IsIn marks (a + b)) where
  entry : (n : ℕ) → IsLeastIn marks m (n % m) (get_or list (n % m) 0)
  entry n = h.entries (n % m) (mod_below n m positive)

  turns-in : (c n : ℕ) → IsIn marks n → IsIn marks (n + c * m)
  turns-in zero n p = subst (IsIn marks) (let e : n ≡ n + 0 * m = omega arith in e) p
  turns-in (suc c) n p =
      let e : n + c * m + m ≡ n + suc c * m = omega arith in
      subst (IsIn marks) e (sums (n + c * m) m (turns-in c n p) modulus_in)

  in-above : (n : ℕ) → IsIn marks n ↔ (get_or list (n % m) 0 ≤ n)
  in-above n = (
    (λ p. elim (cases_lt n (get_or list (n % m) 0)) [
      | inl less ↦ absurd ((entry n).least n refl less p)
      | inr more ↦ more
    ]),
    (λ l.
        let s = congruent-split m (get_or list (n % m) 0) n positive (entry n).residue l in
        subst (IsIn marks) (sym s.1) (turns-in s.0 (get_or list (n % m) 0) (entry n).inside)),
  )

  -- the least numbers of the classes tell the set
  pub in-above_entry : (n : ℕ) → IsIn marks n ↔ IsAboveEntry list n
  in-above_entry n =
      let e = ap (λ k. get_or list (n % k) 0) h.long in
      ((λ p. omega (arith, e, (in-above n).0 p)), (λ l. (in-above n).1 (omega (arith, e, l))))

  -- they are an Apery list
  pub marks-kunz : IsKunz list
  marks-kunz = kunz-from_closed (IsIn marks) list classes in-above_entry sums
    where
      classes : IsClassList list
      classes = record {
        not_empty = omega (arith, h.long, positive);
        zero =
            let r : 0 % m ≡ 0 = omega arith in
            let e = ap (λ k. get_or list k 0) r in
            omega (arith, e, (in-above 0).0 zero_in);
        residue = λ i l. ap (λ k. get_or list i 0 % k) h.long ∙ (h.entries i (omega (arith, h.long))).residue;
      }
