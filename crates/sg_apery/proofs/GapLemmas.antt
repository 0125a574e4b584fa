-- Which lists are the gaps of no numerical semigroup.
use Rattle.std.proofs.Common.{◌≡◌, ℕ, zero, suc, ◌+◌, ◌-◌, ◌*◌, ◌<◌, ◌≤◌, ◌↔◌, List, length, get_or, sym, ap, subst, ◌∙◌, inl, inr, arith}
use Rattle.std.specs.Prelude.{Contains, remove, ◌⊎◌}
use Rattle.std.proofs.lemmas.Bool.{cases_lt, cases_eq}
use Rattle.std.proofs.lemmas.List.Edits.{get_or-remove_below, get_or-remove_above, length-remove}
use Rattle.sg_defs.specs.Membership.{IsMember, Generates}
use Rattle.sg_defs.proofs.MembershipLemmas.{member-zero, member-add}
use Rattle.sg_classes.proofs.EntryLemmas.{generates-iff, too_large-iff}
use Rattle.sg_classes.proofs.GeneratorLemmas.{contains-place, place-contains}
use Rattle.sg_small.specs.Sets.{IsNotClosed, IsOutside}
use Rattle.sg_small.proofs.SmallLemmas.{contains-decided}
use Rattle.sg_apery.specs.Conditions.{AreGapsRefused, IsClosedRefused}
use Rattle.sg_apery.specs.declared.fault.TableFault.{TableFault}
use Rattle.sg_apery.specs.declared.fault.TableFault.TheVariants.{BadArgument, TooLarge, Memory}
use Rattle.sg_apery.proofs.SizeLemmas.{not_closed-iff}

-- an element other than a removed one is kept
remove-kept : (L : List ℕ) (k y : ℕ) → k < length L → Contains L y → (y ≡ get_or L k 0 → ⊥) → Contains (remove L k) y
remove-kept L k y l h other =
    let p = contains-place L y h in
    elim (cases_lt p.0 k) [
      | inl before ↦ subst (Contains (remove L k)) (get_or-remove_below L k 0 p.0 before l ∙ p.2) (place-contains (remove L k) p.0 (omega (arith, length-remove L k l)))
      | inr after ↦ elim (cases_eq p.0 k) [
        | inl e ↦ absurd (other (sym p.2 ∙ ap (λ j. get_or L j 0) e))
        | inr differs ↦
            let e : p.0 - 1 + 1 ≡ p.0 = omega (arith, after, differs) in
            subst (Contains (remove L k)) (get_or-remove_above L k 0 (p.0 - 1) (omega (arith, after, differs)) l ∙ ap (λ j. get_or L j 0) e ∙ p.2)
            (place-contains (remove L k) (p.0 - 1) (omega (arith, length-remove L k l, p.1, after, differs)))
      ]
    ]

-- one pair less, and one entry less
pair-less : (F a : ℕ) (L : List ℕ) → ((x : ℕ) → a ≤ x → x + a ≤ F → Contains L x ⊎ Contains L (F - x)) →
    ((R : List ℕ) → ((x : ℕ) → a + 1 ≤ x → x + (a + 1) ≤ F → Contains R x ⊎ Contains R (F - x)) → F + 1 ≤ (a + 1) + (a + 1) + 2 * length R) →
    (y : ℕ) → Contains L y → ((x : ℕ) → a + 1 ≤ x → x + (a + 1) ≤ F → (x ≡ y → ⊥) × (F - x ≡ y → ⊥)) → F + 1 ≤ a + a + 2 * length L
pair-less F a L h again y c apart =
    let p = contains-place L y c in
    let rest = again (remove L p.0) (λ x m n. elim (h x (omega arith) (omega arith)) [
      | inl here ↦ inl (remove-kept L p.0 x p.1 here (λ e. (apart x m n).0 (e ∙ p.2)))
      | inr there ↦ inr (remove-kept L p.0 (F - x) p.1 there (λ e. (apart x m n).1 (e ∙ p.2)))
    ]) in
    omega (arith, rest, length-remove L p.0 p.1)

-- where of each two numbers with the sum F one is listed, the list has more than the half of F entries
covers : (F b a : ℕ) (L : List ℕ) → F + 1 ≤ a + a + b → ((x : ℕ) → a ≤ x → x + a ≤ F → Contains L x ⊎ Contains L (F - x)) → F + 1 ≤ a + a + 2 * length L
covers F zero a L l h = omega arith
covers F (suc b) a L l h = elim (cases_lt F (a + a)) [
  | inl done ↦ omega arith
  | inr more ↦ elim (h a (omega arith) more) [
    | inl low ↦ pair-less F a L h (λ R r. covers F b (a + 1) R (omega arith) r) a low (λ x m n. ((λ e. omega (arith, e)), (λ e. omega (arith, e))))
    | inr high ↦ pair-less F a L h (λ R r. covers F b (a + 1) R (omega arith) r) (F - a) high (λ x m n. ((λ e. omega (arith, e)), (λ e. omega (arith, e))))
  ]
]

-- a gap that is too great for its semigroup
pub too-few : (L : List ℕ) (k : ℕ) → k < length L → 2 * length L ≤ get_or L k 0 → (M : List ℕ) → Generates (IsOutside L) M → ⊥
too-few L k l past M g =
    let F = get_or L k 0 in
    omega (
      arith,
      past,
      covers F (F + 1) 0 L (omega arith) (λ x m n. elim (contains-decided L x) [
        | inl here ↦ inl here
        | inr out ↦ elim (contains-decided L (F - x)) [
          | inl there ↦ inr there
          | inr also ↦
              let e : x + (F - x) ≡ F = omega arith in
              let sum : IsMember M F = subst (IsMember M) e (member-add M x (F - x) ((g.same x).0 out) ((g.same (F - x)).0 also)) in
              absurd ((g.same F).1 sum (place-contains L k l))
        ]
      ]),
    )

-- 0 is no gap
pub zero-gap : (L : List ℕ) → Contains L 0 → (M : List ℕ) → Generates (IsOutside L) M → ⊥
zero-gap L h M g = (g.same 0).1 (member-zero M) h

-- what is not closed under sums is no semigroup
pub not_closed-none : (P : ℕ → Type 0) → IsNotClosed P → (M : List ℕ) → Generates P M → ⊥
not_closed-none P h M g = h.4 ((g.same (h.0 + h.1)).1 (member-add M h.0 h.1 ((g.same h.0).0 h.2) ((g.same h.1).0 h.3)))

pub gaps-refused : (L : List ℕ) (Q : ℕ → Type 0) → ((n : ℕ) → IsOutside L n ↔ Q n) → (f : TableFault) → IsClosedRefused Q f → AreGapsRefused L f
gaps-refused L Q same BadArgument h = not_closed-none (IsOutside L) (not_closed-iff (IsOutside L) Q same h)
gaps-refused L Q same TooLarge h = too_large-iff (IsOutside L) Q same h.1
gaps-refused L Q same (Memory e) h = tt

-- two lists with the same entries
module _ (xs ys : List ℕ) (keeps : (x : ℕ) → Contains xs x → Contains ys x) (only : (x : ℕ) → Contains ys x → Contains xs x) where
  pub outside-same : (n : ℕ) → IsOutside xs n ↔ IsOutside ys n
  outside-same n = ((λ out h. out (only n h)), (λ out h. out (keeps n h)))

  pub gaps_refused-same : (f : TableFault) → AreGapsRefused ys f → AreGapsRefused xs f
  gaps_refused-same BadArgument h = λ M g. h M (generates-iff (IsOutside ys) (IsOutside xs) (λ n. ((outside-same n).1, (outside-same n).0)) M g)
  gaps_refused-same TooLarge h = too_large-iff (IsOutside xs) (IsOutside ys) outside-same h
  gaps_refused-same (Memory e) h = tt
