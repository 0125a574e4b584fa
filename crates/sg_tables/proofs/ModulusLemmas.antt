-- The first member of a class, and the list of them.
use Rattle.std.proofs.Common.{◌≡◌, ℕ, zero, suc, ◌+◌, ◌-◌, ◌*◌, ◌/◌, ◌%◌, ◌^◌, ◌<◌, ◌≤◌, List, [], ◌∷◌, ◌++◌, length, get_or, refl, sym, ap, subst, ◌∙◌, inl, inr, arith}
use Rattle.std.specs.Prelude.{EachIndex, ◌↔◌}
use Rattle.std.proofs.lemmas.Bool.{cases_lt}
use Rattle.std.proofs.lemmas.Nat.{mod_below}
use Rattle.std.proofs.lemmas.List.{length_push}
use Rattle.std.proofs.Math.Nat.{add-mod_right, mod-add-div, mul-le-mul_right, add-mul-mod_self_right, mod-eq_of_lt}
use Rattle.sg_classes.specs.Classes.{IsAboveEntry}
use Rattle.sg_classes.specs.Entries.{AreSmall, IsGreatest}
use Rattle.sg_defs.specs.Apery.{IsApery}
use Rattle.sg_defs.specs.Membership.{IsMember}
use Rattle.sg_defs.proofs.MembershipLemmas.{member-add}
use Rattle.sg_classes.specs.Table.{IsAperyTable, IsTable}
use Rattle.sg_classes.specs.declared.limits.TheConstants.{APERY_ENTRY_LIMIT, GENERATOR_LIMIT, MULTIPLICITY_LIMIT}
use Rattle.sg_classes.proofs.BoundLemmas.{apery-bound}
use Rattle.sg_classes.proofs.AperyLemmas.{apery-member}
use Rattle.sg_classes.proofs.GeneratorLemmas.{contains-place, push_cases}
use Rattle.sg_tables.specs.Modulus.{Adds, AreFirst, IsFirst, IsMet}

-- fewer steps lead to no greater number
pub steps-fit : (i j top n b : ℕ) → j ≤ top → i + top * n < b → i + j * n < b
steps-fit i j top n b l m = omega (arith, mul-le-mul_right n l, m)

-- a member is met after each greater number of steps
pub met-later : (t : List ℕ) (n i j k : ℕ) → Adds t n → IsMet t n i j → IsMet t n i (j + k)
met-later t n i j zero adds h = subst (IsAboveEntry t) (let e : i + j * n ≡ i + (j + 0) * n = omega arith in e) h
met-later t n i j (suc k) adds h = subst (IsAboveEntry t) (let e : (i + (j + k) * n) + n ≡ i + (j + suc k) * n = omega arith in e) (adds (i + (j + k) * n) (met-later t n i j k adds h))

-- so none is met before a number of steps after which none is
pub not_met-before : (t : List ℕ) (n i j k : ℕ) → Adds t n → (IsMet t n i k → ⊥) → j ≤ k → IsMet t n i j → ⊥
not_met-before t n i j k adds out l h = out (subst (IsMet t n i) (let e : j + (k - j) ≡ k = omega arith in e) (met-later t n i j (k - j) adds h))

-- after so many steps that the greatest entry is reached a member is met
pub met-top : (t : List ℕ) (n i g : ℕ) → 0 < length t → 0 < n → IsGreatest t g → IsMet t n i (g / n + 1)
met-top t n i g some positive h =
    let x = i + (g / n + 1) * n in
    let inside : x % length t < length t = mod_below x (length t) some in
    omega (arith, h.above (x % length t) inside, mod-add-div g n, mod_below g n positive)

-- where the greatest entry is within the limit, such numbers fit a word
pub top-fits : (t : List ℕ) (n i g : ℕ) → 0 < n → n ≤ MULTIPLICITY_LIMIT → i < n → IsGreatest t g → EachIndex t (λ k. get_or t k 0 ≤ APERY_ENTRY_LIMIT) → i + (g / n + 1) * n < 2 ^ 63
top-fits t n i g positive short inside h small =
    let p = contains-place t g h.listed in
    omega (arith, mod-add-div g n, small p.0 p.1, p.2)

-- none is in the list yet
pub first-none : (t : List ℕ) (n : ℕ) → AreFirst t n [] 0
first-none t n = record {
  long = refl;
  residue = λ i l. absurd (omega arith);
  inside = λ i l. absurd (omega arith);
  least = λ i x l. absurd (omega arith);
}

-- the first member of one class more
pub first-more : (t : List ℕ) (n k top j : ℕ) (l : List ℕ) → 0 < n → k < n → AreFirst t n l k → IsFirst t n k top j → AreFirst t n (l ++ (k + j * n) ∷ []) (k + 1)
first-more t n k top j l positive inside h f = record {
  long = omega (arith, length_push l (k + j * n), h.long);
  residue = λ i m. elim (push_cases l (k + j * n) i (omega (arith, length_push l (k + j * n), h.long))) [
    | inl old ↦ ap (λ x. x % n) old.1 ∙ h.residue i (omega (arith, old.0, h.long))
    | inr new ↦ ap (λ x. x % n) new.1 ∙ add-mul-mod_self_right k j n ∙ mod-eq_of_lt inside ∙ sym (new.0 ∙ h.long)
  ];
  inside = λ i m. elim (push_cases l (k + j * n) i (omega (arith, length_push l (k + j * n), h.long))) [
    | inl old ↦ subst (IsAboveEntry t) (sym old.1) (h.inside i (omega (arith, old.0, h.long)))
    | inr new ↦ subst (IsAboveEntry t) (sym new.1) f.met
  ];
  least = λ i x m r above. elim (push_cases l (k + j * n) i (omega (arith, length_push l (k + j * n), h.long))) [
    | inl old ↦ omega (arith, old.1, h.least i x (omega (arith, old.0, h.long)) r above)
    | inr new ↦ omega (arith, new.1, last x (r ∙ new.0 ∙ h.long) above)
  ];
}
  where
    last : (x : ℕ) → x % n ≡ k → IsAboveEntry t x → k + j * n ≤ x
    last x r above = elim (cases_lt (x / n) j) [
      | inl less ↦ absurd (f.not_before (x / n) less (subst (IsAboveEntry t) (let e : x ≡ k + (x / n) * n = omega (arith, mod-add-div x n, r) in e) above))
      | inr more ↦ omega (arith, mod-add-div x n, r, mul-le-mul_right n more)
    ]

-- a member may be added to what an Apery list has
pub adds-member : (G t : List ℕ) (n : ℕ) → IsAperyTable G t → IsMember G n → Adds t n
adds-member G t n h member x above =
    let at = apery-member G (length t) t h.not_empty h.modulus h.apery in
    (at (x + n)).0 (member-add G x n ((at x).1 above) member)

-- the first members are the Apery list modulo n
pub first-table : (G t l : List ℕ) (n : ℕ) → IsAperyTable G t → IsMember G n → 0 < n → AreFirst t n l n → IsAperyTable G l
first-table G t l n h member positive f = record {
  semigroup = h.semigroup;
  not_empty = omega (arith, f.long, positive);
  modulus = subst (IsMember G) (sym f.long) member;
  apery = subst (λ k. IsApery G k l) (sym f.long) (record {
    entries = f.long;
    member = λ i m. (at (get_or l i 0)).1 (f.inside i m);
    residue = f.residue;
    least = λ i y m e q.
        let r : y % n ≡ i = sym (add-mod_right y n) ∙ ap (λ x. x % n) e ∙ f.residue i m in
        omega (arith, f.least i y m r ((at y).0 q), e, positive);
  });
}
  where
    at : (x : ℕ) → IsMember G x ↔ (get_or t (x % length t) 0 ≤ x)
    at = apery-member G (length t) t h.not_empty h.modulus h.apery

-- and within the limits
pub first-fits : (G t l : List ℕ) (n : ℕ) → IsAperyTable G t → AreSmall G → IsMember G n → 0 < n → n ≤ MULTIPLICITY_LIMIT → AreFirst t n l n → IsTable G l
first-fits G t l n h small member positive short f =
    let made = first-table G t l n h member positive f in
    record {
      semigroup = made.semigroup;
      not_empty = made.not_empty;
      short = omega (arith, f.long, short);
      modulus = made.modulus;
      apery = made.apery;
      small = λ i m. omega (arith, apery-bound G l GENERATOR_LIMIT made (λ j k. omega (arith, small j k)) i m, f.long, short);
    }
