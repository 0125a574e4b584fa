-- The cover of a gap h: the members, and the numbers past half of h for which h less the number is no member. It is
-- closed under sums.
use Rattle.std.proofs.Common.{◌≡◌, ℕ, zero, suc, ◌+◌, ◌-◌, ◌*◌, ◌%◌, ◌<◌, ◌≤◌, ◌↔◌, List, [], ◌∷◌, ◌++◌, length, get_or, refl, sym, ap, subst, ◌∙◌, inl, inr, arith}
use Rattle.std.specs.Prelude.{◌⊎◌, ℤ, pos, negsuc, ◌+ℤ◌, ◌-ℤ◌, ◌<ℤ◌, ◌≤ℤ◌}
use Rattle.std.proofs.lemmas.Bool.{cases_lt}
use Rattle.std.proofs.lemmas.Int.{ints, by_lt_z}
use Rattle.std.proofs.lemmas.Nat.{mod_below}
use Rattle.std.proofs.lemmas.List.{length_push, get_or_append_left, get_or_push}
use Rattle.std.proofs.Math.Nat.{add-mod_right, mod-eq_of_lt}
use Rattle.sg_defs.specs.Membership.{IsMember, IsIntegerMember, Generates}
use Rattle.sg_classes.specs.Classes.{IsAboveEntry, IsKunz}
use Rattle.sg_classes.proofs.AperyLemmas.{congruent-split}
use Rattle.sg_classes.proofs.ResidueLemmas.{residue-sum}
use Rattle.sg_irred.specs.Cover.{HasLesser, IsLeastInCover, IsCoverList}
use Rattle.sg_defs.specs.Decomposition.{IsInCover}
use Rattle.sg_defs.proofs.MembershipLemmas.{member-zero, member-add, member-times}
use Rattle.sg_invar.proofs.MultiplicityLemmas.{multiplicity-member}
use Rattle.sg_invar.proofs.PseudoFrobeniusLemmas.{integer_member-add}

-- past half of h, and h less it is no member
pub record IsNew (G : List ℕ) (h : ℤ) (x : ℕ) : Type 0 where
  pub past : h <ℤ pos (2 * x)
  pub outside : IsIntegerMember G (h -ℤ pos x) → ⊥

-- no integer below 0 is a member
pub below-zero : (G : List ℕ) (x : ℤ) → x <ℤ pos 0 → IsIntegerMember G x → ⊥
below-zero G (pos n) l p = omega (arith, ints, l)
below-zero G (negsuc n) l p = p

-- what is new lies in the cover
pub cover-from_new : (G : List ℕ) (h : ℤ) (x : ℕ) → IsNew G h x → IsInCover G h x
cover-from_new G h x n = by_lt_z h (pos x) (λ past. inr (inl past)) (λ (within : pos x ≤ℤ h). by_lt_z (pos x) h
    (λ less. inr (inr (n.past, less, n.outside)))
    (λ (more : h ≤ℤ pos x). absurd (n.outside (subst (IsIntegerMember G) (let e : pos 0 ≡ h -ℤ pos x = omega (arith, ints, within, more) in e) (member-zero G)))))

-- what lies in the cover is a member or new
pub cover-split : (G : List ℕ) (h : ℤ) (x : ℕ) → pos 0 ≤ℤ h → IsInCover G h x → IsMember G x ⊎ IsNew G h x
cover-split G h x natural c = elim c [
  | inl member ↦ inl member
  | inr other ↦ elim other [
    | inl past ↦ inr (record { past = omega (arith, ints, natural, past); outside = below-zero G (h -ℤ pos x) (omega (arith, ints, past)) })
    | inr half ↦ inr (record { past = half.0; outside = half.2 })
  ]
]

-- a member and a new number
new-add : (G : List ℕ) (h : ℤ) (x s : ℕ) → IsNew G h x → IsMember G s → IsNew G h (x + s)
new-add G h x s n p = record {
  past = let l = n.past in omega (arith, ints, l);
  outside = λ q. n.outside (subst (IsIntegerMember G) (let e : (h -ℤ pos (x + s)) +ℤ pos s ≡ h -ℤ pos x = omega (arith, ints) in e) (integer_member-add G (h -ℤ pos (x + s)) s q p));
}

-- sums of numbers of the cover lie in it
pub cover-add : (G : List ℕ) (h : ℤ) (x y : ℕ) → pos 0 ≤ℤ h → IsInCover G h x → IsInCover G h y → IsInCover G h (x + y)
cover-add G h x y natural p q = elim (cover-split G h x natural p) [
  | inl a ↦ elim (cover-split G h y natural q) [
    | inl b ↦ inl (member-add G x y a b)
    | inr b ↦ subst (IsInCover G h) (let e : y + x ≡ x + y = omega arith in e) (cover-from_new G h (y + x) (new-add G h y x b a))
  ]
  | inr a ↦ elim (cover-split G h y natural q) [
    | inl b ↦ cover-from_new G h (x + y) (new-add G h x y a b)
    | inr b ↦ inr (inl (let l = a.past in let m = b.past in omega (arith, ints, l, m)))
  ]
]

-- members lie in it
pub cover-member : (G : List ℕ) (h : ℤ) (x : ℕ) → IsMember G x → IsInCover G h x
cover-member G h x p = inl p

-- less the multiplicity, a number stays in its class
pub lesser-step : (G : List ℕ) (h : ℤ) (least from m : ℕ) → m ≡ get_or G 0 0 → HasLesser G h least → least % get_or G 0 0 ≡ from % get_or G 0 0 →
    IsInCover G h (least - m) × ((least - m) % get_or G 0 0 ≡ from % get_or G 0 0)
lesser-step G h least from m first t e =
    let y : t.0 ≡ least - m = omega (arith, t.1, first) in
    (subst (IsInCover G h) y t.2, ap (λ n. n % get_or G 0 0) (sym y) ∙ sym (add-mod_right t.0 (get_or G 0 0)) ∙ ap (λ n. n % get_or G 0 0) t.1 ∙ e)

-- of a class that is named by its residue
pub least-class : (G : List ℕ) (h : ℤ) (v w i : ℕ) → IsLeastInCover G h v w → v % get_or G 0 0 ≡ i → i < get_or G 0 0 → IsLeastInCover G h i w
least-class G h v w i r e l = record { covered = r.covered; residue = r.residue ∙ e ∙ sym (mod-eq_of_lt l); least = r.least }

-- one more class of the list
pub cover_list-push : (G : List ℕ) (h : ℤ) (n w : ℕ) (l : List ℕ) → IsLeastInCover G h n w → IsCoverList G h n l → IsCoverList G h (n + 1) (l ++ w ∷ [])
cover_list-push G h n w l here before = record {
  entries = omega (arith, length_push l w, before.entries);
  each = λ i inside. elim (cases_lt i n) [
    | inl less ↦ subst (IsLeastInCover G h i) (sym (get_or_append_left l (w ∷ []) 0 i (omega (arith, less, before.entries)))) (before.each i less)
    | inr more ↦
        let at : n ≡ i = omega arith in
        subst (IsLeastInCover G h i) (sym (get_or_push l w 0 i (before.entries ∙ at))) (subst (λ k. IsLeastInCover G h k w) at here)
  ];
}

module _ (G : List ℕ) (h : ℤ) (m : ℕ) (l : List ℕ) (natural : pos 0 ≤ℤ h) (positive : 0 < m) (first : m ≡ get_or G 0 0) (modulus : IsMember G m) (c : IsCoverList G h (get_or G 0 0) l) where
  long : length l ≡ m
  long = c.entries ∙ sym first

  entry : (i : ℕ) → i < m → IsLeastInCover G h i (get_or l i 0)
  entry i inside = c.each i (omega (arith, inside, first))

  residue : (i : ℕ) → i < m → get_or l i 0 % m ≡ i
  residue i inside = subst (λ k. get_or l i 0 % k ≡ i % k) (sym first) (entry i inside).residue ∙ mod-eq_of_lt inside

  -- a number of the cover is at least the entry of its class
  bound : (i x : ℕ) → i < m → x % m ≡ i → IsInCover G h x → get_or l i 0 ≤ x
  bound i x inside at p = elim (cases_lt x (get_or l i 0)) [
    | inl less ↦
        let s = congruent-split m x (get_or l i 0) positive (at ∙ sym (residue i inside)) (omega arith) in
        absurd (step s.0 s.1 less)
    | inr more ↦ more
  ]
    where
      step : (k : ℕ) → get_or l i 0 ≡ x + k * m → x < get_or l i 0 → ⊥
      step zero e less = omega arith
      step (suc k) e less =
          let f : (x + k * m) + get_or G 0 0 ≡ get_or l i 0 = omega (arith, e, first) in
          (entry i inside).least (x + k * m, f, cover-add G h x (k * m) natural p (inl (member-times G k m modulus)))

  -- and what is at least that entry lies in the cover
  pub above-cover : (x : ℕ) → IsAboveEntry l x ↔ IsInCover G h x
  above-cover x =
      let inside = mod_below x m positive in (
        (λ q.
            let low : get_or l (x % m) 0 ≤ x = subst (λ k. get_or l (x % k) 0 ≤ x) long q in
            let s = congruent-split m (get_or l (x % m) 0) x positive (residue (x % m) inside) low in
            subst (IsInCover G h) (sym s.1) (cover-add G h (get_or l (x % m) 0) (s.0 * m) natural (entry (x % m) inside).covered (inl (member-times G s.0 m modulus)))),
        (λ p. subst (λ k. get_or l (x % k) 0 ≤ x) (sym long) (bound (x % m) x inside refl p)),
      )

  pub cover-kunz : IsKunz l
  cover-kunz = record {
    classes = record {
      not_empty = omega (arith, long, positive);
      zero = let low = bound 0 0 positive (mod-eq_of_lt positive) (inl (member-zero G)) in omega (arith, low);
      residue = λ i inside. subst (λ k. get_or l i 0 % k ≡ i) (sym long) (residue i (omega (arith, inside, long)));
    };
    sums = λ i j a b. subst (λ k. get_or l ((i + j) % k) 0 ≤ get_or l i 0 + get_or l j 0) (sym long)
        (sum i j (omega (arith, a, long)) (omega (arith, b, long)));
  }
    where
      sum : (i j : ℕ) → i < m → j < m → get_or l ((i + j) % m) 0 ≤ get_or l i 0 + get_or l j 0
      sum i j a b =
          let e : (get_or l i 0 + get_or l j 0) % m ≡ (i + j) % m =
          sym (residue-sum (get_or l i 0) (get_or l j 0) m) ∙ ap (λ n. (n + get_or l j 0 % m) % m) (residue i a) ∙ ap (λ n. (i + n) % m) (residue j b) in
          bound ((i + j) % m) (get_or l i 0 + get_or l j 0) (mod_below (i + j) m positive) e (cover-add G h (get_or l i 0) (get_or l j 0) natural (entry i a).covered (entry j b).covered)

  pub cover-generates : (M : List ℕ) → Generates (IsAboveEntry l) M → Generates (IsInCover G h) M
  cover-generates M g = record {
    semigroup = g.semigroup;
    minimal = g.minimal;
    same = λ n. ((λ p. (g.same n).0 ((above-cover n).1 p)), (λ q. (above-cover n).0 ((g.same n).1 q)));
  }

-- such a list without premises on the multiplicity
module _ (G : List ℕ) (h : ℤ) (l : List ℕ) (natural : pos 0 ≤ℤ h) (c : IsCoverList G h (get_or G 0 0) l) (not_empty : 0 < length l) where
  some : 0 < get_or G 0 0
  some = omega (arith, c.entries, not_empty)

  first_member : IsMember G (get_or G 0 0)
  first_member = multiplicity-member G (get_or G 0 0) some refl

  -- the least numbers of the cover are an Apery list
  pub list-kunz : IsKunz l
  list-kunz = cover-kunz G h (get_or G 0 0) l natural some refl first_member c

  -- what they generate is the cover
  pub list-generates : (M : List ℕ) → Generates (IsAboveEntry l) M → Generates (IsInCover G h) M
  list-generates = cover-generates G h (get_or G 0 0) l natural some refl first_member c
