-- A vector that takes each generator in turn as often as a member is left is the greatest.
use Rattle.std.proofs.Common.{◌≡◌, ℕ, suc, ◌+◌, ◌-◌, ◌*◌, ◌/◌, ◌%◌, ◌<◌, ◌≤◌, List, [], ◌∷◌, ◌++◌, length, get_or, drop, refl, sym, ap, subst, ◌∙◌, inl, inr, append_assoc, arith}
use Rattle.std.proofs.lemmas.List.{append-nil, drop_all}
use Rattle.std.proofs.lemmas.Bool.{cases_lt}
use Rattle.std.proofs.Math.Seq.{drop-cons}
use Rattle.std.proofs.Math.Nat.{mul-div_cancel}
use Rattle.sg_defs.specs.Vectors.{value_of, IsLexBelow}
use Rattle.sg_defs.specs.Membership.{IsMember, IsFactorization, IsNumericalSemigroup}
use Rattle.sg_defs.specs.Apery.{IsApery}
use Rattle.sg_apery.proofs.AperyLemmas.{apery-member, congruent-split}
use Rattle.std.proofs.lemmas.Nat.{mod_below}
use Rattle.sg_defs.proofs.MembershipLemmas.{member-zero, member-add, member-times, member-entry}
use Rattle.sg_defs.proofs.VectorLemmas.{value_of-zeros}
use Rattle.sg_nonunique.specs.Presentations.{IsLexGreatest}
use Rattle.sg_nonunique.specs.Places.{lower}
use Rattle.sg_nonunique.proofs.SumLemmas.{zero_or_positive}
use Rattle.sg_nonunique.proofs.PlaceLemmas.{inside as inside_of, value_of-lower, length-lower}
use Rattle.sg_factor.specs.Greedy.{IsStuck}

-- by the numbers of the list in turn, each as often as a member of S is left, n is used up
abbrev pub IsGreedy : List ℕ → List ℕ → ℕ → List ℕ → Type 0
IsGreedy S [] n x = (n ≡ 0) × (x ≡ [])
IsGreedy S (g ∷ gs) n [] = ⊥
IsGreedy S (g ∷ gs) n (c ∷ cs) = (c * g ≤ n) × IsStuck S (n - c * g) g × IsGreedy S gs (n - c * g) cs

-- sums of multiples of members are members
values-are_members : (S gs z : List ℕ) → ((k : ℕ) → k < length gs → IsMember S (get_or gs k 0)) → IsMember S (value_of gs z)
values-are_members S [] z h = member-zero S
values-are_members S (g ∷ gs) [] h = member-zero S
values-are_members S (g ∷ gs) (c ∷ z) h =
    member-add S (c * g) (value_of gs z) (member-times S c g (h 0 (omega arith))) (values-are_members S gs z (λ k l. h (suc k) (omega arith)))

-- it is a factorization
greedy-value : (S gs : List ℕ) (n : ℕ) (x : List ℕ) → IsGreedy S gs n x → IsFactorization gs n x
greedy-value S [] n x h = record { places = ap length h.1; value = sym h.0 }
greedy-value S (g ∷ gs) n [] h = absurd h
greedy-value S (g ∷ gs) n (c ∷ cs) h = let p = greedy-value S gs (n - c * g) cs h.2 in record { places = ap suc p.places; value = omega (arith, p.value, h.0) }

-- a greater first place would leave a member
too_great : (S gs ds : List ℕ) (n g c d : ℕ) → ((k : ℕ) → k < length (g ∷ gs) → IsMember S (get_or (g ∷ gs) k 0)) → c * g ≤ n → IsStuck S (n - c * g) g → d * g + value_of gs ds ≡ n → c < d → ⊥
too_great S gs ds n g c d h fits stuck e less =
    let k = d - 1 - c in
    let m : k * g + value_of gs ds + g ≡ n - c * g = omega (arith, ap (λ t. t * g) (let f : d ≡ suc (c + k) = omega arith in f), e) in
    stuck (k * g + value_of gs ds) m
    (member-add S (k * g) (value_of gs ds) (member-times S k g (h 0 (omega arith))) (values-are_members S gs ds (λ i l. h (suc i) (omega arith))))

-- no factorization is above it
greedy-greatest : (S gs : List ℕ) (n : ℕ) (x y : List ℕ) → ((k : ℕ) → k < length gs → IsMember S (get_or gs k 0)) → IsGreedy S gs n x → IsFactorization gs n y → IsLexBelow x y → ⊥
greedy-greatest S [] n x y h p q less = none x p.1 less
  where
    none : (x : List ℕ) → x ≡ [] → IsLexBelow x y → ⊥
    none [] e l = l
    none (c ∷ cs) e l = absurd (omega (arith, ap length e))
greedy-greatest S (g ∷ gs) n [] y h p q less = absurd p
greedy-greatest S (g ∷ gs) n (c ∷ cs) [] h p q less = absurd less
greedy-greatest S (g ∷ gs) n (c ∷ cs) (d ∷ ds) h p q (inl l) = too_great S gs ds n g c d h p.0 p.1 q.value l
greedy-greatest S (g ∷ gs) n (c ∷ cs) (d ∷ ds) h p q (inr e) =
    let same : d * g ≡ c * g = ap (λ t. t * g) (sym e.0) in
    greedy-greatest S gs (n - c * g) cs ds (λ k l. h (suc k) (omega arith)) p.2 (record { places = omega (arith, q.places); value = omega (arith, q.value, same) }) e.1

-- of all factorizations by the generators it is the greatest
pub greedy-is_greatest : (G : List ℕ) (n : ℕ) (x : List ℕ) → IsGreedy G G n x → IsLexGreatest (IsFactorization G n) x
greedy-is_greatest G n x p = record { member = greedy-value G G n x p; greatest = λ y q. greedy-greatest G G n x y (member-entry G) p q }

-- ---- the steps of a program, which has used the first generators

-- a member is left from which none of the first k generators can be taken, and what uses it up by the others uses n up
pub record IsUsed (G : List ℕ) (n k rest : ℕ) (vector : List ℕ) : Type 0 where
  pub small : rest ≤ n
  pub member : IsMember G rest
  pub stuck : (i : ℕ) → i < k → IsStuck G rest (get_or G i 0)
  pub goes_on : (x : List ℕ) → IsGreedy G (drop k G) rest x → IsGreedy G G n (vector ++ x)

-- by the first generator, which leaves the least member w of the class
pub used-first : (G : List ℕ) (n w c : ℕ) → 0 < length G → 0 < get_or G 0 0 → IsMember G w → IsStuck G w (get_or G 0 0) → n ≡ w + c * get_or G 0 0 → IsUsed G n 1 w (c ∷ [])
used-first [] n w c some positive p stuck e = absurd (omega arith)
used-first (g ∷ G) n w c some positive p stuck e =
    let rest : n - c * g ≡ w = omega (arith, e) in
    record {
      small = omega (arith, e);
      member = p;
      stuck = λ i l. let h : 0 ≡ i = omega arith in subst (λ j. IsStuck (g ∷ G) w (get_or (g ∷ G) j 0)) h stuck;
      goes_on = λ x h. (omega (arith, e), subst (λ m. IsStuck (g ∷ G) m g) (sym rest) stuck, subst (λ m. IsGreedy (g ∷ G) G m x) (sym rest) h);
    }

-- by one generator more
pub used-more : (G : List ℕ) (n k rest c g : ℕ) (vector new : List ℕ) → k < length G → g ≡ get_or G k 0 → IsUsed G n k rest vector → c * g ≤ rest → IsMember G (rest - c * g) →
    IsStuck G (rest - c * g) g → new ≡ vector ++ c ∷ [] → IsUsed G n (suc k) (rest - c * g) new
used-more G n k rest c g vector new inside is u fits p stuck made = record {
  small = omega (arith, u.small);
  member = p;
  stuck = λ i l. elim (cases_lt i k) [
    | inl less ↦ λ y e q. u.stuck i less (y + c * g) (omega (arith, e, fits)) (member-add G y (c * g) q (member-times G c g (subst (IsMember G) (sym is) (member-entry G k inside))))
    | inr more ↦ let h : k ≡ i = omega arith in subst (λ j. IsStuck G (rest - c * g) (get_or G j 0)) h (subst (IsStuck G (rest - c * g)) is stuck)
  ];
  goes_on = λ x h.
      let longer : vector ++ c ∷ x ≡ new ++ x = sym (append_assoc vector (c ∷ []) x) ∙ ap (λ v. v ++ x) (sym made) in
      let here : IsGreedy G (g ∷ drop (suc k) G) rest (c ∷ x) = (fits, stuck, h) in
      let split : g ∷ drop (suc k) G ≡ drop k G = ap (λ e. e ∷ drop (suc k) G) is ∙ sym (drop-cons G k 0 inside) in
      subst (IsGreedy G G n) longer (u.goes_on (c ∷ x) (subst (λ gs. IsGreedy G gs rest (c ∷ x)) split here));
}

-- by all of them nothing is left
pub used-up : (G : List ℕ) (n k rest : ℕ) (vector : List ℕ) → length G ≤ k → IsUsed G n k rest vector → IsLexGreatest (IsFactorization G n) vector
used-up G n k rest vector far u =
    let end : IsGreedy G (drop k G) rest [] = subst (λ gs. IsGreedy G gs rest []) (sym (drop_all k G far)) (none, refl) in
    greedy-is_greatest G n vector (subst (IsGreedy G G n) (append-nil vector) (u.goes_on [] end))
  where
    none : rest ≡ 0
    none = elim (zero_or_positive u.member.0) [
      | inl e ↦ sym u.member.1.value ∙ ap (value_of G) e ∙ value_of-zeros G (length u.member.0)
      | inr p ↦
          let f = u.member.1 in
          let inside : p.0 < length G = omega (arith, f.places, inside_of u.member.0 p.0 p.1) in
          absurd (u.stuck p.0 (omega arith) (value_of G (lower u.member.0 p.0)) (value_of-lower G u.member.0 p.0 f.places p.1 ∙ f.value)
          (lower u.member.0 p.0, record { places = length-lower u.member.0 p.0 ∙ f.places; value = refl }))
    ]

-- the entry of the class of a member is what its first generator leaves
pub entry-left : (G t : List ℕ) (n w : ℕ) → IsNumericalSemigroup G → IsApery G (get_or G 0 0) t → IsMember G n → w ≡ get_or t (n % length t) 0 →
    (w ≤ n) × IsUsed G n 1 w ((n - w) / get_or G 0 0 ∷ [])
entry-left G t n w s a p e = (below, used-first G n w ((n - w) / get_or G 0 0) s.not_empty positive (subst (IsMember G) (sym is) (a.member (n % get_or G 0 0) inside)) (λ y f q. a.least (n % get_or G 0 0) y inside (f ∙ is) q) split)
  where
    positive : 0 < get_or G 0 0
    positive = omega (arith, s.positive 0 0 s.not_empty)

    is : w ≡ get_or t (n % get_or G 0 0) 0
    is = e ∙ ap (λ k. get_or t (n % k) 0) a.entries

    inside : n % get_or G 0 0 < get_or G 0 0
    inside = mod_below n (get_or G 0 0) positive

    below : w ≤ n
    below = subst (λ v. v ≤ n) (sym is) ((apery-member G (get_or G 0 0) t positive (member-entry G 0 s.not_empty) a n).0 p)

    split : n ≡ w + (n - w) / get_or G 0 0 * get_or G 0 0
    split =
        let q = congruent-split (get_or G 0 0) w n positive (ap (λ v. v % get_or G 0 0) is ∙ a.residue (n % get_or G 0 0) inside) below in
        let f : n - w ≡ q.0 * get_or G 0 0 = omega (arith, q.1) in
        let g : (n - w) / get_or G 0 0 ≡ q.0 = ap (λ v. v / get_or G 0 0) f ∙ mul-div_cancel q.0 positive in
        q.1 ∙ ap (λ k. w + k * get_or G 0 0) (sym g)
