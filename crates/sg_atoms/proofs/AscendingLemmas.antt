-- A list of different vectors of one length that was sorted.
use Rattle.std.proofs.Common.{◌≡◌, ◌≢◌, ℕ, ◌<◌, List, length, get_or, false, Ordering, sym, ap, ◌∙◌, inl, inr, true≢false, arith}
use Rattle.std.specs.Prelude.{Contains, remove}
use Rattle.std.specs.declared.cmp.Ordering.TheVariants.{Less, Equal, Greater}
use Rattle.std.specs.Cmp.Lexicographic.{slice_cmp}
use Rattle.std.specs.List.Sorted.{IsPermutation, IsSorted}
use Rattle.std.specs.Ordering.{MatchOrdering, nat_cmp, is_lt}
use Rattle.std.proofs.lemmas.Cmp.{nat_list_cmp_total}
use Rattle.std.proofs.lemmas.List.{get_or_default}
use Rattle.std.proofs.lemmas.List.Edits.{get_or-remove_below, length-remove}
use Rattle.std.proofs.lemmas.List.Elements.{Contains-get_or}
use Rattle.std.proofs.lemmas.List.Sorted.{Contains-permutation, IsPermutation-sym, length_permutation, ranks_by, sorted_far}
use Rattle.sg_defs.specs.Vectors.{IsLexBelow, ListsAscending}
use Rattle.sg_nat.proofs.OrderLemmas.{lex_ranked}
use Rattle.sg_laws_finite.proofs.CountLemmas.{pigeonhole, contains-remove}
use Rattle.sg_laws_finite.proofs.ElementLemmas.{pairs-cases}
use Rattle.sg_laws_finite.proofs.SearchLemmas.{vectors-decided}
use Rattle.sg_atoms.specs.Sets.{AreDifferent, HaveOneLength}

-- in another order they are different too: else one could be left out, and the others were too few
pub different-moved : (l m : List (List ℕ)) → AreDifferent l → IsPermutation l m → AreDifferent m
different-moved l m different moved i j d less inside same =
    let y = get_or m j d in
    let before : i < length m = omega (arith, less, inside) in
    let here : get_or m j y ≡ y = get_or_default m j y d inside in
    let few = pigeonhole l (remove m j) different (λ z c. elim (vectors-decided y z) as (λ _. Contains (remove m j) z) [
      | inl e ↦ (i, omega (arith, less, inside, length-remove m j inside), get_or-remove_below m j z i less inside ∙ get_or_default m i z d before ∙ same ∙ e)
      | inr apart ↦ contains-remove m j y z inside here apart (Contains-permutation l m z moved c)
    ]) in
    omega (arith, few, length_permutation l m moved, length-remove m j inside)

-- what is not after another vector, and is another one, is before it
before-from_order : (o : Ordering) (x y : List ℕ) → MatchOrdering o (IsLexBelow y x) (y ≡ x) (IsLexBelow x y) → is_lt o ≡ false → x ≢ y → IsLexBelow x y
before-from_order Less x y m f apart = absurd (true≢false f)
before-from_order Equal x y m f apart = absurd (apart (sym m))
before-from_order Greater x y m f apart = m

one-length : (l : List (List ℕ)) (x y : List ℕ) → HaveOneLength l → Contains l x → Contains l y → length y ≡ length x
one-length l x y long h k = elim (pairs-cases (λ x y. length x ≡ length y) l x y long h k) [
  | inl e ↦ ap length (sym e)
  | inr apart ↦ elim apart [ inl e ↦ sym e | inr e ↦ e ]
]

pub ascending-sorted : (l m : List (List ℕ)) → AreDifferent l → HaveOneLength l → IsPermutation l m → IsSorted (slice_cmp nat_cmp) m → ListsAscending (Contains l) m
ascending-sorted l m different long moved sorted = record {
  ascending = λ i j d less inside.
      let x = get_or m i d in
      let y = get_or m j d in
      let early : i < length m = omega (arith, less, inside) in
      let in_x = back x (Contains-get_or m i d early) in
      let in_y = back y (Contains-get_or m j d inside) in
      before-from_order (slice_cmp nat_cmp y x) x y (lex_ranked y x (one-length l x y long in_x in_y))
      (sorted_far (λ a b. is_lt (slice_cmp nat_cmp a b)) (ranks_by nat_list_cmp_total (λ v. v)) m sorted i j d (omega (arith, less)) inside)
      (different-moved l m different moved i j d less inside);
  exactly = λ z. (back z, Contains-permutation l m z moved);
}
  where
    back : (z : List ℕ) → Contains m z → Contains l z
    back z h = Contains-permutation m l z (IsPermutation-sym l m moved) h
