-- The pieces of the texts that loops print.
use Rattle.std.specs.Fmt.{signed_decimal}
use Rattle.std.proofs.Common.{◌≡◌, ℕ, ℤ, pos, ◌+◌, ◌<◌, ◌≤◌, zero, suc, List, [], ◌∷◌, ◌++◌, length, get_or, take, drop, map, flat_map, codes, decimal, ap, sym, ◌∙◌, subst, append_assoc, append-nil, add-one, arith}
use Rattle.std.proofs.lemmas.List.{take_more, take_all, take-append-drop, length-map, get_or-map}
use Rattle.std.proofs.lemmas.Grind.{flat_map-append}
use Rattle.sg_value.specs.Text.{joined, separator}
use Rattle.sg_value.proofs.Fronts.{IsNext}

-- the text of item i, among the texts of all
pub flat_map-next : {X : Type 0} (f : X → List ℕ) (xs : List X) (i : ℕ) (d : X) → i < length xs → IsNext (flat_map f (take i xs)) (f (get_or xs i d)) (flat_map f (take (i + 1) xs)) (flat_map f xs)
flat_map-next f xs i d within = record {
  more = ap (flat_map f) (take_more xs i d within) ∙ (flat_map-append f (take i xs) (get_or xs i d ∷ []) ∙ ap (λ bs. flat_map f (take i xs) ++ bs) (append-nil (f (get_or xs i d))));
  rest = flat_map f (drop (i + 1) xs);
  whole = ap (flat_map f) (sym (take-append-drop (i + 1) xs)) ∙ flat_map-append f (take (i + 1) xs) (drop (i + 1) xs);
}

-- what stands in a list behind its first entry
followed : List (List ℕ) → List ℕ
followed ts = flat_map (λ t. codes ", " ++ t) ts

joined-next_suc : (ts : List (List ℕ)) (i : ℕ) (d : List ℕ) → i < length ts → IsNext (joined (take i ts)) (separator i ++ get_or ts i d) (joined (take (suc i) ts)) (joined ts)
unfolding followed
joined-next_suc [] i d within = absurd (omega arith)
joined-next_suc (t ∷ ts) zero d within = record { more = append-nil t; rest = followed ts; whole = ap (λ bs. bs ++ followed ts) (sym (append-nil t)) }
joined-next_suc (t ∷ ts) (suc i) d within =
    let next : IsNext (followed (take i ts)) (codes ", " ++ get_or ts i d) (followed (take (i + 1) ts)) (followed ts) = flat_map-next (λ u. codes ", " ++ u) ts i d (omega arith) in
    record {
      more = ap (λ k. t ++ followed (take k ts)) (sym (add-one i)) ∙ (ap (λ bs. t ++ bs) next.more ∙ sym (append_assoc t _ _));
      rest = next.rest;
      whole = ap (λ bs. t ++ bs) next.whole ∙ (sym (append_assoc t _ _) ∙ ap (λ k. (t ++ followed (take k ts)) ++ next.rest) (add-one i));
    }

-- text i, and what stands before it, among the joined texts
pub joined-next : (ts : List (List ℕ)) (i : ℕ) (t d : List ℕ) → i < length ts → get_or ts i d ≡ t → IsNext (joined (take i ts)) (separator i ++ t) (joined (take (i + 1) ts)) (joined ts)
joined-next ts i t d within is =
    let next : IsNext (joined (take i ts)) (separator i ++ get_or ts i d) (joined (take (i + 1) ts)) (joined ts) = rw add-one (joined-next_suc ts i d within) in
    subst (λ u. IsNext (joined (take i ts)) (separator i ++ u) (joined (take (i + 1) ts)) (joined ts)) is next

-- number i among the numbers of a list
pub numbers-next : (ns : List ℕ) (i : ℕ) → i < length ns → IsNext (joined (take i (map decimal ns))) (separator i ++ decimal (get_or ns i 0)) (joined (take (i + 1) (map decimal ns))) (joined (map decimal ns))
numbers-next ns i within = joined-next (map decimal ns) i (decimal (get_or ns i 0)) [] (rw length-map within) (get_or-map decimal ns i 0 [] within)

-- integer number i among those of a list
pub integers-next : (zs : List ℤ) (i : ℕ) → i < length zs → IsNext (joined (take i (map signed_decimal zs))) (separator i ++ signed_decimal (get_or zs i (pos 0))) (joined (take (i + 1) (map signed_decimal zs))) (joined (map signed_decimal zs))
integers-next zs i within = joined-next (map signed_decimal zs) i (signed_decimal (get_or zs i (pos 0))) [] (rw length-map within) (get_or-map signed_decimal zs i (pos 0) [] within)

-- all texts of a list were taken
pub joined-all : (ts : List (List ℕ)) (i : ℕ) → length ts ≤ i → joined (take i ts) ≡ joined ts
joined-all ts i done = ap joined (take_all i ts done)
