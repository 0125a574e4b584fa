-- The weights of vectors in a list, counted from the front.
use Rattle.std.proofs.Common.{◌≡◌, ◌+◌, ◌<◌, ◌≤◌, ℕ, zero, suc, List, [], ◌∷◌, ◌++◌, length, get_or, take, sym, ap, ◌∙◌, arith}
use Rattle.std.proofs.lemmas.List.{take_more}
use Rattle.sg_rows.specs.Values.{weight_of_vectors, weight_of_lists}

-- one more vector, put last
weight-push : (vs : List (List ℕ)) (v : List ℕ) → weight_of_vectors (vs ++ v ∷ []) ≡ weight_of_vectors vs + (length v + 1)
weight-push [] v = omega arith
weight-push (w ∷ vs) v = omega (arith, weight-push vs v)

-- the first vectors and one more
pub weight-more : (vs : List (List ℕ)) (i : ℕ) (v : List ℕ) → i < length vs → v ≡ get_or vs i v → weight_of_vectors (take (i + 1) vs) ≡ weight_of_vectors (take i vs) + (length v + 1)
weight-more vs i v within is = ap weight_of_vectors (take_more vs i v within) ∙ (ap (λ w. weight_of_vectors (take i vs ++ w ∷ [])) (sym is) ∙ weight-push (take i vs) v)

-- the first vectors weigh no more than all
pub weight-front : (vs : List (List ℕ)) (i : ℕ) → weight_of_vectors (take i vs) ≤ weight_of_vectors vs
weight-front [] zero = omega arith
weight-front [] (suc i) = omega arith
weight-front (v ∷ vs) zero = omega arith
weight-front (v ∷ vs) (suc i) = omega (arith, weight-front vs i)

-- ---- the same of lists of vectors

weight-push_list : (ls : List (List (List ℕ))) (vs : List (List ℕ)) → weight_of_lists (ls ++ vs ∷ []) ≡ weight_of_lists ls + (weight_of_vectors vs + 1)
weight-push_list [] vs = omega arith
weight-push_list (ws ∷ ls) vs = omega (arith, weight-push_list ls vs)

pub lists-more : (ls : List (List (List ℕ))) (i : ℕ) (vs : List (List ℕ)) → i < length ls → vs ≡ get_or ls i vs → weight_of_lists (take (i + 1) ls) ≡ weight_of_lists (take i ls) + (weight_of_vectors vs + 1)
lists-more ls i vs within is = ap weight_of_lists (take_more ls i vs within) ∙ (ap (λ w. weight_of_lists (take i ls ++ w ∷ [])) (sym is) ∙ weight-push_list (take i ls) vs)

pub lists-front : (ls : List (List (List ℕ))) (i : ℕ) → weight_of_lists (take i ls) ≤ weight_of_lists ls
lists-front [] zero = omega arith
lists-front [] (suc i) = omega arith
lists-front (vs ∷ ls) zero = omega arith
lists-front (vs ∷ ls) (suc i) = omega (arith, lists-front ls i)
