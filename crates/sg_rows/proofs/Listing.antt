-- Replies that are lists of numbers or of semigroups.
use Rattle.std.proofs.Common.{◌≡◌, ◌<◌, ◌≤◌, ℕ, ℤ, pos, List, [], ◌∷◌, length, map, Ok, Err, inl, inr, refl, ap, ap₂, sym, ◌∙◌, Bool, true, false, IsTrue, arith}
use Rattle.std.proofs.lemmas.Bool.{cases_lt}
use Rattle.sg_value.specs.Data.{Data, int, list, semigroup, item, items_of, data_map, items_map, weight_of, weight_of_all, depth_of, depth_of_all, EachThingOfAll, Items, Kind}
use Rattle.sg_value.specs.Places.{Entries}
use Rattle.sg_value.specs.declared.limits.TheConstants.{WEIGHT_LIMIT}
use Rattle.sg_value.specs.Plain.{contents, Things, Places}
use Rattle.sg_value.specs.declared.value.Value.TheVariants as value
use Rattle.sg_rows.specs.Order.{Delivers}
use Rattle.sg_rows.specs.Values.{integer_list, natural_list, semigroup_list, vector_list, vector_lists, weight_of_vectors, weight_of_lists}
use Rattle.sg_rows.specs.declared.fault.Fault.TheVariants.{TooLarge}

module _ {A : Type 0} {H : Kind → Type 0} (f : A → Data H) (light : (a : A) → weight_of (f a) ≡ 1) (flat : (a : A) → depth_of (f a) ≡ 0) where
  pub weight-flat : (xs : List A) → weight_of_all (items_of (map f xs)) ≡ length xs
  weight-flat [] = refl
  weight-flat (x ∷ xs) = omega (arith, light x, weight-flat xs)

  pub depth-flat : (xs : List A) → depth_of_all (items_of (map f xs)) ≡ 0
  depth-flat [] = refl
  depth-flat (x ∷ xs) = omega (arith, flat x, depth-flat xs)

  -- a list without lists is answered where it is light
  pub delivers_flat : (xs : List A) → length xs < WEIGHT_LIMIT → Delivers (list (items_of (map f xs))) (Ok (list (items_of (map f xs))))
  delivers_flat xs few =
      inr ((λ n. n tt), inr ((λ deep. omega (arith, depth-flat xs)), inr ((λ heavy. omega (arith, weight-flat xs)), refl)))

  pub delivers_heavy : (xs : List A) → WEIGHT_LIMIT ≤ length xs → Delivers (list (items_of (map f xs))) (Err TooLarge)
  delivers_heavy xs many =
      inr ((λ n. n tt), inr ((λ deep. omega (arith, depth-flat xs)), inl (omega (arith, weight-flat xs), refl)))

pub delivers_integers : (zs : List ℤ) → length zs < WEIGHT_LIMIT → Delivers {H = Things} (integer_list zs) (Ok (integer_list zs))
delivers_integers zs few = delivers_flat int (λ z. refl) (λ z. refl) zs few

pub delivers_heavy_integers : (zs : List ℤ) → WEIGHT_LIMIT ≤ length zs → Delivers {H = Things} (integer_list zs) (Err TooLarge)
delivers_heavy_integers zs many = delivers_heavy int (λ z. refl) (λ z. refl) zs many

pub delivers_naturals : (ns : List ℕ) → length ns < WEIGHT_LIMIT → Delivers {H = Things} (natural_list ns) (Ok (natural_list ns))
delivers_naturals ns few = delivers_flat (λ n. int (pos n)) (λ n. refl) (λ n. refl) ns few

pub delivers_heavy_naturals : (ns : List ℕ) → WEIGHT_LIMIT ≤ length ns → Delivers {H = Things} (natural_list ns) (Err TooLarge)
delivers_heavy_naturals ns many = delivers_heavy (λ n. int (pos n)) (λ n. refl) (λ n. refl) ns many

pub delivers_semigroups : (L : List (List ℕ)) → length L < WEIGHT_LIMIT → Delivers {H = Things} (semigroup_list L) (Ok (semigroup_list L))
delivers_semigroups L few = delivers_flat semigroup (λ h. refl) (λ h. refl) L few

pub delivers_heavy_semigroups : (L : List (List ℕ)) → WEIGHT_LIMIT ≤ length L → Delivers {H = Things} (semigroup_list L) (Err TooLarge)
delivers_heavy_semigroups L many = delivers_heavy semigroup (λ h. refl) (λ h. refl) L many

-- lists of vectors
abbrev vector_items : List (List ℕ) → Items Things
vector_items vs = items_of (map natural_list vs)

weight-vectors : (vs : List (List ℕ)) → weight_of_all (vector_items vs) ≡ weight_of_vectors vs
weight-vectors [] = refl
weight-vectors (ns ∷ vs) = omega (arith, weight-flat {H = Things} (λ n. int (pos n)) (λ n. refl) (λ n. refl) ns, weight-vectors vs)

depth-vectors : (vs : List (List ℕ)) → depth_of_all (vector_items vs) ≤ 1
depth-vectors [] = omega arith
depth-vectors (ns ∷ vs) = omega (arith, depth-flat {H = Things} (λ n. int (pos n)) (λ n. refl) (λ n. refl) ns, depth-vectors vs)

pub delivers_vectors : (vs : List (List ℕ)) → weight_of_vectors vs < WEIGHT_LIMIT → Delivers {H = Things} (vector_list vs) (Ok (vector_list vs))
delivers_vectors vs few =
    inr ((λ n. n tt), inr ((λ deep. omega (arith, depth-vectors vs, deep)), inr ((λ heavy. omega (arith, weight-vectors vs, few, heavy)), refl)))

pub delivers_heavy_vectors : (vs : List (List ℕ)) → WEIGHT_LIMIT ≤ weight_of_vectors vs → Delivers {H = Things} (vector_list vs) (Err TooLarge)
delivers_heavy_vectors vs many =
    inr ((λ n. n tt), inr ((λ deep. omega (arith, depth-vectors vs, deep)), inl (omega (arith, weight-vectors vs, many), refl)))

-- lists of lists of vectors
abbrev list_items : List (List (List ℕ)) → Items Things
list_items ls = items_of (map vector_list ls)

weight-lists : (ls : List (List (List ℕ))) → weight_of_all (list_items ls) ≡ weight_of_lists ls
weight-lists [] = refl
weight-lists (vs ∷ ls) = omega (arith, weight-vectors vs, weight-lists ls)

depth-lists : (ls : List (List (List ℕ))) → depth_of_all (list_items ls) ≤ 2
depth-lists [] = omega arith
depth-lists (vs ∷ ls) = omega (arith, depth-vectors vs, depth-lists ls)

pub delivers_lists : (ls : List (List (List ℕ))) → weight_of_lists ls < WEIGHT_LIMIT → Delivers {H = Things} (vector_lists ls) (Ok (vector_lists ls))
delivers_lists ls few =
    inr ((λ n. n tt), inr ((λ deep. omega (arith, depth-lists ls, deep)), inr ((λ heavy. omega (arith, weight-lists ls, few, heavy)), refl)))

pub delivers_heavy_lists : (ls : List (List (List ℕ))) → WEIGHT_LIMIT ≤ weight_of_lists ls → Delivers {H = Things} (vector_lists ls) (Err TooLarge)
delivers_heavy_lists ls many =
    inr ((λ n. n tt), inr ((λ deep. omega (arith, depth-lists ls, deep)), inl (omega (arith, weight-lists ls, many), refl)))

-- what is plain has the same integers
integers_kept : {H K : Kind → Type 0} (f : (k : Kind) → H k → K k) (zs : List ℤ) → items_map f (items_of (map int zs)) ≡ items_of (map int zs)
integers_kept f [] = refl
integers_kept f (z ∷ zs) = ap (item (int z)) (integers_kept f zs)

pub plain_integers : {H K : Kind → Type 0} (f : (k : Kind) → H k → K k) (zs : List ℤ) → data_map f (integer_list zs) ≡ integer_list zs
plain_integers f zs = ap list (integers_kept f zs)

naturals_kept : {H K : Kind → Type 0} (f : (k : Kind) → H k → K k) (ns : List ℕ) → items_map f (items_of (map (λ n. int (pos n)) ns)) ≡ items_of (map (λ n. int (pos n)) ns)
naturals_kept f [] = refl
naturals_kept f (n ∷ ns) = ap (item (int (pos n))) (naturals_kept f ns)

pub plain_naturals : {H K : Kind → Type 0} (f : (k : Kind) → H k → K k) (ns : List ℕ) → data_map f (natural_list ns) ≡ natural_list ns
plain_naturals f ns = ap list (naturals_kept f ns)

vectors_kept : {H K : Kind → Type 0} (f : (k : Kind) → H k → K k) (vs : List (List ℕ)) → items_map f (items_of (map natural_list vs)) ≡ items_of (map natural_list vs)
vectors_kept f [] = refl
vectors_kept f (ns ∷ vs) = ap₂ item (plain_naturals f ns) (vectors_kept f vs)

pub plain_vectors : {H K : Kind → Type 0} (f : (k : Kind) → H k → K k) (vs : List (List ℕ)) → data_map f (vector_list vs) ≡ vector_list vs
plain_vectors f vs = ap list (vectors_kept f vs)

lists_kept : {H K : Kind → Type 0} (f : (k : Kind) → H k → K k) (ls : List (List (List ℕ))) → items_map f (items_of (map vector_list ls)) ≡ items_of (map vector_list ls)
lists_kept f [] = refl
lists_kept f (vs ∷ ls) = ap₂ item (plain_vectors f vs) (lists_kept f ls)

pub plain_lists : {H K : Kind → Type 0} (f : (k : Kind) → H k → K k) (ls : List (List (List ℕ))) → data_map f (vector_lists ls) ≡ vector_lists ls
plain_lists f ls = ap list (lists_kept f ls)

pub integers_known : (P : (k : Kind) → Places k → Type 0) (zs : List ℤ) → EachThingOfAll P (items_of (map int zs))
integers_known P [] = tt
integers_known P (z ∷ zs) = (tt, integers_known P zs)

pub naturals_known : (P : (k : Kind) → Places k → Type 0) (ns : List ℕ) → EachThingOfAll P (items_of (map (λ n. int (pos n)) ns))
naturals_known P [] = tt
naturals_known P (n ∷ ns) = (tt, naturals_known P ns)

pub vectors_known : (P : (k : Kind) → Places k → Type 0) (vs : List (List ℕ)) → EachThingOfAll P (items_of (map natural_list vs))
vectors_known P [] = tt
vectors_known P (ns ∷ vs) = (naturals_known P ns, vectors_known P vs)

pub lists_known : (P : (k : Kind) → Places k → Type 0) (ls : List (List (List ℕ))) → EachThingOfAll P (items_of (map vector_list ls))
lists_known P [] = tt
lists_known P (vs ∷ ls) = (vectors_known P vs, lists_known P ls)

pub contents-List : (ds : Entries) → contents (value.List ds) ≡ list ds
contents-List ds = refl

-- what is not heavy is light
pub light : (n : ℕ) (b : Bool) → b ≡ false → (WEIGHT_LIMIT ≤ n → IsTrue b) → n < WEIGHT_LIMIT
light n b off heavy = elim (cases_lt n WEIGHT_LIMIT) [ inl less ↦ less | inr more ↦ absurd (let e : true ≡ false = sym (heavy more) ∙ off in cc) ]
