-- One turn of the loop over the parts of the generators.
use Rattle.std.proofs.Common.{◌≡◌, ℕ, ◌+◌, ◌-◌, ◌<◌, ◌^◌, List, [], ◌∷◌, ◌++◌, length, length-drop, map, take, drop, get_or, Result, Ok, Some, refl, sym, ap, subst, ◌∙◌, arith, append_assoc, append-nil}
use Rattle.std.specs.Prelude.{All, AllPairs, Contains}
use Rattle.std.specs.List.Sorted.{IsStrictlyIncreasing}
use Rattle.std.specs.declared.vec.Vec.{Vec}
use Rattle.std.proofs.lemmas.List.{get_or_default, map-append, take_all}
use Rattle.std.proofs.lemmas.List.Elements.{All-from_get_or, Contains-append_right}
use Rattle.itertools.specs.Pool.{ClonesAt, pool_steps, reads_pool, powerset_left, subsets}
use Rattle.itertools.specs.declared.combinations.Powerset.{Powerset}
use Rattle.sg_classes.specs.Fit.{IsFit}
use Rattle.sg_glue.specs.Gluings.{Split, IsChosen, AreGluings, AddsGluing}
use Rattle.sg_glue.proofs.PairLemmas.{contains-head}
use Rattle.sg_glue.proofs.SubsetLemmas.{Rises, Precedes, subsets-rise}
use Rattle.sg_glue.proofs.ListingLemmas.{rest-ascends, pick, left_of, left-chosen, lefts-ordered, AreUpTo, upto-more, upto-all}

-- what is read at places of a list are its entries there
cloned-picked : (clones : ℕ → ℕ → Type 0) → ((x y : ℕ) → clones x y → y ≡ x) → (P : List ℕ) (a : ℕ) (ds vs : List ℕ) → Rises (length P) a ds → ClonesAt clones P ds vs → vs ≡ pick P ds
cloned-picked clones same P a [] [] r h = refl
cloned-picked clones same P a [] (v ∷ vs) r h = absurd h
cloned-picked clones same P a (d ∷ ds) [] r h = absurd h
cloned-picked clones same P a (d ∷ ds) (v ∷ vs) r h =
    ap (λ n. n ∷ vs) (same (get_or P d v) v h.0 ∙ get_or_default P d v 0 r.1)
    ∙ ap (λ l. get_or P d 0 ∷ l) (cloned-picked clones same P (d + 1) ds vs r.2 h.1)

-- the next part: its places go, and its entries come
pub next-part : {Z E : Type 0} {clones : ℕ → ℕ → Type 0} (same : (x y : ℕ) → clones x y → y ≡ x) (P : List ℕ) (s t : Powerset ℕ Z) (item : Result (Vec ℕ Z) E) (v : Vec ℕ Z) → item ≡ Ok v → s.combinations.pool.items ≡ P
    → pool_steps powerset_left (λ (u : Powerset ℕ Z). u.combinations.pool.items) (reads_pool clones) s (Some item) t
    → (s.combinations.pool.items ≡ t.combinations.pool.items) × (ds : List ℕ) × (powerset_left s ≡ ds ∷ powerset_left t) × (Contains (subsets (length P)) ds → v.items ≡ pick P ds)
next-part {Z} {E} {clones} same P s t item v is pool steps =
    let h = subst (λ (r : Result (Vec ℕ Z) E). pool_steps powerset_left (λ (u : Powerset ℕ Z). u.combinations.pool.items) (reads_pool clones) s (Some r) t) is steps in
    (h.0, h.1.0, h.1.1, (λ c. cloned-picked clones same P 0 h.1.0 v.items (subsets-rise (length P) h.1.0 c) (subst (λ l. ClonesAt clones l h.1.0 v.items) pool h.1.2)))

-- a part that comes next is a part
pub is-part : (n : ℕ) (came left rest : List (List ℕ)) (ds : List ℕ) → subsets n ≡ came ++ left → left ≡ ds ∷ rest → Contains (subsets n) ds
is-part n came left rest ds parts e = subst (λ l. Contains l ds) (sym (parts ∙ ap (λ l. came ++ l) e)) (Contains-append_right came (ds ∷ rest) ds (contains-head ds rest))

pub part-chosen : (G : List ℕ) (ds : List ℕ) → 0 < length G → IsStrictlyIncreasing G → Contains (subsets (length (drop 1 G))) ds → IsChosen G (left_of (get_or G 0 0) (drop 1 G) ds)
part-chosen [] ds some up h = absurd (omega (arith, some))
part-chosen (g ∷ P) ds some up h = left-chosen g P ds up h

pub found-more : (G : List ℕ) (came left rest : List (List ℕ)) (ds : List ℕ) (list new : List Split) → 0 < length G → IsStrictlyIncreasing G
    → subsets (length (drop 1 G)) ≡ came ++ left → left ≡ ds ∷ rest → AreUpTo G (map (left_of (get_or G 0 0) (drop 1 G)) came) list
    → AddsGluing G (left_of (get_or G 0 0) (drop 1 G) ds) list new → (subsets (length (drop 1 G)) ≡ (came ++ ds ∷ []) ++ rest) × AreUpTo G (map (left_of (get_or G 0 0) (drop 1 G)) (came ++ ds ∷ [])) new
found-more [] came left rest ds list new some up parts e h a = absurd (omega (arith, some))
found-more (g ∷ P) came left rest ds list new some up parts e h a =
    let f : List ℕ → List ℕ = left_of g P in
    let whole : subsets (length P) ≡ came ++ ds ∷ rest = parts ∙ ap (λ l. came ++ l) e in
    let order : AllPairs Precedes (map f came ++ f ds ∷ map f rest) = subst (AllPairs Precedes) (ap (map f) whole ∙ map-append f came (ds ∷ rest)) (lefts-ordered g P (rest-ascends g P up)) in (
      whole ∙ sym (append_assoc came (ds ∷ []) rest),
      subst (λ l. AreUpTo (g ∷ P) l new) (sym (map-append f came (ds ∷ []))) (upto-more (g ∷ P) (map f came) (f ds) (map f rest) list new order h a),
    )

pub found-all : (G : List ℕ) (came left : List (List ℕ)) (list : List Split) → 0 < length G → IsStrictlyIncreasing G → subsets (length (drop 1 G)) ≡ came ++ left → left ≡ []
    → AreUpTo G (map (left_of (get_or G 0 0) (drop 1 G)) came) list → AreGluings G list
found-all [] came left list some up parts e h = absurd (omega (arith, some))
found-all (g ∷ P) came left list some up parts e h =
    let whole : subsets (length P) ≡ came = parts ∙ ap (λ l. came ++ l) e ∙ append-nil came in
    upto-all g P list up (subst (λ l. AreUpTo (g ∷ P) (map (left_of g P) l) list) (sym whole) h)

-- what a slice from the second entry on has, of a list that is known
pub after-first : (l G : List ℕ) → l ≡ G → take (length l - 1) (drop 1 l) ≡ drop 1 G
after-first l G e = take_all (length l - 1) (drop 1 l) (omega (arith, length-drop 1 l)) ∙ ap (λ m. drop 1 m) e

-- generators within the limits of a table are small
pub fit-small : (G : List ℕ) → IsFit G → All (λ g. g < 2 ^ 62) G
fit-small G fit = All-from_get_or (λ g. g < 2 ^ 62) G 0 (λ k l. omega (arith, fit.small k l))
