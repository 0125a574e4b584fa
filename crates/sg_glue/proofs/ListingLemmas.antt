-- The gluings found so far, one left part after the other.
use Rattle.std.proofs.Common.{◌≡◌, ℕ, zero, suc, ◌+◌, ◌<◌, ◌≤◌, List, [], ◌∷◌, ◌++◌, length, map, get_or, refl, sym, ap, subst, ◌∙◌, inl, inr, arith}
use Rattle.std.specs.Prelude.{◌↔◌, AllPairs, Contains}
use Rattle.std.specs.List.Sorted.{IsStrictlyIncreasing}
use Rattle.std.proofs.lemmas.Bool.{cases_lt}
use Rattle.std.proofs.lemmas.List.Elements.{Contains-append_left, Contains-append_right, Contains-append_cases, Contains-push, Contains-push_cases}
use Rattle.std.proofs.lemmas.List.Kept.{AllPairs-from_increasing}
use Rattle.itertools.specs.Pool.{subsets}
use Rattle.sg_defs.specs.Vectors.{IsLexBelow}
use Rattle.sg_classes.proofs.GeneratorLemmas.{contains-place, place-contains}
use Rattle.sg_glue.specs.Gluings.{Split, IsChosen, IsGluing, IsBefore, AreGluings, AddsGluing}
use Rattle.sg_glue.proofs.PairLemmas.{contains-head, contains-tail, contains-map, map-contains, pairs-append, pairs-cross, pairs-map}
use Rattle.sg_glue.proofs.SubsetLemmas.{Rises, Precedes, subsets-rise, rise-subsets, subsets-ordered}

-- an ascending list at two places
ascends : (l : List ℕ) → IsStrictlyIncreasing l → (i j : ℕ) → i < j → j < length l → get_or l i 0 < get_or l j 0
ascends l up i j less inside = AllPairs-from_increasing l up i j 0 less inside

-- the entries at some places
abbrev pub pick : List ℕ → List ℕ → List ℕ
pick P ds = map (λ d. get_or P d 0) ds

-- the left part with the first generator and those picked from the others
abbrev pub left_of : ℕ → List ℕ → List ℕ → List ℕ
left_of g P ds = g ∷ pick P ds

ascending-one : (x : ℕ) → IsStrictlyIncreasing (x ∷ [])
ascending-one x k l = absurd (omega arith)

ascending-cons : (x y : ℕ) (ys : List ℕ) → x < y → IsStrictlyIncreasing (y ∷ ys) → IsStrictlyIncreasing (x ∷ y ∷ ys)
ascending-cons x y ys less rest zero l = less
ascending-cons x y ys less rest (suc k) l =
    let e : suc k + 1 ≡ suc (k + 1) = omega arith in
    subst (λ i. get_or (y ∷ ys) k 0 < get_or (x ∷ y ∷ ys) i 0) (sym e) (rest k (omega arith))

-- the entries after the first ascend, and are greater
pub rest-ascends : (x : ℕ) (xs : List ℕ) → IsStrictlyIncreasing (x ∷ xs) → IsStrictlyIncreasing xs
rest-ascends x xs up k l =
    let e : suc k + 1 ≡ suc (k + 1) = omega arith in
    subst (λ i. get_or xs k 0 < get_or (x ∷ xs) i 0) e (up (suc k) (omega (arith, l)))

pub above-first : (x : ℕ) (xs : List ℕ) → IsStrictlyIncreasing (x ∷ xs) → (k : ℕ) → k < length xs → x < get_or xs k 0
above-first x xs up k l = ascends (x ∷ xs) up 0 (suc k) (omega arith) (omega (arith, l))

-- a number before an ascending list of greater ones
pub ascending-before : (x : ℕ) (xs : List ℕ) → IsStrictlyIncreasing xs → ((y : ℕ) → Contains xs y → x < y) → IsStrictlyIncreasing (x ∷ xs)
ascending-before x [] up h = ascending-one x
ascending-before x (y ∷ ys) up h = ascending-cons x y ys (h y (contains-head y ys)) up

pick-ascends : (P : List ℕ) → IsStrictlyIncreasing P → (a : ℕ) (ds : List ℕ) (x : ℕ) → Rises (length P) a ds
    → ((k : ℕ) → a ≤ k → k < length P → x < get_or P k 0) → IsStrictlyIncreasing (x ∷ pick P ds)
pick-ascends P up a [] x r h = ascending-one x
pick-ascends P up a (d ∷ ds) x r h = ascending-cons x (get_or P d 0) (pick P ds) (h d r.0 r.1)
    (pick-ascends P up (d + 1) ds (get_or P d 0) r.2 (λ k l inside. ascends P up d k (omega (arith, l)) inside))

rises-below : (n a : ℕ) (ds : List ℕ) (d : ℕ) → Rises n a ds → Contains ds d → d < n
rises-below n a [] d r h = absurd (omega (arith, h.1))
rises-below n a (e ∷ ds) d r (zero, l, same) = let s : e ≡ d = same in omega (arith, r.1, s)
rises-below n a (e ∷ ds) d r (suc k, l, same) = rises-below n (e + 1) ds d r.2 (k, omega (arith, l), same)

pick-among : (P : List ℕ) (ds : List ℕ) (x : ℕ) → Rises (length P) 0 ds → Contains (pick P ds) x → Contains P x
pick-among P ds x r h =
    let q = contains-map (λ d. get_or P d 0) ds x h in
    subst (Contains P) q.2 (place-contains P q.0 (rises-below (length P) 0 ds q.0 r q.1))

-- a subset has the first generator, ascends, and has only generators
pub left-chosen : (g : ℕ) (P ds : List ℕ) → IsStrictlyIncreasing (g ∷ P) → Contains (subsets (length P)) ds → IsChosen (g ∷ P) (left_of g P ds)
left-chosen g P ds up h =
    let r = subsets-rise (length P) ds h in
    record {
      ascending = pick-ascends P (rest-ascends g P up) 0 ds g r (λ k l inside. above-first g P up k inside);
      first = contains-head g (pick P ds);
      among = λ x c. among r x c;
    }
  where
    among : Rises (length P) 0 ds → (x : ℕ) → Contains (g ∷ pick P ds) x → Contains (g ∷ P) x
    among r x (zero, l, e) = (0, omega arith, e)
    among r x (suc k, l, e) = contains-tail g P x (pick-among P ds x r (k, omega (arith, l), e))

-- each ascending list of entries is picked
picked : (P : List ℕ) → IsStrictlyIncreasing P → (A : List ℕ) (a : ℕ) → IsStrictlyIncreasing A → ((x : ℕ) → Contains A x → (k : ℕ) × (a ≤ k) × (k < length P) × (get_or P k 0 ≡ x))
    → (ds : List ℕ) × Rises (length P) a ds × (pick P ds ≡ A)
picked P up [] a asc h = ([], tt, refl)
picked P up (x ∷ A) a asc h =
    let f = h x (contains-head x A) in
    let r = picked P up A (f.0 + 1) (rest-ascends x A asc) (λ y c.
    let g = h y (contains-tail x A y c) in
    let p = contains-place A y c in
    let less : x < y = omega (arith, above-first x A asc p.0 p.1, p.2) in
    elim (cases_lt f.0 g.0) [
      | inl later ↦ (g.0, omega (arith, later), g.2, g.3)
      | inr not ↦ absurd (elim (cases_lt g.0 f.0) [
        | inl earlier ↦ omega (arith, ascends P up g.0 f.0 earlier f.2, f.3, g.3, less)
        | inr same ↦ let e : g.0 ≡ f.0 = omega (arith, not, same) in omega (arith, ap (λ k. get_or P k 0) e, f.3, g.3, less)
      ])
    ]) in
    (f.0 ∷ r.0, (f.1, f.2, r.1), ap (λ v. v ∷ pick P r.0) f.3 ∙ ap (λ l. x ∷ l) r.2)

-- so each left part with the first generator is one of these
pub left-found : (g : ℕ) (P A : List ℕ) → IsStrictlyIncreasing (g ∷ P) → IsChosen (g ∷ P) A → Contains (map (left_of g P) (subsets (length P))) A
left-found g P [] up c = absurd (omega (arith, c.first.1))
left-found g P (x ∷ A) up c =
    let i = contains-place (x ∷ A) g c.first in
    let j = contains-place (g ∷ P) x (c.among x (contains-head x A)) in
    let same : g ≡ x = least i.0 i.1 i.2 j.0 j.1 j.2 in
    let r = picked P (rest-ascends g P up) A 0 (rest-ascends x A c.ascending) (λ y h.
    let p = contains-place A y h in
    let q = contains-place (g ∷ P) y (c.among y (contains-tail x A y h)) in
    later y (omega (arith, above-first x A c.ascending p.0 p.1, p.2, same)) q.0 q.1 q.2) in
    subst (Contains (map (left_of g P) (subsets (length P)))) (ap (λ v. v ∷ pick P r.0) same ∙ ap (λ l. x ∷ l) r.2)
    (map-contains (left_of g P) (subsets (length P)) r.0 (rise-subsets (length P) r.0 r.1))
  where
    least : (i : ℕ) → i < length (x ∷ A) → get_or (x ∷ A) i 0 ≡ g → (j : ℕ) → j < length (g ∷ P) → get_or (g ∷ P) j 0 ≡ x → g ≡ x
    least zero l e j k f = sym e
    least (suc i) l e zero k f = f
    least (suc i) l e (suc j) k f = absurd (omega (arith, above-first x A c.ascending i (omega (arith, l)), above-first g P up j (omega (arith, k)), e, f))

    later : (y : ℕ) → g < y → (q : ℕ) → q < length (g ∷ P) → get_or (g ∷ P) q 0 ≡ y → (k : ℕ) × (0 ≤ k) × (k < length P) × (get_or P k 0 ≡ y)
    later y above zero l e = let s : g ≡ y = e in absurd (omega (arith, above, s))
    later y above (suc q) l e = (q, omega arith, omega (arith, l), e)

-- the left parts come in the order of gluings
pick-lex : (P : List ℕ) → IsStrictlyIncreasing P → (a b : ℕ) (ds es : List ℕ) → Rises (length P) a ds → Rises (length P) b es → IsLexBelow ds es → IsLexBelow (pick P ds) (pick P es)
pick-lex P up a b [] es r s h = absurd h
pick-lex P up a b (d ∷ ds) [] r s h = absurd h
pick-lex P up a b (d ∷ ds) (e ∷ es) r s (inl less) = inl (ascends P up d e less s.1)
pick-lex P up a b (d ∷ ds) (e ∷ es) r s (inr same) = inr (ap (λ k. get_or P k 0) same.0, pick-lex P up (d + 1) (e + 1) ds es r.2 s.2 same.1)

length-pick : (P ds : List ℕ) → length (pick P ds) ≡ length ds
length-pick P [] = refl
length-pick P (d ∷ ds) = ap suc (length-pick P ds)

pub lefts-ordered : (g : ℕ) (P : List ℕ) → IsStrictlyIncreasing P → AllPairs Precedes (map (left_of g P) (subsets (length P)))
lefts-ordered g P up = pairs-map Precedes Precedes (left_of g P) (subsets (length P))
    (λ x y a b h. elim h [
      | inl shorter ↦ inl (omega (arith, shorter, length-pick P x, length-pick P y))
      | inr long ↦ inr (omega (arith, long.0, length-pick P x, length-pick P y), inr (refl, pick-lex P up 0 0 x y (subsets-rise (length P) x a) (subsets-rise (length P) y b) long.1))
    ])
    (subsets-ordered (length P))

-- ---- the gluings with the left parts so far

pub record AreUpTo (G : List ℕ) (done : List (List ℕ)) (list : List Split) : Type 0 where
  pub ordered : AllPairs IsBefore list
  pub exactly : (s : Split) → Contains list s ↔ (Contains done s.left × IsGluing G s)

pub upto-none : (G : List ℕ) → AreUpTo G [] []
upto-none G = record {
  ordered = λ i j d l k. absurd (omega (arith, k));
  exactly = λ s. ((λ h. absurd (omega (arith, h.1))), (λ h. absurd (omega (arith, h.0.1))));
}

pub upto-more : (G : List ℕ) (done : List (List ℕ)) (A : List ℕ) (rest : List (List ℕ)) (list new : List Split) → AllPairs Precedes (done ++ A ∷ rest)
    → AreUpTo G done list → AddsGluing G A list new → AreUpTo G (done ++ A ∷ []) new
upto-more G done A rest list new order h step = subst (AreUpTo G (done ++ A ∷ [])) (sym step.joined) record {
  ordered = pairs-append IsBefore list step.added h.ordered (λ i j d l k. absurd (omega (arith, l, k, step.at_most_one)))
      (λ u v a b.
      let e : v.left ≡ A = ((step.exactly v).0 b).0 in
      subst (λ x. Precedes u.left x) (sym e) (pairs-cross Precedes done A rest u.left order ((h.exactly u).0 a).0));
  exactly = λ s. (
    (λ c. elim (Contains-append_cases list step.added s c) [
      | inl before ↦ let r = (h.exactly s).0 before in (Contains-append_left done (A ∷ []) s.left r.0, r.1)
      | inr here ↦
          let r = (step.exactly s).0 here in
          (subst (Contains (done ++ A ∷ [])) (sym r.0) (Contains-push done A), r.1)
    ]),
    (λ r. elim (Contains-push_cases done A s.left r.0) [
      | inl before ↦ Contains-append_left list step.added s ((h.exactly s).1 (before, r.1))
      | inr same ↦ Contains-append_right list step.added s ((step.exactly s).1 (sym same, r.1))
    ]),
  );
}

-- at the end all of them
pub upto-all : (g : ℕ) (P : List ℕ) (list : List Split) → IsStrictlyIncreasing (g ∷ P) → AreUpTo (g ∷ P) (map (left_of g P) (subsets (length P))) list → AreGluings (g ∷ P) list
upto-all g P list up h = record {
  ordered = h.ordered;
  exactly = λ s. (
    (λ c. ((h.exactly s).0 c).1),
    (λ r. (h.exactly s).1 (
      left-found g P s.left up record {
        ascending = r.parts.left_ascending;
        first = r.parts.first;
        among = λ x c. (r.parts.all x).1 (inl c);
      },
      r,
    )),
  );
}
