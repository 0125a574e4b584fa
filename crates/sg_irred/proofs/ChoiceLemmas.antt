-- The chosen gaps: what is chosen step by step, that each gap is missing from the cover of one that is chosen, and that
-- each chosen one lies in the covers of all others.
use Rattle.std.proofs.Common.{◌≡◌, ℕ, suc, ◌+◌, ◌-◌, ◌<◌, ◌≤◌, List, [], ◌∷◌, ◌++◌, length, get_or, drop, drop-cons, append_assoc, refl, sym, ap, subst, ◌∙◌, inl, inr, arith}
use Rattle.std.specs.Prelude.{ℤ, pos, ◌<ℤ◌, ◌≤ℤ◌, reverse, All, AllPairs, Contains}
use Rattle.std.proofs.lemmas.Bool.{cases_lt}
use Rattle.std.proofs.lemmas.Int.{ints}
use Rattle.std.proofs.lemmas.List.{append-nil, reverse-append, length-reverse, get_or-reverse, get_or_default, length_push, get_or_append_left, get_or_push}
use Rattle.std.proofs.lemmas.List.Elements.{All-cons, All-nil}
use Rattle.std.proofs.lemmas.List.Kept.{AllPairs-cons}
use Rattle.sg_defs.specs.Membership.{IsMember}
use Rattle.sg_defs.proofs.ListLemmas.{contains-cases}
use Rattle.sg_defs.specs.Invariants.{IsGap}
use Rattle.sg_defs.specs.Decomposition.{IsInCover, IsInEachCover, IsChosen}
use Rattle.sg_classes.specs.declared.limits.TheConstants.{APERY_ENTRY_LIMIT}
use Rattle.sg_irred.specs.Cover.{AreNatural}

-- h is a natural that lies in the cover of k
abbrev pub LiesInCover : List ℕ → ℤ → ℤ → Type 0
LiesInCover G h k = (x : ℕ) × (h ≡ pos x) × IsInCover G k x

-- h lies in the covers of the first n
abbrev pub LiesInFirst : List ℕ → List ℤ → ℤ → ℕ → Type 0
LiesInFirst G ks h n = (j : ℕ) → j < n → LiesInCover G h (get_or ks j (pos 0))

-- one more cover
pub first-more : (G : List ℕ) (ks : List ℤ) (h k : ℤ) (n x : ℕ) → LiesInFirst G ks h n → k ≡ get_or ks n (pos 0) → h ≡ pos x → IsInCover G k x → LiesInFirst G ks h (n + 1)
first-more G ks h k n x before e f here j l = elim (cases_lt j n) [
  | inl less ↦ before j less
  | inr more ↦ (x, f, subst (λ y. IsInCover G y x) (e ∙ ap (λ i. get_or ks i (pos 0)) (let at : n ≡ j = omega arith in at)) here)
]

-- the covers of all
pub first-all : (G : List ℕ) (ks : List ℤ) (h g : ℤ) (n : ℕ) → LiesInFirst G ks g n → length ks ≤ n → g ≡ h → IsInEachCover G ks h
first-all G ks h g n before whole e k d l =
    subst (LiesInCover G h) (get_or_default ks k (pos 0) d l) (subst (λ y. LiesInCover G y (get_or ks k (pos 0))) e (before k (omega (arith, l, whole))))

-- one of them
pub each-at : (G : List ℕ) (ks : List ℤ) (h k : ℤ) (n x : ℕ) → IsInEachCover G ks h → n < length ks → k ≡ get_or ks n (pos 0) → h ≡ pos x → IsInCover G k x
each-at G ks h k n x all l e f =
    let t = all n (pos 0) l in
    subst (λ y. IsInCover G y x) (sym e) (subst (IsInCover G (get_or ks n (pos 0))) (let g = t.1 in let same : t.0 ≡ x = omega (arith, ints, f, g) in same) t.2)

-- not negative, and at most the greatest entry of an Apery list
abbrev pub IsBounded : ℤ → Type 0
IsBounded h = (pos 0 ≤ℤ h) × (h ≤ℤ pos APERY_ENTRY_LIMIT)

-- whatever is chosen from the i-th gap on, after those chosen so far, is with these chosen from all gaps
abbrev pub IsChosenUpTo : List ℕ → List ℤ → ℕ → List ℤ → Type 0
IsChosenUpTo G hs i chosen = (rest : List ℤ) → IsChosen G (reverse chosen) (drop i hs) rest → IsChosen G [] hs (chosen ++ rest)

-- at the start none is chosen
pub chosen-none : (G : List ℕ) (hs : List ℤ) → IsChosenUpTo G hs 0 []
chosen-none G hs rest h = h

-- after the last gap the chosen ones are all
pub chosen-all : (G : List ℕ) (hs chosen : List ℤ) → IsChosenUpTo G hs (length hs) chosen → IsChosen G [] hs chosen
chosen-all G hs chosen h = subst (IsChosen G [] hs) (append-nil chosen) (h [] (subst (λ l. IsChosen G (reverse chosen) l []) (sym (drop-all hs)) refl))
  where
    drop-all : (l : List ℤ) → drop (length l) l ≡ []
    drop-all [] = refl
    drop-all (x ∷ l) = drop-all l

-- the order of the earlier ones tells nothing
reversed-cover : (G : List ℕ) (ks : List ℤ) (h : ℤ) → IsInEachCover G ks h → IsInEachCover G (reverse ks) h
reversed-cover G ks h all k d l =
    let inside : k < length ks = omega (arith, l, length-reverse ks) in
    subst (LiesInCover G h) (sym (get_or-reverse ks k d inside)) (all (length ks - 1 - k) d (omega (arith, inside)))

-- and back
reversed-back : (G : List ℕ) (ks : List ℤ) (h : ℤ) → IsInEachCover G (reverse ks) h → IsInEachCover G ks h
reversed-back G ks h all k d l =
    let at : length ks - 1 - (length ks - 1 - k) ≡ k = omega (arith, l) in
    subst (LiesInCover G h) (get_or-reverse ks (length ks - 1 - k) d (omega (arith, l)) ∙ ap (λ i. get_or ks i d) at)
    (all (length ks - 1 - k) d (omega (arith, l, length-reverse ks)))

-- a gap that lies in the cover of each chosen one is chosen
pub chosen-keep : (G : List ℕ) (hs chosen : List ℤ) (i : ℕ) (h d : ℤ) → IsChosenUpTo G hs i chosen → i < length hs → h ≡ get_or hs i d → IsInEachCover G chosen h →
    IsChosenUpTo G hs (suc i) (chosen ++ h ∷ [])
chosen-keep G hs chosen i h d before l e each rest tail =
    let c : drop i hs ≡ h ∷ drop (suc i) hs = drop-cons hs i d l ∙ ap (λ x. x ∷ drop (suc i) hs) (sym e) in
    let later = subst (λ b. IsChosen G b (drop (suc i) hs) rest) (reverse-append chosen (h ∷ [])) tail in
    let here : IsChosen G (reverse chosen) (h ∷ drop (suc i) hs) (h ∷ rest) = inl (reversed-cover G chosen h each, (rest, refl, later)) in
    subst (IsChosen G [] hs) (sym (append_assoc chosen (h ∷ []) rest)) (before (h ∷ rest) (subst (λ l. IsChosen G (reverse chosen) l (h ∷ rest)) (sym c) here))

-- any other is left out
pub chosen-leave : (G : List ℕ) (hs chosen : List ℤ) (i : ℕ) (h d : ℤ) → IsChosenUpTo G hs i chosen → i < length hs → h ≡ get_or hs i d → (IsInEachCover G chosen h → ⊥) →
    IsChosenUpTo G hs (suc i) chosen
chosen-leave G hs chosen i h d before l e not_each rest tail =
    let c : drop i hs ≡ h ∷ drop (suc i) hs = drop-cons hs i d l ∙ ap (λ x. x ∷ drop (suc i) hs) (sym e) in
    let here : IsChosen G (reverse chosen) (h ∷ drop (suc i) hs) rest = inr ((λ all. not_each (reversed-back G chosen h all)), tail) in
    before rest (subst (λ l. IsChosen G (reverse chosen) l rest) (sym c) here)

-- one more natural
pub natural-push : (xs : List ℤ) (h : ℤ) → AreNatural xs → pos 0 ≤ℤ h → h ≤ℤ pos APERY_ENTRY_LIMIT → AreNatural (xs ++ h ∷ [])
natural-push xs h before low high k l = elim (cases_lt k (length xs)) [
  | inl less ↦ subst IsBounded (sym (get_or_append_left xs (h ∷ []) (pos 0) k less)) (before k less)
  | inr more ↦ subst IsBounded (sym (get_or_push xs h (pos 0) k (let e : length xs ≡ k = omega (arith, more, l, length_push xs h) in e))) (low, high)
]

-- a gap does not lie in its own cover
pub own-cover : (G : List ℕ) (h : ℤ) (x : ℕ) → h ≡ pos x → IsInCover G h x → IsMember G x
own-cover G h x e c = elim c [
  | inl member ↦ member
  | inr other ↦ elim other [ inl past ↦ absurd (omega (arith, ints, e, past)) | inr half ↦ let l = half.1 in absurd (omega (arith, ints, e, l)) ]
]

-- each of the gaps is missing from the cover of one that is chosen
pub chosen-missing : (G : List ℕ) (before hs chosen : List ℤ) → IsChosen G before hs chosen → (g : ℕ) → Contains hs (pos g) → IsGap G g →
    IsInEachCover G before (pos g) → IsInEachCover G chosen (pos g) → ⊥
chosen-missing G before [] chosen c g has gap first all = omega (arith, has.1)
chosen-missing G before (h ∷ hs) chosen c g has gap first all = elim c [
  | inl kept ↦ elim (contains-cases h hs (pos g) has) [
    | inl same ↦
        let own = subst (λ l. IsInEachCover G l (pos g)) kept.1.1 all 0 h (omega arith) in
        gap (subst (IsMember G) (let e = own.1 in let f : own.0 ≡ g = omega (arith, ints, e) in f) (own-cover G h own.0 (same ∙ own.1) own.2))
    | inr later ↦
        let own = subst (λ l. IsInEachCover G l (pos g)) kept.1.1 all in
        chosen-missing G (h ∷ before) hs kept.1.0 kept.1.2 g later gap
        (All-cons (LiesInCover G (pos g)) h before (own 0 h (omega arith)) first) (λ k d l. own (suc k) d (omega (arith, l)))
  ]
  | inr left ↦ elim (contains-cases h hs (pos g) has) [
    | inl same ↦ left.0 (subst (IsInEachCover G before) (sym same) first)
    | inr later ↦ chosen-missing G before hs chosen left.1 g later gap first all
  ]
]

-- x is one of the gaps, and lies in the covers of all before
abbrev pub IsReached : List ℕ → List ℤ → List ℤ → ℤ → Type 0
IsReached G before hs x = Contains hs x × IsInEachCover G before x

-- each chosen one is such
pub chosen-in : (G : List ℕ) (before hs chosen : List ℤ) → IsChosen G before hs chosen → All (IsReached G before hs) chosen
chosen-in G before [] chosen c = subst (All (IsReached G before [])) (sym c) (All-nil (IsReached G before []))
chosen-in G before (h ∷ hs) chosen c = elim c [
  | inl kept ↦
      let tail = chosen-in G (h ∷ before) hs kept.1.0 kept.1.2 in
      subst (All (IsReached G before (h ∷ hs))) (sym kept.1.1) (All-cons (IsReached G before (h ∷ hs)) h kept.1.0 ((0, omega arith, refl), kept.0)
      (λ k d l. let t = tail k d l in ((suc t.0.0, omega (arith, t.0.1), t.0.2), (λ i e m. t.1 (suc i) e (omega (arith, m))))))
  | inr left ↦ λ k d l. let t = chosen-in G before hs chosen left.1 k d l in ((suc t.0.0, omega (arith, t.0.1), t.0.2), t.1)
]

-- of two chosen ones the later is less, and lies in the cover of the earlier
pub record IsLater (G : List ℕ) (a b : ℤ) : Type 0 where
  pub less : b <ℤ a
  pub lies : LiesInCover G b a

-- so any two of them
pub chosen-pairs : (G : List ℕ) (before hs chosen : List ℤ) → AllPairs (λ a b. b <ℤ a) hs → IsChosen G before hs chosen → AllPairs (IsLater G) chosen
chosen-pairs G before [] chosen down c = λ i j d l m. absurd (omega (arith, m, ap length c))
chosen-pairs G before (h ∷ hs) chosen down c = elim c [
  | inl kept ↦
      let each = chosen-in G (h ∷ before) hs kept.1.0 kept.1.2 in
      subst (AllPairs (IsLater G)) (sym kept.1.1) (AllPairs-cons (IsLater G) h kept.1.0 (λ k d l. later (get_or kept.1.0 k d) (each k d l)) (chosen-pairs G (h ∷ before) hs kept.1.0 lower kept.1.2))
  | inr left ↦ chosen-pairs G before hs chosen lower left.1
]
  where
    lower : AllPairs (λ a b. b <ℤ a) hs
    lower i j d l m = down (suc i) (suc j) d (omega (arith, l)) (omega (arith, m))

    later : (x : ℤ) → Contains hs x × IsInEachCover G (h ∷ before) x → IsLater G h x
    later x t = record {
      less = subst (λ y. y <ℤ h) t.0.2 (down 0 (suc t.0.0) x (omega arith) (omega (arith, t.0.1)));
      lies = t.1 0 h (omega arith);
    }

-- the reverse of an ascending list descends
pub descending : (xs : List ℤ) → AllPairs (λ x y. x <ℤ y) xs → AllPairs (λ a b. b <ℤ a) (reverse xs)
descending xs up i j d l m =
    let n : j < length xs = omega (arith, m, length-reverse xs) in
    let r = up (length xs - 1 - j) (length xs - 1 - i) d (omega (arith, l, n)) (omega (arith, l, n)) in
    subst (λ y. get_or (reverse xs) j d <ℤ y) (sym (get_or-reverse xs i d (omega (arith, l, n)))) (subst (λ y. y <ℤ get_or xs (length xs - 1 - i) d) (sym (get_or-reverse xs j d n)) r)
