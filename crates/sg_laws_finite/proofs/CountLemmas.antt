-- A list of different items that all stand in another list is no longer; so a listing counts its set.
use Rattle.std.proofs.Common.{◌≡◌, ◌≢◌, ℕ, ◌+◌, ◌-◌, ◌<◌, ◌≤◌, List, [], ◌∷◌, length, get_or, take, sym, subst, ◌∙◌, inl, inr, arith}
use Rattle.std.specs.Prelude.{◌⊎◌, ◌↔◌, All, AllPairs, Contains, remove}
use Rattle.std.proofs.lemmas.Bool.{cases_lt, cases_order}
use Rattle.std.proofs.lemmas.List.{get_or-take, get_or_default, length-take-le}
use Rattle.std.proofs.lemmas.List.Edits.{get_or-remove_below, get_or-remove_above, length-remove}
use Rattle.std.proofs.lemmas.List.Elements.{Contains-get_or}
use Rattle.sg_defs.specs.Vectors.{IsLexBelow, ListsAscending, ListsDescending}
use Rattle.sg_nonunique.specs.Counts.{Exceeds}
use Rattle.sg_nonunique.proofs.OrderLemmas.{lex-irreflexive}
use Rattle.sg_laws_finite.specs.Listed.{IsListing}
use Rattle.sg_laws_finite.proofs.ElementLemmas.{here, later, pairs-first, pairs-tail, pairs-weaker}

-- an element other than the removed one stays
pub contains-remove : {A : Type 0} (xs : List A) (k : ℕ) (x y : A) → k < length xs → get_or xs k x ≡ x → x ≢ y → Contains xs y → Contains (remove xs k) y
contains-remove xs k x y inside at other h = elim (cases_order h.0 k) [
  | inl same ↦ absurd (other (sym at ∙ get_or_default xs k x y inside ∙ subst (λ j. get_or xs j y ≡ y) same h.2))
  | inr apart ↦ elim apart [
    | inl less ↦ (h.0, omega (arith, h.1, length-remove xs k inside), get_or-remove_below xs k y h.0 less inside ∙ h.2)
    | inr more ↦
        let j = h.0 - 1 in
        let e : j + 1 ≡ h.0 = omega arith in
        (j, omega (arith, h.1, length-remove xs k inside), get_or-remove_above xs k y j (omega arith) inside ∙ subst (λ i. get_or xs i y ≡ y) (sym e) h.2)
  ]
]

-- the pigeonhole principle
pub pigeonhole : {A : Type 0} (xs ys : List A) → AllPairs (λ x y. x ≢ y) xs → ((x : A) → Contains xs x → Contains ys x) → length xs ≤ length ys
pigeonhole [] ys different inside = omega arith
pigeonhole (x ∷ xs) ys different inside =
    let at = inside x (here x xs) in
    let rest = pigeonhole xs (remove ys at.0) (pairs-tail (λ x y. x ≢ y) x xs different)
    (λ y h. contains-remove ys at.0 x y at.1 at.2 (pairs-first (λ x y. x ≢ y) x xs different y h) (inside y (later x xs y h))) in
    omega (arith, rest, length-remove ys at.0 at.1)

-- more than b items have P exactly where its listing is longer
pub exceeds-from_listing : {A : Type 0} (P : A → Type 0) (l : List A) (b : ℕ) → IsListing P l → b < length l → Exceeds P b
exceeds-from_listing P l b h long = (take (b + 1) l, length-take-le (b + 1) l (omega arith), differ, each)
  where
    len : length (take (b + 1) l) ≡ b + 1
    len = length-take-le (b + 1) l (omega arith)

    differ : AllPairs (λ x y. x ≢ y) (take (b + 1) l)
    differ i j d less inside =
        let f = get_or-take (b + 1) l i d (omega (arith, len)) in
        let g = get_or-take (b + 1) l j d (omega (arith, len)) in
        λ e. h.different i j d less (omega (arith, len)) (sym f ∙ e ∙ g)

    each : All P (take (b + 1) l)
    each k d inside = subst P (sym (get_or-take (b + 1) l k d (omega (arith, len)))) ((h.exactly (get_or l k d)).0 (Contains-get_or l k d (omega (arith, len))))

pub listing-from_exceeds : {A : Type 0} (P : A → Type 0) (l : List A) (b : ℕ) → ((x : A) → P x → Contains l x) → Exceeds P b → b < length l
listing-from_exceeds P l b all h =
    let few = pigeonhole h.0 l h.2 (λ x c. all x (subst P c.2 (h.3 c.0 x c.1))) in
    omega (arith, few, h.1)

pub exceeds-iff : {A : Type 0} (P : A → Type 0) (l : List A) (b : ℕ) → IsListing P l → Exceeds P b ↔ (b < length l)
exceeds-iff P l b h = (listing-from_exceeds P l b (λ x p. (h.exactly x).1 p), exceeds-from_listing P l b h)

-- so it is decided
pub exceeds-decided : {A : Type 0} (P : A → Type 0) (l : List A) (b : ℕ) → IsListing P l → Exceeds P b ⊎ ¬ Exceeds P b
exceeds-decided P l b h = elim (cases_lt b (length l)) [
  | inl more ↦ inl (exceeds-from_listing P l b h more)
  | inr few ↦ inr (λ e. omega (arith, few, listing-from_exceeds P l b (λ x p. (h.exactly x).1 p) e))
]

-- a set has more than each lesser number of items too
pub exceeds-fewer : {A : Type 0} (P : A → Type 0) (a b : ℕ) → a ≤ b → Exceeds P b → Exceeds P a
exceeds-fewer P a b l h =
    let items = h.0 in
    let short : length (take (a + 1) items) ≡ a + 1 = length-take-le (a + 1) items (omega (arith, h.1)) in (
      take (a + 1) items,
      short,
      (λ i j d less inside e. h.2 i j d less (omega (arith, h.1, short, inside))
          (sym (get_or-take (a + 1) items i d (omega (arith, short, inside))) ∙ e ∙ get_or-take (a + 1) items j d (omega (arith, short, inside)))),
      (λ k d inside. subst P (sym (get_or-take (a + 1) items k d (omega (arith, short, inside)))) (h.3 k d (omega (arith, h.1, short, inside)))),
    )

-- two listings of a set are of one length
pub listings-length : {A : Type 0} (P : A → Type 0) (l m : List A) → IsListing P l → IsListing P m → length l ≡ length m
listings-length P l m a b =
    let less = pigeonhole l m a.different (λ x c. (b.exactly x).1 ((a.exactly x).0 c)) in
    let more = pigeonhole m l b.different (λ x c. (a.exactly x).1 ((b.exactly x).0 c)) in
    omega arith

-- a list in order has each vector once
pub listing-from_descending : (V : List ℕ → Type 0) (l : List (List ℕ)) → ListsDescending V l → IsListing V l
listing-from_descending V l h = record {
  different = pairs-weaker (λ x y. IsLexBelow y x) (λ x y. x ≢ y) (λ x y b e. lex-irreflexive x (subst (λ v. IsLexBelow v x) (sym e) b)) l h.descending;
  exactly = h.exactly;
}

pub listing-from_ascending : (V : List ℕ → Type 0) (l : List (List ℕ)) → ListsAscending V l → IsListing V l
listing-from_ascending V l h = record {
  different = pairs-weaker IsLexBelow (λ x y. x ≢ y) (λ x y b e. lex-irreflexive x (subst (IsLexBelow x) (sym e) b)) l h.ascending;
  exactly = h.exactly;
}
