-- Greatest numbers over lists, and what is read from tables of lengths.
use Rattle.std.proofs.Common.{◌≡◌, ℕ, ◌+◌, ◌<◌, ◌≤◌, List, [], ◌∷◌, length, get_or, take, sym, subst, inl, inr, ◌↔◌, arith}
use Rattle.std.specs.Prelude.{◌⊎◌, Contains, max}
use Rattle.std.proofs.lemmas.Bool.{cases_lt}
use Rattle.std.proofs.lemmas.List.{take_all, take_more}
use Rattle.std.proofs.lemmas.List.Elements.{Contains-append_left, Contains-push, Contains-push_cases}
use Rattle.sg_laws_finite.proofs.ElementLemmas.{contains-nil}
use Rattle.sg_omega.specs.Lengths.{AreGreatestMade}
use Rattle.sg_omega.specs.Readings.{IsRead, IsReached, IsGreatestReading}

-- g is one more than the greatest number that R has for an item, and 0 where there is none
abbrev pub IsGreatestOver : (ℕ → ℕ → Type 0) → List ℕ → ℕ → Type 0
IsGreatestOver R xs g = (l : ℕ) → (l < g) ↔ ((x : ℕ) × Contains xs x × R x l)

pub greatest-none : (R : ℕ → ℕ → Type 0) → IsGreatestOver R [] 0
greatest-none R l = ((λ h. absurd (omega arith)), (λ r. absurd (contains-nil r.0 r.1)))

-- one item more
pub greatest-more : (R : ℕ → ℕ → Type 0) (xs : List ℕ) (i g b : ℕ) → i < length xs → IsGreatestOver R (take i xs) g → ((l : ℕ) → (l < b) ↔ R (get_or xs i 0) l) → IsGreatestOver R (take (i + 1) xs) (max g b)
greatest-more R xs i g b inside h here = subst (λ ys. IsGreatestOver R ys (max g b)) (sym (take_more xs i 0 inside)) (λ l. (
  (λ less. elim (cases_lt l g) [
    | inl before ↦ let r = (h l).0 before in (r.0, Contains-append_left (take i xs) (get_or xs i 0 ∷ []) r.0 r.1, r.2)
    | inr after ↦ (get_or xs i 0, Contains-push (take i xs) (get_or xs i 0), (here l).0 (omega arith))
  ]),
  (λ r. elim (Contains-push_cases (take i xs) (get_or xs i 0) r.0 r.1) [
    | inl before ↦ let less = (h l).1 (r.0, before, r.2) in omega arith
    | inr same ↦ let less = (here l).1 (subst (λ x. R x l) (sym same) r.2) in omega arith
  ]),
))

-- at the end all items count
pub greatest-all : (R : ℕ → ℕ → Type 0) (xs : List ℕ) (i g : ℕ) → length xs ≤ i → IsGreatestOver R (take i xs) g → IsGreatestOver R xs g
greatest-all R xs i g far h = subst (λ ys. IsGreatestOver R ys g) (take_all i xs far) h

-- an entry at the sum of v and a wanted number is above l
abbrev pub IsReadAt : List ℕ → List ℕ → ℕ → ℕ → Type 0
IsReadAt t wanted v l = (n : ℕ) × Contains wanted n × (l < get_or t (n + v) 0)

-- the greatest entries over the values are what is read
pub read-from_each : (t wanted values : List ℕ) (g : ℕ) → IsGreatestOver (IsReadAt t wanted) values g → (l : ℕ) → (l < g) ↔ IsRead t wanted values l
read-from_each t wanted values g h l = (
  (λ less. let r = (h l).0 less in record { n = r.2.0; v = r.0; is_wanted = r.2.1; is_value = r.1; above = r.2.2 }),
  (λ r. (h l).1 (r.v, r.is_value, (r.n, r.is_wanted, r.above))),
)

-- what is read from a table that knows the lengths for each value
pub reading-from_table : (G t wanted values : List ℕ) (g : ℕ) → ((n v : ℕ) → Contains wanted n → Contains values v → n + v < length t) →
    ((v : ℕ) → Contains values v → AreGreatestMade G v 0 t) → ((l : ℕ) → (l < g) ↔ IsRead t wanted values l) → IsGreatestReading G wanted values g
reading-from_table G t wanted values g inside lengths h l = (
  (λ less.
      let r = (h l).0 less in
      let m = ((lengths r.v r.is_value).each (r.n + r.v) (inside r.n r.v r.is_wanted r.is_value) l).0 r.above in
      record { n = r.n; v = r.v; z = m.0; is_wanted = r.is_wanted; is_value = r.is_value; made = m.1; long = m.2 }),
  (λ r. (h l).1 (record {
    n = r.n;
    v = r.v;
    is_wanted = r.is_wanted;
    is_value = r.is_value;
    above = ((lengths r.v r.is_value).each (r.n + r.v) (inside r.n r.v r.is_wanted r.is_value) l).1 (r.z, r.made, r.long);
  })),
)

-- no value, no vector
pub reading-none : (G wanted values : List ℕ) → values ≡ [] → IsGreatestReading G wanted values 0
reading-none G wanted values none l = (
  (λ h. absurd (omega arith)),
  (λ r. absurd (contains-nil r.v (subst (λ xs. Contains xs r.v) none r.is_value))),
)

-- the values in two parts
pub reading-parts : (G wanted values first second : List ℕ) (a b : ℕ) → ((v : ℕ) → Contains first v → Contains values v) → ((v : ℕ) → Contains second v → Contains values v) →
    ((v : ℕ) → Contains values v → Contains first v ⊎ Contains second v) → IsGreatestReading G wanted first a → IsGreatestReading G wanted second b → IsGreatestReading G wanted values (max a b)
reading-parts G wanted values first second a b down_first down_second split p q l = (
  (λ less. elim (cases_lt l a) [
    | inl before ↦ moved first down_first ((p l).0 before)
    | inr after ↦ moved second down_second ((q l).0 (omega arith))
  ]),
  (λ r. elim (split r.v r.is_value) [
    | inl there ↦ let less = (p l).1 (here first r there) in omega arith
    | inr there ↦ let less = (q l).1 (here second r there) in omega arith
  ]),
)
  where
    moved : (part : List ℕ) → ((v : ℕ) → Contains part v → Contains values v) → IsReached G wanted part l → IsReached G wanted values l
    moved part down r = record { n = r.n; v = r.v; z = r.z; is_wanted = r.is_wanted; is_value = down r.v r.is_value; made = r.made; long = r.long }

    here : (part : List ℕ) (r : IsReached G wanted values l) → Contains part r.v → IsReached G wanted part l
    here part r there = record { n = r.n; v = r.v; z = r.z; is_wanted = r.is_wanted; is_value = there; made = r.made; long = r.long }
