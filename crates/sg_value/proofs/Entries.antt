-- The entries of a list of values.
use Rattle.std.proofs.Common.{◌≡◌, ℕ, ℤ, ◌+◌, ◌<◌, zero, suc, List, [], ◌∷◌, ◌++◌, length, get_or, take, refl, ap, subst, sym, arith}
use Rattle.sg_value.specs.Data.{Kind, semigroups, ideals, Data, int, truth, text, list, ratio, fail, semigroup, ideal, Items, none, item, EachThing, EachThingOfAll}
use Rattle.sg_value.specs.Plain.{Named, IsKnown, contents, AllKnown, AllKnownIn, plain, plain_of_all}
use Rattle.sg_value.specs.Alike.{every_place}
use Rattle.sg_value.specs.Text.{entry_text, entry_texts, joined, separator}
use Rattle.sg_value.proofs.Fronts.{IsNext}
use Rattle.sg_value.proofs.Pieces.{joined-next}
use Rattle.sg_value.specs.declared.value.Value.{Value}

-- what is known in all entries is known in each
pub AllKnownIn-at : (names : Named) (vs : List Value) (i : ℕ) (v d : Value) → AllKnownIn names vs → i < length vs → v ≡ get_or vs i d → AllKnown names v
AllKnownIn-at names [] i v d all within is = absurd (omega arith)
AllKnownIn-at names (w ∷ ws) zero v d all within is = subst (λ x. AllKnown names x) (sym is) all.0
AllKnownIn-at names (w ∷ ws) (suc i) v d all within is = AllKnownIn-at names ws i v d all.1 (omega arith) is

mutual
  EachThing-all : {H : Kind → Type 0} (P : (k : Kind) → H k → Type 0) → ((k : Kind) (h : H k) → P k h) → (d : Data H) → EachThing P d
  EachThing-all P all (int z) = tt
  EachThing-all P all (truth b) = tt
  EachThing-all P all (text bs) = tt
  EachThing-all P all (list ds) = EachThingOfAll-all P all ds
  EachThing-all P all (ratio p q) = tt
  EachThing-all P all fail = tt
  EachThing-all P all (semigroup h) = all _ h
  EachThing-all P all (ideal h) = all _ h

  EachThingOfAll-all : {H : Kind → Type 0} (P : (k : Kind) → H k → Type 0) → ((k : Kind) (h : H k) → P k h) → (ds : Items H) → EachThingOfAll P ds
  EachThingOfAll-all P all none = tt
  EachThingOfAll-all P all (item d ds) = (EachThing-all P all d, EachThingOfAll-all P all ds)

every_known : (gens : List ℕ) (I : List ℤ) (k : Kind) (i : ℕ) → IsKnown (every_place gens I) k i
every_known gens I semigroups i = refl
every_known gens I ideals i = refl

-- where every place is known, so is every value
pub AllKnown-all : (gens : List ℕ) (I : List ℤ) (v : Value) → AllKnown (every_place gens I) v
AllKnown-all gens I v = EachThing-all (IsKnown (every_place gens I)) (every_known gens I) (contents v)

-- there is a text for each entry
pub length-entry_texts : (names : Named) (vs : List Value) → length (entry_texts (plain_of_all names vs)) ≡ length vs
length-entry_texts names [] = refl
length-entry_texts names (v ∷ vs) = ap suc (length-entry_texts names vs)

pub get_or-entry_texts : (names : Named) (vs : List Value) (i : ℕ) (v d : Value) → i < length vs → v ≡ get_or vs i d → get_or (entry_texts (plain_of_all names vs)) i [] ≡ entry_text (plain names v)
get_or-entry_texts names [] i v d within is = absurd (omega arith)
get_or-entry_texts names (w ∷ ws) zero v d within is = ap (λ x. entry_text (plain names x)) (sym is)
get_or-entry_texts names (w ∷ ws) (suc i) v d within is = get_or-entry_texts names ws i v d (omega arith) is

-- entry i among the entries of a list
pub entries-next : (names : Named) (vs : List Value) (i : ℕ) (v d : Value) → i < length vs → v ≡ get_or vs i d
    → IsNext (joined (take i (entry_texts (plain_of_all names vs)))) (separator i ++ entry_text (plain names v)) (joined (take (i + 1) (entry_texts (plain_of_all names vs)))) (joined (entry_texts (plain_of_all names vs)))
entries-next names vs i v d within is = joined-next _ i _ [] (rw length-entry_texts within) (get_or-entry_texts names vs i v d within is)
