-- What ids stand for.
use Rattle.std.specs.Prelude.{◌≡◌, ℕ, Bool, ◌&&◌, nat_eq, List, [], map, slice_get, Some, IsSome, unwrap_or}
use Rattle.std.specs.Ordering.{int_eq}
use Rattle.std.specs.Cmp.Lexicographic.{pointwise}
use Rattle.sg_value.specs.Plain.{RelativeIdeal}
use Rattle.sg_value.specs.Known.{Known}
use Rattle.indexmap.specs.IndexSet.{IndexSet, IsUnique}
use Rattle.sg_lawful.specs.Lawful.{IsLawfulList}
use Rattle.sg_store.specs.Fit.{IsLawfulRelative}
use Rattle.sg_store.specs.declared.key.Key.{Key}
use Rattle.sg_store.specs.declared.key.IdealKey.{IdealKey}

-- whether two keys are the same list
abbrev pub same_key : Key → Key → Bool
same_key a b = pointwise nat_eq a.list b.list

-- whether they are the same list over the same semigroup
abbrev pub same_ideal_key : IdealKey → IdealKey → Bool
same_ideal_key a b = nat_eq a.ambient b.ambient && pointwise int_eq a.list b.list

-- the lists by which semigroups are found, in the order of their ids
abbrev pub lists_of : List Key → List (List ℕ)
lists_of keys = map (λ k. k.list) keys

-- the list at an id
abbrev pub list_at : List (List ℕ) → ℕ → List ℕ
list_at lists i = unwrap_or (slice_get lists i) []

-- the ideal of a key, over these semigroups
abbrev pub ideal_of : List (List ℕ) → IdealKey → RelativeIdeal
ideal_of lists k = record { ambient = list_at lists k.ambient; generators = k.list }

abbrev pub ideals_of : List (List ℕ) → List IdealKey → List RelativeIdeal
ideals_of lists keys = map (ideal_of lists) keys

-- what is known by these keys
abbrev pub known_by : List Key → List IdealKey → Known
known_by keys ideal_keys = record { semigroups = lists_of keys; ideals = ideals_of (lists_of keys) ideal_keys }

-- each list is fit
abbrev pub AllFit : List Key → Type 0
AllFit keys = (i : ℕ) (gens : List ℕ) → slice_get (lists_of keys) i ≡ Some gens → IsLawfulList gens

-- the semigroup of each ideal is known, and its generators are fit
pub record IsFitKey (lists : List (List ℕ)) (k : IdealKey) : Type 0 where
  pub ambient : IsSome (slice_get lists k.ambient)
  pub fit : IsLawfulRelative (ideal_of lists k)

abbrev pub AllIdealsFit : List (List ℕ) → List IdealKey → Type 0
AllIdealsFit lists keys = (i : ℕ) (k : IdealKey) → slice_get keys i ≡ Some k → IsFitKey lists k

-- each list is fit and stands there once, and so each ideal
pub record AreIds {S R : Type 0} (keys : IndexSet Key S) (ideal_keys : IndexSet IdealKey R) : Type 0 where
  pub fit : AllFit keys.keys
  pub unique : IsUnique same_key keys
  pub ideals_fit : AllIdealsFit (lists_of keys.keys) ideal_keys.keys
  pub ideals_unique : IsUnique same_ideal_key ideal_keys
