-- A list that was sorted and rid of repeats.
use Rattle.std.proofs.Common.{ℕ, List, [], sym, subst}
use Rattle.std.specs.Prelude.{◌↔◌, Contains, nat_eq}
use Rattle.std.specs.List.Retain.{IsFiltered, DiffersFromLast}
use Rattle.std.specs.List.Sorted.{IsPermutation, IsSorted, IsStrictlyIncreasing}
use Rattle.std.specs.Ordering.{nat_cmp}
use Rattle.std.proofs.lemmas.List.Filters.{dedup_is}
use Rattle.std.proofs.lemmas.List.Kept.{Contains-dedup_nat, Contains-from_dedup}
use Rattle.std.proofs.lemmas.List.Sorted.{Contains-permutation, IsPermutation-sym}
use Rattle.std.proofs.lemmas.Map.Keys.{IsStrictlyIncreasing-dedup}
use Rattle.sg_defs.specs.Listings.{Lists}

-- it lists what was in it
pub lists-sorted : (P : ℕ → Type 0) (l sorted now : List ℕ) → ((n : ℕ) → Contains l n ↔ P n) → IsPermutation l sorted → IsSorted nat_cmp sorted → IsFiltered (DiffersFromLast nat_eq) [] sorted now → Lists P now
lists-sorted P l sorted now exactly moved up filtered =
    let is = dedup_is nat_eq sorted now filtered in
    record {
      ascending = subst IsStrictlyIncreasing (sym is) (IsStrictlyIncreasing-dedup sorted up);
      exactly = λ n. (
        (λ h. (exactly n).0 (Contains-permutation sorted l n (IsPermutation-sym l sorted moved) (Contains-from_dedup nat_eq sorted n (subst (λ k. Contains k n) is h)))),
        (λ p. subst (λ k. Contains k n) (sym is) (Contains-dedup_nat sorted n (Contains-permutation l sorted n moved ((exactly n).1 p)))),
      );
    }
