-- What the Apery list of a table tells.
use Rattle.std.proofs.Common.{◌≡◌, ℕ, ◌%◌, ◌<◌, ◌≤◌, ◌↔◌, List, length, get_or, sym, ap, subst, ◌∙◌, arith}
use Rattle.std.proofs.lemmas.Nat.{mod_below}
use Rattle.std.proofs.lemmas.List.{get_or_default}
use Rattle.sg_defs.specs.Membership.{IsMember, IsNumericalSemigroup}
use Rattle.sg_defs.specs.Apery.{IsApery}
use Rattle.sg_defs.proofs.MembershipLemmas.{member-zero, member-entry}
use Rattle.sg_classes.proofs.ResidueLemmas.{zero-residue}
use Rattle.sg_classes.proofs.AperyLemmas.{apery-member}
use Rattle.sg_classes.specs.Table.{IsTable}
use Rattle.sg_classes.specs.Classes.{IsAboveEntry}

-- the comparison with the entry of its class tells whether a number is a member
pub contains-natural : (G t : List ℕ) (n w : ℕ) → IsTable G t → w ≡ get_or t (n % length t) w → (w ≤ n) ↔ IsMember G n
contains-natural G t n w h read =
    let inside : n % length t < length t = mod_below n (length t) h.not_empty in
    let same : w ≡ get_or t (n % length t) 0 = read ∙ get_or_default t (n % length t) w 0 inside in
    let both = apery-member G (length t) t h.not_empty h.modulus h.apery n in
    ((λ l. both.1 (subst (λ v. v ≤ n) same l)), (λ q. subst (λ v. v ≤ n) (sym same) (both.0 q)))

-- a table of the generators of A is the Apery list of A modulo its length
pub table-modulo : (A G s t : List ℕ) (n : ℕ) → G ≡ A → s ≡ t → length s ≡ n → IsTable G t → IsApery A n s
table-modulo A G s t n same read long h =
    subst (λ m. IsApery A m s) long (subst (λ u. IsApery A (length u) u) (sym read) (subst (λ X. IsApery X (length t) t) same h.apery))

-- the members of a table by its entries
pub table-member : (G t : List ℕ) → IsNumericalSemigroup G → length t ≡ get_or G 0 0 → IsApery G (get_or G 0 0) t → (x : ℕ) → IsMember G x ↔ IsAboveEntry t x
table-member G t s long h x =
    let positive : 0 < get_or G 0 0 = omega (arith, s.positive 0 0 s.not_empty) in
    subst (λ n. IsMember G x ↔ (get_or t (x % n) 0 ≤ x)) (sym long) (apery-member G (get_or G 0 0) t positive (member-entry G 0 s.not_empty) h x)

-- a table has an entry
pub table-long : (G t : List ℕ) → IsNumericalSemigroup G → length t ≡ get_or G 0 0 → 0 < length t
table-long G t s long = omega (arith, long, s.positive 0 0 s.not_empty)

-- entry 0 of an Apery list is 0
pub table-zero : (G t : List ℕ) → IsNumericalSemigroup G → length t ≡ get_or G 0 0 → IsApery G (get_or G 0 0) t → get_or t 0 0 ≡ 0
table-zero G t s long h =
    let e = ap (λ i. get_or t i 0) (zero-residue (length t) (table-long G t s long)) in
    omega (arith, e, (table-member G t s long h 0).0 (member-zero G))
