-- The laws of minimal lists and Apery lists.
use Rattle.std.specs.Prelude.{◌≡◌, ℕ, ◌%◌, ◌<◌, ◌≤◌, ◌↔◌, List, slice_index}
use Rattle.sg_defs.specs.Membership.{IsMember, Generates}
use Rattle.sg_defs.specs.Apery.{IsApery}
use Rattle.sg_classes.specs.Classes.{IsKunz}
use Rattle.sg_classes.specs.Table.{IsAperyTable}

-- two minimal lists of the members of one list are the same
abbrev pub HasOneMinimalList : Type 0
HasOneMinimalList = (G M N : List ℕ) → Generates (IsMember G) M → Generates (IsMember G) N → M ≡ N

-- a number is a member exactly where it is at least the entry of its residue class
abbrev pub TellsMembership : Type 0
TellsMembership = (G : List ℕ) (n : ℕ) (t : List ℕ) → 0 < n → IsMember G n → IsApery G n t → (x : ℕ) →
    IsMember G x ↔ (slice_index t (x % n) ≤ x)

-- a list meets Kunz's conditions exactly where it is the Apery list of a numerical semigroup, modulo a member
abbrev pub AreAperyLists : Type 0
AreAperyLists = (t : List ℕ) → IsKunz t ↔ ((G : List ℕ) × IsAperyTable G t)
