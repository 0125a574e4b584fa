-- Lists that list the same set are the same.
use Rattle.std.proofs.Common.{ℕ, ℤ, pos, List, Option, length, ap, sym, ◌∙◌}
use Rattle.sg_defs.proofs.OneLemmas.{one-integer_list}
use Rattle.sg_defs.specs.Listings.{Lists, ListsIntegers, IsCountOf}
use Rattle.sg_apery.proofs.OneListLemmas.{one-list}
use Rattle.sg_value.specs.Data.{int}
use Rattle.sg_rows.specs.Values.{a_natural, a_natural_or_fail, natural_or_fail, integer_list, natural_list, semigroup_list, vector_list, vector_lists, integers_with, naturals_with, semigroups_with, vectors_with, vector_lists_with}
use Rattle.sg_rows.proofs.OneValue.{One}

pub natural_one : (P : ℕ → Type 0) → One P → One (a_natural P)
natural_one P one d e p q = p.1 ∙ (ap (λ n. int (pos n)) (one p.0 q.0 p.2 q.2) ∙ sym q.1)

pub natural_or_fail_one : (P : Option ℕ → Type 0) → One P → One (a_natural_or_fail P)
natural_or_fail_one P one d e p q = p.1 ∙ (ap natural_or_fail (one p.0 q.0 p.2 q.2) ∙ sym q.1)

pub naturals_one : (P : List ℕ → Type 0) → One P → One (naturals_with P)
naturals_one P one d e p q = p.1 ∙ (ap natural_list (one p.0 q.0 p.2 q.2) ∙ sym q.1)

pub integers_one : (P : List ℤ → Type 0) → One P → One (integers_with P)
integers_one P one d e p q = p.1 ∙ (ap integer_list (one p.0 q.0 p.2 q.2) ∙ sym q.1)

pub semigroups_one : (P : List (List ℕ) → Type 0) → One P → One (semigroups_with P)
semigroups_one P one d e p q = p.1 ∙ (ap semigroup_list (one p.0 q.0 p.2 q.2) ∙ sym q.1)

pub vectors_one : (P : List (List ℕ) → Type 0) → One P → One (vectors_with P)
vectors_one P one d e p q = p.1 ∙ (ap vector_list (one p.0 q.0 p.2 q.2) ∙ sym q.1)

pub vector_lists_one : (P : List (List (List ℕ)) → Type 0) → One P → One (vector_lists_with P)
vector_lists_one P one d e p q = p.1 ∙ (ap vector_lists (one p.0 q.0 p.2 q.2) ∙ sym q.1)

pub lists_one : (P : ℕ → Type 0) → One (Lists P)
lists_one P xs ys a b = one-list P xs ys a b

pub count_one : (P : ℕ → Type 0) → One (IsCountOf P)
count_one P m n a b = sym a.2 ∙ (ap length (one-list P a.0 b.0 a.1 b.1) ∙ b.2)

pub lists_integers_one : (P : ℤ → Type 0) → One (ListsIntegers P)
lists_integers_one P xs ys a b = one-integer_list P xs ys a b
