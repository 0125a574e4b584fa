-- Arguments that are found among values, and what they stand for.
use Rattle.std.proofs.Common.{◌≡◌, ℕ, ℤ, List, [], Option, Some, None, IsSome, slice_get, unwrap_or, ap, ap₂, ◌∙◌, subst}
use Rattle.std.specs.Option.{option_map}
use Rattle.std.specs.Prelude.{IfSome, ⊤}
use Rattle.sg_value.specs.Data.{semigroups, ideals}
use Rattle.sg_value.specs.Known.{Known, named}
use Rattle.sg_value.specs.Plain.{AllKnown, AllKnownIn, IsKnown, RelativeIdeal, contents, contents_of_all, thing_at}
use Rattle.sg_value.specs.declared.value.Value.{Value}
use Rattle.sg_rows.specs.Kinds.{as_semigroup, as_ideal, as_integer, as_integers, one, both, two_semigroups, two_ideals, semigroup_and_integer, integer_then_semigroup, integer_then_ideal, list_then_semigroup}
use Rattle.sg_rows.proofs.KindLemmas.{as_semigroup-each, as_ideal-each, semigroup_and_integer-each, one-each, both-each, any_some, one_semigroup-plain, one_ideal-plain, two_semigroups-plain, two_ideals-plain, semigroup_and_integer-plain, integer_then_semigroup-plain, integer_then_ideal-plain, list_then_semigroup-plain}
use Rattle.sg_calls.specs.Asked.{the_semigroup, the_ideal, the_semigroup_and_integer, the_semigroups, the_integer_and_semigroup, the_integer_and_ideal, the_ideals, the_list_and_semigroup}

-- ---- options that agree

module _ {A B : Type 0} (g : A → B) (o : Option A) (p : Option B) (same : p ≡ option_map g o) where
  none_seen : o ≡ None → p ≡ None
  none_seen is = same ∙ ap (option_map g) is

  some_seen : (a : A) (b : B) → o ≡ Some a → g a ≡ b → p ≡ Some b
  some_seen a b is stands = same ∙ (ap (option_map g) is ∙ ap Some stands)

some_holds : {A : Type 0} (P : A → Type 0) (o : Option A) (a : A) → IfSome o P → o ≡ Some a → P a
some_holds P o a h is = subst (λ x. IfSome x P) is h

module _ (known : Known) where
  -- ---- what ids stand for

  semigroup_at : (i : ℕ) (G : List ℕ) → slice_get known.semigroups i ≡ Some G → thing_at (named known) semigroups i ≡ G
  semigroup_at i G at = ap (λ o. unwrap_or o []) at

  -- ---- the one argument

  module _ (vs : List Value) where
    pub semigroup-none : one as_semigroup (contents_of_all vs) ≡ None → the_semigroup known vs ≡ None
    semigroup-none is = none_seen (thing_at (named known) semigroups) _ _ (one_semigroup-plain (thing_at (named known)) (contents_of_all vs)) is

    pub semigroup-some : (i : ℕ) (G : List ℕ) → one as_semigroup (contents_of_all vs) ≡ Some i → slice_get known.semigroups i ≡ Some G → the_semigroup known vs ≡ Some G
    semigroup-some i G is at = some_seen (thing_at (named known) semigroups) _ _ (one_semigroup-plain (thing_at (named known)) (contents_of_all vs)) i G is (semigroup_at i G at)

    pub semigroup-known : (i : ℕ) → AllKnownIn (named known) vs → one as_semigroup (contents_of_all vs) ≡ Some i → IsSome (slice_get known.semigroups i)
    semigroup-known i all is =
        some_holds (IsKnown (named known) semigroups) (one as_semigroup (contents_of_all vs)) i (one-each (IsKnown (named known)) (IsKnown (named known) semigroups) as_semigroup (as_semigroup-each (IsKnown (named known))) (contents_of_all vs) all) is

    pub ideal-none : one as_ideal (contents_of_all vs) ≡ None → the_ideal known vs ≡ None
    ideal-none is = none_seen (thing_at (named known) ideals) _ _ (one_ideal-plain (thing_at (named known)) (contents_of_all vs)) is

    pub ideal-some : (i : ℕ) (I : RelativeIdeal) → one as_ideal (contents_of_all vs) ≡ Some i → thing_at (named known) ideals i ≡ I → the_ideal known vs ≡ Some I
    ideal-some i I is at = some_seen (thing_at (named known) ideals) _ _ (one_ideal-plain (thing_at (named known)) (contents_of_all vs)) i I is at

    pub ideal-known : (i : ℕ) → AllKnownIn (named known) vs → one as_ideal (contents_of_all vs) ≡ Some i → IsSome (slice_get known.ideals i)
    ideal-known i all is =
        some_holds (IsKnown (named known) ideals) (one as_ideal (contents_of_all vs)) i (one-each (IsKnown (named known)) (IsKnown (named known) ideals) as_ideal (as_ideal-each (IsKnown (named known))) (contents_of_all vs) all) is

  -- ---- two

  module _ (a b : Value) where
    pub semigroup_and_integer-none : semigroup_and_integer (contents a) (contents b) ≡ None → the_semigroup_and_integer known a b ≡ None
    semigroup_and_integer-none is = none_seen (λ p. (thing_at (named known) semigroups p.0, p.1)) _ _ (semigroup_and_integer-plain (thing_at (named known)) (contents a) (contents b)) is

    pub semigroup_and_integer-some : (i : ℕ) (z : ℤ) (G : List ℕ) → semigroup_and_integer (contents a) (contents b) ≡ Some (i, z) → slice_get known.semigroups i ≡ Some G → the_semigroup_and_integer known a b ≡ Some (G, z)
    semigroup_and_integer-some i z G is at =
        some_seen (λ p. (thing_at (named known) semigroups p.0, p.1)) _ _ (semigroup_and_integer-plain (thing_at (named known)) (contents a) (contents b)) (i, z) (G, z) is (ap (λ H. (H, z)) (semigroup_at i G at))

    pub semigroup_and_integer-known : (i : ℕ) (z : ℤ) → AllKnown (named known) a → AllKnown (named known) b → semigroup_and_integer (contents a) (contents b) ≡ Some (i, z) → IsSome (slice_get known.semigroups i)
    semigroup_and_integer-known i z p q is =
        some_holds (λ r. IsKnown (named known) semigroups r.0) (semigroup_and_integer (contents a) (contents b)) (i, z) (semigroup_and_integer-each (IsKnown (named known)) (contents a) (contents b) p q) is

    pub semigroups-none : two_semigroups (contents a) (contents b) ≡ None → the_semigroups known a b ≡ None
    semigroups-none is = none_seen (λ p. (thing_at (named known) semigroups p.0, thing_at (named known) semigroups p.1)) _ _ (two_semigroups-plain (thing_at (named known)) (contents a) (contents b)) is

    pub semigroups-some : (i j : ℕ) (G H : List ℕ) → two_semigroups (contents a) (contents b) ≡ Some (i, j) → slice_get known.semigroups i ≡ Some G → slice_get known.semigroups j ≡ Some H → the_semigroups known a b ≡ Some (G, H)
    semigroups-some i j G H is at also =
        some_seen (λ p. (thing_at (named known) semigroups p.0, thing_at (named known) semigroups p.1)) _ _ (two_semigroups-plain (thing_at (named known)) (contents a) (contents b)) (i, j) (G, H) is
        (ap₂ (λ x y. (x, y)) (semigroup_at i G at) (semigroup_at j H also))

    pub semigroups-known : (i j : ℕ) → AllKnown (named known) a → AllKnown (named known) b → two_semigroups (contents a) (contents b) ≡ Some (i, j) → IsSome (slice_get known.semigroups i) × IsSome (slice_get known.semigroups j)
    semigroups-known i j p q is =
        let P = IsKnown (named known) semigroups in
        some_holds (λ r. P r.0 × P r.1) (two_semigroups (contents a) (contents b)) (i, j)
        (both-each P P (as_semigroup (contents a)) (as_semigroup (contents b)) (as_semigroup-each (IsKnown (named known)) (contents a) p) (as_semigroup-each (IsKnown (named known)) (contents b) q)) is

    pub ideals-none : two_ideals (contents a) (contents b) ≡ None → the_ideals known a b ≡ None
    ideals-none is = none_seen (λ p. (thing_at (named known) ideals p.0, thing_at (named known) ideals p.1)) _ _ (two_ideals-plain (thing_at (named known)) (contents a) (contents b)) is

    pub ideals-some : (i j : ℕ) (I J : RelativeIdeal) → two_ideals (contents a) (contents b) ≡ Some (i, j) → thing_at (named known) ideals i ≡ I → thing_at (named known) ideals j ≡ J → the_ideals known a b ≡ Some (I, J)
    ideals-some i j I J is at also =
        some_seen (λ p. (thing_at (named known) ideals p.0, thing_at (named known) ideals p.1)) _ _ (two_ideals-plain (thing_at (named known)) (contents a) (contents b)) (i, j) (I, J) is (ap₂ (λ x y. (x, y)) at also)

    pub ideals-known : (i j : ℕ) → AllKnown (named known) a → AllKnown (named known) b → two_ideals (contents a) (contents b) ≡ Some (i, j) → IsSome (slice_get known.ideals i) × IsSome (slice_get known.ideals j)
    ideals-known i j p q is =
        let P = IsKnown (named known) ideals in
        some_holds (λ r. P r.0 × P r.1) (two_ideals (contents a) (contents b)) (i, j)
        (both-each P P (as_ideal (contents a)) (as_ideal (contents b)) (as_ideal-each (IsKnown (named known)) (contents a) p) (as_ideal-each (IsKnown (named known)) (contents b) q)) is

    pub integer_and_semigroup-none : integer_then_semigroup (contents a) (contents b) ≡ None → the_integer_and_semigroup known a b ≡ None
    integer_and_semigroup-none is = none_seen (λ p. (p.0, thing_at (named known) semigroups p.1)) _ _ (integer_then_semigroup-plain (thing_at (named known)) (contents a) (contents b)) is

    pub integer_and_semigroup-some : (z : ℤ) (i : ℕ) (G : List ℕ) → integer_then_semigroup (contents a) (contents b) ≡ Some (z, i) → slice_get known.semigroups i ≡ Some G → the_integer_and_semigroup known a b ≡ Some (z, G)
    integer_and_semigroup-some z i G is at =
        some_seen (λ p. (p.0, thing_at (named known) semigroups p.1)) _ _ (integer_then_semigroup-plain (thing_at (named known)) (contents a) (contents b)) (z, i) (z, G) is (ap (λ H. (z, H)) (semigroup_at i G at))

    pub integer_and_ideal-none : integer_then_ideal (contents a) (contents b) ≡ None → the_integer_and_ideal known a b ≡ None
    integer_and_ideal-none is = none_seen (λ p. (p.0, thing_at (named known) ideals p.1)) _ _ (integer_then_ideal-plain (thing_at (named known)) (contents a) (contents b)) is

    pub integer_and_ideal-some : (z : ℤ) (i : ℕ) (I : RelativeIdeal) → integer_then_ideal (contents a) (contents b) ≡ Some (z, i) → thing_at (named known) ideals i ≡ I → the_integer_and_ideal known a b ≡ Some (z, I)
    integer_and_ideal-some z i I is at =
        some_seen (λ p. (p.0, thing_at (named known) ideals p.1)) _ _ (integer_then_ideal-plain (thing_at (named known)) (contents a) (contents b)) (z, i) (z, I) is (ap (λ J. (z, J)) at)

    pub list_and_semigroup-none : list_then_semigroup (contents a) (contents b) ≡ None → the_list_and_semigroup known a b ≡ None
    list_and_semigroup-none is = none_seen (λ p. (p.0, thing_at (named known) semigroups p.1)) _ _ (list_then_semigroup-plain (thing_at (named known)) (contents a) (contents b)) is

    pub list_and_semigroup-some : (zs : List ℤ) (i : ℕ) (G : List ℕ) → list_then_semigroup (contents a) (contents b) ≡ Some (zs, i) → slice_get known.semigroups i ≡ Some G → the_list_and_semigroup known a b ≡ Some (zs, G)
    list_and_semigroup-some zs i G is at =
        some_seen (λ p. (p.0, thing_at (named known) semigroups p.1)) _ _ (list_then_semigroup-plain (thing_at (named known)) (contents a) (contents b)) (zs, i) (zs, G) is (ap (λ H. (zs, H)) (semigroup_at i G at))

    -- the second is known, behind what is no thing of a store
    module _ (known_b : AllKnown (named known) b) where
      second_known : {A : Type 0} (o : Option A) (x : A) (i : ℕ) → both o (as_semigroup (contents b)) ≡ Some (x, i) → IsSome (slice_get known.semigroups i)
      second_known o x i is =
          let P = IsKnown (named known) semigroups in
          (some_holds (λ r. ⊤ × P r.1) (both o (as_semigroup (contents b))) (x, i) (both-each (λ y. ⊤) P o (as_semigroup (contents b)) (any_some o) (as_semigroup-each (IsKnown (named known)) (contents b) known_b)) is).1

      pub integer_and_semigroup-known : (z : ℤ) (i : ℕ) → integer_then_semigroup (contents a) (contents b) ≡ Some (z, i) → IsSome (slice_get known.semigroups i)
      integer_and_semigroup-known z i is = second_known (as_integer (contents a)) z i is

      pub list_and_semigroup-known : (zs : List ℤ) (i : ℕ) → list_then_semigroup (contents a) (contents b) ≡ Some (zs, i) → IsSome (slice_get known.semigroups i)
      list_and_semigroup-known zs i is = second_known (as_integers (contents a)) zs i is

      pub integer_and_ideal-known : (z : ℤ) (i : ℕ) → integer_then_ideal (contents a) (contents b) ≡ Some (z, i) → IsSome (slice_get known.ideals i)
      integer_and_ideal-known z i is =
          let P = IsKnown (named known) ideals in
          (some_holds (λ r. ⊤ × P r.1) (integer_then_ideal (contents a) (contents b)) (z, i)
          (both-each (λ y. ⊤) P (as_integer (contents a)) (as_ideal (contents b)) (any_some (as_integer (contents a))) (as_ideal-each (IsKnown (named known)) (contents b) known_b)) is).1
