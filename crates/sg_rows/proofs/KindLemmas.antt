-- Arguments by their kinds, over stores and without one.
use Rattle.std.proofs.Common.{◌≡◌, List, [], ◌∷◌, length, get_or, arith, Option, Some, None, refl, ap, ◌∙◌}
use Rattle.std.specs.Option.{option_map}
use Rattle.std.specs.Prelude.{IfSome, ⊤, unwrap_or}
use Rattle.sg_value.specs.Data.{Data, Items, int, list, semigroup, ideal, none, item, data_map, items_map, EachThing, EachThingOfAll, Kind, semigroups, ideals}
use Rattle.sg_value.specs.Plain.{Named, Plain, Stored, contents_of_all, plain, plain_of_all}
use Rattle.sg_value.specs.declared.value.Value.{Value}
use Rattle.sg_rows.specs.Kinds.{as_integer, as_list, as_semigroup, as_ideal, prepended, integers, as_integers, both, two_integers, three_integers, two_semigroups, two_ideals, semigroup_and_integer, integer_then_semigroup, integer_then_ideal, list_then_semigroup, one, two, three, list_or_integers}

-- ---- with f k h in place of each thing h of the kind k, an argument is of the same kind

module _ {H K : Kind → Type 0} (f : (k : Kind) → H k → K k) where
  pub as_integer-plain : (d : Data H) → as_integer (data_map f d) ≡ as_integer d
  as_integer-plain (int z) = refl
  as_integer-plain _ = refl

  pub as_list-plain : (d : Data H) → as_list (data_map f d) ≡ option_map (items_map f) (as_list d)
  as_list-plain (list ds) = refl
  as_list-plain _ = refl

  pub as_semigroup-plain : (d : Data H) → as_semigroup (data_map f d) ≡ option_map (f semigroups) (as_semigroup d)
  as_semigroup-plain (semigroup h) = refl
  as_semigroup-plain _ = refl

  pub as_ideal-plain : (d : Data H) → as_ideal (data_map f d) ≡ option_map (f ideals) (as_ideal d)
  as_ideal-plain (ideal h) = refl
  as_ideal-plain _ = refl

  pub integers-plain : (ds : Items H) → integers (items_map f ds) ≡ integers ds
  integers-plain none = refl
  integers-plain (item d ds) = ap (λ o. prepended o (integers (items_map f ds))) (as_integer-plain d) ∙ ap (prepended (as_integer d)) (integers-plain ds)

  pub as_integers-plain : (d : Data H) → as_integers (data_map f d) ≡ as_integers d
  as_integers-plain (list ds) = integers-plain ds
  as_integers-plain _ = refl

  pub semigroup_and_integer-plain : (a b : Data H) → semigroup_and_integer (data_map f a) (data_map f b) ≡ option_map (λ p. (f semigroups p.0, p.1)) (semigroup_and_integer a b)
  semigroup_and_integer-plain (semigroup h) (int z) = refl
  semigroup_and_integer-plain (int z) (semigroup h) = refl
  semigroup_and_integer-plain _ _ = refl

  -- what is taken of the arguments
  module _ {A B : Type 0} (g : A → B) where
    pub one-plain : (take : Data H → Option A) (also : Data K → Option B) → ((a : Data H) → also (data_map f a) ≡ option_map g (take a)) → (ds : Items H) → one also (items_map f ds) ≡ option_map g (one take ds)
    one-plain take also same (item a none) = same a
    one-plain take also same _ = refl

    pub two-plain : (take : Data H → Data H → Option A) (also : Data K → Data K → Option B) → ((a b : Data H) → also (data_map f a) (data_map f b) ≡ option_map g (take a b)) → (ds : Items H)
        → two also (items_map f ds) ≡ option_map g (two take ds)
    two-plain take also same (item a (item b none)) = same a b
    two-plain take also same _ = refl

  pub one_list-plain : (ds : Items H) → one as_list (items_map f ds) ≡ option_map (items_map f) (one as_list ds)
  one_list-plain ds = one-plain (items_map f) as_list as_list as_list-plain ds

  pub list_or_integers-plain : (ds : Items H) → list_or_integers (items_map f ds) ≡ list_or_integers ds
  list_or_integers-plain ds = ap (λ o. integers (unwrap_or o (items_map f ds))) (one_list-plain ds) ∙ by (one as_list ds)
    where
      by : (o : Option (Items H)) → integers (unwrap_or (option_map (items_map f) o) (items_map f ds)) ≡ integers (unwrap_or o ds)
      by (Some es) = integers-plain es
      by None = integers-plain ds

-- ---- what holds of each thing holds of those that are taken

module _ {H : Kind → Type 0} (P : (k : Kind) → H k → Type 0) where
  pub as_semigroup-each : (d : Data H) → EachThing P d → IfSome (as_semigroup d) (P semigroups)
  as_semigroup-each (semigroup h) p = p
  as_semigroup-each _ p = tt

  pub as_ideal-each : (d : Data H) → EachThing P d → IfSome (as_ideal d) (P ideals)
  as_ideal-each (ideal h) p = p
  as_ideal-each _ p = tt

  pub as_list-each : (d : Data H) → EachThing P d → IfSome (as_list d) (EachThingOfAll P)
  as_list-each (list ds) p = p
  as_list-each _ p = tt

  pub semigroup_and_integer-each : (a b : Data H) → EachThing P a → EachThing P b → IfSome (semigroup_and_integer a b) (λ p. P semigroups p.0)
  semigroup_and_integer-each (semigroup h) (int z) p q = p
  semigroup_and_integer-each (int z) (semigroup h) p q = q
  semigroup_and_integer-each _ _ p q = tt

  -- of what is taken of the arguments
  module _ {A : Type 0} (Q : A → Type 0) where
    pub one-each : (take : Data H → Option A) → ((a : Data H) → EachThing P a → IfSome (take a) Q) → (ds : Items H) → EachThingOfAll P ds → IfSome (one take ds) Q
    one-each take each (item a none) p = each a p.0
    one-each take each _ p = tt

    pub two-each : (take : Data H → Data H → Option A) → ((a b : Data H) → EachThing P a → EachThing P b → IfSome (take a b) Q) → (ds : Items H) → EachThingOfAll P ds → IfSome (two take ds) Q
    two-each take each (item a (item b none)) p = each a b p.0 p.1.0
    two-each take each _ p = tt

-- what holds of each of two holds of both
pub both-each : {A B : Type 0} (P : A → Type 0) (Q : B → Type 0) (a : Option A) (b : Option B) → IfSome a P → IfSome b Q → IfSome (both a b) (λ p. P p.0 × Q p.1)
both-each P Q (Some a) (Some b) p q = (p, q)
both-each P Q _ _ p q = tt

pub both-map : {A B C D : Type 0} (f : A → C) (g : B → D) (a : Option A) (b : Option B) → both (option_map f a) (option_map g b) ≡ option_map (λ p. (f p.0, g p.1)) (both a b)
both-map f g (Some a) (Some b) = refl
both-map f g _ _ = refl

both-second : {A B C : Type 0} (g : B → C) (a : Option A) (b : Option B) → both a (option_map g b) ≡ option_map (λ p. (p.0, g p.1)) (both a b)
both-second g (Some a) (Some b) = refl
both-second g _ _ = refl

pub any_some : {A : Type 0} (o : Option A) → IfSome o (λ a. ⊤)
any_some None = tt
any_some (Some a) = tt

-- ---- values that are not so many

module _ {A : Type 0} where
  pub one_none : (take : Stored → Option A) (vs : List Value) → (length vs ≡ 1 → ⊥) → one take (contents_of_all vs) ≡ None
  one_none take [] many = refl
  one_none take (v ∷ []) many = absurd (many refl)
  one_none take (v ∷ (w ∷ vs)) many = refl

  pub two_none : (take : Stored → Stored → Option A) (vs : List Value) → (length vs ≡ 2 → ⊥) → two take (contents_of_all vs) ≡ None
  two_none take [] many = refl
  two_none take (v ∷ []) many = refl
  two_none take (v ∷ (w ∷ [])) many = absurd (many refl)
  two_none take (v ∷ (w ∷ (x ∷ vs))) many = refl

  pub three_none : (take : Stored → Stored → Stored → Option A) (vs : List Value) → (length vs ≡ 3 → ⊥) → three take (contents_of_all vs) ≡ None
  three_none take [] many = refl
  three_none take (v ∷ []) many = refl
  three_none take (v ∷ (w ∷ [])) many = refl
  three_none take (v ∷ (w ∷ (x ∷ []))) many = absurd (many refl)
  three_none take (v ∷ (w ∷ (x ∷ (y ∷ vs)))) many = refl

-- ---- two at once, over stores and without one

module _ {H K : Kind → Type 0} (f : (k : Kind) → H k → K k) where
  pub two_integers-plain : (a b : Data H) → two_integers (data_map f a) (data_map f b) ≡ two_integers a b
  two_integers-plain a b = ap (λ o. both o (as_integer (data_map f b))) (as_integer-plain f a) ∙ ap (both (as_integer a)) (as_integer-plain f b)

  pub two_semigroups-plain : (a b : Data H) → two_semigroups (data_map f a) (data_map f b) ≡ option_map (λ p. (f semigroups p.0, f semigroups p.1)) (two_semigroups a b)
  two_semigroups-plain a b =
      ap (λ o. both o (as_semigroup (data_map f b))) (as_semigroup-plain f a)
      ∙ (ap (both (option_map (f semigroups) (as_semigroup a))) (as_semigroup-plain f b) ∙ both-map (f semigroups) (f semigroups) (as_semigroup a) (as_semigroup b))

  pub two_ideals-plain : (a b : Data H) → two_ideals (data_map f a) (data_map f b) ≡ option_map (λ p. (f ideals p.0, f ideals p.1)) (two_ideals a b)
  two_ideals-plain a b =
      ap (λ o. both o (as_ideal (data_map f b))) (as_ideal-plain f a)
      ∙ (ap (both (option_map (f ideals) (as_ideal a))) (as_ideal-plain f b) ∙ both-map (f ideals) (f ideals) (as_ideal a) (as_ideal b))

  -- the first is no thing of a store
  module _ {A : Type 0} (o p : Option A) (same : o ≡ p) where
    then_semigroup : (b : Data H) → both o (as_semigroup (data_map f b)) ≡ option_map (λ q. (q.0, f semigroups q.1)) (both p (as_semigroup b))
    then_semigroup b = ap (λ q. both q (as_semigroup (data_map f b))) same ∙ (ap (both p) (as_semigroup-plain f b) ∙ both-second (f semigroups) p (as_semigroup b))

    then_ideal : (b : Data H) → both o (as_ideal (data_map f b)) ≡ option_map (λ q. (q.0, f ideals q.1)) (both p (as_ideal b))
    then_ideal b = ap (λ q. both q (as_ideal (data_map f b))) same ∙ (ap (both p) (as_ideal-plain f b) ∙ both-second (f ideals) p (as_ideal b))

  pub integer_then_semigroup-plain : (a b : Data H) → integer_then_semigroup (data_map f a) (data_map f b) ≡ option_map (λ q. (q.0, f semigroups q.1)) (integer_then_semigroup a b)
  integer_then_semigroup-plain a b = then_semigroup (as_integer (data_map f a)) (as_integer a) (as_integer-plain f a) b

  pub integer_then_ideal-plain : (a b : Data H) → integer_then_ideal (data_map f a) (data_map f b) ≡ option_map (λ q. (q.0, f ideals q.1)) (integer_then_ideal a b)
  integer_then_ideal-plain a b = then_ideal (as_integer (data_map f a)) (as_integer a) (as_integer-plain f a) b

  pub list_then_semigroup-plain : (a b : Data H) → list_then_semigroup (data_map f a) (data_map f b) ≡ option_map (λ q. (q.0, f semigroups q.1)) (list_then_semigroup a b)
  list_then_semigroup-plain a b = then_semigroup (as_integers (data_map f a)) (as_integers a) (as_integers-plain f a) b

  pub one_semigroup-plain : (ds : Items H) → one as_semigroup (items_map f ds) ≡ option_map (f semigroups) (one as_semigroup ds)
  one_semigroup-plain = one-plain f (f semigroups) as_semigroup as_semigroup (as_semigroup-plain f)

  pub one_ideal-plain : (ds : Items H) → one as_ideal (items_map f ds) ≡ option_map (f ideals) (one as_ideal ds)
  one_ideal-plain = one-plain f (f ideals) as_ideal as_ideal (as_ideal-plain f)

  pub one_integers-plain : (ds : Items H) → one as_integers (items_map f ds) ≡ one as_integers ds
  one_integers-plain (item a none) = as_integers-plain f a
  one_integers-plain _ = refl

  pub three_integers-plain : (ds : Items H) → three three_integers (items_map f ds) ≡ three three_integers ds
  three_integers-plain (item a (item b (item c none))) = ap (λ o. both o (two_integers (data_map f b) (data_map f c))) (as_integer-plain f a) ∙ ap (both (as_integer a)) (two_integers-plain b c)
  three_integers-plain _ = refl

-- ---- values that are two

-- what is taken of two values is taken of all
pub two_at : {A : Type 0} (names : Named) (take : Plain → Plain → Option A) (vs : List Value) (a b : Value) → length vs ≡ 2 → a ≡ get_or vs 0 a → b ≡ get_or vs 1 b → take (plain names a) (plain names b) ≡ two take (plain_of_all names vs)
two_at names take [] a b count is_a is_b = absurd (omega arith)
two_at names take (x ∷ []) a b count is_a is_b = absurd (omega arith)
two_at names take (x ∷ (y ∷ [])) a b count is_a is_b = ap (λ v. take (plain names v) (plain names b)) is_a ∙ ap (λ v. take (plain names x) (plain names v)) is_b
two_at names take (x ∷ (y ∷ (z ∷ zs))) a b count is_a is_b = absurd (omega arith)

-- values that are not two, over a store
pub two_plain-none : {A : Type 0} (names : Named) (take : Plain → Plain → Option A) (vs : List Value) → (length vs ≡ 2 → ⊥) → two take (plain_of_all names vs) ≡ None
two_plain-none names take [] many = refl
two_plain-none names take (v ∷ []) many = refl
two_plain-none names take (v ∷ (w ∷ [])) many = absurd (many refl)
two_plain-none names take (v ∷ (w ∷ (x ∷ vs))) many = refl
