-- Variables that are found by their names.
use Rattle.std.proofs.Common.{◌≡◌, ℕ, zero, suc, List, [], ◌∷◌, get_or, Bool, true, false, cond, Option, Some, None, MatchOption, Bor, Result, Ok, Err, OnOk, OnErr, Vec, Global, refl, ap, ap₂, sym, subst, ◌∙◌, slice_get, arith}
use Rattle.sg_value.specs.Known.{Known, named}
use Rattle.std.specs.Prelude.{⊤}
use Rattle.std.proofs.lemmas.Slice.Eq.{bytes_eq-Decides}
use Rattle.std.specs.Str.{bytes_eq}
use Rattle.std.specs.Option.{option_copied}
use Rattle.std.specs.Map.{lookup, set_value, keys_of}
use Rattle.std.specs.Cmp.{IsEquivalence}
use Rattle.std.specs.List.{IsDistinct}
use Rattle.indexmap.specs.IndexMap.{insert_entry, set_value_at}
use Rattle.indexmap.proofs.MapLemmas.{insert_entry-first}
use Rattle.indexmap.proofs.RemoveLemmas.{own_first}
use Rattle.sg_value.specs.Data.{data_map}
use Rattle.sg_value.specs.Plain.{AllKnown, contents, plain, thing_at}
use Rattle.sg_value.specs.declared.value.Value.{Value}
use Rattle.sg_store.specs.Interned.{Keeps}
use Rattle.sg_rows.specs.Order.{Plain}
use Rattle.sg_eval.specs.State.{values_of, AreKnownIn}
use Rattle.sg_meaning.specs.Vars.{with_value}
use Rattle.sg_eval.proofs.Evaluating.{known_later, plain_later}

-- variables as they are kept, each name with its value
abbrev pub Pairs : Type 0
Pairs = List (Vec ℕ Global × Value)

-- whether a key is this name
abbrev pub is_named : List ℕ → Vec ℕ Global → Bool
is_named x k = bytes_eq x k.items

bytes_eq-symm : (xs ys : List ℕ) → bytes_eq xs ys ≡ bytes_eq ys xs
bytes_eq-symm xs ys = (elim (bytes_eq xs ys) as (λ b. bytes_eq xs ys ≡ b → b ≡ bytes_eq ys xs) [
  | true ↦ λ t. sym ((bytes_eq-Decides ys xs).1 (sym ((bytes_eq-Decides xs ys).0 t)))
  | false ↦ λ t. (elim (bytes_eq ys xs) as (λ b. bytes_eq ys xs ≡ b → false ≡ b) [
    | true ↦ λ u. sym t ∙ (bytes_eq-Decides xs ys).1 (sym ((bytes_eq-Decides ys xs).0 u))
    | false ↦ λ u. refl
  ]) refl
]) refl

same_name-laws : IsEquivalence (λ (a b : Vec ℕ Global). bytes_eq a.items b.items)
same_name-laws = record {
  refl = λ a. (bytes_eq-Decides a.items a.items).1 refl;
  symm = λ a b. bytes_eq-symm a.items b.items;
  congr = λ a b d h. ap (λ xs. bytes_eq xs d.items) ((bytes_eq-Decides a.items b.items).0 h);
}

-- the value at the place of a name is that of the name
pub set-at : (es : Pairs) (i : ℕ) (e : Vec ℕ Global × Value) (v : Value) → IsDistinct (λ (a b : Vec ℕ Global). bytes_eq a.items b.items) (keys_of es) → slice_get es i ≡ Some e
    → set_value_at es i v ≡ insert_entry (λ a b. bytes_eq a.items b.items) es e.0 v
set-at es i e v distinct at =
    let same = λ (a b : Vec ℕ Global). bytes_eq a.items b.items in
    sym (insert_entry-first same e.0 v es i (own_first same same_name-laws es i e.0 e.1 distinct at))

module _ (names : Known) where
  -- a variable gets a value
  pub values-set : (x : List ℕ) (es : Pairs) (u v : Value) → Some u ≡ lookup (is_named x) es → values_of names (set_value (is_named x) es v) ≡ with_value x (plain (named names) v) (values_of names es)
  values-set x [] u v found = absurd (cc)
  values-set x (e ∷ es) u v found = (elim (bytes_eq x e.0.items) as (λ b. bytes_eq x e.0.items ≡ b → Some u ≡ lookup (is_named x) (e ∷ es) → values_of names (set_value (is_named x) (e ∷ es) v) ≡ with_value x (plain (named names) v) (values_of names (e ∷ es))) [
    | true ↦ λ t h. rw t (ap (λ n. (n, plain (named names) v) ∷ values_of names es) (sym ((bytes_eq-Decides x e.0.items).0 t)))
    | false ↦ λ t h. rw t (ap (λ vs. (e.0.items, plain (named names) e.1) ∷ vs) (values-set x es u v (rw t at h)))
  ]) refl found

  -- where a value has the contents that it had, the variables are as they were
  pub values-kept : (x : List ℕ) (es : Pairs) (u v : Value) → Some u ≡ lookup (is_named x) es → contents v ≡ contents u → values_of names (set_value (is_named x) es v) ≡ values_of names es
  values-kept x [] u v found same = absurd (cc)
  values-kept x (e ∷ es) u v found same = (elim (bytes_eq x e.0.items) as (λ b. bytes_eq x e.0.items ≡ b → Some u ≡ lookup (is_named x) (e ∷ es) → values_of names (set_value (is_named x) (e ∷ es) v) ≡ values_of names (e ∷ es)) [
    | true ↦ λ t h. let is : u ≡ e.1 = cc (rw t at h) in rw t (ap (λ d. (e.0.items, data_map (thing_at (named names)) d) ∷ values_of names es) (same ∙ ap contents is))
    | false ↦ λ t h. rw t (ap (λ vs. (e.0.items, plain (named names) e.1) ∷ vs) (values-kept x es u v (rw t at h) same))
  ]) refl found

  -- a name gets its first value, or a new one
  pub values-insert : (k : Vec ℕ Global) (es : Pairs) (v : Value) → values_of names (insert_entry (λ a b. bytes_eq a.items b.items) es k v) ≡ with_value k.items (plain (named names) v) (values_of names es)
  values-insert k [] v = refl
  values-insert k (e ∷ es) v = (elim (bytes_eq k.items e.0.items) as (λ b. bytes_eq k.items e.0.items ≡ b → values_of names (insert_entry (λ a b. bytes_eq a.items b.items) (e ∷ es) k v) ≡ with_value k.items (plain (named names) v) (values_of names (e ∷ es))) [
    | true ↦ λ t. rw t (ap (λ n. (n, plain (named names) v) ∷ values_of names es) (sym ((bytes_eq-Decides k.items e.0.items).0 t)))
    | false ↦ λ t. rw t (ap (λ vs. (e.0.items, plain (named names) e.1) ∷ vs) (values-insert k es v))
  ]) refl

  known-first : (e : Vec ℕ Global × Value) (es : Pairs) → AllKnown (named names) e.1 → AreKnownIn names es → AreKnownIn names (e ∷ es)
  known-first e es h all zero d within = h
  known-first e es h all (suc k) d within = all k d (omega (arith, within))

  known-rest : (e : Vec ℕ Global × Value) (es : Pairs) → AreKnownIn names (e ∷ es) → AreKnownIn names es
  known-rest e es all = λ k d within. all (suc k) d (omega (arith, within))

  -- the values are known after a variable got one
  pub known-set : (x : List ℕ) (es : Pairs) (v : Value) → AreKnownIn names es → AllKnown (named names) v → AreKnownIn names (set_value (is_named x) es v)
  known-set x [] v all h = all
  known-set x (e ∷ es) v all h = (elim (is_named x e.0) as (λ b. AreKnownIn names (cond b ((e.0, v) ∷ es) (e ∷ set_value (is_named x) es v))) [
    | true ↦ known-first (e.0, v) es h (known-rest e es all)
    | false ↦ known-first e (set_value (is_named x) es v) (all 0 e (omega arith)) (known-set x es v (known-rest e es all) h)
  ])

  -- the values are known after a name was put in
  pub known-insert : (k : Vec ℕ Global) (es : Pairs) (v : Value) → AreKnownIn names es → AllKnown (named names) v → AreKnownIn names (insert_entry (λ a b. bytes_eq a.items b.items) es k v)
  known-insert k [] v all h = known-first (k, v) [] h all
  known-insert k (e ∷ es) v all h = (elim (bytes_eq k.items e.0.items) as (λ b. AreKnownIn names (cond b ((e.0, v) ∷ es) (e ∷ insert_entry (λ a b. bytes_eq a.items b.items) es k v))) [
    | true ↦ known-first (e.0, v) es h (known-rest e es all)
    | false ↦ known-first e (insert_entry (λ a b. bytes_eq a.items b.items) es k v) (all 0 e (omega arith)) (known-insert k es v (known-rest e es all) h)
  ])

  -- the same, of the variables
  pub values-set_at : (x : List ℕ) (es : Pairs) (i : ℕ) (e : Vec ℕ Global × Value) (v : Value) → IsDistinct (λ (a b : Vec ℕ Global). bytes_eq a.items b.items) (keys_of es) → slice_get es i ≡ Some e → e.0.items ≡ x
      → values_of names (set_value_at es i v) ≡ with_value x (plain (named names) v) (values_of names es)
  values-set_at x es i e v distinct at is = ap (values_of names) (set-at es i e v distinct at) ∙ (values-insert e.0 es v ∙ ap (λ y. with_value y (plain (named names) v) (values_of names es)) is)

  -- the values are known after one at its place changed
  pub known-set_at : (es : Pairs) (i : ℕ) (e : Vec ℕ Global × Value) (v : Value) → IsDistinct (λ (a b : Vec ℕ Global). bytes_eq a.items b.items) (keys_of es) → slice_get es i ≡ Some e
      → AreKnownIn names es → AllKnown (named names) v → AreKnownIn names (set_value_at es i v)
  known-set_at es i e v distinct at all h = subst (AreKnownIn names) (sym (set-at es i e v distinct at)) (known-insert e.0 es v all h)

  -- an entry that is found by its place
  pub found_at : (x : List ℕ) (es : Pairs) (k : Vec ℕ Global) (o : Option Value) → lookup (is_named k.items) es ≡ o → k.items ≡ x → o ≡ lookup (is_named x) es
  found_at x es k o at is = sym at ∙ ap (λ y. lookup (is_named y) es) is

  -- the value that is found
  pub lookup-none : (x : List ℕ) (es : Pairs) → None ≡ lookup (is_named x) es → lookup (bytes_eq x) (values_of names es) ≡ None
  lookup-none x [] h = refl
  lookup-none x (e ∷ es) h = (elim (bytes_eq x e.0.items) as (λ b. bytes_eq x e.0.items ≡ b → None ≡ lookup (is_named x) (e ∷ es) → lookup (bytes_eq x) (values_of names (e ∷ es)) ≡ None) [
    | true ↦ λ t g. absurd (cc (rw t at g))
    | false ↦ λ t g. rw t (lookup-none x es (rw t at g))
  ]) refl h

  -- the value of a name
  pub lookup-some : (x : List ℕ) (es : Pairs) (v : Value) → Some v ≡ lookup (is_named x) es → lookup (bytes_eq x) (values_of names es) ≡ Some (plain (named names) v)
  lookup-some x [] v h = absurd (cc)
  lookup-some x (e ∷ es) v h = (elim (bytes_eq x e.0.items) as (λ b. bytes_eq x e.0.items ≡ b → Some v ≡ lookup (is_named x) (e ∷ es) → lookup (bytes_eq x) (values_of names (e ∷ es)) ≡ Some (plain (named names) v)) [
    | true ↦ λ t g. let same : v ≡ e.1 = cc (rw t at g) in rw t (ap (λ w. Some (plain (named names) w)) (sym same))
    | false ↦ λ t g. rw t (lookup-some x es v (rw t at g))
  ]) refl h

  -- the value of a name is known
  pub lookup-known : (x : List ℕ) (es : Pairs) (v : Value) → Some v ≡ lookup (is_named x) es → AreKnownIn names es → AllKnown (named names) v
  lookup-known x [] v h all = absurd (cc)
  lookup-known x (e ∷ es) v h all = (elim (bytes_eq x e.0.items) as (λ b. bytes_eq x e.0.items ≡ b → Some v ≡ lookup (is_named x) (e ∷ es) → AllKnown (named names) v) [
    | true ↦ λ t g. let same : v ≡ e.1 = cc (rw t at g) in subst (AllKnown (named names)) (sym same) (all 0 e (omega arith))
    | false ↦ λ t g. lookup-known x es v (rw t at g) (known-rest e es all)
  ]) refl h

  -- what a look-up gives
  pub found_as : (x : List ℕ) (es : Pairs) (o : Option (Bor Value)) → option_copied o ≡ lookup (is_named x) es
      → MatchOption o (lookup (bytes_eq x) (values_of names es) ≡ None) (λ v. lookup (bytes_eq x) (values_of names es) ≡ Some (plain (named names) v.now))
  found_as x es None h = lookup-none x es h
  found_as x es (Some v) h = lookup-some x es v.now h

  -- what a look-up gives is known
  pub known_as : (x : List ℕ) (es : Pairs) (o : Option (Bor Value)) → option_copied o ≡ lookup (is_named x) es → AreKnownIn names es → MatchOption o ⊤ (λ v. AllKnown (named names) v.now)
  known_as x es None h all = tt
  known_as x es (Some v) h all = lookup-known x es v.now h all

-- the variables over a later store
pub known_in_later : (a b : Known) (es : Pairs) → Keeps a b → AreKnownIn a es → AreKnownIn b es
known_in_later a b es kept known = λ k d within. known_later a b (get_or es k d).1 kept (known k d within)

-- the plain values over a later store
pub values_later : (a b : Known) (es : Pairs) → Keeps a b → AreKnownIn a es → values_of b es ≡ values_of a es
values_later a b [] kept is_known = refl
values_later a b (e ∷ es) kept is_known =
    ap₂ (λ (d : Plain) rest. (e.0.items, d) ∷ rest) (plain_later a b e.1 kept (is_known 0 e (omega arith))) (values_later a b es kept (λ k d within. is_known (suc k) d (omega (arith, within))))

-- the values are known after a call that may fail
pub known-after : {E : Type 0} (names : Known) (r : Result (Unit {0}) E) (es fs : Pairs) (v : Value) → OnOk r ((a : Known) → AreKnownIn a es → AllKnown (named a) v → AreKnownIn a fs) → OnErr r (fs ≡ es)
    → AreKnownIn names es → AllKnown (named names) v → AreKnownIn names fs
known-after names (Ok u) es fs v ok err all h = ok names all h
known-after names (Err e) es fs v ok err all h = subst (AreKnownIn names) (sym err) all
