-- Lists of integers among values.
use Rattle.std.proofs.Common.{◌≡◌, ◌+◌, ◌<◌, ◌≤◌, ℕ, suc, ℤ, List, [], ◌∷◌, ◌++◌, length, get_or, drop, Option, Some, None, refl, ap, sym, ◌∙◌, append_assoc, append-nil}
use Rattle.std.specs.Option.{option_map}
use Rattle.std.proofs.lemmas.List.{drop_all}
use Rattle.sg_value.specs.Plain.{Named, contents, contents_of_all, plain_of_all}
use Rattle.sg_value.specs.declared.value.Value.{Value}
use Rattle.sg_rows.specs.Kinds.{integers, as_integer, prepended}
use Rattle.sg_rows.specs.Entries.{entry_count}
use Rattle.sg_rows.proofs.EntryLemmas.{contents_of_all-drop}

-- these in front, where there are the others
abbrev pub behind : List ℤ → Option (List ℤ) → Option (List ℤ)
behind zs o = option_map (λ ys. zs ++ ys) o

pub behind-none : (o : Option (List ℤ)) → behind [] o ≡ o
behind-none None = refl
behind-none (Some zs) = refl

pub behind-more : (zs : List ℤ) (z : ℤ) (o : Option (List ℤ)) → behind (zs ++ z ∷ []) o ≡ behind zs (prepended (Some z) o)
behind-more zs z None = refl
behind-more zs z (Some ys) = ap Some (append_assoc zs (z ∷ []) ys)

module _ (vs : List Value) (zs : List ℤ) (i : ℕ) (v : Value) (within : i < length vs) (is : v ≡ get_or vs i v)
    (so_far : integers (contents_of_all vs) ≡ behind zs (integers (contents_of_all (drop i vs)))) where
  next : integers (contents_of_all vs) ≡ behind zs (prepended (as_integer (contents v)) (integers (contents_of_all (drop (i + 1) vs))))
  next = so_far ∙ ap (λ ds. behind zs (integers ds)) (contents_of_all-drop vs i v within is)

  -- entry i is no integer
  pub integers_missed : as_integer (contents v) ≡ None → None ≡ integers (contents_of_all vs)
  integers_missed h = sym (next ∙ ap (λ o. behind zs (prepended o (integers (contents_of_all (drop (i + 1) vs))))) h)

  -- it is one
  pub integers_more : (z : ℤ) → as_integer (contents v) ≡ Some z → integers (contents_of_all vs) ≡ behind (zs ++ z ∷ []) (integers (contents_of_all (drop (i + 1) vs)))
  integers_more z h = next ∙ (ap (λ o. behind zs (prepended o (integers (contents_of_all (drop (i + 1) vs))))) h ∙ sym (behind-more zs z (integers (contents_of_all (drop (i + 1) vs)))))

-- no entry is left
pub integers_all : (vs : List Value) (zs : List ℤ) (i : ℕ) → length vs ≤ i → integers (contents_of_all vs) ≡ behind zs (integers (contents_of_all (drop i vs))) → Some zs ≡ integers (contents_of_all vs)
integers_all vs zs i past so_far = sym (so_far ∙ (ap (λ ws. behind zs (integers (contents_of_all ws))) (drop_all i vs past) ∙ ap Some (append-nil zs)))

-- what is plain has as many entries
pub entry_count-plain : (names : Named) (vs : List Value) → entry_count (plain_of_all names vs) ≡ length vs
entry_count-plain names [] = refl
entry_count-plain names (v ∷ vs) = ap suc (entry_count-plain names vs)
