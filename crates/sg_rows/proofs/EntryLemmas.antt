-- Lists of values from one entry on.
use Rattle.std.proofs.Common.{◌≡◌, ◌+◌, ◌<◌, ◌≤◌, ◌↔◌, ℕ, List, length, get_or, drop, inl, inr, ◌⊎◌, ap, sym, ◌∙◌, subst}
use Rattle.std.proofs.lemmas.List.{drop_more, drop_all}
use Rattle.sg_value.specs.Data.{item}
use Rattle.sg_value.specs.Plain.{Named, contents, contents_of_all, plain, plain_of_all, Plain}
use Rattle.sg_value.specs.declared.value.Value.{Value}
use Rattle.sg_rows.specs.Entries.{IsEntry}

-- the first of the entries from i on is entry i
pub contents_of_all-drop : (vs : List Value) (i : ℕ) (v : Value) → i < length vs → v ≡ get_or vs i v → contents_of_all (drop i vs) ≡ item (contents v) (contents_of_all (drop (i + 1) vs))
contents_of_all-drop vs i v within is = ap contents_of_all (drop_more vs i v within) ∙ ap (λ x. item (contents x) (contents_of_all (drop (i + 1) vs))) (sym is)

pub plain_of_all-drop : (names : Named) (vs : List Value) (i : ℕ) (v : Value) → i < length vs → v ≡ get_or vs i v → plain_of_all names (drop i vs) ≡ item (plain names v) (plain_of_all names (drop (i + 1) vs))
plain_of_all-drop names vs i v within is = ap (plain_of_all names) (drop_more vs i v within) ∙ ap (λ x. item (plain names x) (plain_of_all names (drop (i + 1) vs))) (sym is)

module _ (names : Named) (d : Plain) (vs : List Value) (i : ℕ) (v : Value) (within : i < length vs) (is : v ≡ get_or vs i v)
    (so_far : IsEntry d (plain_of_all names (drop i vs)) ↔ IsEntry d (plain_of_all names vs)) where
  -- the entry at i is the one that is looked for
  pub entry_found : d ≡ plain names v → IsEntry d (plain_of_all names vs)
  entry_found e = so_far.0 (subst (IsEntry d) (sym (plain_of_all-drop names vs i v within is)) (inl e))

  -- it is not
  pub entry_passed : (d ≡ plain names v → ⊥) → IsEntry d (plain_of_all names (drop (i + 1) vs)) ↔ IsEntry d (plain_of_all names vs)
  entry_passed differs = ((λ h. so_far.0 (subst (IsEntry d) (sym (plain_of_all-drop names vs i v within is)) (inr h))), (λ h. by (subst (IsEntry d) (plain_of_all-drop names vs i v within is) (so_far.1 h))))
    where
      by : (d ≡ plain names v) ⊎ IsEntry d (plain_of_all names (drop (i + 1) vs)) → IsEntry d (plain_of_all names (drop (i + 1) vs))
      by (inl e) = absurd (differs e)
      by (inr h) = h

-- no entry is left
pub entry_absent : (names : Named) (d : Plain) (vs : List Value) (i : ℕ) → length vs ≤ i → (IsEntry d (plain_of_all names (drop i vs)) ↔ IsEntry d (plain_of_all names vs)) → IsEntry d (plain_of_all names vs) → ⊥
entry_absent names d vs i past so_far h = subst (λ xs. IsEntry d (plain_of_all names xs)) (drop_all i vs past) (so_far.1 h)
