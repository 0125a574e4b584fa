-- Values over one store, also as it grows.
use Rattle.std.proofs.Common.{◌≡◌, ℕ, Option, Some, None, IsSome, is_some, unwrap_or, refl, ap, ap₂, sym, ◌∙◌}
use Rattle.sg_value.specs.Data.{Kind, semigroups, ideals, int, truth, text, list, ratio, fail, semigroup, ideal, Items, none, item, data_map, items_map, EachThing, EachThingOfAll}
use Rattle.sg_value.specs.Plain.{Named, Places, Stored, IsKnown, nothing, thing_at, AreDistinct, IsKept}

known_at : {A : Type 0} (o : Option A) (a : A) → IsSome o → o ≡ Some (unwrap_or o a)
known_at None a known = absurd (cc)
known_at (Some b) a known = refl

thing_at-kept : (old new : Named) → IsKept old new → (k : Kind) (i : ℕ) → IsKnown old k i → IsKnown new k i × (thing_at new k i ≡ thing_at old k i)
thing_at-kept old new kept k i known =
    let same : new k i ≡ Some (thing_at old k i) = kept k i (thing_at old k i) (known_at (old k i) (nothing k) known) in
    (ap is_some same, ap (λ o. unwrap_or o (nothing k)) same)

mutual
  -- data keeps its things as the known places grow in number
  pub data_map-kept : (old new : Named) → IsKept old new → (d : Stored) → EachThing (IsKnown old) d
      → EachThing (IsKnown new) d × (data_map (thing_at new) d ≡ data_map (thing_at old) d)
  data_map-kept old new kept (int z) known = (tt, refl)
  data_map-kept old new kept (truth b) known = (tt, refl)
  data_map-kept old new kept (text bs) known = (tt, refl)
  data_map-kept old new kept (list ds) known =
      let rest = items_map-kept old new kept ds known in
      (rest.0, ap list rest.1)
  data_map-kept old new kept (ratio p q) known = (tt, refl)
  data_map-kept old new kept fail known = (tt, refl)
  data_map-kept old new kept (semigroup i) known =
      let here = thing_at-kept old new kept semigroups i known in
      (here.0, ap semigroup here.1)
  data_map-kept old new kept (ideal i) known =
      let here = thing_at-kept old new kept ideals i known in
      (here.0, ap ideal here.1)

  items_map-kept : (old new : Named) → IsKept old new → (ds : Items Places) → EachThingOfAll (IsKnown old) ds
      → EachThingOfAll (IsKnown new) ds × (items_map (thing_at new) ds ≡ items_map (thing_at old) ds)
  items_map-kept old new kept none known = (tt, refl)
  items_map-kept old new kept (item d ds) known =
      let first = data_map-kept old new kept d known.0 in
      let rest = items_map-kept old new kept ds known.1 in
      ((first.0, rest.0), ap₂ item first.1 rest.1)

-- different known places of a kind stand for different things
thing_at-same : (names : Named) → AreDistinct names → (k : Kind) (i j : ℕ) → IsKnown names k i → IsKnown names k j → thing_at names k i ≡ thing_at names k j → i ≡ j
thing_at-same names distinct k i j known_i known_j same =
    distinct k i j (thing_at names k i) (known_at (names k i) (nothing k) known_i) (known_at (names k j) (nothing k) known_j ∙ ap Some (sym same))

mutual
  -- data with the same things has the same places
  pub data_map-same : (names : Named) → AreDistinct names → (d e : Stored) → EachThing (IsKnown names) d → EachThing (IsKnown names) e
      → data_map (thing_at names) d ≡ data_map (thing_at names) e → d ≡ e
  data_map-same names distinct (int z) (int y) known_d known_e same = cc
  data_map-same names distinct (int z) (truth c) known_d known_e same = cc
  data_map-same names distinct (int z) (text cs) known_d known_e same = cc
  data_map-same names distinct (int z) (list es) known_d known_e same = cc
  data_map-same names distinct (int z) (ratio r s) known_d known_e same = cc
  data_map-same names distinct (int z) fail known_d known_e same = cc
  data_map-same names distinct (int z) (semigroup j) known_d known_e same = cc
  data_map-same names distinct (int z) (ideal j) known_d known_e same = cc
  data_map-same names distinct (truth b) (int y) known_d known_e same = cc
  data_map-same names distinct (truth b) (truth c) known_d known_e same = cc
  data_map-same names distinct (truth b) (text cs) known_d known_e same = cc
  data_map-same names distinct (truth b) (list es) known_d known_e same = cc
  data_map-same names distinct (truth b) (ratio r s) known_d known_e same = cc
  data_map-same names distinct (truth b) fail known_d known_e same = cc
  data_map-same names distinct (truth b) (semigroup j) known_d known_e same = cc
  data_map-same names distinct (truth b) (ideal j) known_d known_e same = cc
  data_map-same names distinct (text bs) (int y) known_d known_e same = cc
  data_map-same names distinct (text bs) (truth c) known_d known_e same = cc
  data_map-same names distinct (text bs) (text cs) known_d known_e same = cc
  data_map-same names distinct (text bs) (list es) known_d known_e same = cc
  data_map-same names distinct (text bs) (ratio r s) known_d known_e same = cc
  data_map-same names distinct (text bs) fail known_d known_e same = cc
  data_map-same names distinct (text bs) (semigroup j) known_d known_e same = cc
  data_map-same names distinct (text bs) (ideal j) known_d known_e same = cc
  data_map-same names distinct (list ds) (int y) known_d known_e same = cc
  data_map-same names distinct (list ds) (truth c) known_d known_e same = cc
  data_map-same names distinct (list ds) (text cs) known_d known_e same = cc
  data_map-same names distinct (list ds) (list es) known_d known_e same = ap list (items_map-same names distinct ds es known_d known_e (cc))
  data_map-same names distinct (list ds) (ratio r s) known_d known_e same = cc
  data_map-same names distinct (list ds) fail known_d known_e same = cc
  data_map-same names distinct (list ds) (semigroup j) known_d known_e same = cc
  data_map-same names distinct (list ds) (ideal j) known_d known_e same = cc
  data_map-same names distinct (ratio p q) (int y) known_d known_e same = cc
  data_map-same names distinct (ratio p q) (truth c) known_d known_e same = cc
  data_map-same names distinct (ratio p q) (text cs) known_d known_e same = cc
  data_map-same names distinct (ratio p q) (list es) known_d known_e same = cc
  data_map-same names distinct (ratio p q) (ratio r s) known_d known_e same = cc
  data_map-same names distinct (ratio p q) fail known_d known_e same = cc
  data_map-same names distinct (ratio p q) (semigroup j) known_d known_e same = cc
  data_map-same names distinct (ratio p q) (ideal j) known_d known_e same = cc
  data_map-same names distinct fail (int y) known_d known_e same = cc
  data_map-same names distinct fail (truth c) known_d known_e same = cc
  data_map-same names distinct fail (text cs) known_d known_e same = cc
  data_map-same names distinct fail (list es) known_d known_e same = cc
  data_map-same names distinct fail (ratio r s) known_d known_e same = cc
  data_map-same names distinct fail fail known_d known_e same = refl
  data_map-same names distinct fail (semigroup j) known_d known_e same = cc
  data_map-same names distinct fail (ideal j) known_d known_e same = cc
  data_map-same names distinct (semigroup i) (int y) known_d known_e same = cc
  data_map-same names distinct (semigroup i) (truth c) known_d known_e same = cc
  data_map-same names distinct (semigroup i) (text cs) known_d known_e same = cc
  data_map-same names distinct (semigroup i) (list es) known_d known_e same = cc
  data_map-same names distinct (semigroup i) (ratio r s) known_d known_e same = cc
  data_map-same names distinct (semigroup i) fail known_d known_e same = cc
  data_map-same names distinct (semigroup i) (semigroup j) known_d known_e same = ap semigroup (thing_at-same names distinct semigroups i j known_d known_e (cc))
  data_map-same names distinct (semigroup i) (ideal j) known_d known_e same = cc
  data_map-same names distinct (ideal i) (int y) known_d known_e same = cc
  data_map-same names distinct (ideal i) (truth c) known_d known_e same = cc
  data_map-same names distinct (ideal i) (text cs) known_d known_e same = cc
  data_map-same names distinct (ideal i) (list es) known_d known_e same = cc
  data_map-same names distinct (ideal i) (ratio r s) known_d known_e same = cc
  data_map-same names distinct (ideal i) fail known_d known_e same = cc
  data_map-same names distinct (ideal i) (semigroup j) known_d known_e same = cc
  data_map-same names distinct (ideal i) (ideal j) known_d known_e same = ap ideal (thing_at-same names distinct ideals i j known_d known_e (cc))

  items_map-same : (names : Named) → AreDistinct names → (ds es : Items Places) → EachThingOfAll (IsKnown names) ds → EachThingOfAll (IsKnown names) es
      → items_map (thing_at names) ds ≡ items_map (thing_at names) es → ds ≡ es
  items_map-same names distinct none none known_d known_e same = refl
  items_map-same names distinct none (item e es) known_d known_e same = cc
  items_map-same names distinct (item d ds) none known_d known_e same = cc
  items_map-same names distinct (item d ds) (item e es) known_d known_e same =
      ap₂ item (data_map-same names distinct d e known_d.0 known_e.0 (cc)) (items_map-same names distinct ds es known_d.1 known_e.1 (cc))
