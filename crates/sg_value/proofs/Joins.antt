-- Entries behind other entries: what they weigh, and how deep they are.
use Rattle.std.proofs.Common.{◌≡◌, ◌+◌, max, List, [], ◌∷◌, ◌++◌, refl, ap, arith}
use Rattle.sg_value.specs.Data.{Kind, Data, Items, none, item, join, weight_of_all, depth_of_all}
use Rattle.sg_value.specs.Plain.{contents, contents_of_all}
use Rattle.sg_value.specs.declared.value.Value.{Value}

-- values behind values
pub contents_of_all-append : (vs ws : List Value) → contents_of_all (vs ++ ws) ≡ join (contents_of_all vs) (contents_of_all ws)
contents_of_all-append [] ws = refl
contents_of_all-append (v ∷ vs) ws = ap (item (contents v)) (contents_of_all-append vs ws)

-- none behind entries
pub join-none : {H : Kind → Type 0} (ds : Items H) → join ds none ≡ ds
join-none none = refl
join-none (item d ds) = ap (item d) (join-none ds)

-- three lists of entries
pub join-assoc : {H : Kind → Type 0} (ds es fs : Items H) → join (join ds es) fs ≡ join ds (join es fs)
join-assoc none es fs = refl
join-assoc (item d ds) es fs = ap (item d) (join-assoc ds es fs)

-- one entry between two lists of entries
pub join-one : {H : Kind → Type 0} (ds : Items H) (d : Data H) (es : Items H) → join (join ds (item d none)) es ≡ join ds (item d es)
join-one ds d es = join-assoc ds (item d none) es

-- the weights are added
pub weight-join : {H : Kind → Type 0} (ds es : Items H) → weight_of_all (join ds es) ≡ weight_of_all ds + weight_of_all es
weight-join none es = omega arith
weight-join (item d ds) es = omega (arith, weight-join ds es)

-- the greater depth stays
pub depth-join : {H : Kind → Type 0} (ds es : Items H) → depth_of_all (join ds es) ≡ max (depth_of_all ds) (depth_of_all es)
depth-join none es = omega arith
depth-join (item d ds) es = omega (arith, depth-join ds es)
