-- How large plain lists are, and lists as replies.
use Rattle.std.proofs.Common.{◌≡◌, ◌<◌, ◌≤◌, ◌+◌, suc, max, Ok, Err, inl, inr, refl, ap, ap₂, sym, ◌∙◌, subst, arith}
use Rattle.sg_value.specs.Known.{Known, named}
use Rattle.sg_value.specs.Data.{Data, list, Items, none, item, data_map, items_map, depth_of, depth_of_all, weight_of, weight_of_all, EachThing, Kind, EachThingOfAll}
use Rattle.sg_value.specs.Plain.{IsKnown, plain, thing_at, Things, Entries}
use Rattle.sg_value.specs.declared.limits.TheConstants.{NESTING_LIMIT, WEIGHT_LIMIT}
use Rattle.sg_value.specs.declared.value.Value.TheVariants as value
use Rattle.sg_rows.specs.Order.{Row, IsReplyOf, Passes}
use Rattle.sg_rows.specs.Replies.{RepliesOf}
use Rattle.sg_rows.specs.declared.fault.Fault.TheVariants.{Depth, TooLarge}
use Rattle.sg_rows.specs.declared.fault.CallFault.TheVariants.{Script}
use Rattle.sg_rows.proofs.Replying.{delivered}
use Rattle.sg_rows.proofs.Listing.{contents-List}

mutual
  pub depth_of-map : {H K : Kind → Type 0} (f : (k : Kind) → H k → K k) (d : Data H) → depth_of (data_map f d) ≡ depth_of d
  depth_of-map f (list ds) = ap suc (depth_of_all-map f ds)
  depth_of-map f _ = refl

  pub depth_of_all-map : {H K : Kind → Type 0} (f : (k : Kind) → H k → K k) (ds : Items H) → depth_of_all (items_map f ds) ≡ depth_of_all ds
  depth_of_all-map f none = refl
  depth_of_all-map f (item d ds) = ap₂ max (depth_of-map f d) (depth_of_all-map f ds)

mutual
  pub weight_of-map : {H K : Kind → Type 0} (f : (k : Kind) → H k → K k) (d : Data H) → weight_of (data_map f d) ≡ weight_of d
  weight_of-map f (list ds) = ap suc (weight_of_all-map f ds)
  weight_of-map f _ = refl

  pub weight_of_all-map : {H K : Kind → Type 0} (f : (k : Kind) → H k → K k) (ds : Items H) → weight_of_all (items_map f ds) ≡ weight_of_all ds
  weight_of_all-map f none = refl
  weight_of_all-map f (item d ds) = ap₂ (λ m n. m + n) (weight_of-map f d) (weight_of_all-map f ds)

-- a list as the reply, where it is within the limits
pub replies_list : (store : Known) (row : Row) (ds : Items Things) (es : Entries) → Passes row → row.value (list ds) → items_map (thing_at (named store)) es ≡ ds
    → depth_of_all ds < NESTING_LIMIT → weight_of_all ds < WEIGHT_LIMIT → EachThingOfAll (IsKnown (named store)) es → RepliesOf (Ok (value.List es)) store row
replies_list store row ds es passes h is shallow light known =
    let seen : plain (named store) (value.List es) ≡ list ds = ap (data_map (thing_at (named store))) (contents-List es) ∙ ap list is in (
      subst (λ d. IsReplyOf row (Ok d)) (sym seen) (delivered row (list ds) (Ok (list ds)) passes h (inr ((λ f. f tt), inr ((λ deep. absurd (omega (arith, shallow, deep))), inr ((λ heavy. absurd (omega (arith, light, heavy))), refl))))),
      subst (EachThing (IsKnown (named store))) (sym (contents-List es)) known,
    )

-- the list nests too deep
pub replies_deep : (store : Known) (row : Row) (ds : Items Things) → Passes row → row.value (list ds) → NESTING_LIMIT ≤ depth_of_all ds → RepliesOf (Err (Script Depth)) store row
replies_deep store row ds passes h deep = delivered row (list ds) (Err Depth) passes h (inr ((λ f. f tt), inl (omega (arith, deep), refl)))

-- the list is too heavy
pub replies_heavy : (store : Known) (row : Row) (ds : Items Things) → Passes row → row.value (list ds) → depth_of_all ds < NESTING_LIMIT → WEIGHT_LIMIT ≤ weight_of_all ds → RepliesOf (Err (Script TooLarge)) store row
replies_heavy store row ds passes h shallow heavy =
    delivered row (list ds) (Err TooLarge) passes h (inr ((λ f. f tt), inr ((λ deep. absurd (omega (arith, shallow, deep))), inl (omega (arith, heavy), refl))))
