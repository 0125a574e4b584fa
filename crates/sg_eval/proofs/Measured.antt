-- Lists that are asked for, and the limits on them.
use Rattle.std.proofs.Common.{◌≡◌, ◌<◌, ◌≤◌, ◌^◌, ◌-◌, ℕ, min, List, Ok, Err, refl, ap, sym, ◌∙◌, subst, arith, []}
use Rattle.sg_value.specs.Known.{Known, named}
use Rattle.sg_value.specs.Data.{list, items_map, depth_of, depth_of_all, weight_of, weight_of_all, EachThingOfAll}
use Rattle.sg_value.specs.Plain.{AllKnownIn, IsKnown, Entries, contents_of_all, plain_of_all, thing_at}
use Rattle.sg_value.specs.declared.limits.TheConstants.{NESTING_LIMIT, WEIGHT_LIMIT}
use Rattle.sg_value.specs.declared.value.Value.{Value}
use Rattle.sg_value.specs.declared.value.Value.TheVariants as value
use Rattle.sg_rows.specs.Order.{Row, Case, fits}
use Rattle.sg_rows.specs.Values.{answers}
use Rattle.sg_rows.specs.Replies.{Replies}
use Rattle.sg_rows.specs.declared.fault.Fault.TheVariants.{Depth, TooLarge}
use Rattle.sg_rows.specs.declared.fault.CallFault.TheVariants.{Script}
use Rattle.sg_rows.proofs.Replying.{answers_pass}
use Rattle.sg_rows.proofs.Measures.{depth_of_all-map, weight_of_all-map, replies_list, replies_deep, replies_heavy}

-- the row of the list of these entries, and what is asked of it
abbrev pub row_of : Known → List Value → Row
row_of names vs = answers (λ d. d ≡ list (plain_of_all (named names) vs))

-- what is asked of that list
abbrev pub listing : Known → List Value → Case
listing names vs = fits [] (row_of names vs)

-- the entries of a list of values, with the depth and the weight that were measured
module _ (names : Known) (vs : List Value) (ds : Entries) (is : ds ≡ contents_of_all vs) where
  same_depth : depth_of_all (plain_of_all (named names) vs) ≡ depth_of_all ds
  same_depth = depth_of_all-map (thing_at (named names)) (contents_of_all vs) ∙ ap depth_of_all (sym is)

  same_weight : weight_of_all (plain_of_all (named names) vs) ≡ weight_of_all ds
  same_weight = weight_of_all-map (thing_at (named names)) (contents_of_all vs) ∙ ap weight_of_all (sym is)

  -- it nests too deep
  pub too_deep : (n : ℕ) → n ≡ min (depth_of (list ds)) (2 ^ 64 - 1) → NESTING_LIMIT < n → Replies (Err (Script Depth)) names (listing names vs)
  too_deep n is_n deep =
      let e = same_depth in
      replies_deep names (row_of names vs) (plain_of_all (named names) vs) (answers_pass (λ d. d ≡ list (plain_of_all (named names) vs))) refl (omega (arith, e, is_n, deep))

  -- it is too heavy
  pub too_heavy : (n k : ℕ) → n ≡ min (depth_of (list ds)) (2 ^ 64 - 1) → n ≤ NESTING_LIMIT → k ≡ min (weight_of (list ds)) (2 ^ 64 - 1) → WEIGHT_LIMIT < k → Replies (Err (Script TooLarge)) names (listing names vs)
  too_heavy n k is_n shallow is_k heavy =
      let e = same_depth in
      let w = same_weight in
      replies_heavy names (row_of names vs) (plain_of_all (named names) vs) (answers_pass (λ d. d ≡ list (plain_of_all (named names) vs))) refl (omega (arith, e, is_n, shallow)) (omega (arith, w, is_k, heavy))

  -- it is within the limits
  pub within_limits : (n k : ℕ) → n ≡ min (depth_of (list ds)) (2 ^ 64 - 1) → n ≤ NESTING_LIMIT → k ≡ min (weight_of (list ds)) (2 ^ 64 - 1) → k ≤ WEIGHT_LIMIT → AllKnownIn (named names) vs → Replies (Ok (value.List ds)) names (listing names vs)
  within_limits n k is_n shallow is_k light is_known =
      let e = same_depth in
      let w = same_weight in
      replies_list names (row_of names vs) (plain_of_all (named names) vs) ds (answers_pass (λ d. d ≡ list (plain_of_all (named names) vs))) refl (ap (items_map (thing_at (named names))) is)
      (omega (arith, e, is_n, shallow)) (omega (arith, w, is_k, light)) (subst (EachThingOfAll (IsKnown (named names))) (sym is) is_known)
