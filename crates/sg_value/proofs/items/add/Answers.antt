use Rattle.std.proofs.Common.{◌≡◌, ◌-◌, ◌^◌, min, arith, ◌∙◌, ap}
use Rattle.sg_value.specs.Data.{weight_of_all, depth_of_all}
use Rattle.sg_value.specs.Plain.{contents_of_all}
use Rattle.sg_value.proofs.Joins.{contents_of_all-append, weight-join, depth-join}
use Rattle.sg_value.proofs.items.add.Goals as goal

pub returns-clause-measured : goal.returns-clause-measured
returns-clause-measured c =
    let xs = c.args.node.now.entries.items in
    let ys = c.args.more.items in
    record {
      weight =
          let e = weight-join (contents_of_all xs) (contents_of_all ys) in
          let w : c.total_weight-heavier.result ≡ min (weight_of_all (contents_of_all ys)) (2 ^ 64 - 1)
          = c.total_weight-heavier.ensures ∙ ap (λ s. min (weight_of_all (contents_of_all s)) (2 ^ 64 - 1)) c.as_slice.ensures.value in
          rw (c.in_ok-append.ensures.items, contents_of_all-append xs ys, c.saturating_add-node.ensures, w, c.requires.measured.weight, e) (omega arith);
      depth =
          let e = depth-join (contents_of_all xs) (contents_of_all ys) in
          let d : c.greatest_depth-deep.result ≡ min (depth_of_all (contents_of_all ys)) (2 ^ 64 - 1)
          = c.greatest_depth-deep.ensures ∙ ap (λ s. min (depth_of_all (contents_of_all s)) (2 ^ 64 - 1)) c.as_slice-2.ensures.value in
          rw (c.in_ok-append.ensures.items, contents_of_all-append xs ys, c.max-node.ensures, d, c.requires.measured.depth, e) (omega arith);
    }

pub returns-clause-ok : goal.returns-clause-ok
returns-clause-ok c = rw c.in_ok-append.ensures.items (contents_of_all-append c.args.node.now.entries.items c.args.more.items)
