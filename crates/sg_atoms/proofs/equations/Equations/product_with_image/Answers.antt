use Rattle.std.proofs.Common.{[], length, get_or, sym, ap, subst, ◌∙◌}
use Rattle.std.proofs.lemmas.Int.{to_z-of_z}
use mir.Syntax.{w64}
use Rattle.sg_atoms.specs.Matrices.{rows_of, AreWithin, IsMatrix, weighted}
use Rattle.sg_atoms.proofs.ProductLemmas.{read-row, row-long, row-small, weighted-image}
use Rattle.sg_atoms.proofs.equations.Equations.product_with_image.Goals as goal

pub weight-requires-clause-places : goal.weight-requires-clause-places
weight-requires-clause-places c =
    let G = c.args.self.now in
    let row = read-row G c.self.inside.columns c.self.inside.products c.as_slice.result.now c.index-as_slice-place.result c.as_slice-2.result.now c.args.place c.self.view_is c.self.invariant.0 c.self.invariant.1 c.as_slice.ensures c.index-as_slice-place.is c.as_slice-2.ensures c.requires.place in
    ap length row ∙ row-long G (subst IsMatrix c.self.view_is c.self.invariant.0) c.args.place c.requires.place ∙ sym c.requires.places

pub weight-requires-clause-small : goal.weight-requires-clause-small
weight-requires-clause-small c =
    let G = c.args.self.now in
    let row = read-row G c.self.inside.columns c.self.inside.products c.as_slice.result.now c.index-as_slice-place.result c.as_slice-2.result.now c.args.place c.self.view_is c.self.invariant.0 c.self.invariant.1 c.as_slice.ensures c.index-as_slice-place.is c.as_slice-2.ensures c.requires.place in
    subst (AreWithin 34359738368) (sym row) (row-small G (subst IsMatrix c.self.view_is c.self.invariant.0) c.args.place c.requires.place)

pub returns : goal.returns
returns c =
    let G = c.args.self.now in
    let row = read-row G c.self.inside.columns c.self.inside.products c.as_slice.result.now c.index-as_slice-place.result c.as_slice-2.result.now c.args.place c.self.view_is c.self.invariant.0 c.self.invariant.1 c.as_slice.ensures c.index-as_slice-place.is c.as_slice-2.ensures c.requires.place in
    to_z-of_z w64 c.weight.result (record { sfits = c.weight.type_inv })
    ∙ c.weight.ensures ∙ ap (λ l. weighted l c.args.p.now) row
    ∙ weighted-image (rows_of G) G c.args.p.now (get_or G c.args.place []) (subst IsMatrix c.self.view_is c.self.invariant.0).shape
