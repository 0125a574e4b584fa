use Rattle.std.proofs.Common.{◌≡◌, get_or, sym, ap, ◌∙◌}
use Rattle.std.proofs.lemmas.Bool.{false≢true, lt-leb}
use Rattle.sg_betti.proofs.SearchLemmas.{vertex-none, vertex-test}
use Rattle.sg_betti.proofs.search.is_vertex.Goals as goal

pub returns-then-generator-n : goal.returns-then-generator-n
returns-then-generator-n c =
    let G = c.args.t.now in
    let g = get_or c.as_slice-generators.result.now c.args.place 0 in
    let same : g ≡ get_or G c.args.place 0 = ap (λ l. get_or l c.args.place 0) (c.as_slice-generators.ensures ∙ c.generators.ensures.same) in
    let test = vertex-test G c.args.n c.args.place g c.requires same c.if-generator-n.true in
    ((λ h. test.0 (c.contains_natural.ensures.0 h)), (λ v. c.contains_natural.ensures.1 (test.1 v)))

pub returns-else-generator-n : goal.returns-else-generator-n
returns-else-generator-n c =
    let G = c.args.t.now in
    let g = get_or c.as_slice-generators.result.now c.args.place 0 in
    let same : g ≡ get_or G c.args.place 0 = ap (λ l. get_or l c.args.place 0) (c.as_slice-generators.ensures ∙ c.generators.ensures.same) in
    ((λ h. absurd (false≢true (sym (lt-leb g c.args.n c.if-generator-n.false) ∙ h))), (λ v. absurd (vertex-none G c.args.n c.args.place g c.requires same c.if-generator-n.false v)))
