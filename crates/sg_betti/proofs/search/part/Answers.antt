use Rattle.std.proofs.Common.{◌≡◌, ◌∷◌, ◌++◌, [], get_or, length, refl, sym, ap, ◌∙◌, arith, length-append}
use Rattle.std.specs.Prelude.{Contains}
use Rattle.std.proofs.lemmas.Bool.{false≢true}
use Rattle.std.proofs.lemmas.List.Elements.{Contains-get_or}
use Rattle.sg_betti.specs.Links.{IsLink}
use Rattle.sg_betti.proofs.SetLemmas.{among-end, among-passed, among-taken}
use Rattle.sg_betti.proofs.search.part.Goals as goal
use Rattle.sg_betti.proofs.search.part.Goals.{then-is_link+in_ok-push, else-is_link+in_ok-push-2}

pub is_link-requires-clause-second : goal.is_link-requires-clause-second
is_link-requires-clause-second c =
    c.requires.left (get_or c.args.left.now c.loop-other.other-index 0) (Contains-get_or c.args.left.now c.loop-other.other-index 0 c.loop-other-test.true)

pub loop-other-preserved : goal.loop-other-preserved
loop-other-preserved c =
    let xs = c.args.left.now in
    let i = c.loop-other.other-index in
    let x = get_or xs i 0 in
    let L = IsLink c.args.t.now c.args.n c.args.place in
    let inv = c.loop-other.invariant in
    elim c.if-is_link.branch [
      | then-is_link+in_ok-push w ↦
          let made : c.if-is_link.near.items ≡ c.loop-other.near.items ++ x ∷ [] = rw w.near-is w.in_ok-push.ensures.items in
          let kept : c.if-is_link.far.items ≡ c.loop-other.far.items = rw w.far-is refl in
          let linked = c.is_link.ensures.0 w.if-is_link.true in
          record {
            near = among-taken (Contains c.args.near.now.items) xs L i x c.loop-other.near.items c.if-is_link.near.items inv.near refl linked made;
            far = rw w.far-is (among-passed (Contains c.args.far.now.items) xs (λ j. ¬ L j) i x c.loop-other.far.items inv.far refl (λ not. not linked));
            count = omega (arith, ap length made, length-append c.loop-other.near.items (x ∷ []), ap length kept, inv.count);
          }
      | else-is_link+in_ok-push-2 w ↦
          let made : c.if-is_link.far.items ≡ c.loop-other.far.items ++ x ∷ [] = rw w.far-is w.in_ok-push-2.ensures.items in
          let kept : c.if-is_link.near.items ≡ c.loop-other.near.items = rw w.near-is refl in
          let not : ¬ L x = λ linked. false≢true (sym w.if-is_link.false ∙ c.is_link.ensures.1 linked) in
          record {
            near = rw w.near-is (among-passed (Contains c.args.near.now.items) xs L i x c.loop-other.near.items inv.near refl not);
            far = among-taken (Contains c.args.far.now.items) xs (λ j. ¬ L j) i x c.loop-other.far.items c.if-is_link.far.items inv.far refl not made;
            count = omega (arith, ap length made, length-append c.loop-other.far.items (x ∷ []), ap length kept, inv.count);
          }
    ]

pub returns-clause-near : goal.returns-clause-near
returns-clause-near c =
    let all : length c.args.left.now ≡ c.loop-other.other-index = omega (arith, c.loop-other-test.false, c.loop-other.auto.other-index-end) in
    among-end (Contains c.args.near.now.items) c.args.left.now (IsLink c.args.t.now c.args.n c.args.place) c.loop-other.other-index c.loop-other.near.items all c.loop-other.invariant.near

pub returns-clause-far : goal.returns-clause-far
returns-clause-far c =
    let all : length c.args.left.now ≡ c.loop-other.other-index = omega (arith, c.loop-other-test.false, c.loop-other.auto.other-index-end) in
    among-end (Contains c.args.far.now.items) c.args.left.now (λ j. ¬ IsLink c.args.t.now c.args.n c.args.place j) c.loop-other.other-index c.loop-other.far.items all c.loop-other.invariant.far
