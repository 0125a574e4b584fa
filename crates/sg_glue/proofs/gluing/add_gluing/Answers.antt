use Rattle.std.proofs.Common.{◌<◌, List, ℕ, length, sym, subst, ◌∙◌, arith}
use Rattle.std.proofs.lemmas.Bool.{false≢true}
use Rattle.sg_glue.specs.Gluings.{AddsGluing, IsGcdOf}
use Rattle.sg_glue.proofs.GlueLemmas.{AreOthers, side, no-others, adds-one, adds-none, not-empty}
use Rattle.sg_glue.proofs.gluing.add_gluing.Goals as goal

pub returns-then-is_empty : goal.returns-then-is_empty
returns-then-is_empty c =
    let G = c.args.generators.now in
    let A = c.args.left in
    let B = c.in_ok-right.right in
    let others : AreOthers G A B = subst (λ (l : List ℕ). AreOthers G l B) c.as_slice.ensures c.in_ok-right.ensures.exactly in
    no-others G c.requires.semigroup A B c.requires.chosen c.in_ok-right.ensures.ascending others (c.is_empty.ensures.0 c.if-is_empty.true) c.args.list.now

pub meets-requires-clause-left : goal.meets-requires-clause-left
meets-requires-clause-left c =
    let G = c.args.generators.now in
    let d = c.common_divisor-d_left.result in
    side G c.args.left d c.requires.semigroup c.requires.small c.requires.chosen.among (omega (arith, c.requires.chosen.first.1))
    (subst (λ (l : List ℕ). IsGcdOf l d) c.as_slice-2.ensures c.common_divisor-d_left.ensures)

pub meets-requires-clause-right : goal.meets-requires-clause-right
meets-requires-clause-right c =
    let G = c.args.generators.now in
    let B = c.in_ok-right.right in
    let d = c.common_divisor-d_right.result in
    side G B d c.requires.semigroup c.requires.small (λ g h. ((c.in_ok-right.ensures.exactly g).0 h).0)
    (not-empty B (λ e. false≢true (sym c.if-is_empty.false ∙ c.is_empty.ensures.1 e)))
    (subst (λ (l : List ℕ). IsGcdOf l d) c.as_slice-3.ensures c.common_divisor-d_right.ensures)

pub returns-in_ok-push : goal.returns-in_ok-push
returns-in_ok-push c =
    let G = c.args.generators.now in
    let A = c.args.left in
    let B = c.in_ok-right.right in
    let dl = c.common_divisor-d_left.result in
    let dr = c.common_divisor-d_right.result in
    let others : AreOthers G A B = subst (λ (l : List ℕ). AreOthers G l B) c.as_slice.ensures c.in_ok-right.ensures.exactly in
    let gl : IsGcdOf A dl = subst (λ (l : List ℕ). IsGcdOf l dl) c.as_slice-2.ensures c.common_divisor-d_left.ensures in
    let gr : IsGcdOf B dr = subst (λ (l : List ℕ). IsGcdOf l dr) c.as_slice-3.ensures c.common_divisor-d_right.ensures in
    let some : 0 < length B = not-empty B (λ e. false≢true (sym c.if-is_empty.false ∙ c.is_empty.ensures.1 e)) in
    subst (AddsGluing G A c.args.list.now) (sym c.in_ok-push.ensures.ok)
    (adds-one G c.requires.semigroup A B c.requires.chosen c.in_ok-right.ensures.ascending others some dl dr gl gr (c.in_ok-meets.ensures.0 c.if-branch.true) c.args.list.now)

pub returns-else-branch : goal.returns-else-branch
returns-else-branch c =
    let G = c.args.generators.now in
    let A = c.args.left in
    let B = c.in_ok-right.right in
    let dl = c.common_divisor-d_left.result in
    let dr = c.common_divisor-d_right.result in
    let others : AreOthers G A B = subst (λ (l : List ℕ). AreOthers G l B) c.as_slice.ensures c.in_ok-right.ensures.exactly in
    let gl : IsGcdOf A dl = subst (λ (l : List ℕ). IsGcdOf l dl) c.as_slice-2.ensures c.common_divisor-d_left.ensures in
    let gr : IsGcdOf B dr = subst (λ (l : List ℕ). IsGcdOf l dr) c.as_slice-3.ensures c.common_divisor-d_right.ensures in
    let some : 0 < length B = not-empty B (λ e. false≢true (sym c.if-is_empty.false ∙ c.is_empty.ensures.1 e)) in
    adds-none G c.requires.semigroup A B c.requires.chosen c.in_ok-right.ensures.ascending others some dl dr gl gr (λ m. false≢true (sym c.if-branch.false ∙ c.in_ok-meets.ensures.1 m)) c.args.list.now
