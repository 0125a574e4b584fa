use Rattle.std.proofs.Common.{length, sym, ap, subst, ◌∙◌}
use Rattle.std.proofs.lemmas.Bool.{false≢true}
use Rattle.sg_factor.proofs.NoteLemmas.{read-row}
use Rattle.sg_tame.specs.Nearest.{IsNearRow, IsRowNear}
use Rattle.sg_tame.specs.Needed.{IsUsedMinimally}
use Rattle.sg_tame.proofs.LeastLemmas.{least-met, least-same}
use Rattle.sg_tame.proofs.degree.raised_to.Goals as goal

pub is_used_minimally-requires : goal.is_used_minimally-requires
is_used_minimally-requires c =
    let a = read-row c.args.rows.now c.args.from c.index-rows-from.result c.as_slice.result.now c.requires.from c.as_slice.ensures c.index-rows-from.is in
    ap length a ∙ c.requires.positive.places c.args.from c.requires.from

pub nearest-requires-clause-positive : goal.nearest-requires-clause-positive
nearest-requires-clause-positive c = (length c.args.t.now, c.requires.positive)

pub returns-then-not-is_used_minimally : goal.returns-then-not-is_used_minimally
returns-then-not-is_used_minimally c =
    let G = c.args.t.now in
    let rows = c.args.rows.now in
    let a = read-row rows c.args.from c.index-rows-from.result c.as_slice.result.now c.requires.from c.as_slice.ensures c.index-rows-from.is in
    least-met c.args.enough (IsRowNear G c.args.member rows c.args.place c.args.from)
    (λ N used. absurd (false≢true (sym c.if-not-is_used_minimally.true ∙ c.is_used_minimally.ensures.1 (subst (IsUsedMinimally G c.args.member) (sym a) used))))

pub returns : goal.returns
returns c =
    let G = c.args.t.now in
    let rows = c.args.rows.now in
    let a = read-row rows c.args.from c.index-rows-from.result c.as_slice.result.now c.requires.from c.as_slice.ensures c.index-rows-from.is in
    let used = subst (IsUsedMinimally G c.args.member) a (c.is_used_minimally.ensures.0 c.if-not-is_used_minimally.false) in
    least-same c.args.enough c.nearest.result (IsNearRow rows c.args.from c.args.place) (IsRowNear G c.args.member rows c.args.place c.args.from)
    (λ N near _. near) (λ N near. near used) c.nearest.ensures
