use Rattle.std.proofs.Common.{◌≡◌, ◌+◌, ◌-◌, get_or, length, sym, ap, subst, ◌∙◌, arith}
use Rattle.std.proofs.lemmas.Bool.{false≢true}
use Rattle.sg_defs.specs.Membership.{IsMember}
use Rattle.sg_tame.specs.Nearest.{AreNearAt, AreRowsNear}
use Rattle.sg_tame.proofs.LeastLemmas.{least-met, least-same}
use Rattle.sg_tame.proofs.RowLemmas.{have-positive, near-from_rows, rows-from_near}
use Rattle.sg_tame.proofs.degree.raised_at.Goals as goal

pub bounds-as_slice-place : goal.bounds-as_slice-place
bounds-as_slice-place c = omega (arith, c.requires.place, ap length (c.as_slice.ensures ∙ c.generators.ensures.same))

pub overflow_sub-v : goal.overflow_sub-v
overflow_sub-v c = let low = c.is_lowered.ensures.0 c.if-not-is_lowered.false in omega (arith, low.1)

pub raised_from-requires : goal.raised_from-requires
raised_from-requires c =
    let G = c.args.t.now in
    let v = c.args.v in
    let i = c.args.place in
    let g = get_or c.as_slice.result.now i 0 in
    let same : g ≡ get_or G i 0 = ap (λ xs. get_or xs i 0) (c.as_slice.ensures ∙ c.generators.ensures.same) in
    let low = c.is_lowered.ensures.0 c.if-not-is_lowered.false in
    let rest : low.0 ≡ v - g = omega (arith, low.1) in
    have-positive G v i (v - g) c.args.rows.now c.requires.rows c.requires.place (subst (IsMember G) rest low.2) (omega (arith, low.1, same))

pub returns-then-not-is_lowered : goal.returns-then-not-is_lowered
returns-then-not-is_lowered c =
    let G = c.args.t.now in
    let v = c.args.v in
    let i = c.args.place in
    let g = get_or c.as_slice.result.now i 0 in
    let same : g ≡ get_or G i 0 = ap (λ xs. get_or xs i 0) (c.as_slice.ensures ∙ c.generators.ensures.same) in
    least-met c.args.enough (AreNearAt G v i)
    (λ N z m e. absurd (false≢true (sym c.if-not-is_lowered.true ∙ c.is_lowered.ensures.1 (m.rest, omega (arith, m.value, e, same), m.member))))

pub returns : goal.returns
returns c =
    let G = c.args.t.now in
    let v = c.args.v in
    let i = c.args.place in
    let rows = c.args.rows.now in
    let g = get_or c.as_slice.result.now i 0 in
    let same : g ≡ get_or G i 0 = ap (λ xs. get_or xs i 0) (c.as_slice.ensures ∙ c.generators.ensures.same) in
    let low = c.is_lowered.ensures.0 c.if-not-is_lowered.false in
    let w = v - g in
    let rest : low.0 ≡ w = omega (arith, low.1) in
    let member = subst (IsMember G) rest low.2 in
    let e : w + get_or G i 0 ≡ v = omega (arith, low.1, same) in
    least-same c.args.enough c.raised_from.result (AreRowsNear G w rows i) (AreNearAt G v i)
    (near-from_rows G v i w rows c.requires.rows c.requires.place member e) (rows-from_near G v i w rows c.requires.rows c.requires.place member e) c.raised_from.ensures
