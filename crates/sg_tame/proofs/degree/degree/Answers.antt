use Rattle.std.proofs.Common.{◌≡◌, ℕ, ◌-◌, List, length, get_or, sym, ap, subst, ◌∙◌, below_more, arith}
use Rattle.std.proofs.lemmas.Bool.{false≢true}
use Rattle.std.proofs.lemmas.Result.{err_from_is_err_and}
use Rattle.sg_defs.specs.Membership.{IsFactorization}
use Rattle.sg_nonunique.specs.Counts.{Exceeds}
use Rattle.sg_factor.proofs.RefusalLemmas.{refused-weaker}
use Rattle.sg_tame.specs.Answers.{HasTooMany}
use Rattle.sg_tame.specs.Nearest.{AreNearBy}
use Rattle.sg_tame.specs.Needed.{IsNeeded}
use Rattle.sg_tame.specs.declared.limits.TheConstants.{COMPARED_LIMIT}
use Rattle.sg_tame.proofs.DegreeLemmas.{needed-below, needed-from_minimal, tame-from_least, within-limit}
use Rattle.sg_tame.proofs.LeastLemmas.{least-none, least-met, least-more}
use Rattle.sg_tame.proofs.degree.degree.Goals as goal
use Rattle.sg_tame.proofs.degree.degree.Goals.{then-is_needed+in_ok-greatest, else-is_needed}

pub overflow_add-end : goal.overflow_add-end
overflow_add-end c =
    let G = c.args.t.now in
    let same : c.as_slice-generators.result.now ≡ G = c.as_slice-generators.ensures ∙ c.generators.ensures.same in
    omega (arith, ap (λ (xs : List ℕ). get_or xs (length xs - 1) 0) same, within-limit G c.span.result c.requires c.span.ensures)

pub loop-v-init : goal.loop-v-init
loop-v-init c = record {
  degree = least-none 0 (λ u N. AreNearBy c.args.t.now u N);
  few = λ u l. absurd (omega (arith, l));
}

pub raised_over-requires : goal.raised_over-requires
raised_over-requires c =
    let G = c.args.t.now in
    let same : c.as_slice-generators.result.now ≡ G = c.as_slice-generators.ensures ∙ c.generators.ensures.same in
    omega (arith, c.loop-v-test.true, ap (λ (xs : List ℕ). get_or xs (length xs - 1) 0) same, within-limit G c.span.result c.requires c.span.ensures)

pub loop-v-preserved : goal.loop-v-preserved
loop-v-preserved c =
    let G = c.args.t.now in
    let v = c.loop-v.v in
    let i = c.loop-v.invariant in
    let Q : ℕ → ℕ → Type 0 = λ u N. AreNearBy G u N in
    let F : ℕ → Type 0 = λ u. IsNeeded G u → Exceeds (IsFactorization G u) COMPARED_LIMIT → ⊥ in
    elim c.if-is_needed.branch [
      | then-is_needed+in_ok-greatest w ↦ record {
        degree = rw w.greatest-is (least-more 0 c.loop-v.greatest _ v Q i.degree w.in_ok-greatest.ensures.degree);
        few = below_more F v i.few (λ n more. w.in_ok-greatest.ensures.few more);
      }
      | else-is_needed w ↦ record {
        degree = rw w.greatest-is (least-more 0 c.loop-v.greatest c.loop-v.greatest v Q i.degree
            (least-met c.loop-v.greatest (Q v) (λ N j l z m e. absurd (false≢true (sym w.if-is_needed.false
            ∙ c.is_needed.ensures.1 (subst (IsNeeded G) e (needed-from_minimal G c.generators.ensures.semigroup.positive j z l m)))))));
        few = below_more F v i.few (λ n more. false≢true (sym w.if-is_needed.false ∙ c.is_needed.ensures.1 n));
      }
    ]

pub returns-in_err-greatest-clause-many : goal.returns-in_err-greatest-clause-many
returns-in_err-greatest-clause-many c =
    let G = c.args.t.now in
    let p = err_from_is_err_and c.from_residual.result c.from_residual.ensures.1 in
    let n = c.is_needed.ensures.0 c.if-is_needed.true in
    let many = refused-weaker (λ (h : Exceeds (IsFactorization G c.loop-v.v) COMPARED_LIMIT). let r : HasTooMany G = (c.loop-v.v, n, h) in r) c.in_err-greatest.field-0.0 c.in_err-greatest.ensures.many in
    rw (p.1, p.2) many

pub returns-clause-degree : goal.returns-clause-degree
returns-clause-degree c =
    let G = c.args.t.now in
    let g = c.generators.ensures in
    let same : c.as_slice-generators.result.now ≡ G = c.as_slice-generators.ensures ∙ g.same in
    let last : get_or c.as_slice-generators.result.now (length c.as_slice-generators.result.now - 1) 0 ≡ get_or G (length G - 1) 0 = ap (λ (xs : List ℕ). get_or xs (length xs - 1) 0) same in
    tame-from_least G c.loop-v.v c.loop-v.greatest
    (λ v n. omega (arith, needed-below G g.semigroup g.minimal c.span.result c.span.ensures v n, last, c.loop-v-test.false)) g.semigroup.positive c.loop-v.invariant.degree

pub returns-clause-few : goal.returns-clause-few
returns-clause-few c = λ many.
    let G = c.args.t.now in
    let g = c.generators.ensures in
    let same : c.as_slice-generators.result.now ≡ G = c.as_slice-generators.ensures ∙ g.same in
    let last : get_or c.as_slice-generators.result.now (length c.as_slice-generators.result.now - 1) 0 ≡ get_or G (length G - 1) 0 = ap (λ (xs : List ℕ). get_or xs (length xs - 1) 0) same in
    c.loop-v.invariant.few many.0 (omega (arith, needed-below G g.semigroup g.minimal c.span.result c.span.ensures many.0 many.1, last, c.loop-v-test.false)) many.1 many.2
