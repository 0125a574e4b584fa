use Rattle.std.proofs.Common.{◌≡◌, ◌∙◌, ℕ, sym, subst}
use Rattle.std.specs.Prelude.{◌↔◌}
use Rattle.std.specs.List.Sorted.{IsStrictlyIncreasing}
use Rattle.std.proofs.lemmas.List.Filters.{dedup_is}
use Rattle.std.proofs.lemmas.List.Kept.{Contains-dedup_nat, Contains-from_dedup}
use Rattle.std.proofs.lemmas.List.Sorted.{Contains-permutation, IsPermutation-sym}
use Rattle.std.proofs.lemmas.Map.Keys.{IsStrictlyIncreasing-dedup}
use Rattle.std.proofs.lemmas.Result.{IfOk-weaker}
use Rattle.sg_defs.specs.Listings.{Lists}
use Rattle.sg_factor.specs.Steps.{IsStepOf}
use Rattle.sg_factor.proofs.StepLemmas.{IsStepBelow, steps-more, steps-all}
use Rattle.sg_factor.proofs.deltas.delta_of.Goals as goal

pub loop-place-preserved : goal.loop-place-preserved
loop-place-preserved c =
    let l = c.as_slice-lengths.result.now in
    let up = subst IsStrictlyIncreasing (sym c.as_slice-lengths.ensures) c.requires in
    steps-more l c.loop-place.steps.items c.push.new.self.items c.loop-place.place up c.loop-place.auto.place c.loop-place-test.true c.loop-place.invariant c.in_ok-push.ensures.items

pub returns : goal.returns
returns c =
    let l = c.as_slice-lengths.result.now in
    let is = dedup_is _ _ _ c.dedup.ensures.filtered in
    let moved = c.sort_unstable.ensures.permutation in
    let all : (d : ℕ) → (IsStepBelow l c.loop-place.place d ↔ IsStepOf c.args.lengths.now d) =
    λ d. subst (λ k. IsStepBelow l c.loop-place.place d ↔ IsStepOf k d) c.as_slice-lengths.ensures (steps-all l c.loop-place.place d c.loop-place-test.false) in
    let found : Lists (IsStepOf c.args.lengths.now) c.dedup.new.self.items = record {
      ascending = rw is (IsStrictlyIncreasing-dedup _ c.sort_unstable.ensures.sorted);
      exactly = λ d. (
        (λ h. (all d).0 ((c.loop-place.invariant d).0 (Contains-permutation _ _ d (IsPermutation-sym _ _ moved) (Contains-from_dedup _ _ d (rw is at h))))),
        (λ h. rw is (Contains-dedup_nat _ d (Contains-permutation _ _ d moved ((c.loop-place.invariant d).1 ((all d).1 h))))),
      );
    } in
    IfOk-weaker c.from_slice.result (λ list. list ≡ c.deref.result.now) (Lists (IsStepOf c.args.lengths.now))
    (λ list e. subst (Lists (IsStepOf c.args.lengths.now)) (sym (e ∙ c.deref.ensures.value)) found) c.from_slice.ensures
