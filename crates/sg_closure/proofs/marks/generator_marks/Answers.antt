use Rattle.std.proofs.Common.{◌≡◌, ℕ, ◌+◌, ◌↔◌, ◌++◌, false, length, take, drop, replicate, sym, ap, subst, ◌∙◌}
use Rattle.std.specs.Prelude.{◌⊎◌, Contains}
use Rattle.std.proofs.lemmas.List.{take_at}
use Rattle.sg_closure.specs.Marks.{IsIn, AreGeneratorMarks}
use Rattle.sg_closure.proofs.FitLemmas.{short-span}
use Rattle.sg_closure.proofs.GeneratorMarkLemmas.{generator_marks-are, marked-both}
use Rattle.sg_closure.proofs.marks.generator_marks.Goals as goal

pub returns : goal.returns
returns c =
    let G = c.args.table.now in
    let span = c.span.result in
    let items = c.in_ok-marks.marks.items in
    let n = c.in_ok-marks.marks.len in
    let first = c.mark.new.marks in
    let last = c.mark_each.new.marks in
    let before : c.deref_mut.result.now ≡ replicate (span + 1) false = c.deref_mut.ensures.value ∙ c.in_ok-marks.ensures.items_if_clones_equal (λ y e. e) in
    let many : n ≡ span + 1 = c.in_ok-marks.ensures.len in
    let long : length first ≡ n = c.mark.ensures.length ∙ c.deref_mut.ensures.len in
    let same : c.deref_mut-2.result.now ≡ first = c.deref_mut-2.ensures.value ∙ take_at first (drop (length first) items) n long in
    let long_last : length last ≡ n = c.mark_each.ensures.length ∙ ap length same ∙ long in
    let numbers : c.as_slice.result.now ≡ G = c.as_slice.ensures ∙ c.generators.ensures.same in
    let one = subst (λ z. (k : ℕ) → IsIn first k ↔ (IsIn z k ⊎ (k ≡ 0))) before c.mark.ensures.marked in
    let two = subst (λ z. (k : ℕ) → IsIn last k ↔ (IsIn z k ⊎ Contains c.as_slice.result.now k)) same c.mark_each.ensures.marked in
    let three = subst (λ xs. (k : ℕ) → IsIn last k ↔ (IsIn first k ⊎ Contains xs k)) numbers two in
    subst (AreGeneratorMarks G) (sym (take_at last (drop (length last) (take n (first ++ drop (length first) items))) n long_last))
    (generator_marks-are G span c.generators.ensures.semigroup c.generators.ensures.minimal c.span.ensures (short-span G span c.requires c.span.ensures)
    last (long_last ∙ many) (marked-both (replicate (span + 1) false) first last G one three))
