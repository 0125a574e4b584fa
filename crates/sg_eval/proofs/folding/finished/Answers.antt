use Rattle.std.proofs.Common.{◌≡◌, ℤ, pos, length, Ok, sym, subst, arith}
use Rattle.std.specs.Int.{w64}
use Rattle.std.proofs.lemmas.Int.{ints}
use mir.Val.{to_z}
use Rattle.sg_value.specs.Plain.{AllKnown, plain, plain_of_all}
use Rattle.sg_value.specs.declared.value.Value.TheVariants as value
use Rattle.sg_eval.specs.Folded.{finished}
use Rattle.sg_eval.specs.Outcomes.{Evaluates}
use Rattle.sg_eval.proofs.FoldSteps.{finished_list, finished_count}
use Rattle.sg_eval.proofs.folding.finished.Goals as goal

pub returns-in-EachValue : goal.returns-in-EachValue
returns-in-EachValue c = λ s is_known. finished_list c.args.fold c.args.all c.args.gathered.items s c.list_of.result c.in-EachValue.is (c.list_of.ensures s is_known)

pub returns-in-CountTrue : goal.returns-in-CountTrue
returns-in-CountTrue c = λ s is_known.
    let z : ℤ = to_z w64 c.len.result in
    let same : z ≡ pos (length c.args.gathered.items) = omega (arith, ints) in
    subst (λ o. Evaluates plain AllKnown (Ok (value.Int z)) s s (λ names. finished o c.args.all (plain_of_all names c.args.gathered.items))) (sym c.in-CountTrue.is) (finished_count c.args.all c.args.gathered.items s z same)
