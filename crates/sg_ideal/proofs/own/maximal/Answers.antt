use Rattle.std.proofs.Common.{◌≡◌, ◌<◌, ◌∙◌, length, map, sym, ap, subst, pos, arith}
use Rattle.std.proofs.lemmas.List.{length-map}
use Rattle.sg_defs.specs.Ideals.{IsIdealMember, IsInMaximal}
use Rattle.sg_ideal.specs.Value.{IsIdealOf}
use Rattle.sg_lawful.specs.Generators.{AreSmall}
use Rattle.sg_ideal.proofs.FaultLemmas.{ideal-same, only-memory}
use Rattle.sg_ideal.proofs.OwnLemmas.{integers-small, maximal-same}
use Rattle.sg_ideal.proofs.own.maximal.Goals as goal

pub returns-in-Ok : goal.returns-in-Ok
returns-in-Ok c =
    let G = c.args.t.now in
    let e = c.as_slice-2.ensures ∙ c.in_ok-generators.ensures ∙ ap (map (λ n. pos n)) (c.as_slice.ensures ∙ c.generators.ensures.same) in
    ideal-same G (IsIdealMember G (map (λ n. pos n) G)) (IsInMaximal G) (maximal-same G c.generators.ensures.semigroup) c.in-Ok.ideal
    (subst (λ I. IsIdealOf G (IsIdealMember G I) c.in-Ok.ideal) e c.in-Ok.ensures.made)

pub want_of_memory-requires : goal.want_of_memory-requires
want_of_memory-requires c =
    let G = c.args.t.now in
    let given = c.as_slice-2.result.now in
    let e : given ≡ map (λ n. pos n) G = c.as_slice-2.ensures ∙ c.in_ok-generators.ensures ∙ ap (map (λ n. pos n)) (c.as_slice.ensures ∙ c.generators.ensures.same) in
    let s = c.generators.ensures.semigroup.not_empty in
    let some : 0 < length given = omega (arith, ap length e, length-map G (λ n. pos n), s) in
    only-memory given (subst AreSmall (sym e) (integers-small G c.generators.ensures.fit)) some c.in-Err.fault c.in-Err.ensures.refused
