use Rattle.std.proofs.Common.{◌≡◌, List, sym, subst, ℤ, pos, negsuc, ◌≤ℤ◌, ◌<ℤ◌, to_z, of_z, w64, arith}
use Rattle.std.proofs.lemmas.Int.{ints}
use Rattle.std.proofs.lemmas.Result.{IfOk-weaker, IfErr-weaker}
use Rattle.sg_defs.specs.Ideals.{IsIdealMember, IsInCanonical}
use Rattle.sg_classes.specs.declared.limits.TheConstants.{APERY_ENTRY_LIMIT}
use Rattle.sg_ideal.specs.Faults.{AreRefused, IsSizeFault}
use Rattle.sg_ideal.specs.Value.{AreWithin, IsIdealOf, IsReflected}
use Rattle.sg_ideal.proofs.FaultLemmas.{ideal-same, some-faults}
use Rattle.sg_ideal.proofs.OwnLemmas.{canonical-generates, canonical-same, pseudo-listed, pseudo-within}
use Rattle.sg_defs.proofs.DecidedLemmas.{member-decided}
use Rattle.sg_ideal.proofs.own.canonical.Goals as goal

-- the Frobenius number as it is passed
back : (f : ℤ) → negsuc 0 ≤ℤ f → f <ℤ pos APERY_ENTRY_LIMIT → to_z w64 (of_z w64 f) ≡ f
back f low high = omega (arith, ints, low, high)

pub reflected-requires : goal.reflected-requires
reflected-requires c =
    let G = c.args.t.now in
    let f = c.frobenius.ensures in
    let within = pseudo-within G c.frobenius.result c.args.pf.now f.frobenius f.low f.high c.requires in
    subst (λ h. AreWithin h c.as_slice.result.now) (sym (back c.frobenius.result f.low f.high)) (subst (AreWithin c.frobenius.result) (sym c.as_slice.ensures) within)

-- what was reflected
reflected_of : (f : ℤ) (pf l r s : List ℤ) → negsuc 0 ≤ℤ f → f <ℤ pos APERY_ENTRY_LIMIT → l ≡ pf → s ≡ r → IsReflected (to_z w64 (of_z w64 f)) l r → IsReflected f pf s
reflected_of f pf l r s low high e g h = subst (IsReflected f pf) (sym g) (subst (λ l. IsReflected f l r) e (subst (λ f. IsReflected f l r) (back f low high) h))

pub returns-clause-made : goal.returns-clause-made
returns-clause-made c =
    let G = c.args.t.now in
    let f = c.frobenius.ensures in
    let r = c.as_slice-2.result.now in
    let reflected = reflected_of c.frobenius.result c.args.pf.now c.as_slice.result.now c.in_ok-generators.generators r f.low f.high c.as_slice.ensures c.as_slice-2.ensures c.in_ok-generators.ensures in
    let semigroup = c.generated.ensures.semigroup in
    IfOk-weaker c.generated.result (IsIdealOf G (IsIdealMember G r)) (IsIdealOf G (IsInCanonical G))
    (ideal-same G (IsIdealMember G r) (IsInCanonical G) (canonical-same G c.frobenius.result c.args.pf.now r semigroup (member-decided G) f.frobenius c.requires reflected)) c.generated.ensures.made

pub returns-clause-refused : goal.returns-clause-refused
returns-clause-refused c =
    let G = c.args.t.now in
    let f = c.frobenius.ensures in
    let r = c.as_slice-2.result.now in
    let reflected = reflected_of c.frobenius.result c.args.pf.now c.as_slice.result.now c.in_ok-generators.generators r f.low f.high c.as_slice.ensures c.as_slice-2.ensures c.in_ok-generators.ensures in
    let semigroup = c.generated.ensures.semigroup in
    let some = pseudo-listed G c.frobenius.result c.args.pf.now r semigroup (member-decided G) f.frobenius c.requires reflected in
    let generates = canonical-generates G c.frobenius.result c.args.pf.now r semigroup (member-decided G) f.frobenius c.requires reflected some in
    IfErr-weaker c.generated.result (AreRefused r) (IsSizeFault G (IsInCanonical G)) (some-faults G (IsInCanonical G) r generates) c.generated.ensures.refused
