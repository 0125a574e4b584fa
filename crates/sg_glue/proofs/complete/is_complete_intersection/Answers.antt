use Rattle.std.proofs.Common.{◌≡◌, ◌+◌, ◌-◌, ◌<◌, length, ap, arith}
use Rattle.std.proofs.lemmas.Bool.{eqb-true, eq-eqb}
use Rattle.sg_defs.specs.Membership.{IsFactorization}
use Rattle.sg_laws_families.proofs.CanonicalLemmas.{one-canonical}
use Rattle.sg_glue.proofs.complete.is_complete_intersection.Goals as goal

pub returns : goal.returns
returns c =
    let G = c.args.t.now in
    let P = c.args.relations.now in
    let some : 0 < length G = c.generators.ensures.semigroup.not_empty in
    let p : c.len.result ≡ length P = c.len.ensures in
    let g : c.len-2.result ≡ length G = omega (arith, c.len-2.ensures, ap length c.generators.ensures.same) in (
      (λ h.
          let e : c.len.result ≡ c.len-2.result - 1 = eqb-true c.len.result (c.len-2.result - 1) h in
          record { relations = P; canonical = c.requires; count = omega (arith, e, some, p, g) }),
      (λ r.
          let same = one-canonical (IsFactorization G) (◌<◌) (λ n m l k. omega arith) r.relations P r.canonical c.requires in
          let count : length P + 1 ≡ length G = omega (arith, ap length same, r.count) in
          eq-eqb c.len.result (c.len-2.result - 1) (omega (arith, count, p, g))),
    )
