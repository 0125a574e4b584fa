use Rattle.std.proofs.Common.{◌≡◌, ℕ, List, sym, subst, ◌∙◌, arith, ℤ, to_z, of_z, w64}
use Rattle.std.proofs.lemmas.Int.{ints}
use Rattle.std.proofs.lemmas.Result.{IfOk-weaker, IfErr-weaker}
use Rattle.sg_defs.specs.Ideals.{IsIdealMember}
use Rattle.sg_ideal.specs.Classes.{IsFrom, IsIdealTable, IsSpread}
use Rattle.sg_ideal.specs.Faults.{AreRefused, IsSizeFault}
use Rattle.sg_ideal.specs.Value.{IsIdealOf, IsLeast}
use Rattle.sg_lawful.specs.Generators.{AreSmall}
use Rattle.sg_ideal.proofs.FaultLemmas.{given-faults, ideal-same}
use Rattle.sg_ideal.proofs.TableLemmas.{given-listed, given-same, given-table}
use Rattle.sg_ideal.proofs.ideal.Ideal.generated.Goals as goal

-- the base as it is passed
back : (I : List ℤ) (base : ℤ) → AreSmall I → IsLeast I base → to_z w64 (of_z w64 base) ≡ base
back I base small least = let s = small base least.listed in omega (arith, ints, s)

same_spread : (t : List ℕ) (I : List ℤ) (list : List ℕ) (base : ℤ) → AreSmall I → IsLeast I base → IsSpread t (to_z w64 (of_z w64 base)) I list → IsSpread t base I list
same_spread t I list base small least s = subst (λ b. IsSpread t b I list) (back I base small least) s

pub from_table-requires : goal.from_table-requires
from_table-requires c =
    let G = c.args.t.now in
    let a = c.apery.ensures in
    let g = c.generators-ambient.ensures in
    let base = c.in-Some.base in
    let list = c.in_ok-entries.entries.items in
    let spread : IsSpread c.apery.result.now base c.args.given.now list = same_spread c.apery.result.now c.args.given.now list base c.if-not-are_small.ensures c.in-Some.ensures c.in_ok-entries.ensures in
    record {
      table = subst (λ G. IsIdealTable G list) (sym (c.as_slice.ensures ∙ g.same))
          (given-table G c.apery.result.now base c.args.given.now list (record { semigroup = a.semigroup; minimal = g.minimal; fit = g.fit }) a.entries a.short a.apery a.small c.in-Some.ensures spread);
    }

pub returns-clause-made : goal.returns-clause-made
returns-clause-made c =
    let G = c.args.t.now in
    let I = c.args.given.now in
    let a = c.apery.ensures in
    let g = c.generators-ambient.ensures in
    let base = c.in-Some.base in
    let list = c.in_ok-entries.entries.items in
    let spread : IsSpread c.apery.result.now base I list = same_spread c.apery.result.now I list base c.if-not-are_small.ensures c.in-Some.ensures c.in_ok-entries.ensures in
    let same = given-same G c.apery.result.now base I list (record { semigroup = a.semigroup; minimal = g.minimal; fit = g.fit }) a.entries a.short a.apery a.small c.in-Some.ensures spread in
    IfOk-weaker c.from_table.result (IsIdealOf c.as_slice.result.now (IsFrom (to_z w64 (of_z w64 base)) list)) (IsIdealOf G (IsIdealMember G I))
    (λ J m. ideal-same G (IsFrom base list) (IsIdealMember G I) same J
    (subst (λ b. IsIdealOf G (IsFrom b list) J) (back I base c.if-not-are_small.ensures c.in-Some.ensures) (subst (λ G. IsIdealOf G (IsFrom (to_z w64 (of_z w64 base)) list) J) (c.as_slice.ensures ∙ g.same) m)))
    c.from_table.ensures.made

pub returns-clause-refused : goal.returns-clause-refused
returns-clause-refused c =
    let G = c.args.t.now in
    let I = c.args.given.now in
    let a = c.apery.ensures in
    let g = c.generators-ambient.ensures in
    let base = c.in-Some.base in
    let list = c.in_ok-entries.entries.items in
    let spread : IsSpread c.apery.result.now base I list = same_spread c.apery.result.now I list base c.if-not-are_small.ensures c.in-Some.ensures c.in_ok-entries.ensures in
    let listed = given-listed G c.apery.result.now base I list (record { semigroup = a.semigroup; minimal = g.minimal; fit = g.fit }) a.entries a.short a.apery a.small c.in-Some.ensures spread in
    IfErr-weaker c.from_table.result (IsSizeFault c.as_slice.result.now (IsFrom (to_z w64 (of_z w64 base)) list)) (AreRefused I)
    (λ f m. given-faults G (IsFrom base list) I c.if-not-are_small.ensures listed f
    (subst (λ b. IsSizeFault G (IsFrom b list) f) (back I base c.if-not-are_small.ensures c.in-Some.ensures) (subst (λ G. IsSizeFault G (IsFrom (to_z w64 (of_z w64 base)) list) f) (c.as_slice.ensures ∙ g.same) m)))
    c.from_table.ensures.refused
