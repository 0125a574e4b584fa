use Rattle.std.proofs.Common.{◌≡◌, get_or, sym, subst, arith, to_z, of_z, w64}
use Rattle.std.proofs.lemmas.Int.{ints}
use Rattle.std.proofs.lemmas.Result.{IfOk-weaker}
use Rattle.sg_defs.specs.Membership.{Generates}
use Rattle.sg_defs.specs.Decomposition.{IsInCover}
use Rattle.sg_classes.specs.Classes.{IsAboveEntry, IsKunz}
use Rattle.sg_irred.specs.Cover.{IsCoverList}
use Rattle.sg_irred.proofs.CoverLemmas.{list-kunz, list-generates}
use Rattle.sg_irred.proofs.cover_of.cover.Goals as goal

pub kunz_generators-requires : goal.kunz_generators-requires
kunz_generators-requires c =
    let G = c.args.table.now in
    let back : to_z w64 (of_z w64 c.args.h) ≡ c.args.h = omega (arith, ints) in
    let list = subst (λ z. IsCoverList G z (get_or G 0 0) c.in_ok-list.list.items) back c.in_ok-list.ensures.list in
    subst IsKunz (sym c.deref.ensures.value) (list-kunz G c.args.h c.in_ok-list.list.items c.requires.natural list c.in_ok-list.ensures.not_empty)

pub returns : goal.returns
returns c =
    let G = c.args.table.now in
    let back : to_z w64 (of_z w64 c.args.h) ≡ c.args.h = omega (arith, ints) in
    let list = subst (λ z. IsCoverList G z (get_or G 0 0) c.in_ok-list.list.items) back c.in_ok-list.ensures.list in
    IfOk-weaker c.kunz_generators.result (Generates (IsAboveEntry c.deref.result.now)) (Generates (IsInCover G c.args.h))
    (λ M g. list-generates G c.args.h c.in_ok-list.list.items c.requires.natural list c.in_ok-list.ensures.not_empty M
    (subst (λ t. Generates (IsAboveEntry t) M) c.deref.ensures.value g)) c.kunz_generators.ensures
