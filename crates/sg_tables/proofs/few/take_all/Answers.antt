use Rattle.std.proofs.Common.{◌≡◌, ◌+◌, [], ◌∷◌, get_or, subst, sym, ◌∙◌, arith, inl, inr}
use Rattle.std.proofs.lemmas.List.{length-set}
use Rattle.sg_classes.proofs.GeneratorLemmas.{entry-positive, place-contains}
use Rattle.sg_tables.proofs.FrontLemmas.{IsFront, front-first, front-generates, front-push, front-skip, pushed-empty}
use Rattle.sg_tables.proofs.KnownLemmas.{known-table, table_of-first, table_of-same}
use Rattle.sg_tables.proofs.few.take_all.Goals as goal

pub loop-place-init : goal.loop-place-init
loop-place-init c =
    let m = get_or c.args.generators.now 0 0 in
    let e : c.push.new.self ≡ m ∷ [] = c.in_ok-push.ensures.ok ∙ pushed-empty c.args.minimal.now m c.requires.empty in
    let some = entry-positive c.args.generators.now c.requires.semigroup m (place-contains c.args.generators.now 0 c.requires.semigroup.not_empty) in
    record {
      table = rw e (table_of-first c.args.table.now m c.requires.long some c.requires.unreached);
      front = front-first c.args.generators.now c.requires.semigroup c.requires.ascending c.push.new.self e;
    }

pub take-requires-clause-positive : goal.take-requires-clause-positive
take-requires-clause-positive c =
    let k = c.loop-place.place in
    entry-positive c.args.generators.now c.requires.semigroup (get_or c.args.generators.now k 0) (place-contains c.args.generators.now k (omega arith))

pub loop-place-preserved : goal.loop-place-preserved
loop-place-preserved c =
    let D = c.args.generators.now in
    let M = c.loop-place.minimal in
    let k = c.loop-place.place in
    let s = c.requires.semigroup in
    let up = c.requires.ascending in
    let front = c.loop-place.invariant.front in
    record {
      table = c.in_ok-take.ensures.table;
      front = elim c.in_ok-take.ensures.taken [
        | inl p ↦ subst (λ N. IsFront D N (k + 1)) (sym p.0) (front-push D s up M k (omega arith) front p.1)
        | inr p ↦ subst (λ N. IsFront D N (k + 1)) (sym p.0) (front-skip D s up M k (omega arith) front p.1)
      ];
    }

pub returns-clause-table : goal.returns-clause-table
returns-clause-table c =
    let D = c.args.generators.now in
    let t = c.loop-place.table in
    let front = front-generates D c.requires.semigroup c.requires.ascending c.loop-place.minimal c.loop-place.place (omega arith) c.loop-place.invariant.front in
    known-table D t c.requires.semigroup c.requires.small (omega (arith, c.loop-place.auto.table, length-set c.args.table.now 0 0)) (table_of-same c.loop-place.minimal D t front.same c.loop-place.invariant.table)

pub returns-clause-minimal : goal.returns-clause-minimal
returns-clause-minimal c =
    front-generates c.args.generators.now c.requires.semigroup c.requires.ascending c.loop-place.minimal c.loop-place.place (omega arith) c.loop-place.invariant.front
