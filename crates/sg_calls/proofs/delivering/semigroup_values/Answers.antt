use Rattle.sg_value.specs.Known.{named}
use Rattle.sg_calls.proofs.Naming.{name-more, name-all, name-plain, name-known, kept-on}
use Rattle.sg_calls.proofs.delivering.semigroup_values.Goals as goal

pub loop-list-preserved : goal.loop-list-preserved
loop-list-preserved c =
    let first = named c.args.ids.now in
    let old = named c.loop-list.ids in
    let new = named c.intern.new.self in (
      name-more old new c.loop-list.values.items c.push.new.self.items c.args.lists.now c.loop-list.list-index c.in_ok-intern.field-0 c.list-item.result c.in_ok-try_clone.field-0
          c.loop-list.invariant.0 c.in_ok-intern.ensures.interned.keeps c.loop-list-test.true c.list-item.is c.in_ok-try_clone.ensures c.in_ok-intern.ensures.interned.stands c.in_ok-push.ensures.items,
      kept-on first old new c.loop-list.invariant.1 c.in_ok-intern.ensures.interned.keeps,
    )

pub returns-clause-plain : goal.returns-clause-plain
returns-clause-plain c =
    let names = named c.loop-list.ids in
    name-plain names c.loop-list.values.items c.args.lists.now (name-all names c.loop-list.values.items c.args.lists.now c.loop-list.list-index c.loop-list-test.false c.loop-list.invariant.0)

pub returns-clause-known : goal.returns-clause-known
returns-clause-known c =
    let names = named c.loop-list.ids in
    name-known names c.loop-list.values.items c.args.lists.now (name-all names c.loop-list.values.items c.args.lists.now c.loop-list.list-index c.loop-list-test.false c.loop-list.invariant.0)
