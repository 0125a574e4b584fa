use Rattle.std.proofs.Common.{length, set, sym, subst}
use Rattle.std.specs.Prelude.{Contains}
use Rattle.sg_tables.proofs.kunz.class_generators.Goals as goal

pub returns : goal.returns
returns c =
    let n = length c.args.list.now in
    record {
      ascending = c.sort_distinct.ensures.ascending;
      keeps = λ x h. c.sort_distinct.ensures.keeps x (subst (λ l. Contains (set l 0 n) x) (sym c.in_ok-entries.ensures.items) h);
      adds_none = λ x h. subst (λ l. Contains (set l 0 n) x) c.in_ok-entries.ensures.items (c.sort_distinct.ensures.adds_none x h);
    }
