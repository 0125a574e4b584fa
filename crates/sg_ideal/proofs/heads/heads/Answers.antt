use Rattle.sg_ideal.proofs.HeadLemmas.{heads-sorted}
use Rattle.sg_ideal.proofs.heads.heads.Goals as goal

pub returns : goal.returns
returns c =
    heads-sorted c.args.semigroup.now c.args.entries.now c.in_ok-list.list.items c.sort_unstable.new.self.items c.requires.classes.not_empty c.in_ok-list.ensures
    c.sort_unstable.ensures.permutation c.sort_unstable.ensures.sorted
