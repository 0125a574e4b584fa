use Rattle.std.proofs.Common.{◌≡◌, List, ℕ, ◌++◌, map, length, drop, get_or}
use Rattle.itertools.specs.Pool.{powerset_left, subsets}
use Rattle.sg_glue.proofs.ListingLemmas.{AreUpTo, left_of}
use Rattle.sg_glue.proofs.gluing.gluings.Given as goal

-- the gluings of the parts that came, with the parts still to come
abbrev pub invariant-loop-choice : goal.invariant-loop-choice
invariant-loop-choice l = record {
  can : (goal.iterator-loop-choice).can_next l.choice-iterator;
  finite : (goal.iterator-loop-choice).is_finite l.choice-iterator;
  pool : l.choice-iterator.combinations.pool.items ≡ drop 1 l.t;
  came : List (List ℕ);
  parts : subsets (length (drop 1 l.t)) ≡ came ++ powerset_left l.choice-iterator;
  found : AreUpTo l.t (map (left_of (get_or l.t 0 0) (drop 1 l.t)) came) l.list;
}
