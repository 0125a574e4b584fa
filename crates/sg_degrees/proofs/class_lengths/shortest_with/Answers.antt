use Rattle.sg_degrees.proofs.ClassLemmas.{shortest-read, vertex-fits}
use Rattle.sg_degrees.proofs.class_lengths.shortest_with.Goals as goal

pub overflow_sub-result : goal.overflow_sub-result
overflow_sub-result c = vertex-fits c.args.generators.now c.args.n c.args.place c.requires.vertex

pub returns : goal.returns
returns c = shortest-read c.args.generators.now c.args.least.now c.args.n c.args.place c.requires.lengths c.requires.inside c.requires.vertex
