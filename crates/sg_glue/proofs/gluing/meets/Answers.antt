use Rattle.std.proofs.Common.{All, sym, subst}
use Rattle.std.specs.Int.{◌∣◌}
use Rattle.sg_glue.specs.Gluings.{Split}
use Rattle.sg_glue.proofs.gluing.meets.Goals as goal

pub is_reached-requires-clause-divides : goal.is_reached-requires-clause-divides
is_reached-requires-clause-divides c = subst (λ (s : Split). All (λ a. s.d_right ∣ a) s.right) (sym c.split.view_is) c.requires.right.divisor.divides

pub is_reached-requires-then-branch-clause-divides : goal.is_reached-requires-then-branch-clause-divides
is_reached-requires-then-branch-clause-divides c = subst (λ (s : Split). All (λ a. s.d_left ∣ a) s.left) (sym c.split.view_is) c.requires.left.divisor.divides

pub is_reached-requires-else-split-clause-divides : goal.is_reached-requires-else-split-clause-divides
is_reached-requires-else-split-clause-divides c = subst (λ (s : Split). All (λ a. s.d_left ∣ a) s.left) (sym c.split.view_is) c.requires.left.divisor.divides

pub is_reached-requires-then-branch-2-clause-divides : goal.is_reached-requires-then-branch-2-clause-divides
is_reached-requires-then-branch-2-clause-divides c = subst (λ (s : Split). All (λ a. s.d_right ∣ a) s.right) (sym c.split.view_is) c.requires.right.divisor.divides
