use Rattle.std.proofs.Common.{◌≡◌, ℕ, ◌+◌, ◌%◌, length, get_or, ap, ◌∙◌, arith}
use Rattle.std.proofs.Math.Nat.{add-mod-mod}
use Rattle.sg_factor.proofs.bounds.lower_from.Goals as goal

-- the class that is reached
target : (from step g m t : ℕ) → t ≡ (from + step) % m → step ≡ g % m → t ≡ (from + g) % m
target from step g m t e f = e ∙ ap (λ s. (from + s) % m) f ∙ add-mod-mod from g m

pub returns-clause-closed : goal.returns-clause-closed
returns-clause-closed c =
    let t = c.args.table.now in
    let same = target c.args.from c.args.step c.args.generator (length t) c.class_after-target.result c.class_after-target.ensures.class c.requires.step in
    λ no. omega (arith, c.if-candidate-table.false, c.saturating_add-candidate.ensures, ap (λ i. get_or t i 0) same)
