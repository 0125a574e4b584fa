use Rattle.std.proofs.Common.{◌≡◌, ℕ, ◌≤◌, take}
use Rattle.std.specs.List.{count_by}
use Rattle.sg_script.specs.Depth.{deepens, rises, IsDeepAt}
use Rattle.sg_script.proofs.depth.is_too_deep.Given as goal

-- both counts so far, and no front was too deep
abbrev pub invariant-loop-token : goal.invariant-loop-token
invariant-loop-token l = record {
  opened : l.opened ≡ count_by deepens (take l.token-index l.tokens);
  closed : l.closed ≡ count_by rises (take l.token-index l.tokens);
  opened_few : l.opened ≤ l.token-index;
  closed_few : l.closed ≤ l.token-index;
  shallow : (n : ℕ) → n ≤ l.token-index → IsDeepAt l.tokens n → ⊥;
}
