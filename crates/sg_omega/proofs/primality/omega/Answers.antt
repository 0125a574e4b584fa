use Rattle.std.proofs.Common.{◌≡◌, ℕ, ◌-◌, ◌≤◌, List, length, get_or, sym, subst, ◌∙◌}
use Rattle.std.specs.Prelude.{All}
use Rattle.std.proofs.lemmas.Result.{IfOk-weaker}
use Rattle.sg_defs.specs.Membership.{IsMember}
use Rattle.sg_nonunique.specs.Omega.{IsOmegaOfSemigroup}
use Rattle.sg_omega.specs.Limits.{IsWithinLimit}
use Rattle.sg_omega.specs.Minimal.{IsGreatestOfAll}
use Rattle.sg_omega.proofs.PrimalityLemmas.{generators-bounded, generators-members, omega-of_all}
use Rattle.sg_omega.proofs.primality.omega.Goals as goal

pub greatest_minimal_length-requires-clause-members : goal.greatest_minimal_length-requires-clause-members
greatest_minimal_length-requires-clause-members c =
    let G = c.args.t.now in
    let same : c.as_slice-generators.result.now ≡ G = c.as_slice-generators.ensures ∙ c.generators.ensures.same in
    subst (All (IsMember G)) (sym same) (generators-members G)

pub greatest_minimal_length-requires-clause-most : goal.greatest_minimal_length-requires-clause-most
greatest_minimal_length-requires-clause-most c =
    let G = c.args.t.now in
    let same : c.as_slice-generators.result.now ≡ G = c.as_slice-generators.ensures ∙ c.generators.ensures.same in
    subst (λ (xs : List ℕ). All (λ n. n ≤ get_or xs (length xs - 1) 0) xs) (sym same) (generators-bounded G c.generators.ensures.minimal.ascending)

pub greatest_minimal_length-requires-clause-small : goal.greatest_minimal_length-requires-clause-small
greatest_minimal_length-requires-clause-small c =
    let G = c.args.t.now in
    let same : c.as_slice-generators.result.now ≡ G = c.as_slice-generators.ensures ∙ c.generators.ensures.same in
    subst (λ (xs : List ℕ). IsWithinLimit G (get_or xs (length xs - 1) 0)) (sym same) c.requires.small

pub returns : goal.returns
returns c =
    let G = c.args.t.now in
    let same : c.as_slice-generators.result.now ≡ G = c.as_slice-generators.ensures ∙ c.generators.ensures.same in
    IfOk-weaker c.greatest_minimal_length.result (IsGreatestOfAll G c.as_slice-generators.result.now) (IsOmegaOfSemigroup G) (λ N h. omega-of_all G N (subst (λ xs. IsGreatestOfAll G xs N) same h)) c.greatest_minimal_length.ensures
