use Rattle.std.proofs.Common.{◌≡◌, ◌∷◌, [], subst}
use Rattle.std.proofs.lemmas.Result.{IfOk-weaker}
use Rattle.sg_nonunique.specs.Omega.{IsOmega}
use Rattle.sg_omega.specs.Minimal.{IsGreatestOfAll}
use Rattle.sg_omega.proofs.PrimalityLemmas.{omega-of_one}
use Rattle.sg_omega.proofs.primality.omega_of_element.Goals as goal

pub returns : goal.returns
returns c =
    let G = c.args.t.now in
    let n = c.args.n in
    let one : c.as_slice.result.now ≡ n ∷ [] = c.as_slice.ensures in
    IfOk-weaker c.greatest_minimal_length.result (IsGreatestOfAll G c.as_slice.result.now) (IsOmega G n)
    (λ N h. omega-of_one G n N (subst (λ xs. IsGreatestOfAll G xs N) one h)) c.greatest_minimal_length.ensures
