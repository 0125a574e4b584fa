-- The minimal list of an ideal generates the ideal again.
use Rattle.std.proofs.Common.{◌≡◌, ℕ, ℤ, List, ap, ◌∙◌, subst}
use Rattle.sg_defs.specs.Ideals.{IsIdealMember}
use Rattle.sg_ideal.specs.Value.{GeneratesIdeal, IsIdealOf, IsIn}
use Rattle.sg_laws_ideals.proofs.OneIdeal.{one-minimal_ideal}
use Rattle.sg_value.specs.Plain.{RelativeIdeal}
use Rattle.sg_lawful.specs.Lawful.{IsLawfulIdeal}
use Rattle.sg_rows_ideals.specs.Rows.{over}

own : (I : RelativeIdeal) → IsLawfulIdeal I.ambient I.generators → GeneratesIdeal I.ambient (IsIn I) I.generators
own I fit = record { not_empty = fit.not_empty; minimal = fit.minimal; same = λ x. ((λ h. h), (λ h. h)) }

same_again : (I J : RelativeIdeal) → IsLawfulIdeal I.ambient I.generators → IsIdealOf I.ambient (IsIn I) J → J ≡ I
same_again I J fit made =
    let list = one-minimal_ideal I.ambient (IsIn I) J.generators I.generators made.generates (own I fit) in
    ap (λ G. over G J.generators) made.ambient ∙ ap (over I.ambient) list

-- the ideal that a stored list generates is the stored one
pub again : (I : RelativeIdeal) (t : List ℕ) (given : List ℤ) (J : RelativeIdeal) → IsLawfulIdeal I.ambient I.generators → t ≡ I.ambient → given ≡ I.generators → IsIdealOf t (IsIdealMember t given) J → J ≡ I
again I t given J fit ambient list made =
    same_again I J fit (subst (λ l. IsIdealOf I.ambient (IsIdealMember I.ambient l) J) list (subst (λ a. IsIdealOf a (IsIdealMember a given) J) ambient made))
