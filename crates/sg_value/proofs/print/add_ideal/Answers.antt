use Rattle.std.proofs.Common.{◌≡◌, List, ℕ, ℤ, Some, ap₂, sym, ◌∙◌}
use Rattle.sg_value.specs.Data.{ideals}
use Rattle.sg_value.specs.Plain.{RelativeIdeal, thing_at}
use Rattle.sg_value.specs.Text.{ideal_text}
use Rattle.sg_value.proofs.Fronts.{Adds_same}
use Rattle.sg_value.proofs.print.add_ideal.Goals as goal

some_is : {A : Type 0} (x y : A) → Some x ≡ Some y → x ≡ y
some_is x y h = cc

ideal_of : List ℕ → List ℤ → RelativeIdeal
ideal_of gens own = record { ambient = gens; generators = own }

same_ideal : (i : RelativeIdeal) (gens : List ℕ) (own : List ℤ) → gens ≡ i.ambient → own ≡ i.generators → ideal_text i ≡ ideal_text (record { ambient = gens; generators = own })
same_ideal i gens own a o = sym (ap₂ (λ g z. ideal_text (record { ambient = g; generators = z })) a o)

pub returns : goal.returns
returns g c =
    let i = thing_at (g.N.Names.named c.args.names.now) ideals c.args.id in
    let own = c.as_slice.ensures ∙ c.ideal_generators.ensures in
    let ambient = c.as_slice-2.ensures ∙ some_is _ _ (sym c.semigroup-ambient.ensures ∙ c.ideal_ambient.ensures) in
    Adds_same _ _ _ _ _ (same_ideal i c.as_slice-2.result.now c.as_slice.result.now ambient own) c.add_ideal_of.ensures
