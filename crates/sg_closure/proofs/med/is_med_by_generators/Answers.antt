use Rattle.std.proofs.Common.{◌≡◌, eq-eqb, eqb-true, length, get_or, ap, sym, ◌∙◌}
use Rattle.sg_closure.proofs.MedLemmas.{med-by_length}
use Rattle.sg_closure.proofs.med.is_med_by_generators.Goals as goal

pub returns : goal.returns
returns c =
    let G = c.args.generators.now in
    let t = med-by_length G c.requires.semigroup c.requires.minimal in
    let count : c.len.result ≡ length G = c.len.ensures in
    let first : get_or c.as_slice.result.now 0 0 ≡ get_or G 0 0 = ap (λ l. get_or l 0 0) c.as_slice.ensures in (
      (λ e. t.0 (sym count ∙ eqb-true c.len.result (get_or c.as_slice.result.now 0 0) e ∙ first)),
      (λ med. eq-eqb c.len.result (get_or c.as_slice.result.now 0 0) (count ∙ t.1 med ∙ sym first)),
    )
