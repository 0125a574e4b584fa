use Rattle.std.proofs.Common.{◌≡◌, ◌<◌, [], ◌∷◌, ◌++◌, length, reverse, refl, sym, ap, subst, ◌∙◌}
use Rattle.std.proofs.lemmas.Result.{IfOk-weaker}
use Rattle.sg_defs.specs.Decomposition.{IsChosen, IsDecomposition, IsIrredundant}
use Rattle.sg_irred.specs.Cover.{AreNatural}
use Rattle.sg_irred.proofs.PlaceLemmas.{AreCovers}
use Rattle.sg_irred.proofs.IrredundantLemmas.{covers-irredundant, whole-irredundant, all-members, no-special, some-entry, special-bounded}
use Rattle.sg_irred.proofs.decomposition.decompose.Goals as goal

pub returns-then-is_empty-clause-irredundant : goal.returns-then-is_empty-clause-irredundant
returns-then-is_empty-clause-irredundant c =
    let G = c.args.table.now in
    let none = no-special G c.args.special.now c.requires.special (c.if-is_empty.ensures.0 refl) in
    let made = c.generators.ensures in
    let span = c.requires.span.1 in
    let same : c.in_ok-try_clone.field-0 ≡ G = c.in_ok-try_clone.ensures ∙ made.same in
    let row : c.push.new.self ≡ G ∷ [] = c.in_ok-push.ensures.ok ∙ ap (λ l. l ++ c.in_ok-try_clone.field-0 ∷ []) c.new-rows.ensures ∙ ap (λ M. M ∷ []) same in
    subst (IsIrredundant G) (sym row)
    (whole-irredundant G G (all-members G span.0 span.1 none) (record { semigroup = made.semigroup; minimal = made.minimal; same = λ n. ((λ p. p), λ p. p) }))

pub chosen_gaps-requires : goal.chosen_gaps-requires
chosen_gaps-requires c =
    let span = c.requires.span in
    subst AreNatural (sym c.as_slice.ensures) (special-bounded c.args.table.now c.args.special.now span.0 c.requires.special span.1 span.2)

pub returns-clause-decomposition : goal.returns-clause-decomposition
returns-clause-decomposition c =
    let G = c.args.table.now in
    let gaps = c.args.special.now in
    let chosen = c.in_ok-chosen.chosen in
    let chosen_from = subst (λ l. IsChosen G [] (reverse l) chosen) c.as_slice.ensures c.in_ok-chosen.ensures.chosen in
    IfOk-weaker c.covers.result (AreCovers G c.as_slice-2.result.now) (IsDecomposition G) (λ L covers. record {
      special = gaps;
      is_special = c.requires.special;
      chosen = chosen;
      is_chosen = chosen_from;
      covers = λ some. subst (λ l. AreCovers G l L) c.as_slice-2.ensures covers;
      whole = λ e. absurd (let t = c.if-is_empty.ensures.1 e in cc);
    }) c.covers.ensures

pub returns-clause-irredundant : goal.returns-clause-irredundant
returns-clause-irredundant c =
    let G = c.args.table.now in
    let gaps = c.args.special.now in
    let chosen = c.in_ok-chosen.chosen in
    let chosen_from = subst (λ l. IsChosen G [] (reverse l) chosen) c.as_slice.ensures c.in_ok-chosen.ensures.chosen in
    let span = c.requires.span.1 in
    let some : 0 < length gaps = some-entry gaps (λ e. absurd (let t = c.if-is_empty.ensures.1 e in cc)) in
    IfOk-weaker c.covers.result (AreCovers G c.as_slice-2.result.now) (IsIrredundant G)
    (λ L covers. covers-irredundant G gaps chosen L span.0 c.requires.special chosen_from (subst (λ l. AreCovers G l L) c.as_slice-2.ensures covers) span.1 some) c.covers.ensures
