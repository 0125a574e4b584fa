use Rattle.std.proofs.Common.{slice_get, IsSome, ap, sym, ◌∙◌, subst}
use Rattle.std.specs.List.{IsDistinct}
use Rattle.sg_value.specs.Known.{Known}
use Rattle.sg_store.specs.Fit.{IsLawfulRelative}
use Rattle.sg_store.specs.Held.{lists_of, known_by, same_ideal_key, AllIdealsFit, IsFitKey}
use Rattle.sg_store.specs.Interned.{IsIdealInterned}
use Rattle.sg_store.specs.Keyed.{ideal_over}
use Rattle.sg_store.specs.declared.key.IdealKey.{IdealKey}
use Rattle.sg_store.proofs.Interning.{ideals_fit_inserted, ideal_interned}
use Rattle.sg_store.proofs.ids.Ids.intern_ideal.Goals as goal

pub invariant_of-self : goal.invariant_of-self
invariant_of-self c =
    let same = sym c.in_err-index.ensures.err in
    record {
      fit = c.self.invariant.fit;
      unique = c.self.invariant.unique;
      ideals_fit = subst (AllIdealsFit (lists_of c.self.inside.keys.keys)) same c.self.invariant.ideals_fit;
      ideals_unique = c.insert_full.ensures.unique;
    }

pub invariant_of-self-2 : goal.invariant_of-self-2
invariant_of-self-2 c =
    let keys = c.self.inside.keys.keys in
    let k : IdealKey = record { ambient = c.args.ambient; list = c.args.gens } in
    let known : IsFitKey (lists_of keys) k = record {
      ambient = subst (λ (l : Known). IsSome (slice_get l.semigroups c.args.ambient)) (sym c.self.view_is) c.requires.known;
      fit = subst (λ (l : Known). IsLawfulRelative (ideal_over l c.args.ambient c.args.gens)) (sym c.self.view_is) c.requires.fit;
    } in
    record {
      fit = c.self.invariant.fit;
      unique = c.self.invariant.unique;
      ideals_fit = subst (AllIdealsFit (lists_of keys)) (sym c.in_ok-index.ensures.keys) (ideals_fit_inserted keys c.self.invariant.unique c.self.inside.ideals.keys c.self.invariant.ideals_fit k known);
      ideals_unique = c.insert_full.ensures.unique;
    }

pub returns-clause-interned : goal.returns-clause-interned
returns-clause-interned c =
    let keys = c.self.inside.keys.keys in
    let ideals = c.self.inside.ideals.keys in
    let k : IdealKey = record { ambient = c.args.ambient; list = c.args.gens } in
    let known : IsFitKey (lists_of keys) k = record {
      ambient = subst (λ (l : Known). IsSome (slice_get l.semigroups c.args.ambient)) (sym c.self.view_is) c.requires.known;
      fit = subst (λ (l : Known). IsLawfulRelative (ideal_over l c.args.ambient c.args.gens)) (sym c.self.view_is) c.requires.fit;
    } in
    let stored = c.in_ok-index.ensures.stored in
    let after = c.in_ok-index.ensures.keys in
    let id = c.in_ok-index.index in
    let here = ideal_interned keys c.self.invariant.unique ideals c.self.invariant.ideals_fit k known stored.0 id (ap (λ l. slice_get l id) (sym after) ∙ stored.1) stored.2 c.self.invariant.ideals_unique (subst (λ l. IsDistinct same_ideal_key l) after c.insert_full.ensures.unique) in
    let seen = subst (λ l. IsIdealInterned (known_by keys ideals) (known_by keys l) (ideal_over (known_by keys ideals) c.args.ambient c.args.gens) id) (sym after) here in
    let named = subst (λ (l : Known). IsIdealInterned l (known_by keys c.insert_full.new.self.keys) (ideal_over l c.args.ambient c.args.gens) id) c.self.view_is seen in
    subst (λ i. IsIdealInterned c.args.self.now (known_by keys c.insert_full.new.self.keys) (ideal_over c.args.self.now c.args.ambient c.args.gens) i) (sym c.new.ensures) named
