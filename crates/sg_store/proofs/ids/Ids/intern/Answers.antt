use Rattle.sg_store.proofs.ids.Ids.intern.Goals as goal
use Rattle.std.proofs.Common.{slice_get, ap, sym, ◌∙◌, subst}
use Rattle.std.specs.List.{IsDistinct}
use Rattle.sg_store.specs.Held.{lists_of, known_by, same_key, AllFit, AllIdealsFit}
use Rattle.sg_store.specs.Interned.{IsInterned}
use Rattle.sg_store.specs.declared.key.Key.{Key}
use Rattle.sg_store.proofs.Interning.{fit_inserted, lists_grow, ideals_fit-grows, interned}

pub invariant_of-self : goal.invariant_of-self
invariant_of-self c =
    let same = sym c.in_err-index.ensures.err in
    record {
      fit = subst AllFit same c.self.invariant.fit;
      unique = c.insert_full.ensures.unique;
      ideals_fit = subst (λ l. AllIdealsFit (lists_of l) c.self.inside.ideals.keys) same c.self.invariant.ideals_fit;
      ideals_unique = c.self.invariant.ideals_unique;
    }

pub invariant_of-self-2 : goal.invariant_of-self-2
invariant_of-self-2 c =
    let old = c.self.inside.keys.keys in
    let k : Key = record { list = c.args.gens } in
    let same = sym c.in_ok-index.ensures.keys in
    let grows = lists_grow old k c.self.inside.ideals.keys in
    record {
      fit = subst AllFit same (fit_inserted old k c.self.inside.ideals.keys c.self.invariant.fit c.requires);
      unique = c.insert_full.ensures.unique;
      ideals_fit = subst (λ l. AllIdealsFit (lists_of l) c.self.inside.ideals.keys) same (ideals_fit-grows (lists_of old) _ grows c.self.inside.ideals.keys c.self.invariant.ideals_fit);
      ideals_unique = c.self.invariant.ideals_unique;
    }

pub returns-clause-interned : goal.returns-clause-interned
returns-clause-interned c =
    let old = c.self.inside.keys.keys in
    let ideals = c.self.inside.ideals.keys in
    let k : Key = record { list = c.args.gens } in
    let stored = c.in_ok-index.ensures.stored in
    let keys = c.in_ok-index.ensures.keys in
    let id = c.in_ok-index.index in
    let here = interned old k ideals c.self.invariant.ideals_fit stored.0 id (ap (λ l. slice_get l id) (sym keys) ∙ stored.1) stored.2 (subst (λ l. IsDistinct same_key l) keys c.insert_full.ensures.unique) in
    let seen = subst (λ l. IsInterned (known_by old ideals) (known_by l ideals) c.args.gens id) (sym keys) here in
    let named = subst (λ l. IsInterned l (known_by c.insert_full.new.self.keys ideals) c.args.gens id) c.self.view_is seen in
    subst (λ i. IsInterned c.args.self.now (known_by c.insert_full.new.self.keys ideals) c.args.gens i) (sym c.new.ensures) named
