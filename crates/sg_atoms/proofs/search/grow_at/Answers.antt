use Rattle.std.proofs.Common.{◌≡◌, false, true, ◌+◌, ◌≤◌, ◌⊎◌, length, refl, sym, subst, ◌∙◌}
use Rattle.std.specs.Prelude.{Contains}
use Rattle.std.proofs.lemmas.Result.{on_ok_weaker, IfErr-weaker}
use Rattle.sg_nonunique.specs.Counts.{Exceeds}
use Rattle.sg_atoms.specs.Faults.{IsSpent}
use Rattle.sg_atoms.specs.Growth.{IsFree, IsGrowthAt}
use Rattle.sg_atoms.specs.Sets.{AreDifferent, IsAdded}
use Rattle.sg_atoms.proofs.FaultLemmas.{spent-weaker}
use Rattle.sg_atoms.proofs.GrowthLemmas.{nothing-gathers, gathered-many, gathers-longer, growth-is}
use Rattle.sg_atoms.proofs.search.grow_at.Goals as goal

pub returns-then-not-is_clear-clause-grown : goal.returns-then-not-is_clear-clause-grown
returns-then-not-is_clear-clause-grown c =
    let G = c.args.equations.now in
    let A = c.args.atoms.now in
    let p = c.args.vector.now in
    nothing-gathers (IsGrowthAt G A p c.args.place) c.args.next.now
    (λ q g.
    let same = growth-is G A p c.args.place q c.requires.places g ∙ sym c.in_ok-longer.ensures ∙ sym c.as_slice.ensures in
    let f : false ≡ true = c.if-not-is_clear.ensures.1 (subst (IsFree A) same g.1) in
    cc)

pub returns-clause-grown : goal.returns-clause-grown
returns-clause-grown c =
    on_ok_weaker c.insert_within.result
    (gathers-longer c.args.equations.now c.args.atoms.now c.args.vector.now c.args.place c.in_ok-longer.longer c.as_slice.result.now c.args.next.now c.insert_within.new.self
    c.requires.places c.requires.place c.in_ok-longer.ensures c.as_slice.ensures (c.if-not-leads_back.ensures.0 refl) (c.if-not-is_clear.ensures.0 refl))
    c.insert_within.ensures.ok

pub returns-clause-spent : goal.returns-clause-spent
returns-clause-spent c =
    let G = c.args.equations.now in
    let A = c.args.atoms.now in
    let p = c.args.vector.now in
    let old = c.args.next.now in
    let new = c.insert_within.new.self in
    IfErr-weaker c.insert_within.result
    (IsSpent (IsAdded old c.in_ok-longer.longer new × (c.args.room + 1 ≤ length new) × AreDifferent new))
    (IsSpent (Exceeds (λ q. Contains old q ⊎ IsGrowthAt G A p c.args.place q) c.args.room))
    (spent-weaker (λ (h : IsAdded old c.in_ok-longer.longer new × (c.args.room + 1 ≤ length new) × AreDifferent new).
    gathered-many (IsGrowthAt G A p c.args.place) old new c.args.room
    (gathers-longer G A p c.args.place c.in_ok-longer.longer c.as_slice.result.now old new c.requires.places c.requires.place c.in_ok-longer.ensures c.as_slice.ensures
    (c.if-not-leads_back.ensures.0 refl) (c.if-not-is_clear.ensures.0 refl) h.0) h.2 h.1))
    c.insert_within.ensures.spent
