use Rattle.std.proofs.Common.{◌≡◌, ℕ, ◌<◌, ◌≤◌, Bool, List, length, get_or, sym, subst, arith}
use Rattle.sg_defs.specs.Membership.{IsNumericalSemigroup, Generates}
use Rattle.sg_defs.proofs.MembershipLemmas.{member-zero, member-entry}
use Rattle.sg_classes.specs.declared.limits.TheConstants.{MULTIPLICITY_LIMIT}
use Rattle.sg_classes.specs.Classes.{IsAboveEntry, IsKunz}
use Rattle.sg_apery.specs.Conditions.{IsAperyRefused}
use Rattle.sg_classes.specs.Fit.{IsTooLarge}
use Rattle.sg_apery.specs.declared.fault.TableFault.TheVariants.{BadArgument, TooLarge}
use Rattle.sg_classes.proofs.EntryLemmas.{generates-iff, too_large-iff}
use Rattle.sg_closure.specs.Marks.{IsIn, AreLeastIn, IsAbove}
use Rattle.sg_lawful.specs.Spans.{IsShort}
use Rattle.sg_closure.proofs.FitLemmas.{not-too_large}
use Rattle.sg_closure.proofs.MarkLemmas.{marks-kunz, in-above_entry}
use Rattle.sg_closure.proofs.marks.marked_table.Goals as goal

module _ (G : List ℕ) (marks : List Bool) (m : ℕ) (list : List ℕ) (s : IsNumericalSemigroup G) (first : m ≡ get_or G 0 0) (h : AreLeastIn marks m list) (above : IsAbove G marks) where
  positive : 0 < m
  positive = omega (arith, first, s.positive 0 0 s.not_empty)

  modulus_in : IsIn marks m
  modulus_in = subst (IsIn marks) (sym first) (above.holds (get_or G 0 0) (member-entry G 0 s.not_empty))

  kunz : IsKunz list
  kunz = marks-kunz marks m list positive h (above.holds 0 (member-zero G)) modulus_in above.sums

  generated : (M : List ℕ) → Generates (IsAboveEntry list) M → Generates (IsIn marks) M
  generated M g = generates-iff (IsIn marks) (IsAboveEntry list) (in-above_entry marks m list positive h (above.holds 0 (member-zero G)) modulus_in above.sums) M g

  fits : IsShort G → get_or G 0 0 ≤ MULTIPLICITY_LIMIT → IsTooLarge (IsAboveEntry list) → ⊥
  fits short small large = not-too_large G short s small (IsIn marks) above.holds
      (too_large-iff (IsIn marks) (IsAboveEntry list) (in-above_entry marks m list positive h (above.holds 0 (member-zero G)) modulus_in above.sums) large)

-- the list that is handed on
same : (marks : List Bool) (m : ℕ) (list now : List ℕ) → now ≡ list → AreLeastIn marks m list → AreLeastIn marks m now
same marks m list now e h = subst (AreLeastIn marks m) (sym e) h

pub returns-in-Ok : goal.returns-in-Ok
returns-in-Ok c = record {
  generated =
      let m = length c.apery.result.now in
      generated c.args.table.now c.args.marks.now m c.deref.result.now c.apery.ensures.semigroup c.apery.ensures.entries
      (same c.args.marks.now m c.in_ok-list.list.items c.deref.result.now c.deref.ensures.value c.in_ok-list.ensures) c.requires.above c.in-Ok.found c.in-Ok.ensures.generated;
}

pub unreachable-requires : goal.unreachable-requires
unreachable-requires c =
    let m = length c.apery.result.now in
    let refused : IsAperyRefused c.deref.result.now BadArgument = subst (IsAperyRefused c.deref.result.now) c.in-Err-BadArgument.field-0-is c.in-Err-BadArgument.ensures.refused in
    refused (kunz c.args.table.now c.args.marks.now m c.deref.result.now c.apery.ensures.semigroup c.apery.ensures.entries
    (same c.args.marks.now m c.in_ok-list.list.items c.deref.result.now c.deref.ensures.value c.in_ok-list.ensures) c.requires.above)

pub unreachable-requires-in-Err-TooLarge : goal.unreachable-requires-in-Err-TooLarge
unreachable-requires-in-Err-TooLarge c =
    let m = length c.apery.result.now in
    let refused : IsAperyRefused c.deref.result.now TooLarge = subst (IsAperyRefused c.deref.result.now) c.in-Err-TooLarge.field-0-is c.in-Err-TooLarge.ensures.refused in
    fits c.args.table.now c.args.marks.now m c.deref.result.now c.apery.ensures.semigroup c.apery.ensures.entries
    (same c.args.marks.now m c.in_ok-list.list.items c.deref.result.now c.deref.ensures.value c.in_ok-list.ensures) c.requires.above
    c.requires.span (omega (arith, c.apery.ensures.short, c.apery.ensures.entries)) refused.1
