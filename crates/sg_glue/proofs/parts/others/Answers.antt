use Rattle.std.proofs.Common.{ℕ, ◌≡◌, ◌<◌, ◌∷◌, ◌++◌, [], ◌+◌, length, take, get_or, sym, subst, ◌∙◌, arith}
use Rattle.std.specs.Prelude.{Contains}
use Rattle.std.specs.List.Sorted.{IsStrictlyIncreasing}
use Rattle.std.proofs.lemmas.Bool.{false≢true}
use Rattle.sg_glue.proofs.PartLemmas.{IsKept, kept-push, kept-skip, kept-all, kept-ascending}
use Rattle.sg_glue.proofs.parts.others.Goals as goal
use Rattle.sg_glue.proofs.parts.others.Goals.{then-not-is_among+in_ok-push, else-not-is_among}

pub loop-entry-preserved : goal.loop-entry-preserved
loop-entry-preserved c =
    let P : ℕ → Type 0 = λ g. Contains c.args.taken.now g → ⊥ in
    let xs = c.args.entries.now in
    let i = c.loop-entry.entry-index in
    let l = c.loop-entry.rest in
    let inside : i < length xs = c.loop-entry-test.true in
    let inv = c.loop-entry.invariant in
    elim c.if-not-is_among.branch [
      | then-not-is_among+in_ok-push w ↦
          let made : c.if-not-is_among.rest ≡ l ++ get_or xs i 0 ∷ [] = rw w.rest-is w.in_ok-push.ensures.ok in
          let not : P (get_or xs i 0) = λ h. false≢true (sym w.if-not-is_among.true ∙ c.is_among.ensures.1 h) in
          record {
            ascending = subst IsStrictlyIncreasing (sym made) (kept-ascending P xs i l c.requires inside inv.kept inv.ascending);
            kept = subst (IsKept P (take (i + 1) xs)) (sym made) (kept-push P xs i l inside not inv.kept);
          }
      | else-not-is_among w ↦
          let there : P (get_or xs i 0) → ⊥ = λ not. not (c.is_among.ensures.0 w.if-not-is_among.false) in
          record {
            ascending = rw w.rest-is inv.ascending;
            kept = rw w.rest-is (kept-skip P xs i l inside there inv.kept);
          }
    ]

pub returns-clause-exactly : goal.returns-clause-exactly
returns-clause-exactly c =
    kept-all (λ g. Contains c.args.taken.now g → ⊥) c.args.entries.now c.loop-entry.entry-index c.loop-entry.rest (omega (arith, c.loop-entry-test.false)) c.loop-entry.invariant.kept
