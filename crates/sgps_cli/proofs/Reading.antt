-- What a read of a window gave to a play.
use Rattle.std.proofs.Common.{◌≡◌, ℕ, ◌<◌, ◌≤◌, List, [], Option, Result, Ok, Err, refl, subst}
use Rattle.std.specs.Prelude.{IfSome}
use Rattle.sg_io.specs.declared.source.Failed.{Failed}
use Rattle.sg_cut.specs.declared.limits.TheConstants.{SCRIPT_LIMIT}
use Rattle.sg_window.specs.Window.{State, Fills}
use Rattle.sg_window.specs.declared.answers.Filled.{Filled}
use Rattle.sg_window.specs.declared.answers.Filled.TheVariants.{Got, End}
use Rattle.sgps_cli.specs.Playing.{ReadsMore}
use Rattle.sgps_cli.specs.Playing.{ReadsMore as reads}
use Rattle.sgps_cli.specs.declared.passed.Passed.{Passed}
use Rattle.sgps_cli.specs.declared.play.Turn.TheVariants as turn
use Rattle.sgps_cli.specs.declared.ending.Cause.TheVariants as cause

module _ (passed : Passed) (w w' : State) (got : List ℕ) (rest : Option (List ℕ)) (r : Result Filled Failed) (fills : Fills r got w w') (few : w.taken < SCRIPT_LIMIT) where
  -- bytes were read, or the end was seen
  pub filled-reads : (f : Filled) → r ≡ Ok f → w'.taken ≤ SCRIPT_LIMIT → (r ≡ Ok End → IfSome rest (λ bs. bs ≡ [])) → ReadsMore passed w w' got rest (turn.Goes passed)
  filled-reads Got is limit over = let k : Fills (Ok Got) got w w' = subst (λ x. Fills x got w w') is fills in reads.gets k.1 k.0 limit
  filled-reads End is limit over = let k : Fills (Ok End) got w w' = subst (λ x. Fills x got w w') is fills in reads.at_end k.0 k.1 few (over is)

  -- the source failed
  pub failed-reads : (e : Failed) → r ≡ Err e → ReadsMore passed w w' got rest (turn.Stops cause.ReadFault)
  failed-reads e is = let k : Fills (Err e) got w w' = subst (λ x. Fills x got w w') is fills in reads.fails k.0 k.1 few

-- a script may have no more
pub full-reads : (passed : Passed) (w : State) (rest : Option (List ℕ)) → w.taken ≡ SCRIPT_LIMIT → ReadsMore passed w w [] rest (turn.Stops cause.Overlong)
full-reads passed w rest all = reads.full refl refl all
