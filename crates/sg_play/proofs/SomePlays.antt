-- Some bytes are played to an end: a first piece is there, it comes to a turn, and behind a statement fewer bytes are left.
use Rattle.std.proofs.Common.{◌≡◌, ℕ, zero, suc, ◌+◌, ◌-◌, ◌<◌, ◌≤◌, List, [], length, take, drop, Bool, true, false, Result, Ok, Err, refl, length-drop, arith}
use Rattle.std.specs.Prelude.{slice_range, ⊤}
use Rattle.sg_cut.specs.Cut.{Cut}
use Rattle.sg_cut.specs.Lines.{count_of_line_feeds, line_of}
use Rattle.sg_cut.specs.declared.outcome.Piece.{Piece}
use Rattle.sg_cut.specs.declared.outcome.Piece.TheVariants.{Statement, TooLong, Unfinished, End, Waiting}
use Rattle.sg_cut.proofs.Outcomes.{outcome_found}
use Rattle.sg_rows.specs.Asks.{Asking}
use Rattle.sg_rows.specs.declared.fault.Fault.{Fault}
use Rattle.sg_rows.specs.declared.fault.Fault.TheVariants as fault
use Rattle.sg_script.specs.Outcome.{Outcome, a_tree, too_deep, no_statement}
use Rattle.sg_script.proofs.SomeOutcome.{some-outcome}
use Rattle.sg_meaning.specs.Vars.{Vars}
use Rattle.sg_meaning.specs.Lawful.{AreLawfulVars}
use Rattle.sg_meaning.specs.Statements.{Going, on, ended, whole as meaning}
use Rattle.sg_meaning.proofs.LawfulStatements.{statement_some}
use Rattle.sg_play.specs.Record.{Played, done, refused, waiting, after}
use Rattle.sg_play.specs.Play.{Turn, stops, goes, ends_at, ends_between, refused_at, executed, Performs, Takes, PlaysFrom, last, next}

-- the variables with which a play goes on are lawful
abbrev IsLawfulTurn : Turn → Type 0
IsLawfulTurn (stops p) = ⊤
IsLawfulTurn (goes r asked refusals vars) = AreLawfulVars vars

refused_lawful : (keep : Bool) (e : Fault) (text : List ℕ) (asked : List Asking) (vars : Vars) (place line : ℕ) → AreLawfulVars vars → IsLawfulTurn (refused_at keep e text asked vars place line)
refused_lawful false e text asked vars place line h = tt
refused_lawful true e text asked vars place line h = h

executed_lawful : (keep : Bool) (r : Result Going Fault) (text : List ℕ) (asked : List Asking) (vars : Vars) (place line : ℕ) → AreLawfulVars vars → IsLawfulTurn (executed keep r text asked vars place line)
executed_lawful keep (Ok on) text asked vars place line h = h
executed_lawful keep (Ok ended) text asked vars place line h = tt
executed_lawful keep (Err e) text asked vars place line h = refused_lawful keep e text asked vars place line h

performs_some : (budget : ℕ) (keep : Bool) (o : Outcome) (vars : Vars) (place line : ℕ) → AreLawfulVars vars → (t : Turn) × Performs budget keep o vars place line t × IsLawfulTurn t
performs_some budget keep (a_tree c) vars place line h =
    let e = statement_some budget c vars h in
    (executed keep e.0 e.2 e.3 e.1 place line, (e.0, e.1, e.2, e.3, e.4, refl), executed_lawful keep e.0 e.2 e.3 e.1 place line e.6)
performs_some budget keep too_deep vars place line h = (refused_at keep fault.Depth [] [] vars place line, refl, refused_lawful keep fault.Depth [] [] vars place line h)
performs_some budget keep no_statement vars place line h = (refused_at keep fault.Syntax [] [] vars place line, refl, refused_lawful keep fault.Syntax [] [] vars place line h)

takes_some : (budget : ℕ) (keep : Bool) (piece : Piece) (bytes : List ℕ) (passed feeds : ℕ) (vars : Vars) → AreLawfulVars vars → (t : Turn) × Takes budget keep piece bytes passed feeds vars t × IsLawfulTurn t
takes_some budget keep (Statement begin end) bytes passed feeds vars h =
    let o = some-outcome (slice_range bytes begin end) in
    let t = performs_some budget keep o.0 vars (passed + begin) (feeds + line_of bytes begin) h in
    (t.0, (o.0, o.1, t.1), t.2)
takes_some budget keep (TooLong begin) bytes passed feeds vars h = (ends_at [] [] (refused fault.TooLong (feeds + line_of bytes begin)) (passed + begin), refl, tt)
takes_some budget keep (Unfinished begin) bytes passed feeds vars h = (ends_at [] [] (refused fault.Syntax (feeds + line_of bytes begin)) (passed + begin), refl, tt)
takes_some budget keep End bytes passed feeds vars h = (ends_between done, refl, tt)
takes_some budget keep Waiting bytes passed feeds vars h = (ends_between waiting, refl, tt)

module _ (budget : ℕ) (keep whole : Bool) where
  -- a play is there of all shorter bytes
  Shorter : List ℕ → Type 0
  Shorter bytes = (rest : List ℕ) (passed feeds : ℕ) (vars : Vars) → length rest < length bytes → AreLawfulVars vars → (p : Played) × PlaysFrom budget keep whole rest passed feeds vars p

  goes_on : (bytes : List ℕ) (begin end passed feeds : ℕ) (vars : Vars) → Shorter bytes → Cut bytes whole (Statement begin end) → (t : Turn) →
      Takes budget keep (Statement begin end) bytes passed feeds vars t → IsLawfulTurn t → (p : Played) × PlaysFrom budget keep whole bytes passed feeds vars p
  unfolding Shorter
  goes_on bytes begin end passed feeds vars shorter cut (stops p) h l = (p, last (Statement begin end) cut h)
  goes_on bytes begin end passed feeds vars shorter cut (goes r asked refusals vars') h l =
      let more = shorter (drop end bytes) (passed + end) (feeds + count_of_line_feeds (take end bytes)) vars' (omega (arith, length-drop end bytes, cut.some, cut.within)) l in
      (after r asked refusals more.0, next begin end r asked refusals vars' cut h more.1)

  from_piece : (bytes : List ℕ) (passed feeds : ℕ) (vars : Vars) → AreLawfulVars vars → Shorter bytes → (piece : Piece) → Cut bytes whole piece →
      (p : Played) × PlaysFrom budget keep whole bytes passed feeds vars p
  from_piece bytes passed feeds vars l shorter (Statement begin end) cut =
      let t = takes_some budget keep (Statement begin end) bytes passed feeds vars l in
      goes_on bytes begin end passed feeds vars shorter cut t.0 t.1 t.2
  from_piece bytes passed feeds vars l shorter (TooLong begin) cut = (_, last (TooLong begin) cut refl)
  from_piece bytes passed feeds vars l shorter (Unfinished begin) cut = (_, last (Unfinished begin) cut refl)
  from_piece bytes passed feeds vars l shorter End cut = (_, last End cut refl)
  from_piece bytes passed feeds vars l shorter Waiting cut = (_, last Waiting cut refl)

  plays_below : (k : ℕ) (bytes : List ℕ) (passed feeds : ℕ) (vars : Vars) → length bytes < k → AreLawfulVars vars → (p : Played) × PlaysFrom budget keep whole bytes passed feeds vars p
  unfolding Shorter
  plays_below zero bytes passed feeds vars short l = absurd (omega arith)
  plays_below (suc k) bytes passed feeds vars short l =
      let c = outcome_found bytes whole in
      from_piece bytes passed feeds vars l (λ rest passed' feeds' vars' less h. plays_below k rest passed' feeds' vars' (omega arith) h) c.0 c.1

  -- any bytes are played, from lawful variables on
  pub plays_some : (bytes : List ℕ) (passed feeds : ℕ) (vars : Vars) → AreLawfulVars vars → (p : Played) × PlaysFrom budget keep whole bytes passed feeds vars p
  plays_some bytes passed feeds vars l = plays_below (length bytes + 1) bytes passed feeds vars (omega arith) l
