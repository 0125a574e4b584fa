-- One turn of a play: what it comes to, and that what follows the bytes does not matter to a statement.
use Rattle.std.proofs.Common.{◌≡◌, ℕ, ◌+◌, Bool, true, false, List, [], Result, Ok, Err, Some, None, refl, sym, ap, subst, ◌∙◌}
use Rattle.std.specs.Prelude.{slice_range}
use Rattle.sg_cut.specs.Lines.{line_of}
use Rattle.sg_cut.specs.declared.outcome.Piece.{Piece}
use Rattle.sg_cut.specs.declared.outcome.Piece.TheVariants.{Statement, TooLong, Unfinished, End, Waiting}
use Rattle.sg_rows.specs.Asks.{Asking}
use Rattle.sg_rows.specs.declared.fault.Fault.{Fault}
use Rattle.sg_rows.specs.declared.fault.Fault.TheVariants as fault
use Rattle.sg_script.specs.Outcome.{Outcome, a_tree, too_deep, no_statement, IsReadAs}
use Rattle.sg_script.proofs.OutcomeLemmas.{one-outcome}
use Rattle.sg_meaning.specs.Vars.{Vars}
use Rattle.sg_meaning.specs.Statements.{Going, on, ended, whole as meaning}
use Rattle.sg_meaning.proofs.OneEnd.{end_one}
use Rattle.sg_play.specs.Record.{Record, Refusal, Played, Ending, done, refused, waiting, marked, out}
use Rattle.sg_play.specs.Play.{Turn, stops, goes, ends_at, refused_at, executed, Performs, Takes}

module _ (budget : ℕ) (keep : Bool) where
  -- a text that was read comes to one turn
  performs-one : (o : Outcome) (vars : Vars) (place line : ℕ) (t u : Turn) → Performs budget keep o vars place line t → Performs budget keep o vars place line u → t ≡ u
  performs-one (a_tree c) vars place line t u p q =
      let e = end_one budget (meaning c) vars p.0 q.0 p.1 q.1 p.2 q.2 p.3 q.3 p.4 q.4 in
      p.5
      ∙ ap (λ r. executed keep r p.2 p.3 p.1 place line) e.0
      ∙ ap (λ v. executed keep q.0 p.2 p.3 v place line) e.1
      ∙ ap (λ b. executed keep q.0 b p.3 q.1 place line) e.2
      ∙ ap (λ a. executed keep q.0 q.2 a q.1 place line) e.3
      ∙ sym q.5
  performs-one too_deep vars place line t u p q = p ∙ sym q
  performs-one no_statement vars place line t u p q = p ∙ sym q

  -- a piece comes to one turn
  pub takes-one : (piece : Piece) (bytes : List ℕ) (passed feeds : ℕ) (vars : Vars) (t u : Turn) → Takes budget keep piece bytes passed feeds vars t → Takes budget keep piece bytes passed feeds vars u → t ≡ u
  takes-one (Statement begin end) bytes passed feeds vars t u p q =
      performs-one p.0 vars (passed + begin) (feeds + line_of bytes begin) t u p.2
      (subst (λ o. Performs budget keep o vars (passed + begin) (feeds + line_of bytes begin) u) (sym (one-outcome p.1 q.1)) q.2)
  takes-one (TooLong begin) bytes passed feeds vars t u p q = p ∙ sym q
  takes-one (Unfinished begin) bytes passed feeds vars t u p q = p ∙ sym q
  takes-one End bytes passed feeds vars t u p q = p ∙ sym q
  takes-one Waiting bytes passed feeds vars t u p q = p ∙ sym q

  -- a piece comes to the same turn over bytes in which its text and its line are the same
  pub takes-same : (begin end : ℕ) (bytes longer : List ℕ) (passed feeds : ℕ) (vars : Vars) (t : Turn) →
      slice_range longer begin end ≡ slice_range bytes begin end → line_of longer begin ≡ line_of bytes begin →
      Takes budget keep (Statement begin end) bytes passed feeds vars t → Takes budget keep (Statement begin end) longer passed feeds vars t
  takes-same begin end bytes longer passed feeds vars t text line p = (
    p.0,
    subst (λ s. IsReadAs s p.0) (sym text) p.1,
    subst (λ l. Performs budget keep p.0 vars (passed + begin) (feeds + l) t) (sym line) p.2,
  )

-- a play that ended at a statement does not wait
stops-end : (p : Played) (text : List ℕ) (asked : List Asking) (e : Ending) (place : ℕ) → (e ≡ waiting → ⊥) → stops p ≡ ends_at text asked e place → p.ending ≡ waiting → ⊥
stops-end p text asked e place other s w =
    let q : p ≡ record { written = marked out text; asked = asked; refusals = []; ending = e; place = Some place } = cc in
    other (sym (ap (λ x. x.ending) q) ∙ w)

refused-ends : (keep : Bool) (f : Fault) (text : List ℕ) (asked : List Asking) (vars : Vars) (place line : ℕ) (p : Played) → stops p ≡ refused_at keep f text asked vars place line → p.ending ≡ waiting → ⊥
refused-ends false f text asked vars place line p s = stops-end p text asked (refused f line) place (λ e. cc) s
refused-ends true f text asked vars place line p s = absurd cc

executed-ends : (keep : Bool) (r : Result Going Fault) (text : List ℕ) (asked : List Asking) (vars : Vars) (place line : ℕ) (p : Played) → stops p ≡ executed keep r text asked vars place line → p.ending ≡ waiting → ⊥
executed-ends keep (Ok on) text asked vars place line p s = absurd cc
executed-ends keep (Ok ended) text asked vars place line p s = stops-end p text asked done place (λ e. cc) s
executed-ends keep (Err f) text asked vars place line p s = refused-ends keep f text asked vars place line p s

performs-ends : (budget : ℕ) (keep : Bool) (o : Outcome) (vars : Vars) (place line : ℕ) (p : Played) → Performs budget keep o vars place line (stops p) → p.ending ≡ waiting → ⊥
performs-ends budget keep (a_tree c) vars place line p h = executed-ends keep h.0 h.2 h.3 h.1 place line p h.5
performs-ends budget keep too_deep vars place line p h = refused-ends keep fault.Depth [] [] vars place line p h
performs-ends budget keep no_statement vars place line p h = refused-ends keep fault.Syntax [] [] vars place line p h

-- a play that is stopped at its first piece waits only where that is all that is there
pub waits-there : (budget : ℕ) (keep : Bool) (piece : Piece) (bytes : List ℕ) (passed feeds : ℕ) (vars : Vars) (p : Played) → Takes budget keep piece bytes passed feeds vars (stops p) → p.ending ≡ waiting → piece ≡ Waiting
waits-there budget keep (Statement begin end) bytes passed feeds vars p h w = absurd (performs-ends budget keep h.0 vars (passed + begin) (feeds + line_of bytes begin) p h.2 w)
waits-there budget keep (TooLong begin) bytes passed feeds vars p h w = absurd (stops-end p [] [] (refused fault.TooLong (feeds + line_of bytes begin)) (passed + begin) (λ e. cc) h w)
waits-there budget keep (Unfinished begin) bytes passed feeds vars p h w = absurd (stops-end p [] [] (refused fault.Syntax (feeds + line_of bytes begin)) (passed + begin) (λ e. cc) h w)
waits-there budget keep End bytes passed feeds vars p h w = absurd (let q : p ≡ record { written = []; asked = []; refusals = []; ending = done; place = None } = cc in let e : done ≡ waiting = sym (ap (λ x. x.ending) q) ∙ w in cc)
waits-there budget keep Waiting bytes passed feeds vars p h w = refl

-- it has written nothing then, asked for nothing and passed nothing
pub waiting-is : (budget : ℕ) (keep : Bool) (bytes : List ℕ) (passed feeds : ℕ) (vars : Vars) (p : Played) → Takes budget keep Waiting bytes passed feeds vars (stops p) → p ≡ record { written = []; asked = []; refusals = []; ending = waiting; place = None }
waiting-is budget keep bytes passed feeds vars p h = cc

pub waits-empty : (budget : ℕ) (keep : Bool) (piece : Piece) (bytes : List ℕ) (passed feeds : ℕ) (vars : Vars) (p : Played) → Takes budget keep piece bytes passed feeds vars (stops p) → p.ending ≡ waiting
    → p ≡ record { written = []; asked = []; refusals = []; ending = waiting; place = None }
waits-empty budget keep piece bytes passed feeds vars p h w =
    waiting-is budget keep bytes passed feeds vars p (subst (λ x. Takes budget keep x bytes passed feeds vars (stops p)) (waits-there budget keep piece bytes passed feeds vars p h w) h)

-- where only more bytes are waited for, the play waits
pub waiting-waits : (budget : ℕ) (keep : Bool) (bytes : List ℕ) (passed feeds : ℕ) (vars : Vars) (p : Played) → Takes budget keep Waiting bytes passed feeds vars (stops p) → p.ending ≡ waiting
waiting-waits budget keep bytes passed feeds vars p h = ap (λ x. x.ending) (waiting-is budget keep bytes passed feeds vars p h)

-- what is gone on with is one
pub goes-one : {r r' : Record} {asked asked' : List Asking} {refusals refusals' : List Refusal} {vars vars' : Vars} → goes r asked refusals vars ≡ goes r' asked' refusals' vars'
    → (r ≡ r') × (asked ≡ asked') × (refusals ≡ refusals') × (vars ≡ vars')
goes-one e = (cc, cc, cc, cc)
