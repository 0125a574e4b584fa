-- How far a play has come, and what it comes to from there.
use Rattle.std.proofs.Common.{◌≡◌, ℕ, ◌+◌, List, [], ◌++◌, take, drop, length, Bool, false, refl, sym, ap, subst, ◌∙◌, append_assoc, arith, length-append, length-drop}
use Rattle.std.proofs.lemmas.List.{append-nil}
use Rattle.sg_cut.specs.Cut.{StandsAt}
use Rattle.sg_cut.specs.Lines.{count_of_line_feeds}
use Rattle.sg_cut.specs.declared.outcome.Piece.TheVariants.{Statement}
use Rattle.sg_cut.proofs.Outcomes.{statement-append}
use Rattle.sg_rows.specs.Asks.{Asking}
use Rattle.sg_meaning.specs.Vars.{Vars}
use Rattle.sg_play.specs.Record.{Played, Record, Refusal, after}
use Rattle.sg_play.specs.Play.{goes, Takes, PlaysFrom, Play, next}
use Rattle.sg_play.specs.Left.{GoesOn, LeftFrom, IsLeft, behind}
use Rattle.sg_play.proofs.Plays.{statement-more, rest-more}
use Rattle.sg_play.proofs.Leaving.{goes-longer, left-more}
use Rattle.sgps_cli.specs.Playing.{IsAt}

-- at the beginning nothing was played
pub at-first : (budget : ℕ) (keep : Bool) → IsAt budget keep [] [] 0 [] [] [] []
at-first budget keep = record { passed = 0; counted = refl; onward = λ more whole p d. d; left = λ more r l. l }

-- what two parts of a play wrote, asked for and passed
after-twice : (a b : Record) (xs ys : List Asking) (rs ss : List Refusal) (p : Played) → after a xs rs (after b ys ss p) ≡ after (a ++ b) (xs ++ ys) (rs ++ ss) p
after-twice a b xs ys rs ss p =
    ap (λ (w : Record). record { written = w; asked = xs ++ (ys ++ p.asked); refusals = rs ++ (ss ++ p.refusals); ending = p.ending; place = p.place }) (sym (append_assoc a b p.written))
    ∙ ap (λ (zs : List Asking). record { written = (a ++ b) ++ p.written; asked = zs; refusals = rs ++ (ss ++ p.refusals); ending = p.ending; place = p.place }) (sym (append_assoc xs ys p.asked))
    ∙ ap (λ (qs : List Refusal). record { written = (a ++ b) ++ p.written; asked = (xs ++ ys) ++ p.asked; refusals = qs; ending = p.ending; place = p.place }) (sym (append_assoc rs ss p.refusals))

module _ {budget : ℕ} {keep : Bool} {bytes held : List ℕ} {feeds : ℕ} {vars : Vars} {asked : List Asking} {refusals : List Refusal} {written : Record} (a : IsAt budget keep bytes held feeds vars asked refusals written) where
  -- more bytes were read
  pub at-read : (got : List ℕ) → IsAt budget keep (bytes ++ got) (held ++ got) feeds vars asked refusals written
  at-read got = record {
    passed = a.passed;
    counted = omega (arith, a.counted, length-append bytes got, length-append held got);
    onward = λ more whole p d.
        subst (λ b. Play b whole budget keep (after written asked refusals p)) (sym (append_assoc bytes got more))
        (a.onward (got ++ more) whole p (subst (λ h. PlaysFrom budget keep whole h a.passed feeds vars p) (append_assoc held got more) d));
    left = λ more r l.
        subst (λ b. IsLeft b budget keep (written ++ r)) (sym (append_assoc bytes got more))
        (a.left (got ++ more) r (subst (λ h. LeftFrom budget keep h a.passed feeds vars r) (append_assoc held got more) l));
  }

  -- the first statement was gone on with
  pub at-behind : (begin end : ℕ) (s : Record) (more_asked : List Asking) (fresh : List Refusal) (vars' : Vars) → StandsAt held begin end
      → Takes budget keep (Statement begin end) held a.passed feeds vars (goes s more_asked fresh vars')
      → IsAt budget keep bytes (drop end held) (feeds + count_of_line_feeds (take end held)) vars' (asked ++ more_asked) (refusals ++ fresh) (written ++ s)
  at-behind begin end s more_asked fresh vars' stands takes =
      let g : GoesOn budget keep held a.passed feeds end vars vars' s = record { begin = begin; asked = more_asked; refusals = fresh; stands = stands; takes = takes } in
      record {
        passed = a.passed + end;
        counted = omega (arith, a.counted, stands.within, length-drop end held);
        onward = λ more whole p d.
            subst (Play (bytes ++ more) whole budget keep) (after-twice written s asked more_asked refusals fresh p)
            (a.onward more whole (after s more_asked fresh p) (next begin end s more_asked fresh vars' (statement-append held more begin end stands)
            (statement-more budget keep begin end held more a.passed feeds vars (goes s more_asked fresh vars') stands takes) (rest-more budget keep whole begin end held more a.passed feeds vars' p stands d)));
        left = λ more t l.
            subst (IsLeft (bytes ++ more) budget keep) (sym (append_assoc written s t))
            (a.left more (s ++ t) (behind end vars' s t (goes-longer more g) (left-more {begin = begin} a.passed feeds more stands l)));
      }

  -- what is held is played, and so is all
  pub plays-out : (whole : Bool) (p : Played) → PlaysFrom budget keep whole held a.passed feeds vars p → Play bytes whole budget keep (after written asked refusals p)
  plays-out whole p d =
      subst (λ b. Play b whole budget keep (after written asked refusals p)) (append-nil bytes)
      (a.onward [] whole p (subst (λ h. PlaysFrom budget keep whole h a.passed feeds vars p) (sym (append-nil held)) d))

  -- what is held is left, and so is all
  pub left-out : (r : Record) → LeftFrom budget keep held a.passed feeds vars r → IsLeft bytes budget keep (written ++ r)
  left-out r l =
      subst (λ b. IsLeft b budget keep (written ++ r)) (append-nil bytes)
      (a.left [] r (subst (λ h. LeftFrom budget keep h a.passed feeds vars r) (sym (append-nil held)) l))
