-- Plays that were left before their end.
use Rattle.std.proofs.Common.{◌≡◌, ℕ, ◌+◌, List, [], ◌∷◌, ◌++◌, take, drop, Bool, true, false, Result, Ok, Err, Some, refl, sym, ap, subst, ◌∙◌, inl, inr, append_assoc}
use Rattle.std.proofs.lemmas.List.{append-nil, take-append-le}
use Rattle.sg_cut.specs.Cut.{Cut}
use Rattle.sg_cut.specs.Lines.{count_of_line_feeds, line_of}
use Rattle.sg_cut.specs.declared.outcome.Piece.{Piece}
use Rattle.sg_cut.specs.declared.outcome.Piece.TheVariants.{Statement}
use Rattle.sg_cut.proofs.Outcomes.{same_outcome, statement-append, text-append, rest-append}
use Rattle.sg_tree.specs.Tree.{Code}
use Rattle.sg_script.specs.Outcome.{a_tree, IsReadAs}
use Rattle.sg_script.proofs.OutcomeLemmas.{one-outcome}
use Rattle.sg_rows.specs.Asks.{Asking}
use Rattle.sg_rows.specs.declared.fault.Fault.{Fault}
use Rattle.sg_meaning.specs.Process.{Process, gives, refuses, reads, asks, sets, writes, Runs, Breaks}
use Rattle.sg_meaning.specs.Vars.{Vars, value_at, with_value}
use Rattle.sg_meaning.specs.Statements.{Going, on, ended, whole as meaning}
use Rattle.sg_meaning.proofs.OneEnd.{answer_one, end_one}
use Rattle.sg_play.specs.FaultLines.{fault_line}
use Rattle.sg_play.specs.Record.{Mark, Played, Record, Refusal, marked, out, err, done, refused, IsFrontOf}
use Rattle.sg_play.specs.Play.{Turn, stops, goes, refused_at, executed, Performs, Takes, PlaysFrom, last, next}
use Rattle.sg_play.specs.Left.{IsFirstStatement, GoesOn, LeftFrom, before, inside, telling, behind}
use Rattle.sg_play.proofs.Turns.{goes-one}
use Rattle.sg_play.proofs.Plays.{same-rest, same-turn, statement-more}

-- the first text is a front of the second
IsTextFront : List ℕ → List ℕ → Type 0
IsTextFront a b = (rest : List ℕ) × (b ≡ a ++ rest)

front-of-nothing : (a b : List ℕ) → a ≡ [] → IsTextFront a b
unfolding IsTextFront
front-of-nothing a b e = (b, ap (λ x. x ++ b) (sym e))

-- what a piece of a script wrote that was left is a front of what it writes
breaks-front : {A : Type 0} (n : ℕ) (p : Process A) (vars v v' : Vars) (end : Result A Fault) (t s : List ℕ) (asked : List Asking) → Breaks n p vars v t → Runs n p vars end v' s asked → IsTextFront t s
unfolding IsTextFront
breaks-front n (gives a) vars v v' end t s asked b r = front-of-nothing t s b.1
breaks-front n (refuses e) vars v v' end t s asked b r = front-of-nothing t s b.1
breaks-front n (reads x k) vars v v' end t s asked (inl b) r = front-of-nothing t s b.1
breaks-front n (reads x k) vars v v' end t s asked (inr b) r = breaks-front n (k (value_at vars x)) vars v v' end t s asked b r
breaks-front n (asks q k) vars v v' end t s asked (inl b) r = front-of-nothing t s b.1
breaks-front n (asks q k) vars v v' end t s asked (inr b) r =
    breaks-front n (k b.0) vars v v' end t s r.2 b.3 (subst (λ x. Runs n (k x) vars end v' s r.2) (answer_one n q r.0 b.0 r.1 b.1 r.3 b.2).0 r.5)
breaks-front n (sets x d p) vars v v' end t s asked (inl b) r = front-of-nothing t s b.1
breaks-front n (sets x d p) vars v v' end t s asked (inr b) r = breaks-front n p (with_value x d vars) v v' end t s asked b r
breaks-front n (writes o p) vars v v' end t s asked (inl b) r =
    (b.1 ++ r.0, r.1 ∙ ap (λ x. x ++ r.0) b.2 ∙ append_assoc t b.1 r.0)
breaks-front n (writes o p) vars v v' end t s asked (inr b) r =
    let f = breaks-front n p vars v v' end b.0 r.0 asked b.2 r.2 in
    (f.0, r.1 ∙ ap (λ x. o ++ x) f.1 ∙ sym (append_assoc o b.0 f.0) ∙ ap (λ x. x ++ f.0) (sym b.1))

-- what is written to one place, part by part
pub marked-append : (m : Mark) (a b : List ℕ) → marked m (a ++ b) ≡ marked m a ++ marked m b
marked-append m [] b = refl
marked-append m (x ∷ a) b = ap (λ r. (m, x) ∷ r) (marked-append m a b)

-- what stands first comes to what its tree does
first-performs : (budget : ℕ) (keep : Bool) {bytes : List ℕ} {begin end : ℕ} {c : Code} (piece : Piece) (whole : Bool) (passed feeds : ℕ) (vars : Vars) (t : Turn) → IsFirstStatement bytes begin end c →
    Cut bytes whole piece → Takes budget keep piece bytes passed feeds vars t → Performs budget keep (a_tree c) vars (passed + begin) (feeds + line_of bytes begin) t
first-performs budget keep {bytes} {begin} {end} {c} piece whole passed feeds vars t f d h =
    let same = same_outcome bytes whole piece (Statement begin end) d f.stands in
    let k = subst (λ x. Takes budget keep x bytes passed feeds vars t) same h in
    subst (λ o. Performs budget keep o vars (passed + begin) (feeds + line_of bytes begin) t) (one-outcome k.1 f.reads) k.2

-- what a turn has written begins with the statement's text
abbrev Writes : Turn → List ℕ → Type 0
Writes (stops p) text = IsFrontOf (marked out text) p.written
Writes (goes r asked refusals vars) text = IsFrontOf (marked out text) r

-- nothing follows
whole-front : (r : Record) → IsFrontOf r r
whole-front r = ([], sym (append-nil r))

refused-writes : (keep : Bool) (e : Fault) (text : List ℕ) (asked : List Asking) (vars : Vars) (place line : ℕ) → Writes (refused_at keep e text asked vars place line) text
refused-writes false e text asked vars place line = whole-front (marked out text)
refused-writes true e text asked vars place line = (marked err (fault_line e line), refl)

executed-writes : (keep : Bool) (r : Result Going Fault) (text : List ℕ) (asked : List Asking) (vars : Vars) (place line : ℕ) → Writes (executed keep r text asked vars place line) text
executed-writes keep (Ok on) text asked vars place line = whole-front (marked out text)
executed-writes keep (Ok ended) text asked vars place line = whole-front (marked out text)
executed-writes keep (Err e) text asked vars place line = refused-writes keep e text asked vars place line

-- a front of a front
front-twice : (a b c : Record) → IsFrontOf a b → IsFrontOf b c → IsFrontOf a c
front-twice a b c f g = (f.0 ++ g.0, g.1 ∙ ap (λ x. x ++ g.0) f.1 ∙ append_assoc a f.0 g.0)

-- a front of a text, as it is written
text-front : (t s : List ℕ) → IsTextFront t s → IsFrontOf (marked out t) (marked out s)
unfolding IsTextFront
text-front t s f = (marked out f.0, ap (marked out) f.1 ∙ marked-append out t f.0)

-- what a statement that was left had written is a front of what its turn writes
part-writes : (budget : ℕ) (keep : Bool) (c : Code) (vars v : Vars) (place line : ℕ) (text : List ℕ) (t : Turn) → Breaks budget (meaning c) vars v text → Performs budget keep (a_tree c) vars place line t → Writes t text
part-writes budget keep c vars v place line text t b k =
    let front = text-front text k.2 (breaks-front budget (meaning c) vars v k.1 k.0 text k.2 k.3 b k.4) in
    subst (λ t. Writes t text) (sym k.5) (longer (executed keep k.0 k.2 k.3 k.1 place line) front (executed-writes keep k.0 k.2 k.3 k.1 place line))
  where
    longer : (t : Turn) → IsFrontOf (marked out text) (marked out k.2) → Writes t k.2 → Writes t text
    longer (stops p) f w = front-twice (marked out text) (marked out k.2) p.written f w
    longer (goes r asked refusals vars') f w = front-twice (marked out text) (marked out k.2) r f w

-- where the first statement is gone on with, a play goes on with it
goes-on-with : (budget : ℕ) (keep whole : Bool) (bytes : List ℕ) (passed feeds end : ℕ) (vars vars' : Vars) (r : Record) (g : GoesOn budget keep bytes passed feeds end vars vars' r) (piece : Piece) (t : Turn) →
    Cut bytes whole piece → Takes budget keep piece bytes passed feeds vars t → (piece ≡ Statement g.begin end) × (t ≡ goes r g.asked g.refusals vars')
goes-on-with budget keep whole bytes passed feeds end vars vars' r g piece t c h = (
  same_outcome bytes whole piece (Statement g.begin end) c g.stands,
  same-turn budget keep whole bytes passed feeds vars piece (Statement g.begin end) t (goes r g.asked g.refusals vars') c g.stands h g.takes,
)

-- a front of what stands before more
front-before : (front r tail : Record) → IsFrontOf front r → IsFrontOf front (r ++ tail)
front-before front r tail f = (f.0 ++ tail, ap (λ x. x ++ tail) f.1 ∙ append_assoc front f.0 tail)

-- a play that was left has written a front of what the whole play writes
pub left-front : {budget : ℕ} {keep : Bool} {bytes : List ℕ} {passed feeds : ℕ} {vars : Vars} {r : Record} {whole : Bool} {p : Played} → LeftFrom budget keep bytes passed feeds vars r → PlaysFrom budget keep whole bytes passed feeds vars p →
    IsFrontOf r p.written
left-front {p = p} before d = (p.written, refl)
left-front {budget} {keep} {bytes} {passed} {feeds} {vars} {whole = whole} {p} (inside begin end c v text f b) (last piece d h) =
    part-writes budget keep c vars v (passed + begin) (feeds + line_of bytes begin) text (stops p) b (first-performs budget keep piece whole passed feeds vars (stops p) f d h)
left-front {budget} {keep} {bytes} {passed} {feeds} {vars} {whole = whole} (inside begin end c v text f b) (next {p = tail} begin' end' r qs rs vars' d h rest) =
    front-before (marked out text) r tail.written
    (part-writes budget keep c vars v (passed + begin) (feeds + line_of bytes begin) text (goes r qs rs vars') b (first-performs budget keep (Statement begin' end') whole passed feeds vars (goes r qs rs vars') f d h))
left-front {budget} {keep} {bytes} {passed} {feeds} {vars} {whole = whole} {p} (telling end v r g f) (last piece d h) =
    let same = (goes-on-with budget keep whole bytes passed feeds end vars v r g piece (stops p) d h).1 in absurd cc
left-front {budget} {keep} {bytes} {passed} {feeds} {vars} {whole = whole} (telling {front = front} end v r g f) (next {p = tail} begin' end' r' qs rs vars' d h rest) =
    let same = goes-one (goes-on-with budget keep whole bytes passed feeds end vars v r g (Statement begin' end') (goes r' qs rs vars') d h).1 in
    subst (λ x. IsFrontOf front (x ++ tail.written)) (sym same.0) (front-before front r tail.written f)
left-front {budget} {keep} {bytes} {passed} {feeds} {vars} {whole = whole} {p} (behind end v r more g left) (last piece d h) =
    let same = (goes-on-with budget keep whole bytes passed feeds end vars v r g piece (stops p) d h).1 in absurd cc
left-front {budget} {keep} {bytes} {passed} {feeds} {vars} {whole = whole} (behind end v r more g left) (next {p = tail} begin' end' r' qs rs vars' d h rest) =
    let both = goes-on-with budget keep whole bytes passed feeds end vars v r g (Statement begin' end') (goes r' qs rs vars') d h in
    let same = goes-one both.1 in
    let piece = both.0 in
    let stop : end' ≡ end = cc in
    let front = left-front left (same-rest budget keep whole bytes passed feeds end end' v vars' tail stop same.3 rest) in (
      front.0,
      ap (λ x. x ++ tail.written) same.0 ∙ ap (λ x. r ++ x) front.1 ∙ sym (append_assoc r more front.0),
    )

-- more bytes behind the first statement leave it
first-longer : {bytes : List ℕ} {begin end : ℕ} {c : Code} (more : List ℕ) → IsFirstStatement bytes begin end c → IsFirstStatement (bytes ++ more) begin end c
first-longer {bytes} {begin} {end} {c} more f = record {
  stands = statement-append bytes more begin end f.stands;
  reads = subst (λ s. IsReadAs s (a_tree c)) (sym (text-append bytes more begin end f.stands)) f.reads;
}

-- so it is gone on with over them
pub goes-longer : {budget : ℕ} {keep : Bool} {bytes : List ℕ} {passed feeds end : ℕ} {vars vars' : Vars} {r : Record} (more : List ℕ) → GoesOn budget keep bytes passed feeds end vars vars' r → GoesOn budget keep (bytes ++ more) passed feeds end vars vars' r
goes-longer {budget} {keep} {bytes} {passed} {feeds} {end} {vars} {vars'} {r} more g = record {
  begin = g.begin;
  asked = g.asked;
  refusals = g.refusals;
  stands = statement-append bytes more g.begin end g.stands;
  takes = statement-more budget keep g.begin end bytes more passed feeds vars (goes r g.asked g.refusals vars') g.stands g.takes;
}

-- what follows the first statement, left over more bytes
pub left-more : {budget : ℕ} {keep : Bool} {begin end : ℕ} {bytes : List ℕ} {vars : Vars} {r : Record} (passed feeds : ℕ) (more : List ℕ) → Cut bytes false (Statement begin end) →
    LeftFrom budget keep (drop end bytes ++ more) (passed + end) (feeds + count_of_line_feeds (take end bytes)) vars r →
    LeftFrom budget keep (drop end (bytes ++ more)) (passed + end) (feeds + count_of_line_feeds (take end (bytes ++ more))) vars r
left-more {budget} {keep} {begin} {end} {bytes} {vars} {r} passed feeds more c left =
    let rest = rest-append bytes more begin end c in
    let front = take-append-le end bytes more c.within in
    subst (λ xs. LeftFrom budget keep xs (passed + end) (feeds + count_of_line_feeds (take end (bytes ++ more))) vars r) (sym rest)
    (subst (λ xs. LeftFrom budget keep (drop end bytes ++ more) (passed + end) (feeds + count_of_line_feeds xs) vars r) (sym front) left)

-- a play that was left was left so over more bytes
pub left-longer : {budget : ℕ} {keep : Bool} {bytes : List ℕ} {passed feeds : ℕ} {vars : Vars} {r : Record} (more : List ℕ) → LeftFrom budget keep bytes passed feeds vars r → LeftFrom budget keep (bytes ++ more) passed feeds vars r
left-longer more before = before
left-longer more (inside begin end c v text f b) = inside begin end c v text (first-longer more f) b
left-longer more (telling end v r g f) = telling end v r (goes-longer more g) f
left-longer {passed = passed} {feeds} more (behind end v r later g left) = behind end v r later (goes-longer more g) (left-more {begin = g.begin} passed feeds more g.stands (left-longer more left))
