-- Turns that go on leave less to do.
use Rattle.std.proofs.Common.{◌≡◌, ℕ, ◌+◌, ◌<◌, ◌≤◌, List, ◌∷◌, ◌++◌, drop, length, Bool, true, false, Option, refl, ap, subst, arith, length-append, length-drop}
use Rattle.std.specs.Prelude.{if◌then◌else◌}
use Rattle.sg_cut.specs.declared.limits.TheConstants.{SCRIPT_LIMIT}
use Rattle.sg_window.specs.Comments.{Shortens}
use Rattle.sg_window.specs.Comments.Shortens.{whole, comment}
use Rattle.sg_window.specs.Window.{State, Holds}
use Rattle.sg_window.specs.Finds.{FindsStatement, WantsMore}
use Rattle.sg_window.proofs.Holding.{holds_at_once}
use Rattle.sgps_cli.specs.Playing.{Begun, IsReached, ReadsMore, IsGoing, work_of}
use Rattle.sgps_cli.specs.Playing.{ReadsMore as reads}
use Rattle.sg_eval.specs.State.{State as Machine}
use Rattle.sgps_cli.specs.Written.{Sinks}
use Rattle.sgps_cli.specs.declared.passed.Passed.{Passed}
use Rattle.sgps_cli.proofs.Counting.{counted-length}
use Rattle.sgps_cli.specs.declared.play.Turn.{Turn}
use Rattle.sgps_cli.specs.declared.play.Turn.TheVariants as turn

shorter : {bytes rest : List ℕ} → Shortens bytes rest → length rest ≤ length bytes
shorter whole = omega arith
shorter (comment {rest} body line) = omega (arith, length-append body rest)

-- a window holds no more than what it stands for
pub holds-less : {held : List ℕ} {feeds : ℕ} {w : State} → Holds held feeds w → length w.rest ≤ length held
holds-less h = omega (arith, ap length h.parted, length-append h.front h.tail, shorter h.held)

-- it stands for what it holds
pub holds-own : (w : State) → Holds w.rest w.feeds w
holds-own w = holds_at_once w.rest w.feeds w refl refl

-- the part of the end of the input
end-part : Bool → ℕ
end-part b = if b then 0 else 1

-- less is held behind a statement
pub statement-less : (line : ℕ) (w w' : State) → FindsStatement w.rest w.feeds line w w' → length w'.rest < length w.rest
statement-less line w w' f = omega (arith, holds-less f.behind, length-drop f.end w.rest, f.stands.some, f.stands.within)

-- and something is held where a statement is found
pub statement-some : (line : ℕ) (w w' : State) → FindsStatement w.rest w.feeds line w w' → 0 < length w.rest
statement-some line w w' f = omega (arith, statement-less line w w' f)

-- so a turn that executes it leaves less to do
pub statement-shrinks : (line : ℕ) (w w' : State) → FindsStatement w.rest w.feeds line w w' → w'.taken ≡ w.taken → w'.ended ≡ w.ended → work_of w' < work_of w
unfolding end-part
statement-shrinks line w w' f taken over = omega (arith, statement-less line w w' f, taken, ap end-part over)

-- and one that reads more
pub more-shrinks : (passed : Passed) (w w' w'' : State) (got : List ℕ) (rest : Option (List ℕ)) (t : Turn) → WantsMore w.rest w.feeds w w' → w'.taken ≡ w.taken → w'.ended ≡ w.ended →
    ReadsMore passed w' w'' got rest t → IsGoing t → work_of w'' < work_of w
unfolding end-part
more-shrinks passed w w' w'' got rest t m taken over (reads.gets is some within) g =
    omega (arith, holds-less m.same, taken, ap end-part over, ap (λ (x : State). x.taken) is, ap (λ (x : State). length x.rest) is, ap (λ (x : State). end-part x.ended) is, length-append w'.rest got, some, within)
more-shrinks passed w w' w'' got rest t m taken over (reads.at_end none is few empty) g =
    omega (arith, holds-less m.same, taken, ap end-part m.open_, ap (λ (x : State). x.taken) is, ap (λ (x : State). length x.rest) is, ap (λ (x : State). end-part x.ended) is)
more-shrinks passed w w' w'' got rest t m taken over (reads.fails none is few) g = absurd g
more-shrinks passed w w' w'' got rest t m taken over (reads.full none is all) g = absurd g

-- what is counted and what is held is no more than a script may have
pub counted-fits : {b : Begun} {w : State} {m : Machine} {passed : Passed} {rest : Option (List ℕ)} {now : Sinks} → IsReached b w m passed rest now → passed.count + length w.rest ≤ SCRIPT_LIMIT
counted-fits {passed = passed} r = omega (arith, counted-length r.refusals passed r.passes, r.few, r.taken, r.within, holds-less r.holds)
