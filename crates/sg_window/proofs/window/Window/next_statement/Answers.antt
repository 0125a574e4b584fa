-- Each answer, by what stands first in what is held.
use Rattle.std.proofs.Common.{arith, ◌≡◌, ◌+◌, ◌-◌, ◌≤◌, true, false, [], length, ap, subst, sym, ◌∙◌}
use Rattle.sg_cut.specs.Cut.{StandsAt, IsTooLong, IsUnfinished, IsAtEnd}
use Rattle.sg_window.specs.Held.{Held}
use Rattle.sg_window.specs.Window.{State, skipped, with_text}
use Rattle.sg_window.proofs.Searching.{skips_none}
use Rattle.sg_window.proofs.Finding.{ends_so, finds_statement, finds_too_long, finds_unfinished, wants_more_inside, wants_more_behind, finds_end}
use Rattle.sg_window.proofs.window.Window.next_statement.Goals as goal
use Rattle.sg_cut.specs.declared.limits.TheConstants.{STATEMENT_LIMIT}

pub returns-in-Statement-clause-finds : goal.returns-in-Statement-clause-finds
returns-in-Statement-clause-finds c = λ held feeds h.
    let w = c.args.self.now in
    let same : c.rest-2.result.now ≡ w.rest = c.rest-2.ensures.rest ∙ ap (λ (w : State). w.rest) c.self.view_is in
    let near : length w.rest ≤ STATEMENT_LIMIT = subst (λ xs. length xs ≤ STATEMENT_LIMIT) same c.rest-2.ensures.room in
    let stands = subst (λ xs. StandsAt xs c.in-Statement.begin c.in-Statement.end) same c.in-Statement.ensures.outcome in
    let new = c.take_text.ensures ∙ ap (with_text (c.in-Statement.end - c.in-Statement.begin)) c.skip-line.ensures.skips in
    finds_statement held feeds w h near c.in-Statement.begin c.in-Statement.end c.skip-line.result c.take_text.new.self stands (c.skip-line.ensures.line ∙ ap (λ (w : State). 1 + w.feeds) c.skip-line.ensures.skips) new

pub returns-in-TooLong-clause-finds : goal.returns-in-TooLong-clause-finds
returns-in-TooLong-clause-finds c = λ held feeds h.
    let w = c.args.self.now in
    let same : c.rest-2.result.now ≡ w.rest = c.rest-2.ensures.rest ∙ ap (λ (w : State). w.rest) c.self.view_is in
    let near : length w.rest ≤ STATEMENT_LIMIT = subst (λ xs. length xs ≤ STATEMENT_LIMIT) same c.rest-2.ensures.room in
    let long = subst (λ xs. IsTooLong xs c.in-TooLong.begin) same c.in-TooLong.ensures.outcome in
    finds_too_long held feeds w h near c.in-TooLong.begin c.skip-in-TooLong.result c.skip-in-TooLong.new.self long (c.skip-in-TooLong.ensures.line ∙ ap (λ (w : State). 1 + w.feeds) c.skip-in-TooLong.ensures.skips) c.skip-in-TooLong.ensures.skips

pub returns-in-Unfinished-clause-finds : goal.returns-in-Unfinished-clause-finds
returns-in-Unfinished-clause-finds c = λ held feeds h.
    let w = c.args.self.now in
    let same : c.rest-2.result.now ≡ w.rest = c.rest-2.ensures.rest ∙ ap (λ (w : State). w.rest) c.self.view_is in
    let near : length w.rest ≤ STATEMENT_LIMIT = subst (λ xs. length xs ≤ STATEMENT_LIMIT) same c.rest-2.ensures.room in
    let open_ = subst (λ xs. IsUnfinished xs true c.in-Unfinished.begin) same c.in-Unfinished.ensures.outcome in
    let ended : w.ended ≡ true = sym (ap (λ (w : State). w.ended) c.self.view_is) ∙ c.if-self.true in
    let skip = c.skip-in-Unfinished in
    finds_unfinished held feeds w h near c.in-Unfinished.begin skip.result skip.new.self ended open_ (skip.ensures.line ∙ ap (λ (w : State). 1 + w.feeds) skip.ensures.skips) skip.ensures.skips

pub returns-in-Unfinished-2-clause-finds : goal.returns-in-Unfinished-2-clause-finds
returns-in-Unfinished-2-clause-finds c = λ held feeds h.
    let w = c.args.self.now in
    let same : c.rest-2.result.now ≡ w.rest = c.rest-2.ensures.rest ∙ ap (λ (w : State). w.rest) c.self.view_is in
    let near : length w.rest ≤ STATEMENT_LIMIT = subst (λ xs. length xs ≤ STATEMENT_LIMIT) same c.rest-2.ensures.room in
    let open_ = subst (λ xs. IsUnfinished xs true c.in-Unfinished.begin) same c.in-Unfinished.ensures.outcome in
    let more : w.ended ≡ false = sym (ap (λ (w : State). w.ended) c.self.view_is) ∙ c.if-self.false in
    wants_more_inside held feeds w h near c.in-Unfinished.begin _ more open_ (c.self-in-Unfinished-2.view_is ∙ c.skip-in-Unfinished-2.ensures.skips)

pub returns-in-End-clause-finds : goal.returns-in-End-clause-finds
returns-in-End-clause-finds c = λ held feeds h.
    let w = c.args.self.now in
    let same : c.rest-2.result.now ≡ w.rest = c.rest-2.ensures.rest ∙ ap (λ (w : State). w.rest) c.self.view_is in
    let near : length w.rest ≤ STATEMENT_LIMIT = subst (λ xs. length xs ≤ STATEMENT_LIMIT) same c.rest-2.ensures.room in
    let ends = subst (λ xs. IsAtEnd xs true) same (ends_so c.rest-2.result.now c.cut.result c.cut.ensures.outcome c.in-End.is) in
    let ended : w.ended ≡ true = sym (ap (λ (w : State). w.ended) c.self.view_is) ∙ c.if-self-2.true in
    let all : length c.rest-all.result.now ≡ length w.rest = ap length (c.rest-all.ensures.rest ∙ ap (λ (w : State). w.rest) c.self.view_is) in
    finds_end held feeds w h near c.skip-in-End.new.self ended ends (c.skip-in-End.ensures.skips ∙ ap (λ n. skipped n w) all)

pub returns-in-End-2-clause-finds : goal.returns-in-End-2-clause-finds
returns-in-End-2-clause-finds c = λ held feeds h.
    let w = c.args.self.now in
    let same : c.rest-2.result.now ≡ w.rest = c.rest-2.ensures.rest ∙ ap (λ (w : State). w.rest) c.self.view_is in
    let near : length w.rest ≤ STATEMENT_LIMIT = subst (λ xs. length xs ≤ STATEMENT_LIMIT) same c.rest-2.ensures.room in
    let ends = subst (λ xs. IsAtEnd xs true) same (ends_so c.rest-2.result.now c.cut.result c.cut.ensures.outcome c.in-End.is) in
    let more : w.ended ≡ false = sym (ap (λ (w : State). w.ended) c.self.view_is) ∙ c.if-self-2.false in
    wants_more_behind held feeds w h near c.pass.new.self more ends c.pass.ensures

pub returns-then-is_still_open-clause-finds : goal.returns-then-is_still_open-clause-finds
returns-then-is_still_open-clause-finds c = λ held feeds h.
    let w = c.args.self.now in
    let s = c.is_still_open.ensures c.if-is_still_open.true in
    let near : length w.rest ≤ STATEMENT_LIMIT = omega (arith, s.open_.few) in
    let view : Held → State = λ b. record { text = b.text; rest = b.rest; feeds = c.self.inside.feeds; taken = c.self.inside.taken; ended = c.self.inside.ended } in
    let new = ap view c.skip.ensures ∙ ap (λ (v : State). record v { text = [] }) c.self.view_is ∙ skips_none w in
    wants_more_inside held feeds w h near 0 _ s.not_ended s.open_ new
