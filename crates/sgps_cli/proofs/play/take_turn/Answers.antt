use Rattle.std.proofs.Common.{ap, length, arith}
use Rattle.sg_eval.specs.Machine.{state_of}
use Rattle.sgps_cli.proofs.Turning.{statement-turn, end-turn, long-turn, unfinished-turn, more-turn}
use Rattle.sgps_cli.proofs.Measured.{holds-own, statement-some, statement-shrinks, more-shrinks}
use Rattle.sgps_cli.proofs.play.take_turn.Goals as goal

pub perform-requires : goal.perform-requires
perform-requires g c =
    let w = c.args.window.now in
    omega (arith, c.requires.fits, statement-some c.in-Statement.line w c.next_statement.new.self (c.in-Statement.ensures.finds w.rest w.feeds (holds-own w)))

pub read_more-requires-clause-room : goal.read_more-requires-clause-room
read_more-requires-clause-room g c =
    let w = c.args.window.now in
    let m = c.in-More.ensures.finds w.rest w.feeds (holds-own w) in
    omega (arith, m.room, ap length m.no_text)

pub returns-in-Statement-clause-turns : goal.returns-in-Statement-clause-turns
returns-in-Statement-clause-turns g c = λ b r.
    let p = c.perform.ensures.acts in
    statement-turn r c.in-Statement.line c.next_statement.new.self (state_of c.perform.new.machine) p.0 _ c.perform.result c.text.result.now
    (c.in-Statement.ensures.finds r.held r.feeds r.holds) c.in-Statement.ensures.taken c.in-Statement.ensures.ended c.text.ensures p.1 p.2

pub returns-in-Statement-clause-shrinks : goal.returns-in-Statement-clause-shrinks
returns-in-Statement-clause-shrinks g c = λ going.
    let w = c.args.window.now in
    statement-shrinks c.in-Statement.line w c.next_statement.new.self (c.in-Statement.ensures.finds w.rest w.feeds (holds-own w)) c.in-Statement.ensures.taken c.in-Statement.ensures.ended

pub returns-in-More-clause-turns : goal.returns-in-More-clause-turns
returns-in-More-clause-turns g c = λ b r.
    let q = c.read_more.ensures.reads in
    more-turn r c.next_statement.new.self c.read_more.new.window q.0 _ c.read_more.result (c.in-More.ensures.finds r.held r.feeds r.holds) c.in-More.ensures.taken c.in-More.ensures.ended q.1 q.2

pub returns-in-More-clause-shrinks : goal.returns-in-More-clause-shrinks
returns-in-More-clause-shrinks g c = λ going.
    let w = c.args.window.now in
    let q = c.read_more.ensures.reads in
    more-shrinks c.args.passed w c.next_statement.new.self c.read_more.new.window q.0 _ c.read_more.result (c.in-More.ensures.finds w.rest w.feeds (holds-own w)) c.in-More.ensures.taken c.in-More.ensures.ended q.2 going

pub returns-in-End-clause-turns : goal.returns-in-End-clause-turns
returns-in-End-clause-turns g c = λ b r. end-turn r c.end.result c.end.ensures (c.in-End.ensures.finds r.held r.feeds r.holds).0

pub returns-in-TooLong-clause-turns : goal.returns-in-TooLong-clause-turns
returns-in-TooLong-clause-turns g c = λ b r.
    let f = c.in-TooLong.ensures.finds r.held r.feeds r.holds in
    long-turn r c.refusal.result f.0 c.in-TooLong.line c.refusal.ensures f.1 f.2

pub returns-in-Unfinished-clause-turns : goal.returns-in-Unfinished-clause-turns
returns-in-Unfinished-clause-turns g c = λ b r.
    let f = c.in-Unfinished.ensures.finds r.held r.feeds r.holds in
    unfinished-turn r c.refusal-in-Unfinished.result f.0 c.in-Unfinished.line c.refusal-in-Unfinished.ensures f.1 f.2
