use Rattle.std.proofs.Common.{[], sym, arith}
use Rattle.sgps_cli.proofs.Written.{prepend-none}
use Rattle.sgps_cli.proofs.Reading.{filled-reads, failed-reads, full-reads}
use Rattle.sgps_cli.proofs.play.read_more.Goals as goal

pub returns-then-taken-clause-reads : goal.returns-then-taken-clause-reads
returns-then-taken-clause-reads g c = ([], sym (prepend-none _), full-reads c.args.passed c.args.window.now _ (omega (arith, c.if-taken.true, c.taken.ensures.taken)))

pub returns-in-Ok-clause-reads : goal.returns-in-Ok-clause-reads
returns-in-Ok-clause-reads g c =
    let f = c.fill.ensures.fills in (
      f.0,
      f.2,
      filled-reads c.args.passed c.args.window.now c.fill.new.self f.0 _ c.fill.result f.1 (omega (arith, c.if-taken.false, c.taken.ensures.taken, c.taken.ensures.limit)) c.in-Ok.field-0 c.in-Ok.is
          c.fill.ensures.limit c.fill.ensures.end,
    )

pub returns-in-Err-clause-reads : goal.returns-in-Err-clause-reads
returns-in-Err-clause-reads g c =
    let f = c.fill.ensures.fills in (
      f.0,
      f.2,
      failed-reads c.args.passed c.args.window.now c.fill.new.self f.0 _ c.fill.result f.1 (omega (arith, c.if-taken.false, c.taken.ensures.taken, c.taken.ensures.limit)) c.in-Err.field-0 c.in-Err.is,
    )
