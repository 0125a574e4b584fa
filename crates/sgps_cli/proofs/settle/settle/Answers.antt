use Rattle.std.proofs.Common.{[], refl, sym, ap, subst, ◌∙◌}
use Rattle.std.specs.Prelude.{map, string_bytes, Some, Err}
use Rattle.sg_words.specs.Asked.{wanted_of}
use Rattle.sg_words.specs.Settings.{settings_of}
use Rattle.sgps_cli.specs.Input.{HasInput, HasNamed, NamesNoInput}
use Rattle.sgps_cli.specs.Ends.{IsClosed, Seen}
use Rattle.sgps_cli.proofs.Written.{wrote-none}
use Rattle.sgps_cli.proofs.Beginning.{missing-same, accepted-words, nothing-named, refused-words}
use Rattle.sgps_cli.proofs.Closing.{closed-by-words, closed-without-memory, same-ended}
use Rattle.sg_words.proofs.Limits.{drill-within}
use Rattle.sgps_cli.proofs.settle.settle.Goals as goal

pub play_drill-requires-clause-some : goal.play_drill-requires-clause-some
play_drill-requires-clause-some g c =
    let words = map string_bytes c.args.words.now in
    (drill-within words (wanted_of c.in-Ok.settings) c.in-Some.statements (accepted-words (settings_of words) c.read_words.result c.in-Ok.settings c.read_words.ensures c.in-Ok.is) c.in-Some.is).0

pub play_drill-requires-clause-few : goal.play_drill-requires-clause-few
play_drill-requires-clause-few g c =
    let words = map string_bytes c.args.words.now in
    (drill-within words (wanted_of c.in-Ok.settings) c.in-Some.statements (accepted-words (settings_of words) c.read_words.result c.in-Ok.settings c.read_words.ensures c.in-Ok.is) c.in-Some.is).1

pub returns-in-None-clause-ends : goal.returns-in-None-clause-ends
returns-in-None-clause-ends g c =
    let p = c.play_input.ensures.ends in (
      p.0,
      p.1,
      subst (λ s. IsClosed c.play_input.result (record { settings = s; inputs = g.S.Source.inputs c.args.source.now; begun = g.S.Source.begun c.play_input.new.source; left = g.S.Source.left c.play_input.new.source; faults_before = g.S.Source.faults c.args.source.now; faults_after = g.S.Source.faults c.play_input.new.source }) p.0)
          (sym (accepted-words (settings_of (map string_bytes c.args.words.now)) c.read_words.result c.in-Ok.settings c.read_words.ensures c.in-Ok.is)) p.2,
    )

pub returns-in-None-clause-untouched : goal.returns-in-None-clause-untouched
returns-in-None-clause-untouched g c = λ h.
    nothing-named c.in-Ok.settings.drill c.in-None.is
    (subst NamesNoInput (accepted-words (settings_of (map string_bytes c.args.words.now)) c.read_words.result c.in-Ok.settings c.read_words.ensures c.in-Ok.is) h)

pub returns-in-None-clause-taken : goal.returns-in-None-clause-taken
returns-in-None-clause-taken g c = λ b. (wanted_of c.in-Ok.settings, accepted-words _ c.read_words.result c.in-Ok.settings c.read_words.ensures c.in-Ok.is, c.play_input.ensures.taken b)

pub returns-in-None-clause-missing : goal.returns-in-None-clause-missing
returns-in-None-clause-missing g c = λ h.
    let wanted = wanted_of c.in-Ok.settings in
    let has : HasInput (Some wanted) (g.S.Source.inputs c.args.source.now) =
    subst (λ s. HasInput s (g.S.Source.inputs c.args.source.now)) (accepted-words (settings_of (map string_bytes c.args.words.now)) c.read_words.result c.in-Ok.settings c.read_words.ensures c.in-Ok.is) h in
    c.play_input.ensures.missing ∙ missing-same _ _ _ (subst (λ d. HasNamed d wanted.file (g.S.Source.inputs c.args.source.now)) c.in-None.is has)

pub returns-in-Some-clause-ends : goal.returns-in-Some-clause-ends
returns-in-Some-clause-ends g c =
    let seen : Seen = record { settings = settings_of (map string_bytes c.args.words.now); inputs = g.S.Source.inputs c.args.source.now; begun = g.S.Source.begun c.args.source.now; left = g.S.Source.left c.args.source.now; faults_before = g.S.Source.faults c.args.source.now; faults_after = g.S.Source.faults c.args.source.now } in
    c.play_drill.ensures.ends seen (g.E.Sink.taken c.args.err.now) (accepted-words (settings_of (map string_bytes c.args.words.now)) c.read_words.result c.in-Ok.settings c.read_words.ensures c.in-Ok.is)

pub returns-in-Err-Usage-clause-ends : goal.returns-in-Err-Usage-clause-ends
returns-in-Err-Usage-clause-ends g c =
    let seen : Seen = record { settings = settings_of (map string_bytes c.args.words.now); inputs = g.S.Source.inputs c.args.source.now; begun = g.S.Source.begun c.args.source.now; left = g.S.Source.left c.args.source.now; faults_before = g.S.Source.faults c.args.source.now; faults_after = g.S.Source.faults c.args.source.now } in
    ([], wrote-none _, subst (λ e. IsClosed e seen []) (same-ended c.bare.result _ _ c.bare.ensures.cause c.bare.ensures.counts) (closed-by-words seen (refused-words (settings_of (map string_bytes c.args.words.now)) c.read_words.result c.read_words.ensures (c.in-Err-Usage.is ∙ ap Err c.in-Err-Usage.field-0-is))))

pub returns-in-Err-Memory-clause-ends : goal.returns-in-Err-Memory-clause-ends
returns-in-Err-Memory-clause-ends g c =
    let seen : Seen = record { settings = settings_of (map string_bytes c.args.words.now); inputs = g.S.Source.inputs c.args.source.now; begun = g.S.Source.begun c.args.source.now; left = g.S.Source.left c.args.source.now; faults_before = g.S.Source.faults c.args.source.now; faults_after = g.S.Source.faults c.args.source.now } in
    ([], wrote-none _, subst (λ e. IsClosed e seen []) (same-ended c.bare-in-Err-Memory.result _ _ c.bare-in-Err-Memory.ensures.cause c.bare-in-Err-Memory.ensures.counts) (closed-without-memory seen))
