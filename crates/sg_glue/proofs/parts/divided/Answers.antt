use Rattle.std.proofs.Common.{◌≡◌, ◌*◌, ◌/◌, ◌++◌, ◌∷◌, [], get_or, sym, ap, ◌∙◌, arith}
use Rattle.std.proofs.Math.Nat.{mul-div_cancel'}
use Rattle.std.proofs.lemmas.List.{take_all, take_more}
use Rattle.sg_defs.specs.Vectors.{scale}
use Rattle.sg_glue.proofs.PartLemmas.{scale-push}
use Rattle.sg_glue.proofs.parts.divided.Goals as goal

pub loop-entry-preserved : goal.loop-entry-preserved
loop-entry-preserved c =
    let xs = c.args.entries.now in
    let i = c.loop-entry.entry-index in
    let d = c.args.divisor in
    let e = get_or xs i 0 in
    let whole : d * (e / d) ≡ e = mul-div_cancel' d (c.requires.divides i 0 c.loop-entry-test.true) in
    ap (scale d) c.in_ok-push.ensures.ok
    ∙ scale-push d c.loop-entry.parts (e / d)
    ∙ ap (λ n. scale d c.loop-entry.parts ++ (n ∷ [])) whole
    ∙ ap (λ l. l ++ (e ∷ [])) c.loop-entry.invariant
    ∙ sym (take_more xs i 0 c.loop-entry-test.true)

pub returns : goal.returns
returns c = c.loop-entry.invariant ∙ take_all c.loop-entry.entry-index c.args.entries.now (omega (arith, c.loop-entry-test.false))
