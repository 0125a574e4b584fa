use Rattle.std.proofs.Common.{◌≡◌, ◌≤◌, ap, sym, ◌∙◌, arith}
use Rattle.std.proofs.lemmas.Bool.{false≢true}
use Rattle.sg_value.specs.Plain.{contents, contents_of_all}
use Rattle.sg_value.specs.Data.{depth_of, depth_of_all}
use Rattle.sg_value.proofs.EqualLists.{contents_of_all-length, contents_of_all-at, depth_of-at, never}
use Rattle.sg_value.proofs.equality.+equal.Goals as goal

pub all_equal-returns-then-a-b : goal.all_equal-returns-then-a-b
all_equal-returns-then-a-b t c = never (λ e. c.if-a-b.true (contents_of_all-length _ _ e))

pub all_equal-returns-then-not-equal : goal.all_equal-returns-then-not-equal
all_equal-returns-then-not-equal t c =
    never (λ e.
    let same : contents c.index-a-i.result ≡ contents c.index-b-i.result =
    ap contents c.index-a-i.is ∙ (contents_of_all-at _ _ c.loop-i.i _ _ e c.loop-i-test.true ∙ sym (ap contents c.index-b-i.is)) in
    false≢true (sym c.if-not-equal.true ∙ c.equal.ensures.1 same))

pub all_equal-equal-requires : goal.all_equal-equal-requires
all_equal-equal-requires t c =
    let h : depth_of (contents c.index-a-i.result) ≤ depth_of_all (contents_of_all c.args.a.now) = rw c.index-a-i.is (depth_of-at _ _ _ c.loop-i-test.true) in
    (omega (arith, h, c.decreases), tt)
