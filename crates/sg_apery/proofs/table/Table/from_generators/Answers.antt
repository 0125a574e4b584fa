use Rattle.std.proofs.Common.{◌≡◌, ℕ, List, sym, subst}
use Rattle.std.specs.Prelude.{Contains}
use Rattle.std.proofs.lemmas.Result.{IfOk-weaker, IfErr-weaker, on_ok_weaker}
use Rattle.sg_defs.specs.Membership.{IsMember, Generates}
use Rattle.sg_classes.proofs.EntryLemmas.{generates-same}
use Rattle.sg_apery.specs.Generators.{AreRefused}
use Rattle.sg_apery.proofs.GivenLemmas.{accepted-same, refused-same}
use Rattle.sg_apery.proofs.table.Table.from_generators.Goals as goal

-- the sorted list holds what was given, and nothing else
keeps : (given first last ys : List ℕ) → first ≡ given → ys ≡ last → ((x : ℕ) → Contains first x → Contains last x) → (x : ℕ) → Contains given x → Contains ys x
keeps given first last ys e f h x p = subst (λ l. Contains l x) (sym f) (h x (subst (λ l. Contains l x) (sym e) p))

adds_none : (given first last ys : List ℕ) → first ≡ given → ys ≡ last → ((x : ℕ) → Contains last x → Contains first x) → (x : ℕ) → Contains ys x → Contains given x
adds_none given first last ys e f h x p = subst (λ l. Contains l x) e (h x (subst (λ l. Contains l x) f p))

pub returns-clause-generated : goal.returns-clause-generated
returns-clause-generated c =
    let given = c.args.given.now in
    let ys = c.deref.result.now in
    let k = keeps given c.in_ok-entries.entries.items c.sort_distinct.new.entries.items ys c.in_ok-entries.ensures.items c.deref.ensures.value c.sort_distinct.ensures.keeps in
    let a = adds_none given c.in_ok-entries.entries.items c.sort_distinct.new.entries.items ys c.in_ok-entries.ensures.items c.deref.ensures.value c.sort_distinct.ensures.adds_none in
    IfOk-weaker c.from_distinct.result (λ t. Generates (IsMember ys) t) (λ t. Generates (IsMember given) t) (generates-same given ys k a) c.from_distinct.ensures.generated

pub returns-clause-accepted : goal.returns-clause-accepted
returns-clause-accepted c =
    let given = c.args.given.now in
    let ys = c.deref.result.now in
    let k = keeps given c.in_ok-entries.entries.items c.sort_distinct.new.entries.items ys c.in_ok-entries.ensures.items c.deref.ensures.value c.sort_distinct.ensures.keeps in
    let a = adds_none given c.in_ok-entries.entries.items c.sort_distinct.new.entries.items ys c.in_ok-entries.ensures.items c.deref.ensures.value c.sort_distinct.ensures.adds_none in
    on_ok_weaker c.from_distinct.result (accepted-same given ys k a) c.from_distinct.ensures.accepted

pub returns-clause-refused : goal.returns-clause-refused
returns-clause-refused c =
    let given = c.args.given.now in
    let ys = c.deref.result.now in
    let k = keeps given c.in_ok-entries.entries.items c.sort_distinct.new.entries.items ys c.in_ok-entries.ensures.items c.deref.ensures.value c.sort_distinct.ensures.keeps in
    let a = adds_none given c.in_ok-entries.entries.items c.sort_distinct.new.entries.items ys c.in_ok-entries.ensures.items c.deref.ensures.value c.sort_distinct.ensures.adds_none in
    IfErr-weaker c.from_distinct.result (AreRefused ys) (AreRefused given) (refused-same given ys k a) c.from_distinct.ensures.refused
