use Rattle.std.proofs.Common.{◌≡◌, ℕ, List, sym, ap, subst, ◌∙◌, w64}
use Rattle.std.proofs.lemmas.Int.{to_z-of_z}
use Rattle.std.proofs.lemmas.Result.{err_from_is_err_and}
use Rattle.sg_defs.specs.Listings.{Lists}
use Rattle.sg_ideal.specs.Classes.{IsFrom, IsKept}
use Rattle.sg_ideal.specs.Heads.{IsHead, raised_by}
use Rattle.sg_ideal.specs.Faults.{IsListFault}
use Rattle.sg_ideal.specs.Value.{GeneratesIdeal}
use Rattle.sg_lawful.specs.Generators.{AreSmall, IsSmall}
use Rattle.sg_ideal.proofs.HeadLemmas.{heads-small}
use Rattle.sg_ideal.proofs.KeptLemmas.{heads-generate, heads-kept}
use Rattle.sg_ideal.proofs.FaultLemmas.{size-fault}
use Rattle.sg_ideal.proofs.ExistLemmas.{large-base}
use Rattle.sg_ideal.proofs.RaiseLemmas.{large-from_not}
use Rattle.sg_ideal.proofs.made.from_table.Goals as goal

-- the heads by the slices that were passed
same_heads : (G t u l m : List ℕ) → t ≡ u → m ≡ l → Lists (IsHead G t) l → Lists (IsHead G u) m
same_heads G t u l m e f h = subst (λ t. Lists (IsHead G t) m) e (subst (Lists (IsHead G t)) (sym f) h)

pub raise-requires-clause-small : goal.raise-requires-clause-small
raise-requires-clause-small c =
    let l = same_heads c.args.ambient.now c.deref.result.now c.args.entries.items c.in_ok-numbers.numbers.items c.deref-2.result.now c.deref.ensures.value c.deref-2.ensures.value c.in_ok-numbers.ensures in
    heads-small c.args.ambient.now c.args.entries.items c.requires.table c.deref-2.result.now l

pub returns-in_err-generators-clause-refused : goal.returns-in_err-generators-clause-refused
returns-in_err-generators-clause-refused c =
    let G = c.args.ambient.now in
    let t = c.args.entries.items in
    let H = c.deref-2.result.now in
    let l = same_heads G c.deref.result.now t c.in_ok-numbers.numbers.items H c.deref.ensures.value c.deref-2.ensures.value c.in_ok-numbers.ensures in
    let p = err_from_is_err_and c.from_residual-in_err-generators.result c.from_residual-in_err-generators.ensures.1 in
    rw (p.1, p.2) (size-fault G (IsFrom c.args.base t) (raised_by c.args.base H) (heads-generate G t H c.args.base c.requires.table l) c.in_err-generators.field-0.0
    (subst (λ b. IsListFault (raised_by b H) c.in_err-generators.field-0.0) (to_z-of_z w64 c.args.base c.ranges.base) c.in_err-generators.ensures.refused))

pub from_parts-requires : goal.from_parts-requires
from_parts-requires c =
    let G = c.args.ambient.now in
    let t = c.args.entries.items in
    let H = c.deref-2.result.now in
    let I = c.in_ok-generators.generators in
    let l = same_heads G c.deref.result.now t c.in_ok-numbers.numbers.items H c.deref.ensures.value c.deref-2.ensures.value c.in_ok-numbers.ensures in
    let e : I ≡ raised_by c.args.base H = c.in_ok-generators.ensures.raised ∙ ap (λ b. raised_by b H) (to_z-of_z w64 c.args.base c.ranges.base) in
    let kept = heads-kept G t H c.args.base c.requires.table l (subst AreSmall e c.in_ok-generators.ensures.small) in
    subst (λ G. IsKept G I t) (sym c.in_ok-ambient.ensures) (subst (λ I. IsKept G I t) (sym e) kept)

pub returns-clause-made : goal.returns-clause-made
returns-clause-made c =
    let G = c.args.ambient.now in
    let t = c.args.entries.items in
    let H = c.deref-2.result.now in
    let I = c.in_ok-generators.generators in
    let l = same_heads G c.deref.result.now t c.in_ok-numbers.numbers.items H c.deref.ensures.value c.deref-2.ensures.value c.in_ok-numbers.ensures in
    let e : I ≡ raised_by c.args.base H = c.in_ok-generators.ensures.raised ∙ ap (λ b. raised_by b H) (to_z-of_z w64 c.args.base c.ranges.base) in
    let f : c.from_parts.result.generators ≡ I = c.from_parts.ensures.generators in
    let g = heads-generate G t H c.args.base c.requires.table l in
    record {
      ambient = c.from_parts.ensures.ambient ∙ c.in_ok-ambient.ensures;
      generates = subst (GeneratesIdeal G (IsFrom c.args.base t)) (sym (f ∙ e)) g;
      small = subst AreSmall (sym f) c.in_ok-generators.ensures.small;
    }

pub returns-then-not-is_small-clause-refused : goal.returns-then-not-is_small-clause-refused
returns-then-not-is_small-clause-refused c =
    let back = to_z-of_z w64 c.args.base c.ranges.base in
    large-base c.args.ambient.now c.args.entries.items c.requires.table c.args.base
    (large-from_not c.args.base (λ p. absurd (let f = c.if-not-is_small.ensures.1 (subst IsSmall (sym back) p) in cc)))
