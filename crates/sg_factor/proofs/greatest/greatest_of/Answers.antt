use Rattle.std.proofs.Common.{◌≡◌, ℕ, ◌+◌, ◌-◌, ◌*◌, ◌/◌, ◌%◌, ◌∷◌, ◌++◌, [], List, length, get_or, drop, take, suc, sym, ap, subst, refl, ◌∙◌, arith}
use Rattle.std.proofs.lemmas.List.{take_rest, get_or-drop, length-drop}
use Rattle.sg_factor.proofs.GreedyLemmas.{IsUsed, entry-left, used-more, used-up}
use Rattle.sg_factor.proofs.greatest.greatest_of.Goals as goal

-- an entry behind the first
entry-behind : (l G : List ℕ) (i : ℕ) → l ≡ G → get_or (take (length l - 1) (drop 1 l)) i 0 ≡ get_or G (suc i) 0
entry-behind l G i e = ap (λ k. get_or k i 0) (take_rest l 1) ∙ get_or-drop 1 l i 0 ∙ ap (λ k. get_or k (1 + i) 0) e ∙ ap (λ j. get_or G j 0) (let f : 1 + i ≡ suc i = omega arith in f)

-- how many stand behind the first
behind : (l G : List ℕ) → l ≡ G → length (take (length l - 1) (drop 1 l)) ≡ length G - 1
behind l G e = ap length (take_rest l 1) ∙ length-drop 1 l ∙ ap (λ k. length k - 1) e

pub overflow_sub-n : goal.overflow_sub-n
overflow_sub-n c = (entry-left c.args.t.now c.apery-apery.result.now c.args.n (get_or c.apery-apery.result.now (c.args.n % length c.apery-apery.result.now) 0) c.apery-apery.ensures.semigroup c.apery-apery.ensures.apery c.requires.member refl).0

pub loop-generator-init : goal.loop-generator-init
loop-generator-init c =
    let G = c.args.t.now in
    let w = get_or c.apery-apery.result.now (c.args.n % length c.apery-apery.result.now) 0 in
    let first = (entry-left G c.apery-apery.result.now c.args.n w c.apery-apery.ensures.semigroup c.apery-apery.ensures.apery c.requires.member refl).1 in
    let same : c.as_slice-given.result.now ≡ G = c.as_slice-given.ensures ∙ c.generators.ensures.same in
    let made : c.push.new.self ≡ (c.args.n - w) / get_or G 0 0 ∷ [] =
    c.in_ok-push.ensures.ok ∙ ap (λ v. v ++ (c.args.n - w) / get_or c.as_slice-given.result.now 0 0 ∷ []) c.new-vector.ensures ∙ ap (λ l. (c.args.n - w) / get_or l 0 0 ∷ []) same in
    subst (IsUsed G c.args.n 1 w) (sym made) first

pub times_within-times-requires-clause-positive : goal.times_within-times-requires-clause-positive
times_within-times-requires-clause-positive c =
    let G = c.args.t.now in
    let same : c.as_slice-given.result.now ≡ G = c.as_slice-given.ensures ∙ c.generators.ensures.same in
    let i = c.loop-generator.generator-index in
    omega (
      arith,
      entry-behind c.as_slice-given.result.now G i same,
      c.generators.ensures.semigroup.positive (suc i) 0
          (omega (arith, c.loop-generator-test.true, behind c.as_slice-given.result.now G same)),
    )

pub loop-generator-preserved : goal.loop-generator-preserved
loop-generator-preserved c =
    let G = c.args.t.now in
    let same : c.as_slice-given.result.now ≡ G = c.as_slice-given.ensures ∙ c.generators.ensures.same in
    let i = c.loop-generator.generator-index in
    let g = get_or (take (length c.as_slice-given.result.now - 1) (drop 1 c.as_slice-given.result.now)) i 0 in
    let times = c.times_within-times.result in
    let next = used-more G c.args.n (suc i) c.loop-generator.rest times g c.loop-generator.vector c.push-in-loop-generator.new.self
    (omega (arith, c.loop-generator-test.true, behind c.as_slice-given.result.now G same)) (entry-behind c.as_slice-given.result.now G i same)
    c.loop-generator.invariant c.times_within-times.ensures.fits c.times_within-times.ensures.member c.times_within-times.ensures.stuck c.in_ok-push-2.ensures.ok in
    subst (λ k. IsUsed G c.args.n k (c.loop-generator.rest - times * g) c.push-in-loop-generator.new.self) (let e : suc (suc i) ≡ suc (i + 1) = omega arith in e) next

pub returns : goal.returns
returns c =
    let G = c.args.t.now in
    let same : c.as_slice-given.result.now ≡ G = c.as_slice-given.ensures ∙ c.generators.ensures.same in
    used-up G c.args.n (suc c.loop-generator.generator-index) c.loop-generator.rest c.loop-generator.vector
    (omega (arith, c.loop-generator-test.false, behind c.as_slice-given.result.now G same)) c.loop-generator.invariant
