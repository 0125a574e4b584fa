use Rattle.std.proofs.Common.{◌≡◌, ℕ, ◌+◌, ◌-◌, ◌<◌, ◌≤◌, ◌↔◌, List, length, get_or, sym, subst, ap, ◌∙◌, inl, inr, arith}
use Rattle.std.specs.Prelude.{◌⊎◌, Contains}
use Rattle.std.proofs.lemmas.Bool.{eqb-true}
use Rattle.std.proofs.lemmas.List.{nil_from_length}
use Rattle.sg_omega.specs.Lengths.{AreGreatestMade, IsLowered}
use Rattle.sg_omega.specs.Readings.{IsRead, IsGreatestReading}
use Rattle.sg_omega.proofs.LengthLemmas.{apery-decided, made-outside}
use Rattle.sg_omega.proofs.ReadingLemmas.{reading-from_table, reading-none, reading-parts}
use Rattle.sg_omega.proofs.walk.+walk.Goals as goal
use Rattle.sg_omega.proofs.walk.+walk.Goals.{then-is_empty-2, else-is_empty-2+in_ok-more+in_ok-with}

pub greatest_entry-requires-clause-inside : goal.greatest_entry-requires-clause-inside
greatest_entry-requires-clause-inside t c n v wanted there = c.requires.inside n v wanted (subst (λ xs. Contains xs v) c.deref.ensures.value there)

pub returns-then-place-eq0 : goal.returns-then-place-eq0
returns-then-place-eq0 t c =
    let G = c.args.t.now in
    let table = c.args.table.now in
    reading-from_table G table c.args.wanted.now c.args.values.items c.greatest_entry.result c.requires.inside
    (λ v there. subst (λ k. AreGreatestMade G v k table) c.if-place-eq0.true (c.requires.lengths v there))
    (subst (λ xs. (l : ℕ) → (l < c.greatest_entry.result) ↔ IsRead table c.args.wanted.now xs l) c.deref.ensures.value c.greatest_entry.ensures)

pub walk-requires : goal.walk-requires
walk-requires t c =
    let G = c.args.t.now in
    let table = c.args.table.now in
    let k = c.args.place - 1 in
    let more = c.deref-else-is_empty-2.result.now in
    let is : more ≡ c.in_ok-more.more.items = c.deref-else-is_empty-2.ensures.value in
    let long : length more ≡ length table = ap length is ∙ c.in_ok-more.ensures.long in
    let same : c.as_slice.result.now ≡ G = c.as_slice.ensures ∙ c.generators.ensures.same in
    let generator : get_or G k 0 ≡ get_or c.as_slice.result.now k 0 = ap (λ xs. get_or xs k 0) (sym same) in
    let inside : k < length G = omega (arith, c.requires.place, c.if-place-eq0.false) in
    let next : c.args.place ≡ k + 1 = omega (arith, c.if-place-eq0.false) in
    let listed : (v : ℕ) → Contains c.in_ok-inside.field-0.inside.items v → Contains c.args.values.items v = λ v there. subst (λ xs. Contains xs v) c.deref-2.ensures.value ((c.in_ok-inside.ensures.inside v).0 there).0 in (
      omega (arith, c.decreases, c.if-place-eq0.false),
      (
        omega (arith, c.requires.place),
        (
          omega (arith, long, c.requires.short),
          (
            subst (λ (l : List ℕ). (x : ℕ) → x < length l → get_or l x 0 ≤ x + 1) (sym is) c.in_ok-more.ensures.bounded,
            (
              (λ n v wanted there. omega (arith, long, c.requires.inside n v wanted (listed v there))),
              (λ v there. subst (AreGreatestMade G v k) (sym is)
                  (c.in_ok-more.ensures.lengths G v k inside generator ((c.in_ok-inside.ensures.inside v).0 there).1 (subst (λ j. AreGreatestMade G v j table) next (c.requires.lengths v (listed v there))))),
            ),
          ),
        ),
      ),
    )

pub walk-requires-2 : goal.walk-requires-2
walk-requires-2 t c =
    let G = c.args.t.now in
    let table = c.args.table.now in
    let k = c.args.place - 1 in
    let same : c.as_slice.result.now ≡ G = c.as_slice.ensures ∙ c.generators.ensures.same in
    let generator : get_or c.as_slice.result.now k 0 ≡ get_or G k 0 = ap (λ xs. get_or xs k 0) same in
    let next : c.args.place ≡ k + 1 = omega (arith, c.if-place-eq0.false) in
    let listed : (v : ℕ) → Contains c.in_ok-inside.field-0.outside.items v → Contains c.args.values.items v = λ v there. subst (λ xs. Contains xs v) c.deref-2.ensures.value ((c.in_ok-inside.ensures.outside v).0 there).0 in (
      omega (arith, c.decreases, c.if-place-eq0.false),
      (
        omega (arith, c.requires.place),
        (
          c.requires.short,
          (
            c.requires.bounded,
            (
              (λ n v wanted there. c.requires.inside n v wanted (listed v there)),
              (λ v there. made-outside G v k table (subst (IsLowered G v) generator ((c.in_ok-inside.ensures.outside v).0 there).1) (subst (λ j. AreGreatestMade G v j table) next (c.requires.lengths v (listed v there)))),
            ),
          ),
        ),
      ),
    )

pub returns : goal.returns
returns t c =
    let G = c.args.t.now in
    let wanted = c.args.wanted.now in
    let values = c.args.values.items in
    let first = c.in_ok-inside.field-0.inside.items in
    let second = c.in_ok-inside.field-0.outside.items in
    let same = c.deref-2.ensures.value in
    let down_first : (v : ℕ) → Contains first v → Contains values v = λ v there. subst (λ xs. Contains xs v) same ((c.in_ok-inside.ensures.inside v).0 there).0 in
    let down_second : (v : ℕ) → Contains second v → Contains values v = λ v there. subst (λ xs. Contains xs v) same ((c.in_ok-inside.ensures.outside v).0 there).0 in
    let split : (v : ℕ) → Contains values v → Contains first v ⊎ Contains second v = λ v there. elim (apery-decided G v (get_or c.as_slice.result.now (c.args.place - 1) 0)) [
      | inl set ↦ inl ((c.in_ok-inside.ensures.inside v).1 (subst (λ xs. Contains xs v) (sym same) there, set))
      | inr low ↦ inr ((c.in_ok-inside.ensures.outside v).1 (subst (λ xs. Contains xs v) (sym same) there, low))
    ] in
    let read_first : IsGreatestReading G wanted first c.if-is_empty-2.with = elim c.if-is_empty-2.branch [
      | then-is_empty-2 w ↦ subst (IsGreatestReading G wanted first) (sym w.with-is)
          (reading-none G wanted first (nil_from_length first (sym c.in_ok-inside.field-0.inside.ok.0 ∙ eqb-true c.in_ok-inside.field-0.inside.len 0 (sym c.is_empty-2.ensures ∙ w.if-is_empty-2.true))))
      | else-is_empty-2+in_ok-more+in_ok-with w ↦ subst (IsGreatestReading G wanted first) (sym w.with-is) w.in_ok-with.ensures
    ] in
    subst (IsGreatestReading G wanted values) (sym c.max.ensures)
    (reading-parts G wanted values first second c.if-is_empty-2.with c.in_ok-without.without down_first down_second split read_first c.in_ok-without.ensures)
