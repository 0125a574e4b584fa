-- Ranges as what a loop goes over.
use Rattle.std.proofs.Common.{◌≡◌, ◌<◌, ◌≤◌, ◌+◌, ◌-◌, ◌^◌, ℕ, suc, ℤ, pos, ◌+ℤ◌, [], Ok, Err, Result, Vec, Global, IsErrAnd, refl, ap, sym, ◌∙◌, subst, arith}
use Rattle.std.specs.Prelude.{FitsSigned}
use Rattle.std.specs.Int.{w64}
use mir.Val.{to_z, of_z}
use Rattle.std.proofs.lemmas.Int.{to_z-of_z, to_z_pos}
use Rattle.std.proofs.Math.IntN.{+ℤ_assoc, +ℤ_idr}
use Rattle.std.proofs.Math.Path.{fun_ext}
use Rattle.sg_value.specs.declared.limits.TheConstants.{WEIGHT_LIMIT}
use Rattle.sg_value.specs.Known.{named}
use Rattle.sg_value.specs.Data.{EachThing, int, list, none, item, data_map, Items}
use Rattle.sg_value.specs.Plain.{Named, Things, AllKnown, IsKnown, Entries, plain, thing_at}
use Rattle.sg_value.specs.declared.value.Value.{Value}
use Rattle.sg_value.specs.declared.value.Value.TheVariants as value
use Rattle.sg_rows.specs.Order.{Plain}
use Rattle.sg_rows.specs.Kinds.{as_list}
use Rattle.sg_rows.specs.declared.fault.CallFault.{CallFault}
use Rattle.sg_tree.specs.Tree.{Tree, span}
use Rattle.sg_meaning.specs.Entries.{integers_from}
use Rattle.sg_meaning.specs.Expressions.{eval, ask, listed}
use Rattle.sg_eval.specs.Outcomes.{RunsOver, Evaluates, plain_items, known_items}
use Rattle.sg_meaning.specs.Process.{Process, gives, ◌>>=◌}
use Rattle.sg_meaning.specs.Queries.{spans}
use Rattle.sg_eval.specs.Ranges.{IsRange, list_of_range, is_range, ranged, entries_in, are_known}
use Rattle.sg_eval.specs.State.{State}
use Rattle.sg_eval.specs.Steps.{listed_of}
use Rattle.sg_meaning.specs.Vars.{Vars}
use Rattle.sg_eval.specs.declared.sequence.Range.{Range}
use Rattle.sg_eval.specs.declared.sequence.Sequence.TheVariants as sequence
use Rattle.sg_meaning.proofs.Sequels.{assoc, right_unit}
use Rattle.sg_eval.proofs.Evaluating.{evaluates_as, evaluates_exit, evaluates_then, evaluates_gives}
use Rattle.sg_eval.proofs.Spanned.{integers_map, integers_known}

-- a refusal, however values are seen
pub exit_as : {X Y A : Type 0} (view : Named → X → A) (known : Named → X → Type 0) (view' : Named → Y → A) (known' : Named → Y → Type 0) (r : Result Y CallFault) (e : CallFault) (s s1 : State) (p : Named → Process A)
    → IsErrAnd r (λ y. y ≡ e) → Evaluates view known (Err e) s s1 p → Evaluates view' known' r s s1 p
exit_as view known view' known' r e s s1 p failed h =
    evaluates_as view' known' r s s1 (λ names. p names >>= (λ d. gives d)) p (λ names. right_unit (p names)) (evaluates_exit view known view' known' r e s s1 p (λ names d. gives d) failed h)

-- a range that is written out
pub range_listed : (range : Range) (ds : Entries) (s s1 : State) (p : Named → Process Plain) → Evaluates list_of_range is_range (Ok range) s s1 p → ds ≡ integers_from range.first range.count
    → Evaluates plain AllKnown (Ok (value.List ds)) s s1 p
range_listed range ds s s1 p h is =
    let seen : list ds ≡ list (integers_from range.first range.count) = ap list is in
    record {
      keeps = h.keeps;
      variables = h.variables;
      budget = h.budget;
      parameters = h.parameters;
      is_known = subst (EachThing (IsKnown (named s1.names))) (sym seen) (integers_known (IsKnown (named s1.names)) range.first range.count);
      gives = λ final later. subst (λ d. RunsOver s.budget (p (named final)) s.variables (Ok d) s.variables [] s.attributes s1.attributes) (sym (ap (data_map (thing_at (named final))) seen ∙ ap list (integers_map (thing_at (named final)) range.first range.count))) (h.gives final later);
    }

-- a range as what a loop goes over
pub range_counted : (range : Range) (s s1 : State) (p : Named → Process Plain) → Evaluates list_of_range is_range (Ok range) s s1 p → Evaluates entries_in are_known (Ok (sequence.Counted range)) s s1 (λ names. p names >>= (λ d. listed (as_list d) (λ ds. gives ds)))
range_counted range s s1 p h =
    evaluates_then list_of_range is_range entries_in are_known range (Ok (sequence.Counted range)) s s1 s1 p (λ names d. listed (as_list d) (λ ds. gives ds)) h
    (evaluates_gives entries_in are_known (sequence.Counted range) s1 (λ names. integers_from range.first range.count) h.is_known (λ final later. refl))

-- entries that are there, as what a loop goes over
pub entries_listed : (ds : Entries) (s s1 : State) (p : Named → Process (Items Things)) → Evaluates plain_items known_items (Ok ds) s s1 p → Evaluates entries_in are_known (Ok (sequence.Listed ds)) s s1 p
entries_listed ds s s1 p h = record { keeps = h.keeps; variables = h.variables; budget = h.budget; parameters = h.parameters; is_known = h.is_known; gives = h.gives }

-- the entries of a range, operand by operand
pub span_step : (ps : Vars) (low high : Tree) → eval ps low >>= (λ a. eval ps high >>= ranged a) ≡ listed_of ps (span low high)
span_step ps low high =
    sym (assoc (eval ps low) (λ a. eval ps high >>= (λ b. ask (spans a b))) (λ d. listed (as_list d) (λ ds. gives ds))
    ∙ ap (λ k. eval ps low >>= k) (fun_ext (λ a. assoc (eval ps high) (λ b. ask (spans a b)) (λ d. listed (as_list d) (λ ds. gives ds)))))

-- the integers that are left
pub integers_left : (z : ℤ) (n i : ℕ) → i < n → integers_from {H = Things} (z +ℤ pos i) (n - i) ≡ item (int (z +ℤ pos i)) (integers_from {H = Things} (z +ℤ pos (i + 1)) (n - (i + 1)))
integers_left z n i within =
    let less : n - i ≡ suc (n - (i + 1)) = omega (arith, within) in
    ap (integers_from {H = Things} (z +ℤ pos i)) less ∙ ap (λ k. item (int (z +ℤ pos i)) (integers_from {H = Things} k (n - (i + 1)))) (+ℤ_assoc z (pos i) (pos 1))

-- all integers are left at first
pub integers_all : (z : ℤ) (n : ℕ) → integers_from {H = Things} (z +ℤ pos 0) (n - 0) ≡ integers_from {H = Things} z n
integers_all z n = let same : n - 0 ≡ n = omega arith in ap (integers_from {H = Things} (z +ℤ pos 0)) same ∙ ap (λ k. integers_from {H = Things} k n) (+ℤ_idr z)

-- no integer is left at last
pub integers_over : (z : ℤ) (n i : ℕ) → n ≤ i → integers_from {H = Things} (z +ℤ pos i) (n - i) ≡ none
integers_over z n i over = let same : n - i ≡ 0 = omega (arith, over) in ap (integers_from {H = Things} (z +ℤ pos i)) same

-- an integer of a range, as it is computed in 64 bits
pub counted_step : (range : Range) → IsRange range → (i : ℕ) → i < range.count → to_z w64 (of_z w64 (to_z w64 (of_z w64 range.first) +ℤ to_z w64 i)) ≡ range.first +ℤ pos i
counted_step range h i within =
    let x = range.first in
    let some : 0 < range.count = omega (arith, within) in
    let small : i < 2 ^ 63 = omega (arith, within, h.few) in
    let fit : FitsSigned w64 x = subst (FitsSigned w64) (+ℤ_idr x) (h.within 0 some) in
    ap (λ a. to_z w64 (of_z w64 (a +ℤ to_z w64 i))) (to_z-of_z w64 x fit)
    ∙ (ap (λ k. to_z w64 (of_z w64 (x +ℤ k))) (to_z_pos w64 i small) ∙ to_z-of_z w64 (x +ℤ pos i) (h.within i within))
