-- Lists of integers in a row.
use Rattle.std.proofs.Common.{◌≡◌, ◌<◌, ◌≤◌, ◌+◌, ◌-◌, ◌^◌, ℕ, zero, suc, ℤ, pos, negsuc, ◌+ℤ◌, ◌-ℤ◌, min, max, List, [], ◌∷◌, ◌++◌, Option, Some, None, Ok, Err, inl, inr, refl, ap, sym, ◌∙◌, subst, arith}
use Rattle.sg_value.specs.Known.{named}
use Rattle.std.specs.Prelude.{FitsSigned}
use Rattle.std.specs.Int.{w64}
use Rattle.std.proofs.lemmas.Int.{ints}
use Rattle.std.proofs.Math.IntN.{+ℤ_assoc, +ℤ_idr}
use Rattle.sg_value.specs.Data.{int, list, none, item, items_map, depth_of_all, weight_of_all, EachThingOfAll, Kind, join}
use Rattle.sg_value.specs.Plain.{Named, Things, contents, contents_of_all, plain, thing_at}
use Rattle.sg_value.specs.declared.limits.TheConstants.{WEIGHT_LIMIT}
use Rattle.sg_value.specs.declared.value.Value.{Value}
use Rattle.sg_value.proofs.Joins.{contents_of_all-append}
use Rattle.sg_rows.specs.Order.{Reply, fits, IsReply, Delivers, IsReplyOf}
use Rattle.sg_rows.specs.Kinds.{as_integer, given}
use Rattle.sg_rows.specs.Values.{answers}
use Rattle.sg_rows.specs.declared.fault.Fault.{Fault}
use Rattle.sg_rows.specs.declared.fault.Fault.TheVariants.{WrongType, TooLarge}
use Rattle.sg_rows.specs.declared.fault.CallFault.TheVariants.{Script}
use Rattle.sg_rows.proofs.Replying.{delivered, answers_pass}
use Rattle.sg_rows.proofs.KindLemmas.{as_integer-plain}
use Rattle.sg_meaning.specs.Entries.{integers_from}
use Rattle.sg_meaning.specs.Expressions.{ask}
use Rattle.sg_eval.specs.Outcomes.{RunsOver, Evaluates}
use Rattle.sg_eval.proofs.Over.{over_told}
use Rattle.sg_meaning.specs.Queries.{spans, span_of, span_count}
use Rattle.sg_eval.specs.Ranges.{IsRange, list_of_range, is_range}
use Rattle.sg_eval.specs.State.{State}
use Rattle.sg_eval.proofs.Evaluating.{keeps_all}

-- one integer more
pub integers_from-more : {H : Kind → Type 0} (z : ℤ) (n : ℕ) → join (integers_from {H = H} z n) (item (int (z +ℤ pos n)) none) ≡ integers_from z (suc n)
integers_from-more z zero = ap (λ y. item (int y) none) (+ℤ_idr z)
integers_from-more z (suc n) =
    let next : 1 + n ≡ suc n = omega arith in
    let e : (z +ℤ pos 1) +ℤ pos n ≡ z +ℤ pos (suc n) = +ℤ_assoc z (pos 1) (pos n) ∙ ap (λ k. z +ℤ pos k) next in
    ap (item (int z)) (ap (λ y. join (integers_from (z +ℤ pos 1) n) (item (int y) none)) (sym e) ∙ integers_from-more (z +ℤ pos 1) n)

-- one integer more
pub integers_pushed : (vs ws : List Value) (v : Value) (z : ℤ) (i : ℕ) → ws ≡ vs ++ v ∷ [] → contents v ≡ int (z +ℤ pos i) → contents_of_all vs ≡ integers_from z i → contents_of_all ws ≡ integers_from z (i + 1)
integers_pushed vs ws v z i is seen so_far =
    let next : suc i ≡ i + 1 = omega arith in
    ap contents_of_all is ∙ (contents_of_all-append vs (v ∷ []) ∙ (ap (λ d. join (contents_of_all vs) (item d none)) seen ∙ (ap (λ ds. join ds (item (int (z +ℤ pos i)) none)) so_far ∙ (integers_from-more z i ∙ ap (integers_from z) next))))

-- integers hold no semigroup and no ideal
pub integers_map : {H : Kind → Type 0} (f : (k : Kind) → H k → Things k) (z : ℤ) (n : ℕ) → items_map f (integers_from z n) ≡ integers_from z n
integers_map f z zero = refl
integers_map f z (suc n) = ap (item (int z)) (integers_map f (z +ℤ pos 1) n)

-- so nothing in them has to be known
pub integers_known : {H : Kind → Type 0} (P : (k : Kind) → H k → Type 0) (z : ℤ) (n : ℕ) → EachThingOfAll P (integers_from z n)
integers_known P z zero = tt
integers_known P z (suc n) = (tt, integers_known P (z +ℤ pos 1) n)

integers_weight : (z : ℤ) (n : ℕ) → weight_of_all (integers_from {H = Things} z n) ≡ n
integers_weight z zero = refl
integers_weight z (suc n) = let e : weight_of_all (integers_from {H = Things} (z +ℤ pos 1) n) ≡ n = integers_weight (z +ℤ pos 1) n in omega (arith, e)

integers_depth : (z : ℤ) (n : ℕ) → depth_of_all (integers_from {H = Things} z n) ≡ 0
integers_depth z zero = refl
integers_depth z (suc n) = ap (max 0) (integers_depth (z +ℤ pos 1) n)

module _ (x : ℤ) (k : ℕ) where
  spanned_as : (r : Reply) → Delivers (list (integers_from x k)) r → IsReplyOf (answers (λ d. d ≡ list (integers_from x k))) r
  spanned_as r h = delivered (answers (λ d. d ≡ list (integers_from x k))) (list (integers_from x k)) r (answers_pass (λ d. d ≡ list (integers_from x k))) refl h

  spanned_large : WEIGHT_LIMIT ≤ k → IsReplyOf (answers (λ d. d ≡ list (integers_from x k))) (Err TooLarge)
  spanned_large heavy =
      let e = integers_depth x k in
      let w = integers_weight x k in
      spanned_as (Err TooLarge) (inr ((λ f. f tt), inr ((λ deep. absurd (omega (arith, e, deep))), inl (omega (arith, w, heavy), refl))))

  spanned_fine : k < WEIGHT_LIMIT → IsReplyOf (answers (λ d. d ≡ list (integers_from x k))) (Ok (list (integers_from x k)))
  spanned_fine light =
      let e = integers_depth x k in
      let w = integers_weight x k in
      spanned_as (Ok (list (integers_from x k))) (inr ((λ f. f tt), inr ((λ deep. absurd (omega (arith, e, deep))), inr ((λ heavy. absurd (omega (arith, w, light, heavy))), refl))))

integer_seen : (names : Named) (v : Value) (o : Option ℤ) → as_integer (contents v) ≡ o → as_integer (plain names v) ≡ o
integer_seen names v o is = as_integer-plain (thing_at names) (contents v) ∙ is

refused_as : (a b : Value) (s : State) (e : Fault) → ((names : Named) → IsReply (span_of (plain names a) (plain names b)) (Err e)) → Evaluates list_of_range is_range (Err (Script e)) s s (λ names. ask (spans (plain names a) (plain names b)))
refused_as a b s e h = record {
  keeps = keeps_all s.names;
  variables = refl;
  budget = refl;
  parameters = tt;
  is_known = tt;
  gives = λ final later. over_told s.budget (spans (plain (named final) a) (plain (named final) b)) (Err e) s.variables s.attributes (h (named final), refl);
}

-- the first is no integer
pub span_low : (a b : Value) (s : State) → as_integer (contents a) ≡ None → Evaluates list_of_range is_range (Err (Script WrongType)) s s (λ names. ask (spans (plain names a) (plain names b)))
span_low a b s is = refused_as a b s WrongType (λ names.
    subst (λ o. IsReply (given o (λ x. given (as_integer (plain names b)) (λ y. fits [] (answers (λ d. d ≡ list (integers_from x (span_count (y -ℤ x)))))))) (Err WrongType)) (sym (integer_seen names a None is)) refl)

-- the second is no integer
pub span_high : (a b : Value) (s : State) (x : ℤ) → as_integer (contents a) ≡ Some x → as_integer (contents b) ≡ None → Evaluates list_of_range is_range (Err (Script WrongType)) s s (λ names. ask (spans (plain names a) (plain names b)))
span_high a b s x is_a is_b = refused_as a b s WrongType (λ names.
    subst (λ o. IsReply (given o (λ z. given (as_integer (plain names b)) (λ y. fits [] (answers (λ d. d ≡ list (integers_from z (span_count (y -ℤ z)))))))) (Err WrongType)) (sym (integer_seen names a (Some x) is_a))
    (subst (λ o. IsReply (given o (λ y. fits [] (answers (λ d. d ≡ list (integers_from x (span_count (y -ℤ x))))))) (Err WrongType)) (sym (integer_seen names b None is_b)) refl))

span_seen : (a b : Value) (x y : ℤ) (names : Named) (r : Reply) → as_integer (contents a) ≡ Some x → as_integer (contents b) ≡ Some y
    → IsReplyOf (answers (λ d. d ≡ list (integers_from x (span_count (y -ℤ x))))) r → IsReply (span_of (plain names a) (plain names b)) r
span_seen a b x y names r is_a is_b h =
    subst (λ o. IsReply (given o (λ z. given (as_integer (plain names b)) (λ y. fits [] (answers (λ d. d ≡ list (integers_from z (span_count (y -ℤ z)))))))) r) (sym (integer_seen names a (Some x) is_a))
    (subst (λ o. IsReply (given o (λ y. fits [] (answers (λ d. d ≡ list (integers_from x (span_count (y -ℤ x))))))) r) (sym (integer_seen names b (Some y) is_b)) h)

within_at : (x y : ℤ) (d : ℤ) (n i : ℕ) → FitsSigned w64 x → FitsSigned w64 y → (y -ℤ x) ≡ d → n ≡ min (span_count d) (2 ^ 64 - 1) → i < n → FitsSigned w64 (x +ℤ pos i)
within_at x y (pos k) n i fit_x fit_y is count h = let up : i ≤ k = omega (arith, count, h) in omega (arith, ints, is, up, fit_x, fit_y)
within_at x y (negsuc k) n i fit_x fit_y is count h = absurd (omega (arith, count, h))

-- the integers between two are in 64 bits
pub range_within : (x y : ℤ) (n : ℕ) → FitsSigned w64 x → FitsSigned w64 y → n ≡ min (span_count (y -ℤ x)) (2 ^ 64 - 1) → n < WEIGHT_LIMIT → IsRange (record { first = x; count = n })
range_within x y n fit_x fit_y count light = record { few = light; within = λ i h. within_at x y (y -ℤ x) n i fit_x fit_y refl count h }

module _ (a b : Value) (s : State) (x y : ℤ) (is_a : as_integer (contents a) ≡ Some x) (is_b : as_integer (contents b) ≡ Some y) (n : ℕ) (count : n ≡ min (span_count (y -ℤ x)) (2 ^ 64 - 1)) where
  -- there are too many
  pub span_large : WEIGHT_LIMIT ≤ n → Evaluates list_of_range is_range (Err (Script TooLarge)) s s (λ names. ask (spans (plain names a) (plain names b)))
  span_large heavy = refused_as a b s TooLarge (λ names. span_seen a b x y names (Err TooLarge) is_a is_b (spanned_large x (span_count (y -ℤ x)) (omega (arith, count, heavy))))

  -- there are few enough
  pub span_fine : (range : IsRange (record { first = x; count = n })) → Evaluates list_of_range is_range (Ok (record { first = x; count = n })) s s (λ names. ask (spans (plain names a) (plain names b)))
  span_fine range =
      let light : n < WEIGHT_LIMIT = range.few in
      let k = span_count (y -ℤ x) in
      let same : n ≡ k = omega (arith, count, light) in
      record {
        keeps = keeps_all s.names;
        variables = refl;
        budget = refl;
        parameters = refl;
        is_known = range;
        gives = λ final later.
            let q = spans (plain (named final) a) (plain (named final) b) in
            subst (λ m. RunsOver s.budget (ask q) s.variables (Ok (list (integers_from x m))) s.variables [] s.attributes s.attributes) (sym same)
            (over_told s.budget q (Ok (list (integers_from x k))) s.variables s.attributes (span_seen a b x y (named final) (Ok (list (integers_from x k))) is_a is_b (spanned_fine x k (omega (arith, same, light))), refl));
      }
