use Rattle.std.proofs.Common.{◌≡◌, map, ap, sym, ◌∙◌, subst}
use Rattle.std.specs.Prelude.{IfOk, pos}
use Rattle.std.proofs.lemmas.Result.{IfOk-weaker}
use Rattle.sg_value.specs.Data.{int, items_of, list}
use Rattle.sg_value.specs.Plain.{contents, contents_of_all}
use Rattle.sg_rows.specs.declared.made.Made.TheVariants.{Integers, Naturals, Vectors, VectorLists}
use Rattle.sg_rows.specs.Values.{natural_list, vector_list}
use Rattle.sg_calls.specs.Delivered.{IsValueOf}
use Rattle.sg_calls.proofs.MadeValues.{integers_value, naturals_value, vectors_value, lists_value}
use Rattle.sg_calls.proofs.delivering.value_of.Goals as goal

pub returns-in_ok-integer_values-in-Integers-clause-value : goal.returns-in_ok-integer_values-in-Integers-clause-value
returns-in_ok-integer_values-in-Integers-clause-value c =
    let store = c.args.ids.now in
    let vs = c.in_ok-integer_values-in-Integers.field-0.items in
    let same = c.in_ok-integer_values-in-Integers.ensures ∙ ap (λ zs. items_of (map int zs)) c.as_slice.ensures in
    subst (λ m. IfOk c.list_value.result (IsValueOf store m)) (sym c.in-Integers.is)
    (IfOk-weaker c.list_value.result (λ v. contents v ≡ list (contents_of_all vs)) (IsValueOf store (Integers c.in-Integers.zs)) (λ v is. integers_value store c.in-Integers.zs vs v is same) c.list_value.ensures)

pub returns-in_ok-natural_values-in-Naturals-clause-value : goal.returns-in_ok-natural_values-in-Naturals-clause-value
returns-in_ok-natural_values-in-Naturals-clause-value c =
    let store = c.args.ids.now in
    let vs = c.in_ok-natural_values-in-Naturals.field-0.items in
    let r = c.list_value-in-Naturals.result in
    let same = c.in_ok-natural_values-in-Naturals.ensures ∙ ap (λ ns. items_of (map (λ n. int (pos n)) ns)) c.as_slice-in-Naturals.ensures in
    subst (λ m. IfOk r (IsValueOf store m)) (sym c.in-Naturals.is)
    (IfOk-weaker r (λ v. contents v ≡ list (contents_of_all vs)) (IsValueOf store (Naturals c.in-Naturals.ns)) (λ v is. naturals_value store c.in-Naturals.ns vs v is same) c.list_value-in-Naturals.ensures)

pub returns-in_ok-vector_values-in-Vectors-clause-value : goal.returns-in_ok-vector_values-in-Vectors-clause-value
returns-in_ok-vector_values-in-Vectors-clause-value c =
    let store = c.args.ids.now in
    let vs = c.in_ok-vector_values-in-Vectors.field-0.items in
    let r = c.list_value-in-Vectors.result in
    let same = c.in_ok-vector_values-in-Vectors.ensures ∙ ap (λ ls. items_of (map natural_list ls)) c.as_slice-in-Vectors.ensures in
    subst (λ m. IfOk r (IsValueOf store m)) (sym c.in-Vectors.is)
    (IfOk-weaker r (λ v. contents v ≡ list (contents_of_all vs)) (IsValueOf store (Vectors c.in-Vectors.vectors)) (λ v is. vectors_value store c.in-Vectors.vectors vs v is same) c.list_value-in-Vectors.ensures)

pub returns-in_ok-vector_list_values-in-VectorLists-clause-value : goal.returns-in_ok-vector_list_values-in-VectorLists-clause-value
returns-in_ok-vector_list_values-in-VectorLists-clause-value c =
    let store = c.args.ids.now in
    let vs = c.in_ok-vector_list_values-in-VectorLists.field-0.items in
    let r = c.list_value-in-VectorLists.result in
    let same = c.in_ok-vector_list_values-in-VectorLists.ensures ∙ ap (λ ls. items_of (map vector_list ls)) c.as_slice-in-VectorLists.ensures in
    subst (λ m. IfOk r (IsValueOf store m)) (sym c.in-VectorLists.is)
    (IfOk-weaker r (λ v. contents v ≡ list (contents_of_all vs)) (IsValueOf store (VectorLists c.in-VectorLists.lists)) (λ v is. lists_value store c.in-VectorLists.lists vs v is same) c.list_value-in-VectorLists.ensures)
