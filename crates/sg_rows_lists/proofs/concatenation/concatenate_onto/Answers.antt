use Rattle.std.proofs.Common.{◌≡◌, ◌∷◌, true, false, Some, sym, ◌∙◌}
use Rattle.sg_value.specs.Data.{Items}
use Rattle.sg_value.specs.Plain.{contents_of_all, Places}
use Rattle.sg_rows_lists.specs.Concatenations.{concatenated}
use Rattle.sg_rows_lists.proofs.Concatenations.{some_of, not_lists, too_deep, too_heavy, within_as, appended}
use Rattle.sg_rows_lists.proofs.concatenation.concatenate_onto.Goals as goal

pub returns-then-not-are_all_lists-clause-reply : goal.returns-then-not-are_all_lists-clause-reply
returns-then-not-are_all_lists-clause-reply c = λ store known.
    not_lists store (c.args.value.now ∷ c.args.others.now) (λ h. let t : false ≡ true = sym c.if-not-are_all_lists.true ∙ c.are_all_lists.ensures.1 h in cc)

pub returns-then-is_one_deep-clause-reply : goal.returns-then-is_one_deep-clause-reply
returns-then-is_one_deep-clause-reply c = λ store known.
    let vs = c.args.value.now ∷ c.args.others.now in
    let all : (ds : Items Places) × (concatenated (contents_of_all vs) ≡ Some ds) = some_of (concatenated (contents_of_all vs)) (c.are_all_lists.ensures.0 c.if-not-are_all_lists.false) in
    too_deep store vs all.0 all.1 (c.is_one_deep.ensures.0 c.if-is_one_deep.true)

pub returns-then-are_heavy-clause-reply : goal.returns-then-are_heavy-clause-reply
returns-then-are_heavy-clause-reply c = λ store known.
    let vs = c.args.value.now ∷ c.args.others.now in
    let all : (ds : Items Places) × (concatenated (contents_of_all vs) ≡ Some ds) = some_of (concatenated (contents_of_all vs)) (c.are_all_lists.ensures.0 c.if-not-are_all_lists.false) in
    too_heavy store vs all.0 all.1 (λ h. let t : false ≡ true = sym c.if-is_one_deep.false ∙ c.is_one_deep.ensures.1 h in cc) ((c.are_heavy.ensures all.0 all.1).0 c.if-are_heavy.true)

pub returns-clause-reply : goal.returns-clause-reply
returns-clause-reply c = λ store known.
    let v = c.args.value.now in
    let us = c.args.others.now in
    let vs = v ∷ us in
    let all : (ds : Items Places) × (concatenated (contents_of_all vs) ≡ Some ds) = some_of (concatenated (contents_of_all vs)) (c.are_all_lists.ensures.0 c.if-not-are_all_lists.false) in
    within_as store vs all.0 all.1 (λ h. let t : false ≡ true = sym c.if-is_one_deep.false ∙ c.is_one_deep.ensures.1 h in cc) (λ h. let t : false ≡ true = sym c.if-are_heavy.false ∙ (c.are_heavy.ensures all.0 all.1).1 h in cc) known
    c.append.new.value (appended v us all.0 all.1 c.in_ok-more.more.items c.append.new.value c.in_ok-more.ensures c.in_ok-append.ensures.ok)
