use Rattle.std.proofs.Common.{Ok, Err, subst}
use Rattle.sg_tree.specs.TreeView.{arguments_of}
use Rattle.sg_meaning.specs.Expressions.{eval_given}
use Rattle.sg_eval.specs.Given.{plain_where, known_where}
use Rattle.sg_eval.specs.Growth.{joined_onto, Grows}
use Rattle.sg_eval.specs.Machine.{state_of}
use Rattle.sg_eval.specs.Outcomes.{Evaluates}
use Rattle.sg_value.specs.Plain.{plain_of_all}
use Rattle.sg_eval.proofs.Grown.{nothing_there, others_refused, others_with_arrow, growth_refused, growth_done}
use Rattle.sg_eval.proofs.growth.grow.Goals as goal

pub returns-in_err-check_named-clause-done : goal.returns-in_err-check_named-clause-done
returns-in_err-check_named-clause-done c = λ taken.
    nothing_there (state_of c.args.machine.now) c.args.name.now (arguments_of c.args.others.now) taken c.requires c.from_residual.result _ c.from_residual.ensures.1 c.in_err-check_named.ensures

pub returns-in_err-lists-clause-done : goal.returns-in_err-lists-clause-done
returns-in_err-lists-clause-done c = λ taken.
    let found = c.in_ok-check_named.ensures in
    others_refused (state_of c.args.machine.now) c.args.name.now (arguments_of c.args.others.now) taken c.requires found.0 found.1 c.from_residual-in_err-lists.result _ (state_of c.given.new.machine) c.from_residual-in_err-lists.ensures.1 c.in_err-lists.ensures.value

pub returns-in-None-clause-done : goal.returns-in-None-clause-done
returns-in-None-clause-done c = λ taken.
    let s = state_of c.args.machine.now in
    let s1 = state_of c.given.new.machine in
    let found = c.in_ok-check_named.ensures in
    others_with_arrow s c.args.name.now (arguments_of c.args.others.now) taken c.requires found.0 found.1 s1
    (subst (λ w. Evaluates plain_where known_where (Ok w) s s1 (λ names. eval_given s.parameters (arguments_of c.args.others.now))) c.in-None.is c.in_ok-lists.ensures.value)

pub returns-in_err-grow-in-Some-clause-done : goal.returns-in_err-grow-in-Some-clause-done
returns-in_err-grow-in-Some-clause-done c = λ taken.
    let s = state_of c.args.machine.now in
    let s1 = state_of c.given.new.machine in
    let s2 = state_of c.grow.new.self in
    let x = c.args.name.now in
    let others = arguments_of c.args.others.now in
    let lists = c.in-Some.lists in
    let found = c.in_ok-check_named.ensures in
    let e = c.in_err-grow-in-Some.field-0.0 in
    let given = subst (λ w. Evaluates plain_where known_where (Ok w) s s1 (λ names. eval_given s.parameters others)) c.in-Some.is c.in_ok-lists.ensures.value in
    growth_refused s x others taken c.requires found.0 found.1 s1 s2 lists given c.in_err-grow-in-Some.ensures.store c.from_residual-in_err-grow-in-Some.result e c.from_residual-in_err-grow-in-Some.ensures.1
    (subst (λ vs. Grows (Err e) s1 s2.variables x (λ names. joined_onto x (plain_of_all names vs))) c.deref.ensures.value c.in_err-grow-in-Some.ensures.grows)

pub returns-in_ok-grow-in-Some-clause-done : goal.returns-in_ok-grow-in-Some-clause-done
returns-in_ok-grow-in-Some-clause-done c = λ taken.
    let s = state_of c.args.machine.now in
    let s1 = state_of c.given.new.machine in
    let s2 = state_of c.grow.new.self in
    let x = c.args.name.now in
    let others = arguments_of c.args.others.now in
    let lists = c.in-Some.lists in
    let found = c.in_ok-check_named.ensures in
    let h = c.in_ok-grow-in-Some.ensures in
    let given = subst (λ w. Evaluates plain_where known_where (Ok w) s s1 (λ names. eval_given s.parameters others)) c.in-Some.is c.in_ok-lists.ensures.value in
    growth_done s x others taken c.requires found.0 found.1 s1 s2 lists given h.store h.parameters
    (subst (λ vs. Grows (Ok tt) s1 s2.variables x (λ names. joined_onto x (plain_of_all names vs))) c.deref.ensures.value h.grows)
