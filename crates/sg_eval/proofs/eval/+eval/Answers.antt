mod Forms
mod Lists
mod Chains
mod Calls
mod Arrows
use Rattle.sg_eval.proofs.eval.+eval.Answers.Forms as forms
use Rattle.sg_eval.proofs.eval.+eval.Answers.Lists as lists
use Rattle.sg_eval.proofs.eval.+eval.Answers.Chains as chains
use Rattle.sg_eval.proofs.eval.+eval.Answers.Calls as calls
use Rattle.sg_eval.proofs.eval.+eval.Answers.Arrows as arrows
use Rattle.sg_eval.proofs.eval.+eval.Goals as goal

pub eval_any-returns-in-Var : goal.eval_any-returns-in-Var
eval_any-returns-in-Var = forms.eval_any-returns-in-Var

pub eval_any-returns-in-Display : goal.eval_any-returns-in-Display
eval_any-returns-in-Display = forms.eval_any-returns-in-Display

pub eval_any-returns-in-Call : goal.eval_any-returns-in-Call
eval_any-returns-in-Call = forms.eval_any-returns-in-Call

pub minus_of-returns-in_err-eval : goal.minus_of-returns-in_err-eval
minus_of-returns-in_err-eval = forms.minus_of-returns-in_err-eval

pub minus_of-returns : goal.minus_of-returns
minus_of-returns = forms.minus_of-returns

pub not_of-returns-in_err-eval : goal.not_of-returns-in_err-eval
not_of-returns-in_err-eval = forms.not_of-returns-in_err-eval

pub not_of-returns : goal.not_of-returns
not_of-returns = forms.not_of-returns

pub eval_any-returns-in-Minus : goal.eval_any-returns-in-Minus
eval_any-returns-in-Minus = forms.eval_any-returns-in-Minus

pub eval_any-returns-in-Not : goal.eval_any-returns-in-Not
eval_any-returns-in-Not = forms.eval_any-returns-in-Not

pub eval_any-returns-in_err-value-in-Item : goal.eval_any-returns-in_err-value-in-Item
eval_any-returns-in_err-value-in-Item = forms.eval_any-returns-in_err-value-in-Item

pub eval_any-returns-in_ok-value-in-Item : goal.eval_any-returns-in_ok-value-in-Item
eval_any-returns-in_ok-value-in-Item = forms.eval_any-returns-in_ok-value-in-Item

pub eval_any-returns-in_err-value-in-Chain : goal.eval_any-returns-in_err-value-in-Chain
eval_any-returns-in_err-value-in-Chain = forms.eval_any-returns-in_err-value-in-Chain

pub eval_any-returns-in_ok-value-in-Chain : goal.eval_any-returns-in_ok-value-in-Chain
eval_any-returns-in_ok-value-in-Chain = forms.eval_any-returns-in_ok-value-in-Chain

pub eval_any-returns-in_err-a-in-Compare : goal.eval_any-returns-in_err-a-in-Compare
eval_any-returns-in_err-a-in-Compare = forms.eval_any-returns-in_err-a-in-Compare

pub eval_any-returns-in_ok-a-in-Compare : goal.eval_any-returns-in_ok-a-in-Compare
eval_any-returns-in_ok-a-in-Compare = forms.eval_any-returns-in_ok-a-in-Compare

pub eval_any-returns-in_err-a-in-Span : goal.eval_any-returns-in_err-a-in-Span
eval_any-returns-in_err-a-in-Span = forms.eval_any-returns-in_err-a-in-Span

pub eval_any-returns-in_err-b-in-Span : goal.eval_any-returns-in_err-b-in-Span
eval_any-returns-in_err-b-in-Span = forms.eval_any-returns-in_err-b-in-Span

pub eval_any-returns-in_ok-b-in-Span : goal.eval_any-returns-in_ok-b-in-Span
eval_any-returns-in_ok-b-in-Span = forms.eval_any-returns-in_ok-b-in-Span

pub eval-returns-in-Some : goal.eval-returns-in-Some
eval-returns-in-Some = forms.eval-returns-in-Some

pub display-returns-in_err-eval_all : goal.display-returns-in_err-eval_all
display-returns-in_err-eval_all = lists.display-returns-in_err-eval_all

pub display-returns : goal.display-returns
display-returns = lists.display-returns

pub item_at-returns-in_err-at : goal.item_at-returns-in_err-at
item_at-returns-in_err-at = lists.item_at-returns-in_err-at

pub item_at-returns : goal.item_at-returns
item_at-returns = lists.item_at-returns

pub item-loop-place-preserved : goal.item-loop-place-preserved
item-loop-place-preserved = lists.item-loop-place-preserved

pub item-returns-in_err-value : goal.item-returns-in_err-value
item-returns-in_err-value = lists.item-returns-in_err-value

pub item-returns : goal.item-returns
item-returns = lists.item-returns

pub eval_all-loop-e-init : goal.eval_all-loop-e-init
eval_all-loop-e-init = lists.eval_all-loop-e-init

pub eval_all-returns-in_err-value : goal.eval_all-returns-in_err-value
eval_all-returns-in_err-value = lists.eval_all-returns-in_err-value

pub eval_all-returns-in_err-put : goal.eval_all-returns-in_err-put
eval_all-returns-in_err-put = lists.eval_all-returns-in_err-put

pub eval_all-loop-e-preserved : goal.eval_all-loop-e-preserved
eval_all-loop-e-preserved = lists.eval_all-loop-e-preserved

pub eval_all-returns : goal.eval_all-returns
eval_all-returns = lists.eval_all-returns

pub compared-returns-in_err-b : goal.compared-returns-in_err-b
compared-returns-in_err-b = chains.compared-returns-in_err-b

pub compared-combine-requires-clause-left : goal.compared-combine-requires-clause-left
compared-combine-requires-clause-left = chains.compared-combine-requires-clause-left

pub compared-returns : goal.compared-returns
compared-returns = chains.compared-returns

pub chain-returns : goal.chain-returns
chain-returns = chains.chain-returns

pub chain-returns-in_err-ends_chain : goal.chain-returns-in_err-ends_chain
chain-returns-in_err-ends_chain = chains.chain-returns-in_err-ends_chain

pub chain-returns-then-branch : goal.chain-returns-then-branch
chain-returns-then-branch = chains.chain-returns-then-branch

pub chain-returns-in_err-value : goal.chain-returns-in_err-value
chain-returns-in_err-value = chains.chain-returns-in_err-value

pub chain-loop-op-preserved : goal.chain-loop-op-preserved
chain-loop-op-preserved = chains.chain-loop-op-preserved

pub linked-returns-in-Some : goal.linked-returns-in-Some
linked-returns-in-Some = chains.linked-returns-in-Some

pub linked-returns-in_err-eval-in-None : goal.linked-returns-in_err-eval-in-None
linked-returns-in_err-eval-in-None = chains.linked-returns-in_err-eval-in-None

pub linked-returns-in_ok-eval-in-None : goal.linked-returns-in_ok-eval-in-None
linked-returns-in_ok-eval-in-None = chains.linked-returns-in_ok-eval-in-None

pub argument-returns-in_err-eval-in-Plain : goal.argument-returns-in_err-eval-in-Plain
argument-returns-in_err-eval-in-Plain = calls.argument-returns-in_err-eval-in-Plain

pub argument-returns-in_ok-eval-in-Plain : goal.argument-returns-in_ok-eval-in-Plain
argument-returns-in_ok-eval-in-Plain = calls.argument-returns-in_ok-eval-in-Plain

pub call-returns-in-Some-Command : goal.call-returns-in-Some-Command
call-returns-in-Some-Command = calls.call-returns-in-Some-Command

pub call-returns-in-Some-Arrow : goal.call-returns-in-Some-Arrow
call-returns-in-Some-Arrow = calls.call-returns-in-Some-Arrow

pub call-returns-in-Some-Print : goal.call-returns-in-Some-Print
call-returns-in-Some-Print = calls.call-returns-in-Some-Print

pub call-returns-in-None : goal.call-returns-in-None
call-returns-in-None = calls.call-returns-in-None

pub command_call-returns-then-not-takes : goal.command_call-returns-then-not-takes
command_call-returns-then-not-takes = calls.command_call-returns-then-not-takes

pub command_call-returns-in_err-values : goal.command_call-returns-in_err-values
command_call-returns-in_err-values = calls.command_call-returns-in_err-values

pub command_call-returns-in-Some : goal.command_call-returns-in-Some
command_call-returns-in-Some = calls.command_call-returns-in-Some

pub command_call-returns-in-None : goal.command_call-returns-in-None
command_call-returns-in-None = calls.command_call-returns-in-None

pub given-loop-arg-init : goal.given-loop-arg-init
given-loop-arg-init = calls.given-loop-arg-init

pub given-returns-in_err-found-clause-value : goal.given-returns-in_err-found-clause-value
given-returns-in_err-found-clause-value = calls.given-returns-in_err-found-clause-value

pub given-returns-in_err-values-clause-value : goal.given-returns-in_err-values-clause-value
given-returns-in_err-values-clause-value = calls.given-returns-in_err-values-clause-value

pub given-loop-arg-preserved : goal.given-loop-arg-preserved
given-loop-arg-preserved = calls.given-loop-arg-preserved

pub given-returns-clause-value : goal.given-returns-clause-value
given-returns-clause-value = calls.given-returns-clause-value

pub apply-unbind-requires : goal.apply-unbind-requires
apply-unbind-requires = arrows.apply-unbind-requires

pub apply-returns : goal.apply-returns
apply-returns = arrows.apply-returns

pub apply-returns-in_err-value : goal.apply-returns-in_err-value
apply-returns-in_err-value = arrows.apply-returns-in_err-value

pub fold_call-returns-then-args-ne2 : goal.fold_call-returns-then-args-ne2
fold_call-returns-then-args-ne2 = arrows.fold_call-returns-then-args-ne2

pub fold_call-returns-in_err-first : goal.fold_call-returns-in_err-first
fold_call-returns-in_err-first = arrows.fold_call-returns-in_err-first

pub fold_call-returns-in_err-eval-in-Plain : goal.fold_call-returns-in_err-eval-in-Plain
fold_call-returns-in_err-eval-in-Plain = arrows.fold_call-returns-in_err-eval-in-Plain

pub fold_call-returns-in_ok-eval-in-Plain : goal.fold_call-returns-in_ok-eval-in-Plain
fold_call-returns-in_ok-eval-in-Plain = arrows.fold_call-returns-in_ok-eval-in-Plain

pub fold_call-returns-in_err-entries-in-Arrow : goal.fold_call-returns-in_err-entries-in-Arrow
fold_call-returns-in_err-entries-in-Arrow = arrows.fold_call-returns-in_err-entries-in-Arrow

pub fold_call-folded-requires : goal.fold_call-folded-requires
fold_call-folded-requires = arrows.fold_call-folded-requires

pub fold_call-returns-in_ok-entries-in-Arrow : goal.fold_call-returns-in_ok-entries-in-Arrow
fold_call-returns-in_ok-entries-in-Arrow = arrows.fold_call-returns-in_ok-entries-in-Arrow

pub folded-apply-requires : goal.folded-apply-requires
folded-apply-requires = arrows.folded-apply-requires

pub folded-loop-entry-init : goal.folded-loop-entry-init
folded-loop-entry-init = arrows.folded-loop-entry-init

pub folded-returns-in_err-value : goal.folded-returns-in_err-value
folded-returns-in_err-value = arrows.folded-returns-in_err-value

pub folded-returns-in_err-goes_on : goal.folded-returns-in_err-goes_on
folded-returns-in_err-goes_on = arrows.folded-returns-in_err-goes_on

pub folded-returns-then-not-branch : goal.folded-returns-then-not-branch
folded-returns-then-not-branch = arrows.folded-returns-then-not-branch

pub folded-returns-in_err-gather : goal.folded-returns-in_err-gather
folded-returns-in_err-gather = arrows.folded-returns-in_err-gather

pub folded-loop-entry-preserved : goal.folded-loop-entry-preserved
folded-loop-entry-preserved = arrows.folded-loop-entry-preserved

pub folded-returns : goal.folded-returns
folded-returns = arrows.folded-returns
