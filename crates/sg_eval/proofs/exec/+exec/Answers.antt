mod Statements
mod Blocks
mod Loops
use Rattle.sg_eval.proofs.exec.+exec.Answers.Statements as statements
use Rattle.sg_eval.proofs.exec.+exec.Answers.Blocks as blocks
use Rattle.sg_eval.proofs.exec.+exec.Answers.Loops as loops
use Rattle.sg_eval.proofs.exec.+exec.Goals as goal

pub exec-exec_arms-requires : goal.exec-exec_arms-requires
exec-exec_arms-requires = statements.exec-exec_arms-requires

pub exec-exec_all-requires : goal.exec-exec_all-requires
exec-exec_all-requires = statements.exec-exec_all-requires

pub exec-returns-in-Empty-clause-done : goal.exec-returns-in-Empty-clause-done
exec-returns-in-Empty-clause-done = statements.exec-returns-in-Empty-clause-done

pub exec-returns-in-Quit-clause-done : goal.exec-returns-in-Quit-clause-done
exec-returns-in-Quit-clause-done = statements.exec-returns-in-Quit-clause-done

pub exec-returns-in-Assign-clause-done : goal.exec-returns-in-Assign-clause-done
exec-returns-in-Assign-clause-done = statements.exec-returns-in-Assign-clause-done

pub exec-returns-in-Do-clause-done : goal.exec-returns-in-Do-clause-done
exec-returns-in-Do-clause-done = statements.exec-returns-in-Do-clause-done

pub exec-returns-in_err-exec_arms-in-If-clause-done : goal.exec-returns-in_err-exec_arms-in-If-clause-done
exec-returns-in_err-exec_arms-in-If-clause-done = statements.exec-returns-in_err-exec_arms-in-If-clause-done

pub exec-returns-then-branch-clause-done : goal.exec-returns-then-branch-clause-done
exec-returns-then-branch-clause-done = statements.exec-returns-then-branch-clause-done

pub exec-returns-else-branch-clause-done : goal.exec-returns-else-branch-clause-done
exec-returns-else-branch-clause-done = statements.exec-returns-else-branch-clause-done

pub exec-returns-in_err-list-in-For-clause-done : goal.exec-returns-in_err-list-in-For-clause-done
exec-returns-in_err-list-in-For-clause-done = statements.exec-returns-in_err-list-in-For-clause-done

pub exec-returns-in-Listed-clause-done : goal.exec-returns-in-Listed-clause-done
exec-returns-in-Listed-clause-done = statements.exec-returns-in-Listed-clause-done

pub exec-returns-in-Counted-clause-done : goal.exec-returns-in-Counted-clause-done
exec-returns-in-Counted-clause-done = statements.exec-returns-in-Counted-clause-done

pub exec_all-loop-stmt-init : goal.exec_all-loop-stmt-init
exec_all-loop-stmt-init = blocks.exec_all-loop-stmt-init

pub exec_all-exec-requires : goal.exec_all-exec-requires
exec_all-exec-requires = blocks.exec_all-exec-requires

pub exec_all-returns-in_err-exec-clause-done : goal.exec_all-returns-in_err-exec-clause-done
exec_all-returns-in_err-exec-clause-done = blocks.exec_all-returns-in_err-exec-clause-done

pub exec_all-loop-stmt-preserved : goal.exec_all-loop-stmt-preserved
exec_all-loop-stmt-preserved = blocks.exec_all-loop-stmt-preserved

pub exec_all-returns-clause-done : goal.exec_all-returns-clause-done
exec_all-returns-clause-done = blocks.exec_all-returns-clause-done

pub exec_arms-loop-test-init : goal.exec_arms-loop-test-init
exec_arms-loop-test-init = blocks.exec_arms-loop-test-init

pub exec_arms-exec_all-requires : goal.exec_arms-exec_all-requires
exec_arms-exec_all-requires = blocks.exec_arms-exec_all-requires

pub exec_arms-returns-in_err-holds-clause-done : goal.exec_arms-returns-in_err-holds-clause-done
exec_arms-returns-in_err-holds-clause-done = blocks.exec_arms-returns-in_err-holds-clause-done

pub exec_arms-returns-in_err-exec_all-clause-done : goal.exec_arms-returns-in_err-exec_all-clause-done
exec_arms-returns-in_err-exec_all-clause-done = blocks.exec_arms-returns-in_err-exec_all-clause-done

pub exec_arms-returns-then-branch-clause-done : goal.exec_arms-returns-then-branch-clause-done
exec_arms-returns-then-branch-clause-done = blocks.exec_arms-returns-then-branch-clause-done

pub exec_arms-loop-test-preserved : goal.exec_arms-loop-test-preserved
exec_arms-loop-test-preserved = blocks.exec_arms-loop-test-preserved

pub exec_arms-returns-clause-done : goal.exec_arms-returns-clause-done
exec_arms-returns-clause-done = blocks.exec_arms-returns-clause-done

pub repeat-loop-entry-init : goal.repeat-loop-entry-init
repeat-loop-entry-init = loops.repeat-loop-entry-init

pub repeat-set-requires : goal.repeat-set-requires
repeat-set-requires = loops.repeat-set-requires

pub repeat-exec_all-requires : goal.repeat-exec_all-requires
repeat-exec_all-requires = loops.repeat-exec_all-requires

pub repeat-returns-in_err-try_clone-clause-done : goal.repeat-returns-in_err-try_clone-clause-done
repeat-returns-in_err-try_clone-clause-done = loops.repeat-returns-in_err-try_clone-clause-done

pub repeat-returns-in_err-set-clause-done : goal.repeat-returns-in_err-set-clause-done
repeat-returns-in_err-set-clause-done = loops.repeat-returns-in_err-set-clause-done

pub repeat-returns-in_err-exec_all-clause-done : goal.repeat-returns-in_err-exec_all-clause-done
repeat-returns-in_err-exec_all-clause-done = loops.repeat-returns-in_err-exec_all-clause-done

pub repeat-loop-entry-preserved : goal.repeat-loop-entry-preserved
repeat-loop-entry-preserved = loops.repeat-loop-entry-preserved

pub repeat-returns-clause-done : goal.repeat-returns-clause-done
repeat-returns-clause-done = loops.repeat-returns-clause-done

pub count_up-loop-i-init : goal.count_up-loop-i-init
count_up-loop-i-init = loops.count_up-loop-i-init

pub count_up-exec_all-requires : goal.count_up-exec_all-requires
count_up-exec_all-requires = loops.count_up-exec_all-requires

pub count_up-returns-in_err-set_integer-clause-done : goal.count_up-returns-in_err-set_integer-clause-done
count_up-returns-in_err-set_integer-clause-done = loops.count_up-returns-in_err-set_integer-clause-done

pub count_up-returns-in_err-exec_all-clause-done : goal.count_up-returns-in_err-exec_all-clause-done
count_up-returns-in_err-exec_all-clause-done = loops.count_up-returns-in_err-exec_all-clause-done

pub count_up-loop-i-preserved : goal.count_up-loop-i-preserved
count_up-loop-i-preserved = loops.count_up-loop-i-preserved

pub count_up-returns-clause-done : goal.count_up-returns-clause-done
count_up-returns-clause-done = loops.count_up-returns-clause-done
