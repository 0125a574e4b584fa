use Rattle.std.proofs.Common.{Err, Ok, refl}
use Rattle.std.specs.Map.{lookup}
use Rattle.std.specs.Str.{bytes_eq}
use Rattle.sg_meaning.specs.Expressions.{looked_up}
use Rattle.sg_eval.specs.Machine.{state_of}
use Rattle.sg_eval.proofs.Borrowed.{found_over, copied, copied_exit}
use Rattle.sg_eval.proofs.machine.Machine.named.Goals as goal

pub returns-in_err-value : goal.returns-in_err-value
returns-in_err-value c =
    let m = c.args.self.now in
    let s = state_of m in
    let x = c.args.name.now in
    copied_exit c.from_residual.result _ s (λ names. looked_up (lookup (bytes_eq x) s.parameters) x) c.from_residual.ensures.1
    (found_over (Err c.in_err-value.field-0.0) s x m.parameters.items c.deref.result.now m.variables.entries c.in_err-value.ensures c.deref.ensures.value refl refl m.known.1 m.known.0)

pub returns : goal.returns
returns c =
    let m = c.args.self.now in
    let s = state_of m in
    let x = c.args.name.now in
    copied c.in_ok-value.value c.in_ok-try_clone.field-0 s (λ names. looked_up (lookup (bytes_eq x) s.parameters) x) c.in_ok-try_clone.ensures
    (found_over (Ok c.in_ok-value.value) s x m.parameters.items c.deref.result.now m.variables.entries c.in_ok-value.ensures c.deref.ensures.value refl refl m.known.1 m.known.0)
