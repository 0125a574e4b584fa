use Rattle.std.proofs.Common.{Err, Ok, refl}
use Rattle.std.specs.Map.{lookup}
use Rattle.std.specs.Str.{bytes_eq}
use Rattle.sg_meaning.specs.Expressions.{looked_up}
use Rattle.sg_eval.specs.Machine.{state_of}
use Rattle.sg_eval.proofs.Borrowed.{found_over, finds_exit, value_at_place}
use Rattle.sg_eval.proofs.machine.Machine.check_named.Goals as goal

pub returns-in_err-find_in : goal.returns-in_err-find_in
returns-in_err-find_in c =
    let m = c.args.self.now in
    let s = state_of m in
    let x = c.args.name.now in
    finds_exit c.from_residual.result _ s (λ names. looked_up (lookup (bytes_eq x) s.parameters) x) c.from_residual.ensures.1
    (found_over (Err c.in_err-find_in.field-0.0) s x m.parameters.items c.deref.result.now m.variables.entries c.in_err-find_in.ensures c.deref.ensures.value refl refl m.known.1 m.known.0)

pub returns : goal.returns
returns c =
    let m = c.args.self.now in
    let s = state_of m in
    let x = c.args.name.now in
    let v = c.in_ok-find_in.field-0 in (
      v.now,
      value_at_place v s (λ names. looked_up (lookup (bytes_eq x) s.parameters) x)
          (found_over (Ok v) s x m.parameters.items c.deref.result.now m.variables.entries c.in_ok-find_in.ensures c.deref.ensures.value refl refl m.known.1 m.known.0),
    )
