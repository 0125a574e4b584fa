use Rattle.std.proofs.Common.{◌≡◌, ◌≤◌, take, length, ap, sym, arith, length-drop}
use Rattle.std.proofs.lemmas.Grind.{common_steps}
use Rattle.sg_io.proofs.Read.{read_front}
use Rattle.sg_io.specs.Listed.{bytes_at, bytes_from}
use Rattle.sg_io.proofs.listed.copy_next.Goals as goal

pub returns-clause-next : goal.returns-clause-next
returns-clause-next c =
    let bytes = bytes_at c.args.listed.now c.args.place.now.input in
    let rest = bytes_from c.args.listed.now c.args.place.now in
    let n = c.min-count.result in
    let fits : n ≤ length rest = omega (arith, c.min-count.ensures, ap length c.rest-rest.ensures) in
    let is : c.copy_from_slice.new.self ≡ take n rest = grind (arith, common_steps, c.copy_from_slice.ensures.after, c.rest-rest.ensures) in
    sym (read_front bytes c.copy_from_slice.new.self c.args.buf.now c.args.place.now.at n fits is)

pub returns-clause-within : goal.returns-clause-within
returns-clause-within c =
    omega (arith, c.requires, c.min-count.ensures, ap length c.rest-rest.ensures, length-drop c.args.place.now.at (bytes_at c.args.listed.now c.args.place.now.input))
