use Rattle.std.proofs.Common.{[], Ok, sym, subst, rules}
use Rattle.std.specs.Prelude.{FitsSigned}
use Rattle.std.specs.Int.{w64}
use Rattle.std.proofs.lemmas.Int.{to_z-of_z}
use mir.Val.{to_z, of_z}
use Rattle.sg_value.specs.Data.{int}
use Rattle.sg_value.specs.Known.{Known, named}
use Rattle.sg_value.specs.Plain.{plain}
use Rattle.sg_rows.specs.Order.{IsReply}
use Rattle.sg_rows.proofs.Signed.{of_bits}
use Rattle.sg_calls.specs.Operations.{calculation}
use Rattle.sg_eval.specs.AtOnce.{Calculates}
use Rattle.sg_eval.proofs.Computed.{calculated_there}
use Rattle.sg_eval.proofs.integers.calculated.Goals as goal

pub returns-in-Ok-Int : goal.returns-in-Ok-Int
returns-in-Ok-Int c =
    let o = c.in_ok-operator_of.field-0 in
    let x = c.args.x in
    let y = c.args.y in
    let z = c.in-Ok-Int.z in
    let fit : FitsSigned w64 z = search rules in
    let nothing : Known = record { semigroups = []; ideals = [] } in
    let reply = subst (λ v. IsReply (calculation o (to_z w64 (of_z w64 x)) (to_z w64 (of_z w64 y))) (Ok (plain (named nothing) v))) c.in-Ok-Int.field-0-is (c.in-Ok-Int.ensures nothing).0 in
    subst (Calculates c.args.op x y) (sym (to_z-of_z w64 z fit))
    (calculated_there c.args.op o x y z (sym c.in_ok-operator_of.ensures) (of_bits (λ a b. IsReply (calculation o a b) (Ok (int z))) x y c.ranges.x c.ranges.y reply))
