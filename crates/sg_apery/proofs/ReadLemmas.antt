-- What a table answers.
use Rattle.std.proofs.Common.{◌≡◌, ℕ, ◌<◌, ◌↔◌, List, length, get_or, sym, subst, ◌∙◌, arith}
use Rattle.std.specs.Int.Signed.{lt_z}
use Rattle.std.specs.Prelude.{Bool, false, ℤ, pos, negsuc, nat_abs, IsTrue}
use Rattle.std.proofs.lemmas.List.{get_or_default}
use Rattle.sg_defs.specs.Membership.{IsMember, IsIntegerMember}
use Rattle.sg_defs.specs.Apery.{IsAperyEntry}
use Rattle.sg_classes.specs.Table.{IsMinimalTable}

-- the same for an integer that is not below 0
pub contains-integer : (G : List ℕ) (x : ℤ) (b : Bool) → lt_z x (pos 0) ≡ false → IsTrue b ↔ IsMember G (nat_abs x) → IsTrue b ↔ IsIntegerMember G x
contains-integer G (pos n) b low h = h
contains-integer G (negsuc n) b low h = absurd cc

-- an entry of the table is that of the Apery list
pub entry-read : (G t : List ℕ) (i w : ℕ) → IsMinimalTable G t → i < get_or G 0 0 → w ≡ get_or t i w → IsAperyEntry G (get_or G 0 0) i w
entry-read G t i w h inside read =
    let l : i < length t = omega (arith, h.multiplicity, inside) in
    let same : get_or t i 0 ≡ w = get_or_default t i 0 w l ∙ sym read in
    subst (λ m. IsAperyEntry G m i w) h.multiplicity (subst (IsAperyEntry G (length t) i) same (record {
      member = h.table.apery.member i l;
      residue = h.table.apery.residue i l;
      least = λ y e q. h.table.apery.least i y l e q;
    }))
