-- What functions told of rows.
use Rattle.std.proofs.Common.{◌≡◌, ◌<◌, ◌≤◌, ◌^◌, ℕ, pos, List, length, Result, Ok, Err, refl, ap, sym, subst}
use Rattle.std.specs.Prelude.{OnOk}
use Rattle.sg_value.specs.Data.{int}
use Rattle.sg_value.specs.declared.limits.TheConstants.{WEIGHT_LIMIT}
use Rattle.sg_rows.specs.Order.{Plain, Row, Passes}
use Rattle.sg_rows.specs.Values.{answers, a_natural, a_quotient, quotient, natural_list, naturals_with}
use Rattle.sg_lawful.specs.Spans.{IsShort}
use Rattle.sg_rows.specs.Limits.{spanned}
pub use Rattle.sg_rows.specs.Made.{AreWithinBits}
use Rattle.sg_rows.specs.Made.{IsSound, Tells, datum}
use Rattle.sg_rows.specs.declared.made.Made.TheVariants.{Natural, Naturals}
use Rattle.sg_rows.specs.declared.fault.Fault.TheVariants.{TooLarge}
use Rattle.sg_rows.specs.declared.fault.CallFault.TheVariants.{Script, Memory}
use Rattle.sg_rows.specs.declared.fault.CallFault.{CallFault}
use Rattle.sg_rows.specs.declared.made.Made.{Made}
use Rattle.sg_rows.proofs.Listing.{delivers_heavy_naturals}
use Rattle.sg_rows.proofs.Replying.{answers_pass, delivered, reply_in}
use Rattle.sg_rows.proofs.Spans.{spanned_pass}

-- what tells a value tells every row of which that is a value, where nothing refuses it
pub tells_in : (x : Plain) (row : Row) (r : Result Made CallFault) → Passes row → row.value x → Tells r (answers (λ d. d ≡ x)) → Tells r row
tells_in x row (Ok m) passes h told = (record { passes = passes; value = subst row.value (sym told.0.value) h }, told.1)
tells_in x row (Err (Script e)) passes h told = reply_in x row (Err e) passes h told
tells_in x row (Err (Memory e)) passes h told = tt

-- no condition on arguments
pub always : {A E : Type 0} (r : Result A E) → OnOk r (Unit {0})
always (Ok a) = tt
always (Err e) = tt

-- ---- rows that refuse nothing

pub tells_natural : (P : ℕ → Type 0) (n : ℕ) → n < 2 ^ 63 → P n → Tells (Ok (Natural n)) (answers (a_natural P))
tells_natural P n small h = (record { passes = answers_pass (a_natural P); value = (n, refl, h) }, small)

pub tells_this_natural : (n m : ℕ) → n < 2 ^ 63 → n ≡ m → Tells (Ok (Natural n)) (answers (λ d. d ≡ int (pos m)))
tells_this_natural n m small e = (record { passes = answers_pass (λ d. d ≡ int (pos m)); value = ap (λ k. int (pos k)) e }, small)

pub tells_quotient : (P : ℕ → ℕ → Type 0) (p q : ℕ) (m : Made) → datum m ≡ quotient p q → IsSound m → P p q → Tells (Ok m) (answers (a_quotient P))
tells_quotient P p q m is sound h = (record { passes = answers_pass (a_quotient P); value = (p, q, is, h) }, sound)

pub tells_naturals : (P : List ℕ → Type 0) (ns : List ℕ) → AreWithinBits ns → P ns → Tells (Ok (Naturals ns)) (answers (naturals_with P))
tells_naturals P ns small h = (record { passes = answers_pass (naturals_with P); value = (ns, refl, h) }, small)

-- ---- rows that refuse a span past the limit

module _ (G : List ℕ) where
  pub tells_naturals_within : (P : List ℕ → Type 0) (ns : List ℕ) → IsShort G → AreWithinBits ns → P ns → Tells (Ok (Naturals ns)) (spanned G (naturals_with P))
  tells_naturals_within P ns short small h = (record { passes = spanned_pass G (naturals_with P) short; value = (ns, refl, h) }, small)

  -- the list is too heavy, and need not be made
  pub tells_heavy : (P : List ℕ → Type 0) (ns : List ℕ) → IsShort G → P ns → WEIGHT_LIMIT ≤ length ns → Tells (Err (Script TooLarge)) (spanned G (naturals_with P))
  tells_heavy P ns short h many = delivered (spanned G (naturals_with P)) (natural_list ns) (Err TooLarge) (spanned_pass G (naturals_with P) short) (ns, refl, h) (delivers_heavy_naturals ns many)
