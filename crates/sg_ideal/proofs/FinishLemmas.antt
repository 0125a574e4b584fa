-- From the ideal of a table to the ideal of a definition.
use Rattle.std.proofs.Common.{◌≡◌, ℕ, ◌↔◌, List, subst}
use Rattle.std.specs.Prelude.{ℤ, Result, IfOk, IfErr, OnOk}
use Rattle.std.proofs.Common.{Ok, Err, ◌≢◌}
use Rattle.std.proofs.lemmas.Result.{IfOk-weaker, IfErr-weaker}
use Rattle.sg_ideal.specs.declared.fault.IdealFault.{IdealFault}
use Rattle.sg_ideal.specs.declared.fault.IdealFault.TheVariants.{BadArgument, TooLarge, Memory}
use Rattle.sg_ideal.specs.Value.{IsIdealOf}
use Rattle.sg_defs.specs.Ideals.{RelativeIdeal}
use Rattle.sg_ideal.specs.Classes.{IsFrom}
use Rattle.sg_ideal.specs.Faults.{IsMultipleRefused, IsPairRefused, IsSizeFault}
use Rattle.sg_ideal.proofs.FaultLemmas.{ideal-same, large-same}

pub size-same : (G : List ℕ) (P Q : ℤ → Type 0) → ((x : ℤ) → Q x ↔ P x) → (f : IdealFault) → IsSizeFault G P f → IsSizeFault G Q f
size-same G P Q e BadArgument h = h
size-same G P Q e TooLarge h = large-same G P Q e h
size-same G P Q e (Memory a) h = tt

module _ (G H : List ℕ) (P : ℤ → Type 0) (a b : ℤ) (t u : List ℕ) (ambient : H ≡ G) (base : b ≡ a) (table : u ≡ t) (same : (x : ℤ) → P x ↔ IsFrom a t x) where
  pub passed : (Q : List ℕ → (ℤ → Type 0) → Type 0) → Q H (IsFrom b u) → Q G (IsFrom a t)
  passed Q h = subst (λ t. Q G (IsFrom a t)) table (subst (λ a. Q G (IsFrom a u)) base (subst (λ G. Q G (IsFrom b u)) ambient h))

  -- an ideal of the table is one of the set
  pub finish-made : (r : Result RelativeIdeal IdealFault) → IfOk r (IsIdealOf H (IsFrom b u)) → IfOk r (IsIdealOf G P)
  finish-made r h =
      IfOk-weaker r (IsIdealOf H (IsFrom b u)) (IsIdealOf G P) (λ I m. ideal-same G (IsFrom a t) P same I (passed (λ G P. IsIdealOf G P I) m)) h

  -- a fault of the table is one of the set
  pub finish-refused : (r : Result RelativeIdeal IdealFault) → IfErr r (IsSizeFault H (IsFrom b u)) → IfErr r (IsSizeFault G P)
  finish-refused r h =
      IfErr-weaker r (IsSizeFault H (IsFrom b u)) (IsSizeFault G P) (λ f m. size-same G (IsFrom a t) P same f (passed (λ G P. IsSizeFault G P f) m)) h

-- of ideals over one semigroup
pub pair-refused : (I J : RelativeIdeal) (P : ℤ → Type 0) (r : Result RelativeIdeal IdealFault) → I.ambient ≡ J.ambient → IfErr r (IsSizeFault I.ambient P) → IfErr r (IsPairRefused I J P)
pair-refused I J P r e h = IfErr-weaker r (IsSizeFault I.ambient P) (IsPairRefused I J P) faults h
  where
    faults : (f : IdealFault) → IsSizeFault I.ambient P f → IsPairRefused I J P f
    faults BadArgument h = absurd h
    faults TooLarge h = (e, h)
    faults (Memory a) h = tt

-- what holds anyway holds where there is an ideal
pub on-ok : (P : Type 0) (r : Result RelativeIdeal IdealFault) → P → OnOk r P
on-ok P (Ok x) p = p
on-ok P (Err e) p = tt

-- of a multiple that is not by 0
pub multiple-refused : (k : ℕ) (G : List ℕ) (P : ℤ → Type 0) (r : Result RelativeIdeal IdealFault) → k ≢ 0 → IfErr r (IsSizeFault G P) → IfErr r (IsMultipleRefused k G P)
multiple-refused k G P r some h = IfErr-weaker r (IsSizeFault G P) (IsMultipleRefused k G P) faults h
  where
    faults : (f : IdealFault) → IsSizeFault G P f → IsMultipleRefused k G P f
    faults BadArgument h = absurd h
    faults TooLarge h = (some, h)
    faults (Memory a) h = tt
