-- The statements that were passed, and the causes of endings.
use Rattle.std.proofs.Common.{◌≡◌, ℕ, ◌+◌, ◌≤◌, List, [], ◌∷◌, ◌++◌, length, refl, sym, ap, subst, ◌∙◌, inl, inr, arith, length-append}
use Rattle.std.specs.Prelude.{◌⊎◌, ◌==◌, Bool, true, false}
use Rattle.std.proofs.lemmas.List.{append-nil}
use Rattle.std.proofs.lemmas.Bool.{eqb-true}
use Rattle.sg_rows.specs.declared.fault.Fault.{Fault}
use Rattle.sg_rows.specs.declared.fault.Fault.TheVariants as fault
use Rattle.sg_play.specs.Record.{Refusal, Played, Ending, done, refused, waiting}
use Rattle.sgps_cli.specs.Passed.{HasRefusals, AreCounted, with_one, end_of, refusal_of}
use Rattle.sgps_cli.specs.Ends.{IsCauseOf}
use Rattle.sgps_cli.specs.Playing.{Counts, EndsAt}
use Rattle.sgps_cli.specs.declared.passed.Passed.{Passed}
use Rattle.sgps_cli.specs.declared.ending.Cause.{Cause}
use Rattle.sgps_cli.specs.declared.ending.Cause.TheVariants as cause

-- what is counted is their number
pub counted-length : (refusals : List Refusal) (passed : Passed) → AreCounted refusals passed → length refusals ≡ passed.count
counted-length refusals passed (inl e) = ap length e.1 ∙ sym e.0
counted-length refusals passed (inr h) = h.counted

-- one more statement, or none
pub counted-more : (refusals fresh : List Refusal) (passed now : Passed) (line : ℕ) → AreCounted refusals passed → Counts passed line fresh now → AreCounted (refusals ++ fresh) now
counted-more refusals fresh passed now line h (inl e) =
    subst (λ xs. AreCounted (refusals ++ xs) now) (sym e.0) (subst (λ xs. AreCounted xs now) (sym (append-nil refusals)) (subst (AreCounted refusals) (sym e.1) h))
counted-more refusals fresh passed now line h (inr e) =
    let size = counted-length refusals passed h in
    subst (AreCounted (refusals ++ fresh)) (sym e.2) (inr (record {
      before = refusals;
      last = e.0;
      all = ap (λ xs. refusals ++ xs) e.1;
      counted = omega (arith, size, length-append refusals fresh, ap length e.1);
    }))

-- at most one more
pub fresh-few : (passed now : Passed) (line : ℕ) (fresh : List Refusal) → Counts passed line fresh now → length fresh ≤ 1
fresh-few passed now line fresh (inl e) = omega (arith, ap length e.0)
fresh-few passed now line fresh (inr e) = omega (arith, ap length e.1)

-- the cause of a play that was played to its end
done-cause : (b : Bool) (refusals : List Refusal) (passed : Passed) (p : Played) → (passed.count == 0) ≡ b → AreCounted refusals passed → p.refusals ≡ refusals → p.ending ≡ done → IsCauseOf (end_of passed) p
done-cause true refusals passed p e (inl h) same d = rw e (d, same ∙ h.1)
done-cause true refusals passed p e (inr h) same d =
    let none : passed.count ≡ 0 = eqb-true passed.count 0 e in
    absurd (omega (arith, h.counted, none, ap length h.all, length-append h.before ((h.last, passed.line) ∷ [])))
done-cause false refusals passed p e (inl h) same d = absurd (let f : (0 == 0) ≡ false = subst (λ n. (n == 0) ≡ false) h.0 e in cc)
done-cause false refusals passed p e (inr h) same d = rw e (d, subst (λ rs. HasRefusals rs passed.count passed.line) (sym same) h)

-- the cause of one that ended at a statement that was refused
refused-cause : (f : Fault) (line : ℕ) (p : Played) → p.ending ≡ refused f line → IsCauseOf (refusal_of f line) p
refused-cause fault.Syntax line p e = (e, λ h. cc)
refused-cause fault.TooLong line p e = (e, λ h. cc)
refused-cause fault.UnknownName line p e = (e, λ h. cc)
refused-cause fault.WrongType line p e = (e, λ h. cc)
refused-cause fault.WrongCount line p e = (e, λ h. cc)
refused-cause fault.Overflow line p e = (e, λ h. cc)
refused-cause fault.BadArgument line p e = (e, λ h. cc)
refused-cause fault.TooLarge line p e = (e, λ h. cc)
refused-cause fault.TooMany line p e = (e, λ h. cc)
refused-cause fault.IndexOut line p e = (e, λ h. cc)
refused-cause fault.Budget line p e = e
refused-cause fault.Depth line p e = (e, λ h. cc)

-- the cause of an ending at a statement
pub ends-cause : (c : Cause) (passed : Passed) (line : ℕ) (e : Ending) (refusals : List Refusal) (p : Played) → EndsAt c passed line e → AreCounted refusals passed → p.refusals ≡ refusals → p.ending ≡ e → IsCauseOf c p
ends-cause c passed line e refusals p (inl h) counted same is = subst (λ x. IsCauseOf x p) (sym h.1) (done-cause (passed.count == 0) refusals passed p refl counted same (is ∙ h.0))
ends-cause c passed line e refusals p (inr h) counted same is = subst (λ x. IsCauseOf x p) (sym h.2) (refused-cause h.0 line p (is ∙ h.1))

-- such an ending waits for nothing
pub ends-ended : (c : Cause) (passed : Passed) (line : ℕ) (e : Ending) → EndsAt c passed line e → e ≡ waiting → ⊥
ends-ended c passed line e (inl h) w = let x : done ≡ waiting = sym h.0 ∙ w in cc
ends-ended c passed line e (inr h) w = let x : refused h.0 line ≡ waiting = sym h.1 ∙ w in cc
