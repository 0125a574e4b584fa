-- The words, and the beginning of the input that they name.
use Rattle.std.proofs.Common.{◌≡◌, ℕ, List, false, true, Option, Some, None, Result, Ok, Err, refl, subst}
use Rattle.std.specs.Prelude.{is_some, is_err, IfSome, IsSome, OnOk, OnErr, if◌then◌else◌}
use Rattle.sg_io.specs.Faults.{next_count}
use Rattle.sg_io.specs.Inputs.{Input, input_named, missing_after}
use Rattle.sg_words.specs.Asked.{Answers, wanted_of}
use Rattle.sg_words.specs.Settings.{Wanted}
use Rattle.sg_words.specs.declared.settings.Settings.{Settings}
use Rattle.sg_words.specs.declared.settings.WordsFault.{WordsFault}
use Rattle.sg_words.specs.declared.settings.WordsFault.TheVariants as fault

-- what holds of an Ok holds where there is no error
pub of-ok : {X E : Type 0} {P : Type 0} (r : Result X E) → is_err r ≡ false → OnOk r P → P
of-ok (Ok x) h p = p
of-ok (Err x) h p = absurd (cc)

-- and what holds of an error where there is one
pub of-err : {X E : Type 0} {P : Type 0} (r : Result X E) → is_err r ≡ true → OnErr r P → P
of-err (Ok x) h p = absurd (cc)
of-err (Err x) h p = p

-- where the input that the words name is there, none is missed
pub missing-same : (inputs : Option (List Input)) (name : Option (List ℕ)) (m : ℕ) → IfSome inputs (λ is. IsSome (input_named name is)) → missing_after inputs name m ≡ m
missing-same None name m h = refl
missing-same (Some is') name m h = there (input_named name is') h
  where
    there : (o : Option (List ℕ)) → IsSome o → (if is_some o then m else next_count m) ≡ m
    there None h = absurd (cc)
    there (Some x) h = refl

-- what accepted words ask for
pub accepted-words : (w : Option Wanted) (r : Result Settings WordsFault) (s : Settings) → Answers w r → r ≡ Ok s → w ≡ Some (wanted_of s)
accepted-words w r s a is = subst (Answers w) is a

-- refused words ask for nothing
pub refused-words : (w : Option Wanted) (r : Result Settings WordsFault) → Answers w r → r ≡ Err fault.Usage → w ≡ None
refused-words w r a is = subst (Answers w) is a

-- what is none is not named
pub nothing-named : {P : Type 0} (o : Option ℕ) → o ≡ None → IsSome o → P
nothing-named None e h = absurd (cc)
nothing-named (Some n) e h = absurd (let k : Some n ≡ None = e in cc)
