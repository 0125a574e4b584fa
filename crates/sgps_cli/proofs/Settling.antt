-- From the bytes that were taken to the whole script.
use Rattle.std.proofs.Common.{◌≡◌, ℕ, ◌+◌, ◌-◌, ◌<◌, ◌≤◌, List, [], ◌++◌, length, take, Bool, true, false, Option, Some, None, refl, sym, ap, subst, ◌∙◌, inl, inr, arith, length-append}
use Rattle.std.specs.Prelude.{◌⊎◌, nat_lt, is_some, IfSome}
use Rattle.std.specs.Option.{option_and_then}
use Rattle.std.specs.Io.KnownBytes.{prepend_known}
use Rattle.std.proofs.lemmas.Bool.{lt-ltb, le-ltb}
use Rattle.std.proofs.lemmas.List.{append-nil, take_all, append_cancel_right}
use Rattle.std.proofs.Math.Seq.{take-append-add}
use Rattle.sg_io.specs.Inputs.{Input, input_named}
use Rattle.sg_play.specs.Record.{Record, Played, waiting}
use Rattle.sg_play.specs.Play.{Play}
use Rattle.sg_play.specs.Left.{IsLeft}
use Rattle.sg_play.proofs.Plays.{ended-stays}
use Rattle.sg_play.proofs.Leaving.{left-longer}
use Rattle.sgps_cli.specs.Input.{IsInput, IsTaken}

-- the bytes taken, and the rest, are the input that was begun; where nothing is told there is no rest
pub record AreTaken (inputs : Option (List Input)) (name now : Option (List ℕ)) (bytes : List ℕ) : Type 0 where
  pub rest : List ℕ
  pub input : IsInput inputs name (bytes ++ rest)
  pub over : (now ≡ Some rest) ⊎ (now ≡ None) × (rest ≡ [])
  pub told : is_some now ≡ is_some inputs

-- what a source tells when it was begun and read
pub are-taken : (inputs : Option (List Input)) (name first now : Option (List ℕ)) (bytes : List ℕ) → first ≡ option_and_then (input_named name) inputs → is_some first ≡ is_some inputs →
    first ≡ prepend_known bytes now → AreTaken inputs name now bytes
are-taken None name first None bytes named told kept = record { rest = []; input = tt; over = inr (refl, refl); told = refl }
are-taken None name first (Some r) bytes named told kept = absurd (let e : None ≡ Some (bytes ++ r) = sym named ∙ kept in cc)
are-taken (Some is') name None now bytes named told kept = absurd (let e : false ≡ true = told in cc)
are-taken (Some is') name (Some xs) None bytes named told kept = absurd (let e : Some xs ≡ None = kept in cc)
are-taken (Some is') name (Some xs) (Some r) bytes named told kept = record { rest = r; input = sym named ∙ kept; over = inl refl; told = refl }

-- they are what was taken of the input
pub is-taken : {inputs : Option (List Input)} {name : Option (List ℕ)} (now : Option (List ℕ)) {bytes : List ℕ} → AreTaken inputs name now bytes → IsTaken inputs name now bytes
is-taken now t = record { rest = t.rest; input = t.input; left_over = over now t.rest t.over }
  where
    over : (o : Option (List ℕ)) (r : List ℕ) → (o ≡ Some r) ⊎ (o ≡ None) × (r ≡ []) → IfSome o (λ bs. bs ≡ r)
    over None r h = tt
    over (Some xs) r (inl e) = let f : xs ≡ r = cc in f
    over (Some xs) r (inr e) = absurd (let f : Some xs ≡ None = e.0 in cc)

-- a source that tells its bytes tells which were taken
pub same-taken : (inputs : Option (List Input)) (name now : Option (List ℕ)) (bytes other : List ℕ) → is_some inputs ≡ true → AreTaken inputs name now bytes → IsTaken inputs name now other → other ≡ bytes
same-taken None name now bytes other tells a b = absurd (cc)
same-taken (Some is') name None bytes other tells a b = absurd (let e = a.told in cc)
same-taken (Some is') name (Some rest) bytes other tells a b =
    let over : rest ≡ a.rest = elim a.over [ inl e ↦ cc | inr e ↦ absurd (let f = e.0 in cc) ] in
    let whole : other ++ b.rest ≡ bytes ++ a.rest = let h : Some (other ++ b.rest) ≡ Some (bytes ++ a.rest) = sym b.input ∙ a.input in cc in
    append_cancel_right other bytes a.rest (ap (λ r. other ++ r) (sym over ∙ b.left_over) ∙ whole)

-- where the input ended, no rest is there
pub nothing-over : (now : Option (List ℕ)) (rest : List ℕ) → (now ≡ Some rest) ⊎ (now ≡ None) × (rest ≡ []) → IfSome now (λ r. r ≡ []) → rest ≡ []
nothing-over now rest (inr e) h = e.1
nothing-over None rest (inl e) h = absurd (let f : None ≡ Some rest = e in cc)
nothing-over (Some xs) rest (inl e) h = let f : xs ≡ rest = cc in sym f ∙ h

-- the first bytes of the input up to a limit
cut-off : (limit : ℕ) (bytes rest : List ℕ) → length bytes ≤ limit → take limit (bytes ++ rest) ≡ bytes ++ take (limit - length bytes) rest
cut-off limit bytes rest l = let e : limit ≡ length bytes + (limit - length bytes) = omega arith in ap (λ n. take n (bytes ++ rest)) e ∙ take-append-add bytes rest (limit - length bytes)

-- what was played without waiting for more is what the whole script comes to
module _ (limit budget : ℕ) (keep : Bool) (bytes rest : List ℕ) (p : Played) where
  -- where these are all bytes
  pub settled-whole : length bytes < limit → rest ≡ [] → Play bytes true budget keep p → Play (take limit (bytes ++ rest)) (nat_lt (length (bytes ++ rest)) limit) budget keep p
  settled-whole l e d =
      let same : bytes ++ rest ≡ bytes = ap (λ r. bytes ++ r) e ∙ append-nil bytes in
      subst (λ b. Play (take limit b) (nat_lt (length b) limit) budget keep p) (sym same)
      (subst (λ b. Play b (nat_lt (length bytes) limit) budget keep p) (sym (take_all limit bytes (omega arith))) (subst (λ w. Play bytes w budget keep p) (sym (lt-ltb (length bytes) limit l)) d))

  -- where they are as many as a script may have
  pub settled-limit : length bytes ≡ limit → Play bytes false budget keep p → Play (take limit (bytes ++ rest)) (nat_lt (length (bytes ++ rest)) limit) budget keep p
  settled-limit l d =
      let zero : limit - length bytes ≡ 0 = omega arith in
      let none : take (limit - length bytes) rest ≡ [] = ap (λ n. take n rest) zero in
      let same : bytes ≡ take limit (bytes ++ rest) = sym (append-nil bytes) ∙ ap (λ r. bytes ++ r) (sym none) ∙ sym (cut-off limit bytes rest (omega arith)) in
      subst (λ b. Play b (nat_lt (length (bytes ++ rest)) limit) budget keep p) same (subst (λ w. Play bytes w budget keep p) (sym (le-ltb (length (bytes ++ rest)) limit (omega (arith, length-append bytes rest)))) d)

  -- where the play ended before more was read
  pub settled-early : length bytes ≤ limit → (p.ending ≡ waiting → ⊥) → Play bytes false budget keep p → Play (take limit (bytes ++ rest)) (nat_lt (length (bytes ++ rest)) limit) budget keep p
  settled-early l ended d =
      subst (λ b. Play b (nat_lt (length (bytes ++ rest)) limit) budget keep p) (sym (cut-off limit bytes rest l)) (ended-stays budget keep d (take (limit - length bytes) rest) (nat_lt (length (bytes ++ rest)) limit) ended)

-- what was left stands in the whole script too
pub left-in-whole : (limit budget : ℕ) (keep : Bool) (bytes rest : List ℕ) (r : Record) → length bytes ≤ limit → IsLeft bytes budget keep r → IsLeft (take limit (bytes ++ rest)) budget keep r
left-in-whole limit budget keep bytes rest r l h = subst (λ b. IsLeft b budget keep r) (sym (cut-off limit bytes rest l)) (left-longer (take (limit - length bytes) rest) h)
