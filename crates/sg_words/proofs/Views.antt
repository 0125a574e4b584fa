-- How a word looks to `clap`, by its kind.
use Rattle.std.proofs.Common.{◌≡◌, ◌∙◌, refl, sym, ap, subst, ℕ, Bool, true, false, List, [], ◌∷◌, Option, Some, None, bytes_eq, arith, slice_get, chars, IsUtf8, inl, inr, length}
use Rattle.std.proofs.lemmas.Bool.Decides.{eqb_tells}
use lib.Utf8.{scalars}
use Rattle.std.specs.Str.{encode_utf8_all}
use Rattle.std.proofs.lemmas.Str.{IsUtf8-drop, IsCharBoundary-after_ascii, chars-encodes}
use Rattle.clap.specs.Lexer.{long_of, short_of}
use Rattle.sg_words.proofs.Tolerant.{kind_of}
use Rattle.sg_words.specs.Words.{Kind, Text, dashes, name_in, option, other, plain, value_in}

abbrev pub two_hyphens : Text
two_hyphens = 45 ∷ 45 ∷ []

pub record Looks (word : Text) (kind : Kind) (is_dashes : Bool) (long : Option (Text × Option Text)) (short : Option Text) : Type 0 where
  pub kind_is : kind_of word ≡ kind
  pub dashes_is : bytes_eq word two_hyphens ≡ is_dashes
  pub long_is : long_of word ≡ long
  pub short_is : short_of word ≡ short

pub data View (word : Text) : Type 0 where
  is_plain : Looks word plain false None None → View word
  is_dashes : Looks word dashes true None None → View word
  is_option : (text : Text) → Looks word (option text) false (Some (name_in text, value_in text)) None → View word
  is_other : (c : ℕ) (cs : Text) (x : ℕ) → Looks word other false None (Some (c ∷ cs)) → slice_get (chars (c ∷ cs)) 0 ≡ Some x → View word

-- text that is not empty has a first character
first_of_all : (c : ℕ) (cs : Text) (all : List ℕ) → scalars all ≡ true → encode_utf8_all all ≡ c ∷ cs → (x : ℕ) × (slice_get (chars (c ∷ cs)) 0 ≡ Some x)
first_of_all c cs [] s e = absurd (omega (arith, ap length e))
first_of_all c cs (x ∷ xs) s e = (x, ap (λ bs. slice_get (chars bs) 0) (sym e) ∙ ap (λ all. slice_get all 0) (chars-encodes (x ∷ xs) s))

first_char : (c : ℕ) (cs : Text) → IsUtf8 (c ∷ cs) → (x : ℕ) × (slice_get (chars (c ∷ cs)) 0 ≡ Some x)
first_char c cs u = first_of_all c cs u.0 u.1.0 u.1.1

behind_two_seen : (cs : Text) → View (45 ∷ 45 ∷ cs)
behind_two_seen [] = is_dashes (record { kind_is = refl; dashes_is = refl; long_is = refl; short_is = refl })
behind_two_seen (c ∷ cs) = is_option (c ∷ cs) (record { kind_is = refl; dashes_is = refl; long_is = refl; short_is = refl })

behind_one_seen : (cs : Text) → IsUtf8 cs → View (45 ∷ cs)
behind_one_seen [] u = is_plain (record { kind_is = refl; dashes_is = refl; long_is = refl; short_is = refl })
behind_one_seen (c ∷ cs) u = elim (eqb_tells c 45) [
  | inl h ↦ subst (λ c. View (45 ∷ c ∷ cs)) (sym h.1) (behind_two_seen cs)
  | inr h ↦ let first = first_char c cs u in
      is_other c cs first.0 (record { kind_is = rw h.0 refl; dashes_is = rw h.0 refl; long_is = rw h.0 refl; short_is = rw h.0 refl }) first.1
]

pub view : (word : Text) → IsUtf8 word → View word
view [] u = is_plain (record { kind_is = refl; dashes_is = refl; long_is = refl; short_is = refl })
view (c ∷ cs) u = elim (eqb_tells c 45) [
  | inl h ↦ subst (λ c. View (c ∷ cs)) (sym h.1) (behind_one_seen cs (IsUtf8-drop (c ∷ cs) 1 u (IsCharBoundary-after_ascii (c ∷ cs) 0 u (omega arith) (omega arith))))
  | inr h ↦ is_plain (record { kind_is = rw h.0 refl; dashes_is = rw h.0 refl; long_is = rw h.0 refl; short_is = rw h.0 refl })
]
