-- The text that `Print` writes for plain data.
use Rattle.std.specs.Prelude.{ℕ, ℤ, zero, suc, Bool, true, false, List, [], ◌∷◌, ◌++◌, codes, decimal, map, flat_map, if◌then◌else◌, ◌==◌, Result, OnOk, ◌≡◌}
use Rattle.std.specs.List.{join_by}
use Rattle.std.specs.Fmt.{signed_decimal}
use Rattle.sg_value.specs.Data.{int, truth, text, list, ratio, fail, semigroup, ideal, Items, none, item}
use Rattle.sg_value.specs.Plain.{Things, Plain, RelativeIdeal}

-- a byte of a text in a list: the quote, the backslash, the line feed and the tab are written as two bytes
abbrev pub escaped : ℕ → List ℕ
escaped b =
    if b == 34 then codes "\\\"" else (if b == 92 then codes "\\\\" else (if b == 10 then codes "\\n" else (if b == 9 then codes "\\t" else b ∷ [])))

-- a text in a list
abbrev pub quoted : List ℕ → List ℕ
quoted bs = codes "\"" ++ (flat_map escaped bs ++ codes "\"")

-- the texts, with a comma and a space between each two
abbrev pub joined : List (List ℕ) → List ℕ
joined texts = join_by (λ t. t) (codes ", ") texts

-- what stands before the text with this index there
abbrev pub separator : ℕ → List ℕ
separator zero = []
separator (suc i) = codes ", "

-- a list whose entries have these texts; between the brackets of an empty one are two spaces
abbrev pub bracketed : List (List ℕ) → List ℕ
bracketed texts = codes "[ " ++ (joined texts ++ codes " ]")

-- a list of naturals
abbrev pub numbers_text : List ℕ → List ℕ
numbers_text ns = bracketed (map decimal ns)

-- a list of integers
abbrev pub integers_text : List ℤ → List ℕ
integers_text zs = bracketed (map signed_decimal zs)

-- a numerical semigroup with these minimal generators
abbrev pub semigroup_text : List ℕ → List ℕ
semigroup_text gens = codes "NumericalSemigroup( " ++ (numbers_text gens ++ codes " )")

-- a relative ideal: its minimal generators, moved by its ambient semigroup
abbrev pub ideal_text : RelativeIdeal → List ℕ
ideal_text i = integers_text i.generators ++ (codes " + " ++ semigroup_text i.ambient)

-- a fraction
abbrev pub ratio_text : ℕ → ℕ → List ℕ
ratio_text p q = decimal p ++ (codes "/" ++ decimal q)

abbrev pub bool_text : Bool → List ℕ
bool_text true = codes "true"
bool_text false = codes "false"

-- an entry of a list
abbrev mutual
  pub entry_text : Plain → List ℕ
  entry_text (int z) = signed_decimal z
  entry_text (truth b) = bool_text b
  entry_text (text bs) = quoted bs
  entry_text (list ds) = bracketed (entry_texts ds)
  entry_text (ratio p q) = ratio_text p q
  entry_text fail = codes "fail"
  entry_text (semigroup gens) = semigroup_text gens
  entry_text (ideal i) = ideal_text i

  pub entry_texts : Items Things → List (List ℕ)
  entry_texts none = []
  entry_texts (item d ds) = entry_text d ∷ entry_texts ds

-- an argument of Print: a text is written as it is
abbrev pub text_of : Plain → List ℕ
text_of (text bs) = bs
text_of d = entry_text d

-- a front of the text went to the end
pub record AddsFront (old new bs : List ℕ) : Type 0 where
  pub front : List ℕ
  pub rest : List ℕ
  pub whole : bs ≡ front ++ rest
  pub added : new ≡ old ++ front

-- the text went to the end, or after a refusal a front of it
pub record Adds {E : Type 0} (result : Result (Unit {0}) E) (old new bs : List ℕ) : Type 0 where
  pub ok : OnOk result (new ≡ old ++ bs)
  pub err : AddsFront old new bs
