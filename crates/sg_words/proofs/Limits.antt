-- The limits of what accepted words ask for.
use Rattle.std.proofs.Common.{◌≡◌, ℕ, ◌<◌, ◌≤◌, ◌&&◌, Bool, true, false, List, length, Option, None, Some, refl, sym, ap, subst, ◌∙◌, option_and_then, option_map, true≢false, arith}
use Rattle.std.specs.Prelude.{nat_le, if◌then◌else◌}
use Rattle.std.specs.List.{list_all}
use Rattle.std.specs.Char.{is_ascii_digit}
use Rattle.std.specs.Str.Parse.{digits_value}
use Rattle.std.proofs.lemmas.Bool.{leb-true}
use Rattle.sg_words.specs.Settings.{Wanted, checked, fits, is_number, is_right, most_drill, names_file, settings_of, wanted_by}
use Rattle.sg_words.specs.Words.{Said, Text, budget, cache, drill, file, said_by, text_of}

first : (a b : Bool) → (a && b) ≡ true → a ≡ true
first true b e = refl
first false b e = absurd (true≢false (sym e))

second : (a b : Bool) → (a && b) ≡ true → b ≡ true
second true b e = e
second false b e = absurd (true≢false (sym e))

-- the value of a number lies in the limits
number-within : (least most : ℕ) (text : Text) → is_number least most text ≡ true → (least ≤ digits_value 10 text) × (digits_value 10 text ≤ most)
number-within least most text e =
    let value = digits_value 10 text in
    let limits : (nat_le least value && nat_le value most) ≡ true =
    second (list_all is_ascii_digit text) _ (second (nat_le (length text) 10) _ (second (nat_le 1 (length text)) _ e)) in
    (leb-true least value (first (nat_le least value) (nat_le value most) limits), leb-true value most (second (nat_le least value) (nat_le value most) limits))

fitting-within : (text : Option Text) (n : ℕ) → fits (is_number 1 most_drill) text ≡ true → option_map (digits_value 10) text ≡ Some n → (0 < n) × (n ≤ most_drill)
fitting-within None n f e = absurd (let h : None ≡ Some n = e in cc)
fitting-within (Some text) n f e =
    let value : digits_value 10 text ≡ n = let h : Some (digits_value 10 text) ≡ Some n = e in cc in
    let within = number-within 1 most_drill text f in
    subst (λ m. (0 < m) × (m ≤ most_drill)) value within

right-said : (right : Bool) (asked w : Wanted) → (if right then Some asked else None) ≡ Some w → (right ≡ true) × (asked ≡ w)
right-said true asked w e = (refl, let h : Some asked ≡ Some w = e in cc)
right-said false asked w e = absurd (let h : None ≡ Some w = e in cc)

said-within : (said : Said) (w : Wanted) (n : ℕ) → checked said ≡ Some w → w.drill ≡ Some n → (0 < n) × (n ≤ most_drill)
said-within said w n e d =
    let right = right-said (is_right said) (wanted_by said) w e in
    let third : fits (is_number 1 most_drill) (text_of drill said) ≡ true =
    first _ _ (second (fits (is_number 0 64) (text_of cache said)) _ (second (fits (is_number 1 1000000) (text_of budget said)) _ right.0)) in
    fitting-within (text_of drill said) n third (ap (λ (x : Wanted). x.drill) right.1 ∙ d)

-- the drill that accepted words name has a number of statements inside the limits
pub drill-within : (words : List Text) (w : Wanted) (n : ℕ) → settings_of words ≡ Some w → w.drill ≡ Some n → (0 < n) × (n ≤ most_drill)
drill-within words w n e d = go (said_by words) e
  where
    go : (o : Option Said) → option_and_then checked o ≡ Some w → (0 < n) × (n ≤ most_drill)
    go None h = absurd (let k : None ≡ Some w = h in cc)
    go (Some said) h = said-within said w n h d
