-- Strings, from behind the quote that begins them.
use Rattle.std.specs.Prelude.{◌≡◌, ◌<◌, length, ℕ, Bool, ◌==◌, ◌&&◌, List, [], ◌∷◌, ◌++◌, Option, None, Some, option_map, nat_le, if◌then◌else◌}

-- the byte that a letter stands for behind a backslash
abbrev pub escaped : ℕ → Option ℕ
escaped letter = if letter == 110 then Some 10 else if letter == 116 then Some 9 else if letter == 34 then Some 34 else if letter == 92 then Some 92 else None

-- a byte that stands for itself in a string, if it is no quote and no backslash
abbrev pub is_printable : ℕ → Bool
is_printable b = nat_le 32 b && nat_le b 126

-- one byte more in front of what a string stands for
abbrev pub with_byte : ℕ → Option (List ℕ × List ℕ) → Option (List ℕ × List ℕ)
with_byte b = option_map (λ found. (b ∷ found.0, found.1))

-- one byte more, where there is one
abbrev pub with_escape : Option ℕ → Option (List ℕ × List ℕ) → Option (List ℕ × List ℕ)
with_escape None found = None
with_escape (Some b) found = with_byte b found

-- the bytes that a string stands for, up to the quote that ends it, and the text after that
abbrev mutual
  pub string_at : List ℕ → Option (List ℕ × List ℕ)
  string_at [] = None
  string_at (b ∷ text) = if b == 34 then Some ([], text) else if b == 92 then escape_at text else if is_printable b then with_byte b (string_at text) else None

  pub escape_at : List ℕ → Option (List ℕ × List ℕ)
  escape_at [] = None
  escape_at (letter ∷ text) = with_escape (escaped letter) (string_at text)

-- the string stands for one byte and then for what the rest stands for
pub record GoesOn (text : List ℕ) (byte : ℕ) (rest : List ℕ) : Type 0 where
  pub stands : string_at text ≡ with_byte byte (string_at rest)
  pub shorter : length rest < length text

-- these bytes in front of what a string stands for
abbrev pub with_bytes : List ℕ → Option (List ℕ × List ℕ) → Option (List ℕ × List ℕ)
with_bytes bytes = option_map (λ found. (bytes ++ found.0, found.1))
