-- The value of a run of digits, by the value that saturates.
use Rattle.std.proofs.Common.{◌≡◌, ℕ, ◌<◌, ◌≤◌, ◌^◌, ◌-◌, ◌&&◌, List, Some, None, pos, true, false, min, nat_lt, cond, arith, refl, ap}
use Rattle.std.specs.List.{list_all}
use Rattle.std.specs.Char.{is_ascii_digit}
use Rattle.sg_token.specs.Runs.{value_of, number_of}

-- digits alone, with a value that was not cut off
pub number_read : (run : List ℕ) (value : ℕ) → list_all is_ascii_digit run ≡ true → value ≡ min (value_of run) (2 ^ 64 - 1) → value < 2 ^ 63 → Some (pos value) ≡ number_of run
unfolding number_of
number_read run value digits kept small =
    let same : value ≡ value_of run = omega arith in
    let below : nat_lt (value_of run) (2 ^ 63) ≡ true = grind arith in
    rw (digits, below) (ap (λ v. Some (pos v)) same)

-- digits alone, with a value that is too large
pub number_large : (run : List ℕ) (value : ℕ) → value ≡ min (value_of run) (2 ^ 64 - 1) → 2 ^ 63 ≤ value → None ≡ number_of run
unfolding number_of
number_large run value kept large =
    let above : nat_lt (value_of run) (2 ^ 63) ≡ false = grind arith in
    elim (list_all is_ascii_digit run) as (λ b. None ≡ cond (b && nat_lt (value_of run) (2 ^ 63)) (Some (pos (value_of run))) None) [ true ↦ rw above refl | false ↦ refl ]

-- not digits alone
pub number_none : (run : List ℕ) → list_all is_ascii_digit run ≡ false → None ≡ number_of run
unfolding number_of
number_none run other = rw other refl
