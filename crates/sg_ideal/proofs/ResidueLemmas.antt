-- Residues of sums and differences.
use Rattle.std.proofs.Common.{◌≡◌, ℕ, suc, ◌+◌, ◌-◌, ◌*◌, ◌/◌, ◌%◌, ◌<◌, ◌≤◌, sym, ap, ◌∙◌, arith}
use Rattle.std.proofs.Math.Nat.{mod-add-div, mod-add-mod, add-mul-mod_self_left}
use Rattle.sg_classes.proofs.ResidueLemmas.{same_residue-add}

-- a number, and what is missing of b to the next multiple of m
round-up : (n b m : ℕ) → b % m ≤ m → n + b + (m - b % m) ≡ n + m * suc (b / m)
round-up n b m l = omega (arith, mod-add-div b m)

-- the residue of a difference
pub residue-minus : (n b m : ℕ) → 0 < m → b ≤ n → (n - b) % m ≡ (n % m + (m - b % m)) % m
residue-minus n b m positive l =
    let low : b % m < m = omega arith in
    let e : n + (m - b % m) ≡ (n - b) + m * suc (b / m) = omega (arith, round-up (n - b) b m (omega arith)) in
    sym (add-mul-mod_self_left (n - b) m (suc (b / m))) ∙ ap (λ x. x % m) (sym e) ∙ sym (mod-add-mod n m (m - b % m))

-- adding b undoes it
pub residue-plus : (w b i m : ℕ) → 0 < m → w % m ≡ (i + (m - b % m)) % m → (b + w) % m ≡ i % m
residue-plus w b i m positive h =
    let low : b % m < m = omega arith in
    let e : i + (m - b % m) + b ≡ i + m * suc (b / m) = omega (arith, round-up i b m (omega arith)) in
    let f : b + w ≡ w + b = omega arith in
    ap (λ x. x % m) f ∙ same_residue-add w (i + (m - b % m)) b m h ∙ ap (λ x. x % m) e ∙ add-mul-mod_self_left i m (suc (b / m))

-- taking b away undoes it
pub residue-lowered : (w b i m : ℕ) → 0 < m → b ≤ w → w % m ≡ (i + b % m) % m → (w - b) % m ≡ i % m
residue-lowered w b i m positive l h =
    let low : b % m < m = omega arith in
    let e : (i + b % m) + (m - b % m) ≡ i + m * 1 = omega arith in
    residue-minus w b m positive l ∙ ap (λ r. (r + (m - b % m)) % m) h ∙ mod-add-mod (i + b % m) m (m - b % m) ∙ ap (λ x. x % m) e ∙ add-mul-mod_self_left i m 1
