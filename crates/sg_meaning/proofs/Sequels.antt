-- One process after another.
use Rattle.std.proofs.Common.{◌≡◌, refl, ap}
use Rattle.std.proofs.Math.Path.{fun_ext}
use Rattle.sg_meaning.specs.Process.{Process, gives, refuses, reads, asks, sets, writes, ◌>>=◌}

-- what comes after the second piece comes after both
pub assoc : {A B C : Type 0} (p : Process A) (f : A → Process B) (g : B → Process C) → (p >>= f) >>= g ≡ p >>= (λ a. f a >>= g)
assoc (gives a) f g = refl
assoc (refuses e) f g = refl
assoc (reads x k) f g = ap (reads x) (fun_ext (λ o. assoc (k o) f g))
assoc (asks q k) f g = ap (asks q) (fun_ext (λ r. assoc (k r) f g))
assoc (sets x d p) f g = ap (sets x d) (assoc p f g)
assoc (writes bs p) f g = ap (writes bs) (assoc p f g)

-- what gives on what it was given changes nothing
pub right_unit : {A : Type 0} (p : Process A) → p >>= (λ a. gives a) ≡ p
right_unit (gives a) = refl
right_unit (refuses e) = refl
right_unit (reads x k) = ap (reads x) (fun_ext (λ o. right_unit (k o)))
right_unit (asks q k) = ap (asks q) (fun_ext (λ r. right_unit (k r)))
right_unit (sets x d p) = ap (sets x d) (right_unit p)
right_unit (writes bs p) = ap (writes bs) (right_unit p)
