-- Lists of values with the same contents.
use Rattle.std.proofs.Common.{◌≡◌, ℕ, zero, suc, ◌<◌, ◌≤◌, List, [], ◌∷◌, length, get_or, arith, refl, ap, false, IsTrue, ◌↔◌}
use Rattle.std.proofs.lemmas.Bool.{false≢true}
use Rattle.sg_value.specs.Data.{depth_of, depth_of_all}
use Rattle.sg_value.specs.Plain.{contents, contents_of_all}
use Rattle.sg_value.specs.declared.value.Value.{Value}

-- they have the same length
pub contents_of_all-length : (a b : List Value) → contents_of_all a ≡ contents_of_all b → length a ≡ length b
contents_of_all-length [] [] e = refl
contents_of_all-length [] (y ∷ ys) e = cc
contents_of_all-length (x ∷ xs) [] e = cc
contents_of_all-length (x ∷ xs) (y ∷ ys) e = ap suc (contents_of_all-length xs ys (cc))

-- and the same contents at each place
pub contents_of_all-at : (a b : List Value) (i : ℕ) (d e : Value) → contents_of_all a ≡ contents_of_all b → i < length a → contents (get_or a i d) ≡ contents (get_or b i e)
contents_of_all-at [] b i d e same within = absurd (omega arith)
contents_of_all-at (x ∷ xs) [] i d e same within = cc
contents_of_all-at (x ∷ xs) (y ∷ ys) zero d e same within = cc
contents_of_all-at (x ∷ xs) (y ∷ ys) (suc i) d e same within = contents_of_all-at xs ys i d e (cc) (omega arith)

-- a test that failed, of a fact that does not hold
pub never : {P : Type 0} → ¬ P → IsTrue false ↔ P
never refuted = (λ h. absurd (false≢true h), λ p. absurd (refuted p))

-- no entry is deeper than the greatest depth
pub depth_of-at : (vs : List Value) (i : ℕ) (d : Value) → i < length vs → depth_of (contents (get_or vs i d)) ≤ depth_of_all (contents_of_all vs)
depth_of-at [] i d within = absurd (omega arith)
depth_of-at (v ∷ vs) zero d within = omega arith
depth_of-at (v ∷ vs) (suc i) d within = omega (arith, depth_of-at vs i d (omega arith))
