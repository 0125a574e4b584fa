-- Tools for small instances: all numbers from a bound on, factorizations by few numbers, and short lists.
use Rattle.std.proofs.Common.{◌≡◌, ℕ, zero, suc, ◌+◌, ◌-◌, ◌*◌, ◌/◌, ◌%◌, ◌<◌, ◌≤◌, List, [], ◌∷◌, get_or, refl, sym, subst, arith}
use Rattle.std.specs.Prelude.{All, AllPairs, Contains}
use Rattle.std.specs.List.Sorted.{IsStrictlyIncreasing}
use Rattle.sg_defs.specs.Listings.{Lists}
use Rattle.sg_defs.specs.Membership.{IsFactorization, IsMember}
use Rattle.sg_defs.proofs.MembershipLemmas.{member-add, member-times}

-- ---- members

-- with a member m above 0, and m members in a row, all above them are members
pub members-above : (G : List ℕ) (m a : ℕ) → 0 < m → IsMember G m → ((i : ℕ) → i < m → IsMember G (a + i)) → (n : ℕ) → a ≤ n → IsMember G n
members-above G m a positive member row n l =
    let r : (n - a) % m < m = omega arith in
    let e : (a + (n - a) % m) + ((n - a) / m) * m ≡ n = omega arith in
    subst (IsMember G) e (member-add G (a + (n - a) % m) (((n - a) / m) * m) (row ((n - a) % m) r) (member-times G ((n - a) / m) m member))

-- a factorization by one number is one number, and so on
pub by_one : (g n : ℕ) (z : List ℕ) → IsFactorization (g ∷ []) n z → (a : ℕ) × (z ≡ a ∷ []) × (a * g ≡ n)
by_one g n [] h = absurd (omega (arith, h.places))
by_one g n (a ∷ []) h = (a, refl, omega (arith, h.value))
by_one g n (a ∷ b ∷ z) h = absurd (omega (arith, h.places))

-- a factorization by two generators
pub by_two : (g h n : ℕ) (z : List ℕ) → IsFactorization (g ∷ h ∷ []) n z → (a b : ℕ) × (z ≡ a ∷ b ∷ []) × (a * g + b * h ≡ n)
by_two g h n [] f = absurd (omega (arith, f.places))
by_two g h n (a ∷ []) f = absurd (omega (arith, f.places))
by_two g h n (a ∷ b ∷ []) f = (a, b, refl, omega (arith, f.value))
by_two g h n (a ∷ b ∷ c ∷ z) f = absurd (omega (arith, f.places))

-- by three
pub by_three : (g h k n : ℕ) (z : List ℕ) → IsFactorization (g ∷ h ∷ k ∷ []) n z → (a b c : ℕ) × (z ≡ a ∷ b ∷ c ∷ []) × (a * g + b * h + c * k ≡ n)
by_three g h k n [] f = absurd (omega (arith, f.places))
by_three g h k n (a ∷ []) f = absurd (omega (arith, f.places))
by_three g h k n (a ∷ b ∷ []) f = absurd (omega (arith, f.places))
by_three g h k n (a ∷ b ∷ c ∷ []) f = (a, b, c, refl, omega (arith, f.value))
by_three g h k n (a ∷ b ∷ c ∷ d ∷ z) f = absurd (omega (arith, f.places))

-- by four
pub by_four : (g h k m n : ℕ) (z : List ℕ) → IsFactorization (g ∷ h ∷ k ∷ m ∷ []) n z → (a b c d : ℕ) × (z ≡ a ∷ b ∷ c ∷ d ∷ []) × (a * g + b * h + c * k + d * m ≡ n)
by_four g h k m n [] f = absurd (omega (arith, f.places))
by_four g h k m n (a ∷ []) f = absurd (omega (arith, f.places))
by_four g h k m n (a ∷ b ∷ []) f = absurd (omega (arith, f.places))
by_four g h k m n (a ∷ b ∷ c ∷ []) f = absurd (omega (arith, f.places))
by_four g h k m n (a ∷ b ∷ c ∷ d ∷ []) f = (a, b, c, d, refl, omega (arith, f.value))
by_four g h k m n (a ∷ b ∷ c ∷ d ∷ e ∷ z) f = absurd (omega (arith, f.places))

-- ---- short lists

-- nothing stands in an empty list
pub contains-nil : {A : Type 0} (x : A) → Contains [] x → ⊥
contains-nil x h = omega (arith, h.1)

-- the first entry stands there
pub here : {A : Type 0} (x : A) (xs : List A) → Contains (x ∷ xs) x
here x xs = (0, omega arith, refl)

-- so do the later ones
pub later : {A : Type 0} (y : A) (xs : List A) (x : A) → Contains xs x → Contains (y ∷ xs) x
later y xs x h = (suc h.0, omega (arith, h.1), h.2)

-- what holds of each element holds of every number that the list contains
pub contained : {A : Type 0} (P : A → Type 0) (xs : List A) (x : A) → All P xs → Contains xs x → P x
contained P xs x all h = subst P h.2 (all h.0 x h.1)

-- no pair in an empty list
pub pairs-nil : {A : Type 0} (R : A → A → Type 0) → AllPairs R []
pairs-nil R i j d l k = absurd (omega arith)

-- the first entry with each later one, and the later ones
pub pairs-cons : {A : Type 0} (R : A → A → Type 0) (x : A) (xs : List A) → All (R x) xs → AllPairs R xs → AllPairs R (x ∷ xs)
pairs-cons R x xs first rest zero zero d l k = absurd (omega arith)
pairs-cons R x xs first rest zero (suc j) d l k = first j d (omega arith)
pairs-cons R x xs first rest (suc i) zero d l k = absurd (omega arith)
pairs-cons R x xs first rest (suc i) (suc j) d l k = rest i j d (omega arith) (omega arith)

-- an empty list ascends
pub ascending-nil : IsStrictlyIncreasing []
ascending-nil k l = absurd (omega arith)

-- so does one number
pub ascending-one : (x : ℕ) → IsStrictlyIncreasing (x ∷ [])
ascending-one x k l = absurd (omega arith)

-- so does a number before greater ones
pub ascending-cons : (x y : ℕ) (ys : List ℕ) → x < y → IsStrictlyIncreasing (y ∷ ys) → IsStrictlyIncreasing (x ∷ y ∷ ys)
ascending-cons x y ys less rest zero l = less
ascending-cons x y ys less rest (suc k) l =
    let e : suc k + 1 ≡ suc (k + 1) = omega arith in
    subst (λ i. get_or (y ∷ ys) k 0 < get_or (x ∷ y ∷ ys) i 0) (sym e) (rest k (omega arith))

-- a list is that of the numbers with P
pub listed : (P : ℕ → Type 0) (l : List ℕ) → IsStrictlyIncreasing l → All P l → ((n : ℕ) → P n → Contains l n) → Lists P l
listed P l ascending all there = record { ascending = ascending; exactly = λ n. (contained P l n all, there n) }
