-- Members are closed under sums, and every fact that 0 has and that each entry keeps is a fact of all members.
use Rattle.std.proofs.Common.{◌≡◌, ℕ, zero, suc, ◌+◌, ◌*◌, ◌<◌, List, [], ◌∷◌, length, get_or, replicate, set, sym, subst, ◌∙◌, arith}
use Rattle.std.specs.Prelude.{ℤ, pos, negsuc, ◌+ℤ◌}
use Rattle.std.proofs.lemmas.List.{length-replicate, length-set}
use Rattle.sg_defs.specs.Vectors.{value_of, plus}
use Rattle.sg_defs.specs.Membership.{IsMember, IsIntegerMember, Holds}
use Rattle.sg_defs.proofs.VectorLemmas.{length-plus, value_of-plus, value_of-zeros, value_of-set}

-- 0 is a member
pub member-zero : (G : List ℕ) → IsMember G 0
member-zero G = (replicate (length G) 0, record { places = length-replicate (length G) 0; value = value_of-zeros G (length G) })

-- sums of members are members
pub member-add : (G : List ℕ) (a b : ℕ) → IsMember G a → IsMember G b → IsMember G (a + b)
member-add G a b p q = (
  plus p.0 q.0,
  record {
    places = length-plus p.0 q.0 (p.1.places ∙ sym q.1.places) ∙ p.1.places;
    value = omega (arith, value_of-plus G p.0 q.0 p.1.places q.1.places, p.1.value, q.1.value);
  },
)

-- each entry is a member
pub member-entry : (G : List ℕ) (i : ℕ) → i < length G → IsMember G (get_or G i 0)
member-entry G i h =
    let z = replicate (length G) 0 in
    let n : length z ≡ length G = length-replicate (length G) 0 in (
      set z i (get_or z i 0 + 1),
      record {
        places = length-set z i (get_or z i 0 + 1) ∙ n;
        value = omega (arith, value_of-set G z i h n, value_of-zeros G (length G));
      },
    )

-- so are multiples
pub member-times : (G : List ℕ) (k a : ℕ) → IsMember G a → IsMember G (k * a)
member-times G zero a p = subst (IsMember G) (let e : 0 ≡ 0 * a = omega arith in e) (member-zero G)
member-times G (suc k) a p =
    let e : a + k * a ≡ suc k * a = omega arith in
    subst (IsMember G) e (member-add G a (k * a) p (member-times G k a p))

-- adding one number k times keeps what adding it once keeps
times-keep : (P : ℕ → Type 0) (g k b : ℕ) → ((n : ℕ) → P n → P (n + g)) → P b → P (k * g + b)
times-keep P g zero b step p = subst P (let e : b ≡ 0 * g + b = omega arith in e) p
times-keep P g (suc k) b step p =
    let e : (k * g + b) + g ≡ suc k * g + b = omega arith in
    subst P e (step (k * g + b) (times-keep P g k b step p))

values-keep : (P : ℕ → Type 0) (G z : List ℕ) (b : ℕ) → ((i n : ℕ) → i < length G → P n → P (n + get_or G i 0)) → P b → P (value_of G z + b)
values-keep P [] z b step p = subst P (let e : b ≡ 0 + b = omega arith in e) p
values-keep P (g ∷ G) [] b step p = subst P (let e : b ≡ 0 + b = omega arith in e) p
values-keep P (g ∷ G) (c ∷ z) b step p =
    let rest : P (value_of G z + b) = values-keep P G z b (λ i n h q. step (suc i) n (omega arith) q) p in
    let all : P (c * g + (value_of G z + b)) = times-keep P g c (value_of G z + b) (λ n q. step 0 n (omega arith) q) rest in
    let e : c * g + (value_of G z + b) ≡ (c * g + value_of G z) + b = omega arith in
    subst P e all

-- induction on members
pub member-induction : (P : ℕ → Type 0) (G : List ℕ) → P 0 → ((i n : ℕ) → i < length G → P n → P (n + get_or G i 0)) → (n : ℕ) → IsMember G n → P n
member-induction P G base step n h =
    let e : value_of G h.0 + 0 ≡ n = omega (arith, h.1.value) in
    subst P e (values-keep P G h.0 0 step base)

-- sums of members among the integers
pub integer-add : (G : List ℕ) (x y : ℤ) → IsIntegerMember G x → IsIntegerMember G y → IsIntegerMember G (x +ℤ y)
integer-add G (pos a) (pos b) p q = member-add G a b p q
integer-add G (pos a) (negsuc b) p q = absurd q
integer-add G (negsuc a) y p q = absurd p

-- members of a semigroup among the integers are members of each that holds it
pub integer-holds : (H G : List ℕ) → Holds H G → (x : ℤ) → IsIntegerMember G x → IsIntegerMember H x
integer-holds H G h (pos n) p = h n p
integer-holds H G h (negsuc n) p = p
