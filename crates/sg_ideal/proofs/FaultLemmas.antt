-- The faults of a made list are those of the ideal that it generates.
use Rattle.std.proofs.Common.{inl, inr, arith, ap, length, ◌<◌}
use Rattle.std.specs.Prelude.{ℕ, ℤ, ◌↔◌, List, Contains}
use Rattle.std.proofs.lemmas.Int.{ints}
use Rattle.sg_ideal.specs.declared.fault.IdealFault.{IdealFault}
use Rattle.sg_ideal.specs.declared.fault.IdealFault.TheVariants.{BadArgument, TooLarge, Memory}
use Rattle.sg_ideal.specs.Value.{GeneratesIdeal, HasLargeGenerator, IsIdealOf}
use Rattle.sg_defs.specs.Ideals.{RelativeIdeal}
use Rattle.sg_lawful.specs.Generators.{AreSmall, HasLarge}
use Rattle.sg_ideal.specs.Faults.{AreRefused, IsListFault, IsMemory, IsSizeFault}

-- a large minimal generator is a fault of the set
pub size-fault : (G : List ℕ) (P : ℤ → Type 0) (I : List ℤ) → GeneratesIdeal G P I → (f : IdealFault) → IsListFault I f → IsSizeFault G P f
size-fault G P I g BadArgument h = h
size-fault G P I g TooLarge h = (I, g, h)
size-fault G P I g (Memory e) h = tt

-- integers with one property have the other
pub generates-same : (G : List ℕ) (P Q : ℤ → Type 0) → ((x : ℤ) → Q x ↔ P x) → (I : List ℤ) → GeneratesIdeal G P I → GeneratesIdeal G Q I
generates-same G P Q e I g = record {
  not_empty = g.not_empty;
  minimal = g.minimal;
  same = λ x. ((λ q. (g.same x).0 ((e x).0 q)), (λ m. (e x).1 ((g.same x).1 m)));
}

-- the same of an ideal within the limit
pub ideal-same : (G : List ℕ) (P Q : ℤ → Type 0) → ((x : ℤ) → Q x ↔ P x) → (I : RelativeIdeal) → IsIdealOf G P I → IsIdealOf G Q I
ideal-same G P Q e I i = record { ambient = i.ambient; generates = generates-same G P Q e I.generators i.generates; small = i.small }

-- and of one that is past it
pub large-same : (G : List ℕ) (P Q : ℤ → Type 0) → ((x : ℤ) → Q x ↔ P x) → HasLargeGenerator G P → HasLargeGenerator G Q
large-same G P Q e h = (h.0, generates-same G P Q e h.0 h.1, h.2)

-- no list is both
pub small-large : (I : List ℤ) → AreSmall I → HasLarge I → ⊥
small-large I small large =
    let s = small large.0 large.1 in
    elim large.2 [ inl low ↦ omega (arith, ints, s, low) | inr high ↦ omega (arith, ints, s, high) ]

-- where each minimal generator is a given one, none is past the limit
pub given-faults : (G : List ℕ) (P : ℤ → Type 0) (given : List ℤ) → AreSmall given → ((I : List ℤ) → GeneratesIdeal G P I → (x : ℤ) → Contains I x → Contains given x) →
    (f : IdealFault) → IsSizeFault G P f → AreRefused given f
given-faults G P given small listed BadArgument h = absurd h
given-faults G P given small listed TooLarge h = absurd (small-large given small (h.2.0, listed h.0 h.1 h.2.0 h.2.1, h.2.2))
given-faults G P given small listed (Memory e) h = tt

-- of small generators, of which there are some, no other fault comes
pub only-memory : (given : List ℤ) → AreSmall given → 0 < length given → (f : IdealFault) → AreRefused given f → IsMemory f
only-memory given small some BadArgument h = let e = ap length h.1 in omega (arith, e, some)
only-memory given small some TooLarge h = small-large given small h
only-memory given small some (Memory e) h = tt

-- where the given list is the minimal one
pub some-faults : (G : List ℕ) (P : ℤ → Type 0) (given : List ℤ) → GeneratesIdeal G P given → (f : IdealFault) → AreRefused given f → IsSizeFault G P f
some-faults G P given g BadArgument h = let e = ap length h.1 in let some = g.not_empty in omega (arith, e, some)
some-faults G P given g TooLarge h = (given, g, h)
some-faults G P given g (Memory e) h = tt
