-- Generators in any order and with repeats are accepted and refused alike.
use Rattle.std.proofs.Common.{ℕ, ◌<◌, List, get_or, inl, inr, arith}
use Rattle.std.specs.Prelude.{Contains}
use Rattle.sg_classes.proofs.GeneratorLemmas.{contains-place, place-contains}
use Rattle.sg_classes.specs.declared.limits.TheConstants.{MULTIPLICITY_LIMIT}
use Rattle.sg_classes.proofs.EntryLemmas.{each-kept, semigroup-same, small-same}
use Rattle.sg_apery.specs.Generators.{AreAccepted, AreRefused}
use Rattle.sg_apery.specs.declared.fault.TableFault.{TableFault}
use Rattle.sg_apery.specs.declared.fault.TableFault.TheVariants.{BadArgument, TooLarge, Memory}

pub accepted-same : (xs ys : List ℕ) → ((x : ℕ) → Contains xs x → Contains ys x) → ((x : ℕ) → Contains ys x → Contains xs x) → AreAccepted ys → AreAccepted xs
accepted-same xs ys keeps adds_none a = record {
  small = small-same xs ys keeps adds_none a.small;
  semigroup = semigroup-same xs ys keeps adds_none a.semigroup;
  least =
      let p = contains-place xs (get_or ys a.least.0 0) (adds_none (get_or ys a.least.0 0) (place-contains ys a.least.0 a.least.1)) in
      (p.0, p.1, omega (arith, a.least.2, p.2));
}

pub refused-same : (xs ys : List ℕ) → ((x : ℕ) → Contains xs x → Contains ys x) → ((x : ℕ) → Contains ys x → Contains xs x) → (f : TableFault) → AreRefused ys f → AreRefused xs f
refused-same xs ys keeps adds_none BadArgument h = (small-same xs ys keeps adds_none h.0, (λ s. h.1 (semigroup-same ys xs adds_none keeps s)))
refused-same xs ys keeps adds_none TooLarge h = elim h [
  | inl large ↦
      let p = contains-place xs (get_or ys large.0 0) (adds_none (get_or ys large.0 0) (place-contains ys large.0 large.1)) in
      inl (p.0, p.1, omega (arith, large.2, p.2))
  | inr wide ↦ inr (small-same xs ys keeps adds_none wide.0, semigroup-same xs ys keeps adds_none wide.1, each-kept (λ x. MULTIPLICITY_LIMIT < x) xs ys keeps wide.2)
]
refused-same xs ys keeps adds_none (Memory e) h = tt
