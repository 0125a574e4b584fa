-- Small elements of a semigroup that is past the limits, and their faults.
use Rattle.std.proofs.Common.{◌≡◌, ℕ, ◌+◌, ◌↔◌, List, get_or, sym, subst, inl, inr, arith}
use Rattle.std.specs.Prelude.{Contains}
use Rattle.std.specs.List.Sorted.{IsStrictlyIncreasing}
use Rattle.sg_defs.proofs.MinimalLemmas.{first-least}
use Rattle.sg_classes.proofs.EntryLemmas.{too_large-iff}
use Rattle.sg_classes.proofs.GeneratorLemmas.{contains-place, place-contains}
use Rattle.sg_small.specs.Sets.{IsClosedSet, IsInSmall, IsNotClosed}
use Rattle.sg_small.specs.Small.{AreSmallElements}
use Rattle.sg_apery.specs.Conditions.{AreSmallRefused, IsClosedRefused}
use Rattle.sg_apery.specs.Fit.{IsSizeFault}
use Rattle.sg_apery.specs.declared.fault.TableFault.{TableFault}
use Rattle.sg_apery.specs.declared.fault.TableFault.TheVariants.{BadArgument, TooLarge, Memory}

-- the same set by two conditions
module _ (P Q : ℕ → Type 0) (same : (n : ℕ) → P n ↔ Q n) where
  pub not_closed-iff : IsNotClosed Q → IsNotClosed P
  not_closed-iff h = (h.0, h.1, (same h.0).1 h.2, (same h.1).1 h.3, λ p. h.4 ((same (h.0 + h.1)).0 p))

  pub closed-iff : IsClosedSet Q → IsClosedSet P
  closed-iff h x y p q = (same (x + y)).1 (h x y ((same x).0 p) ((same y).0 q))

  pub closed_refused-iff : (f : TableFault) → IsClosedRefused Q f → IsClosedRefused P f
  closed_refused-iff BadArgument h = not_closed-iff h
  closed_refused-iff TooLarge h = (closed-iff h.0, too_large-iff P Q same h.1)
  closed_refused-iff (Memory e) h = tt

  pub size_closed : IsClosedSet Q → (f : TableFault) → IsSizeFault Q f → IsClosedRefused P f
  size_closed closed BadArgument h = absurd h
  size_closed closed TooLarge h = (closed-iff closed, too_large-iff P Q same h)
  size_closed closed (Memory e) h = tt

-- two lists with the same entries
module _ (xs ys : List ℕ) (keeps : (x : ℕ) → Contains xs x → Contains ys x) (only : (x : ℕ) → Contains ys x → Contains xs x) where
  half : (us vs : List ℕ) → ((x : ℕ) → Contains us x → Contains vs x) → ((x : ℕ) → Contains vs x → Contains us x) → (n : ℕ) → IsInSmall us n → IsInSmall vs n
  half us vs f g n (inl h) = inl (f n h)
  half us vs f g n (inr h) = inr (λ k m. let p = contains-place us (get_or vs k 0) (g (get_or vs k 0) (place-contains vs k m)) in omega (arith, h p.0 p.1, p.2))

  pub entries-same : (n : ℕ) → IsInSmall xs n ↔ IsInSmall ys n
  entries-same n = ((half xs ys keeps only n), (half ys xs only keeps n))

  pub ascending-small : IsStrictlyIncreasing ys → Contains xs 0 → AreSmallElements ys
  ascending-small a z =
      let p = contains-place ys 0 (keeps 0 z) in
      record {
        not_empty = omega (arith, p.1);
        ascending = a;
        zero = omega (arith, first-least ys a p.0 p.1, p.2);
      }

  pub small-refused : Contains xs 0 → (f : TableFault) → IsClosedRefused (IsInSmall ys) f → AreSmallRefused xs f
  small-refused z BadArgument h = inr (inr (not_closed-iff (IsInSmall xs) (IsInSmall ys) entries-same h))
  small-refused z TooLarge h = ((z, closed-iff (IsInSmall xs) (IsInSmall ys) entries-same h.0), too_large-iff (IsInSmall xs) (IsInSmall ys) entries-same h.1)
  small-refused z (Memory e) h = tt

-- entries that are kept by a sort of a copy
pub keeps-sorted : (list items sorted value : List ℕ) → items ≡ list → value ≡ sorted → ((x : ℕ) → Contains items x → Contains sorted x) → (x : ℕ) → Contains list x → Contains value x
keeps-sorted list items sorted value e f h x p = subst (λ l. Contains l x) (sym f) (h x (subst (λ l. Contains l x) (sym e) p))

pub only-sorted : (list items sorted value : List ℕ) → items ≡ list → value ≡ sorted → ((x : ℕ) → Contains sorted x → Contains items x) → (x : ℕ) → Contains value x → Contains list x
only-sorted list items sorted value e f h x p = subst (λ l. Contains l x) e (h x (subst (λ l. Contains l x) f p))
