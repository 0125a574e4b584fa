-- The faults of fundamental gaps.
use Rattle.std.proofs.Common.{ℕ, ◌↔◌, List, sym, subst, inr}
use Rattle.std.specs.Prelude.{Contains}
use Rattle.std.specs.Int.{◌∣◌}
use Rattle.std.proofs.lemmas.Nat.Gcd.{dvd-zero}
use Rattle.sg_defs.specs.Membership.{Generates}
use Rattle.sg_defs.proofs.MembershipLemmas.{member-zero}
use Rattle.sg_defs.specs.Listings.{Lists}
use Rattle.sg_classes.proofs.EntryLemmas.{generates-iff, too_large-iff}
use Rattle.sg_classes.proofs.GeneratorLemmas.{contains-place}
use Rattle.sg_small.specs.Sets.{IsOutside}
use Rattle.sg_small.specs.Fundamental.{AreWithin, DividesAnEntry, DividesNone}
use Rattle.sg_apery.specs.Conditions.{AreGapsRefused}
use Rattle.sg_apery.specs.Fundamental.{AreFundamentalRefused}
use Rattle.sg_apery.specs.declared.fault.TableFault.{TableFault}
use Rattle.sg_apery.specs.declared.fault.TableFault.TheVariants.{BadArgument, TooLarge, Memory}

-- 0 divides 0, so where it is an entry it is no member
pub zero-fundamental : (list : List ℕ) → Contains list 0 → (M : List ℕ) → Generates (DividesNone list) M → ⊥
zero-fundamental list h M g =
    let p = contains-place list 0 h in
    (g.same 0).1 (member-zero M) (p.0, p.1, subst (λ n. 0 ∣ n) (sym p.2) (dvd-zero 0))

-- the naturals outside the divisors divide no entry
pub outside-divides : (list gaps : List ℕ) → Lists (DividesAnEntry list) gaps → (n : ℕ) → DividesNone list n ↔ IsOutside gaps n
outside-divides list gaps h n = ((λ out c. out ((h.exactly n).0 c)), (λ out p. out ((h.exactly n).1 p)))

pub fundamental-faults : (list gaps : List ℕ) → AreWithin list → Lists (DividesAnEntry list) gaps → (f : TableFault) → AreGapsRefused gaps f → AreFundamentalRefused list f
fundamental-faults list gaps within h BadArgument p =
    (within, λ M g. p M (generates-iff (IsOutside gaps) (DividesNone list) (λ n. ((outside-divides list gaps h n).1, (outside-divides list gaps h n).0)) M g))
fundamental-faults list gaps within h TooLarge p = inr (within, too_large-iff (DividesNone list) (IsOutside gaps) (outside-divides list gaps h) p)
fundamental-faults list gaps within h (Memory e) p = tt
