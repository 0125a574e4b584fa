-- The lists that grow with the span are far below the limit of 64 bits.
use Rattle.std.proofs.Common.{◌≡◌, ◌<◌, ◌≤◌, ◌^◌, ℕ, List, get_or, subst, arith}
use Rattle.std.specs.Prelude.{EachIndex, slice_index}
use Rattle.sg_defs.specs.Invariants.{IsGap, IsFundamentalGap, AreSmallElements}
use Rattle.sg_defs.specs.Listings.{Lists}
use Rattle.sg_apery.specs.Fit.{IsFit}
use Rattle.sg_apery.specs.Limits.{APERY_ENTRY_LIMIT}
use Rattle.sg_apery.proofs.GeneratorLemmas.{place-contains}
use Rattle.sg_lawful.specs.Spans.{IsShort}
use Rattle.sg_rows.proofs.Telling.{AreWithinBits}
use Rattle.sg_rows_invariants.proofs.Counting.{gap-within, conductor-within}

pub gaps-small : (G l : List ℕ) → IsShort G → Lists (IsGap G) l → AreWithinBits l
gaps-small G l short h k within = let bound = gap-within G _ short ((h.exactly _).0 (place-contains l k within)) in omega (arith, bound)

pub fundamental-small : (G l : List ℕ) → IsShort G → Lists (IsFundamentalGap G) l → AreWithinBits l
fundamental-small G l short h k within =
    let gap = (h.exactly _).0 (place-contains l k within) in
    let bound = gap-within G _ short gap.gap in
    omega (arith, bound)

pub elements-small : (G l : List ℕ) → IsShort G → AreSmallElements G l → AreWithinBits l
elements-small G l short h k within =
    let p = (h.2.exactly _).0 (place-contains l k within) in
    let bound = conductor-within G h.0 short h.1 in
    omega (arith, bound, p.1)

-- so are the entries of an Apery list
pub entries-small : (l t : List ℕ) → t ≡ l → EachIndex t (λ i. slice_index t i ≤ APERY_ENTRY_LIMIT) → AreWithinBits l
entries-small l t same small = subst AreWithinBits same (λ k within. let h = small k within in omega (arith, h))

-- and the first minimal generator
pub first-small : (G : List ℕ) → IsFit G → get_or G 0 0 < 2 ^ 63
first-small G fit = let h = fit.multiplicity in omega (arith, h)
