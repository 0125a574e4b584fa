-- The lists of gaps and of small elements: how long they are, and how far they reach.
use Rattle.std.proofs.Common.{◌≡◌, ◌+◌, ◌<◌, ◌≤◌, ◌⊎◌, ℕ, zero, suc, ℤ, List, [], ◌∷◌, ◌++◌, length, inl, inr, refl, ap, ◌∙◌, subst, arith}
use Rattle.std.specs.Prelude.{pos, ◌+ℤ◌, ◌-ℤ◌, ◌≤ℤ◌}
use Rattle.std.proofs.lemmas.Int.{ints}
use Rattle.std.proofs.lemmas.List.{length_push}
use Rattle.sg_defs.specs.Listings.{Lists}
use Rattle.sg_defs.specs.Membership.{IsMember}
use Rattle.sg_defs.specs.Invariants.{IsConductor, IsGap, IsGenus, AreSmallElements}
use Rattle.sg_apery.specs.Limits.{SPAN_LIMIT}
use Rattle.sg_apery.proofs.OneListLemmas.{one-list}
use Rattle.sg_invar.proofs.ListingLemmas.{ListsBelow, lists-none, lists-skip, lists-push, lists-same, lists-all}
use Rattle.sg_invar.proofs.GapLemmas.{gap-below_conductor}
use Rattle.sg_invar.proofs.PseudoFrobeniusLemmas.{outside-below}
use Rattle.sg_lawful.specs.Spans.{IsShort}
use Rattle.sg_defs.proofs.OneLemmas.{one-frobenius}

-- the members and the gaps below n
record Split (G : List ℕ) (n : ℕ) : Type 0 where
  members : List ℕ
  gaps : List ℕ
  are_members : ListsBelow (IsMember G) n members
  are_gaps : ListsBelow (IsGap G) n gaps
  all : length members + length gaps ≡ n

split : (G : List ℕ) → ((n : ℕ) → IsMember G n ⊎ IsGap G n) → (n : ℕ) → Split G n
split G decided zero = record { members = []; gaps = []; are_members = lists-none (IsMember G); are_gaps = lists-none (IsGap G); all = refl }
split G decided (suc n) = by (split G decided n) (decided n)
  where
    next : n + 1 ≡ suc n
    next = omega arith

    by : Split G n → IsMember G n ⊎ IsGap G n → Split G (suc n)
    by s (inl member) = record {
      members = s.members ++ n ∷ [];
      gaps = s.gaps;
      are_members = subst (λ k. ListsBelow (IsMember G) k (s.members ++ n ∷ [])) next (lists-push (IsMember G) n s.members member s.are_members);
      are_gaps = subst (λ k. ListsBelow (IsGap G) k s.gaps) next (lists-skip (IsGap G) n s.gaps (λ gap. gap member) s.are_gaps);
      all = omega (arith, length_push s.members n, s.all);
    }
    by s (inr gap) = record {
      members = s.members;
      gaps = s.gaps ++ n ∷ [];
      are_members = subst (λ k. ListsBelow (IsMember G) k s.members) next (lists-skip (IsMember G) n s.members gap s.are_members);
      are_gaps = subst (λ k. ListsBelow (IsGap G) k (s.gaps ++ n ∷ [])) next (lists-push (IsGap G) n s.gaps gap s.are_gaps);
      all = omega (arith, length_push s.gaps n, s.all);
    }

-- up to the conductor c, each number is one of the g gaps or a small element
pub small-count : (G : List ℕ) (c g : ℕ) → ((n : ℕ) → IsMember G n ⊎ IsGap G n) → IsConductor G c → IsGenus G g → (l : List ℕ) × AreSmallElements G l × (length l + g ≡ c + 1)
small-count G c g decided is_conductor genus =
    let s = split G decided (c + 1) in
    let gaps : Lists (IsGap G) s.gaps = lists-all (IsGap G) (c + 1) s.gaps (λ x gap. let l = gap-below_conductor G c x is_conductor gap in omega (arith, l)) s.are_gaps in
    let same : length s.gaps ≡ g = ap length (one-list (IsGap G) s.gaps genus.0 gaps genus.1) ∙ genus.2 in
    let small : Lists (λ n. IsMember G n × (n ≤ c)) s.members = lists-same (λ x. (x < c + 1) × IsMember G x) (λ n. IsMember G n × (n ≤ c)) s.members
    (λ x. ((λ p. (p.1, omega (arith, p.0))), (λ p. (omega (arith, p.1), p.0)))) s.are_members in
    (s.members, (c, is_conductor, small), omega (arith, s.all, same))

pub few-gaps : (G : List ℕ) (c g : ℕ) → ((n : ℕ) → IsMember G n ⊎ IsGap G n) → IsConductor G c → IsGenus G g → g ≤ c + 1
few-gaps G c g decided is_conductor genus = let s = small-count G c g decided is_conductor genus in omega (arith, s.2)

frobenius-within : (f : ℤ) (m a s : ℕ) → pos s ≡ ((f +ℤ pos m) +ℤ pos a) → f ≤ℤ pos s
frobenius-within f m a s e = omega (arith, ints, e)

within_both : (n s : ℕ) (f : ℤ) → pos n ≤ℤ f → f ≤ℤ pos s → n ≤ s
within_both n s f l k = omega (arith, ints, l, k)

conductor_within : (c s : ℕ) (f : ℤ) → (pos c -ℤ pos 1) ≡ f → f ≤ℤ pos s → c ≤ s + 1
conductor_within c s f e l = omega (arith, ints, e, l)

-- a gap is within the span
pub gap-within : (G : List ℕ) (n : ℕ) → IsShort G → IsGap G n → n ≤ SPAN_LIMIT
gap-within G n short gap =
    let span = short.1 in
    let l = within_both n short.0 span.0 (outside-below G span.0 (pos n) span.1 gap) (frobenius-within span.0 _ _ short.0 span.2) in
    omega (arith, l, short.2)

-- and so is the conductor, but for 1
pub conductor-within : (G : List ℕ) (c : ℕ) → IsShort G → IsConductor G c → c ≤ SPAN_LIMIT + 1
conductor-within G c short is_conductor =
    let span = short.1 in
    let l = conductor_within c short.0 span.0 (one-frobenius G (pos c -ℤ pos 1) span.0 is_conductor span.1) (frobenius-within span.0 _ _ short.0 span.2) in
    omega (arith, l, short.2)
