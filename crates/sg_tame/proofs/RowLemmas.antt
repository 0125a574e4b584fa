-- The rows of all factorizations of a number, read at their places.
use Rattle.std.proofs.Common.{◌≡◌, ℕ, ◌+◌, ◌<◌, ◌≤◌, List, [], length, get_or, sym, subst, ◌∙◌, arith}
use Rattle.std.specs.Prelude.{slice_index_or}
use Rattle.std.proofs.lemmas.List.{get_or_default}
use Rattle.std.proofs.lemmas.List.Elements.{Contains-get_or}
use Rattle.sg_defs.specs.Membership.{IsFactorization, IsMember}
use Rattle.sg_defs.specs.Vectors.{value_of, distance}
use Rattle.sg_nonunique.specs.Places.{raise}
use Rattle.sg_nonunique.proofs.PlaceLemmas.{length-raise, raise-same, value_of-raise}
use Rattle.sg_omega.specs.Minimal.{IsMinimalAbove}
use Rattle.sg_tame.specs.Nearest.{AreAllOf, AreNearAt, AreRowsNear, HavePositive}
use Rattle.sg_tame.specs.Needed.{IsUsedMinimally}

-- where generator i is added to a member w
module _ (G : List ℕ) (v i w : ℕ) (rows : List (List ℕ)) (all : AreAllOf G v rows) (inside : i < length G) (member : IsMember G w) (e : w + get_or G i 0 ≡ v) where
  is-row : (k : ℕ) → k < length rows → IsFactorization G v (slice_index_or rows k [])
  is-row k l = (all.listed.exactly (slice_index_or rows k [])).0 (Contains-get_or rows k [] l)

  row-of : (z : List ℕ) → IsFactorization G v z → (k : ℕ) × (k < length rows) × (slice_index_or rows k [] ≡ z)
  row-of z f =
      let there = (all.listed.exactly z).1 f in
      (there.0, there.1, get_or_default rows there.0 [] z there.1 ∙ there.2)

  pub have-positive : HavePositive (length G) rows i
  have-positive =
      let r = member.0 in
      let wide : i < length r = omega (arith, inside, member.1.places) in
      let f : IsFactorization G v (raise r i) = record {
        places = length-raise r i ∙ member.1.places;
        value = omega (arith, value_of-raise G r i inside member.1.places, member.1.value, e);
      } in
      let at = row-of (raise r i) f in
      record {
        comparable = all.comparable;
        places = λ k l. (is-row k l).places;
        inside = inside;
        some = (at.0, at.1, subst (λ z. 0 < get_or z i 0) (sym at.2) (omega (arith, raise-same r i wide)));
      }

  pub near-from_rows : (N : ℕ) → AreRowsNear G w rows i N → AreNearAt G v i N
  near-from_rows N h z m ev =
      let f : IsFactorization G v z = record { places = m.places; value = ev } in
      let at = row-of z f in
      let rest : m.rest ≡ w = omega (arith, m.value, ev, e) in
      let used : IsUsedMinimally G w z = λ j some y q there. m.minimal j y some (q ∙ sym rest) there in
      let near = h at.0 at.1 (subst (IsUsedMinimally G w) (sym at.2) used) in (
        slice_index_or rows near.0 [],
        is-row near.0 near.1,
        near.2.0,
        subst (λ x. distance x (slice_index_or rows near.0 []) ≤ N) at.2 near.2.1,
      )

  pub rows-from_near : (N : ℕ) → AreNearAt G v i N → AreRowsNear G w rows i N
  rows-from_near N h k l used =
      let z = slice_index_or rows k [] in
      let f = is-row k l in
      let value : value_of G z ≡ get_or G i 0 + w = omega (arith, f.value, e) in
      let m : IsMinimalAbove G (get_or G i 0) z = record { places = f.places; rest = w; member = member; value = value; minimal = λ j y some q there. used j some y q there } in
      let near = h z m f.value in
      let at = row-of near.0 near.1 in (
        at.0,
        at.1,
        (subst (λ y. 0 < get_or y i 0) (sym at.2) near.2, subst (λ y. distance z y ≤ N) (sym at.2) near.3),
      )
