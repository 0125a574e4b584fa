-- A presentation that is glued from presentations of both parts presents the whole.
use Rattle.std.proofs.Common.{◌≡◌, ℕ, ◌*◌, ◌<◌, Bool, List, [], ◌∷◌, ◌++◌, length, sym, ap, subst, ◌∙◌, inl, inr, arith}
use Rattle.std.specs.Prelude.{Contains}
use Rattle.std.specs.Int.{IsGcd}
use Rattle.std.specs.List.Sorted.{IsStrictlyIncreasing}
use Rattle.std.proofs.Math.Nat.{mul_comm, eq_of_mul-eq-mul_left, pos_of_dvd_of_pos}
use Rattle.std.proofs.lemmas.List.Elements.{Contains-append_left, Contains-append_right}
use Rattle.sg_defs.specs.Membership.{IsFactorization, IsNumericalSemigroup}
use Rattle.sg_defs.specs.Vectors.{value_of, scale}
use Rattle.sg_defs.proofs.ListLemmas.{contains-cases}
use Rattle.sg_nat.proofs.LcmLemmas.{same_from_IsLcm}
use Rattle.sg_nonunique.specs.Presentations.{Relation, AreRelations, Presents}
use Rattle.sg_nonunique.proofs.AffineLemmas.{length-scale}
use Rattle.sg_classes.proofs.GeneratorLemmas.{entry-positive, place-contains}
use Rattle.sg_classes.proofs.OneListLemmas.{same-increasing}
use Rattle.sg_glue.specs.Gluings.{Split, IsGluing, IsChosen}
use Rattle.sg_glue.specs.Glued.{IsPlaced, IsRaised, AreRaised, IsGlued}
use Rattle.sg_glue.proofs.PairLemmas.{contains-head, contains-tail}
use Rattle.sg_glue.proofs.ReachLemmas.{value-scaled}
use Rattle.sg_glue.proofs.GlueLemmas.{AreOthers, coprime, multiple, positive}
use Rattle.sg_glue.proofs.SpreadLemmas.{taken, flipped, spread, length-flipped}
use Rattle.sg_glue.proofs.PlacedLemmas.{places-exist, placed-spread}
use Rattle.sg_glue.proofs.WovenLemmas.{spread_relation, woven-presents}

-- each relation of a part is raised
raised-one : (G A : List ℕ) (d : ℕ) (p rs : List (Relation ℕ)) → AreRaised G A d p rs → (r : Relation ℕ) → Contains p r → (t : Relation ℕ) × Contains rs t × IsRaised G A d r t
raised-one G A d [] rs h r c = absurd (omega (arith, c.1))
raised-one G A d (x ∷ p) [] h r c = absurd h
raised-one G A d (x ∷ p) (y ∷ rs) h r c = elim (contains-cases x p r c) [
  | inl e ↦ (y, contains-head y rs, subst (λ z. IsRaised G A d z y) e h.0)
  | inr later ↦ let t = raised-one G A d p rs h.1 r later in (t.0, contains-tail y rs t.0 t.1, t.2)
]

relation-same : (r s : Relation ℕ) → r.value ≡ s.value → r.left ≡ s.left → r.right ≡ s.right → r ≡ s
relation-same r s a b c =
    let p : r ≡ record { value = s.value; left = r.left; right = r.right } = ap (λ n. record { value = n; left = r.left; right = r.right }) a in
    let q : record { value = s.value; left = r.left; right = r.right } ≡ record { value = s.value; left = s.left; right = r.right } = ap (λ l. record { value = s.value; left = l; right = r.right }) b in
    let u : record { value = s.value; left = s.left; right = r.right } ≡ s = ap (λ l. record { value = s.value; left = s.left; right = l }) c in
    p ∙ q ∙ u

-- a part of an ascending list, its places, and its side
module _ (bs : List Bool) (G part A : List ℕ) (d : ℕ) (fits : length G ≡ length bs) (up : IsStrictlyIncreasing G) (same : taken bs G ≡ part) (side : scale d A ≡ part) where
  placed : (v w : List ℕ) → length v ≡ length part → IsPlaced G part v w → w ≡ spread bs v
  placed v w l p = placed-spread bs G v w fits up (l ∙ ap length (sym same)) (subst (λ x. IsPlaced G x v w) (sym same) p)

  places : length A ≡ length part
  places = sym (length-scale d A) ∙ ap length side

  raised : (p rs : List (Relation ℕ)) → AreRelations (IsFactorization A) p → AreRaised G part d p rs → (r : Relation ℕ) → Contains p r → Contains rs (spread_relation bs d r)
  raised p rs relations h r c =
      let t = raised-one G part d p rs h r c in
      let f = relations r c in
      subst (Contains rs) (relation-same t.0 (spread_relation bs d r) t.2.value (placed r.left t.0.left (f.0.places ∙ places) t.2.left) (placed r.right t.0.right (f.1.places ∙ places) t.2.right)) t.1

  divided : 0 < d → (n : ℕ) (u : List ℕ) → IsFactorization part (d * n) u → IsFactorization A n u
  divided some n u f = record {
    places = f.places ∙ sym places;
    value = eq_of_mul-eq-mul_left d some (value_of A u) n (sym (value-scaled d A u) ∙ ap (λ x. value_of x u) side ∙ f.value);
  }

module _ (G : List ℕ) (s : Split) (semigroup : IsNumericalSemigroup G) (up : IsStrictlyIncreasing G) (gluing : IsGluing G s) where
  chosen : IsChosen G s.left
  chosen = record { ascending = gluing.parts.left_ascending; first = gluing.parts.first; among = λ g c. (gluing.parts.all g).1 (inl c) }

  other_part : AreOthers G s.left s.right
  other_part g = (
    (λ h. ((gluing.parts.all g).1 (inr h), λ a. gluing.parts.once g a h)),
    (λ o. elim ((gluing.parts.all g).0 o.0) [
      | inl left ↦ absurd (o.1 left)
      | inr right ↦ right
    ]),
  )

  positive_left : 0 < s.d_left
  positive_left = positive G semigroup s.left s.right chosen gluing.parts.right_ascending other_part gluing.parts.right_not_empty s.d_left s.d_right gluing.divisor_left gluing.divisor_right

  coprime_parts : IsGcd s.d_left s.d_right 1
  coprime_parts = coprime G semigroup s.left s.right chosen gluing.parts.right_ascending other_part gluing.parts.right_not_empty s.d_left s.d_right gluing.divisor_left gluing.divisor_right

  positive_right : 0 < s.d_right
  positive_right =
      let some = gluing.parts.right_not_empty in
      pos_of_dvd_of_pos (gluing.divisor_right.divides 0 0 some) (entry-positive G semigroup _ ((gluing.parts.all _).1 (inr (place-contains s.right 0 some))))

  pub glued-presents : (A B : List ℕ) (p q P : List (Relation ℕ)) → scale s.d_left A ≡ s.left → scale s.d_right B ≡ s.right
      → AreRelations (IsFactorization A) p → Presents (IsFactorization A) p → AreRelations (IsFactorization B) q → Presents (IsFactorization B) q
      → IsGlued G s p q P → Presents (IsFactorization G) P
  glued-presents A B p q P first second rp pp rq pq g =
      let found = places-exist G s.left up in
      let bs = found.0 in
      let h = found.1 in
      let left : taken bs G ≡ s.left = same-increasing (taken bs G) s.left h.ascends gluing.parts.left_ascending
      (λ x c. ((h.inside x).0 c).1) (λ x c. (h.inside x).1 (chosen.among x c, c)) in
      let right : taken (flipped bs) G ≡ s.right = same-increasing (taken (flipped bs) G) s.right h.others gluing.parts.right_ascending
      (λ x c. (other_part x).1 ((h.outside x).0 c)) (λ x c. (h.outside x).1 ((other_part x).0 c)) in
      let fits = h.fits ∙ sym (length-flipped bs) in
      let product : g.last.value ≡ s.d_left * s.d_right = same_from_IsLcm s.d_left s.d_right g.last.value (s.d_left * s.d_right) g.value
      (multiple G semigroup s.left s.right chosen gluing.parts.right_ascending other_part gluing.parts.right_not_empty s.d_left s.d_right gluing.divisor_left gluing.divisor_right) in
      let fu = divided bs G s.left A s.d_left h.fits up left first positive_left s.d_right g.left (subst (λ n. IsFactorization s.left n g.left) product g.greatest_left.member) in
      let fv = divided (flipped bs) G s.right B s.d_right fits up right second positive_right s.d_left g.right
      (subst (λ n. IsFactorization s.right n g.right) (product ∙ mul_comm s.d_left s.d_right) g.greatest_right.member) in
      let c = coprime_parts in
      woven-presents bs G A B s.d_left s.d_right h.fits (first ∙ sym left) (second ∙ sym right) (c.1, c.0, λ n x y. c.2 n y x) positive_right p q P rp pp rq pq
      (λ r k. subst (λ l. Contains l (spread_relation bs s.d_left r)) (sym g.joined)
      (Contains-append_left g.from_left (g.from_right ++ g.last ∷ []) (spread_relation bs s.d_left r) (raised bs G s.left A s.d_left h.fits up left first p g.from_left rp g.raised_left r k)))
      (λ r k. subst (λ l. Contains l (spread_relation (flipped bs) s.d_right r)) (sym g.joined)
      (Contains-append_right g.from_left (g.from_right ++ g.last ∷ []) (spread_relation (flipped bs) s.d_right r)
      (Contains-append_left g.from_right (g.last ∷ []) (spread_relation (flipped bs) s.d_right r) (raised (flipped bs) G s.right B s.d_right fits up right second q g.from_right rq g.raised_right r k))))
      g.last (subst (λ l. Contains l g.last) (sym g.joined)
      (Contains-append_right g.from_left (g.from_right ++ g.last ∷ []) g.last (Contains-append_right g.from_right (g.last ∷ []) g.last (contains-head g.last []))))
      g.left g.right fu fv
      (placed bs G s.left A s.d_left h.fits up left first g.left g.last.left g.greatest_left.member.places g.placed_left)
      (placed (flipped bs) G s.right B s.d_right fits up right second g.right g.last.right g.greatest_right.member.places g.placed_right)
