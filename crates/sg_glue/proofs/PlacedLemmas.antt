-- The places of a part, and vectors at them.
use Rattle.std.proofs.Common.{◌≡◌, ℕ, suc, ◌<◌, ◌↔◌, Bool, true, false, List, [], ◌∷◌, length, get_or, refl, sym, ap, subst, ◌∙◌, inl, inr, arith}
use Rattle.std.specs.Prelude.{Contains}
use Rattle.std.specs.List.Sorted.{IsStrictlyIncreasing}
use Rattle.sg_defs.proofs.ListLemmas.{contains-cases}
use Rattle.sg_classes.proofs.GeneratorLemmas.{contains-place}
use Rattle.sg_glue.specs.Glued.{IsPlaced}
use Rattle.sg_glue.proofs.PairLemmas.{contains-head, contains-tail}
use Rattle.sg_glue.proofs.GlueLemmas.{contained-or_not}
use Rattle.sg_glue.proofs.ListingLemmas.{rest-ascends, above-first, ascending-before}
use Rattle.sg_glue.proofs.SpreadLemmas.{taken, flipped, spread}

-- the entries of A among those of an ascending list, and the others
pub record ArePlaces (bs : List Bool) (G A : List ℕ) : Type 0 where
  pub fits : length G ≡ length bs
  pub inside : (g : ℕ) → Contains (taken bs G) g ↔ (Contains G g × Contains A g)
  pub outside : (g : ℕ) → Contains (taken (flipped bs) G) g ↔ (Contains G g × (Contains A g → ⊥))
  pub ascends : IsStrictlyIncreasing (taken bs G)
  pub others : IsStrictlyIncreasing (taken (flipped bs) G)

-- one entry more, which has Q or not
put : (x : ℕ) (G T : List ℕ) (Q : ℕ → Type 0) → Q x → ((g : ℕ) → Contains T g ↔ (Contains G g × Q g)) → (g : ℕ) → Contains (x ∷ T) g ↔ (Contains (x ∷ G) g × Q g)
put x G T Q has h g = (
  (λ c. elim (contains-cases x T g c) [
    | inl e ↦ (subst (Contains (x ∷ G)) e (contains-head x G), subst Q e has)
    | inr later ↦ let o = (h g).0 later in (contains-tail x G g o.0, o.1)
  ]),
  (λ o. elim (contains-cases x G g o.0) [
    | inl e ↦ subst (Contains (x ∷ T)) e (contains-head x T)
    | inr later ↦ contains-tail x T g ((h g).1 (later, o.1))
  ]),
)

skip : (x : ℕ) (G T : List ℕ) (Q : ℕ → Type 0) → (Q x → ⊥) → ((g : ℕ) → Contains T g ↔ (Contains G g × Q g)) → (g : ℕ) → Contains T g ↔ (Contains (x ∷ G) g × Q g)
skip x G T Q not h g = (
  (λ c. let o = (h g).0 c in (contains-tail x G g o.0, o.1)),
  (λ o. elim (contains-cases x G g o.0) [
    | inl e ↦ absurd (not (subst Q (sym e) o.1))
    | inr later ↦ (h g).1 (later, o.1)
  ]),
)

above : (x : ℕ) (G : List ℕ) → IsStrictlyIncreasing (x ∷ G) → (y : ℕ) → Contains G y → x < y
above x G up y c = let p = contains-place G y c in omega (arith, above-first x G up p.0 p.1, p.2)

pub places-exist : (G A : List ℕ) → IsStrictlyIncreasing G → (bs : List Bool) × ArePlaces bs G A
places-exist [] A up = (
  [],
  record {
    fits = refl;
    inside = λ g. ((λ h. absurd (omega (arith, h.1))), (λ o. absurd (omega (arith, o.0.1))));
    outside = λ g. ((λ h. absurd (omega (arith, h.1))), (λ o. absurd (omega (arith, o.0.1))));
    ascends = λ k l. absurd (omega (arith, l));
    others = λ k l. absurd (omega (arith, l));
  },
)
places-exist (x ∷ G) A up =
    let r = places-exist G A (rest-ascends x G up) in
    elim (contained-or_not A x) [
      | inl has ↦ (
        true ∷ r.0,
        record {
          fits = ap suc r.1.fits;
          inside = put x G (taken r.0 G) (Contains A) has r.1.inside;
          outside = skip x G (taken (flipped r.0) G) (λ g. Contains A g → ⊥) (λ n. n has) r.1.outside;
          ascends = ascending-before x (taken r.0 G) r.1.ascends (λ y h. above x G up y ((r.1.inside y).0 h).0);
          others = r.1.others;
        },
      )
      | inr not ↦ (
        false ∷ r.0,
        record {
          fits = ap suc r.1.fits;
          inside = skip x G (taken r.0 G) (Contains A) not r.1.inside;
          outside = put x G (taken (flipped r.0) G) (λ g. Contains A g → ⊥) not r.1.outside;
          ascends = r.1.ascends;
          others = ascending-before x (taken (flipped r.0) G) r.1.others (λ y h. above x G up y ((r.1.outside y).0 h).0);
        },
      )
    ]

taken-among : (bs : List Bool) (G : List ℕ) (g : ℕ) → Contains (taken bs G) g → Contains G g
taken-among [] G g h = absurd (omega (arith, h.1))
taken-among (b ∷ bs) [] g h = absurd (omega (arith, h.1))
taken-among (true ∷ bs) (x ∷ G) g h = elim (contains-cases x (taken bs G) g h) [
  | inl e ↦ subst (Contains (x ∷ G)) e (contains-head x G)
  | inr later ↦ contains-tail x G g (taken-among bs G g later)
]
taken-among (false ∷ bs) (x ∷ G) g h = contains-tail x G g (taken-among bs G g h)

-- what is placed is spread
pub placed-spread : (bs : List Bool) (G vs ws : List ℕ) → length G ≡ length bs → IsStrictlyIncreasing G → length vs ≡ length (taken bs G) → IsPlaced G (taken bs G) vs ws → ws ≡ spread bs vs
placed-spread [] [] vs [] l up m p = refl
placed-spread [] [] vs (w ∷ ws) l up m p = absurd (omega (arith, p.places))
placed-spread [] (g ∷ G) vs ws l up m p = absurd (omega (arith, l))
placed-spread (b ∷ bs) [] vs ws l up m p = absurd (omega (arith, l))
placed-spread (b ∷ bs) (g ∷ G) vs [] l up m p = absurd (omega (arith, p.places))
placed-spread (true ∷ bs) (g ∷ G) [] (w ∷ ws) l up m p = absurd (omega (arith, m))
placed-spread (true ∷ bs) (g ∷ G) (v ∷ vs) (w ∷ ws) l up m p =
    ap (λ n. n ∷ ws) (p.there 0 (omega arith) 0 (omega arith) refl)
    ∙ ap (λ r. v ∷ r) (placed-spread bs G vs ws (omega (arith, l)) (rest-ascends g G up) (omega (arith, m)) record {
      places = omega (arith, p.places);
      there = λ k h i j e. p.there (suc k) (omega (arith, h)) (suc i) (omega (arith, j)) e;
      elsewhere = λ i j not. p.elsewhere (suc i) (omega (arith, j)) (λ h. elim (contains-cases g (taken bs G) (get_or G i 0) h) [
        | inl e ↦ omega (arith, above-first g G up i j, e)
        | inr later ↦ not later
      ]);
    })
placed-spread (false ∷ bs) (g ∷ G) vs (w ∷ ws) l up m p =
    ap (λ n. n ∷ ws) (p.elsewhere 0 (omega arith) (λ h. let less = above g G up g (taken-among bs G g h) in omega (arith, less)))
    ∙ ap (λ r. 0 ∷ r) (placed-spread bs G vs ws (omega (arith, l)) (rest-ascends g G up) m record {
      places = omega (arith, p.places);
      there = λ k h i j e. p.there k h (suc i) (omega (arith, j)) e;
      elsewhere = λ i j not. p.elsewhere (suc i) (omega (arith, j)) not;
    })
