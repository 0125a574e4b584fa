-- The gluings of a numerical semigroup have a list, and one alone.
use Rattle.std.proofs.Common.{◌≡◌, ℕ, zero, suc, ◌*◌, ◌<◌, List, [], ◌∷◌, ◌++◌, length, map, get_or, refl, sym, subst, ◌∙◌, inl, inr, arith, append_assoc, append-nil}
use Rattle.std.specs.Prelude.{⊤, AllPairs, Contains}
use Rattle.std.specs.Int.{◌∣◌}
use Rattle.std.specs.List.Sorted.{IsStrictlyIncreasing}
use Rattle.std.proofs.lemmas.List.Elements.{All-nil, All-cons, All-head, All-tail, Contains-append_right}
use Rattle.std.proofs.lemmas.Nat.Gcd.{dvd-zero, dvd_trans}
use Rattle.itertools.specs.Pool.{subsets}
use Rattle.sg_defs.specs.Membership.{IsNumericalSemigroup}
use Rattle.sg_defs.proofs.DecidedLemmas.{member-decided}
use Rattle.sg_defs.proofs.OneLemmas.{same-ordered}
use Rattle.sg_nonunique.proofs.OrderLemmas.{lex-irreflexive, lex-then}
use Rattle.sg_laws_families.proofs.GcdLemmas.{gcd-of_closed}
use Rattle.sg_classes.proofs.GeneratorLemmas.{contains-place}
use Rattle.sg_glue.specs.Gluings.{Split, IsGcdOf, IsChosen, IsBefore, AreGluings, AddsGluing}
use Rattle.sg_glue.proofs.PairLemmas.{contains-head, contains-tail, contains-map}
use Rattle.sg_glue.proofs.SubsetLemmas.{Precedes}
use Rattle.sg_glue.proofs.ListingLemmas.{rest-ascends, above-first, ascending-before, left_of, left-chosen, lefts-ordered, AreUpTo, upto-none, upto-more, upto-all}
use Rattle.sg_glue.proofs.GlueLemmas.{contained-or_not, AreOthers, no-others, adds-one, adds-none}

-- ---- one alone

before-apart : (s t : Split) → IsBefore s t → IsBefore t s → ⊥
before-apart s t (inl a) (inl b) = omega (arith, a, b)
before-apart s t (inl a) (inr b) = omega (arith, a, b.0)
before-apart s t (inr a) (inl b) = omega (arith, a.0, b)
before-apart s t (inr a) (inr b) = lex-irreflexive s.left (lex-then s.left t.left s.left a.1 b.1)

pub one-list_of_gluings : (G : List ℕ) (a b : List Split) → AreGluings G a → AreGluings G b → a ≡ b
one-list_of_gluings G a b p q = same-ordered IsBefore before-apart a b p.ordered q.ordered (λ s h. (q.exactly s).1 ((p.exactly s).0 h)) (λ s h. (p.exactly s).1 ((q.exactly s).0 h))

-- ---- the parts with their divisors

gcd-exists : (A : List ℕ) → (d : ℕ) × IsGcdOf A d
gcd-exists [] = (0, record { divides = All-nil (λ a. 0 ∣ a); greatest = λ c h. dvd-zero c })
gcd-exists (x ∷ A) =
    let r = gcd-exists A in
    let g = gcd-of_closed (λ n. ⊤) (λ a b l p q. tt) x r.0 tt tt in (
      g.0,
      record {
        divides = All-cons (λ a. g.0 ∣ a) x A g.2.0 (λ k d l. dvd_trans g.0 g.2.1 (r.1.divides k d l));
        greatest = λ c h. g.2.2 c (All-head (λ a. c ∣ a) x A h) (r.1.greatest c (All-tail (λ a. c ∣ a) x A h));
      },
    )

others-exist : (G A : List ℕ) → IsStrictlyIncreasing G → (B : List ℕ) × IsStrictlyIncreasing B × AreOthers G A B
others-exist [] A up = ([], (λ k l. absurd (omega (arith, l))), (λ g. ((λ h. absurd (omega (arith, h.1))), (λ r. absurd (omega (arith, r.0.1))))))
others-exist (x ∷ G) A up =
    let r = others-exist G A (rest-ascends x G up) in
    elim (contained-or_not A x) [
      | inl taken ↦ (
        r.0,
        r.1,
        (λ g. (
          (λ h. let o = (r.2 g).0 h in (contains-tail x G g o.0, o.1)),
          (λ o. later r.0 r.2 g taken o.0.0 o.0.1 o.0.2 o.1),
        )),
      )
      | inr left ↦ (
        x ∷ r.0,
        ascending-before x r.0 r.1 (λ y h. above y ((r.2 y).0 h).0),
        (λ g. (
          (λ h. kept r.0 r.2 left g h.0 h.1 h.2),
          (λ o. put r.0 r.2 g o.0.0 o.0.1 o.0.2 o.1),
        )),
      )
    ]
  where
    above : (y : ℕ) → Contains G y → x < y
    above y h = let p = contains-place G y h in omega (arith, above-first x G up p.0 p.1, p.2)

    later : (B : List ℕ) → AreOthers G A B → (g : ℕ) → Contains A x → (k : ℕ) → k < length (x ∷ G) → get_or (x ∷ G) k g ≡ g → (Contains A g → ⊥) → Contains B g
    later B o g taken zero l e not = absurd (not (subst (Contains A) e taken))
    later B o g taken (suc k) l e not = (o g).1 ((k, omega (arith, l), e), not)

    kept : (B : List ℕ) → AreOthers G A B → (Contains A x → ⊥) → (g : ℕ) (k : ℕ) → k < length (x ∷ B) → get_or (x ∷ B) k g ≡ g → Contains (x ∷ G) g × (Contains A g → ⊥)
    kept B o left g zero l e = subst (λ v. Contains (x ∷ G) v × (Contains A v → ⊥)) e (contains-head x G, left)
    kept B o left g (suc k) l e = let r = (o g).0 (k, omega (arith, l), e) in (contains-tail x G g r.0, r.1)

    put : (B : List ℕ) → AreOthers G A B → (g : ℕ) (k : ℕ) → k < length (x ∷ G) → get_or (x ∷ G) k g ≡ g → (Contains A g → ⊥) → Contains (x ∷ B) g
    put B o g zero l e not = subst (Contains (x ∷ B)) e (contains-head x B)
    put B o g (suc k) l e not = contains-tail x B g ((o g).1 ((k, omega (arith, l), e), not))

-- ---- one left part after the other

adds-exist : (G A : List ℕ) → IsNumericalSemigroup G → IsStrictlyIncreasing G → IsChosen G A → (before : List Split) → (after : List Split) × AddsGluing G A before after
adds-exist G A s up c before = with-others (others-exist G A up)
  where
    with-others : (B : List ℕ) × IsStrictlyIncreasing B × AreOthers G A B → (after : List Split) × AddsGluing G A before after
    with-others ([], rises, o) = (before, no-others G s A [] c rises o refl before)
    with-others (x ∷ B, rises, o) =
        let d = gcd-exists A in
        let e = gcd-exists (x ∷ B) in
        let some : 0 < length (x ∷ B) = omega arith in
        elim (member-decided A (e.0 * d.0)) [
          | inl left ↦ elim (member-decided (x ∷ B) (d.0 * e.0)) [
            | inl right ↦ (before ++ record { left = A; right = x ∷ B; d_left = d.0; d_right = e.0 } ∷ [], adds-one G s A (x ∷ B) c rises o some d.0 e.0 d.1 e.1 (left, right) before)
            | inr not ↦ (before, adds-none G s A (x ∷ B) c rises o some d.0 e.0 d.1 e.1 (λ m. not m.1) before)
          ]
          | inr not ↦ (before, adds-none G s A (x ∷ B) c rises o some d.0 e.0 d.1 e.1 (λ m. not m.0) before)
        ]

module _ (g : ℕ) (P : List ℕ) (s : IsNumericalSemigroup (g ∷ P)) (up : IsStrictlyIncreasing (g ∷ P)) where
  chosen : (A : List ℕ) → Contains (map (left_of g P) (subsets (length P))) A → IsChosen (g ∷ P) A
  chosen A h =
      let r = contains-map (left_of g P) (subsets (length P)) A h in
      subst (IsChosen (g ∷ P)) r.2 (left-chosen g P r.0 up r.1)

  further : (rest done : List (List ℕ)) (list : List Split) → done ++ rest ≡ map (left_of g P) (subsets (length P)) → AreUpTo (g ∷ P) done list
      → (new : List Split) × AreUpTo (g ∷ P) (map (left_of g P) (subsets (length P))) new
  further [] done list e h = (list, subst (λ l. AreUpTo (g ∷ P) l list) (sym (append-nil done) ∙ e) h)
  further (A ∷ rest) done list e h =
      let c = chosen A (subst (λ l. Contains l A) e (Contains-append_right done (A ∷ rest) A (contains-head A rest))) in
      let next = adds-exist (g ∷ P) A s up c list in
      let order : AllPairs Precedes (done ++ A ∷ rest) = subst (AllPairs Precedes) (sym e) (lefts-ordered g P (rest-ascends g P up)) in
      further rest (done ++ A ∷ []) next.0 (append_assoc done (A ∷ []) rest ∙ e) (upto-more (g ∷ P) done A rest list next.0 order h next.1)

  all-found : (list : List Split) × AreGluings (g ∷ P) list
  all-found =
      let r = further (map (left_of g P) (subsets (length P))) [] [] refl (upto-none (g ∷ P)) in
      (r.0, upto-all g P r.0 up r.1)

pub gluings-exist : (G : List ℕ) → IsNumericalSemigroup G → IsStrictlyIncreasing G → (list : List Split) × AreGluings G list
gluings-exist [] s up = absurd (omega (arith, s.not_empty))
gluings-exist (g ∷ P) s up = all-found g P s up
