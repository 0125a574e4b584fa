-- Below each nonzero solution lies an atom, so that known atoms tell whether a vector is free.
use Rattle.std.proofs.Common.{◌≡◌, ◌≢◌, ℕ, zero, suc, ◌+◌, ◌<◌, ◌≤◌, ℤ, pos, List, length, get_or, replicate, sum, sym, ap, subst, ◌∙◌, inl, inr, arith}
use Rattle.std.specs.Prelude.{◌⊎◌}
use Rattle.std.proofs.lemmas.Bool.{cases_eq}
use Rattle.sg_defs.specs.Vectors.{IsBelow}
use Rattle.sg_defs.proofs.VectorLemmas.{length-plus}
use Rattle.sg_nonunique.specs.Places.{unit}
use Rattle.sg_nonunique.specs.Equations.{image_of, IsSolution, IsAtom, GrowsTo, IsGrown}
use Rattle.sg_nonunique.proofs.SumLemmas.{sum-plus}
use Rattle.sg_nonunique.proofs.PlaceLemmas.{length-unit, sum-unit}
use Rattle.sg_nonunique.proofs.OrderLemmas.{below-here, below-then, sum-below}
use Rattle.sg_laws_finite.proofs.SearchLemmas.{cons-decided, vectors-decided, some-in}
use Rattle.sg_atoms.specs.Levels.{Raises, IsClear}
use Rattle.sg_atoms.proofs.IntegerLemmas.{integers-decided}
use Rattle.sg_atoms.proofs.BelowLemmas.{nonzero-positive, below-less, below-unraised, under, under-exactly}
use Rattle.sg_atoms.proofs.GrownLemmas.{length-grown, grown-apart, sum-step}

module _ (r : ℕ) (columns : List (List ℤ)) where
  abbrev places : ℕ
  places = length columns

  -- whether a vector is a solution is decided
  pub solution-decided : (p : List ℕ) → IsSolution r columns p ⊎ ¬ IsSolution r columns p
  solution-decided p = elim (cases_eq (length p) places) [
    | inr apart ↦ inr (λ h. apart h.places)
    | inl e ↦ elim (cons-decided integers-decided (image_of r columns p) (replicate r (pos 0))) [
      | inl zero_ ↦ inl (record { places = e; zero_image = zero_ })
      | inr apart ↦ inr (λ h. apart h.zero_image)
    ]
  ]

  -- z is a nonzero solution other than s
  abbrev IsOther : List ℕ → List ℕ → Type 0
  IsOther s z = IsSolution r columns z × ((z ≢ replicate places 0) × (z ≢ s))

  other-decided : (s z : List ℕ) → IsOther s z ⊎ ¬ IsOther s z
  other-decided s z = elim (solution-decided z) [
    | inr no_ ↦ inr (λ h. no_ h.0)
    | inl solves ↦ elim (vectors-decided z (replicate places 0)) [
      | inl e ↦ inr (λ h. h.1.0 e)
      | inr nonzero ↦ elim (vectors-decided z s) [ inl e ↦ inr (λ h. h.1.1 e) | inr apart ↦ inl (solves, (nonzero, apart)) ]
    ]
  ]

  atom-within : (n : ℕ) (s : List ℕ) → sum s ≤ n → IsSolution r columns s → s ≢ replicate places 0 → (a : List ℕ) × IsAtom r columns a × IsBelow a s
  atom-within zero s l h n = absurd (omega (arith, l, nonzero-positive s places h.places n))
  atom-within (suc m) s l h n = elim (some-in (λ z. IsBelow z s) (IsOther s) (other-decided s) (under s) (under-exactly s)) [
    | inl found ↦
        let a = atom-within m found.0 (omega (arith, l, below-less found.0 s found.1 found.2.1.1)) found.2.0 found.2.1.0 in
        (a.0, a.1, below-then a.0 found.0 s a.2 found.1)
    | inr none ↦ (
      s,
      record {
        solution = h;
        nonzero = n;
        minimal = λ q k m b. elim (vectors-decided q s) [ inl e ↦ e | inr apart ↦ absurd (none q b (k, (m, apart))) ];
      },
      below-here s,
    )
  ]

  -- below each nonzero solution lies an atom
  pub atom-below : (s : List ℕ) → IsSolution r columns s → s ≢ replicate places 0 → (a : List ℕ) × IsAtom r columns a × IsBelow a s
  atom-below s h n = atom-within (sum s) s (omega arith) h n

  length-raises : (p q : List ℕ) (i : ℕ) → length p ≡ places → Raises r columns p q i → length q ≡ places
  length-raises p q i e s = ap length s.next ∙ length-plus p (unit places i) (e ∙ sym (length-unit places i)) ∙ e

  pub sum-raises : (p q : List ℕ) (i : ℕ) → length p ≡ places → Raises r columns p q i → sum q ≡ sum p + 1
  sum-raises p q i e s = omega (arith, ap sum s.next, sum-plus p (unit places i) (e ∙ sym (length-unit places i)), sum-unit places i s.in_range)

  -- p grows to q where no atom that is shorter than q lies below q
  pub clear-grows : (p q : List ℕ) (i l : ℕ) → length p ≡ places → sum p < l → Raises r columns p q i → IsClear r columns l q → GrowsTo r columns p q
  clear-grows p q i l e short s clear = record {
    unsolved = s.unsolved;
    place = i;
    in_range = s.in_range;
    next = s.next;
    back = s.back;
    free = λ t h n other b.
        let a = atom-below t h n in
        clear a.0 (a.1, omega (arith, short, sum-below a.0 t a.2, below-less t q b other, sum-raises p q i e s)) (below-then a.0 t q a.2 b);
  }

  -- and only there
  pub grows-clear : (p q : List ℕ) (l : ℕ) → length p ≡ places → l ≤ sum p + 1 → GrowsTo r columns p q → IsClear r columns l q
  grows-clear p q l e short s a h b =
      s.free a h.0.solution h.0.nonzero (λ same. omega (arith, short, h.1, ap sum same, sum-step r columns p q e s)) b

  pub grows-raises : (p q : List ℕ) (s : GrowsTo r columns p q) → Raises r columns p q s.place
  grows-raises p q s = record { unsolved = s.unsolved; in_range = s.in_range; next = s.next; back = s.back }

  -- an atom below q, which grew from p by one more at place i, has as much there as q: else it lay below p
  pub atom-touches : (p q a : List ℕ) (i : ℕ) → IsGrown r columns p → Raises r columns p q i → IsAtom r columns a → IsBelow a q → get_or a i 0 ≡ get_or q i 0
  atom-touches p q a i g s atom b = elim (cases_eq (get_or a i 0) (get_or q i 0)) [
    | inl e ↦ e
    | inr apart ↦
        let c : IsBelow a p = below-unraised places p a i (length-grown r columns p g) s.in_range (subst (IsBelow a) s.next b)
        (λ e. apart (e ∙ ap (λ v. get_or v i 0) (sym s.next))) in
        absurd (grown-apart r columns p g a atom.solution atom.nonzero (λ e. s.unsolved (subst (IsSolution r columns) e atom.solution)) c)
  ]
