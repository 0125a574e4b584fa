-- A search that has come to a level: what it knows, and how it goes on and ends.
use Rattle.std.proofs.Common.{◌≡◌, ◌≢◌, ℕ, ◌+◌, ◌<◌, ◌≤◌, ℤ, List, [], ◌++◌, length, get_or, sum, sym, subst, ◌∙◌, inl, inr, arith}
use Rattle.std.specs.Prelude.{◌↔◌, All, Contains}
use Rattle.std.proofs.lemmas.Bool.{cases_lt}
use Rattle.std.proofs.lemmas.List.{length-append}
use Rattle.std.proofs.lemmas.List.Elements.{All-append, Contains-get_or}
use Rattle.sg_defs.specs.Vectors.{ListsAscending}
use Rattle.sg_nonunique.specs.Counts.{Exceeds}
use Rattle.sg_nonunique.specs.Equations.{IsSolution, IsAtom, IsGrown, AreColumns}
use Rattle.sg_laws_finite.specs.Listed.{IsListing}
use Rattle.sg_laws_finite.proofs.ElementLemmas.{contains-nil, pairs-append, all-from_contained}
use Rattle.sg_atoms.specs.Growth.{Gathers, IsGrowthOf, IsUnitBefore}
use Rattle.sg_atoms.specs.Levels.{IsOnLevel, IsBeforeLevel, IsAtomBefore}
use Rattle.sg_atoms.specs.Matrices.{rows_of}
use Rattle.sg_atoms.specs.Sets.{AreDifferent, HaveOneLength}
use Rattle.sg_atoms.proofs.GrownLemmas.{grown-unit, length-grown}
use Rattle.sg_atoms.proofs.AtomLemmas.{clear-grows, grows-clear, grows-raises}
use Rattle.sg_atoms.proofs.GrowthLemmas.{exceeds-wider}
use Rattle.sg_atoms.proofs.LevelLemmas.{first-level, next-level, seen-more, seen-none, seen-all, atoms-on, atoms-all, atoms-none}

-- the atoms are those shorter than l, the level has the grown vectors of length l, and with those seen before there is
-- room for so many more that are left
pub record IsAt (columns : List (List ℤ)) (budget l : ℕ) (atoms level : List (List ℕ)) (left : ℕ) : Type 0 where
  pub started : 0 < l
  pub early : l + length level + left ≤ budget + 1
  pub atoms_before : (a : List ℕ) → Contains atoms a ↔ IsAtomBefore (rows_of columns) columns l a
  pub level_here : IsListing (IsOnLevel (rows_of columns) columns l) level
  pub seen : List (List ℕ)
  pub seen_before : IsListing (IsBeforeLevel (rows_of columns) columns l) seen
  pub counted : length seen + length level + left ≡ budget

-- at some level
abbrev pub HasReached : List (List ℤ) → ℕ → List (List ℕ) → List (List ℕ) → ℕ → Type 0
HasReached columns budget atoms level left = (l : ℕ) × IsAt columns budget l atoms level left

module _ (columns : List (List ℤ)) (shape : AreColumns (rows_of columns) columns) (budget : ℕ) where
  abbrev r : ℕ
  r = rows_of columns

  abbrev places : ℕ
  places = length columns

  -- the unit vectors are the first level
  pub reached-first : (level : List (List ℕ)) (left : ℕ) → ((q : List ℕ) → Contains level q ↔ IsUnitBefore places places q) → AreDifferent level →
      length level + left ≡ budget → HasReached columns budget [] level left
  reached-first level left units different e = (
    1,
    record {
      started = omega arith;
      early = omega (arith, e);
      atoms_before = λ a. ((λ c. absurd (contains-nil a c)), (λ h. absurd (atoms-none r columns shape a h)));
      level_here = record {
        different = different;
        exactly = λ q. ((λ c. (first-level r columns q).1 ((units q).0 c)), (λ h. (units q).1 ((first-level r columns q).0 h)));
      };
      seen = [];
      seen_before = seen-none r columns;
      counted = omega (arith, e);
    },
  )

  -- too many unit vectors are too many grown ones
  pub spent-first : Exceeds (IsUnitBefore places places) budget → Exceeds (IsGrown r columns) budget
  spent-first = exceeds-wider (IsUnitBefore places places) (IsGrown r columns) budget
      (λ q u. subst (IsGrown r columns) u.2 (grown-unit r columns u.0 u.1))

  -- ---- at a level

  module _ (atoms level : List (List ℕ)) (left : ℕ) (at : HasReached columns budget atoms level left) where
    abbrev l : ℕ
    l = at.0

    none : length level ≤ 0 → (p : List ℕ) → IsOnLevel r columns l p → ⊥
    none empty p h = let c = (at.1.level_here.exactly p).1 h in omega (arith, empty, c.1)

    -- its vectors are short
    pub reached-short : budget ≤ 1000000 → All (λ p. sum p ≤ 1048576) level
    reached-short few = all-from_contained (λ p. sum p ≤ 1048576) level
        (λ p c. let h = ((at.1.level_here.exactly p).0 c).1 in omega (arith, h, few, at.1.early))

    pub reached-places : All (λ p. length p ≡ places) level
    reached-places = all-from_contained (λ p. length p ≡ places) level (λ p c. length-grown r columns p ((at.1.level_here.exactly p).0 c).0)

    -- where a level is empty, all atoms are there
    pub reached-atoms : length level ≤ 0 → (a : List ℕ) → Contains atoms a ↔ IsAtom r columns a
    reached-atoms empty a =
        let all = atoms-all r columns shape l at.1.started (none empty) a in (
          (λ c. all.0 ((at.1.atoms_before a).0 c)),
          (λ h. (at.1.atoms_before a).1 (all.1 h)),
        )

    -- and no more are grown than the budget allows
    pub reached-within : length level ≤ 0 → Exceeds (IsGrown r columns) budget → ⊥
    reached-within empty = seen-all r columns l budget at.1.seen at.1.started at.1.seen_before (none empty) (omega (arith, at.1.counted))

    -- ---- the solutions of the level noted

    module _ (more : List (List ℕ)) (noted : Gathers (λ q. Contains level q × IsSolution r columns q) atoms more) where
      pub noted-atoms : (a : List ℕ) → Contains more a ↔ IsAtomBefore r columns (l + 1) a
      noted-atoms a = (
        (λ c. elim ((noted a).0 c) [
          | inl was ↦ let b = (at.1.atoms_before a).0 was in (b.0, omega (arith, b.1))
          | inr now ↦ let b = (atoms-on r columns shape l a).1 ((at.1.level_here.exactly a).0 now.0, now.1) in (b.0, omega (arith, b.1))
        ]),
        (λ h. elim (cases_lt (sum a) l) [
          | inl less ↦ (noted a).1 (inl ((at.1.atoms_before a).1 (h.0, less)))
          | inr same ↦
              let b = (atoms-on r columns shape l a).0 (h.0, omega (arith, same, h.1)) in
              (noted a).1 (inr ((at.1.level_here.exactly a).1 b.0, b.1))
        ]),
      )

      pub noted-places : All (λ a. length a ≡ places) more
      noted-places = all-from_contained (λ a. length a ≡ places) more (λ a c. ((noted-atoms a).0 c).0.solution.places)

      -- what grows from the level is the next one
      pub growth-level : (q : List ℕ) → IsGrowthOf columns more level q ↔ IsOnLevel r columns (l + 1) q
      growth-level q = (
        (λ h.
            let on = (at.1.level_here.exactly h.0).0 h.1 in
            (next-level r columns l at.1.started q).1 (
              h.0,
              on,
              clear-grows r columns h.0 q h.2.0 (l + 1) (length-grown r columns h.0 on.0) (omega (arith, on.1)) h.2.1.0 (λ a before below. h.2.1.1 a ((noted-atoms a).1 before) below),
            )),
        (λ on.
            let back = (next-level r columns l at.1.started q).0 on in (
              back.0,
              (at.1.level_here.exactly back.0).1 back.1,
              (
                back.2.place,
                (
                  grows-raises r columns back.0 q back.2,
                  λ a c below. grows-clear r columns back.0 q (l + 1) (length-grown r columns back.0 back.1.0) (omega (arith, back.1.1)) back.2 a ((noted-atoms a).0 c) below,
                ),
              ),
            )),
      )

      abbrev passed : List (List ℕ)
      passed = at.1.seen ++ level

      pub reached-next : 0 < length level → (next : List (List ℕ)) (rest : ℕ) → ((q : List ℕ) → Contains next q ↔ IsGrowthOf columns more level q) →
          AreDifferent next → length next + rest ≡ left → HasReached columns budget more next rest
      reached-next some next rest grown different e = (
        l + 1,
        record {
          started = omega arith;
          early = omega (arith, some, e, at.1.early);
          atoms_before = noted-atoms;
          level_here = record {
            different = different;
            exactly = λ q. ((λ c. (growth-level q).0 ((grown q).0 c)), (λ h. (grown q).1 ((growth-level q).1 h)));
          };
          seen = passed;
          seen_before = seen-more r columns l at.1.seen level at.1.seen_before at.1.level_here;
          counted = omega (arith, e, at.1.counted, length-append at.1.seen level);
        },
      )

      -- too many on the next level are too many in all
      pub spent-next : Exceeds (IsGrowthOf columns more level) left → Exceeds (IsGrown r columns) budget
      spent-next e =
          let before = seen-more r columns l at.1.seen level at.1.seen_before at.1.level_here in
          let on : (q : List ℕ) → Contains e.0 q → IsOnLevel r columns (l + 1) q = λ q c. (growth-level q).0 (subst (IsGrowthOf columns more level) c.2 (e.3 c.0 q c.1)) in (
            passed ++ e.0,
            omega (arith, e.1, at.1.counted, length-append at.1.seen level, length-append passed e.0),
            pairs-append (λ x y. x ≢ y) passed e.0 before.different e.2 (λ x y a b same. apart x y ((before.exactly x).0 a).1 (on y b).1 same),
            All-append (IsGrown r columns) passed e.0
                (all-from_contained (IsGrown r columns) passed (λ x c. ((before.exactly x).0 c).0))
                (all-from_contained (IsGrown r columns) e.0 (λ x c. (on x c).0)),
          )
        where
          apart : (x y : List ℕ) → sum x < l + 1 → sum y ≡ l + 1 → x ≡ y → ⊥
          apart x y less e same = let n : sum y < l + 1 = subst (λ v. sum v < l + 1) same less in omega (arith, n, e)

-- ---- the same lists by other names

module _ (columns : List (List ℤ)) (a b l m : List (List ℕ)) (atoms_same : a ≡ b) (level_same : l ≡ m) where
  pub grown-same : (next : List (List ℕ)) → ((q : List ℕ) → Contains next q ↔ IsGrowthOf columns a l q) → (q : List ℕ) → Contains next q ↔ IsGrowthOf columns b m q
  grown-same next h =
      subst (λ k. (q : List ℕ) → Contains next q ↔ IsGrowthOf columns k m q) atoms_same
      (subst (λ k. (q : List ℕ) → Contains next q ↔ IsGrowthOf columns a k q) level_same h)

  pub many-same : (room : ℕ) → Exceeds (IsGrowthOf columns a l) room → Exceeds (IsGrowthOf columns b m) room
  many-same room h = subst (λ k. Exceeds (IsGrowthOf columns k m) room) atoms_same (subst (λ k. Exceeds (IsGrowthOf columns a k) room) level_same h)

pub noted-same : (columns : List (List ℤ)) (l m atoms more : List (List ℕ)) → l ≡ m → Gathers (λ q. Contains l q × IsSolution (rows_of columns) columns q) atoms more →
    Gathers (λ q. Contains m q × IsSolution (rows_of columns) columns q) atoms more
noted-same columns l m atoms more same h = subst (λ k. Gathers (λ q. Contains k q × IsSolution (rows_of columns) columns q) atoms more) same h

-- ---- all atoms in a list

module _ (columns : List (List ℤ)) (atoms slice : List (List ℕ)) (same : slice ≡ atoms) (exactly : (a : List ℕ) → Contains atoms a ↔ IsAtom (rows_of columns) columns a) where
  pub atoms-one_length : HaveOneLength slice
  atoms-one_length = λ i j d less inside. long i d (omega (arith, less, inside)) ∙ sym (long j d inside)
    where
      long : (i : ℕ) (d : List ℕ) → i < length slice → length (get_or slice i d) ≡ length columns
      long i d inside = ((exactly (get_or slice i d)).0 (subst (λ k. Contains k (get_or slice i d)) same (Contains-get_or slice i d inside))).solution.places

  pub atoms-ascending : (other : List (List ℤ)) (rows : List (List ℕ)) → columns ≡ other → ListsAscending (Contains slice) rows → ListsAscending (IsAtom (rows_of other) other) rows
  atoms-ascending other rows is h = record {
    ascending = h.ascending;
    exactly = λ z. (
      (λ c. subst (λ G. IsAtom (rows_of G) G z) is ((exactly z).0 (subst (λ k. Contains k z) same ((h.exactly z).0 c)))),
      (λ a. (h.exactly z).1 (subst (λ k. Contains k z) (sym same) ((exactly z).1 (subst (λ G. IsAtom (rows_of G) G z) (sym is) a)))),
    );
  }
