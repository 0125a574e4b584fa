-- The settling of a list of classes tells whether it meets Kunz's conditions.
use Rattle.std.proofs.Common.{◌≡◌, ℕ, ◌+◌, ◌%◌, ◌^◌, ◌<◌, ◌≤◌, List, length, get_or, sym, ap, subst, ◌∙◌, inl, inr, arith}
use Rattle.std.specs.Prelude.{Contains}
use Rattle.std.proofs.lemmas.Bool.{cases_eq}
use Rattle.std.proofs.lemmas.Grind.{same_number_lists}
use Rattle.std.proofs.lemmas.List.{length-set, get_or-set_same, get_or-set_other}
use Rattle.sg_defs.specs.Membership.{IsMember}
use Rattle.sg_defs.proofs.MembershipLemmas.{member-add}
use Rattle.sg_classes.specs.Classes.{IsAboveEntry, IsClassList, IsKunz}
use Rattle.sg_classes.proofs.ResidueLemmas.{residue-sum}
use Rattle.sg_classes.proofs.GeneratorLemmas.{contains-place, place-contains, member-listed}
use Rattle.sg_classes.proofs.KunzLemmas.{above-entry, above-member, above-modulus, class-semigroup, class_generators, entry-made, modulus-listed}
use Rattle.sg_tables.specs.Closed.{AreClassGenerators}
use Rattle.sg_tables.specs.Found.{AreFound, AreSettled}
use Rattle.sg_tables.proofs.ClosingLemmas.{small-below}
use Rattle.sg_tables.proofs.FoundLemmas.{found-known}

-- each of the generators is above the entry of its class
generator-above : (t : List ℕ) → IsClassList t → (i : ℕ) → i < length (class_generators t) → IsAboveEntry t (get_or (class_generators t) i 0)
generator-above t c i l = elim (cases_eq i 0) [
  | inl e ↦ subst (IsAboveEntry t) (sym (get_or-set_same t 0 (length t) 0 c.not_empty) ∙ ap (λ j. get_or (class_generators t) j 0) (sym e)) (above-modulus t c)
  | inr other ↦ subst (IsAboveEntry t) (sym (get_or-set_other t 0 i (length t) 0 other)) (above-entry t c i (omega (arith, l, length-set t 0 (length t))))
]

-- each entry but the first is one of them
entry-kept : (t D : List ℕ) → AreClassGenerators t D → (i : ℕ) → 0 < i → i < length t → Contains D (get_or t i 0)
entry-kept t D g i after l = g.keeps (get_or t i 0)
    (subst (Contains (class_generators t)) (get_or-set_other t 0 i (length t) 0 (λ e. omega (arith, e, after)))
    (place-contains (class_generators t) i (omega (arith, l, length-set t 0 (length t)))))

-- the entries of a class list are found, and no sums yet
pub found-classes : (t D s : List ℕ) → IsClassList t → AreClassGenerators t D → length s ≡ length t → ((k : ℕ) → k < length s → get_or s k 0 ≡ 0) → AreFound D t s
found-classes t D s c g marks zeros = record {
  long = marks;
  not_empty = c.not_empty;
  modulus = member-listed D (length t) (g.keeps (length t) (modulus-listed t c.not_empty));
  zero = c.zero;
  entry = λ i p l. inr (inl (record { residue = c.residue i l; unmarked = zeros i (omega (arith, l, marks)); listed = entry-kept t D g i p l }));
  listed = λ j l.
      let q = contains-place (class_generators t) (get_or D j 0) (g.adds_none (get_or D j 0) (place-contains D j l)) in
      subst (IsAboveEntry t) q.2 (generator-above t c q.0 q.1);
}

-- a class list of which no entry is lowered any more meets Kunz's conditions
pub kunz-settled : (t D s : List ℕ) → IsClassList t → AreClassGenerators t D → AreFound D t s → AreSettled D t s → IsKunz t
kunz-settled t D s c g f h = record { classes = c; sums = sums }
  where
    made : (i : ℕ) → i < length t → IsMember D (get_or t i 0)
    made i l = entry-made t D c g.keeps i l

    sums : (i j : ℕ) → i < length t → j < length t → get_or t ((i + j) % length t) 0 ≤ get_or t i 0 + get_or t j 0
    sums i j l m =
        let v = get_or t i 0 in
        let w = get_or t j 0 in
        let low : get_or t ((v + w) % length t) 0 ≤ v + w = small-below D t s (class-semigroup t D c g.keeps g.adds_none) f h (v + w + 1) (λ k n p. (made k n, c.residue k n)) (v + w) (v + w)
        (omega arith) (omega arith) (member-add D v w (made i l) (made j m)) in
        let r : (v + w) % length t ≡ (i + j) % length t = sym (residue-sum v w (length t)) ∙ ap (λ x. (x + w % length t) % length t) (c.residue i l) ∙ ap (λ x. (i + x) % length t) (c.residue j m) in
        subst (λ x. get_or t x 0 ≤ v + w) r low

-- and of one that meets them none is lowered
pub kunz-kept : (t D u s : List ℕ) → IsKunz t → AreClassGenerators t D → AreFound D u s → length u ≡ length t → ((i : ℕ) → i < length t → get_or t i 0 < 2 ^ 64) → u ≡ t
kunz-kept t D u s k g f long fits = same_number_lists u t long (λ i l. same i (omega (arith, l, long)))
  where
    same : (i : ℕ) → i < length t → get_or u i 0 ≡ get_or t i 0
    same i l = elim (cases_eq i 0) [
      | inl e ↦ ap (λ j. get_or u j 0) e ∙ f.zero ∙ sym (ap (λ j. get_or t j 0) e ∙ k.classes.zero)
      | inr other ↦
          let x = get_or t i 0 in
          let p = contains-place D x (entry-kept t D g i (omega (arith, other)) l) in
          let down : get_or u (x % length u) 0 ≤ x = subst (IsAboveEntry u) p.2 (f.listed p.0 p.1) in
          let here : x % length u ≡ i = ap (λ n. x % n) long ∙ k.classes.residue i l in
          elim ((found-known D u s f).entry i (omega (arith, l, long))) [
            | inl none ↦ omega (arith, none, fits i l, down, ap (λ j. get_or u j 0) here)
            | inr some ↦
                let up : get_or t (get_or u i 0 % length t) 0 ≤ get_or u i 0 = above-member t k D g.adds_none (get_or u i 0) some.0 in
                let there : get_or u i 0 % length t ≡ i = ap (λ n. get_or u i 0 % n) (sym long) ∙ some.1 in
                omega (arith, up, ap (λ j. get_or t j 0) there, down, ap (λ j. get_or u j 0) here)
          ]
    ]
