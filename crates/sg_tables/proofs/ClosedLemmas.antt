-- Kunz's conditions by the generators under which a list of classes is closed.
use Rattle.std.proofs.Common.{◌≡◌, ℕ, zero, suc, ◌+◌, ◌-◌, ◌*◌, ◌%◌, ◌<◌, ◌≤◌, ◌↔◌, List, length, get_or, sym, ap, subst, ◌∙◌, inl, inr, arith}
use Rattle.std.specs.Prelude.{Contains, IsTrue, nat_le}
use Rattle.std.proofs.lemmas.Bool.{cases_eq, leb-true, le-leb}
use Rattle.std.proofs.lemmas.Nat.{mod_below}
use Rattle.std.proofs.lemmas.List.{length-set, get_or-set_other}
use Rattle.std.proofs.Math.Nat.{mod-add-mod, mod-eq_of_lt}
use Rattle.sg_defs.specs.Membership.{IsMember, Generates}
use Rattle.sg_defs.proofs.MembershipLemmas.{member-zero, member-add, member-times}
use Rattle.sg_classes.specs.Classes.{IsAboveEntry, IsClassList, IsKunz}
use Rattle.sg_classes.specs.Table.{IsAperyTable}
use Rattle.sg_classes.proofs.ResidueLemmas.{same_residue-add, residue-sum}
use Rattle.sg_classes.proofs.AperyLemmas.{congruent-split, closed-bound}
use Rattle.sg_classes.proofs.GeneratorLemmas.{contains-place, place-contains, member-listed}
use Rattle.sg_classes.proofs.KunzLemmas.{above-add, above-entry, above-member, class-semigroup, class_generators, gen-positive, kunz-table, member-made, modulus-listed}
use Rattle.sg_tables.specs.Closed.{IsClosedUnder, AreClassGenerators}
use Rattle.sg_tables.specs.Minimal.{IsPartOf}

-- the generators' Apery list
pub class-table : (t D : List ℕ) → IsKunz t → AreClassGenerators t D → IsAperyTable D t
class-table t D k g = kunz-table t D k (class-semigroup t D k.classes g.keeps g.adds_none)
    (λ n. (member-made t D k.classes g.keeps n, above-member t k D g.adds_none n))

-- what the generators make is what is above its entry
pub class-generates : (t D M : List ℕ) → IsKunz t → AreClassGenerators t D → Generates (IsMember D) M → Generates (IsAboveEntry t) M
class-generates t D M k g h = record {
  semigroup = h.semigroup;
  minimal = h.minimal;
  same = λ n. ((λ p. (h.same n).0 (member-made t D k.classes g.keeps n p)), (λ q. above-member t k D g.adds_none n ((h.same n).1 q)));
}

-- the residue of an entry and g
entry-residue : (t : List ℕ) → IsClassList t → (i g : ℕ) → i < length t → (get_or t i 0 + g) % length t ≡ (i + g) % length t
entry-residue t c i g l = same_residue-add (get_or t i 0) i g (length t) (c.residue i l ∙ sym (mod-eq_of_lt l))

-- what meets Kunz's conditions is closed under each of its numbers
pub closed-kunz : (t : List ℕ) → IsKunz t → (g : ℕ) → IsAboveEntry t g → IsClosedUnder t g
closed-kunz t k g h i l =
    subst (λ x. get_or t x 0 ≤ get_or t i 0 + g) (entry-residue t k.classes i g l) (above-add t k (get_or t i 0) g (above-entry t k.classes i l) h)

-- a part of the generators that leaves out those that are spare
module _ (t D M : List ℕ) (c : IsClassList t) (g : AreClassGenerators t D) (p : IsPartOf t D M (length D)) where
  part-positive : (x : ℕ) → Contains M x → 0 < x
  part-positive x h =
      let q = contains-place M x h in
      omega (arith, gen-positive t c x (g.adds_none x (subst (Contains D) q.2 (p.kept q.0 q.1).0)))

  -- where it makes each generator up to b, it makes each entry up to b
  made-entry : (b : ℕ) → ((w : ℕ) → w ≤ b → Contains D w → IsMember M w) → (i : ℕ) → i < length t → get_or t i 0 ≤ b → IsMember M (get_or t i 0)
  made-entry b before i inside low = elim (cases_eq i 0) [
    | inl e ↦ subst (IsMember M) (sym (ap (λ j. get_or t j 0) e ∙ c.zero)) (member-zero M)
    | inr other ↦ before (get_or t i 0) low (g.keeps (get_or t i 0)
        (subst (Contains (class_generators t)) (get_or-set_other t 0 i (length t) 0 other) (place-contains (class_generators t) i (omega (arith, length-set t 0 (length t))))))
  ]

  -- and each number up to b that is one it makes and a multiple of the modulus
  made-above : (b : ℕ) → ((w : ℕ) → w ≤ b → Contains D w → IsMember M w) → (x v k : ℕ) → x ≡ v + k * length t → x ≤ b → IsMember M v → IsMember M x
  made-above b before x v zero e low q = subst (IsMember M) (let f : v ≡ x = omega arith in f) q
  made-above b before x v (suc k) e low q =
      subst (IsMember M) (sym e) (member-add M v (suc k * length t) q
      (member-times M (suc k) (length t) (before (length t) (omega arith) (g.keeps (length t) (modulus-listed t c.not_empty)))))

  -- it makes each generator, by induction on a bound
  part-makes : (b w : ℕ) → w ≤ b → Contains D w → IsMember M w
  part-makes zero w l h = absurd (omega (arith, gen-positive t c w (g.adds_none w h)))
  part-makes (suc b) w l h =
      let q = contains-place D w h in
      elim (p.whole q.0 q.1) [
        | inl listed ↦ subst (IsMember M) q.2 (member-listed M (get_or D q.0 0) listed)
        | inr spare ↦
            let x = get_or D q.0 0 - spare.0 in
            let i = x % length t in
            let inside : i < length t = mod_below x (length t) c.not_empty in
            let less : x < w = omega (arith, part-positive spare.0 spare.1, spare.2, q.2, gen-positive t c w (g.adds_none w h)) in
            let s = congruent-split (length t) (get_or t i 0) x c.not_empty (c.residue i inside) spare.3 in
            let entry : IsMember M (get_or t i 0) = made-entry b (λ w l h. part-makes b w l h) i inside (omega (arith, spare.3)) in
            let rest : IsMember M x = made-above b (λ w l h. part-makes b w l h) x (get_or t i 0) s.0 s.1 (omega arith) entry in
            let e : spare.0 + x ≡ w = omega (arith, q.2, spare.2) in
            subst (IsMember M) e (member-add M spare.0 x (member-listed M spare.0 spare.1) rest)
      ]

  -- so the list meets Kunz's conditions where it is closed under that part
  pub kunz-closed : ((k : ℕ) → k < length M → IsClosedUnder t (get_or M k 0)) → IsKunz t
  kunz-closed closed = record { classes = c; sums = sums }
    where
      entry : (i : ℕ) → i < length t → IsMember M (get_or t i 0)
      entry i l = made-entry (get_or t i 0) (part-makes (get_or t i 0)) i l (omega arith)

      sums : (i j : ℕ) → i < length t → j < length t → get_or t ((i + j) % length t) 0 ≤ get_or t i 0 + get_or t j 0
      sums i j l m =
          let v = get_or t i 0 in
          let w = get_or t j 0 in
          let low : get_or t ((v + w) % length t) 0 ≤ v + w = closed-bound M (length t) t c.not_empty c.zero c.residue
          (λ i k l m. subst (λ x. get_or t x 0 ≤ get_or t i 0 + get_or M k 0) (sym (entry-residue t c i (get_or M k 0) l)) (closed k m i l))
          (v + w) (member-add M v w (entry i l) (entry j m)) in
          let r : (v + w) % length t ≡ (i + j) % length t = sym (residue-sum v w (length t)) ∙ ap (λ x. (x + w % length t) % length t) (c.residue i l) ∙ ap (λ x. (i + x) % length t) (c.residue j m) in
          subst (λ x. get_or t x 0 ≤ v + w) r low

  -- and it is closed under that part where it meets them
  pub closed-part : IsKunz t → (k : ℕ) → k < length M → IsClosedUnder t (get_or M k 0)
  closed-part kunz k l = closed-kunz t kunz (get_or M k 0) (above-member t kunz D g.adds_none (get_or M k 0) (member-listed D (get_or M k 0) (p.kept k l).0))

-- the test of one sum, without the sum
pub leads-up : (t : List ℕ) (g i s : ℕ) → s ≡ get_or t ((i + g % length t) % length t) 0 - g →
    IsTrue (nat_le s (get_or t i 0)) ↔ (get_or t ((i + g) % length t) 0 ≤ get_or t i 0 + g)
leads-up t g i s e =
    let a : i + g % length t ≡ g % length t + i = omega arith in
    let b : g + i ≡ i + g = omega arith in
    let r : (i + g % length t) % length t ≡ (i + g) % length t = ap (λ x. x % length t) a ∙ mod-add-mod g (length t) i ∙ ap (λ x. x % length t) b in
    let f = ap (λ x. get_or t x 0) r in
    ((λ h. omega (arith, e, f, leb-true s (get_or t i 0) h)), (λ h. le-leb s (get_or t i 0) (omega (arith, e, f, h))))

-- the generators of a class list are above 0
pub class-positive : (t D : List ℕ) → IsClassList t → AreClassGenerators t D → (i : ℕ) → i < length D → 0 < get_or D i 0
class-positive t D c g i l = gen-positive t c (get_or D i 0) (g.adds_none (get_or D i 0) (place-contains D i l))
