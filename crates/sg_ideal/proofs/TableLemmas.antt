-- The tables of the semigroup itself and of what generators spread.
use Rattle.std.proofs.Common.{◌≡◌, ◌≢◌, ℕ, ◌+◌, ◌%◌, ◌<◌, ◌≤◌, ◌↔◌, List, length, get_or, ap, subst, ◌∙◌, inl, inr, arith}
use Rattle.std.specs.Prelude.{Contains, ℤ, pos, nat_abs, ◌+ℤ◌, ◌-ℤ◌}
use Rattle.std.proofs.lemmas.Bool.{cases_lt}
use Rattle.std.proofs.lemmas.Int.{ints}
use Rattle.sg_defs.specs.Membership.{IsMember, IsIntegerMember}
use Rattle.sg_defs.specs.Apery.{IsApery}
use Rattle.sg_defs.specs.Ideals.{IsIdealMember}
use Rattle.sg_defs.proofs.MembershipLemmas.{member-zero, member-add}
use Rattle.sg_classes.specs.declared.limits.TheConstants.{MULTIPLICITY_LIMIT, APERY_ENTRY_LIMIT}
use Rattle.sg_classes.specs.Classes.{IsAboveEntry}
use Rattle.sg_classes.proofs.TableLemmas.{table-member, table-long, table-zero}
use Rattle.sg_classes.proofs.GeneratorLemmas.{member-listed}
use Rattle.sg_classes.proofs.ResidueLemmas.{zero-residue}
use Rattle.sg_ideal.specs.Value.{GeneratesIdeal, IsLeast}
use Rattle.sg_ideal.specs.Classes.{IsFrom, IsIdealTable, IsSpread}
use Rattle.sg_lawful.specs.Lawful.{IsLawfulList}
use Rattle.sg_ideal.proofs.FromLemmas.{at-natural, natural-at}
use Rattle.sg_ideal.proofs.GenerateLemmas.{above-zero}
use Rattle.sg_ideal.proofs.FaultLemmas.{generates-same}

-- entry 0 of a set that 0 is in
pub zero-entry : (t : List ℕ) → 0 < length t → IsAboveEntry t 0 → get_or t 0 0 ≡ 0
zero-entry t positive h = let e = ap (λ r. get_or t r 0) (zero-residue (length t) positive) in omega (arith, e, h)

module _ (G t : List ℕ) (ambient : IsLawfulList G) (long : length t ≡ get_or G 0 0) (short : length t ≤ MULTIPLICITY_LIMIT) (apery : IsApery G (get_or G 0 0) t)
    (small : (i : ℕ) → i < length t → get_or t i 0 ≤ APERY_ENTRY_LIMIT) where
  told : (x : ℕ) → IsMember G x ↔ IsAboveEntry t x
  told = table-member G t ambient.semigroup long apery

  pub semigroup-table : IsIdealTable G t
  semigroup-table = record {
    ambient = ambient;
    classes = record {
      not_empty = table-long G t ambient.semigroup long;
      short = short;
      residue = λ i l. ap (λ n. get_or t i 0 % n) long ∙ apery.residue i (omega (arith, long));
      small = small;
    };
    multiplicity = long;
    zero = table-zero G t ambient.semigroup long apery;
    closed = λ n g listed a. (told (n + g)).0 (member-add G n g ((told n).1 a) (member-listed G g listed));
  }

  -- a number from g on is g and a member
  pub semigroup-from : (g x : ℤ) → IsFrom g t x ↔ IsIntegerMember G (x -ℤ g)
  semigroup-from g x = (
    (λ h. let n = at-natural (IsAboveEntry t) (x -ℤ g) h in natural-at (IsMember G) (x -ℤ g) n.0 n.1 ((told n.0).1 n.2)),
    (λ h. let n = at-natural (IsMember G) (x -ℤ g) h in natural-at (IsAboveEntry t) (x -ℤ g) n.0 n.1 ((told n.0).0 n.2)),
  )

module _ (G t : List ℕ) (base : ℤ) (I : List ℤ) (list : List ℕ) (h : IsIdealTable G t) (least : IsLeast I base) (s : IsSpread t base I list) where
  above : IsAboveEntry list 0
  above =
      let e : (base +ℤ pos 0) -ℤ base ≡ pos 0 = omega (arith, ints) in
      (s.same 0).1 (base, least.listed, natural-at (IsAboveEntry t) ((base +ℤ pos 0) -ℤ base) 0 e (above-zero G t h))

  closed : (n g : ℕ) → Contains G g → IsAboveEntry list n → IsAboveEntry list (n + g)
  closed n g listed a =
      let p = (s.same n).0 a in
      let k = at-natural (IsAboveEntry t) ((base +ℤ pos n) -ℤ p.0) p.2 in
      let f = k.1 in
      let e : (base +ℤ pos (n + g)) -ℤ p.0 ≡ pos (k.0 + g) = omega (arith, ints, f) in
      (s.same (n + g)).1 (p.0, p.1, natural-at (IsAboveEntry t) ((base +ℤ pos (n + g)) -ℤ p.0) (k.0 + g) e (h.closed k.0 g listed k.2))

  -- what was spread is the table of an ideal
  pub spread-table : IsIdealTable G list
  spread-table = record {
    ambient = h.ambient;
    classes = s.classes;
    multiplicity = s.long ∙ h.multiplicity;
    zero = zero-entry list s.classes.not_empty above;
    closed = closed;
  }

  -- a number from the base on is a number from a generator on
  pub spread-from : (x : ℤ) → IsFrom base list x ↔ ((g : ℤ) × Contains I g × IsFrom g t x)
  spread-from x = (
    (λ m.
        let n = at-natural (IsAboveEntry list) (x -ℤ base) m in
        let f = n.1 in
        let e : base +ℤ pos n.0 ≡ x = omega (arith, ints, f) in
        let p = (s.same n.0).0 n.2 in
        (p.0, p.1, subst (IsFrom p.0 t) e p.2)),
    (λ p.
        let k = at-natural (IsAboveEntry t) (x -ℤ p.0) p.2 in
        let f = k.1 in
        let l = least.below p.0 p.1 in
        let n : ℕ = nat_abs (x -ℤ base) in
        let e : x -ℤ base ≡ pos n = omega (arith, ints, f, l) in
        let g : x ≡ base +ℤ pos n = omega (arith, ints, e) in
        natural-at (IsAboveEntry list) (x -ℤ base) n e ((s.same n).1 (p.0, p.1, subst (IsFrom p.0 t) g p.2))),
  )

-- each minimal generator of what is generated is one of the given
pub minimal-given : (G : List ℕ) (given I : List ℤ) → GeneratesIdeal G (IsIdealMember G given) I → (x : ℤ) → Contains I x → Contains given x
minimal-given G given I g x listed =
    let zero : x -ℤ x ≡ pos 0 = omega (arith, ints) in
    let p = (g.same x).1 (x, listed, natural-at (IsMember G) (x -ℤ x) 0 zero (member-zero G)) in
    let s = at-natural (IsMember G) (x -ℤ p.0) p.2 in
    let zero' : p.0 -ℤ p.0 ≡ pos 0 = omega (arith, ints) in
    let q = (g.same p.0).0 (p.0, p.1, natural-at (IsMember G) (p.0 -ℤ p.0) 0 zero' (member-zero G)) in
    let r = at-natural (IsMember G) (p.0 -ℤ q.0) q.2 in
    let e = s.1 in
    let f = r.1 in
    let sum : x -ℤ q.0 ≡ pos (r.0 + s.0) = omega (arith, ints, e, f) in
    elim (cases_lt 0 s.0) [
      | inl more ↦
          let other : x ≢ q.0 = λ same. omega (arith, ints, sum, same, more) in
          absurd (g.minimal.needed x q.0 listed q.1 other (natural-at (IsMember G) (x -ℤ q.0) (r.0 + s.0) sum (member-add G r.0 s.0 r.2 s.2)))
      | inr none ↦
          let same : p.0 ≡ x = omega (arith, ints, e, none) in
          subst (Contains given) same p.1
    ]

-- what integers generate lies from the least of them on
module _ (G t : List ℕ) (base : ℤ) (I : List ℤ) (list : List ℕ) (ambient : IsLawfulList G) (long : length t ≡ get_or G 0 0) (short : length t ≤ MULTIPLICITY_LIMIT) (apery : IsApery G (get_or G 0 0) t)
    (small : (i : ℕ) → i < length t → get_or t i 0 ≤ APERY_ENTRY_LIMIT) (least : IsLeast I base) (s : IsSpread t base I list) where
  -- so for the Apery list of the semigroup
  pub given-table : IsIdealTable G list
  given-table = spread-table G t base I list (semigroup-table G t ambient long short apery small) least s

  -- it tells what the given integers generate
  pub given-same : (x : ℤ) → IsIdealMember G I x ↔ IsFrom base list x
  given-same x =
      let both = spread-from G t base I list (semigroup-table G t ambient long short apery small) least s x in (
        (λ m. both.1 (m.0, m.1, (semigroup-from G t ambient long short apery small m.0 x).1 m.2)),
        (λ f. let m = both.0 f in (m.0, m.1, (semigroup-from G t ambient long short apery small m.0 x).0 m.2)),
      )

  -- each minimal generator is a given integer
  pub given-listed : (J : List ℤ) → GeneratesIdeal G (IsFrom base list) J → (x : ℤ) → Contains J x → Contains I x
  given-listed J g = minimal-given G I J (generates-same G (IsFrom base list) (IsIdealMember G I) given-same J g)
