-- How plain data is stored, so that a proof tells two of them apart.
use Rattle.std.specs.Prelude.{◌≡◌, ℕ}
use Rattle.std.specs.Coded.{Coded, coded_ℕ, coded_ℤ, coded_bool, coded_list}
use mathlib.Core.Path.{ap}
use native.Mathlib.Omega.{arith}
use base.Stored.{Gv, gnil, gnum, gcons, num}
use Rattle.sg_value.specs.Data.{Kind, semigroups, ideals, Data, int, truth, text, list, ratio, fail, semigroup, ideal, Items, none, item}

abbrev head : Gv → Gv
head gnil = gnil
head (gnum n) = gnil
head (gcons a b) = a

abbrev tail : Gv → Gv
tail gnil = gnil
tail (gnum n) = gnil
tail (gcons a b) = b

-- 1 for a pair
abbrev width : Gv → ℕ
width gnil = 0
width (gnum n) = 0
width (gcons a b) = 1

module _ {H : Kind → Type 0} (c : (k : Kind) → Coded (H k)) where
  abbrev mutual
    pub code_of : Data H → Gv
    code_of (int z) = gcons (gnum 0) (coded_ℤ.code z)
    code_of (truth b) = gcons (gnum 1) (coded_bool.code b)
    code_of (text bs) = gcons (gnum 2) ((coded_list coded_ℕ).code bs)
    code_of (list ds) = gcons (gnum 3) (code_of_all ds)
    code_of (ratio p q) = gcons (gnum 4) (gcons (gnum p) (gnum q))
    code_of fail = gcons (gnum 5) gnil
    code_of (semigroup h) = gcons (gnum 6) ((c semigroups).code h)
    code_of (ideal h) = gcons (gnum 7) ((c ideals).code h)

    pub code_of_all : Items H → Gv
    code_of_all none = gnil
    code_of_all (item d ds) = gcons (code_of d) (code_of_all ds)

  mutual
    one : (x y : Data H) → code_of x ≡ code_of y → x ≡ y
    one (int z) (int w) p = ap int (coded_ℤ.inj z w (ap tail p))
    one (truth b) (truth d) p = ap truth (coded_bool.inj b d (ap tail p))
    one (text bs) (text cs) p = ap text ((coded_list coded_ℕ).inj bs cs (ap tail p))
    one (list ds) (list es) p = ap list (one_all ds es (ap tail p))
    one (ratio p q) (ratio s t) e = λ i. ratio (num (head (tail (e i)))) (num (tail (tail (e i))))
    one fail fail p = λ i. fail
    one (semigroup h) (semigroup k) p = ap semigroup ((c semigroups).inj h k (ap tail p))
    one (ideal h) (ideal k) p = ap ideal ((c ideals).inj h k (ap tail p))
    one x y p = absurd (let q : num (head (code_of x)) ≡ num (head (code_of y)) = ap (λ g. num (head g)) p in omega (arith, q))

    pub one_all : (x y : Items H) → code_of_all x ≡ code_of_all y → x ≡ y
    one_all none none p = λ i. none
    one_all (item d ds) (item e es) p = λ i. item (one d e (ap head p) i) (one_all ds es (ap tail p) i)
    one_all x y p = absurd (let q : width (code_of_all x) ≡ width (code_of_all y) = ap width p in omega (arith, q))

  -- the entries of a list, each told from each other
  abbrev pub coded_items : Coded (Items H)
  coded_items = record { code = code_of_all; inj = one_all }
