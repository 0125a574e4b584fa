-- Generators that lead from entry to entry.
use Rattle.std.proofs.Common.{◌≡◌, ◌≢◌, ℕ, ◌+◌, ◌-◌, ◌%◌, ◌^◌, ◌<◌, ◌≤◌, Bool, true, false, List, length, get_or, set, sum, refl, sym, ap, subst, ◌∙◌, inl, inr, arith}
use Rattle.std.specs.Prelude.{Contains}
use Rattle.std.specs.List.Sorted.{IsStrictlyIncreasing}
use Rattle.std.proofs.lemmas.Bool.{cases_eq, cases_lt}
use Rattle.std.proofs.lemmas.List.{length-set, get_or-set_same, get_or-set_other}
use Rattle.std.proofs.lemmas.List.Kept.{AllPairs-from_increasing}
use Rattle.std.proofs.lemmas.Nat.{mod_below}
use Rattle.std.proofs.Math.Nat.{mod-eq_of_lt}
use Rattle.sg_defs.specs.Membership.{IsMember, IsNumericalSemigroup}
use Rattle.sg_defs.proofs.MembershipLemmas.{member-add, member-zero}
use Rattle.sg_classes.specs.Classes.{IsAboveEntry, IsLoweredBy}
use Rattle.sg_classes.proofs.AperyLemmas.{member-above}
use Rattle.sg_classes.proofs.GeneratorLemmas.{contains-place, entry-positive, member-listed, place-contains}
use Rattle.sg_classes.proofs.ResidueLemmas.{same_residue-add, zero-residue}
use Rattle.sg_tables.specs.Circles.{AreKnown}
use Rattle.sg_tables.specs.Found.{AreFound, AreGiven, AreSettled, IsMarkedMore, IsPassed, IsSettled, IsSumAt, IsTold, IsUnmarked}

-- where an entry of an ascending list is more than a number, those after it are
pub more_than : (G : List ℕ) (most i : ℕ) → IsStrictlyIncreasing G → i < length G → most < get_or G i 0 → (k : ℕ) → i ≤ k → k < length G → most < get_or G k 0
more_than G most i up inside more k l m = elim (cases_eq i k) [
  | inl e ↦ omega (arith, more, ap (λ j. get_or G j 0) e)
  | inr other ↦ omega (arith, more, AllPairs-from_increasing G up i k 0 (omega (arith, l, other)) m)
]

-- and where it is at most that number, those before it are
pub most_before : (G : List ℕ) (most i : ℕ) → IsStrictlyIncreasing G → i < length G → get_or G i 0 ≤ most → (k : ℕ) → k < i + 1 → get_or G k 0 ≤ most
most_before G most i up inside low k l = elim (cases_eq k i) [
  | inl e ↦ omega (arith, low, ap (λ j. get_or G j 0) e)
  | inr other ↦ omega (arith, low, AllPairs-from_increasing G up k i 0 (omega (arith, l, other)) inside)
]

-- an entry that is reached is a member of its class
pub found-member : (G t s : List ℕ) → AreFound G t s → (i : ℕ) → i < length t → get_or t i 0 < 2 ^ 64 - 1 → IsMember G (get_or t i 0) × (get_or t i 0 % length t ≡ i)
found-member G t s f i inside fits = elim (cases_eq i 0) [
  | inl e ↦
      let at : get_or t i 0 ≡ 0 = ap (λ j. get_or t j 0) e ∙ f.zero in
      (subst (IsMember G) (sym at) (member-zero G), ap (λ x. x % length t) at ∙ zero-residue (length t) f.not_empty ∙ sym e)
  | inr other ↦ elim (f.entry i (omega (arith, other)) inside) [
    | inl none ↦ absurd (omega (arith, none, fits))
    | inr (inl listed) ↦ (member-listed G (get_or t i 0) listed.listed, listed.residue)
    | inr (inr made) ↦
        let whole : get_or t i 0 - get_or s i 0 + get_or s i 0 ≡ get_or t i 0 = omega (arith, made.less) in (
          subst (IsMember G) whole (member-add G (get_or t i 0 - get_or s i 0) (get_or s i 0) made.rest (member-listed G (get_or s i 0) made.summand)),
          made.residue,
        )
  ]
]

-- so the entries are what is known
pub found-known : (G t s : List ℕ) → AreFound G t s → AreKnown G t
found-known G t s f = record {
  not_empty = f.not_empty;
  zero = f.zero;
  entry = λ i l. elim (cases_eq i 0) [
    | inl e ↦ inr (found-member G t s f i l (omega (arith, ap (λ j. get_or t j 0) e, f.zero)))
    | inr other ↦ elim (f.entry i (omega (arith, other)) l) [
      | inl none ↦ inl none
      | inr (inl listed) ↦ inr (member-listed G (get_or t i 0) listed.listed, listed.residue)
      | inr (inr made) ↦
          let whole : get_or t i 0 - get_or s i 0 + get_or s i 0 ≡ get_or t i 0 = omega (arith, made.less) in inr (
            subst (IsMember G) whole (member-add G (get_or t i 0 - get_or s i 0) (get_or s i 0) made.rest (member-listed G (get_or s i 0) made.summand)),
            made.residue,
          )
    ]
  ];
}

-- a number that is at least the entry of its class is a member
pub found-above : (G t s : List ℕ) → AreFound G t s → (x : ℕ) → x < 2 ^ 64 - 1 → IsAboveEntry t x → IsMember G x
found-above G t s f x fits above =
    let i = x % length t in
    let m = found-member G t s f i (mod_below x (length t) f.not_empty) (omega (arith, above, fits)) in
    member-above G (length t) (get_or t i 0) x f.not_empty f.modulus m.0 m.1 above

-- entry c is now the sum of the entry of another class and a generator
module _ (G t s u : List ℕ) (i c g : ℕ) (f : AreFound G t s) (after : 0 < i) (inside : i < length t) (some : 0 < g) (listed : Contains G g) (target : c ≡ (i + g) % length t)
    (fits : get_or t i 0 + g < 2 ^ 64) (long : length u ≡ length t) (at : get_or u c 0 ≡ get_or t i 0 + g) (down : get_or t i 0 + g ≤ get_or t c 0)
    (others : (k : ℕ) → k ≢ c → get_or u k 0 ≡ get_or t k 0) where
  abbrev pub v : List ℕ
  v = set s c g

  below : c < length t
  below = omega (arith, target, mod_below (i + g) (length t) f.not_empty)

  from : IsMember G (get_or t i 0) × (get_or t i 0 % length t ≡ i)
  from = found-member G t s f i inside (omega (arith, fits, some))

  positive : 0 < get_or t i 0
  positive = elim (cases_eq (get_or t i 0) 0) [
    | inl e ↦ absurd (omega (arith, after, from.1, ap (λ x. x % length t) e, zero-residue (length t) f.not_empty))
    | inr other ↦ omega (arith, other)
  ]

  here : IsSumAt G u v c
  here =
      let mark : get_or v c 0 ≡ g = get_or-set_same s c g 0 (omega (arith, f.long, below)) in
      let same : (get_or t i 0 + g) % length t ≡ (i + g) % length t = same_residue-add (get_or t i 0) i g (length t) (from.1 ∙ sym (mod-eq_of_lt inside)) in
      let rest : get_or t i 0 ≡ get_or u c 0 - get_or v c 0 = omega (arith, at, mark) in
      record {
        residue = ap (λ x. x % length u) at ∙ ap (λ n. (get_or t i 0 + g) % n) long ∙ same ∙ sym target;
        some = omega (arith, mark, some);
        summand = subst (Contains G) (sym mark) listed;
        less = omega (arith, mark, at, positive);
        rest = subst (IsMember G) rest from.0;
      }

  first : c ≢ 0
  first e = omega (arith, ap (λ j. get_or t j 0) e, f.zero, down, some)

  pub found-led : AreFound G u v
  found-led = record {
    long = length-set s c g ∙ f.long ∙ sym long;
    not_empty = omega (arith, long, f.not_empty);
    modulus = subst (IsMember G) (sym long) f.modulus;
    zero = others 0 (λ e. first (sym e)) ∙ f.zero;
    entry = λ k p l. elim (cases_eq k c) [
      | inl e ↦ inr (inr (subst (IsSumAt G u v) (sym e) here))
      | inr other ↦
          let kept : get_or u k 0 ≡ get_or t k 0 = others k other in
          let mark : get_or v k 0 ≡ get_or s k 0 = get_or-set_other s c k g 0 other in
          elim (f.entry k p (omega (arith, l, long))) [
            | inl none ↦ inl (kept ∙ none)
            | inr (inl q) ↦ inr (inl (record {
              residue = ap (λ x. x % length u) kept ∙ ap (λ n. get_or t k 0 % n) long ∙ q.residue;
              unmarked = mark ∙ q.unmarked;
              listed = subst (Contains G) (sym kept) q.listed;
            }))
            | inr (inr q) ↦ inr (inr (record {
              residue = ap (λ x. x % length u) kept ∙ ap (λ n. get_or t k 0 % n) long ∙ q.residue;
              some = omega (arith, mark, q.some);
              summand = subst (Contains G) (sym mark) q.summand;
              less = omega (arith, mark, kept, q.less);
              rest = subst (IsMember G) (let e : get_or t k 0 - get_or s k 0 ≡ get_or u k 0 - get_or v k 0 = omega (arith, mark, kept) in e) q.rest;
            }))
          ]
    ];
    listed = λ j l.
        let x = get_or G j 0 in
        let low : get_or t (x % length t) 0 ≤ x = f.listed j l in
        let e : get_or u (x % length u) 0 ≡ get_or u (x % length t) 0 = ap (λ n. get_or u (x % n) 0) long in
        elim (cases_eq (x % length t) c) [
          | inl same ↦ omega (arith, e, ap (λ k. get_or u k 0) same, at, down, ap (λ k. get_or t k 0) same, low)
          | inr other ↦ omega (arith, e, others (x % length t) other, low)
        ];
  }

-- nothing is forgotten where nothing is done, or one more is marked
pub marked-none : (s : List ℕ) → IsMarkedMore s s
marked-none s = record { long = refl; more = λ i l. l }

pub marked-one : (s : List ℕ) (c g : ℕ) → 0 < g → c < length s → IsMarkedMore s (set s c g)
marked-one s c g some inside = record {
  long = length-set s c g;
  more = λ i l. elim (cases_eq i c) [
    | inl e ↦ omega (arith, ap (λ k. get_or (set s c g) k 0) e, get_or-set_same s c g 0 inside, some)
    | inr other ↦ omega (arith, get_or-set_other s c i g 0 other, l)
  ];
}

pub marked-both : (s u v : List ℕ) → IsMarkedMore s u → IsMarkedMore u v → IsMarkedMore s v
marked-both s u v a b = record { long = b.long ∙ a.long; more = λ i l. b.more i (a.more i l) }

-- one pair is told
pub told-above : (t s : List ℕ) (g i k : ℕ) → k ≡ (i + g) % length t → get_or t k 0 < get_or t i 0 + g → IsTold t s g i
told-above t s g i k target less = inl (omega (arith, ap (λ j. get_or t j 0) target, less))

pub told-equal : (t s : List ℕ) (g i k : ℕ) → k ≡ (i + g) % length t → get_or t k 0 ≡ get_or t i 0 + g → 0 < get_or s k 0 → IsTold t s g i
told-equal t s g i k target same mark = inr (sym (ap (λ j. get_or t j 0) target) ∙ same, omega (arith, ap (λ j. get_or s j 0) target, mark))

-- what is told stays told
pub told-more : (t s u : List ℕ) (g i : ℕ) → IsMarkedMore s u → IsTold t s g i → IsTold t u g i
told-more t s u g i m h = elim h [
  | inl above ↦ inl above
  | inr equal ↦ inr (equal.0, m.more ((i + g) % length t) equal.1)
]

pub settled-more : (G t s u : List ℕ) (b i : ℕ) → IsMarkedMore s u → IsSettled G t s b i → IsSettled G t u b i
settled-more G t s u b i m h j l low = elim (h j l low) [
  | inl told ↦ inl (told-more t s u (get_or G j 0) i m told)
  | inr passed ↦ inr passed
]

-- a lesser generator than the one that leads to an entry is passed over there
pub needless-summand : (G t s : List ℕ) → AreFound G t s → (i : ℕ) → 0 < i → i < length t → 0 < get_or s i 0 → (g : ℕ) → Contains G g → 0 < g → g < get_or s i 0 → get_or t i 0 < 2 ^ 64 - 1 →
    IsPassed G (get_or t i 0) g
needless-summand G t s f i after inside mark g c some less fits = elim (f.entry i after inside) [
  | inl none ↦ absurd (omega (arith, none, fits))
  | inr (inl listed) ↦ absurd (omega (arith, listed.unmarked, mark))
  | inr (inr made) ↦
      let h = get_or s i 0 in
      let x = get_or t i 0 in
      let e : x - h + g ≡ x + g - h = omega (arith, made.less) in
      record {
        by = h;
        listed = made.summand;
        greater = less;
        less = omega (arith, made.less);
        rest = subst (IsMember G) e (member-add G (x - h) g made.rest (member-listed G g c));
      }
]

-- and so is a lesser one than the entry, where this is a generator
pub needless-entry : (G t s : List ℕ) → AreFound G t s → (i : ℕ) → 0 < i → i < length t → get_or s i 0 ≡ 0 → (g : ℕ) → Contains G g → 0 < g → g < get_or t i 0 → get_or t i 0 < 2 ^ 64 - 1 →
    IsPassed G (get_or t i 0) g
needless-entry G t s f i after inside mark g c some less fits = elim (f.entry i after inside) [
  | inl none ↦ absurd (omega (arith, none, fits))
  | inr (inr made) ↦ absurd (omega (arith, made.some, mark))
  | inr (inl listed) ↦
      let x = get_or t i 0 in
      record {
        by = x;
        listed = listed.listed;
        greater = less;
        less = omega (arith, some);
        rest = subst (IsMember G) (let e : g ≡ x + g - x = omega arith in e) (member-listed G g c);
      }
]

-- a step leads down from the entry and up from the generator
pub needless-step : (G t s : List ℕ) → AreFound G t s → (i d g : ℕ) → 0 < d → d < get_or t i 0 → get_or t i 0 < 2 ^ 64 → IsAboveEntry t (get_or t i 0 - d) → Contains G (g + d) → IsPassed G (get_or t i 0) g
needless-step G t s f i d g some below fits above up =
    let x = get_or t i 0 in
    record {
      by = g + d;
      listed = up;
      greater = omega (arith, some);
      less = omega (arith, below);
      rest = subst (IsMember G) (let e : x - d ≡ x + g - (g + d) = omega (arith, below) in e) (found-above G t s f (x - d) (omega (arith, some, below, fits)) above);
    }

-- the tops settle an entry from which a step leads down
pub settled-tops : (G tops t u s v : List ℕ) (d b i least most : ℕ) → AreGiven G d tops → AreFound G t s → u ≡ t → b < 2 ^ 64 → i < length t → most ≡ b - get_or t i 0 →
    d < get_or t i 0 → IsAboveEntry t (get_or t i 0 - d) →
    ((g : ℕ) → Contains G g → 0 < g → g < least → get_or t i 0 < 2 ^ 64 - 1 → IsPassed G (get_or t i 0) g) →
    ((k : ℕ) → k < length tops → least ≤ get_or tops k 0 → get_or tops k 0 ≤ most → IsTold u v (get_or tops k 0) i) → IsSettled G u v b i
settled-tops G tops t u s v d b i least most given f same fits inside range below above needless told j l low =
    let g = get_or G j 0 in
    let c = place-contains G j l in
    let some = entry-positive G given.semigroup g c in
    let at : get_or u i 0 ≡ get_or t i 0 = ap (λ t. get_or t i 0) same in
    elim (cases_lt g least) [
      | inl lesser ↦ inr (subst (λ x. IsPassed G x g) (sym at) (needless g c some lesser (omega (arith, at, low, fits, some))))
      | inr greater ↦ elim (given.ends.others j l) [
        | inl top ↦
            let p = contains-place tops g top in
            inl (subst (λ x. IsTold u v x i) p.2 (told p.0 p.1 (omega (arith, p.2, greater)) (omega (arith, p.2, at, low, range))))
        | inr up ↦ inr (subst (λ x. IsPassed G x g) (sym at) (needless-step G t s f i d g given.ends.some below (omega (arith, at, low, fits)) above up))
      ]
    ]

-- all generators settle any entry
pub settled-all : (G t u v : List ℕ) (b i least most : ℕ) → IsNumericalSemigroup G → u ≡ t → b < 2 ^ 64 → most ≡ b - get_or t i 0 →
    ((g : ℕ) → Contains G g → 0 < g → g < least → get_or t i 0 < 2 ^ 64 - 1 → IsPassed G (get_or t i 0) g) →
    ((k : ℕ) → k < length G → least ≤ get_or G k 0 → get_or G k 0 ≤ most → IsTold u v (get_or G k 0) i) → IsSettled G u v b i
settled-all G t u v b i least most S same fits range needless told j l low =
    let g = get_or G j 0 in
    let c = place-contains G j l in
    let some = entry-positive G S g c in
    let at : get_or u i 0 ≡ get_or t i 0 = ap (λ t. get_or t i 0) same in
    elim (cases_lt g least) [
      | inl lesser ↦ inr (subst (λ x. IsPassed G x g) (sym at) (needless g c some lesser (omega (arith, at, low, fits, some))))
      | inr greater ↦ inl (told j l greater (omega (arith, at, low, range)))
    ]

-- the same of one generator more
pub told-next : (L t u s v : List ℕ) (i low which : ℕ) → u ≡ t → IsMarkedMore s v → ((k : ℕ) → low ≤ k → k < which → IsTold t s (get_or L k 0) i) → IsTold u v (get_or L which 0) i →
    (k : ℕ) → low ≤ k → k < which + 1 → IsTold u v (get_or L k 0) i
told-next L t u s v i low which same more before here k l m = elim (cases_lt k which) [
  | inl less ↦ subst (λ t. IsTold t v (get_or L k 0) i) (sym same) (told-more t s v (get_or L k 0) i more (before k l less))
  | inr last ↦ let e : which ≡ k = omega arith in subst (λ k. IsTold u v (get_or L k 0) i) e here
]

-- all between two numbers
pub told-between : (L u v : List ℕ) (i low high least most : ℕ) → ((k : ℕ) → k < length L → 0 < get_or L k 0) → ((k : ℕ) → k < low → get_or L k 0 ≤ least - 1) →
    ((k : ℕ) → high ≤ k → k < length L → most < get_or L k 0) → ((k : ℕ) → low ≤ k → k < high → IsTold u v (get_or L k 0) i) →
    (k : ℕ) → k < length L → least ≤ get_or L k 0 → get_or L k 0 ≤ most → IsTold u v (get_or L k 0) i
told-between L u v i low high least most some before after told k inside greater lesser = elim (cases_lt k low) [
  | inl early ↦ absurd (omega (arith, before k early, some k inside, greater))
  | inr late ↦ elim (cases_lt k high) [
    | inl here ↦ told k late here
    | inr past ↦ absurd (omega (arith, after k past inside, lesser))
  ]
]

-- a table lowered once more is below the first
pub lowered-more : (x : Bool) (t u v : List ℕ) → (x ≡ true → sum u < sum t) → (x ≡ false → u ≡ t) → sum v < sum u → sum v < sum t
lowered-more true t u v lower same less = omega (arith, lower refl)
lowered-more false t u v lower same less = subst (λ t. sum v < sum t) (same refl) less

-- the same of one class more
pub classes-more : (G t u s v : List ℕ) (b class : ℕ) → u ≡ t → IsMarkedMore s v → ((i : ℕ) → 0 < i → i < class → IsSettled G t s b i) → IsSettled G u v b class →
    (i : ℕ) → 0 < i → i < class + 1 → IsSettled G u v b i
classes-more G t u s v b class same more before here i after l = elim (cases_lt i class) [
  | inl less ↦ subst (λ t. IsSettled G t v b i) (sym same) (settled-more G t s v b i more (before i after less))
  | inr last ↦ let e : class ≡ i = omega arith in subst (λ k. IsSettled G u v b k) e here
]

-- a mark that is there now was there before, or is new
unmarked-before : (t u s v : List ℕ) (g : ℕ) → u ≡ t → IsMarkedMore s v → IsUnmarked u v g → IsUnmarked t s g
unmarked-before t u s v g same more h = record {
  entry = subst (λ t. get_or t (g % length t) 0 ≡ g) same h.entry;
  unmarked = subst (λ t. get_or s (g % length t) 0 ≡ 0) same (elim (cases_eq (get_or s (g % length u) 0) 0) [
    | inl e ↦ e
    | inr other ↦ absurd (omega (arith, h.unmarked, more.more (g % length u) (omega (arith, other))))
  ]);
}

-- after a round that lowers nothing all entries are settled
pub settled-now : (G t s u v : List ℕ) (b class : ℕ) → u ≡ t → IsMarkedMore s v → ((i : ℕ) → i < length t → get_or t i 0 ≤ b + length t) →
    ((j : ℕ) → j < length G → IsUnmarked t s (get_or G j 0) → get_or G j 0 ≤ b) → length u ≤ class → ((i : ℕ) → 0 < i → i < class → IsSettled G u v b i) → AreSettled G u v
settled-now G t s u v b class same more top unmarked whole settled = record {
  bound = b;
  top = let all : (t : List ℕ) → Type 0 = λ t. (i : ℕ) → i < length t → get_or t i 0 ≤ b + length t in subst all (sym same) top;
  unmarked = λ j l h. unmarked j l (unmarked-before t u s v (get_or G j 0) same more h);
  settled = λ i after l. settled i after (omega (arith, l, whole));
}

-- the numbers that lowered entries of a table in which 0 alone was known are found
pub found-listed : (G t u s : List ℕ) → 0 < length t → IsMember G (length t) → length s ≡ length t → ((k : ℕ) → k < length s → get_or s k 0 ≡ 0) →
    ((k : ℕ) → k < length t → get_or t k 0 ≡ 2 ^ 64 - 1) → IsLoweredBy G (set t 0 0) u (length G) → AreFound G u s
found-listed G t u s some modulus marks zeros none h = record {
  long = marks ∙ sym long;
  not_empty = omega (arith, long, some);
  modulus = subst (IsMember G) (sym long) modulus;
  zero = omega (arith, get_or-set_same t 0 0 0 some, h.down 0 (omega (arith, same, some)));
  entry = λ i p l. elim (h.entries i (omega (arith, h.long, l))) [
    | inl kept ↦ inl (kept ∙ get_or-set_other t 0 i 0 0 (λ e. omega (arith, e, p)) ∙ none i (omega (arith, long, l)))
    | inr q ↦ inr (inl (record {
      residue = ap (λ x. x % length u) q.2 ∙ ap (λ m. get_or G q.0 0 % m) h.long ∙ q.3;
      unmarked = zeros i (omega (arith, marks, long, l));
      listed = subst (Contains G) (sym q.2) (place-contains G q.0 q.1);
    }))
  ];
  listed = λ j l. omega (arith, h.listed j l, ap (λ m. get_or u (get_or G j 0 % m) 0) h.long);
}
  where
    same : length (set t 0 0) ≡ length t
    same = length-set t 0 0

    long : length u ≡ length t
    long = h.long ∙ same
