-- The greatest lengths, generator by generator from the greatest place down, and entry by entry.
use Rattle.std.proofs.Common.{◌≡◌, ◌≢◌, ℕ, ◌+◌, ◌-◌, ◌<◌, ◌≤◌, List, length, get_or, set, sum, sym, ap, subst, ◌∙◌, inl, inr, arith}
use Rattle.std.specs.Prelude.{◌⊎◌, min, max}
use Rattle.std.proofs.lemmas.Bool.{cases_lt, cases_eq}
use Rattle.std.proofs.lemmas.List.{length-set, get_or-set_same, get_or-set_other}
use Rattle.sg_defs.specs.Membership.{IsMember}
use Rattle.sg_defs.proofs.DecidedLemmas.{member-decided}
use Rattle.sg_nonunique.specs.Places.{lower, raise}
use Rattle.sg_nonunique.proofs.PlaceLemmas.{length-lower, length-raise, lower-other, raise-other, sum-lower, sum-raise, value_of-lower, value_of-raise}
use Rattle.sg_omega.specs.Lengths.{IsInAperySet, IsLowered, IsMade, IsGreatestMade, AreGreatestMade}

-- a number lies in an Apery set, or outside
pub apery-decided : (G : List ℕ) (v g : ℕ) → IsInAperySet G v g ⊎ IsLowered G v g
apery-decided G v g = elim (cases_lt v g) [
  | inl less ↦ inl (λ y e member. omega arith)
  | inr more ↦ elim (member-decided G (v - g)) [
    | inl member ↦ inr (v - g, omega arith, member)
    | inr gap ↦ inl (λ y e member. gap (subst (IsMember G) (let f : y ≡ v - g = omega arith in f) member))
  ]
]

module _ (G : List ℕ) (v k : ℕ) where
  -- without the generator at place k
  made-without : (x : ℕ) (z : List ℕ) → IsMade G v (k + 1) x z → IsMade G v k x z
  made-without x z m = record { places = m.places; value = m.value; from = λ j some. omega (arith, m.from j some); apery = m.apery }

  -- a vector that does not use it, or one that has it once less
  made-cases : (x : ℕ) (z : List ℕ) → IsMade G v k x z → IsMade G v (k + 1) x z ⊎ ((0 < get_or z k 0) × (get_or G k 0 ≤ x) × IsMade G v k (x - get_or G k 0) (lower z k))
  made-cases x z m = elim (cases_lt 0 (get_or z k 0)) [
    | inr none ↦ inl (record {
      places = m.places;
      value = m.value;
      from = λ j some. elim (cases_eq j k) [
        | inl same ↦ absurd (omega (arith, none, some, ap (λ i. get_or z i 0) same))
        | inr other ↦ let far = m.from j some in omega arith
      ];
      apery = m.apery;
    })
    | inl some ↦
        let whole = value_of-lower G z k m.places some in
        let fewer : (j : ℕ) → 0 < get_or (lower z k) j 0 → 0 < get_or z j 0 = λ j h. elim (cases_eq j k) [
          | inl same ↦ omega (arith, some, ap (λ i. get_or z i 0) same)
          | inr other ↦ omega (arith, h, lower-other z k j other)
        ] in
        inr (
          some,
          omega (arith, whole, m.value),
          record {
            places = length-lower z k ∙ m.places;
            value = omega (arith, whole, m.value);
            from = λ j h. m.from j (fewer j h);
            apery = λ j h. m.apery j (fewer j h);
          },
        )
  ]

  -- and once more, where v lies in its Apery set
  made-with : (x : ℕ) (z : List ℕ) → k < length G → IsInAperySet G v (get_or G k 0) → get_or G k 0 ≤ x → IsMade G v k (x - get_or G k 0) z → IsMade G v k x (raise z k)
  made-with x z l set fits m = record {
    places = length-raise z k ∙ m.places;
    value = omega (arith, value_of-raise G z k l m.places, m.value);
    from = λ j h. elim (cases_eq j k) [ inl same ↦ omega arith | inr other ↦ m.from j (omega (arith, h, raise-other z k j other)) ];
    apery = λ j h. elim (cases_eq j k) [
      | inl same ↦ subst (λ i. IsInAperySet G v (get_or G i 0)) (sym same) set
      | inr other ↦ m.apery j (omega (arith, h, raise-other z k j other))
    ];
  }

  -- where v lies outside, nothing changes
  pub made-outside : (t : List ℕ) → IsLowered G v (get_or G k 0) → AreGreatestMade G v (k + 1) t → AreGreatestMade G v k t
  made-outside t low h = record {
    each = λ x inside_x l. (
      (λ less. let r = (h.each x inside_x l).0 less in (r.0, made-without x r.0 r.1, r.2)),
      (λ r. (h.each x inside_x l).1 (
        r.0,
        elim (made-cases x r.0 r.1) [
          | inl without ↦ without
          | inr with ↦ absurd (r.1.apery k with.0 low.0 low.1 low.2)
        ],
        r.2,
      )),
    );
  }

  -- nor where the generator is too great
  greatest-without : (x c : ℕ) → x < get_or G k 0 → IsGreatestMade G v (k + 1) x c → IsGreatestMade G v k x c
  greatest-without x c less h l = (
    (λ below. let r = (h l).0 below in (r.0, made-without x r.0 r.1, r.2)),
    (λ r. (h l).1 (r.0, elim (made-cases x r.0 r.1) [ inl without ↦ without | inr with ↦ absurd (omega (arith, less, with.1)) ], r.2)),
  )

  -- the greater of the old number, and that of the rest with one more where there is one
  greatest-with : (x a b c : ℕ) → k < length G → IsInAperySet G v (get_or G k 0) → get_or G k 0 ≤ x → IsGreatestMade G v (k + 1) x a → IsGreatestMade G v k (x - get_or G k 0) b → c ≡ max a (b + min b 1) →
      IsGreatestMade G v k x c
  greatest-with x a b c inside_k set fits p q e l = (there, back)
    where
      there : l < c → (z : List ℕ) × IsMade G v k x z × (l ≤ sum z)
      there less = elim (cases_lt l a) [
        | inl below ↦ let r = (p l).0 below in (r.0, made-without x r.0 r.1, r.2)
        | inr above ↦
            let r = (q (l - 1)).0 (omega arith) in
            let longer = sum-raise r.0 k (omega (arith, inside_k, r.1.places)) in
            (raise r.0 k, made-with x r.0 inside_k set fits r.1, omega (arith, longer, r.2))
      ]

      back : ((z : List ℕ) × IsMade G v k x z × (l ≤ sum z)) → l < c
      back r = elim (made-cases x r.0 r.1) [
        | inl without ↦ let below = (p l).1 (r.0, without, r.2) in omega (arith, below, e)
        | inr with ↦
            let shorter = sum-lower r.0 k with.0 in
            let below = (q (l - 1)).1 (lower r.0 k, with.2, omega (arith, shorter, r.2)) in
            omega (arith, below, e)
      ]

-- ---- the steps of a program

-- entries below x know the generator at place k, the others do not
pub record AreMadeUpTo (G : List ℕ) (v k : ℕ) (t : List ℕ) (x : ℕ) : Type 0 where
  pub done : (y : ℕ) → y < x → y < length t → IsGreatestMade G v k y (get_or t y 0)
  pub waiting : (y : ℕ) → x ≤ y → y < length t → IsGreatestMade G v (k + 1) y (get_or t y 0)

-- no vector of a lesser value has it
pub made-first : (G : List ℕ) (v k : ℕ) (t : List ℕ) → AreGreatestMade G v (k + 1) t → AreMadeUpTo G v k t (get_or G k 0)
made-first G v k t h = record { done = λ y l inside_y. greatest-without G v k y (get_or t y 0) l (h.each y inside_y); waiting = λ y l inside_y. h.each y inside_y }

-- one entry more
pub made-next : (G : List ℕ) (v k : ℕ) (t : List ℕ) (x g : ℕ) → k < length G → get_or G k 0 ≡ g → IsInAperySet G v g → 0 < g → g ≤ x → x < length t → AreMadeUpTo G v k t x →
    AreMadeUpTo G v k (set t x (max (get_or t x 0) (get_or t (x - g) 0 + min (get_or t (x - g) 0) 1))) (x + 1)
made-next G v k t x g inside_k is apery positive fits inside_x h = record {
  done = λ y l inside_y. elim (cases_eq y x) [
    | inl same ↦ subst (λ i. IsGreatestMade G v k i (get_or new i 0)) (sym same) here
    | inr other ↦ subst (IsGreatestMade G v k y) (sym (kept y other)) (h.done y (omega arith) (omega (arith, long)))
  ];
  waiting = λ y l inside_y. subst (IsGreatestMade G v (k + 1) y) (sym (kept y (λ e. omega arith))) (h.waiting y (omega arith) (omega (arith, long)));
}
  where
    with : ℕ
    with = max (get_or t x 0) (get_or t (x - g) 0 + min (get_or t (x - g) 0) 1)

    new : List ℕ
    new = set t x with

    long : length new ≡ length t
    long = length-set t x with

    kept : (y : ℕ) → y ≢ x → get_or new y 0 ≡ get_or t y 0
    kept y other = get_or-set_other t x y with 0 other

    before : IsGreatestMade G v k (x - get_or G k 0) (get_or t (x - g) 0)
    before = subst (λ n. IsGreatestMade G v k (x - n) (get_or t (x - g) 0)) (sym is) (h.done (x - g) (omega arith) (omega arith))

    here : IsGreatestMade G v k x (get_or new x 0)
    here = greatest-with G v k x (get_or t x 0) (get_or t (x - g) 0) (get_or new x 0) inside_k (subst (IsInAperySet G v) (sym is) apery) (omega (arith, is)) (h.waiting x (omega arith) inside_x) before
        (get_or-set_same t x with 0 inside_x)

-- at the end all know it
pub made-last : (G : List ℕ) (v k : ℕ) (t : List ℕ) (x : ℕ) → length t ≤ x → AreMadeUpTo G v k t x → AreGreatestMade G v k t
made-last G v k t x far h = record { each = λ y inside_y. h.done y (omega arith) inside_y }

-- no entry passes its place by more than 1
pub bounded-next : (t : List ℕ) (x g : ℕ) → 0 < g → g ≤ x → x < length t → ((y : ℕ) → y < length t → get_or t y 0 ≤ y + 1) → (y : ℕ) →
    y < length (set t x (max (get_or t x 0) (get_or t (x - g) 0 + min (get_or t (x - g) 0) 1))) →
    get_or (set t x (max (get_or t x 0) (get_or t (x - g) 0 + min (get_or t (x - g) 0) 1))) y 0 ≤ y + 1
bounded-next t x g positive fits inside_x h y l =
    let with = max (get_or t x 0) (get_or t (x - g) 0 + min (get_or t (x - g) 0) 1) in
    elim (cases_eq y x) [
      | inl same ↦ omega (arith, ap (λ i. get_or (set t x with) i 0) same, get_or-set_same t x with 0 inside_x, h x inside_x, h (x - g) (omega arith))
      | inr other ↦ omega (arith, get_or-set_other t x y with 0 other, h y (omega (arith, l, length-set t x with)))
    ]
