-- What a search through the graph of the places of an element keeps, and what it has found when no place waits.
use Rattle.std.proofs.Common.{◌≡◌, ◌≢◌, ℕ, ◌+◌, ◌-◌, ◌<◌, ◌≤◌, List, [], ◌∷◌, ◌++◌, length, get_or, sym, subst, inl, inr, arith}
use Rattle.std.specs.Prelude.{◌⊎◌, ◌↔◌, Contains}
use Rattle.std.proofs.lemmas.Bool.{cases_lt, cases_eq}
use Rattle.std.proofs.lemmas.List.Elements.{Contains-append_left, Contains-push, Contains-push_cases}
use Rattle.sg_defs.specs.Membership.{IsFactorization, IsMember}
use Rattle.sg_defs.proofs.DecidedLemmas.{member-decided}
use Rattle.sg_defs.proofs.ListLemmas.{contains-cases}
use Rattle.sg_defs.proofs.MembershipLemmas.{member-add, member-entry}
use Rattle.sg_nonunique.specs.Walks.{IsWalk}
use Rattle.sg_nonunique.proofs.PlaceLemmas.{inside as inside_of}
use Rattle.sg_nonunique.proofs.WalkLemmas.{joined-end, joined-here, joined-step, joined-then}
use Rattle.sg_laws_finite.proofs.ElementLemmas.{contains-nil, here}
use Rattle.sg_laws_families.specs.PlaceGraph.{AreConnected, IsEdge, IsVertex}
use Rattle.sg_laws_families.proofs.PlaceClasses.{number-edge, number-vertex}
use Rattle.sg_betti.specs.Links.{IsLink, IsParted}
use Rattle.sg_betti.proofs.SetLemmas.{set-pushed}

module _ (G : List ℕ) (n : ℕ) where
  -- places of the graph are places of the generators
  pub vertex-inside : (i : ℕ) → IsVertex (IsFactorization G n) i → i < length G
  vertex-inside i v = omega (arith, inside_of v.0 i v.2, v.1.places)

  -- what the test of a place says
  pub vertex-test : (i g : ℕ) → i < length G → g ≡ get_or G i 0 → g ≤ n → IsMember G (n - g) ↔ IsVertex (IsFactorization G n) i
  vertex-test i g l e small = (
    (λ m. (number-vertex G n i l).1 (n - g, omega (arith, e, small), m)),
    (λ v. let p = (number-vertex G n i l).0 v in subst (IsMember G) (let f : p.0 ≡ n - g = omega (arith, p.1, e) in f) p.2),
  )

  -- a greater generator can not be taken
  pub vertex-none : (i g : ℕ) → i < length G → g ≡ get_or G i 0 → n < g → IsVertex (IsFactorization G n) i → ⊥
  vertex-none i g l e great v = let p = (number-vertex G n i l).0 v in omega (arith, p.1, e, great)

  link-decided : (i j : ℕ) → IsLink G n i j ⊎ ¬ IsLink G n i j
  link-decided i j =
      let both = get_or G i 0 + get_or G j 0 in
      elim (cases_lt n both) [
        | inl less ↦ inr (λ h. omega (arith, h.1, less))
        | inr more ↦ elim (member-decided G (n - both)) [
          | inl m ↦ inl (n - both, omega (arith, more), m)
          | inr none ↦ inr (λ h. none (subst (IsMember G) (let f : h.0 ≡ n - both = omega (arith, h.1) in f) h.2))
        ]
      ]

  -- linked places are connected
  link-connected : (i j : ℕ) → i < length G → j < length G → IsLink G n i j → AreConnected (IsFactorization G n) i j
  link-connected i j li lj h = elim (cases_eq i j) [
    | inl same ↦
        let m : IsMember G (h.0 + get_or G j 0) = member-add G h.0 (get_or G j 0) h.2 (member-entry G j lj) in
        let v = (number-vertex G n i li).1 (h.0 + get_or G j 0, omega (arith, h.1), m) in
        subst (AreConnected (IsFactorization G n) i) same (joined-here (IsVertex (IsFactorization G n)) (IsEdge (IsFactorization G n)) i v)
    | inr other ↦
        let e = (number-edge G n i j li lj other).1 h in
        joined-step (IsVertex (IsFactorization G n)) (IsEdge (IsFactorization G n)) i j (e.0, e.1, e.2) (e.0, e.1, e.3) e
  ]

  -- an edge between two places links them
  edge-link : (i j : ℕ) → i ≢ j → IsEdge (IsFactorization G n) i j → IsLink G n i j
  edge-link i j other e = (number-edge G n i j (vertex-inside i (e.0, e.1, e.2)) (vertex-inside j (e.0, e.1, e.3)) other).0 e

  -- the places that were reached, those that wait, and those that are left
  pub record IsSearch (root : ℕ) (reached waiting left : List ℕ) : Type 0 where
    pub begins : Contains reached root ⊎ Contains waiting root
    pub connected : (k : ℕ) → Contains reached k ⊎ Contains waiting k → AreConnected (IsFactorization G n) root k
    pub whole : (k : ℕ) → IsVertex (IsFactorization G n) k → (Contains reached k ⊎ Contains waiting k) ⊎ Contains left k
    pub vertices : (k : ℕ) → Contains left k → IsVertex (IsFactorization G n) k
    pub apart : (k : ℕ) → Contains left k → Contains reached k ⊎ Contains waiting k → ⊥
    pub closed : (i k : ℕ) → Contains reached i → Contains left k → IsLink G n i k → ⊥

  -- the end of a path is a place of the graph
  pub connected-vertex : (i j : ℕ) → AreConnected (IsFactorization G n) i j → IsVertex (IsFactorization G n) j
  connected-vertex i j h = joined-end (IsVertex (IsFactorization G n)) (IsEdge (IsFactorization G n)) i j h

  only : (root k : ℕ) → Contains (root ∷ []) k → root ≡ k
  only root k h = elim (contains-cases root [] k h) [ inl e ↦ e | inr none ↦ absurd (contains-nil k none) ]

  -- at first the root waits
  pub search-begins : (root : ℕ) (left : List ℕ) → IsVertex (IsFactorization G n) root → ((k : ℕ) → Contains left k ↔ (IsVertex (IsFactorization G n) k × (k ≢ root))) →
      IsSearch root [] (root ∷ []) left
  search-begins root left v is = record {
    begins = inr (here root []);
    connected = λ k h. elim h [
      | inl none ↦ absurd (contains-nil k none)
      | inr waits ↦ subst (AreConnected (IsFactorization G n) root) (only root k waits) (joined-here (IsVertex (IsFactorization G n)) (IsEdge (IsFactorization G n)) root v)
    ];
    whole = λ k w. elim (cases_eq k root) [
      | inl same ↦ inl (inr (subst (Contains (root ∷ [])) (sym same) (here root [])))
      | inr other ↦ inr ((is k).1 (w, other))
    ];
    vertices = λ k h. ((is k).0 h).0;
    apart = λ k h both. elim both [
      | inl none ↦ contains-nil k none
      | inr waits ↦ ((is k).0 h).1 (sym (only root k waits))
    ];
    closed = λ i k h. absurd (contains-nil i h);
  }

  -- the places below a bound, other than the root
  abbrev pub IsOtherBelow : ℕ → ℕ → ℕ → Type 0
  IsOtherBelow root bound k = (k < bound) × (IsVertex (IsFactorization G n) k × (k ≢ root))

  -- the next one was put last
  pub others-pushed : (root place : ℕ) (l now : List ℕ) → ((k : ℕ) → Contains l k ↔ IsOtherBelow root place k) → IsVertex (IsFactorization G n) place × (place ≢ root) → now ≡ l ++ place ∷ [] →
      (k : ℕ) → Contains now k ↔ IsOtherBelow root (place + 1) k
  others-pushed root place l now is p made = set-pushed (IsOtherBelow root place) (IsOtherBelow root (place + 1)) l now place is made (λ k. (
    (λ h. elim (cases_lt k place) [
      | inl less ↦ inl (less, h.1)
      | inr more ↦ inr (let e : place ≡ k = omega (arith, h.0) in e)
    ]),
    (λ h. elim h [
      | inl before ↦ (omega (arith, before.0), before.1)
      | inr e ↦ (omega (arith, e), subst (λ j. IsVertex (IsFactorization G n) j × (j ≢ root)) e p)
    ]),
  ))

  -- the next one is none of them
  pub others-passed : (root place : ℕ) (l : List ℕ) → ((k : ℕ) → Contains l k ↔ IsOtherBelow root place k) → (IsVertex (IsFactorization G n) place × (place ≢ root) → ⊥) →
      (k : ℕ) → Contains l k ↔ IsOtherBelow root (place + 1) k
  others-passed root place l is not k = (
    (λ h. let p = (is k).0 h in (omega (arith, p.0), p.1)),
    (λ h. (is k).1 (elim (cases_lt k place) [
      | inl less ↦ (less, h.1)
      | inr more ↦ let e : k ≡ place = omega (arith, h.0) in absurd (not (subst (λ j. IsVertex (IsFactorization G n) j × (j ≢ root)) e h.1))
    ])),
  )

  -- a waiting place is reached, and what is linked with it waits
  pub search-goes_on : (root place : ℕ) (reached waiting left rest now new far : List ℕ) → IsSearch root reached waiting left →
      waiting ≡ rest ++ place ∷ [] → now ≡ reached ++ place ∷ [] →
      ((k : ℕ) → Contains new k ↔ (Contains rest k ⊎ (Contains left k × IsLink G n place k))) →
      ((k : ℕ) → Contains far k ↔ (Contains left k × ¬ IsLink G n place k)) → IsSearch root now new far
  search-goes_on root place reached waiting left rest now new far s popped pushed near away = record {
    begins = moved root s.begins;
    connected = λ k h. elim h [
      | inl one ↦ elim (Contains-push_cases reached place k (subst (λ l. Contains l k) pushed one)) [
        | inl old ↦ s.connected k (inl old)
        | inr same ↦ subst (AreConnected (IsFactorization G n) root) same at_place
      ]
      | inr one ↦ elim ((near k).0 one) [
        | inl old ↦ s.connected k (inr (subst (λ l. Contains l k) (sym popped) (Contains-append_left rest (place ∷ []) k old)))
        | inr linked ↦
            joined-then (IsVertex (IsFactorization G n)) (IsEdge (IsFactorization G n)) root place k at_place
            (link-connected place k place_in (vertex-inside k (s.vertices k linked.0)) linked.1)
      ]
    ];
    whole = λ k v. elim (s.whole k v) [
      | inl before ↦ inl (moved k before)
      | inr there ↦ elim (link-decided place k) [
        | inl linked ↦ inl (inr ((near k).1 (inr (there, linked))))
        | inr not ↦ inr ((away k).1 (there, not))
      ]
    ];
    vertices = λ k h. s.vertices k ((away k).0 h).0;
    apart = λ k h both. s.apart k ((away k).0 h).0 (elim both [
      | inl one ↦ elim (Contains-push_cases reached place k (subst (λ l. Contains l k) pushed one)) [
        | inl old ↦ inl old
        | inr same ↦ inr (subst (Contains waiting) same place_waits)
      ]
      | inr one ↦ elim ((near k).0 one) [
        | inl old ↦ inr (subst (λ l. Contains l k) (sym popped) (Contains-append_left rest (place ∷ []) k old))
        | inr linked ↦ absurd (((away k).0 h).1 linked.1)
      ]
    ]);
    closed = λ i k h there. elim (Contains-push_cases reached place i (subst (λ l. Contains l i) pushed h)) [
      | inl old ↦ s.closed i k old ((away k).0 there).0
      | inr same ↦ λ linked. ((away k).0 there).1 (subst (λ j. IsLink G n j k) (sym same) linked)
    ];
  }
    where
      place_waits : Contains waiting place
      place_waits = subst (λ l. Contains l place) (sym popped) (Contains-push rest place)

      at_place : AreConnected (IsFactorization G n) root place
      at_place = s.connected place (inr place_waits)

      place_in : place < length G
      place_in = vertex-inside place (connected-vertex root place at_place)

      moved : (k : ℕ) → Contains reached k ⊎ Contains waiting k → Contains now k ⊎ Contains new k
      moved k (inl one) = inl (subst (λ l. Contains l k) (sym pushed) (Contains-append_left reached (place ∷ []) k one))
      moved k (inr one) = elim (Contains-push_cases rest place k (subst (λ l. Contains l k) popped one)) [
        | inl old ↦ inr ((near k).1 (inl old))
        | inr same ↦ inl (subst (λ l. Contains l k) (sym pushed) (subst (Contains (reached ++ place ∷ [])) same (Contains-push reached place)))
      ]

  -- a path from a place that was reached leads to such a place
  path-inside : (root : ℕ) (reached left : List ℕ) → IsSearch root reached [] left → (ks : List ℕ) (i j : ℕ) → Contains reached i →
      IsWalk (IsVertex (IsFactorization G n)) (IsEdge (IsFactorization G n)) i ks j → Contains reached j
  path-inside root reached left s [] i j h w = subst (Contains reached) w.1 h
  path-inside root reached left s (k ∷ ks) i j h w = path-inside root reached left s ks k j next w.2
    where
      next : Contains reached k
      next = elim (s.whole k (w.1.0, w.1.1, w.1.3)) [
        | inl found ↦ elim found [ inl one ↦ one | inr none ↦ absurd (contains-nil k none) ]
        | inr there ↦ absurd (s.closed i k h there (edge-link i k (λ e. s.apart k there (inl (subst (Contains reached) e h))) w.1))
      ]

  -- no place waits
  pub search-ends : (root : ℕ) (reached waiting left : List ℕ) → waiting ≡ [] → IsSearch root reached waiting left → IsParted G n root reached left
  search-ends root reached waiting left none found = record {
    inside = λ k. ((λ h. s.connected k (inl h)), (λ j. path-inside root reached left s j.0 root k at_root j.1));
    outside = λ k. (
      (λ h. (s.vertices k h, λ j. s.apart k h (inl (path-inside root reached left s j.0 root k at_root j.1)))),
      (λ h. elim (s.whole k h.0) [
        | inr there ↦ there
        | inl one ↦ absurd (h.1 (s.connected k one))
      ]),
    );
    whole = λ k v. elim (s.whole k v) [
      | inr there ↦ inr there
      | inl found ↦ elim found [ inl one ↦ inl one | inr waits ↦ absurd (contains-nil k waits) ]
    ];
  }
    where
      s : IsSearch root reached [] left
      s = subst (λ w. IsSearch root reached w left) none found

      at_root : Contains reached root
      at_root = elim s.begins [ inl one ↦ one | inr waits ↦ absurd (contains-nil root waits) ]
