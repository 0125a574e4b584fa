-- Two lists place by place, and what a list and its reverse contain.
use Rattle.std.proofs.Common.{◌≡◌, ℕ, zero, suc, ◌+◌, ◌-◌, ◌<◌, List, [], ◌∷◌, ◌++◌, length, get_or, take, sym, subst, ◌∙◌, arith}
use Rattle.std.specs.Prelude.{ℤ, reverse, Contains}
use Rattle.std.specs.List.{AllZip}
use Rattle.std.proofs.lemmas.List.{reverse-reverse, length-reverse, get_or-reverse}
use Rattle.sg_defs.specs.Membership.{Generates}
use Rattle.sg_defs.specs.Decomposition.{IsInCover}

-- the second list gives the covers of the first
abbrev pub AreCovers : List ℕ → List ℤ → List (List ℕ) → Type 0
AreCovers G ks L = AllZip (λ h M. Generates (IsInCover G h) M) ks L

-- one more place
zip-more : {A B : Type 0} (R : A → B → Type 0) (xs : List A) (ys : List B) (i : ℕ) (d : A) (y : B) → i < length xs → R (get_or xs i d) y → AllZip R (take i xs) ys → AllZip R (take (suc i) xs) (ys ++ y ∷ [])
zip-more R [] ys i d y l here h = absurd (omega arith)
zip-more R (x ∷ xs) [] zero d y l here h = (here, tt)
zip-more R (x ∷ xs) (z ∷ ys) zero d y l here h = absurd h
zip-more R (x ∷ xs) [] (suc i) d y l here h = absurd h
zip-more R (x ∷ xs) (z ∷ ys) (suc i) d y l here h = (h.0, zip-more R xs ys i d y (omega arith) here h.1)

-- one more cover
pub covers-more : (G : List ℕ) (ks : List ℤ) (L : List (List ℕ)) (i : ℕ) (d : ℤ) (M : List ℕ) → i < length ks → Generates (IsInCover G (get_or ks i d)) M → AreCovers G (take i ks) L →
    AreCovers G (take (i + 1) ks) (L ++ M ∷ [])
covers-more G ks L i d M l here h =
    subst (λ k. AreCovers G (take k ks) (L ++ M ∷ [])) (let e : suc i ≡ i + 1 = omega arith in e) (zip-more (λ h M. Generates (IsInCover G h) M) ks L i d M l here h)

-- one place
pub zip-at : {A B : Type 0} (R : A → B → Type 0) (xs : List A) (ys : List B) (i : ℕ) (d : A) (e : B) → AllZip R xs ys → i < length xs → R (get_or xs i d) (get_or ys i e)
zip-at R [] ys i d e h l = absurd (omega arith)
zip-at R (x ∷ xs) [] i d e h l = absurd h
zip-at R (x ∷ xs) (y ∷ ys) zero d e h l = h.0
zip-at R (x ∷ xs) (y ∷ ys) (suc i) d e h l = zip-at R xs ys i d e h.1 (omega arith)

-- what the reverse contains, the list contains
pub contains-reversed : {A : Type 0} (xs : List A) (x : A) → Contains (reverse xs) x → Contains xs x
contains-reversed xs x h =
    let inside : h.0 < length xs = omega (arith, h.1, length-reverse xs) in
    (length xs - 1 - h.0, omega (arith, inside), sym (get_or-reverse xs h.0 x inside) ∙ h.2)

-- and back
pub reversed-contains : {A : Type 0} (xs : List A) (x : A) → Contains xs x → Contains (reverse xs) x
reversed-contains xs x h = contains-reversed (reverse xs) x (subst (λ l. Contains l x) (sym (reverse-reverse xs)) h)
