-- The presentations of two parts, spread over the places of the whole list, with one relation between the parts more.
use Rattle.std.proofs.Common.{◌≡◌, ℕ, ◌+◌, ◌*◌, ◌<◌, Bool, List, length, sym, ap, subst, ◌∙◌, inl, inr, arith}
use Rattle.std.specs.Prelude.{⊤, Contains}
use Rattle.std.specs.Int.{IsGcd}
use Rattle.sg_defs.specs.Membership.{IsFactorization}
use Rattle.sg_defs.specs.Vectors.{value_of, plus, scale}
use Rattle.sg_defs.proofs.VectorLemmas.{length-plus}
use Rattle.sg_nonunique.specs.Presentations.{Relation, IsStep, AreJoined, AreRelations, Presents}
use Rattle.sg_nonunique.proofs.AffineLemmas.{length-scale}
use Rattle.sg_nonunique.proofs.WalkLemmas.{joined-map, joined-step}
use Rattle.sg_laws_families.proofs.StepLemmas.{steps-then, steps-back}
use Rattle.sg_glue.proofs.ReachLemmas.{value-scaled}
use Rattle.sg_glue.proofs.SpreadLemmas.{taken, flipped, spread, woven, length-flipped, length-spread, length-taken, woven-taken, value-woven, woven-left, woven-right}
use Rattle.sg_glue.proofs.AcrossLemmas.{pairs-joined}

-- a relation of a part divided by d, as one of the whole
abbrev pub spread_relation : List Bool → ℕ → Relation ℕ → Relation ℕ
spread_relation bs d r = record { value = d * r.value; left = spread bs r.left; right = spread bs r.right }

pub length-woven : (bs : List Bool) (xs ys : List ℕ) → length (woven bs xs ys) ≡ length bs
length-woven bs xs ys =
    length-plus (spread bs xs) (spread (flipped bs) ys) (length-spread bs xs ∙ sym (length-spread (flipped bs) ys ∙ length-flipped bs)) ∙ length-spread bs xs

-- steps of one part are steps of the whole
module _ (bs : List Bool) (A : List ℕ) (d : ℕ) (p P : List (Relation ℕ)) (relations : AreRelations (IsFactorization A) p)
    (raised : (r : Relation ℕ) → Contains p r → Contains P (spread_relation bs d r)) where
  even : (r : Relation ℕ) → Contains p r → length r.left ≡ length r.right
  even r c = (relations r c).0.places ∙ sym (relations r c).1.places

  pub step-left : (c x y : List ℕ) → IsStep p x y → IsStep P (woven bs x c) (woven bs y c)
  step-left c x y s =
      let l : (z : List ℕ) → z ≡ plus s.relation.left s.rest → woven bs z c ≡ plus (spread bs s.relation.left) (woven bs s.rest c) =
      λ z e. ap (λ v. woven bs v c) e ∙ woven-left bs s.relation.left s.rest c (sym s.places) in
      let r : (z : List ℕ) → z ≡ plus s.relation.right s.rest → woven bs z c ≡ plus (spread bs s.relation.right) (woven bs s.rest c) =
      λ z e. ap (λ v. woven bs v c) e ∙ woven-left bs s.relation.right s.rest c (sym (s.places ∙ even s.relation s.listed)) in
      record {
        relation = spread_relation bs d s.relation;
        listed = raised s.relation s.listed;
        rest = woven bs s.rest c;
        places = length-woven bs s.rest c ∙ sym (length-spread bs s.relation.left);
        step = elim s.step [ inl h ↦ inl (l x h.0, r y h.1) | inr h ↦ inr (r x h.0, l y h.1) ];
      }

  pub joined-left : Presents (IsFactorization A) p → (n : ℕ) (x y c : List ℕ) → IsFactorization A n x → IsFactorization A n y → AreJoined P (woven bs x c) (woven bs y c)
  joined-left presents n x y c f g =
      let j = presents n x y f g in
      joined-map (λ _. ⊤) (λ _. ⊤) (IsStep p) (IsStep P) (λ v. woven bs v c) (λ _ t. t) (λ a b _ _ s. step-left c a b s) j.0 x y tt j.1

module _ (bs : List Bool) (B : List ℕ) (e : ℕ) (q P : List (Relation ℕ)) (relations : AreRelations (IsFactorization B) q)
    (raised : (r : Relation ℕ) → Contains q r → Contains P (spread_relation (flipped bs) e r)) where
  even-right : (r : Relation ℕ) → Contains q r → length r.left ≡ length r.right
  even-right r c = (relations r c).0.places ∙ sym (relations r c).1.places

  pub step-right : (c x y : List ℕ) → IsStep q x y → IsStep P (woven bs c x) (woven bs c y)
  step-right c x y s =
      let l : (z : List ℕ) → z ≡ plus s.relation.left s.rest → woven bs c z ≡ plus (spread (flipped bs) s.relation.left) (woven bs c s.rest) =
      λ z e. ap (λ v. woven bs c v) e ∙ woven-right bs c s.relation.left s.rest (sym s.places) in
      let r : (z : List ℕ) → z ≡ plus s.relation.right s.rest → woven bs c z ≡ plus (spread (flipped bs) s.relation.right) (woven bs c s.rest) =
      λ z e. ap (λ v. woven bs c v) e ∙ woven-right bs c s.relation.right s.rest (sym (s.places ∙ even-right s.relation s.listed)) in
      record {
        relation = spread_relation (flipped bs) e s.relation;
        listed = raised s.relation s.listed;
        rest = woven bs c s.rest;
        places = length-woven bs c s.rest ∙ sym (length-spread (flipped bs) s.relation.left ∙ length-flipped bs);
        step = elim s.step [ inl h ↦ inl (l x h.0, r y h.1) | inr h ↦ inr (r x h.0, l y h.1) ];
      }

  pub joined-right : Presents (IsFactorization B) q → (n : ℕ) (x y c : List ℕ) → IsFactorization B n x → IsFactorization B n y → AreJoined P (woven bs c x) (woven bs c y)
  joined-right presents n x y c f g =
      let j = presents n x y f g in
      joined-map (λ _. ⊤) (λ _. ⊤) (IsStep q) (IsStep P) (λ v. woven bs c v) (λ _ t. t) (λ a b _ _ s. step-right c a b s) j.0 x y tt j.1

-- together they present the whole
module _ (bs : List Bool) (G A B : List ℕ) (d e : ℕ) (fits : length G ≡ length bs) (first : scale d A ≡ taken bs G) (second : scale e B ≡ taken (flipped bs) G)
    (coprime : IsGcd e d 1) (some : 0 < e) (p q P : List (Relation ℕ))
    (relations_left : AreRelations (IsFactorization A) p) (presents_left : Presents (IsFactorization A) p)
    (relations_right : AreRelations (IsFactorization B) q) (presents_right : Presents (IsFactorization B) q)
    (raised_left : (r : Relation ℕ) → Contains p r → Contains P (spread_relation bs d r))
    (raised_right : (r : Relation ℕ) → Contains q r → Contains P (spread_relation (flipped bs) e r))
    (last : Relation ℕ) (listed : Contains P last) (u v : List ℕ) (fu : IsFactorization A e u) (fv : IsFactorization B d v)
    (left_last : last.left ≡ spread bs u) (right_last : last.right ≡ spread (flipped bs) v) where
  across : (x y : List ℕ) → length x ≡ length A → length y ≡ length B → AreJoined P (woven bs (plus u x) y) (woven bs x (plus v y))
  across x y l m = joined-step (λ _. ⊤) (IsStep P) (woven bs (plus u x) y) (woven bs x (plus v y)) tt tt record {
    relation = last;
    listed = listed;
    rest = woven bs x y;
    places = length-woven bs x y ∙ sym (ap length left_last ∙ length-spread bs u);
    step = inl (
      woven-left bs u x y (fu.places ∙ sym l) ∙ ap (λ z. plus z (woven bs x y)) (sym left_last),
      woven-right bs x v y (fv.places ∙ sym m) ∙ ap (λ z. plus z (woven bs x y)) (sym right_last),
    );
  }

  left_places : (x : List ℕ) → length x ≡ length G → length (taken bs x) ≡ length A
  left_places x l = length-taken bs x G l ∙ sym (ap length first) ∙ length-scale d A

  right_places : (x : List ℕ) → length x ≡ length G → length (taken (flipped bs) x) ≡ length B
  right_places x l = length-taken (flipped bs) x G l ∙ sym (ap length second) ∙ length-scale e B

  value-parts : (x : List ℕ) → length x ≡ length G → d * value_of A (taken bs x) + e * value_of B (taken (flipped bs) x) ≡ value_of G x
  value-parts x l =
      let whole = woven-taken bs x (l ∙ fits) in
      let parts = value-woven bs G (taken bs x) (taken (flipped bs) x) fits (length-taken bs x G l) (length-taken (flipped bs) x G l) in
      let left : value_of (taken bs G) (taken bs x) ≡ d * value_of A (taken bs x) = ap (λ z. value_of z (taken bs x)) (sym first) ∙ value-scaled d A (taken bs x) in
      let right : value_of (taken (flipped bs) G) (taken (flipped bs) x) ≡ e * value_of B (taken (flipped bs) x) =
      ap (λ z. value_of z (taken (flipped bs) x)) (sym second) ∙ value-scaled e B (taken (flipped bs) x) in
      let same : value_of G (woven bs (taken bs x) (taken (flipped bs) x)) ≡ value_of G x = ap (value_of G) whole in
      omega (arith, parts, left, right, same)

  pub woven-presents : Presents (IsFactorization G) P
  woven-presents n x y f g =
      let j = pairs-joined A B d e (woven bs) (AreJoined P) (steps-then P) (steps-back P)
      (λ m a b c h i l. joined-left bs A d p P relations_left raised_left presents_left m a b c h i)
      (λ m a b c h i l. joined-right bs B e q P relations_right raised_right presents_right m a b c h i)
      u v fu fv across
      (taken bs x) (taken (flipped bs) x) (taken bs y) (taken (flipped bs) y) coprime some
      (left_places x f.places) (right_places x f.places) (left_places y g.places) (right_places y g.places)
      (value-parts x f.places ∙ f.value ∙ sym g.value ∙ sym (value-parts y g.places)) in
      subst (λ z. AreJoined P z y) (woven-taken bs x (f.places ∙ fits)) (subst (AreJoined P (woven bs (taken bs x) (taken (flipped bs) x))) (woven-taken bs y (g.places ∙ fits)) j)
