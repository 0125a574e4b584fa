-- Steps by relations, turned round and raised at a place.
use Rattle.std.proofs.Common.{◌≡◌, ℕ, List, length, replicate, sym, ap, ◌∙◌, inl, inr}
use Rattle.std.specs.Prelude.{⊤, Contains}
use Rattle.std.proofs.lemmas.List.{length-replicate}
use Rattle.sg_nonunique.specs.Places.{raise}
use Rattle.sg_defs.specs.Vectors.{plus}
use Rattle.sg_nonunique.specs.Presentations.{Relation, IsStep, AreJoined}
use Rattle.sg_nonunique.proofs.PlaceLemmas.{length-raise, plus-raise}
use Rattle.sg_nonunique.proofs.SumLemmas.{plus-zeros}
use Rattle.sg_nonunique.proofs.WalkLemmas.{joined-here, joined-step, joined-then, joined-back, joined-map}

module _ {I : Type 0} (P : List (Relation I)) where
  step-back : (x y : List ℕ) → IsStep P x y → IsStep P y x
  step-back x y s = record {
    relation = s.relation;
    listed = s.listed;
    rest = s.rest;
    places = s.places;
    step = elim s.step [ inl h ↦ inr (h.1, h.0) | inr h ↦ inl (h.1, h.0) ];
  }

  step-raise : (x y : List ℕ) (i : ℕ) → IsStep P x y → IsStep P (raise x i) (raise y i)
  step-raise x y i s = record {
    relation = s.relation;
    listed = s.listed;
    rest = raise s.rest i;
    places = length-raise s.rest i ∙ s.places;
    step = elim s.step [
      | inl h ↦ inl (ap (λ v. raise v i) h.0 ∙ sym (plus-raise s.relation.left s.rest i), ap (λ v. raise v i) h.1 ∙ sym (plus-raise s.relation.right s.rest i))
      | inr h ↦ inr (ap (λ v. raise v i) h.0 ∙ sym (plus-raise s.relation.right s.rest i), ap (λ v. raise v i) h.1 ∙ sym (plus-raise s.relation.left s.rest i))
    ];
  }

  -- a relation is a step by itself
  relation-step : (r : Relation I) → Contains P r → length r.left ≡ length r.right → IsStep P r.left r.right
  relation-step r c e = record {
    relation = r;
    listed = c;
    rest = replicate (length r.left) 0;
    places = length-replicate (length r.left) 0;
    step = inl (sym (plus-zeros r.left), sym (plus-zeros r.right) ∙ ap (λ n. plus r.right (replicate n 0)) (sym e));
  }

  pub joined-raise : (x y : List ℕ) (i : ℕ) → AreJoined P x y → AreJoined P (raise x i) (raise y i)
  joined-raise x y i j = joined-map (λ _. ⊤) (λ _. ⊤) (IsStep P) (IsStep P) (λ v. raise v i) (λ _ v. v) (λ a b _ _ s. step-raise a b i s) j.0 x y tt j.1

  pub relation-joined : (r : Relation I) → Contains P r → length r.left ≡ length r.right → AreJoined P r.left r.right
  relation-joined r c e = joined-step (λ _. ⊤) (IsStep P) r.left r.right tt tt (relation-step r c e)

  pub steps-here : (x : List ℕ) → AreJoined P x x
  steps-here x = joined-here (λ _. ⊤) (IsStep P) x tt

  pub steps-then : (x y z : List ℕ) → AreJoined P x y → AreJoined P y z → AreJoined P x z
  steps-then x y z i j = joined-then (λ _. ⊤) (IsStep P) x y z i j

  pub steps-back : (x y : List ℕ) → AreJoined P x y → AreJoined P y x
  steps-back x y j = joined-back (λ _. ⊤) (IsStep P) step-back j.0 x y tt j.1
