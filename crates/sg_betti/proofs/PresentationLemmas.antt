-- The canonical relations of listed elements, one element after the other.
use Rattle.std.proofs.Common.{◌≡◌, ℕ, ◌+◌, ◌<◌, List, [], length, get_or, sym, subst, ◌∙◌, inl, inr, arith}
use Rattle.std.specs.Prelude.{◌↔◌, AllPairs, Contains}
use Rattle.std.proofs.lemmas.List.Elements.{Contains-append_cases, Contains-append_left, Contains-append_right, Contains-get_or}
use Rattle.std.proofs.lemmas.List.Kept.{AllPairs-from_increasing}
use Rattle.sg_defs.specs.Listings.{Lists}
use Rattle.sg_nonunique.specs.Classes.{HasTwoClasses}
use Rattle.sg_nonunique.specs.Presentations.{IsCanonical, IsCanonicalRelation, Relation}
use Rattle.sg_laws_finite.proofs.ElementLemmas.{contains-nil, pairs-append, pairs-nil}
use Rattle.sg_laws_families.proofs.CanonicalLemmas.{IsBefore}
use Rattle.sg_laws_families.proofs.ClassLemmas.{class-end}
use Rattle.sg_betti.specs.Raised.{AddsRelations}
use Rattle.sg_betti.proofs.SetLemmas.{IsAmongFirst, among-all, among-more, among-none}

module _ (F : ℕ → List ℕ → Type 0) (elements : List ℕ) where
  -- the canonical relations of the first i elements
  pub record ArePresented (i : ℕ) (list : List (Relation ℕ)) : Type 0 where
    pub ordered : AllPairs (IsBefore (◌<◌)) list
    pub exactly : (r : Relation ℕ) → Contains list r ↔ (IsAmongFirst elements i r.value × IsCanonicalRelation F r)

  pub presented-none : ArePresented 0 []
  presented-none = record {
    ordered = pairs-nil (IsBefore (◌<◌));
    exactly = λ r. ((λ h. absurd (contains-nil r h)), (λ h. absurd (among-none elements r.value h.0)));
  }

  -- those of the next element were put behind them
  pub presented-more : (i n : ℕ) (list now : List (Relation ℕ)) → Lists (λ m. HasTwoClasses (F m)) elements → i < length elements → n ≡ get_or elements i 0 → ArePresented i list → AddsRelations F n list now →
      ArePresented (i + 1) now
  presented-more i n list now lists inside read p a = subst (ArePresented (i + 1)) (sym a.added) (record {
    ordered = pairs-append (IsBefore (◌<◌)) list a.more p.ordered
        (λ j k d less l.
        let x = get_or a.more j d in
        let y = get_or a.more k d in
        let e = ((a.exactly x).0 (Contains-get_or a.more j d (omega arith))).0 in
        let f = ((a.exactly y).0 (Contains-get_or a.more k d l)).0 in
        inr (e ∙ sym f, a.ordered j k d less l))
        (λ r s h g.
        let b = ((p.exactly r).0 h).0 in
        let e = ((a.exactly s).0 g).0 in
        let up = AllPairs-from_increasing elements lists.ascending in
        let low : get_or elements b.0 0 < get_or elements i 0 = up b.0 i 0 b.1 inside in
        let less : r.value < s.value = omega (arith, low, b.2, e, read) in
        inl less);
    exactly = λ r. (
      (λ h. elim (Contains-append_cases list a.more r h) [
        | inl old ↦ let q = (p.exactly r).0 old in ((among-more elements i r.value).1 (inl q.0), q.1)
        | inr new ↦ let q = (a.exactly r).0 new in ((among-more elements i r.value).1 (inr (sym read ∙ sym q.0)), q.1)
      ]),
      (λ h. elim ((among-more elements i r.value).0 h.0) [
        | inl old ↦ Contains-append_left list a.more r ((p.exactly r).1 (old, h.1))
        | inr e ↦ Contains-append_right list a.more r ((a.exactly r).1 (sym e ∙ sym read, h.1))
      ]),
    );
  })

  -- of all Betti elements
  pub presented-all : (i : ℕ) (list : List (Relation ℕ)) → Lists (λ m. HasTwoClasses (F m)) elements → length elements ≡ i → ArePresented i list → IsCanonical (◌<◌) F list
  presented-all i list lists all p = record {
    ordered = p.ordered;
    canonical = λ r h. ((p.exactly r).0 h).1;
    whole = λ r h.
        let two : HasTwoClasses (F r.value) = (r.left, r.right, h.left.member, class-end (F r.value) r.right r.right h.right.member, h.apart) in
        (p.exactly r).1 ((among-all elements i r.value all).1 ((lists.exactly r.value).1 two), h);
  }
