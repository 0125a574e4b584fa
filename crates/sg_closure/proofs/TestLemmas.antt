-- A semigroup is of a kind exactly where it is its own closure.
use Rattle.std.proofs.Common.{◌≡◌, ℕ, ◌↔◌, Bool, List, sym, subst, ◌∙◌}
use Rattle.std.specs.Prelude.{IsTrue}
use Rattle.std.specs.Str.{bytes_eq}
use Rattle.std.proofs.lemmas.Slice.Eq.{bytes_eq-Decides}
use Rattle.sg_defs.specs.Membership.{IsMember, IsNumericalSemigroup, IsMinimal}
use Rattle.sg_defs.specs.Closures.{IsLeast}
use Rattle.sg_classes.proofs.OneListLemmas.{one-minimal_list}

module _ (P : List ℕ → Type 0) (G H : List ℕ) (s : IsNumericalSemigroup G) (minimal : IsMinimal G) (minimal_closure : IsMinimal H) (closure : IsLeast P G H) where
  own-closure : (H ≡ G) ↔ P G
  own-closure = (
    (λ e. subst P e closure.has),
    (λ p. one-minimal_list (IsMember G) H G
        (record { semigroup = closure.semigroup; minimal = minimal_closure; same = λ n. ((λ q. closure.holds n q), (λ q. closure.least G s p (λ k r. r) n q)) })
        (record { semigroup = s; minimal = minimal; same = λ n. ((λ q. q), (λ q. q)) })),
  )

  -- the same of a test of two lists
  pub own-closure-tested : (xs ys : List ℕ) (r : Bool) → xs ≡ H → ys ≡ G → r ≡ bytes_eq xs ys → IsTrue r ↔ P G
  own-closure-tested xs ys r e f told =
      let d = bytes_eq-Decides xs ys in (
        (λ t. own-closure.0 (sym e ∙ d.0 (sym told ∙ t) ∙ f)),
        (λ p. told ∙ d.1 (e ∙ own-closure.1 p ∙ sym f)),
      )
