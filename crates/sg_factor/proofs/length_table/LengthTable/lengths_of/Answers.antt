use Rattle.std.proofs.Common.{◌≡◌, ℕ, ◌≤◌, ◌<◌, ◌-◌, ◌*◌, ◌/◌, ◌+◌, List, [], length, get_or, sym, ap, subst, ◌∙◌, ◌↔◌, arith}
use Rattle.std.specs.Prelude.{slice_index}
use Rattle.std.specs.Int.{div_ceil}
use Rattle.sg_defs.specs.Membership.{IsFactorization}
use Rattle.sg_nonunique.specs.Factorizations.{IsLengthIn}
use Rattle.sg_classes.proofs.ListingLemmas.{ListsBelow, lists-push, lists-skip, lists-all}
use Rattle.sg_factor.specs.LengthTables.{LengthReach}
use Rattle.sg_factor.proofs.LengthLemmas.{lengths-init, read-fits, read-tells, lengths-end}
use Rattle.sg_factor.proofs.length_table.LengthTable.lengths_of.Goals as goal
use Rattle.sg_factor.proofs.length_table.LengthTable.lengths_of.Goals.{then-from-length+in_ok-push, else-from-length}

-- the generators that are seen are those that are kept
kept : (G given : List ℕ) (upto n : ℕ) (self : LengthReach) → record { generators = G; upto = upto } ≡ self → n ≤ self.upto → (self.generators ≡ G) × (n ≤ upto)
kept G given upto n self e below = (sym (ap (λ (r : LengthReach). r.generators) e), subst (λ m. n ≤ m) (sym (ap (λ (r : LengthReach). r.upto) e)) below)

pub loop-length-init : goal.loop-length-init
loop-length-init c =
    let G = c.self.inside.generators in
    let k = kept G c.as_slice-given.result.now c.self.inside.upto c.args.n c.args.self.now c.self.view_is c.requires in
    let start : c.div_ceil-length.result ≡ div_ceil c.args.n (get_or G (length G - 1) 0) = c.div_ceil-length.ensures ∙ ap (λ (l : List ℕ). div_ceil c.args.n (get_or l (length l - 1) 0)) c.as_slice-given.ensures in
    let first = lengths-init G c.self.inside.counts.items c.self.inside.upto c.args.n c.self.invariant k.1 in
    subst (λ l. ListsBelow (IsLengthIn (IsFactorization c.args.self.now.generators c.args.n)) c.div_ceil-length.result l) (sym c.new-found.ensures)
    (subst (λ s. ListsBelow (IsLengthIn (IsFactorization c.args.self.now.generators c.args.n)) s []) (sym start)
    (subst (λ H. ListsBelow (IsLengthIn (IsFactorization H c.args.n)) (div_ceil c.args.n (get_or G (length G - 1) 0)) []) (sym k.0) first))

pub bounds-counts-n : goal.bounds-counts-n
bounds-counts-n c =
    let G = c.self.inside.generators in
    let k = kept G c.as_slice-given.result.now c.self.inside.upto c.args.n c.args.self.now c.self.view_is c.requires in
    let low = subst (λ (l : List ℕ). div_ceil c.args.n (get_or l (length l - 1) 0) ≤ c.loop-length.length) c.as_slice-given.ensures (omega (arith, c.div_ceil-length.ensures, c.loop-length.auto.length)) in
    let high = subst (λ (l : List ℕ). c.loop-length.length < c.args.n / get_or l 0 0 + 1) c.as_slice-given.ensures c.loop-length-test.true in
    let fits = (read-fits G c.self.inside.counts.items c.self.inside.upto c.args.n c.self.invariant k.1 c.loop-length.length low high).1 in
    let wide = subst (λ (l : List ℕ). c.args.n - c.loop-length.length * get_or l 0 0 < length c.self.inside.counts.items) (sym c.as_slice-given.ensures) fits in
    subst (λ (cs : List ℕ). c.args.n - c.loop-length.length * get_or c.as_slice-given.result.now 0 0 < length cs) (sym c.as_slice-counts.ensures.value) wide

pub loop-length-preserved : goal.loop-length-preserved
loop-length-preserved c =
    let G = c.self.inside.generators in
    let n = c.args.n in
    let l = c.loop-length.length in
    let k = kept G c.as_slice-given.result.now c.self.inside.upto n c.args.self.now c.self.view_is c.requires in
    let P = IsLengthIn (IsFactorization c.args.self.now.generators n) in
    let low = subst (λ (g : List ℕ). div_ceil n (get_or g (length g - 1) 0) ≤ l) c.as_slice-given.ensures (omega (arith, c.div_ceil-length.ensures, c.loop-length.auto.length)) in
    let high = subst (λ (g : List ℕ). l < n / get_or g 0 0 + 1) c.as_slice-given.ensures c.loop-length-test.true in
    let fits = read-fits G c.self.inside.counts.items c.self.inside.upto n c.self.invariant k.1 l low high in
    let tells = subst (λ H. (slice_index c.self.inside.counts.items (n - l * get_or G 0 0) ≤ l) ↔ IsLengthIn (IsFactorization H n) l) (sym k.0)
    (read-tells G c.self.inside.counts.items c.self.inside.upto n c.self.invariant k.1 l fits.0 fits.1) in
    let read : c.from.result ≡ slice_index c.self.inside.counts.items (n - l * get_or G 0 0) =
    c.from.ensures ∙ ap (λ (cs : List ℕ). get_or cs (n - l * get_or c.as_slice-given.result.now 0 0) 0) c.as_slice-counts.ensures.value
    ∙ ap (λ (g : List ℕ). get_or c.self.inside.counts.items (n - l * get_or g 0 0) 0) c.as_slice-given.ensures in
    elim c.if-from-length.branch [
      | then-from-length+in_ok-push w ↦
          rw (w.found-is, w.in_ok-push.ensures.ok) (lists-push P l c.loop-length.found (tells.0 (subst (λ v. v ≤ l) read w.if-from-length.true)) c.loop-length.invariant)
      | else-from-length w ↦ rw w.found-is (lists-skip P l c.loop-length.found (λ h. omega (arith, w.if-from-length.false, read, tells.1 h)) c.loop-length.invariant)
    ]

pub returns : goal.returns
returns c =
    let G = c.self.inside.generators in
    let k = kept G c.as_slice-given.result.now c.self.inside.upto c.args.n c.args.self.now c.self.view_is c.requires in
    let far = subst (λ (l : List ℕ). c.args.n / get_or l 0 0 + 1 ≤ c.loop-length.length) c.as_slice-given.ensures c.loop-length-test.false in
    lists-all (IsLengthIn (IsFactorization c.args.self.now.generators c.args.n)) c.loop-length.length c.loop-length.found
    (λ x p. omega (arith, far, lengths-end G c.self.inside.counts.items c.self.inside.upto c.args.n c.self.invariant k.1 x (subst (λ H. IsLengthIn (IsFactorization H c.args.n) x) k.0 p)))
    c.loop-length.invariant
