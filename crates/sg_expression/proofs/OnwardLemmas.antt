-- Repetitions, read one item after the other.
use Rattle.std.proofs.Common.{List, [], ◌++◌, append_assoc, refl, sym, ap, ◌∙◌, subst}
use Rattle.sg_token.specs.declared.token.Token.{Token}
use Rattle.sg_expression.specs.Reading.{Found, Nothing, Onward}

-- before the first item
pub onward-begin : {A : Type 0} (R : List Token → List A → List Token → Type 0) (Stop : List Token → Type 0) (ts : List Token) → Onward R Stop ts [] ts
onward-begin R Stop ts = record { joins = λ others vs d. d; only = λ all vs d s. (all, refl, d) }

-- items after items
pub onward-then : {A : Type 0} {R : List Token → List A → List Token → Type 0} {Stop : List Token → Type 0} {ts us vs : List Token} {xs ys : List A} → Onward R Stop ts xs us → Onward R Stop us ys vs → Onward R Stop ts (xs ++ ys) vs
onward-then {R = R} {ts = ts} {xs = xs} {ys = ys} f g = record {
  joins = λ others ws d. subst (λ all. R ts all ws) (sym (append_assoc xs ys others)) (f.joins (ys ++ others) ws (g.joins others ws d));
  only = λ all ws d s.
      let a = f.only all ws d s in
      let b = g.only a.0 ws a.2 s in
      (b.0, a.1 ∙ (ap (λ r. xs ++ r) b.1 ∙ sym (append_assoc xs ys b.0)), b.2);
}

-- the last items
pub onward-found : {A : Type 0} {R : List Token → List A → List Token → Type 0} {Stop : List Token → Type 0} {ts us vs : List Token} {xs ys : List A} → Onward R Stop ts xs us → Found R Stop us ys vs → Found R Stop ts (xs ++ ys) vs
onward-found {xs = xs} {ys = ys} f g = record {
  is = f.joins ys _ g.is;
  only = λ b ws d s.
      let a = f.only b ws d s in
      let e = g.only a.0 ws a.2 s in
      (a.1 ∙ ap (λ r. xs ++ r) e.0, e.1);
}

-- no other items, nor an end
pub onward-nothing : {A : Type 0} {R : List Token → List A → List Token → Type 0} {Stop : List Token → Type 0} {ts us : List Token} {xs : List A} → Onward R Stop ts xs us → Nothing R Stop us → Nothing R Stop ts
onward-nothing f g = record { none = λ b ws d s. let a = f.only b ws d s in g.none a.0 ws a.2 s }
