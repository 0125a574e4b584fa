-- What is taken off the front of a text.
use Rattle.std.proofs.Common.{◌≡◌, ℕ, ◌+◌, ◌≤◌, List, ◌∷◌, Option, None, Some, drop, length, length-drop, refl, sym, ap, ◌∙◌, subst, arith, cond, Bool, true, false}
use Rattle.std.specs.Prelude.{option_map, ◌==◌}
use Rattle.std.specs.List.{prefix_len}
use Rattle.sg_cut.specs.Bytes.{is_blank, is_inline, is_word_byte}
use Rattle.sg_token.specs.FirstByte.{beginning_at}
use Rattle.sg_token.specs.Runs.{run_of, after_run, token_of_run, run_at}
use Rattle.sg_token.specs.Strings.{string_at}
use Rattle.sg_token.specs.Symbols.{spelling_of_symbol, symbol_before}
use Rattle.sg_token.specs.Tokens.{FallsInto, blank, comment, run, string, symbol, after_line}
use Rattle.sg_token.specs.Steps.{IsFirst}
use Rattle.sg_token.specs.declared.beginning.Beginning.TheVariants as begins
use Rattle.sg_token.specs.declared.symbol.Symbol.{Symbol}
use Rattle.sg_token.specs.declared.token.Token.{Token}
use Rattle.sg_token.specs.declared.token.Token.TheVariants as token
use Rattle.sg_token.proofs.SymbolLemmas.{spelling-some}
use Rattle.sg_token.proofs.FallLemmas.{falls-blank, falls-comment, falls-run, falls-string, falls-symbol, pair-of-some}

-- a function of what may be there gave this
pub some-of-map : {A B : Type 0} (f : A → B) (o : Option A) (y : B) → option_map f o ≡ Some y → (x : A) × (o ≡ Some x) × (f x ≡ y)
some-of-map f None y e = absurd (cc)
some-of-map f (Some x) y e = (x, refl, pair-of-some e)

-- where the byte is none of the four, it begins no run
chosen-run : (is_blank_byte is_comment is_word is_quote : Bool) → cond is_blank_byte begins.Blank (cond is_comment begins.Comment (cond is_word begins.Run (cond is_quote begins.Quote begins.Symbol))) ≡ begins.Run → is_word ≡ true
chosen-run true c w q e = absurd (cc)
chosen-run false true w q e = absurd (cc)
chosen-run false false true q e = refl
chosen-run false false false true e = absurd (cc)
chosen-run false false false false e = absurd (cc)

-- the byte that begins a run is in it
pub run-begins : (b : ℕ) → beginning_at b ≡ begins.Run → is_word_byte b ≡ true
unfolding beginning_at
run-begins b e = chosen-run (is_blank b) (b == 35) (is_word_byte b) (b == 34) e

-- a blank in front
pub first-blank : (b : ℕ) (text : List ℕ) → beginning_at b ≡ begins.Blank → IsFirst (b ∷ text) None text
first-blank b text is = record {
  joins = λ ts d. blank is d;
  only = λ ts d. (ts, refl, falls-blank is d);
  shorter = omega arith;
}

-- a comment in front
pub first-comment : (b : ℕ) (text : List ℕ) → beginning_at b ≡ begins.Comment → IsFirst (b ∷ text) None (after_line text)
first-comment b text is = record {
  joins = λ ts d. comment is d;
  only = λ ts d. (ts, refl, falls-comment is d);
  shorter = omega (arith, length-drop (prefix_len is_inline text) text);
}

-- a run in front that is a token
pub first-run : (b : ℕ) (text : List ℕ) (t : Token) (rest : List ℕ) → beginning_at b ≡ begins.Run → run_at b (b ∷ text) ≡ Some (t, rest) → IsFirst (b ∷ text) (Some t) rest
first-run b text t rest is made =
    let found = some-of-map (λ x. (x, after_run (b ∷ text))) (token_of_run b (run_of (b ∷ text))) (t, rest) made in
    let same : found.0 ≡ t = ap (λ p. p.0) found.2 in
    let left : after_run (b ∷ text) ≡ rest = ap (λ p. p.1) found.2 in
    let read : token_of_run b (run_of (b ∷ text)) ≡ Some t = found.1 ∙ ap Some same in
    let long : prefix_len is_word_byte (b ∷ text) ≡ 1 + prefix_len is_word_byte text = ap (λ x. cond x (1 + prefix_len is_word_byte text) 0) (run-begins b is) in
    subst (λ r. IsFirst (b ∷ text) (Some t) r) left (record {
      joins = λ ts d. run is read d;
      only = λ ts d. let f = falls-run is d in (f.1, f.3 ∙ ap (λ x. x ∷ f.1) (pair-of-some (sym f.2 ∙ read)), f.4);
      shorter = omega (arith, long, length-drop (prefix_len is_word_byte (b ∷ text)) (b ∷ text));
    })

-- a run in front that is none
pub torn-run : (b : ℕ) (text : List ℕ) → beginning_at b ≡ begins.Run → run_at b (b ∷ text) ≡ None → (ts : List Token) → FallsInto (b ∷ text) ts → ⊥
torn-run b text is none ts d =
    let f = falls-run is d in
    let made = sym (ap (option_map (λ x. (x, after_run (b ∷ text)))) f.2) ∙ none in
    cc

-- a string in front
pub first-string : (b : ℕ) (text bytes rest : List ℕ) → beginning_at b ≡ begins.Quote → string_at text ≡ Some (bytes, rest) → length rest ≤ length text → IsFirst (b ∷ text) (Some (token.Text bytes)) rest
first-string b text bytes rest is made shorter = record {
  joins = λ ts d. string is made d;
  only = λ ts d.
      let f = falls-string is d in
      let both = pair-of-some (sym f.3 ∙ made) in
      (f.2, f.4 ∙ ap (λ x. token.Text x ∷ f.2) (ap (λ p. p.0) both), subst (λ r. FallsInto r f.2) (ap (λ p. p.1) both) f.5);
  shorter = omega arith;
}

-- a string in front that does not end
pub torn-string : (b : ℕ) (text : List ℕ) → beginning_at b ≡ begins.Quote → string_at text ≡ None → (ts : List Token) → FallsInto (b ∷ text) ts → ⊥
torn-string b text is none ts d =
    let f = falls-string is d in
    let made = sym f.3 ∙ none in
    cc

-- a symbol in front
pub first-symbol : (b : ℕ) (text : List ℕ) (s : Symbol) → beginning_at b ≡ begins.Symbol → symbol_before (b ∷ text) ≡ Some s → IsFirst (b ∷ text) (Some (token.Symbol s)) (drop (length (spelling_of_symbol s)) (b ∷ text))
first-symbol b text s is made = record {
  joins = λ ts d. symbol is made d;
  only = λ ts d.
      let f = falls-symbol is d in
      let same : f.0 ≡ s = pair-of-some (sym f.2 ∙ made) in
      (f.1, f.3 ∙ ap (λ x. token.Symbol x ∷ f.1) same, subst (λ x. FallsInto (drop (length (spelling_of_symbol x)) (b ∷ text)) f.1) same f.4);
  shorter = omega (arith, spelling-some s, length-drop (length (spelling_of_symbol s)) (b ∷ text));
}

-- no symbol in front, nor anything else
pub torn-symbol : (b : ℕ) (text : List ℕ) → beginning_at b ≡ begins.Symbol → symbol_before (b ∷ text) ≡ None → (ts : List Token) → FallsInto (b ∷ text) ts → ⊥
torn-symbol b text is none ts d =
    let f = falls-symbol is d in
    let made = sym f.2 ∙ none in
    cc
