-- What a text falls into, by what its first byte begins.
use Rattle.std.proofs.Common.{◌≡◌, ℕ, List, [], ◌∷◌, Some, drop, length, refl, sym, ap, ◌∙◌, subst}
use Rattle.sg_token.specs.FirstByte.{beginning_at}
use Rattle.sg_token.specs.Runs.{run_of, after_run, token_of_run}
use Rattle.sg_token.specs.Strings.{string_at}
use Rattle.sg_token.specs.Symbols.{spelling_of_symbol, symbol_before}
use Rattle.sg_token.specs.Tokens.{FallsInto, at_end, blank, comment, run, string, symbol, after_line}
use Rattle.sg_token.specs.declared.beginning.Beginning.TheVariants as begins
use Rattle.sg_token.specs.declared.symbol.Symbol.{Symbol}
use Rattle.sg_token.specs.declared.token.Token.{Token}
use Rattle.sg_token.specs.declared.token.Token.TheVariants as token

-- what is there is the same
pub pair-of-some : {A : Type 0} {x y : A} → Some x ≡ Some y → x ≡ y
pair-of-some e = cc

-- no bytes, no tokens
pub falls-end : {ts : List Token} → FallsInto [] ts → ts ≡ []
falls-end at_end = refl

-- behind a blank
pub falls-blank : {b : ℕ} {text : List ℕ} {ts : List Token} → beginning_at b ≡ begins.Blank → FallsInto (b ∷ text) ts → FallsInto text ts
falls-blank is (blank k d) = d
falls-blank is (comment k d) = absurd (cc)
falls-blank is (run k t d) = absurd (cc)
falls-blank is (string k t d) = absurd (cc)
falls-blank is (symbol k t d) = absurd (cc)

-- behind a comment
pub falls-comment : {b : ℕ} {text : List ℕ} {ts : List Token} → beginning_at b ≡ begins.Comment → FallsInto (b ∷ text) ts → FallsInto (after_line text) ts
falls-comment is (blank k d) = absurd (cc)
falls-comment is (comment k d) = d
falls-comment is (run k t d) = absurd (cc)
falls-comment is (string k t d) = absurd (cc)
falls-comment is (symbol k t d) = absurd (cc)

-- from a run on
pub falls-run : {b : ℕ} {text : List ℕ} {ts : List Token} → beginning_at b ≡ begins.Run → FallsInto (b ∷ text) ts → (t : Token) × (us : List Token) × (token_of_run b (run_of (b ∷ text)) ≡ Some t) × (ts ≡ t ∷ us) × FallsInto (after_run (b ∷ text)) us
falls-run is (blank k d) = absurd (cc)
falls-run is (comment k d) = absurd (cc)
falls-run is (run {token = t} {tokens = us} k made d) = (t, us, made, refl, d)
falls-run is (string k t d) = absurd (cc)
falls-run is (symbol k t d) = absurd (cc)

-- from a string on
pub falls-string : {b : ℕ} {text : List ℕ} {ts : List Token} → beginning_at b ≡ begins.Quote → FallsInto (b ∷ text) ts → (bytes rest : List ℕ) × (us : List Token) × (string_at text ≡ Some (bytes, rest)) × (ts ≡ token.Text bytes ∷ us) × FallsInto rest us
falls-string is (blank k d) = absurd (cc)
falls-string is (comment k d) = absurd (cc)
falls-string is (run k t d) = absurd (cc)
falls-string is (string {bytes = bytes} {rest = rest} {tokens = us} k made d) = (bytes, rest, us, made, refl, d)
falls-string is (symbol k t d) = absurd (cc)

-- from a symbol on
pub falls-symbol : {b : ℕ} {text : List ℕ} {ts : List Token} → beginning_at b ≡ begins.Symbol → FallsInto (b ∷ text) ts → (s : Symbol) × (us : List Token) × (symbol_before (b ∷ text) ≡ Some s) × (ts ≡ token.Symbol s ∷ us) × FallsInto (drop (length (spelling_of_symbol s)) (b ∷ text)) us
falls-symbol is (blank k d) = absurd (cc)
falls-symbol is (comment k d) = absurd (cc)
falls-symbol is (run k t d) = absurd (cc)
falls-symbol is (string k t d) = absurd (cc)
falls-symbol is (symbol {s = s} {tokens = us} k made d) = (s, us, made, refl, d)

-- a text has one list of tokens at most
pub one-list : {text : List ℕ} {ts us : List Token} → FallsInto text ts → FallsInto text us → ts ≡ us
one-list at_end e = sym (falls-end e)
one-list (blank k d) e = one-list d (falls-blank k e)
one-list (comment k d) e = one-list d (falls-comment k e)
one-list (run {b = b} {text = text} {token = t} {tokens = ts} k made d) e =
    let f = falls-run k e in
    let same : t ≡ f.0 = cc (made, f.2) in
    ap (λ x. x ∷ ts) same ∙ (ap (λ x. f.0 ∷ x) (one-list d f.4) ∙ sym f.3)
one-list (string {text = text} {bytes = bytes} {rest = rest} {tokens = ts} k made d) e =
    let f = falls-string k e in
    let both = pair-of-some (sym made ∙ f.3) in
    let same : bytes ≡ f.0 = ap (λ p. p.0) both in
    let left : rest ≡ f.1 = ap (λ p. p.1) both in
    ap (λ x. token.Text x ∷ ts) same ∙ (ap (λ x. token.Text f.0 ∷ x) (one-list d (subst (λ r. FallsInto r f.2) (sym left) f.5)) ∙ sym f.4)
one-list (symbol {b = b} {text = text} {s = s} {tokens = ts} k made d) e =
    let f = falls-symbol k e in
    let same : s ≡ f.0 = cc (made, f.2) in
    ap (λ x. token.Symbol x ∷ ts) same ∙ (ap (λ x. token.Symbol f.0 ∷ x) (one-list d (subst (λ x. FallsInto (drop (length (spelling_of_symbol x)) (b ∷ text)) f.1) (sym same) f.4)) ∙ sym f.3)
