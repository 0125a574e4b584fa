-- Where the conditions of a row are decided in turn, and a value is there where none of them holds, there is a reply.
use Rattle.std.proofs.Common.{◌≡◌, ℕ, ℤ, ◌<◌, ◌^◌, Bool, true, false, List, [], ◌∷◌, Option, Some, None, Ok, Err, inl, inr, refl}
use Rattle.std.specs.Prelude.{pos, IfSome, FitsSigned, ⊤, if◌then◌else◌, ◌==◌}
use Rattle.std.specs.Int.{w64}
use lib.Signed.{mag}
use Rattle.sg_defs.specs.Membership.{Generates}
use Rattle.sg_apery.specs.Fit.{IsFit}
use Rattle.sg_laws_invariants.specs.Decided.{Decided}
use Rattle.sg_laws_invariants.proofs.Decisions.{decided-not, decided-lt, decided-same, truth-exists}
use Rattle.sg_laws_invariants.proofs.SemigroupDecisions.{fit_list-or_none, unfit-decided}
use Rattle.sg_value.specs.Data.{int, truth, ratio, semigroup, weight_of, depth_of}
use Rattle.sg_value.specs.declared.limits.TheConstants.{NESTING_LIMIT, WEIGHT_LIMIT}
use Rattle.sg_rows.specs.Asks.{Asking}
use Rattle.sg_rows.specs.Order.{Plain, Reply, Case, unfit, fits, Checks, passed, check, FirstOf, InBits, named_checks, value_checks, Delivers, IsReply, Row}
use Rattle.sg_rows.specs.Kinds.{given, fitted}
use Rattle.sg_rows.specs.Values.{answers, an_integer, a_natural, a_quotient, an_entry, quotient, whether, generates}
use Rattle.sg_rows.specs.Lawful.{IsLawful, SomeReply}
use Rattle.sg_rows.specs.declared.fault.Fault.TheVariants.{WrongType}

-- each condition is decided once those before it do not hold, and where none holds the rest is there
abbrev pub InTurn : Checks → Type 0 → Type 0
InTurn passed rest = rest
InTurn (check c e more) rest = Decided c × (¬ c → InTurn more rest)

in_turn-map : (checks : Checks) (A B : Type 0) → (A → B) → InTurn checks A → InTurn checks B
in_turn-map passed A B f h = f h
in_turn-map (check c e more) A B f h = (h.0, λ not. in_turn-map more A B f (h.1 not))

first_some : (checks : Checks) (rest : Reply → Type 0) → InTurn checks (SomeReply rest) → SomeReply (FirstOf checks rest)
first_some passed rest h = h
first_some (check c e more) rest h = elim h.0 [
  | inl holds ↦ (Err e, inl (holds, refl), tt)
  | inr not ↦ let r = first_some more rest (h.1 not) in (r.0, inr (not, r.1), r.2)
]

bits-decided : (d : Plain) → Decided (InBits d)
bits-decided (int z) = decided-same (mag z < 2 ^ 63) (FitsSigned w64 z) (λ h. record { sfits = h }) (λ f. f.sfits) (decided-lt (mag z) (2 ^ 63))
bits-decided _ = inl tt

pub delivers_some : (d : Plain) → IsLawful d → SomeReply (Delivers d)
delivers_some d lawful = first_some (value_checks d) (λ s. s ≡ Ok d)
    (decided-not (InBits d) (bits-decided d), λ a. (decided-lt NESTING_LIMIT (depth_of d), λ b. (decided-lt WEIGHT_LIMIT (weight_of d), λ c. (Ok d, refl, lawful))))

-- there is a lawful value with P
abbrev pub HasLawful : (Plain → Type 0) → Type 0
HasLawful P = (d : Plain) × P d × IsLawful d

-- a row whose conditions are decided in turn, with a value where none of them holds
abbrev pub HasValue : Row → Type 0
HasValue row = InTurn (named_checks row) (HasLawful row.value)

-- the row of the case is such a row
abbrev pub SomeValue : Case → Type 0
SomeValue unfit = ⊤
SomeValue (fits asked row) = HasValue row

pub reply_some : (c : Case) → SomeValue c → SomeReply (IsReply c)
reply_some unfit h = (Err WrongType, refl, tt)
reply_some (fits asked it) h =
    first_some (named_checks it) (λ s. (d : Plain) × it.value d × Delivers d s)
    (in_turn-map (named_checks it) (HasLawful it.value) (SomeReply (λ s. (d : Plain) × it.value d × Delivers d s))
    (λ v. let r = delivers_some v.0 v.2 in (r.0, (v.0, v.1, r.1), r.2)) h)

pub given_some : {A : Type 0} (L : A → Type 0) (o : Option A) (f : A → Case) → IfSome o L → ((a : A) → L a → SomeValue (f a)) → SomeValue (given o f)
given_some L None f l h = tt
given_some L (Some a) f l h = h a l

pub fitted_some : {A : Type 0} (L : A → Type 0) (o : Option A) (asks : A → List Asking) (row : A → Row) → IfSome o L → ((a : A) → L a → HasValue (row a)) → SomeValue (fitted o asks row)
fitted_some L None asks row l h = tt
fitted_some L (Some a) asks row l h = h a l

no : ⊥ → ⊥
no h = h

-- a row that refuses nothing
pub answers_some : (P : Plain → Type 0) → HasLawful P → HasValue (answers P)
answers_some P h = (inr no, λ a. (inr no, λ b. (inr no, λ c. (inr no, λ d. (inr no, λ e. h)))))

-- a row that is not defined for some arguments
pub bad_some : (bad : Type 0) (P : Plain → Type 0) → Decided bad → (¬ bad → HasLawful P) → HasValue (record (answers P) { bad = bad })
bad_some bad P decided h = (inr no, λ a. (decided, λ b. (inr no, λ c. (inr no, λ d. (inr no, λ e. h b)))))

-- values by their kinds

pub integer_some : (P : ℤ → Type 0) → (z : ℤ) × P z → HasLawful (an_integer P)
integer_some P h = (int h.0, (h.0, refl, h.1), tt)

pub natural_some : (P : ℕ → Type 0) → (n : ℕ) × P n → HasLawful (a_natural P)
natural_some P h = (int (pos h.0), (h.0, refl, h.1), tt)

quotient_lawful : (integral : Bool) (p q : ℕ) → IsLawful (if integral then int (pos p) else ratio p q)
quotient_lawful true p q = tt
quotient_lawful false p q = tt

pub quotient_some : (P : ℕ → ℕ → Type 0) → (p q : ℕ) × P p q → HasLawful (a_quotient P)
quotient_some P h = (quotient h.0 h.1, (h.0, h.1, refl, h.2), quotient_lawful (h.1 == 1) h.0 h.1)

pub whether_some : (P : Type 0) → Decided P → HasLawful (whether P)
whether_some P decided = let t = truth-exists P decided in (truth t.0, (t.0, refl, t.1), tt)

pub is_some_value : (d : Plain) → IsLawful d → HasLawful (λ e. e ≡ d)
is_some_value d lawful = (d, refl, lawful)

generated_some : (P : ℕ → Type 0) → (M : List ℕ) × Generates P M → ¬ ((G : List ℕ) → Generates P G → ¬ IsFit G) → HasLawful (λ d. (G : List ℕ) × (d ≡ semigroup G) × Generates P G)
generated_some P h small = elim (fit_list-or_none P h) [
  | inl m ↦ (semigroup m.0, (m.0, refl, m.1), record { semigroup = m.1.semigroup; minimal = m.1.minimal; fit = m.2 })
  | inr never ↦ absurd (small never)
]

-- a row whose value is the numerical semigroup of the naturals with P, which exists where nothing is refused
pub generates_some : (size bad : Type 0) (P : ℕ → Type 0) → Decided size → (¬ size → Decided bad) → (¬ size → ¬ bad → (M : List ℕ) × Generates P M) →
    HasValue (record (generates P) { size = size; bad = bad })
generates_some size bad P size_decided bad_decided made =
    (size_decided, λ a. (bad_decided a, λ b. (unfit-decided P (made a b), λ c. (inr no, λ d. (inr no, λ e. generated_some P (made a b) c)))))

-- an entry of a list of integers, which has one
pub entry_some : (P : List ℤ → ℤ → Type 0) → ((z : ℤ) (zs : List ℤ) → (x : ℤ) × P (z ∷ zs) x) → (zs : List ℤ) → HasValue (an_entry (P zs) zs)
entry_some P h [] = bad_some ([] ≡ []) (an_integer (P [])) (inl refl) (λ some. absurd (some refl))
entry_some P h (z ∷ zs) = bad_some ((z ∷ zs) ≡ []) (an_integer (P (z ∷ zs))) (inr (λ e. cc)) (λ some. integer_some (P (z ∷ zs)) (h z zs))
