-- A command with an arrow, entry by entry.
use Rattle.std.proofs.Common.{◌≡◌, ◌⊎◌, ℤ, inl, inr, IsErrAnd, suc, List, [], ◌∷◌, ◌++◌, length, Bool, true, false, not, Result, Ok, Err, OnOk, pos, refl, ap, sym, ◌∙◌, subst}
use Rattle.sg_value.specs.Known.{named}
use Rattle.std.proofs.Math.Path.{fun_ext}
use Rattle.std.specs.Prelude.{if◌then◌else◌}
use Rattle.sg_value.specs.Data.{Data, int, truth, text, list, ratio, fail, semigroup, ideal, Items, none, item, data_map, items_map, EachThing, EachThingOfAll, Kind, join}
use Rattle.sg_value.specs.Plain.{Named, AllKnown, AllKnownIn, IsKnown, contents, contents_of_all, plain, plain_of_all, thing_at, Things, Places, Stored}
use Rattle.sg_value.specs.declared.value.Value.{Value}
use Rattle.sg_rows.specs.Order.{Plain}
use Rattle.sg_rows.specs.Entries.{entry_count}
use Rattle.sg_calls.specs.declared.command.Folding.{Folding}
use Rattle.sg_calls.specs.declared.command.Folding.TheVariants.{EachValue, ThoseTrue, AllTrue, AnyTrue, CountTrue}
use Rattle.sg_meaning.specs.Expressions.{folded, values_over, true_over, is_each, decided, ask}
use Rattle.sg_eval.specs.Folded.{is_true, goes_on, gathered_at, finished, fold_on}
use Rattle.sg_meaning.specs.Process.{Process, gives, ◌>>=◌}
use Rattle.sg_meaning.specs.Queries.{lists}
use Rattle.sg_value.specs.declared.value.Value.TheVariants as value
use Rattle.sg_rows.specs.declared.fault.CallFault.{CallFault}
use Rattle.sg_rows.proofs.Replying.{contents-Int}
use Rattle.sg_eval.specs.Outcomes.{Evaluates}
use Rattle.sg_eval.specs.State.{State}
use Rattle.sg_eval.specs.Truths.{itself, no_semigroup}
use Rattle.sg_eval.proofs.Evaluating.{evaluates_as, evaluates_gives}
use Rattle.sg_eval.proofs.Later.{entry_count-plain}
use Rattle.sg_meaning.proofs.Sequels.{assoc}
use Rattle.sg_eval.proofs.Deciding.{decided_exit, decided_then}
use Rattle.sg_value.proofs.Joins.{contents_of_all-append, join-none, join-one}

-- what follows where a call went well
pub on_ok_then : {E : Type 0} (r : Result (Unit {0}) E) (P Q : Type 0) → (P → Q) → OnOk r P → OnOk r Q
on_ok_then (Ok u) P Q f h = f h
on_ok_then (Err e) P Q f h = tt

pub contents-put : (vs ws : List Value) (v : Value) → ws ≡ vs ++ v ∷ [] → contents_of_all ws ≡ join (contents_of_all vs) (item (contents v) none)
contents-put vs ws v is = ap contents_of_all is ∙ contents_of_all-append vs (v ∷ [])

-- one value is gathered
pub gathered_one : (fold : Folding) (vs ws : List Value) (u d v : Stored) (w : Value) → ws ≡ vs ++ w ∷ [] → contents w ≡ u → gathered_at fold d v ≡ item u none
    → contents_of_all ws ≡ join (contents_of_all vs) (gathered_at fold d v)
gathered_one fold vs ws u d v w is seen at = contents-put vs ws w is ∙ (ap (λ x. join (contents_of_all vs) (item x none)) seen ∙ ap (join (contents_of_all vs)) (sym at))

-- nothing is gathered
pub gathered_none : (fold : Folding) (ds : Items Places) (d v : Stored) → gathered_at fold d v ≡ none → ds ≡ join ds (gathered_at fold d v)
gathered_none fold ds d v at = sym (ap (join ds) at ∙ join-none ds)

pub join-map : {H K : Kind → Type 0} (f : (k : Kind) → H k → K k) (ds es : Items H) → items_map f (join ds es) ≡ join (items_map f ds) (items_map f es)
join-map f none es = refl
join-map f (item d ds) es = ap (item (data_map f d)) (join-map f ds es)

pub is_true-map : {H K : Kind → Type 0} (f : (k : Kind) → H k → K k) (d : Data H) → is_true (data_map f d) ≡ is_true d
is_true-map f (int z) = refl
is_true-map f (truth b) = refl
is_true-map f (text bs) = refl
is_true-map f (list ds) = refl
is_true-map f (ratio p q) = refl
is_true-map f fail = refl
is_true-map f (semigroup h) = refl
is_true-map f (ideal h) = refl

if-map : {H K : Kind → Type 0} (f : (k : Kind) → H k → K k) (b c : Bool) (d : Data H) → c ≡ b → items_map f (if b then item d none else none) ≡ (if c then item (data_map f d) none else none)
if-map f true c d same = rw same refl
if-map f false c d same = rw same refl

pub gathered_at-map : {H K : Kind → Type 0} (f : (k : Kind) → H k → K k) (fold : Folding) (d v : Data H) → items_map f (gathered_at fold d v) ≡ gathered_at fold (data_map f d) (data_map f v)
gathered_at-map f EachValue d v = refl
gathered_at-map f ThoseTrue d v = if-map f (is_true v) (is_true (data_map f v)) d (is_true-map f v)
gathered_at-map f AllTrue d v = refl
gathered_at-map f AnyTrue d v = refl
gathered_at-map f CountTrue d v = if-map f (is_true v) (is_true (data_map f v)) v (is_true-map f v)

-- what was gathered, as plain data
pub gathered_plain : (names : Named) (fold : Folding) (vs ws : List Value) (e v : Value) → contents_of_all ws ≡ join (contents_of_all vs) (gathered_at fold (contents e) (contents v))
    → plain_of_all names ws ≡ join (plain_of_all names vs) (gathered_at fold (plain names e) (plain names v))
gathered_plain names fold vs ws e v is =
    let f = thing_at names in
    ap (items_map f) is ∙ (join-map f (contents_of_all vs) (gathered_at fold (contents e) (contents v)) ∙ ap (join (plain_of_all names vs)) (gathered_at-map f fold (contents e) (contents v)))

join-known : {H : Kind → Type 0} (P : (k : Kind) → H k → Type 0) (ds es : Items H) → EachThingOfAll P ds → EachThingOfAll P es → EachThingOfAll P (join ds es)
join-known P none es h k = k
join-known P (item d ds) es h k = (h.0, join-known P ds es h.1 k)

if-known : {H : Kind → Type 0} (P : (k : Kind) → H k → Type 0) (b : Bool) (d : Data H) → EachThing P d → EachThingOfAll P (if b then item d none else none)
if-known P true d h = (h, tt)
if-known P false d h = tt

at-known : {H : Kind → Type 0} (P : (k : Kind) → H k → Type 0) (fold : Folding) (d v : Data H) → EachThing P d → EachThing P v → EachThingOfAll P (gathered_at fold d v)
at-known P EachValue d v h k = (k, tt)
at-known P ThoseTrue d v h k = if-known P (is_true v) d h
at-known P AllTrue d v h k = tt
at-known P AnyTrue d v h k = tt
at-known P CountTrue d v h k = if-known P (is_true v) v k

-- what is gathered is known
pub gathered_known : (names : Named) (fold : Folding) (vs ws : List Value) (e v : Value) → contents_of_all ws ≡ join (contents_of_all vs) (gathered_at fold (contents e) (contents v))
    → AllKnownIn names vs → AllKnown names e → AllKnown names v → AllKnownIn names ws
gathered_known names fold vs ws e v is all entry value =
    subst (EachThingOfAll (IsKnown names)) (sym is) (join-known (IsKnown names) (contents_of_all vs) (gathered_at fold (contents e) (contents v)) all (at-known (IsKnown names) fold (contents e) (contents v) entry value))

-- what is gathered and then finished is what the command gives
module _ (f : Plain → Process Plain) where
  after_values : (ds es : Items Things) → fold_on EachValue f ds es ≡ values_over f es >>= (λ vs. ask (lists (join ds vs)))
  after_values ds none = ap (λ xs. ask (lists xs)) (sym (join-none ds))
  after_values ds (item e es) =
      ap (λ k. f e >>= k) (fun_ext (λ v. after_values (join ds (item v none)) es
      ∙ (ap (λ k. values_over f es >>= k) (fun_ext (λ vs. ap (λ xs. ask (lists xs)) (join-one ds v vs))) ∙ sym (assoc (values_over f es) (λ vs. gives (item v vs)) (λ vs. ask (lists (join ds vs)))))))
      ∙ sym (assoc (f e) (λ v. values_over f es >>= (λ vs. gives (item v vs))) (λ vs. ask (lists (join ds vs))))

  true_step : (d v : Plain) (ds es : Items Things) → ((ds : Items Things) → fold_on ThoseTrue f ds es ≡ true_over f es >>= (λ ts. ask (lists (join ds ts))))
      → goes_on ThoseTrue v >>= (λ b. if b then fold_on ThoseTrue f (join ds (gathered_at ThoseTrue d v)) es else finished ThoseTrue false ds)
      ≡ decided v (λ b. true_over f es >>= (λ ts. gives (if b then item d ts else ts))) >>= (λ ts. ask (lists (join ds ts)))
  true_step d (truth true) ds es more =
      more (join ds (item d none)) ∙ (ap (λ k. true_over f es >>= k) (fun_ext (λ ts. ap (λ xs. ask (lists xs)) (join-one ds d ts))) ∙ sym (assoc (true_over f es) (λ ts. gives (item d ts)) (λ ts. ask (lists (join ds ts)))))
  true_step d (truth false) ds es more =
      ap (λ xs. fold_on ThoseTrue f xs es) (join-none ds) ∙ (more ds ∙ sym (assoc (true_over f es) (λ ts. gives ts) (λ ts. ask (lists (join ds ts)))))
  true_step d (int z) ds es more = refl
  true_step d (text bs) ds es more = refl
  true_step d (list xs) ds es more = refl
  true_step d (ratio p q) ds es more = refl
  true_step d fail ds es more = refl
  true_step d (semigroup h) ds es more = refl
  true_step d (ideal h) ds es more = refl

  after_true : (ds es : Items Things) → fold_on ThoseTrue f ds es ≡ true_over f es >>= (λ ts. ask (lists (join ds ts)))
  after_true ds none = ap (λ xs. ask (lists xs)) (sym (join-none ds))
  after_true ds (item e es) =
      ap (λ k. f e >>= k) (fun_ext (λ v. true_step e v ds es (λ xs. after_true xs es)))
      ∙ sym (assoc (f e) (λ v. decided v (λ b. true_over f es >>= (λ ts. gives (if b then item e ts else ts)))) (λ ts. ask (lists (join ds ts))))

  count-one : (ds es : Items Things) (d e : Plain) → entry_count (join (join ds (item d none)) es) ≡ entry_count (join ds (item e es))
  count-one none es d e = refl
  count-one (item c ds) es d e = ap suc (count-one ds es d e)

  count_step : (d v : Plain) (ds es : Items Things) → ((ds : Items Things) → fold_on CountTrue f ds es ≡ true_over f es >>= (λ ts. gives (int (pos (entry_count (join ds ts))))))
      → goes_on CountTrue v >>= (λ b. if b then fold_on CountTrue f (join ds (gathered_at CountTrue d v)) es else finished CountTrue false ds)
      ≡ decided v (λ b. true_over f es >>= (λ ts. gives (if b then item d ts else ts))) >>= (λ ts. gives (int (pos (entry_count (join ds ts)))))
  count_step d (truth true) ds es more =
      more (join ds (item (truth true) none))
      ∙ (ap (λ k. true_over f es >>= k) (fun_ext (λ ts. ap (λ n. gives (int (pos n))) (count-one ds ts (truth true) d))) ∙ sym (assoc (true_over f es) (λ ts. gives (item d ts)) (λ ts. gives (int (pos (entry_count (join ds ts)))))))
  count_step d (truth false) ds es more =
      ap (λ xs. fold_on CountTrue f xs es) (join-none ds) ∙ (more ds ∙ sym (assoc (true_over f es) (λ ts. gives ts) (λ ts. gives (int (pos (entry_count (join ds ts)))))))
  count_step d (int z) ds es more = refl
  count_step d (text bs) ds es more = refl
  count_step d (list xs) ds es more = refl
  count_step d (ratio p q) ds es more = refl
  count_step d fail ds es more = refl
  count_step d (semigroup h) ds es more = refl
  count_step d (ideal h) ds es more = refl

  after_count : (ds es : Items Things) → fold_on CountTrue f ds es ≡ true_over f es >>= (λ ts. gives (int (pos (entry_count (join ds ts)))))
  after_count ds none = ap (λ xs. gives (int (pos (entry_count xs)))) (sym (join-none ds))
  after_count ds (item e es) =
      ap (λ k. f e >>= k) (fun_ext (λ v. count_step e v ds es (λ xs. after_count xs es)))
      ∙ sym (assoc (f e) (λ v. decided v (λ b. true_over f es >>= (λ ts. gives (if b then item e ts else ts)))) (λ ts. gives (int (pos (entry_count (join ds ts))))))

  all_step : (d v : Plain) (ds es : Items Things) → ((ds : Items Things) → fold_on AllTrue f ds es ≡ is_each true f es >>= (λ b. gives (truth b)))
      → goes_on AllTrue v >>= (λ b. if b then fold_on AllTrue f (join ds (gathered_at AllTrue d v)) es else finished AllTrue false ds)
      ≡ decided v (λ c. if c then is_each true f es else gives false) >>= (λ b. gives (truth b))
  all_step d (truth true) ds es more = more (join ds none)
  all_step d (truth false) ds es more = refl
  all_step d (int z) ds es more = refl
  all_step d (text bs) ds es more = refl
  all_step d (list xs) ds es more = refl
  all_step d (ratio p q) ds es more = refl
  all_step d fail ds es more = refl
  all_step d (semigroup h) ds es more = refl
  all_step d (ideal h) ds es more = refl

  after_all : (ds es : Items Things) → fold_on AllTrue f ds es ≡ is_each true f es >>= (λ b. gives (truth b))
  after_all ds none = refl
  after_all ds (item e es) =
      ap (λ k. f e >>= k) (fun_ext (λ v. all_step e v ds es (λ xs. after_all xs es)))
      ∙ sym (assoc (f e) (λ v. decided v (λ c. if c then is_each true f es else gives false)) (λ b. gives (truth b)))

  any_step : (d v : Plain) (ds es : Items Things) → ((ds : Items Things) → fold_on AnyTrue f ds es ≡ is_each false f es >>= (λ b. gives (truth b)))
      → goes_on AnyTrue v >>= (λ b. if b then fold_on AnyTrue f (join ds (gathered_at AnyTrue d v)) es else finished AnyTrue false ds)
      ≡ decided v (λ c. if not c then is_each false f es else gives true) >>= (λ b. gives (truth b))
  any_step d (truth true) ds es more = refl
  any_step d (truth false) ds es more = more (join ds none)
  any_step d (int z) ds es more = refl
  any_step d (text bs) ds es more = refl
  any_step d (list xs) ds es more = refl
  any_step d (ratio p q) ds es more = refl
  any_step d fail ds es more = refl
  any_step d (semigroup h) ds es more = refl
  any_step d (ideal h) ds es more = refl

  after_any : (ds es : Items Things) → fold_on AnyTrue f ds es ≡ is_each false f es >>= (λ b. gives (truth b))
  after_any ds none = refl
  after_any ds (item e es) =
      ap (λ k. f e >>= k) (fun_ext (λ v. any_step e v ds es (λ xs. after_any xs es)))
      ∙ sym (assoc (f e) (λ v. decided v (λ c. if not c then is_each false f es else gives true)) (λ b. gives (truth b)))

  -- entry by entry comes to what the command gives
  pub fold_is : (fold : Folding) (es : Items Things) → fold_on fold f none es ≡ folded fold f es
  fold_is EachValue es = after_values none es
  fold_is ThoseTrue es = after_true none es
  fold_is AllTrue es = after_all none es
  fold_is AnyTrue es = after_any none es
  fold_is CountTrue es = after_count none es

module _ (fold : Folding) (v : Value) (s : State) (is : (fold ≡ ThoseTrue) ⊎ (fold ≡ CountTrue)) where
  -- the two that look at all entries, but for values that are no truth values
  goes_as : (d : Plain) → goes_on fold d ≡ decided d (λ b. gives true)
  goes_as d = (elim is as (λ i. goes_on fold d ≡ decided d (λ b. gives true)) [
    | inl h ↦ ap (λ f. goes_on f d) h
    | inr h ↦ ap (λ f. goes_on f d) h
  ])

  -- the value of a command that wants truth values is none
  pub goes_exit : (r : Result Bool CallFault) (e : CallFault) → IsErrAnd r (λ y. y ≡ e) → Evaluates itself no_semigroup (Err e) s s (λ names. decided (plain names v) (λ b. gives b))
      → Evaluates itself no_semigroup r s s (λ names. goes_on fold (plain names v))
  goes_exit r e failed h =
      evaluates_as itself no_semigroup r s s (λ names. decided (plain names v) (λ b. gives true)) (λ names. goes_on fold (plain names v)) (λ names. sym (goes_as (plain names v)))
      (decided_exit itself no_semigroup v s (λ names b. gives true) r e failed h)

  -- the value is a truth value, and the command goes on
  pub goes_then : (b : Bool) → Evaluates itself no_semigroup (Ok b) s s (λ names. decided (plain names v) (λ c. gives c)) → Evaluates itself no_semigroup (Ok true) s s (λ names. goes_on fold (plain names v))
  goes_then b h =
      evaluates_as itself no_semigroup (Ok true) s s (λ names. decided (plain names v) (λ b. gives true)) (λ names. goes_on fold (plain names v)) (λ names. sym (goes_as (plain names v)))
      (decided_then itself no_semigroup v s (λ names d. gives true) s b (Ok true) h (evaluates_gives itself no_semigroup true s (λ names. true) tt (λ final later. refl)))

module _ (fold : Folding) (d v : Stored) where
  -- Filtered keeps an entry
  pub those_at : fold ≡ ThoseTrue → true ≡ is_true v → gathered_at fold d v ≡ item d none
  those_at h t = ap (λ f. gathered_at f d v) h ∙ ap (λ b. if b then item d none else none) (sym t)

  -- Number counts an entry
  pub count_at : fold ≡ CountTrue → true ≡ is_true v → gathered_at fold d v ≡ item v none
  count_at h t = ap (λ f. gathered_at f d v) h ∙ ap (λ b. if b then item v none else none) (sym t)

  -- Filtered passes over an entry
  pub those_none : fold ≡ ThoseTrue → false ≡ is_true v → gathered_at fold d v ≡ none
  those_none h t = ap (λ f. gathered_at f d v) h ∙ ap (λ b. if b then item d none else none) (sym t)

  -- Number passes over an entry
  pub count_none : fold ≡ CountTrue → false ≡ is_true v → gathered_at fold d v ≡ none
  count_none h t = ap (λ f. gathered_at f d v) h ∙ ap (λ b. if b then item v none else none) (sym t)

-- the answer is a list
pub finished_list : (fold : Folding) (all : Bool) (vs : List Value) (s : State) (r : Result Value CallFault) → (fold ≡ EachValue) ⊎ (fold ≡ ThoseTrue)
    → Evaluates plain AllKnown r s s (λ names. ask (lists (plain_of_all names vs))) → Evaluates plain AllKnown r s s (λ names. finished fold all (plain_of_all names vs))
finished_list fold all vs s r is h = (elim is as (λ i. Evaluates plain AllKnown r s s (λ names. finished fold all (plain_of_all names vs))) [
  | inl e ↦ subst (λ f. Evaluates plain AllKnown r s s (λ names. finished f all (plain_of_all names vs))) (sym e) h
  | inr e ↦ subst (λ f. Evaluates plain AllKnown r s s (λ names. finished f all (plain_of_all names vs))) (sym e) h
])

-- the answer is a count
pub finished_count : (all : Bool) (vs : List Value) (s : State) (z : ℤ) → z ≡ pos (length vs) → Evaluates plain AllKnown (Ok (value.Int z)) s s (λ names. finished CountTrue all (plain_of_all names vs))
finished_count all vs s z is =
    evaluates_gives plain AllKnown (value.Int z) s (λ names. int (pos (entry_count (plain_of_all names vs)))) (subst (EachThing (IsKnown (named s.names))) (sym (contents-Int z)) tt)
    (λ final later. ap (data_map (thing_at (named final))) (contents-Int z) ∙ ap int (is ∙ ap pos (sym (entry_count-plain (named final) vs))))

-- ForAll and ForAny gather nothing
pub nothing_at : (fold : Folding) (d v : Stored) → (fold ≡ AllTrue) ⊎ (fold ≡ AnyTrue) → gathered_at fold d v ≡ none
nothing_at fold d v is = (elim is as (λ i. gathered_at fold d v ≡ none) [
  | inl h ↦ ap (λ f. gathered_at f d v) h
  | inr h ↦ ap (λ f. gathered_at f d v) h
])
