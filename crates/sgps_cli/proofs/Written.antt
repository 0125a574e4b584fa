-- What was written to the two sinks, part by part.
use Rattle.std.proofs.Common.{◌≡◌, ℕ, List, [], ◌∷◌, ◌++◌, Option, Some, None, refl, sym, ap, ◌∙◌, append_assoc}
use Rattle.std.proofs.lemmas.List.{append-nil}
use Rattle.std.specs.Io.KnownBytes.{append_known, prepend_known}
use Rattle.sg_play.specs.Record.{Record, marked, out, err}
use Rattle.sgps_cli.specs.Written.{Sinks, Wrote, out_bytes, err_bytes}

-- nothing was written
pub unchanged : (o : Option (List ℕ)) → o ≡ append_known o []
unchanged None = refl
unchanged (Some xs) = ap Some (sym (append-nil xs))

append-twice : (o : Option (List ℕ)) (a b : List ℕ) → append_known (append_known o a) b ≡ append_known o (a ++ b)
append-twice None a b = refl
append-twice (Some xs) a b = ap Some (append_assoc xs a b)

-- texts written one after another
pub written-twice : (old mid new : Option (List ℕ)) (a b : List ℕ) → mid ≡ append_known old a → new ≡ append_known mid b → new ≡ append_known old (a ++ b)
written-twice old mid new a b e f = f ∙ ap (λ o. append_known o b) e ∙ append-twice old a b

-- nothing was read
pub prepend-none : (o : Option (List ℕ)) → prepend_known [] o ≡ o
prepend-none None = refl
prepend-none (Some xs) = refl

-- texts read one after another
pub prepend-twice : (a b : List ℕ) (o : Option (List ℕ)) → prepend_known a (prepend_known b o) ≡ prepend_known (a ++ b) o
prepend-twice a b None = refl
prepend-twice a b (Some xs) = ap Some (sym (append_assoc a b xs))

-- the bytes of two records for one place
out-append : (r s : Record) → out_bytes (r ++ s) ≡ out_bytes r ++ out_bytes s
out-append [] s = refl
out-append ((out, b) ∷ r) s = ap (λ x. b ∷ x) (out-append r s)
out-append ((err, b) ∷ r) s = out-append r s

err-append : (r s : Record) → err_bytes (r ++ s) ≡ err_bytes r ++ err_bytes s
err-append [] s = refl
err-append ((out, b) ∷ r) s = err-append r s
err-append ((err, b) ∷ r) s = ap (λ x. b ∷ x) (err-append r s)

-- the bytes of a text that goes to one place
out-of-out : (b : List ℕ) → out_bytes (marked out b) ≡ b
out-of-out [] = refl
out-of-out (x ∷ b) = ap (λ r. x ∷ r) (out-of-out b)

err-of-out : (b : List ℕ) → err_bytes (marked out b) ≡ []
err-of-out [] = refl
err-of-out (x ∷ b) = err-of-out b

out-of-err : (b : List ℕ) → out_bytes (marked err b) ≡ []
out-of-err [] = refl
out-of-err (x ∷ b) = out-of-err b

err-of-err : (b : List ℕ) → err_bytes (marked err b) ≡ b
err-of-err [] = refl
err-of-err (x ∷ b) = ap (λ r. x ∷ r) (err-of-err b)

-- where nothing was written
pub wrote-none : (s : Sinks) → Wrote s s []
wrote-none s = record { out_gained = unchanged s.on_out; err_gained = unchanged s.on_err }

-- a text was written to `out`
pub wrote-out : (old new : Sinks) (text : List ℕ) → new.on_out ≡ append_known old.on_out text → new.on_err ≡ old.on_err → Wrote old new (marked out text)
wrote-out old new text o e = record {
  out_gained = o ∙ ap (append_known old.on_out) (sym (out-of-out text));
  err_gained = e ∙ unchanged old.on_err ∙ ap (append_known old.on_err) (sym (err-of-out text));
}

-- a text was written to `err`
pub wrote-err : (old new : Sinks) (text : List ℕ) → new.on_out ≡ old.on_out → new.on_err ≡ append_known old.on_err text → Wrote old new (marked err text)
wrote-err old new text o e = record {
  out_gained = o ∙ unchanged old.on_out ∙ ap (append_known old.on_out) (sym (out-of-err text));
  err_gained = e ∙ ap (append_known old.on_err) (sym (err-of-err text));
}

-- records written one after another
pub wrote-twice : (old mid new : Sinks) (r s : Record) → Wrote old mid r → Wrote mid new s → Wrote old new (r ++ s)
wrote-twice old mid new r s p q = record {
  out_gained = written-twice old.on_out mid.on_out new.on_out (out_bytes r) (out_bytes s) p.out_gained q.out_gained ∙ ap (append_known old.on_out) (sym (out-append r s));
  err_gained = written-twice old.on_err mid.on_err new.on_err (err_bytes r) (err_bytes s) p.err_gained q.err_gained ∙ ap (append_known old.on_err) (sym (err-append r s));
}
