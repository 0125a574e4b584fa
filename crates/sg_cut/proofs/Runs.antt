-- A longest run of bytes that pass a test.
use Rattle.std.proofs.Common.{◌≡◌, ◌∙◌, ℕ, suc, ◌+◌, Bool, true, List, [], ◌∷◌, ◌++◌, length, take, drop, refl, ap, IsTrue}
use Rattle.std.specs.List.{prefix_len, list_all}
use Rattle.std.proofs.lemmas.Bool.{and_parts, and_from, cond_both}
use Rattle.std.proofs.Math.Numerals.{one-add}
use Rattle.sg_cut.specs.Lexemes.{EndsRun}

module _ (test : ℕ → Bool) where
  -- a run that goes no further is as long as the longest
  pub prefix_len-run : (xs rest : List ℕ) → IsTrue (list_all test xs) → EndsRun test rest → prefix_len test (xs ++ rest) ≡ length xs
  prefix_len-run [] [] h e = refl
  prefix_len-run [] (b ∷ rest) h e = rw e refl
  prefix_len-run (x ∷ xs) rest h e =
      let both = and_parts (test x) (list_all test xs) h in
      let passes : test x ≡ true = both.0 in
      rw passes (one-add _ ∙ ap suc (prefix_len-run xs rest both.1 e))

  -- the bytes of the longest run pass
  pub list_all-prefix : (xs : List ℕ) → IsTrue (list_all test (take (prefix_len test xs) xs))
  list_all-prefix [] = refl
  list_all-prefix (x ∷ xs) =
      cond_both (test x) (1 + prefix_len test xs) 0 (λ n. list_all test (take n (x ∷ xs)) ≡ true)
      (λ passes. rw one-add (and_from (test x) _ passes (list_all-prefix xs)))
      (λ fails. refl)

  -- and it goes no further
  pub EndsRun-prefix : (xs : List ℕ) → EndsRun test (drop (prefix_len test xs) xs)
  EndsRun-prefix [] = tt
  EndsRun-prefix (x ∷ xs) =
      cond_both (test x) (1 + prefix_len test xs) 0 (λ n. EndsRun test (drop n (x ∷ xs)))
      (λ passes. rw one-add (EndsRun-prefix xs))
      (λ fails. fails)
