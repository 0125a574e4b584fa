-- Parts of a buffer.
use Rattle.std.proofs.Common.{◌≡◌, ◌∙◌, ℕ, ◌+◌, ◌-◌, ◌≤◌, List, [], ◌++◌, length, take, drop, ap, ap₂, refl, sym, arith, length-take}
use Rattle.std.specs.Prelude.{slice_range}
use Rattle.std.proofs.lemmas.List.{take-take, drop-take, drop-drop, drop-append-le}
use Rattle.std.proofs.lemmas.Slice.{take-put_mid, take-put_mid_below}
use Rattle.std.proofs.Math.Seq.{take-append-add}
use borrow.Rule.Slice.PartMut.{put_mid}
use Rattle.sg_window.specs.Held.{Held, holding}

-- the front of a part
pub front-range : (xs : List ℕ) (a b n : ℕ) → a + n ≤ b → slice_range xs a (a + n) ≡ take n (slice_range xs a b)
front-range xs a b n within =
    let size : a + n - a ≡ n = omega arith in
    ap (λ k. take k (drop a xs)) size ∙ sym (take-take n (b - a) (drop a xs) (omega arith))

-- what is behind the front of a part
pub back-range : (xs : List ℕ) (a b n : ℕ) → a + n ≤ b → slice_range xs (a + n) b ≡ drop n (slice_range xs a b)
back-range xs a b n within =
    let size : n + (b - (a + n)) ≡ b - a = omega arith in
    ap (take (b - (a + n))) (sym (drop-drop n a xs)) ∙ sym (drop-take n (b - (a + n)) (drop a xs)) ∙ ap (λ k. drop n (take k (drop a xs))) size

-- no part
pub no-range : (xs : List ℕ) (a : ℕ) → slice_range xs a a ≡ []
no-range xs a = let size : a - a ≡ 0 = omega arith in ap (λ k. take k (drop a xs)) size

module _ (xs : List ℕ) (start stop end size : ℕ) (held : Held) (is : holding (slice_range xs start stop) (slice_range xs stop end) ≡ held) (small : size ≤ length held.rest) (ordered : stop ≤ end) where
  rest_is : slice_range xs stop end ≡ held.rest
  rest_is = ap (λ (h : Held). h.rest) is

  -- what is taken of the rest is inside the buffer
  pub within : stop + size ≤ end
  within = omega (arith, ap length rest_is, length-take (end - stop) (drop stop xs), small)

  behind : slice_range xs (stop + size) end ≡ drop size held.rest
  behind = back-range xs stop end size within ∙ ap (drop size) rest_is

  -- the front of the rest is the text now
  pub after_take : holding (slice_range xs stop (stop + size)) (slice_range xs (stop + size) end) ≡ holding (take size held.rest) (drop size held.rest)
  after_take = ap₂ holding (front-range xs stop end size within ∙ ap (take size) rest_is) behind

  -- it is let go
  pub after_skip : holding (slice_range xs (stop + size) (stop + size)) (slice_range xs (stop + size) end) ≡ holding [] (drop size held.rest)
  after_skip = ap₂ holding (no-range xs (stop + size)) behind

-- a part, as what stands before its end without what stands before its begin
pub range_is : (xs : List ℕ) (a b : ℕ) → a ≤ b → slice_range xs a b ≡ drop a (take b xs)
range_is xs a b ordered =
    let size : a + (b - a) ≡ b = omega arith in
    sym (drop-take a (b - a) xs) ∙ ap (λ n. drop a (take n xs)) size

module _ (xs ys : List ℕ) (start stop end : ℕ) (moved : take (end - start) ys ≡ slice_range xs start end) (one : start ≤ stop) (two : stop ≤ end) where
  -- the text at the front
  pub text_moved : slice_range ys 0 (stop - start) ≡ slice_range xs start stop
  text_moved =
      let place : start + (stop - start) ≡ stop = omega arith in
      range_is ys 0 (stop - start) (omega arith) ∙ sym (take-take (stop - start) (end - start) ys (omega arith)) ∙ ap (take (stop - start)) moved
      ∙ sym (front-range xs start end (stop - start) (omega arith)) ∙ ap (slice_range xs start) place

  -- and what is behind it
  pub rest_moved : slice_range ys (stop - start) (end - start) ≡ slice_range xs stop end
  rest_moved =
      let place : start + (stop - start) ≡ stop = omega arith in
      range_is ys (stop - start) (end - start) (omega arith) ∙ ap (drop (stop - start)) moved
      ∙ sym (back-range xs start end (stop - start) (omega arith)) ∙ ap (λ n. slice_range xs n end) place

module _ (xs ys : List ℕ) (start stop end k n : ℕ) (within : end ≤ length xs) (small : n ≤ length ys) (one : start ≤ stop) (two : stop ≤ end) where
  -- the text is not written over
  pub text_kept : slice_range (put_mid end k xs ys) start stop ≡ slice_range xs start stop
  text_kept =
      range_is (put_mid end k xs ys) start stop one ∙ ap (drop start) (take-put_mid_below end k xs ys stop two within) ∙ sym (range_is xs start stop one)

  filled : take (end + n) (put_mid end k xs ys) ≡ take end xs ++ take n ys
  filled =
      let long : length (take end xs) ≡ end = omega (arith, length-take end xs) in
      sym (take-take (end + n) (end + length ys) (put_mid end k xs ys) (omega arith))
      ∙ ap (take (end + n)) (take-put_mid end k xs ys (end + length ys) refl within)
      ∙ ap (λ i. take (i + n) (take end xs ++ ys)) (sym long)
      ∙ take-append-add (take end xs) ys n

  -- what was read stands behind the rest
  pub rest_read : slice_range (put_mid end k xs ys) stop (end + n) ≡ slice_range xs stop end ++ take n ys
  rest_read =
      range_is (put_mid end k xs ys) stop (end + n) (omega arith) ∙ ap (drop stop) filled
      ∙ drop-append-le stop (take end xs) (take n ys) (omega (arith, length-take end xs)) ∙ ap (λ zs. zs ++ take n ys) (sym (range_is xs stop end two))
