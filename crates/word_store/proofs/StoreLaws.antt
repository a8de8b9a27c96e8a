-- The codes of an accepted word with zeros after them, in whole groups of eight, and the rows of the stored form that
-- the groups give.
use Prim.Native.Nat.{ℕ, zero, suc, ◌+◌, ◌-◌, ◌*◌, ◌/◌, ◌%◌, ◌^◌, ◌≤◌, ◌<◌}
use mathlib.Core.Path.{◌≡◌, refl, sym, ap, ap₂, ◌∙◌, subst}
use mathlib.Core.Bool.{true}
use mathlib.Core.List.{List, [], ◌∷◌, ◌++◌, map, map-append, append_assoc, append-nil}
use native.Mathlib.Nat.{div-one}
use native.Mathlib.Omega.{arith}
use mir.Syntax.{w16}
use Rattle.std.specs.Int.{to_be_bytes}
use borrow.Author.Tests.{eqb-true}
use lib.Dec.{eqb}
use lib.ListN.{length, take, drop, get_or, replicate, length-drop, length-map, length-replicate, take-append-drop}
use lib.Seq.{length-take-le, take-append-le, drop-append-le, take-append-add, take_all}
use Rattle.base.specs.Lists.{every, overlaid}
use Rattle.base.specs.Digits.{value, digits, halves}
use Rattle.base.specs.Packing.{Below, row_bytes, filler_bits, packed_row}
use Rattle.base.proofs.ListLaws.{every_all, length_overlaid, overlaid_more}
use Rattle.base.proofs.DigitLaws.{take_below, drop_below, append_below, length_digits, length_halves, halves_append}
use Rattle.word_stored.specs.Stored.{signs, generators, stored_file}
use Rattle.base.proofs.RowLaws.{length_packed_row}
use Rattle.word_stored.proofs.SignLaws.{signs_high}
use Rattle.word_stored.proofs.StoredLaws.{length_stored}
use Rattle.word_stored.proofs.PaddedRows.{replicate_zeros, padded_packed}
use Rattle.word_store.specs.steps.Storing.{Storable}

-- ---- zeros: all numbers are below 1

halves_zeros : (xs : List ℕ) → Below 1 xs → Below 1 (halves xs)
unfolding halves
halves_zeros [] h k = omega arith
halves_zeros (x ∷ xs) h zero = let e = h 0 in omega arith
halves_zeros (x ∷ xs) h (suc zero) = let e = h 0 in omega arith
halves_zeros (x ∷ xs) h (suc (suc k)) = halves_zeros xs (λ j. h (suc j)) k

every_zeros : (xs : List ℕ) → every (λ h. eqb h 0) xs ≡ true → Below 1 xs
every_zeros xs e k =
    let z = eqb-true (get_or xs k 0) 0 (every_all (λ h. eqb h 0) refl xs e k) in omega arith

map_zeros : (f : ℕ → ℕ) → f 0 ≡ 0 → (xs : List ℕ) → Below 1 xs → Below 1 (map f xs)
map_zeros f e [] h k = omega arith
map_zeros f e (x ∷ xs) h zero =
    let z : x ≡ 0 = omega (arith, h 0) in subst (λ (y : ℕ). y < 1) (sym (ap f z ∙ e)) (omega arith)
map_zeros f e (x ∷ xs) h (suc k) = map_zeros f e xs (λ j. h (suc j)) k

-- ---- the codes in whole groups

-- the codes of an accepted word fit the 5,000 bytes of all groups
pub put_whole : (bytes : List ℕ) (n : ℕ) → Storable bytes n → (whole : List ℕ)
    → whole ≡ overlaid (take (length (replicate {A = ℕ} 5000 0)) bytes) (replicate 5000 0)
    → (whole ≡ overlaid bytes (replicate 5000 0)) × (length whole ≡ 5000)
put_whole bytes n s whole w =
    let l = length-replicate {A = ℕ} 5000 0 in
    let e = w ∙ ap (λ (p : List ℕ). overlaid p (replicate 5000 0))
    (take_all (length (replicate {A = ℕ} 5000 0)) bytes (omega (arith, s.size, s.few))) in
    (e, ap length e ∙ length_overlaid bytes (replicate 5000 0) (omega (arith, s.size, s.few)) ∙ l)

module _ (bytes : List ℕ) (n : ℕ) (s : Storable bytes n) (whole : List ℕ)
    (e : whole ≡ overlaid bytes (replicate 5000 0)) where
  abbrev codes : List ℕ
  codes = take n (halves bytes)

  -- the number of groups of eight codes
  abbrev groups : ℕ
  groups = row_bytes 1 n

  -- the half bytes of all groups
  abbrev filled : List ℕ
  filled = halves (take (4 * groups) whole)

  -- the zero bytes after the codes
  abbrev after : List ℕ
  after = take (4 * groups - length bytes) (drop (length bytes) (replicate 5000 0))

  filled_is : filled ≡ halves bytes ++ halves after
  unfolding overlaid
  filled_is =
      let all : 4 * groups ≡ length bytes + (4 * groups - length bytes) = omega (arith, s.size) in
      ap halves
      (ap₂ take all e ∙ take-append-add bytes (drop (length bytes) (replicate 5000 0)) (4 * groups - length bytes))
      ∙ halves_append bytes after

  enough : n ≤ length (halves bytes)
  enough = omega (arith, s.size, length_halves bytes)

  front : take n filled ≡ codes
  front = ap (take n) filled_is ∙ take-append-le n (halves bytes) (halves after) enough

  zeros : Below 1 (drop n filled)
  zeros =
      subst (Below 1) (sym (ap (drop n) filled_is ∙ drop-append-le n (halves bytes) (halves after) enough))
      (append_below (drop n (halves bytes)) (halves after) (every_zeros (drop n (halves bytes)) s.filled)
      (halves_zeros after
      (take_below (4 * groups - length bytes) (drop (length bytes) (replicate 5000 0))
      (drop_below (length bytes) (replicate 5000 0) (replicate_zeros 5000)))))

  length_codes : length codes ≡ n
  length_codes = length-take-le n (halves bytes) enough

  length_whole : 4 * groups ≤ length whole → length filled ≡ 8 * groups
  length_whole h =
      let l = length-take-le (4 * groups) whole h in omega (arith, length_halves (take (4 * groups) whole), l)

  -- the row that f makes of the codes, packed, from the numbers that f makes of all groups
  row_packed : 4 * groups ≤ length whole → (b m : ℕ) (f : ℕ → ℕ) → f 0 ≡ 0
      → (8 * groups - n) * b ≡ filler_bits b n + m * 8
      → take (row_bytes b n) (digits 256 (row_bytes b n + m) (value (2 ^ b) (map f filled)))
      ≡ packed_row b (map f codes)
  row_packed h b m f z fill =
      let l = length_whole h in
      ap (λ (xs : List ℕ). take (row_bytes b n) (digits 256 (row_bytes b n + m) (value (2 ^ b) xs)))
      (ap (map f) (sym (take-append-drop n filled) ∙ ap (λ (cs : List ℕ). cs ++ drop n filled) front)
      ∙ map-append f codes (drop n filled))
      ∙ padded_packed b n (8 * groups - n) m fill (map f codes) (map f (drop n filled))
      (length-map codes f ∙ length_codes)
      (length-map (drop n filled) f ∙ length-drop n filled ∙ ap (λ (k : ℕ). k - n) l)
      (map_zeros f z (drop n filled) zeros)

  sign_row : 4 * groups ≤ length whole
      → digits 256 groups (value 2 (map (λ c. c / 8) filled)) ≡ packed_row 1 (signs codes)
  sign_row h =
      let none : groups + 0 ≡ groups = omega arith in
      sym (take_all groups (digits 256 groups (value 2 (map (λ c. c / 8) filled)))
      (omega (arith, length_digits 256 groups (value 2 (map (λ c. c / 8) filled)))))
      ∙ ap (λ (k : ℕ). take groups (digits 256 k (value 2 (map (λ c. c / 8) filled)))) (sym none)
      ∙ row_packed h 1 0 (λ c. c / 8) refl (omega arith)
      ∙ ap (packed_row 1) (sym (signs_high codes s.lettered))

  generator_row : 4 * groups ≤ length whole
      → take (row_bytes 3 n) (digits 256 (3 * groups) (value 8 (map (λ c. c % 8) filled)))
      ≡ packed_row 3 (generators codes)
  generator_row h =
      let m : ℕ = 3 * groups - row_bytes 3 n in
      let all : 3 * groups ≡ row_bytes 3 n + m = omega arith in
      ap (λ (k : ℕ). take (row_bytes 3 n) (digits 256 k (value 8 (map (λ c. c % 8) filled)))) all
      ∙ row_packed h 3 m (λ c. c % 8) refl (omega arith)

-- ---- the stored form, part after part

-- the three sizes of a word of n letters
abbrev pub sizes : ℕ → List ℕ
sizes n = digits 256 2 n ++ (digits 256 2 (row_bytes 1 n) ++ digits 256 2 (row_bytes 3 n))

parts_joined : (cs : List ℕ)
    → sizes (length cs) ++ packed_row 1 (signs cs) ++ packed_row 3 (generators cs) ≡ stored_file cs
unfolding stored_file digits
parts_joined cs =
    let n = length cs in
    ap (λ (l : List ℕ). sizes n ++ packed_row 1 (signs cs) ++ l) (sym (append-nil (packed_row 3 (generators cs))))
    ∙ append_assoc (sizes n) (packed_row 1 (signs cs)) (packed_row 3 (generators cs) ++ [])

-- three sizes at the front of an output, each as two bytes
pub sizes_written : (a b c : ℕ) (x y z out : List ℕ) → x ≡ to_be_bytes w16 a → y ≡ to_be_bytes w16 b
    → z ≡ to_be_bytes w16 c
    → (get_or x 0 0 ∷ get_or x 1 0 ∷ get_or y 0 0 ∷ get_or y 1 0 ∷ get_or z 0 0 ∷ get_or z 1 0 ∷ []) ++ drop 6 out
    ≡ overlaid (digits 256 2 a ++ (digits 256 2 b ++ digits 256 2 c)) out
unfolding overlaid digits
sizes_written a b c x y z out ex ey ez =
    (λ i. (get_or (ex i) 0 0 ∷ get_or (ex i) 1 0 ∷ get_or (ey i) 0 0 ∷ get_or (ey i) 1 0 ∷ get_or (ez i) 0 0
    ∷ get_or (ez i) 1 0 ∷ []) ++ drop 6 out)
    ∙ rw (div-one a, div-one b, div-one c)

-- the bytes ys are laid after the bytes xs at the front of an output, in a part that reaches to its end
laid_after : (xs ys out now got : List ℕ) (at : ℕ) → at ≡ length xs → length xs + length ys ≤ length out
    → now ≡ overlaid xs out → got ≡ overlaid ys (take (length now - at) (drop at now))
    → take at now ++ (got ++ drop (length now - at) (drop at now)) ≡ overlaid (xs ++ ys) out
laid_after xs ys out now got at e room o g =
    let l : length now ≡ length out = ap length o ∙ length_overlaid xs out (omega arith) in
    ap (λ (w : List ℕ). take at now ++ (w ++ drop (length now - at) (drop at now))) g
    ∙ overlaid_more xs ys out now at (length now - at) e (omega arith) (omega arith) o

module _ (bytes : List ℕ) (n : ℕ) (s : Storable bytes n) (whole : List ℕ)
    (e : whole ≡ overlaid bytes (replicate 5000 0)) (big : length whole ≡ 5000)
    (k g : ℕ) (ek : k ≡ row_bytes 1 n) (eg : g ≡ row_bytes 3 n) (out : List ℕ) (room : 5006 ≤ length out) where
  abbrev cs : List ℕ
  cs = take n (halves bytes)

  few : length cs ≤ 10000
  few = omega (arith, length_codes bytes n s whole e, s.few)

  signs_size : length (packed_row 1 (signs cs)) ≡ row_bytes 1 n
  signs_size =
      length_packed_row 1 (signs cs) ∙ ap (row_bytes 1) (length-map cs _ ∙ length_codes bytes n s whole e)

  generators_size : length (packed_row 3 (generators cs)) ≡ row_bytes 3 n
  generators_size =
      length_packed_row 3 (generators cs) ∙ ap (row_bytes 3) (length-map cs _ ∙ length_codes bytes n s whole e)

  front_size : length (sizes n ++ packed_row 1 (signs cs)) ≡ 6 + k
  unfolding digits
  front_size = omega (arith, signs_size)

  module _ (now : List ℕ) (o : now ≡ overlaid (digits 256 2 n ++ (digits 256 2 k ++ digits 256 2 g)) out)
      (got : List ℕ)
      (w : got
      ≡ overlaid (digits 256 k (value 2 (map (λ c. c / 8) (halves (take (4 * k) whole)))))
      (take (length now - 6) (drop 6 now))) where
    -- the sizes and the signs
    pub signs_laid : take 6 now ++ (got ++ drop (length now - 6) (drop 6 now))
        ≡ overlaid (sizes n ++ packed_row 1 (signs cs)) out
    unfolding digits
    signs_laid =
        laid_after (sizes n) (packed_row 1 (signs cs)) out now got 6 refl (omega (arith, signs_size, s.few))
        (o ∙ ap₂ (λ (i j : ℕ). overlaid (digits 256 2 n ++ (digits 256 2 i ++ digits 256 2 j)) out) ek eg)
        (w ∙ ap (λ (l : List ℕ). overlaid l (take (length now - 6) (drop 6 now)))
        (ap (λ (i : ℕ). digits 256 i (value 2 (map (λ c. c / 8) (halves (take (4 * i) whole))))) ek
        ∙ sign_row bytes n s whole e (omega (arith, s.few))))

  module _ (now : List ℕ) (o : now ≡ overlaid (sizes n ++ packed_row 1 (signs cs)) out) (row got : List ℕ)
      (r : row
      ≡ overlaid (digits 256 (3 * k) (value 8 (map (λ c. c % 8) (halves (take (4 * k) whole))))) (replicate 3750 0))
      (w : got
      ≡ overlaid (take (length (take (length now - (6 + k)) (drop (6 + k) now))) (take g row))
      (take (length now - (6 + k)) (drop (6 + k) now))) where
    generators_taken : take g row ≡ packed_row 3 (generators cs)
    unfolding overlaid
    generators_taken =
        let v : ℕ → ℕ = λ i. value 8 (map (λ c. c % 8) (halves (take (4 * i) whole))) in
        ap (take g) r
        ∙ take-append-le g (digits 256 (3 * k) (v k)) _ (omega (arith, length_digits 256 (3 * k) (v k)))
        ∙ ap₂ (λ (i j : ℕ). take i (digits 256 (3 * j) (v j))) eg ek
        ∙ generator_row bytes n s whole e (omega (arith, s.few))

    -- the whole stored form
    pub stored_laid : take (6 + k) now ++ (got ++ drop (length now - (6 + k)) (drop (6 + k) now))
        ≡ overlaid (stored_file cs) out
    stored_laid =
        let mid = take (length now - (6 + k)) (drop (6 + k) now) in
        let front = sizes n ++ packed_row 1 (signs cs) in
        let l : length now ≡ length out =
        ap length o ∙ length_overlaid front out (omega (arith, front_size, s.few)) in
        let m : length mid ≡ length now - (6 + k) =
        length-take-le (length now - (6 + k)) (drop (6 + k) now) (omega (arith, length-drop (6 + k) now)) in
        let all : take (length mid) (take g row) ≡ packed_row 3 (generators cs) =
        take_all (length mid) (take g row) (omega (arith, ap length generators_taken, generators_size, s.few))
        ∙ generators_taken in
        laid_after front (packed_row 3 (generators cs)) out now got (6 + k) (sym front_size)
        (omega (arith, front_size, generators_size, s.few)) o
        (w ∙ ap (λ (p : List ℕ). overlaid p mid) all)
        ∙ ap (λ (p : List ℕ). overlaid p out)
        (ap (λ (i : ℕ). sizes i ++ packed_row 1 (signs cs) ++ packed_row 3 (generators cs))
        (sym (length_codes bytes n s whole e))
        ∙ parts_joined cs)

  pub stored_size : 6 + k + g ≡ length (stored_file cs)
  stored_size =
      let l = length_codes bytes n s whole e in
      omega (arith, length_stored cs, ap (row_bytes 1) l, ap (row_bytes 3) l)
