-- Laws of rows of numbers packed into bytes, for any number b of bits: a row packed and unpacked, bytes unpacked and
-- packed, rows one after another, and groups of eight numbers with the last numbers apart, as the code takes them.
use Prim.Native.Nat.{ℕ, zero, suc, ◌+◌, ◌-◌, ◌*◌, ◌/◌, ◌%◌, ◌^◌, ◌≤◌, ◌<◌}
use mathlib.Core.Path.{◌≡◌, sym, ap, ap₂, ◌∙◌, subst}
use mathlib.Core.List.{List, [], ◌∷◌, ◌++◌}
use native.Mathlib.Nat.{pow-zero, pow-suc, suc-mul, zero-mul, mul_comm, mul_assoc, add-mul, mul-div_cancel}
use native.Mathlib.Nat.{mul-mod_left, div-add-mod', div-lt_iff_lt-mul, mul-lt-mul_of_pos_right, mul-add-div_right}
use native.Mathlib.Nat.{mul-add-mod_self_right, div-one, mul_right_comm, mul-le-mul, zero-mod, mod-one}
use native.Mathlib.Nat.{add-zero, mod-eq_of_lt}
use native.Mathlib.Omega.{arith}
use lib.Dec.{eqb}
use lib.Pow.{pow-add, pow_pos, pow_mono, shr_lt}
use lib.ListN.{length, take, drop, get_or, length-append, length-drop, take-append-drop, get_or-append}
use lib.Seq.{length-take-le, take_at, drop_at, take-add, drop-drop, get_or-drop, get_or-append-add}
use Rattle.base.specs.Lists.{every}
use Rattle.base.specs.Digits.{value, digits, part, halves}
use Rattle.base.specs.Packing.{Below, row_bytes, filler_bits, packed_row, unpacked_row, row_filler}
use Rattle.base.specs.steps.Regrouping.{Regroups, regrouped}
use Rattle.base.proofs.ListLaws.{and_true}
use Rattle.base.proofs.DigitLaws.{drop_below, length_digits, digits_below, value_append, value_below}
use Rattle.base.proofs.DigitLaws.{value_digits_below, digits_value, digits_append, digits_join, digits_halves}
use Rattle.base.proofs.PackLaws.{below_part, length_part, value_last}

-- n numbers of b bits have n * b bits
pow_pow : (b n : ℕ) → (2 ^ b) ^ n ≡ 2 ^ (n * b)
pow_pow b zero = rw (zero-mul b, pow-zero (2 ^ b))
pow_pow b (suc n) = rw (pow-suc (2 ^ b) n, pow_pow b n, suc-mul n b) (sym (pow-add 2 (n * b) b))

-- n numbers of b bits and the filler bits fill their bytes
row_fills : (b n : ℕ) → (2 ^ b) ^ n * 2 ^ filler_bits b n ≡ 256 ^ row_bytes b n
row_fills b n =
    let e : n * b + filler_bits b n ≡ row_bytes b n * 8 = omega arith in
    rw (pow_pow b n)
    (sym (pow-add 2 (n * b) (filler_bits b n)) ∙ ap (λ (k : ℕ). 2 ^ k) e ∙ sym (pow_pow 8 (row_bytes b n)))

module _ (b : ℕ) where
  pub length_packed_row : (xs : List ℕ) → length (packed_row b xs) ≡ row_bytes b (length xs)
  unfolding packed_row
  length_packed_row xs = length_digits 256 (row_bytes b (length xs)) _

  pub packed_below : (xs : List ℕ) → Below 256 (packed_row b xs)
  unfolding packed_row
  packed_below xs = digits_below 256 (row_bytes b (length xs)) _ (omega arith)

  -- the number of a row with its filler fits the row's bytes
  row_fits : (xs : List ℕ) → Below (2 ^ b) xs
      → value (2 ^ b) xs * 2 ^ filler_bits b (length xs) < 256 ^ row_bytes b (length xs)
  row_fits xs below =
      rw (← row_fills b (length xs))
      (mul-lt-mul_of_pos_right (value_below (2 ^ b) xs below) (pow_pos (filler_bits b (length xs))))

  -- a row packed and unpacked
  module _ (xs : List ℕ) (below : Below (2 ^ b) xs) where
    value_packed_row : value 256 (packed_row b xs) ≡ value (2 ^ b) xs * 2 ^ filler_bits b (length xs)
    unfolding packed_row
    value_packed_row = value_digits_below 256 (row_bytes b (length xs)) _ (omega arith) (row_fits xs below)

    pub unpacked_packed : unpacked_row b (length xs) (packed_row b xs) ≡ xs
    unfolding unpacked_row
    unpacked_packed =
        rw (value_packed_row, mul-div_cancel (value (2 ^ b) xs) (pow_pos (filler_bits b (length xs))))
        (digits_value (2 ^ b) xs below)

    pub filler_packed : row_filler b (length xs) (packed_row b xs) ≡ 0
    unfolding row_filler
    filler_packed = rw value_packed_row (mul-mod_left (value (2 ^ b) xs) (2 ^ filler_bits b (length xs)))

  module _ (n : ℕ) where
    pub length_unpacked : (bytes : List ℕ) → length (unpacked_row b n bytes) ≡ n
    unfolding unpacked_row
    length_unpacked bytes = length_digits (2 ^ b) n _

    pub unpacked_below : (bytes : List ℕ) → Below (2 ^ b) (unpacked_row b n bytes)
    unfolding unpacked_row
    unpacked_below bytes = digits_below (2 ^ b) n _ (pow_pos b)

    -- the number of the bytes without the filler has n digits
    without_filler : (bytes : List ℕ) → Below 256 bytes → length bytes ≡ row_bytes b n
        → value 256 bytes / 2 ^ filler_bits b n < (2 ^ b) ^ n
    without_filler bytes below l =
        (div-lt_iff_lt-mul (pow_pos (filler_bits b n))).1 (rw (row_fills b n, ← l) (value_below 256 bytes below))

    -- bytes unpacked and packed
    pub packed_unpacked : (bytes : List ℕ) → Below 256 bytes → length bytes ≡ row_bytes b n → row_filler b n bytes ≡ 0
        → packed_row b (unpacked_row b n bytes) ≡ bytes
    unfolding packed_row unpacked_row row_filler
    packed_unpacked bytes below l f =
        let v = value 256 bytes in
        let u = 2 ^ filler_bits b n in
        let whole : v / u * u ≡ v = omega (arith, div-add-mod' v u) in
        rw (
          length_digits (2 ^ b) n (v / u),
          value_digits_below (2 ^ b) n (v / u) (pow_pos b) (without_filler bytes below l),
          whole,
          ← l,
        ) (digits_value 256 bytes below)

    -- the filler is in the last byte, if there is one
    pub filler_none : (bytes : List ℕ) → length bytes ≡ 0 → row_filler b n bytes ≡ 0
    unfolding row_filler value
    filler_none [] l = zero-mod (2 ^ filler_bits b n)
    filler_none (x ∷ bytes) l = absurd (omega arith)

    pub filler_last : (k : ℕ) (bytes : List ℕ) → length bytes ≡ k + 1
        → row_filler b n bytes ≡ get_or bytes k 0 % 2 ^ filler_bits b n
    unfolding row_filler
    filler_last k bytes l =
        let f : ℕ = filler_bits b n in
        let e : 8 - f + f ≡ 8 = omega arith in
        let byte : 256 ≡ 2 ^ (8 - f) * 2 ^ f = ap (λ (i : ℕ). 2 ^ i) (sym e) ∙ pow-add 2 (8 - f) f in
        ap (λ (v : ℕ). v % 2 ^ f) (value_last 256 k bytes l)
        ∙ ap (λ (u : ℕ). (value 256 (take k bytes) * u + get_or bytes k 0) % 2 ^ f) byte
        ∙ ap (λ (u : ℕ). (u + get_or bytes k 0) % 2 ^ f)
        (sym (mul_assoc (value 256 (take k bytes)) (2 ^ (8 - f)) (2 ^ f)))
        ∙ mul-add-mod_self_right (value 256 (take k bytes) * 2 ^ (8 - f)) (2 ^ f) (get_or bytes k 0)

  -- ---- rows one after another, where the first row fills its bytes

  -- the filler of the second row is the filler of both rows together
  rows_filler : (m n k : ℕ) → m * b ≡ 8 * k
      → (row_bytes b (m + n) ≡ k + row_bytes b n) × (filler_bits b (m + n) ≡ filler_bits b n)
  rows_filler m n k e = let s : (m + n) * b ≡ m * b + n * b = add-mul m n b in (omega arith, omega arith)

  unpacked_append : (m n : ℕ) (xs ys : List ℕ) → m * b ≡ 8 * length xs → length ys ≡ row_bytes b n → Below 256 ys
      → unpacked_row b (m + n) (xs ++ ys) ≡ digits (2 ^ b) m (value 256 xs) ++ unpacked_row b n ys
  unfolding unpacked_row
  unpacked_append m n xs ys e l below =
      let f : ℕ = filler_bits b n in
      rw (
        (rows_filler m n (length xs) e).1,
        value_append 256 xs ys,
        l,
        ← row_fills b n,
        ← mul_assoc (value 256 xs) ((2 ^ b) ^ n) (2 ^ f),
        mul-add-div_right (pow_pos f) (value 256 xs * (2 ^ b) ^ n) (value 256 ys),
      )
      (digits_join (2 ^ b) m n (value 256 xs) (value 256 ys / 2 ^ f) (pow_pos b) (without_filler n ys below l))

  pub packed_append : (k : ℕ) (xs ys : List ℕ) → length xs * b ≡ 8 * k → Below (2 ^ b) ys
      → packed_row b (xs ++ ys) ≡ digits 256 k (value (2 ^ b) xs) ++ packed_row b ys
  unfolding packed_row
  packed_append k xs ys e below =
      let n : ℕ = length ys in
      let f : ℕ = filler_bits b n in
      let r = rows_filler (length xs) n k e in
      rw (
        length-append xs ys,
        r.1,
        r.0,
        value_append (2 ^ b) xs ys,
        add-mul (value (2 ^ b) xs * (2 ^ b) ^ n) (value (2 ^ b) ys) (2 ^ f),
        mul_assoc (value (2 ^ b) xs) ((2 ^ b) ^ n) (2 ^ f),
        row_fills b n,
      )
      (digits_join 256 k (row_bytes b n) (value (2 ^ b) xs) (value (2 ^ b) ys * 2 ^ f) (omega arith)
      (row_fits ys below))

-- ---- half bytes are numbers of 4 bits

module _ (n : ℕ) (bytes : List ℕ) (below : Below 256 bytes) (l : length bytes ≡ row_bytes 4 n) where
  -- n half bytes, and the filler if there is one
  in_halves : halves bytes ≡ unpacked_row 4 n bytes ++ digits 16 (2 * length bytes - n) (value 256 bytes)
  unfolding unpacked_row
  in_halves =
      let r : ℕ = 2 * length bytes - n in
      let v = value 256 bytes in
      let e : 2 * length bytes ≡ n + r = omega arith in
      let f : r * 4 ≡ filler_bits 4 n = omega arith in
      sym (digits_halves bytes below)
      ∙ ap (λ (k : ℕ). digits 16 k v) e
      ∙ digits_append 16 n r v
      ∙ ap (λ (u : ℕ). digits 16 n (v / u) ++ digits 16 r v) (pow_pow 4 r ∙ ap (λ (k : ℕ). 2 ^ k) f)

  pub halves_row : take n (halves bytes) ≡ unpacked_row 4 n bytes
  halves_row = ap (take n) in_halves ∙ take_at (unpacked_row 4 n bytes) _ n (length_unpacked 4 n bytes)

  pub halves_filler : every (λ h. eqb h 0) (drop n (halves bytes)) ≡ eqb (row_filler 4 n bytes) 0
  unfolding every digits row_filler
  halves_filler =
      let r : ℕ = 2 * length bytes - n in
      let f : r * 4 ≡ filler_bits 4 n = omega arith in
      ap (λ (hs : List ℕ). every (λ h. eqb h 0) (drop n hs)) in_halves
      ∙ ap (every (λ h. eqb h 0))
      (drop_at (unpacked_row 4 n bytes) (digits 16 r (value 256 bytes)) n (length_unpacked 4 n bytes))
      ∙ at r (value 256 bytes) (omega arith)
      ∙ ap (λ (k : ℕ). eqb (value 256 bytes % 2 ^ k) 0) f
    where
      at : (r v : ℕ) → r < 2 → every (λ h. eqb h 0) (digits 16 r v) ≡ eqb (v % 2 ^ (r * 4)) 0
      at zero v h = sym (ap (λ (x : ℕ). eqb x 0) (mod-one v))
      at (suc zero) v h = and_true (eqb (v / 1 % 16) 0) ∙ ap (λ (x : ℕ). eqb (x % 16) 0) (div-one v)
      at (suc (suc r)) v h = absurd (omega arith)

-- ---- eight numbers at a time fill b bytes; the last numbers, under eight, stand in the bytes that are left

module _ (b n : ℕ) where
  eight_fill : n / 8 * 8 * b ≡ 8 * (n / 8 * b)
  eight_fill = mul_right_comm (n / 8) 8 b ∙ mul_comm (n / 8 * b) 8

  pub last_row : (row_bytes b n ≡ n / 8 * b + row_bytes b (n % 8)) × (filler_bits b n ≡ filler_bits b (n % 8))
  last_row =
      let e : n / 8 * 8 + n % 8 ≡ n = omega arith in
      rw e at (rows_filler b (n / 8 * 8) (n % 8) (n / 8 * b) eight_fill)

  -- a number fits a byte
  module _ (narrow : b ≤ 8) where
    eight_fits : 256 ^ b ≤ 2 ^ 64
    eight_fits = rw (pow_pow 8 b) (pow_mono {j = 64} (omega arith))

    eight_many : 256 ^ b ≡ (2 ^ b) ^ 8
    eight_many = pow_pow 8 b ∙ ap (λ (k : ℕ). 2 ^ k) (mul_comm b 8) ∙ sym (pow_pow b 8)

    last_fits : 256 ^ row_bytes b (n % 8) ≤ 2 ^ 64
    last_fits =
        let h : n % 8 ≤ 8 = omega arith in
        let k : n % 8 * b ≤ 8 * 8 = mul-le-mul h narrow in
        rw (pow_pow 8 (row_bytes b (n % 8))) (pow_mono {j = 64} (omega arith))

    pub packs : (xs : List ℕ) → Below (2 ^ b) xs → length xs ≡ n
        → Regroups xs 8 (2 ^ b) (row_bytes b n) b 256 (n / 8) (2 ^ filler_bits b n)
    packs xs below l =
        let r : length xs - n / 8 * 8 ≡ n % 8 = omega arith in
        record {
          below = below;
          source = omega arith;
          output = omega (arith, last_row.0);
          fits = rw (← eight_many) eight_fits;
          as_many = sym eight_many;
          positive = omega arith;
          a_byte = omega arith;
          up_positive = pow_pos (filler_bits b n);
          rest = rw (r, last_row.1, row_fills b (n % 8)) last_fits;
        }

  pub packed_groups : (xs : List ℕ) → Below (2 ^ b) xs → length xs ≡ n
      → regrouped xs 8 (2 ^ b) (row_bytes b n) b 256 (n / 8) (2 ^ filler_bits b n) ≡ packed_row b xs
  unfolding regrouped packed_row
  packed_groups xs below l =
      let at : ℕ = n / 8 * 8 in
      let r : row_bytes b n - n / 8 * b ≡ row_bytes b (n % 8) = omega (arith, last_row.0) in
      let front : length (take at xs) ≡ at = length-take-le at xs (omega arith) in
      let back : length (drop at xs) ≡ n % 8 = omega (arith, length-drop at xs) in
      rw (r, last_row.1, ← back)
      (sym (packed_append b (n / 8 * b) (take at xs) (drop at xs) (ap (λ (k : ℕ). k * b) front ∙ eight_fill)
      (drop_below at xs below)))
      ∙ ap (packed_row b) (take-append-drop at xs)

-- ---- eight numbers from the middle of a row

module _ (b : ℕ) where
  -- the first m numbers, which fill k bytes, and the rest of the row
  first_apart : (m n k : ℕ) (bytes : List ℕ) → Below 256 bytes → m * b ≡ 8 * k → length bytes ≡ row_bytes b (m + n)
      → unpacked_row b (m + n) bytes ≡ digits (2 ^ b) m (value 256 (take k bytes)) ++ unpacked_row b n (drop k bytes)
  first_apart m n k bytes below e l =
      let r = (rows_filler b m n k e).0 in
      let front : length (take k bytes) ≡ k = length-take-le k bytes (omega arith) in
      let back : length (drop k bytes) ≡ row_bytes b n = omega (arith, length-drop k bytes) in
      ap (unpacked_row b (m + n)) (sym (take-append-drop k bytes))
      ∙ unpacked_append b m n (take k bytes) (drop k bytes) (e ∙ ap (λ (j : ℕ). 8 * j) (sym front)) back
      (drop_below k bytes below)

  -- without the first m numbers
  after_first : (m n k c : ℕ) (bytes : List ℕ) → Below 256 bytes → m * b ≡ 8 * k → length bytes ≡ row_bytes b (m + n)
      → get_or (unpacked_row b (m + n) bytes) (m + c) 0 ≡ get_or (unpacked_row b n (drop k bytes)) c 0
  after_first m n k c bytes below e l =
      let first = digits (2 ^ b) m (value 256 (take k bytes)) in
      ap (λ (xs : List ℕ). get_or xs (m + c) 0) (first_apart m n k bytes below e l)
      ∙ ap (λ (j : ℕ). get_or (first ++ unpacked_row b n (drop k bytes)) (j + c) 0)
      (sym (length_digits (2 ^ b) m (value 256 (take k bytes))))
      ∙ get_or-append-add first (unpacked_row b n (drop k bytes)) c 0

  -- eight numbers fill b bytes and leave no filler
  eight_row : (bytes : List ℕ) → unpacked_row b 8 bytes ≡ digits (2 ^ b) 8 (value 256 bytes)
  unfolding unpacked_row
  eight_row bytes =
      let none : filler_bits b 8 ≡ 0 = omega arith in
      ap (λ (k : ℕ). digits (2 ^ b) 8 (value 256 bytes / 2 ^ k)) none
      ∙ ap (digits (2 ^ b) 8) (div-one (value 256 bytes))

  -- number c of the eight numbers after the first 8 r
  pub row_eight : (n r c : ℕ) (bytes : List ℕ) → Below 256 bytes → length bytes ≡ row_bytes b n → 8 * r + 8 ≤ n → c < 8
      → get_or (unpacked_row b n bytes) (8 * r + c) 0 ≡ get_or (unpacked_row b 8 (part (r * b) b bytes)) c 0
  row_eight n r c bytes below l h small =
      let m : ℕ = n - (8 * r + 8) in
      let size : n ≡ 8 * r + (8 + m) = omega arith in
      let fill : 8 * r * b ≡ 8 * (r * b) = mul_assoc 8 r b in
      let l' : length bytes ≡ row_bytes b (8 * r + (8 + m)) = l ∙ ap (row_bytes b) size in
      let rest : List ℕ = drop (r * b) bytes in
      let left : length rest ≡ row_bytes b (8 + m) =
      omega (arith, length-drop (r * b) bytes, (rows_filler b (8 * r) (8 + m) (r * b) fill).0) in
      let eight = digits (2 ^ b) 8 (value 256 (take b rest)) in
      ap (λ (k : ℕ). get_or (unpacked_row b k bytes) (8 * r + c) 0) size
      ∙ after_first (8 * r) (8 + m) (r * b) c bytes below fill l'
      ∙ ap (λ (xs : List ℕ). get_or xs c 0)
      (first_apart 8 m b rest (drop_below (r * b) bytes below) (mul_comm 8 b ∙ mul_comm b 8) left)
      ∙ get_or-append eight (unpacked_row b m (drop b rest)) 0 c
      (omega (arith, length_digits (2 ^ b) 8 (value 256 (take b rest))))
      ∙ ap (λ (xs : List ℕ). get_or xs c 0) (sym (eight_row (take b rest)))

  -- one number is at the front of its byte
  one_number : (xs : List ℕ) → length xs ≡ 1 → Below 256 xs → 0 < b → b ≤ 8
      → get_or (unpacked_row b 1 xs) 0 0 ≡ get_or xs 0 0 / 2 ^ (8 - b)
  unfolding unpacked_row digits value
  one_number [] e h some narrow = absurd (omega arith)
  one_number (x ∷ y ∷ xs) e h some narrow = absurd (omega arith)
  one_number (x ∷ []) e h some narrow =
      let v : x * 1 + 0 ≡ x = omega arith in
      let k : filler_bits b 1 ≡ 8 - b = omega arith in
      let whole : 8 ≡ b + (8 - b) = omega arith in
      ap₂ (λ (w j : ℕ). w / 2 ^ j / (2 ^ b) ^ 0 % 2 ^ b) v k
      ∙ ap (λ (p : ℕ). x / 2 ^ (8 - b) / p % 2 ^ b) (pow-zero (2 ^ b))
      ∙ ap (λ (w : ℕ). w % 2 ^ b) (div-one (x / 2 ^ (8 - b)))
      ∙ mod-eq_of_lt (shr_lt b (8 - b) (subst (λ (j : ℕ). x < 2 ^ j) whole (h 0)))

  pub row_one : (g : ℕ) (bytes : List ℕ) → Below 256 bytes → length bytes ≡ row_bytes b (8 * g + 1) → 0 < b → b ≤ 8
      → get_or (unpacked_row b (8 * g + 1) bytes) (8 * g) 0 ≡ get_or bytes (g * b) 0 / 2 ^ (8 - b)
  row_one g bytes below l some narrow =
      let fill : 8 * g * b ≡ 8 * (g * b) = mul_assoc 8 g b in
      let left : length (drop (g * b) bytes) ≡ 1 =
      omega (arith, length-drop (g * b) bytes, (rows_filler b (8 * g) 1 (g * b) fill).0) in
      ap (λ (k : ℕ). get_or (unpacked_row b (8 * g + 1) bytes) k 0) (sym (add-zero (8 * g)))
      ∙ after_first (8 * g) 1 (g * b) 0 bytes below fill l
      ∙ one_number (drop (g * b) bytes) left (drop_below (g * b) bytes below) some narrow
      ∙ ap (λ (x : ℕ). x / 2 ^ (8 - b))
      (get_or-drop (g * b) bytes 0 0 ∙ ap (λ (k : ℕ). get_or bytes k 0) (add-zero (g * b)))

  -- the b bytes before place e hold eight numbers: the last digits of the number that the eight bytes before e write
  pub eight_before : (file : List ℕ) (e : ℕ) → Below 256 file → b ≤ 8 → 8 ≤ e → e ≤ length file
      → digits (2 ^ b) 8 (value 256 (part (e - 8) 8 file)) ≡ unpacked_row b 8 (part (e - b) b file)
  unfolding digits
  eight_before file e below narrow h inside =
      let i : ℕ = e - 8 in
      let xs : List ℕ = take (8 - b) (drop i file) in
      let ys : List ℕ = part (e - b) b file in
      let eight : 8 ≡ 8 - b + b = omega arith in
      let at : i + (8 - b) ≡ e - b = omega arith in
      let room : e - b + b ≤ length file = omega arith in
      let both : part i 8 file ≡ xs ++ ys =
      ap (λ (k : ℕ). take k (drop i file)) eight ∙ take-add (8 - b) b (drop i file)
      ∙ ap (λ (zs : List ℕ). xs ++ take b zs) (drop-drop (8 - b) i file ∙ ap (λ (k : ℕ). drop k file) at) in
      let size : length ys ≡ b = length_part (e - b) b file room in
      let below-ys : Below 256 ys = below_part 256 (e - b) b file below in
      let p : 256 ^ length ys ≡ (2 ^ b) ^ 8 = ap (λ (k : ℕ). 256 ^ k) size ∙ eight_many b 8 narrow in
      ap (λ (zs : List ℕ). digits (2 ^ b) 8 (value 256 zs)) both
      ∙ ap (digits (2 ^ b) 8) (value_append 256 xs ys ∙ ap (λ (q : ℕ). value 256 xs * q + value 256 ys) p)
      ∙ digits_join (2 ^ b) 0 8 (value 256 xs) (value 256 ys) (pow_pos b)
      (subst (λ (q : ℕ). value 256 ys < q) p (value_below 256 ys below-ys))
      ∙ sym (eight_row ys)
