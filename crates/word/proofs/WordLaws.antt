-- Laws of word files: a letter's code is below 15; the packed codes one by one; a word's file byte by byte.
use Prim.Native.Nat.{ℕ, zero, suc, ◌+◌, ◌*◌, ◌/◌, ◌%◌, ◌≤◌, ◌<◌}
use mathlib.Core.Path.{◌≡◌, refl, sym, ap, ap₂, ◌∙◌}
use mathlib.Core.Bool.{true}
use mathlib.Core.List.{List, [], ◌∷◌, ◌++◌}
use native.Mathlib.Omega.{arith}
use lib.ListN.{length, take, drop, get_or}
use lib.Seq.{take-add, get_or-drop}
use Rattle.base.specs.Lists.{every}
use Rattle.base.specs.Digits.{value, digits}
use Rattle.base.specs.Packing.{Below, packed_row}
use Rattle.base.proofs.ListLaws.{every_all}
use Rattle.base.proofs.RowLaws.{packed_append}
use Rattle.word.specs.Letters.{is_letter}
use Rattle.word.specs.Words.{needed, packed, word_file}
use Rattle.word.proofs.LetterLaws.{letter_below}

-- ---- letters

pub letters_below : (cs : List ℕ) → every is_letter cs ≡ true → (k : ℕ) → get_or cs k 0 < 15
letters_below cs e k = letter_below (get_or cs k 0) (every_all is_letter refl cs e k)

-- ---- packed codes

pub length_packed : (cs : List ℕ) → length (packed cs) ≡ (length cs + 1) / 2
unfolding packed
length_packed [] = refl
length_packed (a ∷ []) = refl
length_packed (a ∷ b ∷ cs) = let e = length_packed cs in omega arith

-- packed codes are a row of numbers of 4 bits
pub packed_row_lem : (cs : List ℕ) → Below 16 cs → packed cs ≡ packed_row 4 cs
unfolding packed packed_row digits value
packed_row_lem [] h = refl
packed_row_lem (a ∷ []) h = let e : a * 16 ≡ (a * 1 + 0) * 16 / 1 % 256 = omega (arith, h 0) in ap (λ (x : ℕ). x ∷ []) e
packed_row_lem (a ∷ b ∷ cs) h =
    let e : a * 16 + b ≡ (a * 16 + (b * 1 + 0)) / 1 % 256 = omega (arith, h 0, h 1) in
    ap₂ (λ (x : ℕ) (xs : List ℕ). x ∷ xs) e (packed_row_lem cs (λ k. h (suc (suc k))))
    ∙ sym (packed_append 4 1 (a ∷ b ∷ []) cs refl (λ k. h (suc (suc k))))

-- byte k of the packed codes holds codes 2 k and 2 k + 1; a code past the end is 0
pub get_d_packed : (cs : List ℕ) (k : ℕ) → get_or (packed cs) k 0 ≡ get_or cs (k * 2) 0 * 16 + get_or cs (k * 2 + 1) 0
unfolding packed
get_d_packed [] k = refl
get_d_packed (a ∷ []) zero = omega arith
get_d_packed (a ∷ []) (suc k) =
    let e : suc k * 2 ≡ suc (k * 2 + 1) = omega arith in
    let f : suc k * 2 + 1 ≡ suc (k * 2 + 2) = omega arith in
    rw (f, e)
get_d_packed (a ∷ b ∷ cs) zero = refl
get_d_packed (a ∷ b ∷ cs) (suc k) =
    let e : suc k * 2 ≡ suc (suc (k * 2)) = omega arith in
    let f : suc k * 2 + 1 ≡ suc (suc (k * 2 + 1)) = omega arith in
    rw (f, e) (get_d_packed cs k)

-- ---- the file of a word

pub length_word_file : (cs : List ℕ) → length (word_file cs) ≡ needed (length cs)
unfolding word_file digits
length_word_file cs = omega (arith, length_packed cs)

pub word_file_rest : (cs : List ℕ) → drop 2 (word_file cs) ≡ packed cs
unfolding word_file digits
word_file_rest cs = refl

-- the first two bytes of a word's file are the number of letters, high byte first
pub word_file_number : (cs : List ℕ) → length cs ≤ 10000 → take 2 (word_file cs) ≡ length cs / 256 ∷ length cs % 256
    ∷ []
unfolding word_file digits
word_file_number cs h =
    let a : length cs / 256 % 256 ≡ length cs / 256 = omega arith in
    let b : length cs / 1 % 256 ≡ length cs % 256 = omega arith in
    ap₂ (λ (x y : ℕ). x ∷ y ∷ []) a b

-- the first 2 + k bytes of a word's file: the two length bytes, then k bytes of packed codes
pub word_file_front : (cs : List ℕ) (k : ℕ) → take (2 + k) (word_file cs) ≡ take 2 (word_file cs) ++ take k (packed cs)
word_file_front cs k =
    take-add 2 k (word_file cs) ∙ ap (λ (l : List ℕ). take 2 (word_file cs) ++ take k l) (word_file_rest cs)

-- byte k after the two length bytes holds codes 2 k and 2 k + 1; a code past the end is 0
pub word_file_byte : (cs : List ℕ) (k : ℕ)
    → get_or (word_file cs) (2 + k) 0 ≡ get_or cs (k * 2) 0 * 16 + get_or cs (k * 2 + 1) 0
word_file_byte cs k =
    sym (get_or-drop 2 (word_file cs) k 0) ∙ ap (λ (l : List ℕ). get_or l k 0) (word_file_rest cs) ∙ get_d_packed cs k
