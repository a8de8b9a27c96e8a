-- The first n packed codes of a row of bytes, eight bytes at a time: they are the codes of the bytes already unpacked
-- and the codes that are left. The codes of the next eight bytes are letters if all n codes are. The last codes are
-- unpacked to the front of a row.
use Prim.Native.Nat.{ℕ, ◌+◌, ◌-◌, ◌*◌, ◌/◌, ◌≤◌}
use mathlib.Core.Path.{◌≡◌, sym, ap, ap₂, ◌∙◌}
use mathlib.Core.Bool.{true, ◌&&◌}
use mathlib.Core.List.{List, ◌++◌}
use native.Mathlib.Omega.{arith}
use lib.ListN.{length, take, drop, length-drop, take-append-drop}
use lib.Seq.{length-take-le, take-take, take-append-le, take-append-add}
use Rattle.base.specs.Lists.{every, overlaid}
use Rattle.base.specs.Digits.{halves, part}
use Rattle.base.proofs.ListLaws.{and_left, and_right, every_append, every_take}
use Rattle.base.proofs.DigitLaws.{length_halves, halves_append, take_halves}
use Rattle.word.specs.Letters.{is_letter}
use Rattle.word.proofs.LetterLaws.{Lettered}

module _ (bytes : List ℕ) (n : ℕ) (enough : n ≤ 2 * length bytes) where
  codes_split : (done : ℕ) → 2 * done ≤ n
      → take n (halves bytes) ≡ halves (take done bytes) ++ take (n - 2 * done) (halves (drop done bytes))
  codes_split done h =
      let front : length (halves (take done bytes)) ≡ 2 * done =
      length_halves (take done bytes) ∙ ap (λ (k : ℕ). 2 * k) (length-take-le done bytes (omega arith)) in
      let all : n ≡ length (halves (take done bytes)) + (n - 2 * done) = omega arith in
      ap₂ take all (ap halves (sym (take-append-drop done bytes)) ∙ halves_append (take done bytes) (drop done bytes))
      ∙ take-append-add (halves (take done bytes)) (halves (drop done bytes)) (n - 2 * done)

  -- all n codes are letters
  module _ (lettered : Lettered (take n (halves bytes))) where
    both_lettered : (done : ℕ) → 2 * done ≤ n
        → every is_letter (halves (take done bytes)) && every is_letter (take (n - 2 * done) (halves (drop done bytes)))
        ≡ true
    both_lettered done h =
        sym (ap (every is_letter) (codes_split done h)
        ∙ every_append is_letter (halves (take done bytes)) (take (n - 2 * done) (halves (drop done bytes))))
        ∙ lettered

    pub front_lettered : (done : ℕ) → 2 * done ≤ n → Lettered (halves (take done bytes))
    front_lettered done h =
        and_left (every is_letter (halves (take done bytes)))
        (every is_letter (take (n - 2 * done) (halves (drop done bytes)))) (both_lettered done h)

    rest_lettered : (done : ℕ) → 2 * done ≤ n → Lettered (take (n - 2 * done) (halves (drop done bytes)))
    rest_lettered done h =
        and_right (every is_letter (halves (take done bytes)))
        (every is_letter (take (n - 2 * done) (halves (drop done bytes)))) (both_lettered done h)

    -- the sixteen codes of the next eight bytes are letters
    pub word_lettered : (k : ℕ) → 2 * k + 16 ≤ n → Lettered (halves (part k 8 bytes))
    word_lettered k h =
        ap (every is_letter)
        (sym (take_halves 8 (drop k bytes)) ∙ sym (take-take 16 (n - 2 * k) (halves (drop k bytes)) (omega arith)))
        ∙ every_take is_letter 16 (take (n - 2 * k) (halves (drop k bytes))) (rest_lettered k (omega arith))

  -- the last codes, unpacked to the front of a row
  module _ (done : ℕ) (h : 2 * done ≤ n) (row₀ row : List ℕ)
      (e : row ≡ overlaid (halves (take ((n + 1) / 2 - done) (drop done bytes))) row₀) where
    last_codes : take (n - 2 * done) row ≡ take (n - 2 * done) (halves (drop done bytes))
    unfolding overlaid
    last_codes =
        let m : ℕ = (n + 1) / 2 - done in
        let hs = halves (take m (drop done bytes)) in
        let size : length hs ≡ 2 * m =
        length_halves (take m (drop done bytes))
        ∙ ap (λ (k : ℕ). 2 * k) (length-take-le m (drop done bytes) (omega (arith, length-drop done bytes))) in
        ap (take (n - 2 * done)) e
        ∙ take-append-le (n - 2 * done) hs (drop (length hs) row₀) (omega arith)
        ∙ ap (take (n - 2 * done)) (sym (take_halves m (drop done bytes)))
        ∙ take-take (n - 2 * done) (2 * m) (halves (drop done bytes)) (omega arith)

    pub codes_last : take n (halves bytes) ≡ halves (take done bytes) ++ take (n - 2 * done) row
    codes_last = codes_split done h ∙ ap (λ (l : List ℕ). halves (take done bytes) ++ l) (sym last_codes)

    pub last_lettered : Lettered (take n (halves bytes)) → Lettered (take (n - 2 * done) row)
    last_lettered lettered = ap (every is_letter) last_codes ∙ rest_lettered lettered done h
