-- Groups of eight codes in four bytes: the number that their signs or their generators write, and one more group in the
-- output.
use Prim.Native.Nat.{ℕ, ◌+◌, ◌*◌, ◌/◌, ◌%◌, ◌^◌, ◌≤◌, ◌<◌}
use mathlib.Core.Path.{◌≡◌, sym, ap, ap₂, ◌∙◌}
use mathlib.Core.List.{List, [], ◌∷◌, ◌++◌, map, map-append}
use native.Mathlib.Nat.{add-zero, mul-suc}
use native.Mathlib.Numerals.{add-one}
use native.Mathlib.Omega.{arith}
use lib.ListN.{length, take, drop, get_or, length-drop, length-map}
use lib.Seq.{get_or-take, get_or-drop, length-take-le}
use Rattle.base.specs.Lists.{values_from, overlaid}
use Rattle.base.specs.Digits.{value, digits, part, halves}
use Rattle.base.proofs.ListLaws.{values_of, laid_more}
use Rattle.base.proofs.DigitLaws.{length_digits, length_halves, halves_more, value_append, digits_join}
use Rattle.base.proofs.PackLaws.{length_part}

-- four bytes from a place on, one by one
module _ (bytes : List ℕ) (at : ℕ) (h : at + 4 ≤ length bytes) where
  abbrev byte : ℕ → ℕ
  byte k = get_or bytes (at + k) 0

  pub four_bytes : part at 4 bytes ≡ get_or bytes at 0 ∷ byte 1 ∷ byte 2 ∷ byte 3 ∷ []
  unfolding values_from
  four_bytes =
      values_of byte 4 (part at 4 bytes) (length-take-le 4 (drop at bytes) (omega (arith, length-drop at bytes)))
      (λ k b. get_or-take 4 (drop at bytes) k 0 b ∙ get_or-drop at bytes k 0)
      ∙ ap (λ (i : ℕ). get_or bytes i 0 ∷ byte 1 ∷ byte 2 ∷ byte 3 ∷ []) (add-zero at)

-- the numbers of two codes each, put together
module _ (a b c d p q r s : ℕ) where
  pub four_signs : p ≡ a / 16 / 8 * 2 + a % 16 / 8 → q ≡ b / 16 / 8 * 2 + b % 16 / 8
      → r ≡ c / 16 / 8 * 2 + c % 16 / 8 → s ≡ d / 16 / 8 * 2 + d % 16 / 8
      → ((p * 4 + q) * 4 + r) * 4 + s ≡ value 2 (map (λ c. c / 8) (halves (a ∷ b ∷ c ∷ d ∷ [])))
  unfolding value halves
  four_signs ep eq er es = omega arith

  pub four_generators : p ≡ a / 16 % 8 * 8 + a % 16 % 8 → q ≡ b / 16 % 8 * 8 + b % 16 % 8
      → r ≡ c / 16 % 8 * 8 + c % 16 % 8 → s ≡ d / 16 % 8 * 8 + d % 16 % 8
      → ((p * 64 + q) * 64 + r) * 64 + s ≡ value 8 (map (λ c. c % 8) (halves (a ∷ b ∷ c ∷ d ∷ [])))
  unfolding value halves
  four_generators ep eq er es = omega arith

-- A number is made of each code by f. Eight of them to base b write as many numbers as n bytes.
module _ (f : ℕ → ℕ) (b n : ℕ) (e : b ^ 8 ≡ 256 ^ n) (bytes out₀ : List ℕ) where
  -- the numbers of the codes in the first k groups, and the bytes that they are packed into
  abbrev numbers : ℕ → List ℕ
  numbers k = map f (halves (take (4 * k) bytes))

  abbrev pub groups : ℕ → List ℕ
  groups k = digits 256 (n * k) (value b (numbers k))

  -- the numbers of one more group
  abbrev next : ℕ → List ℕ
  next k = map f (halves (part (4 * k) 4 bytes))

  module _ (k : ℕ) (h : 4 * k + 4 ≤ length bytes) where
    numbers_more : numbers (k + 1) ≡ numbers k ++ next k
    numbers_more =
        let four : 4 * (k + 1) ≡ 4 * k + 4 = omega arith in
        ap (λ (i : ℕ). map f (halves (take i bytes))) four
        ∙ ap (map f) (halves_more (4 * k) 4 bytes)
        ∙ map-append f (halves (take (4 * k) bytes)) (halves (part (4 * k) 4 bytes))

    eight_next : length (next k) ≡ 8
    eight_next =
        length-map (halves (part (4 * k) 4 bytes)) f
        ∙ length_halves (part (4 * k) 4 bytes)
        ∙ ap (λ (i : ℕ). 2 * i) (length_part (4 * k) 4 bytes h)

    groups_more : value b (next k) < 256 ^ n → groups (k + 1) ≡ groups k ++ digits 256 n (value b (next k))
    groups_more small =
        let places : n * (k + 1) ≡ n * k + n =
        ap (λ (i : ℕ). n * i) (add-one k) ∙ mul-suc n k in
        ap₂ (digits 256) places
        (ap (value b) numbers_more
        ∙ value_append b (numbers k) (next k)
        ∙ ap (λ (p : ℕ). value b (numbers k) * p + value b (next k)) (ap (λ (i : ℕ). b ^ i) eight_next ∙ e))
        ∙ digits_join 256 (n * k) n (value b (numbers k)) (value b (next k)) (omega arith) small

    -- one more group is spelled in its place of the output, as the borrow of a part leaves it
    pub group_spelled : (at size v : ℕ) (out got : List ℕ) → at ≡ n * k → size ≡ n → at + n ≤ length out
        → out ≡ overlaid (groups k) out₀ → (v ≡ value b (next k)) × (v < 256 ^ n)
        → got ≡ digits 256 (length (part at size out)) v
        → take at out ++ (got ++ drop size (drop at out)) ≡ overlaid (groups (k + 1)) out₀
    group_spelled at size v out got ea es room o ev eg =
        let v' : ℕ = value b (next k) in
        let small : v' < 256 ^ n = rw ev.0 at ev.1 in
        let g : got ≡ digits 256 n v' =
        eg ∙ ap₂ (λ (i w : ℕ). digits 256 i w) (ap (λ (i : ℕ). length (part at i out)) es ∙ length_part at n out room)
        ev.0 in
        ap (λ (l : List ℕ). take at out ++ (l ++ drop size (drop at out))) g
        ∙ laid_more (groups k) (digits 256 n v') out₀ out at size o (length_digits 256 (n * k) _ ∙ sym ea)
        (length_digits 256 n v' ∙ sym es)
        ∙ ap (λ (l : List ℕ). overlaid l out₀) (sym (groups_more small))
