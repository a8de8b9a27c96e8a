-- The braid of a half byte in three runs: down, the power, and up again; how long it is, and that every code is a
-- letter. Each rule is one test that antt computes over the sixteen half bytes, or over the four low parts of one.
use Prim.Native.Nat.{ℕ, zero, suc, ◌+◌, ◌*◌, ◌-◌, ◌/◌, ◌%◌, ◌<◌, ◌≤◌}
use mathlib.Core.Path.{◌≡◌, refl, ◌∙◌}
use mathlib.Core.Bool.{Bool, true, ◌&&◌}
use mathlib.Core.List.{List, [], ◌∷◌, ◌++◌, map, reverse}
use native.Mathlib.Omega.{arith}
use borrow.Author.Tests.{eqb-true, leb-true}
use lib.Dec.{eqb, leb}
use lib.ListN.{length, get_or, replicate}
use Rattle.base.specs.Lists.{every, equal, values_from, values}
use Rattle.base.proofs.ListLaws.{and_left, and_right, and_both, every_append, every_values, equal_true}
use Rattle.word.specs.Letters.{is_letter}
use Rattle.slip_digest.specs.Digest.{selected, power_of, above, half_byte_braid}
use Rattle.slip_digest.specs.steps.Runs.{progression}

-- the number of generators above b_l, up to b7
abbrev pub over : ℕ → ℕ
over h = 7 - selected h

-- the rule of the low two bits
low_two : (r : ℕ) → r < 4 → 7 - 2 * r ≡ get_or (7 ∷ 5 ∷ 3 ∷ 1 ∷ []) r 0
low_two zero h = refl
low_two (suc zero) h = refl
low_two (suc (suc zero)) h = refl
low_two (suc (suc (suc zero))) h = refl
low_two (suc (suc (suc (suc r)))) h = absurd (omega arith)

pub selected_is : (h : ℕ) → 7 - 2 * (h % 4) ≡ selected h
selected_is h = low_two (h % 4) (omega arith)

-- the number of letters b_l: 2 × p
abbrev pub twice : ℕ → ℕ
twice h = 2 * (h / 4 + 1)

pub over_six : (h : ℕ) → over h ≤ 6
over_six h = omega (arith, selected_is h)

-- the length of a half byte's braid, which is at most 20
abbrev length_rule : ℕ → Bool
length_rule h = eqb (over h + twice h + over h) (length (half_byte_braid h)) && leb (length (half_byte_braid h)) 20

lengths : every length_rule (values (λ h. h) 16) ≡ true
unfolding half_byte_braid values_from every
lengths = refl

rule : (h : ℕ) → h < 16 → length_rule h ≡ true
rule h p = every_values length_rule (λ k. k) 16 lengths h p

pub braid_length : (h : ℕ) → h < 16 → over h + twice h + over h ≡ length (half_byte_braid h)
braid_length h p = eqb-true _ _ (and_left _ _ (rule h p))

pub braid_short : (h : ℕ) → h < 16 → length (half_byte_braid h) ≤ 20
braid_short h p = leb-true _ _ (and_right (eqb (over h + twice h + over h) (length (half_byte_braid h))) _ (rule h p))

-- the codes of a half byte's braid are letters, whatever the number: the codes around the power, and the code of the
-- power
abbrev around : ℕ → Bool
around l = every is_letter (reverse (above l)) && every is_letter (map (λ c. c + 8) (above l))

abbrev letter_rule : ℕ → Bool
letter_rule k = let l : ℕ = get_or (7 ∷ 5 ∷ 3 ∷ 1 ∷ []) k 0 in around l && is_letter (l - 1)

four : every letter_rule (values (λ k. k) 4) ≡ true
unfolding values_from every
four = refl

repeated : (c n : ℕ) → is_letter c ≡ true → every is_letter (replicate n c) ≡ true
unfolding every
repeated c zero e = refl
repeated c (suc n) e = and_both e (repeated c n e)

pub braid_letters : (h : ℕ) → every is_letter (half_byte_braid h) ≡ true
unfolding half_byte_braid
braid_letters h =
    let l : ℕ = selected h in
    let down : List ℕ = reverse (above l) in
    let power : List ℕ = replicate (2 * power_of h) (l - 1) in
    let up : List ℕ = map (λ c. c + 8) (above l) in
    let t : letter_rule (h % 4) ≡ true = every_values letter_rule (λ k. k) 4 four (h % 4) (omega arith) in
    let a = and_left (around l) (is_letter (l - 1)) t in
    every_append is_letter down (power ++ up)
    ∙ and_both (and_left (every is_letter down) (every is_letter up) a)
    (every_append is_letter power up
    ∙ and_both (repeated (l - 1) (2 * power_of h) (and_right (around l) (is_letter (l - 1)) t))
    (and_right (every is_letter down) (every is_letter up) a))

-- b7 down to b_(l+1), then b_l, then the inverses up to b7
abbrev runs : ℕ → List ℕ
runs h = progression 6 15 (over h) ++ (progression (6 - over h) 0 (twice h) ++ progression (15 - over h) 1 (over h))

three : every (λ h. equal (runs h) (half_byte_braid h)) (values (λ h. h) 16) ≡ true
unfolding half_byte_braid values_from every equal
three = refl

pub three_runs : (h : ℕ) → h < 16 → runs h ≡ half_byte_braid h
three_runs h p =
    equal_true (runs h) (half_byte_braid h)
    (every_values (λ h. equal (runs h) (half_byte_braid h)) (λ k. k) 16 three h p)
