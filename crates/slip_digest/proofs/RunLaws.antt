-- Codes in steps: one more code, the first k of n codes, and three runs of which each overwrites the end of the last.
-- The three runs are the braid of a half byte.
use Prim.Native.Nat.{ℕ, ◌+◌, ◌-◌, ◌*◌, ◌%◌, ◌≤◌, ◌<◌}
use mathlib.Core.Path.{◌≡◌, sym, ap, ap₂, ◌∙◌}
use mathlib.Core.List.{List, [], ◌∷◌, ◌++◌, append_assoc}
use native.Mathlib.Nat.{mul-add, mul-one}
use native.Mathlib.Numerals.{add-one}
use native.Mathlib.Omega.{arith}
use lib.ListN.{length, take, drop, set}
use Rattle.std.proofs.lemmas.Grind.{common_steps}
use lib.Seq.{take-suc, take-suc-set, take-take, take_all, take-append-add, length-take-le, get_or-take}
use Rattle.base.proofs.ListLaws.{length_values, get_d_values, values_of}
use Rattle.slip_digest.specs.Digest.{half_byte_braid}
use Rattle.slip_digest.specs.steps.Runs.{progression}
use Rattle.slip_digest.proofs.HalfByte.{over, twice, over_six, three_runs}

module _ (first step : ℕ) where
  abbrev code : ℕ → ℕ
  code i = (first + step * i) % 16

  -- the next code
  pub code_next : (i : ℕ) → (code i + step) % 16 ≡ code (i + 1)
  code_next i =
      let e : step * (i + 1) ≡ step * i + step = mul-add step i 1 ∙ ap (λ (x : ℕ). step * i + x) (mul-one step) in
      rw e (omega arith)

  -- the first k of n codes, and one more code
  progression_take : (k n : ℕ) → k ≤ n → take k (progression first step n) ≡ progression first step k
  progression_take k n h =
      let size : length (progression first step n) ≡ n = length_values code 0 n in
      values_of code k (take k (progression first step n)) (length-take-le k (progression first step n) (omega arith))
      (λ j b. get_or-take k (progression first step n) j 0 b ∙ get_d_values code n j (omega arith))

  progression_more : (n : ℕ) → progression first step (n + 1) ≡ progression first step n ++ (code n ∷ [])
  progression_more n =
      let all = progression first step (n + 1) in
      let size : length all ≡ n + 1 = length_values code 0 (n + 1) in
      sym (take_all (n + 1) all (omega arith)) ∙ ap (λ (k : ℕ). take k all) (add-one n) ∙ take-suc all n 0 (omega arith)
      ∙ ap₂ (λ (w : List ℕ) (x : ℕ). w ++ (x ∷ [])) (progression_take n (n + 1) (omega arith))
      (get_d_values code (n + 1) n (omega arith))

  pub one_more : (codes : List ℕ) (i : ℕ) → i < length codes → take i codes ≡ progression first step i
      → take (i + 1) (set codes i (code i)) ≡ progression first step (i + 1)
  one_more codes i h e = rw (progression_more i, add-one i, take-suc-set codes i (code i) h, e)

  -- if n codes were written, the first k of them were written
  shorter : (codes before : List ℕ) (at k n : ℕ) → k ≤ n → length before ≡ at
      → take (at + n) codes ≡ before ++ progression first step n
      → take (at + k) codes ≡ before ++ progression first step k
  shorter codes before at k n h l e =
      sym (take-take (at + k) (at + n) codes (omega arith)) ∙ ap (take (at + k)) e
      ∙ ap (λ (m : ℕ). take (m + k) (before ++ progression first step n)) (sym l)
      ∙ take-append-add before (progression first step n) k ∙ ap (λ (w : List ℕ). before ++ w) (progression_take k n h)

-- ---- three runs, each of which overwrites the excess of the last

-- n codes of a row replaced by a run, from place `at` on
abbrev put : ℕ → ℕ → List ℕ → List ℕ → List ℕ
put at n codes run = take at codes ++ (run ++ drop n (drop at codes))

module _ (at n : ℕ) (codes run : List ℕ) (size : length run ≡ n) (room : at + n ≤ length codes) where
  length_put : length (put at n codes run) ≡ length codes
  length_put = grind (arith, common_steps)

  take_put : take (at + n) (put at n codes run) ≡ take at codes ++ run
  take_put =
      let before : length (take at codes) ≡ at = length-take-le at codes (omega arith) in
      ap (λ (m : ℕ). take (m + n) (put at n codes run)) (sym before)
      ∙ take-append-add (take at codes) (run ++ drop n (drop at codes)) n
      ∙ ap (λ (w : List ℕ). take at codes ++ w) whole
    where
      whole : take n (run ++ drop n (drop at codes)) ≡ run
      whole = grind (arith, common_steps)

-- the first k codes of a run stand after it is put in place
first_put : (first step at n m k : ℕ) (codes run : List ℕ) → run ≡ progression first step m → m ≡ n → k ≤ n
    → at + n ≤ length codes → take (at + k) (put at n codes run) ≡ take at codes ++ progression first step k
first_put first step at n m k codes run e s h room =
    let size : length run ≡ n = ap length e ∙ length_values (code first step) 0 m ∙ s in
    shorter first step (put at n codes run) (take at codes) at k n h (length-take-le at codes (omega arith))
    (take_put at n codes run size room
    ∙ ap (λ (w : List ℕ). take at codes ++ w) (e ∙ ap (progression first step) s))

pub appended : (h at above a b c a' b' c' : ℕ) (codes run power back : List ℕ) → h < 16 → above ≡ over h
    → at + 20 ≤ length codes → (a ≡ 6) × (b ≡ 8) × (c ≡ 6) → (a' ≡ 6) × (b' ≡ 8) × (c' ≡ 6)
    → run ≡ progression 6 15 a' → power ≡ progression (6 - above) 0 b' → back ≡ progression (15 - above) 1 c'
    → take (at + above + twice h + above)
    (put (at + above + twice h) c (put (at + above) b (put at a codes run) power) back)
    ≡ take at codes ++ half_byte_braid h
appended h at above a b c a' b' c' codes run power back p o room (a₁, b₁, c₁) (a₂, b₂, c₂) er ep eu =
    let six : above ≤ 6 = omega (arith, over_six h) in
    let first : List ℕ = put at a codes run in
    let second : List ℕ = put (at + above) b first power in
    let l₁ : length first ≡ length codes =
    length_put at a codes run (ap length er ∙ length_values (code 6 15) 0 a' ∙ omega arith) (omega arith) in
    let l₂ : length second ≡ length first =
    length_put (at + above) b first power (ap length ep ∙ length_values (code (6 - above) 0) 0 b' ∙ omega arith)
    (omega arith) in
    first_put (15 - above) 1 (at + above + twice h) c c' above second back eu (omega arith) (omega arith) (omega arith)
    ∙ ap (λ (w : List ℕ). w ++ progression (15 - above) 1 above)
    (first_put (6 - above) 0 (at + above) b b' (twice h) first power ep (omega arith) (omega arith) (omega arith)
    ∙ ap (λ (w : List ℕ). w ++ progression (6 - above) 0 (twice h))
    (first_put 6 15 at a a' above codes run er (omega arith) (omega arith) (omega arith)))
    ∙ ap (λ (w : List ℕ). w ++ progression (15 - above) 1 above)
    (append_assoc (take at codes) (progression 6 15 above) (progression (6 - above) 0 (twice h)))
    ∙ append_assoc (take at codes) (progression 6 15 above ++ progression (6 - above) 0 (twice h))
    (progression (15 - above) 1 above)
    ∙ ap (λ (w : List ℕ). take at codes ++ w)
    (append_assoc (progression 6 15 above) (progression (6 - above) 0 (twice h)) (progression (15 - above) 1 above)
    ∙ ap (λ (x : ℕ). progression 6 15 x ++ (progression (6 - x) 0 (twice h) ++ progression (15 - x) 1 x)) o
    ∙ three_runs h p)
