-- Laws of the table of runs: each shape of a run that the code makes is the run of the definition, by tests that antt
-- computes over all codes; the run that eight entries hold; and the letters that the runs of a word's codes give.
use Prim.Native.Nat.{ℕ, ◌+◌, ◌*◌, ◌%◌, ◌≤◌, ◌<◌}
use mathlib.Core.Path.{◌≡◌, refl, sym, ap, ap₂, ◌∙◌}
use mathlib.Core.Bool.{Bool, true, false, cond, ◌&&◌}
use mathlib.Core.List.{List, ◌++◌}
use native.Mathlib.Omega.{arith}
use native.Mathlib.Numerals.{add-one}
use borrow.Author.Count.{below_more}
use borrow.Author.Tests.{ltb-true, leb-true, lt-ltb}
use lib.Dec.{leb, ltb, eqb}
use lib.ListN.{length, take, drop, get_or, length-append, length-drop}
use lib.Seq.{length-take-le, take-append-add, take-take}
use lib.Seq.{get_or-take, get_or-drop, ext_get_or}
use Rattle.base.specs.Lists.{every, equal, values_from, values}
use Rattle.base.specs.Digits.{part}
use Rattle.base.specs.Packing.{Below}
use Rattle.base.proofs.ListLaws.{and_left, and_right, every_values, equal_true, length_values, get_d_values}
use Rattle.word.specs.Letters.{is_letter, is_inverse, generator}
use Rattle.word.proofs.LetterLaws.{Lettered, letter_below}
use Rattle.word_dialect.specs.Dialect.{inverted, run_of, signed_run, run, converted}
use Rattle.word_dialect.specs.steps.Table.{code_at, Steps, Row, Before, table_run, HoldsRuns, IsTable, laid}
use Rattle.word_dialect.proofs.EachLaws.{each_more, each_alike}

-- ---- the shapes of runs

abbrev shaped : List ℕ → ℕ → ℕ → ℕ → Bool
shaped run first step number =
    ltb first 16 && (ltb step 16 && (leb number 7 && equal (values (code_at first step) number) run))

-- a run that passes the test has this first code, step and number
steps_are : (run : List ℕ) (first step number : ℕ) → shaped run first step number ≡ true → Steps run first step number
steps_are run first step number e =
    let rest = and_right (ltb first 16) _ e in
    let last = and_right (ltb step 16) _ rest in
    let same : values (code_at first step) number ≡ run =
    equal_true (values (code_at first step) number) run (and_right (leb number 7) _ last) in
    record {
      first_below = ltb-true first 16 (and_left (ltb first 16) _ e);
      step_below = ltb-true step 16 (and_left (ltb step 16) _ rest);
      few = leb-true number 7 (and_left (leb number 7) _ last);
      number_is = sym (length_values (code_at first step) 0 number) ∙ ap length same;
      letters_are = λ i b.
          sym (get_d_values (code_at first step) number i b) ∙ ap (λ (l : List ℕ). get_or l i 0) same;
    }

-- a test of all codes, and of all numbers of generators that can come after a code's own
abbrev over_all : (ℕ → ℕ → Bool) → Bool
over_all t =
    every (λ c. every (λ n. cond (ltb (generator c + n) 8) (t c n) true) (values (λ n. n) 7)) (values (λ c. c) 16)

abbrev Fits : ℕ → ℕ → Type 0
Fits c n = (c < 16) × (generator c + n < 8) × (n < 7)

cond_true : (b : Bool) {r : Bool} → b ≡ true → cond b r true ≡ true → r ≡ true
cond_true b {r} e h = ap (λ (b : Bool). cond b r true) (sym e) ∙ h

one_of_all : (t : ℕ → ℕ → Bool) → over_all t ≡ true → (c n : ℕ) → Fits c n → t c n ≡ true
one_of_all t h c n f =
    cond_true (ltb (generator c + n) 8) (lt-ltb (generator c + n) 8 f.1)
    (every_values (λ n. cond (ltb (generator c + n) 8) (t c n) true) (λ n. n) 7
    (every_values (λ c. every (λ n. cond (ltb (generator c + n) 8) (t c n) true) (values (λ n. n) 7)) (λ c. c) 16 h c
    f.0)
    n f.2)

-- the sign of a code decides, and whether a generator comes after its own
abbrev y_shape : Bool → Bool → ℕ → ℕ → Bool
y_shape true true c n = shaped (signed_run true c n) (generator c + 8) 0 1
y_shape true false c n = shaped (signed_run true c n) (generator c + 1) 7 2
y_shape false true c n = shaped (signed_run true c n) (generator c) 0 1
y_shape false false c n = shaped (signed_run true c n) (generator c) 9 2

abbrev artin_shape : Bool → ℕ → ℕ → Bool
artin_shape true c n = shaped (signed_run false c n) (generator c + n + 8) 15 (n + 1)
artin_shape false c n = shaped (signed_run false c n) (generator c) 1 (n + 1)

y_shapes : over_all (λ c n. y_shape (is_inverse c) (eqb n 0) c n) ≡ true
unfolding values_from every equal inverted run_of signed_run code_at
y_shapes = refl

artin_shapes : over_all (λ c n. artin_shape (is_inverse c) c n) ≡ true
unfolding values_from every equal inverted run_of signed_run code_at
artin_shapes = refl

module _ (c n : ℕ) (f : Fits c n) where
  y_shape_lem : (inv last : Bool) → is_inverse c ≡ inv → eqb n 0 ≡ last → y_shape inv last c n ≡ true
  y_shape_lem inv last i l =
      ap₂ (λ (a b : Bool). y_shape a b c n) (sym i) (sym l)
      ∙ one_of_all (λ c n. y_shape (is_inverse c) (eqb n 0) c n) y_shapes c n f

  artin_shape_lem : (inv : Bool) → is_inverse c ≡ inv → artin_shape inv c n ≡ true
  artin_shape_lem inv i =
      ap (λ (a : Bool). artin_shape a c n) (sym i)
      ∙ one_of_all (λ c n. artin_shape (is_inverse c) c n) artin_shapes c n f

  pub y_inverse_last : is_inverse c ≡ true → eqb n 0 ≡ true → Steps (signed_run true c n) (generator c + 8) 0 1
  y_inverse_last i l = steps_are _ _ _ _ (y_shape_lem true true i l)

  pub y_inverse : is_inverse c ≡ true → eqb n 0 ≡ false → Steps (signed_run true c n) (generator c + 1) 7 2
  y_inverse i l = steps_are _ _ _ _ (y_shape_lem true false i l)

  pub y_last : is_inverse c ≡ false → eqb n 0 ≡ true → Steps (signed_run true c n) (generator c) 0 1
  y_last i l = steps_are _ _ _ _ (y_shape_lem false true i l)

  pub y_other : is_inverse c ≡ false → eqb n 0 ≡ false → Steps (signed_run true c n) (generator c) 9 2
  y_other i l = steps_are _ _ _ _ (y_shape_lem false false i l)

  pub artin_inverse : is_inverse c ≡ true → Steps (signed_run false c n) (generator c + n + 8) 15 (n + 1)
  artin_inverse i = steps_are _ _ _ _ (artin_shape_lem true i)

  pub artin_other : is_inverse c ≡ false → Steps (signed_run false c n) (generator c) 1 (n + 1)
  artin_other i = steps_are _ _ _ _ (artin_shape_lem false i)

-- ---- the entries of a code

-- the next code
pub code_next : (first step i : ℕ) → (code_at first step i + step) % 16 ≡ code_at first step (i + 1)
unfolding code_at
code_next first step i = ap (code_at first step) (sym (add-one i))

module _ (table : List ℕ) (c : ℕ) (room : 8 * c + 8 ≤ length table) (few : get_or table (8 * c + 7) 0 ≤ 7) where
  pub length_run : length (table_run table c) ≡ get_or table (8 * c + 7) 0
  unfolding table_run
  length_run =
      let l : length (part (8 * c) 7 table) ≡ 7 =
      length-take-le 7 (drop (8 * c) table) (omega (arith, length-drop (8 * c) table)) in
      length-take-le (get_or table (8 * c + 7) 0) (part (8 * c) 7 table) (omega arith)

  letter_of_run : (i : ℕ) → i < get_or table (8 * c + 7) 0 → get_or (table_run table c) i 0 ≡ get_or table (8 * c + i) 0
  unfolding table_run
  letter_of_run i b =
      get_or-take (get_or table (8 * c + 7) 0) (part (8 * c) 7 table) i 0 b
      ∙ get_or-take 7 (drop (8 * c) table) i 0 (omega arith) ∙ get_or-drop (8 * c) table i 0

  -- the entries of a code hold a run
  run_there : (run : List ℕ) → get_or table (8 * c + 7) 0 ≡ length run
      → ((i : ℕ) → i < length run → get_or table (8 * c + i) 0 ≡ get_or run i 0)
      → table_run table c ≡ run
  run_there run n l =
      ext_get_or 0 (table_run table c) run (length_run ∙ n)
      (λ i b. let k : i < length run = omega (arith, length_run, n) in
      letter_of_run i (omega arith) ∙ l i k)

module _ (way : Bool) (parts before after : List ℕ) (c : ℕ) (b : c < 16) (size : length after ≡ length before)
    (all : length before ≡ 128) (same : Before (8 * c) before after) (held : HoldsRuns way parts c before) where
  -- the runs of the codes below c are still there
  still_there : (d : ℕ) → d < c → (get_or after (8 * d + 7) 0 ≤ 7) × (table_run after d ≡ run way parts d)
  still_there d l =
      let n : get_or after (8 * d + 7) 0 ≡ get_or before (8 * d + 7) 0 = same (8 * d + 7) (omega arith) in
      let few = (held d l).0 in
      let room : 8 * d + 8 ≤ length before = omega arith in
      let room' : 8 * d + 8 ≤ length after = omega arith in
      let few' : get_or after (8 * d + 7) 0 ≤ 7 = omega arith in
      let k = length_run before d room few in (
        few',
        run_there after d room' few' (table_run before d) (n ∙ sym k)
            (λ i h. same (8 * d + i) (omega arith) ∙ sym (letter_of_run before d room few i (omega arith)))
            ∙ (held d l).1,
      )

  -- one more code
  pub holds_more : {first step number : ℕ} → Steps (run way parts c) first step number → Row after c first step number
      → HoldsRuns way parts (c + 1) after
  holds_more s r =
      let few : get_or after (8 * c + 7) 0 ≤ 7 = omega (arith, r.number_there, s.few) in
      below_more (λ d. (get_or after (8 * d + 7) 0 ≤ 7) × (table_run after d ≡ run way parts d)) c still_there (
        few,
        run_there after c (omega arith) few (run way parts c) (r.number_there ∙ s.number_is)
            (λ i h. let k : i < 7 = omega (arith, s.number_is, s.few) in
            r.letters_there i k ∙ s.letters_are i (omega (arith, s.number_is))),
      )

-- ---- the runs of a word

pub holds_table : (way : Bool) (parts table : List ℕ) → length table ≡ 128 → HoldsRuns way parts 16 table
    → IsTable table
holds_table way parts table l h = record { size = l; few = λ c b. (h c b).0 }

-- if a table holds the runs of all codes, the runs of a word's codes are the converted word
pub laid_converted : (way : Bool) (parts table w : List ℕ) → HoldsRuns way parts 16 table → Lettered w
    → laid table w ≡ converted way parts w
unfolding laid converted
laid_converted way parts table w h e =
    each_alike (table_run table) (run way parts) is_letter (λ c l. (h c (omega (arith, letter_below c l))).1) w e

module _ (table w : List ℕ) (t : IsTable table) (below : Below 16 w) (k : ℕ) (h : k < length w) where
  abbrev c : ℕ
  c = get_or w k 0

  -- one more run
  pub laid_more : laid table (take (k + 1) w) ≡ laid table (take k w) ++ table_run table c
  unfolding laid
  laid_more = each_more (table_run table) w k h

  pub run_length : length (table_run table c) ≡ get_or table (8 * c + 7) 0
  run_length =
      length_run table c (omega (arith, below k, t.size)) (t.few c (below k))

  pub laid_length : length (laid table (take (k + 1) w)) ≡ length (laid table (take k w)) + get_or table (8 * c + 7) 0
  laid_length =
      ap length laid_more ∙ length-append (laid table (take k w)) (table_run table c)
      ∙ ap (λ (n : ℕ). length (laid table (take k w)) + n) run_length

-- ---- writing a run

-- at least seven entries are written from place `at` on: the run stands after what was there
pub run_written : (table row put : List ℕ) (c at i : ℕ) → IsTable table → c < 16 → at ≤ length row → 7 ≤ i
    → take (at + i) put ≡ take at row ++ part (8 * c) i table
    → take (at + get_or table (8 * c + 7) 0) put ≡ take at row ++ table_run table c
unfolding table_run
run_written table row put c at i t b room seven e =
    let n = get_or table (8 * c + 7) 0 in
    let few : n ≤ 7 = t.few c b in
    let front = length-take-le at row room in
    sym (take-take (at + n) (at + i) put (omega arith)) ∙ ap (take (at + n)) e
    ∙ ap (λ (m : ℕ). take (m + n) (take at row ++ part (8 * c) i table)) (sym front)
    ∙ take-append-add (take at row) (part (8 * c) i table) n
    ∙ ap (λ (x : List ℕ). take at row ++ x)
    (take-take n i (drop (8 * c) table) (omega arith) ∙ sym (take-take n 7 (drop (8 * c) table) few))
