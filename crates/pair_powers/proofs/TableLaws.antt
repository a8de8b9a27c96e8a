-- The constants of the powers: what three rows of constants do to three columns, and the table row by row.
use Prim.Native.Nat.{ℕ, suc, ◌+◌, ◌*◌, ◌-◌, ◌%◌, ◌<◌, ◌≤◌}
use mathlib.Core.Path.{◌≡◌, refl, sym, ap, subst, ◌∙◌}
use mathlib.Core.List.{List}
use mathlib.Core.Logic.{inl}
use native.Mathlib.Nat.{mod-eq_of_lt}
use native.Mathlib.Omega.{arith}
use native.Mathlib.Decide.{dec_lt}
use lib.ListN.{length, get_or}
use Rattle.base.specs.Packing.{Below}
use Rattle.field.specs.Binary.{Operations}
use Rattle.field.specs.Polynomial.{Degree, polynomials, times}
use Rattle.matrix_columns.specs.steps.Lanes.{lane, chosen, InLanes}
use Rattle.matrix_columns.specs.steps.Constants.{Multiples, Constants, Filled}
use Rattle.matrix_columns.proofs.LaneLaws.{lane_first}
use Rattle.matrix_columns.proofs.BitLaws.{by_constants}
use Rattle.pair.specs.steps.Columns.{Spread}
use Rattle.pair.proofs.ColumnLaws.{columns_spread}
use Rattle.pair_powers.specs.declared.Gains.{Gains}
use Rattle.pair_powers.specs.steps.Powers.{share_of_gains, no_gains, one_more, power_gains, ThreeMultiples}
use Rattle.pair_powers.specs.steps.Powers.{RunOnColumns, OneMoreIs, ProductIs, StoredThree, level_gains}
use Rattle.pair_powers.specs.steps.Powers.{LevelFilled, PowerTable}

-- r is the product of each lane of the column and the number whose constants stand at place `at`
abbrev Times : List ℕ → ℕ → ℕ → ℕ → ℕ → Type 0
Times table at bits column r = InLanes r (λ j. chosen (λ i. get_or table (at + i) 0) bits (lane j column))

pub raised : (bits : ℕ) (table : List ℕ) (at g : ℕ) (columns columns' : List ℕ) (x y z : ℕ) → g < 7
    → length columns ≡ 9
    → Spread x y z g columns columns'
    → Times table at bits (get_or columns (g + 1) 0) x
    → Times table (at + 8) bits (get_or columns (g + 1) 0) y
    → Times table (at + 16) bits (get_or columns (g + 1) 0) z
    → RunOnColumns bits table at g columns columns'
raised bits table at g columns columns' x y z hg size s tx ty tz =
    let column = get_or columns (g + 1) 0 in
    record {
      nine = s.places ∙ size;
      matrix_is = λ p degree n there.
          columns_spread bits p (share_of_gains (polynomials bits p) n) g columns columns' x y z s hg
          (by_constants degree table at n.left column x there.left_there tx)
          (by_constants degree table (at + 8) n.own column y there.own_there ty)
          (by_constants degree table (at + 16) n.right column z there.right_there tz);
    }

pub product_is : (bits : ℕ) (constants : List ℕ) (at number r : ℕ) → number < 256 → Times constants at bits number r
    → ProductIs bits constants at number (r % 256)
product_is bits constants at number r h lanes p degree t there =
    sym (lane_first r) ∙ by_constants degree constants at t number r there lanes 0 (omega arith)
    ∙ ap (times bits p t) (lane_first number ∙ mod-eq_of_lt h)

-- three rows of constants, stored one after another
pub stored_three : (F : Operations) (bits at : ℕ) (n : Gains) {before one two after : List ℕ} → bits ≤ 8
    → Filled F bits n.left at bits before one
    → Filled F bits n.own (at + 8) bits one two
    → Filled F bits n.right (at + 16) bits two after
    → StoredThree F bits at n before after
stored_three F bits at n small a b c =
    record {
      size = c.size ∙ b.size ∙ a.size;
      bytes = c.bytes;
      there = record {
        left_there = λ i h.
            c.elsewhere (at + i) (inl (omega arith)) ∙ b.elsewhere (at + i) (inl (omega arith)) ∙ a.there i h;
        own_there = λ i h. c.elsewhere (at + 8 + i) (inl (omega arith)) ∙ b.there i h;
        right_there = c.there;
      };
      elsewhere = λ i h.
          c.elsewhere i (inl (omega arith)) ∙ b.elsewhere i (inl (omega arith)) ∙ a.elsewhere i (inl h);
    }

-- three rows of constants stay where nothing has changed
kept : {F : Operations} {bits : ℕ} {before after : List ℕ} (at limit : ℕ) {n : Gains} → bits ≤ 8 → at + 24 ≤ limit
    → ((i : ℕ) → i < limit → get_or after i 0 ≡ get_or before i 0)
    → ThreeMultiples F bits before at n → ThreeMultiples F bits after at n
kept at limit small room same m =
    record {
      left_there = λ i h. same (at + i) (omega arith) ∙ m.left_there i h;
      own_there = λ i h. same (at + 8 + i) (omega arith) ∙ m.own_there i h;
      right_there = λ i h. same (at + 16 + i) (omega arith) ∙ m.right_there i h;
    }

-- n has the numbers of the k-th power of level j, for all T-values whose constants are given
abbrev pub Numbers : Operations → ℕ → List ℕ → ℕ → ℕ → Gains → Type 0
Numbers F bits constants j k n =
    (ts : List ℕ) → Constants F bits ts constants → n ≡ power_gains F (get_or ts (6 - 2 * j) 0) (get_or ts 7 0) k

pub no_numbers : (F : Operations) (bits : ℕ) (constants : List ℕ) (j : ℕ) → Numbers F bits constants j 0 no_gains
unfolding power_gains
no_numbers F bits constants j ts c = refl

pub more_numbers : {bits p : ℕ} → Degree bits p → (constants : List ℕ) (j k : ℕ) (n once twice : Gains) → j < 4
    → OneMoreIs bits constants (48 - 16 * j) n once
    → OneMoreIs bits constants 56 once twice
    → Numbers (polynomials bits p) bits constants j k n
    → Numbers (polynomials bits p) bits constants j (suc k) twice
unfolding power_gains
more_numbers {bits} {p} degree constants j k n once twice h a b numbers ts c =
    let F : Operations = polynomials bits p in
    let s = get_or ts (6 - 2 * j) 0 in
    let t = get_or ts 7 0 in
    let place : 8 * (6 - 2 * j) ≡ 48 - 16 * j = omega arith in
    b p degree t (c.of_value 7 (omega arith))
    ∙ ap (one_more F t)
    (a p degree s
    (subst (λ (at : ℕ). Multiples F bits constants at s) place (c.of_value (6 - 2 * j) (omega arith)))
    ∙ ap (one_more F s) (numbers ts c))

-- ---- a level

pub none_level : (F : Operations) (bits : ℕ) (constants : List ℕ) (j : ℕ) (table : List ℕ) → length table ≡ 384
    → Below 256 table → LevelFilled F bits constants j 0 table table
none_level F bits constants j table size bytes =
    record {
      size = size;
      bytes = bytes;
      there = λ ts c k h. absurd (omega arith);
      elsewhere = λ i h. refl;
    }

pub more_level : {F : Operations} {bits : ℕ} {constants before table after : List ℕ} (j k : ℕ) {n : Gains} → bits ≤ 8
    → LevelFilled F bits constants j k before table
    → Numbers F bits constants j (suc k) n
    → StoredThree F bits (96 * j + 24 * k) n table after
    → LevelFilled F bits constants j (k + 1) before after
more_level {F} {bits} {constants} {before} {table} {after} j k {n} small level numbers s =
    record {
      size = s.size ∙ level.size;
      bytes = s.bytes;
      there = λ ts c i h. at ts c i h (dec_lt i k);
      elsewhere = λ i h. s.elsewhere i (omega arith) ∙ level.elsewhere i h;
    }
  where
    at : (ts : List ℕ) → Constants F bits ts constants → (i : ℕ) → i < k + 1 → Dec (i < k)
        → ThreeMultiples F bits after (96 * j + 24 * i) (level_gains F ts j i)
    at ts c i h (yes l) =
        kept (96 * j + 24 * i) (96 * j + 24 * k) small (omega arith) s.elsewhere (level.there ts c i l)
    at ts c i h (no l) =
        let e : k ≡ i = omega arith in
        subst (λ (x : ℕ). ThreeMultiples F bits after (96 * j + 24 * x) (level_gains F ts j x)) e
        (subst (ThreeMultiples F bits after (96 * j + 24 * k)) (numbers ts c) s.there)

-- ---- the table

pub none_table : (F : Operations) (bits : ℕ) (constants table : List ℕ) → length table ≡ 384
    → Below 256 table → PowerTable F bits constants 0 table
none_table F bits constants table size bytes =
    record { size = size; bytes = bytes; there = λ ts c j k h. absurd (omega arith) }

pub more_table : {F : Operations} {bits : ℕ} {constants table after : List ℕ} (n : ℕ) → bits ≤ 8
    → PowerTable F bits constants n table
    → LevelFilled F bits constants n 4 table after
    → PowerTable F bits constants (n + 1) after
more_table {F} {bits} {constants} {table} {after} n small t l =
    record { size = l.size; bytes = l.bytes; there = λ ts c j k h b. at ts c j k h b (dec_lt j n) }
  where
    at : (ts : List ℕ) → Constants F bits ts constants → (j k : ℕ) → j < n + 1 → k < 4 → Dec (j < n)
        → ThreeMultiples F bits after (96 * j + 24 * k) (level_gains F ts j k)
    at ts c j k h b (yes d) =
        kept (96 * j + 24 * k) (96 * n) small (omega arith) l.elsewhere (t.there ts c j k d b)
    at ts c j k h b (no d) =
        let e : n ≡ j = omega arith in
        subst (λ (x : ℕ). ThreeMultiples F bits after (96 * x + 24 * k) (level_gains F ts x k)) e (l.there ts c k b)
