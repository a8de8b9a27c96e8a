-- One letter on columns of 64 bits is the letter on the pair that the columns hold, over every field of polynomials.
-- First the three columns that change, lane by lane, then the number that the letter takes, by its constants.
use Prim.Native.Nat.{ℕ, ◌+◌, ◌-◌, ◌*◌, ◌%◌, ◌≤◌, ◌<◌}
use mathlib.Core.Path.{◌≡◌, refl, sym, ap, ap₂, ◌∙◌}
use mathlib.Core.Bool.{Bool, true, false, cond}
use mathlib.Core.List.{List, [], ◌∷◌, ◌++◌}
use mathlib.Core.Logic.{◌⊎◌, inl, inr, ⊎_elim}
use native.Mathlib.Numerals.{add-one}
use native.Mathlib.Omega.{arith}
use native.Mathlib.Decide.{dec_lt}
use lib.Dec.{leb}
use lib.Bits.{bit_xor}
use lib.ListN.{length, get_or, set, take, length-set}
use lib.Seq.{get_or-set_same, get_or-set_other, take-suc, take_all}
use Rattle.field.specs.Binary.{Operations}
use Rattle.field.specs.Polynomial.{Degree, polynomials}
use Rattle.matrix.specs.Layout.{entry}
use Rattle.matrix.proofs.LayoutLaws.{entry_matrix_of, matrix_of_ext}
use Rattle.matrix_columns.specs.steps.Lanes.{lane, chosen, InLanes, columns_matrix}
use Rattle.matrix_columns.specs.steps.Constants.{Multiples, Constants}
use Rattle.matrix_columns.proofs.LaneLaws.{lane_xor}
use Rattle.matrix_columns.proofs.BitLaws.{by_constants}
use Rattle.word.specs.Letters.{is_letter}
use Rattle.word.proofs.StrandLaws.{length_swapped, swapped_below}
use Rattle.pair.specs.Action.{Share, t_value, positive_share, inverse_share, share_of, row_after, rows_on, pair_of}
use Rattle.pair.specs.Action.{letter_on, word_on}
use Rattle.pair.specs.steps.Columns.{held_pair, Held, Spread, share_by, taken_by, ColumnsAfter, Carried}
use Rattle.pair.proofs.CarryLaws.{column_below, sign}
use Rattle.pair.proofs.WordLaws.{word_on_append}
use Rattle.pair.proofs.RowLaws.{Near, before, own, after, other, near, placed, row_after_is}

entry_columns : (columns : List ℕ) (r c : ℕ) → r < 8 → c < 8
    → entry (columns_matrix columns) r c ≡ lane r (get_or columns (c + 1) 0)
unfolding columns_matrix
entry_columns columns r c hr hc = entry_matrix_of (λ r c. lane r (get_or columns (c + 1) 0)) r c hr hc

-- x is f of a column, lane by lane
abbrev pub Lanes : (ℕ → ℕ) → ℕ → ℕ → Type 0
Lanes f column x = (r : ℕ) → r < 8 → lane r x ≡ f (lane r column)

-- If three columns change by the letter's share of its own column, every row is the row after the letter.
module _ (n p : ℕ) (s : Share) (g : ℕ) (columns columns' : List ℕ) (x y z : ℕ)
    (stored : Spread x y z g columns columns') (hg : g < 7)
    (left : Lanes s.before (get_or columns (g + 1) 0) x) (mid : Lanes s.own (get_or columns (g + 1) 0) y)
    (right : Lanes s.after (get_or columns (g + 1) 0) z) where
  abbrev row : ℕ → ℕ → ℕ
  row r c = lane r (get_or columns (c + 1) 0)

  there : (r c : ℕ) → r < 8 → c < 8 → (d : Near c g)
      → lane r (get_or columns' (c + 1) 0) ≡ placed (polynomials n p) s d (row r c) (row r g)
  there r c hr hc (before e) =
      ap (λ (k : ℕ). lane r (get_or columns' k 0)) e ∙ ap (lane r) stored.left ∙ lane_xor r (get_or columns g 0) x
      ∙ ap₂ bit_xor (ap (λ (k : ℕ). lane r (get_or columns k 0)) (sym e)) (left r hr)
  there r c hr hc (own e) = ap (λ (k : ℕ). lane r (get_or columns' (k + 1) 0)) e ∙ ap (lane r) stored.own ∙ mid r hr
  there r c hr hc (after e) =
      let k : c + 1 ≡ g + 2 = omega arith in
      ap (λ (k : ℕ). lane r (get_or columns' k 0)) k ∙ ap (lane r) stored.right
      ∙ lane_xor r (get_or columns (g + 2) 0) z
      ∙ ap₂ bit_xor (ap (λ (k : ℕ). lane r (get_or columns k 0)) (sym k)) (right r hr)
  there r c hr hc (other b o a) = ap (lane r) (stored.others (c + 1) (apart b o a))
    where
      apart : (c + 1 ≡ g → ⊥) → (c ≡ g → ⊥) → (c ≡ g + 1 → ⊥) → (c + 1 < g) ⊎ (g + 2 < c + 1)
      apart b o a = go (dec_lt (c + 1) g)
        where
          go : Dec (c + 1 < g) → (c + 1 < g) ⊎ (g + 2 < c + 1)
          go (yes h) = inl h
          go (no h) = inr (omega arith)

  pub columns_spread : columns_matrix columns' ≡ rows_on (polynomials n p) s g (columns_matrix columns)
  unfolding columns_matrix
  columns_spread =
      matrix_of_ext (λ r c. lane r (get_or columns' (c + 1) 0))
      (λ r. row_after (polynomials n p) s g (entry (columns_matrix columns) r))
      (λ r c hr hc.
      there r c hr hc (near c g)
      ∙ sym (ap₂ (placed (polynomials n p) s (near c g)) (entry_columns columns r c hr hc)
      (entry_columns columns r g hr (omega arith)))
      ∙ sym (row_after_is (polynomials n p) s (near c g) (entry (columns_matrix columns) r)))

-- what three stores at places a, b and c leave
record Stored (a b c x y z : ℕ) (columns after : List ℕ) : Type 0 where
  size : length after ≡ length columns
  first : get_or after a 0 ≡ bit_xor (get_or columns a 0) x
  second : get_or after b 0 ≡ y
  third : get_or after c 0 ≡ bit_xor (get_or columns c 0) z
  elsewhere : (k : ℕ) → (k ≡ a → ⊥) → (k ≡ b → ⊥) → (k ≡ c → ⊥) → get_or after k 0 ≡ get_or columns k 0

stored : (columns : List ℕ) (a b c x y z : ℕ) → a < length columns → b < length columns → c < length columns
    → (a ≡ b → ⊥) → (a ≡ c → ⊥) → (b ≡ c → ⊥)
    → let one = set columns a (bit_xor (get_or columns a 0) x) in
    let two = set one b y in
    Stored a b c x y z columns (set two c (bit_xor (get_or two c 0) z))
stored columns a b c x y z ha hb hc ab ac bc =
    let v = bit_xor (get_or columns a 0) x in
    let one = set columns a v in
    let two = set one b y in
    let w = bit_xor (get_or two c 0) z in
    let size₁ : length one ≡ length columns = length-set columns a v in
    let size₂ : length two ≡ length columns = length-set one b y ∙ size₁ in
    record {
      size = length-set two c w ∙ size₂;
      first = get_or-set_other two c a w 0 ac ∙ get_or-set_other one b a y 0 ab ∙ get_or-set_same columns a v 0 ha;
      second = get_or-set_other two c b w 0 bc ∙ get_or-set_same one b y 0 (omega arith);
      third = get_or-set_same two c w 0 (omega arith)
          ∙ ap (λ (u : ℕ). bit_xor u z)
          (get_or-set_other one b c y 0 (λ e. bc (sym e)) ∙ get_or-set_other columns a c v 0 (λ e. ac (sym e)));
      elsewhere =
          λ k na nb nc. get_or-set_other two c k w 0 nc ∙ get_or-set_other one b k y 0 nb
          ∙ get_or-set_other columns a k v 0 na;
    }

outside : (k g j : ℕ) → (k < g) ⊎ (g + 2 < k) → g ≤ j → j ≤ g + 2 → k ≡ j → ⊥
outside k g j far l u e = ⊎_elim (λ (a : k < g). omega arith) (λ (a : g + 2 < k). omega arith) far

-- Three stores from the column before a letter's own column to the column after it.
pub stored_in_order : (columns : List ℕ) (g x y z : ℕ) → length columns ≡ 9 → g < 7
    → let one = set columns g (bit_xor (get_or columns g 0) x) in
    let two = set one (g + 1) y in
    Spread x y z g columns (set two (g + 2) (bit_xor (get_or two (g + 2) 0) z))
stored_in_order columns g x y z l h =
    let s =
    stored columns g (g + 1) (g + 2) x y z (omega arith) (omega arith) (omega arith) (omega arith) (omega arith)
    (omega arith) in
    record {
      places = s.size;
      left = s.first;
      own = s.second;
      right = s.third;
      others = λ k far.
          s.elsewhere k (outside k g g far (omega arith) (omega arith))
          (outside k g (g + 1) far (omega arith) (omega arith))
          (outside k g (g + 2) far (omega arith) (omega arith));
    }

-- The stores to a letter's own column and its two neighbours. A generator stores to the column before first, an inverse
-- letter to the column after.
pub three_stored : (columns : List ℕ) (g x p : ℕ) → length columns ≡ 9 → g < 7 → (inverse : Bool) (by : ℕ)
    → by ≡ cond inverse 2 0
    → let one = set columns (g + by) (bit_xor (get_or columns (g + by) 0) p) in
    let two = set one (g + 1) p in
    Spread (cond inverse x p) p (cond inverse p x) g columns
    (set two (g + 2 - by) (bit_xor (get_or two (g + 2 - by) 0) x))
three_stored columns g x p l h true by e =
    let last : g + 2 - by ≡ g = omega arith in
    let s =
    stored columns (g + 2) (g + 1) g p p x (omega arith) (omega arith) (omega arith) (omega arith) (omega arith)
    (omega arith) in
    rw (last, e)
    (record {
      places = s.size;
      left = s.third;
      own = s.second;
      right = s.first;
      others = λ k far.
          s.elsewhere k (outside k g (g + 2) far (omega arith) (omega arith))
          (outside k g (g + 1) far (omega arith) (omega arith))
          (outside k g g far (omega arith) (omega arith));
    })
three_stored columns g x p l h false by e =
    let last : g + 2 - by ≡ g + 2 = omega arith in
    let start : g + by ≡ g = omega arith in
    rw (last, start) (stored_in_order columns g p p x l h)

-- One letter by its sign: the product of its own column and the number that it takes, and what each neighbour gains.
module _ (n p : ℕ) (degree : Degree n p) (cs : List ℕ) (at t : ℕ) (constants : Multiples (polynomials n p) n cs at t)
    (columns columns' : List ℕ)
    (g product : ℕ) (hg : g < 7)
    (lanes : InLanes product (λ j. chosen (λ i. get_or cs (at + i) 0) n (lane j (get_or columns (g + 1) 0)))) where
  abbrev column : ℕ
  column = get_or columns (g + 1) 0

  pub by_sign : (inverse : Bool)
      → Spread (cond inverse column product) product (cond inverse product column) g columns columns'
      → columns_matrix columns'
      ≡ rows_on (polynomials n p) (share_by (polynomials n p) inverse t) g (columns_matrix columns)
  unfolding share_by
  by_sign true stored =
      let times = by_constants degree cs at t column product constants lanes in
      columns_spread n p (inverse_share (polynomials n p) t) g columns columns' column product product stored hg
      (λ r hr. refl) times times
  by_sign false stored =
      let times = by_constants degree cs at t column product constants lanes in
      columns_spread n p (positive_share (polynomials n p) t) g columns columns' product product column stored hg times
      times (λ r hr. refl)

-- ---- the number that a letter takes

-- The constants of the number that the letter takes stand at the place that its sign and its label give.
taken : (F : Operations) (bits : ℕ) (ts cs labels : List ℕ) (g : ℕ) → Constants F bits ts cs
    → ((k : ℕ) → get_or labels k 0 < 8) → (inverse : Bool)
    → Multiples F bits cs (cond inverse (64 + 8 * get_or labels (g + 1) 0) (8 * get_or labels g 0))
    (taken_by F.inv ts labels inverse g)
unfolding taken_by t_value
taken F bits ts cs labels g constants below true = constants.of_reciprocal (get_or labels (g + 1) 0) (below (g + 1))
taken F bits ts cs labels g constants below false = constants.of_value (get_or labels g 0) (below g)

-- the number that the letter takes gives the letter's share
share_taken : (F : Operations) (ts labels : List ℕ) (inverse : Bool) (g : ℕ)
    → share_by F inverse (taken_by F.inv ts labels inverse g) ≡ share_of F ts labels inverse g
unfolding share_by share_of taken_by
share_taken F ts labels true g = refl
share_taken F ts labels false g = refl

-- columns and labels after a letter, with the number that it takes, hold the letter on the pair
pub letter_on_columns : (bits p : ℕ) → Degree bits p → (ts cs columns labels columns' labels' : List ℕ) (c at : ℕ)
    → is_letter c ≡ true
    → Multiples (polynomials bits p) bits cs at (taken_by (polynomials bits p).inv ts labels (leb 8 c) (c % 8))
    → ColumnsAfter bits cs at (c % 8) (leb 8 c) columns labels columns' labels'
    → held_pair columns' labels' ≡ letter_on (polynomials bits p) ts c (held_pair columns labels)
unfolding letter_on
letter_on_columns bits p degree ts cs columns labels columns' labels' c at letter constants made =
    let F : Operations = polynomials bits p in
    let g = c % 8 in
    ap₂ pair_of
    (made.matrix_is p degree (taken_by F.inv ts labels (leb 8 c) g) constants
    ∙ ap (λ (s : Share). rows_on F s g (columns_matrix columns))
    (share_taken F ts labels (leb 8 c) g ∙ ap (λ (b : Bool). share_of F ts labels b g) (sign c letter)))
    made.exchanged

pub letter_carried : (bits : ℕ) (cs columns labels columns' labels' : List ℕ) (c at : ℕ) → Held bits cs columns labels
    → is_letter c ≡ true
    → at ≡ cond (leb 8 c) (64 + 8 * get_or labels (c % 8 + 1) 0) (8 * get_or labels (c % 8) 0)
    → ColumnsAfter bits cs at (c % 8) (leb 8 c) columns labels columns' labels'
    → Carried bits cs (c ∷ []) columns labels columns' labels'
unfolding word_on
letter_carried bits cs columns labels columns' labels' c at held letter e made =
    let g = c % 8 in
    let hg : g < 7 = column_below c letter in
    record {
      holds = record {
        small = held.small;
        bytes = held.bytes;
        nine = made.nine;
        eight = ap length made.exchanged ∙ length_swapped g labels ∙ held.eight;
        below = λ k. rw made.exchanged (swapped_below g labels held.below k);
      };
      carries = λ p degree ts constants.
          letter_on_columns bits p degree ts cs columns labels columns' labels' c at letter
          (rw (sym e) at (taken (polynomials bits p) bits ts cs labels g constants held.below (leb 8 c))) made;
    }

-- ---- letters one after another

pub none_carried : (bits : ℕ) (cs columns labels : List ℕ) → Held bits cs columns labels
    → Carried bits cs [] columns labels columns labels
unfolding word_on
none_carried bits cs columns labels held = record { holds = held; carries = λ p degree ts constants. refl }

pub both_carried : {bits : ℕ} {cs v w columns labels columns' labels' columns'' labels'' : List ℕ}
    → Carried bits cs v columns labels columns' labels'
    → Carried bits cs w columns' labels' columns'' labels'' → Carried bits cs (v ++ w) columns labels columns'' labels''
both_carried {bits} {cs} {v} {w} {columns} {labels} a b =
    record {
      holds = b.holds;
      carries = λ p degree ts constants.
          b.carries p degree ts constants
          ∙ ap (word_on (polynomials bits p) ts w) (a.carries p degree ts constants)
          ∙ sym (word_on_append (polynomials bits p) ts v w (held_pair columns labels));
    }

-- one more letter of a row; then all letters of the row
pub one_more_carried : {bits : ℕ} {cs columns labels columns' labels' columns'' labels'' : List ℕ} (codes : List ℕ)
    (i : ℕ) → i < length codes
    → Carried bits cs (take i codes) columns labels columns' labels'
    → Carried bits cs (get_or codes i 0 ∷ []) columns' labels' columns'' labels''
    → Carried bits cs (take (i + 1) codes) columns labels columns'' labels''
one_more_carried {bits} {cs} codes i h a b = rw (add-one i, take-suc codes i 0 h) (both_carried a b)

pub all_carried : {bits : ℕ} {cs columns labels columns' labels' : List ℕ} (codes : List ℕ) (i : ℕ) → i ≡ length codes
    → Carried bits cs (take i codes) columns labels columns' labels'
    → Carried bits cs codes columns labels columns' labels'
all_carried codes i e a = rw (take_all i codes (omega arith)) at a
