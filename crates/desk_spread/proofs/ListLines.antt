-- Laws of the lines: how long one is, how the code adds it, and one line more.
use Prim.Native.Nat.{ℕ, zero, suc, ◌+◌, ◌^◌, ◌≤◌, ◌<◌}
use mathlib.Core.Path.{◌≡◌, sym, ap, subst, ◌∙◌}
use mathlib.Core.List.{List, [], ◌∷◌, ◌++◌, append_assoc, append-nil}
use native.Mathlib.Numerals.{add-one}
use native.Mathlib.Omega.{arith}
use lib.ListN.{length, take, get_or, length-append}
use lib.Seq.{take_all}
use Rattle.text.specs.Decimal.{decimal}
use Rattle.base.specs.steps.Laying.{Laid}
use Rattle.text.specs.Texts.{line}
use Rattle.text.proofs.DecimalLaws.{decimal_short}
use Rattle.text.proofs.TextLaws.{added_then}
use Rattle.word_spread.specs.Spread.{all_lists, list_at}
use Rattle.word_spread.proofs.ListsOfFour.{labels_are, list_four, four_long, label_below, twenty_four}
use Rattle.desk_spread.specs.SpreadLines.{list_line, list_lines}

-- ---- how long a line is

-- a label has one digit
pub label_short : (a : ℕ) → a < 10 → length (decimal a) ≤ 1
label_short a h = decimal_short a 1 (omega arith) (omega arith)

-- a number has at most ten digits: 6 to the power of 12 is 2,176,782,336
pub number_short : (n : ℕ) → n ≤ 6 ^ 12 → length (decimal n) ≤ 10
number_short n h = decimal_short n 10 (omega arith) (omega arith)

-- two labels with their spaces
abbrev pub spaced : ℕ → ℕ → List ℕ
spaced a b = decimal a ++ (32 ∷ []) ++ (decimal b ++ (32 ∷ []))

pub spaced_short : (a b : ℕ) → a < 10 → b < 10 → length (spaced a b) ≤ 4
spaced_short a b h i =
    omega (
      arith,
      length-append (decimal a ++ (32 ∷ [])) (decimal b ++ (32 ∷ [])),
      length-append (decimal a) (32 ∷ []),
      length-append (decimal b) (32 ∷ []),
      label_short a h,
      label_short b i,
    )

-- two words before the rest of a line
two_words : (w v u : List ℕ) (ws : List (List ℕ))
    → w ++ (32 ∷ []) ++ (v ++ (32 ∷ [])) ++ line (u ∷ ws) ≡ line (w ∷ v ∷ u ∷ ws)
unfolding line
two_words w v u ws =
    append_assoc (w ++ (32 ∷ [])) (v ++ (32 ∷ [])) (line (u ∷ ws))
    ∙ ap (λ (l : List ℕ). w ++ (32 ∷ []) ++ l) (append_assoc v (32 ∷ []) (line (u ∷ ws)))
    ∙ append_assoc w (32 ∷ []) (v ++ (32 ∷ line (u ∷ ws)))

-- a line is twice two labels, and the number
line_parts : (a b c d n : ℕ)
    → spaced a b ++ (spaced c d ++ (decimal n ++ (10 ∷ []))) ≡ list_line (a ∷ b ∷ c ∷ d ∷ []) n
unfolding list_line line
line_parts a b c d n =
    ap (λ (l : List ℕ). spaced a b ++ l) (two_words (decimal c) (decimal d) (decimal n) [])
    ∙ two_words (decimal a) (decimal b) (decimal c) (decimal d ∷ decimal n ∷ [])

module _ (k : ℕ) (h : k < 24) where
  abbrev label : ℕ → ℕ
  label j = get_or (list_at k) j 0

  pub label_small : (j : ℕ) → j < 4 → label j < 10
  label_small j i = omega (arith, label_below k h j i)

  line_is : (n : ℕ)
      → spaced (label 0) (label 1) ++ (spaced (label 2) (label 3) ++ (decimal n ++ (10 ∷ []))) ≡ list_line (list_at k) n
  line_is n =
      line_parts (label 0) (label 1) (label 2) (label 3) n
      ∙ ap (λ (l : List ℕ). list_line l n) (sym (labels_are (list_at k) (four_long (list_at k) (list_four k h))))

  pub line_short : (n : ℕ) → n ≤ 6 ^ 12 → length (list_line (list_at k) n) ≤ 19
  line_short n b =
      rw (← line_is n)
      (omega (
        arith,
        length-append (spaced (label 0) (label 1)) (spaced (label 2) (label 3) ++ (decimal n ++ (10 ∷ []))),
        length-append (spaced (label 2) (label 3)) (decimal n ++ (10 ∷ [])),
        length-append (decimal n) (10 ∷ []),
        spaced_short (label 0) (label 1) (label_small 0 (omega arith)) (label_small 1 (omega arith)),
        spaced_short (label 2) (label 3) (label_small 2 (omega arith)) (label_small 3 (omega arith)),
        number_short n b,
      ))

  -- as the code adds it
  pub line_added : {labels : List ℕ} (n : ℕ) {before first second after : List ℕ} {at one two end : ℕ}
      → labels ≡ list_at k → at ≤ length before → one ≤ length first
      → Laid at (spaced (get_or labels 0 0) (get_or labels 1 0)) before first one
      → Laid one (spaced (get_or labels 2 0) (get_or labels 3 0)) first second two
      → Laid two (decimal n ++ (10 ∷ [])) second after end
      → Laid at (list_line (list_at k) n) before after end
  line_added {labels = labels} n {before = before} {after = after} {at = at} {end = end} e h l f g s =
      subst (λ (t : List ℕ). Laid at t before after end)
      (ap
      (λ (ls : List ℕ). spaced (get_or ls 0 0) (get_or ls 1 0)
      ++ (spaced (get_or ls 2 0) (get_or ls 3 0) ++ (decimal n ++ (10 ∷ []))))
      e
      ∙ line_is n)
      (added_then h f (added_then l g s))

-- ---- one line more

lines_more_of : (ls : List (List ℕ)) (ns : List ℕ) (k : ℕ) → k < length ls → k < length ns
    → list_lines (take (suc k) ls) (take (suc k) ns)
    ≡ list_lines (take k ls) (take k ns) ++ list_line (get_or ls k []) (get_or ns k 0)
unfolding list_lines
lines_more_of [] ns k h l = absurd (omega arith)
lines_more_of (x ∷ ls) [] k h l = absurd (omega arith)
lines_more_of (x ∷ ls) (n ∷ ns) zero h l = append-nil (list_line x n)
lines_more_of (x ∷ ls) (n ∷ ns) (suc k) h l =
    ap (λ (t : List ℕ). list_line x n ++ t) (lines_more_of ls ns k (omega arith) (omega arith))
    ∙ sym (append_assoc (list_line x n) (list_lines (take k ls) (take k ns))
    (list_line (get_or ls k []) (get_or ns k 0)))

pub lines_more : (ns : List ℕ) (k : ℕ) → k < 24 → k < length ns
    → list_lines (take (k + 1) all_lists) (take (k + 1) ns)
    ≡ list_lines (take k all_lists) (take k ns) ++ list_line (list_at k) (get_or ns k 0)
lines_more ns k h l = rw (add-one k) (lines_more_of all_lists ns k (omega (arith, twenty_four)) l)

pub lines_all : (ns : List ℕ) (k : ℕ) → 24 ≤ k → length ns ≤ k
    → list_lines (take k all_lists) (take k ns) ≡ list_lines all_lists ns
lines_all ns k h l = λ i. list_lines (take_all k all_lists (omega (arith, twenty_four)) i) (take_all k ns l i)
