-- Laws of the lines: how long a line is, how the code writes it, and one line more.
use Prim.Native.Nat.{ℕ, zero, suc, ◌+◌, ◌≤◌, ◌<◌}
use mathlib.Core.Path.{◌≡◌, sym, ap, subst, ◌∙◌}
use mathlib.Core.List.{List, [], ◌∷◌, ◌++◌, append_assoc, append-nil}
use native.Mathlib.Numerals.{add-one}
use native.Mathlib.Omega.{arith}
use lib.IntN.{ℤ, pos, negsuc, nat_abs}
use lib.ListN.{length, take, get_or, length-append}
use lib.Seq.{take_all}
use mir.Syntax.{w32}
use mir.Val.{SFits, to_z, of_z}
use mir.Facts.{to_z-of_z}
use Rattle.base.specs.steps.Laying.{Laid}
use Rattle.text.specs.Decimal.{decimal, signed_text}
use Rattle.text.specs.Texts.{line}
use Rattle.text.proofs.DecimalLaws.{decimal_short}
use Rattle.text.proofs.TextLaws.{added_word}
use Rattle.word_crossing.specs.Crossings.{all_pairs}
use Rattle.word_crossing.specs.steps.Pairs.{pair_at}
use Rattle.word_crossing.specs.declared.Two.{Two}
use Rattle.word_crossing.proofs.AllPairs.{twenty_eight}
use Rattle.word_crossing.proofs.PairLaws.{in_order, larger_below}
use Rattle.desk_crossings.specs.Lines.{pair_line, lines_of}

-- ---- how long a line is

-- a label has one digit
label_short : (a : ℕ) → a < 8 → length (decimal a) ≤ 1
label_short a h = decimal_short a 1 (omega arith) (omega arith)

-- a number has at most five digits and a minus sign
pub number_short : (z : ℤ) → nat_abs z ≤ 10000 → length (signed_text z) ≤ 6
unfolding signed_text
number_short (pos n) h = omega (arith, decimal_short n 5 (omega arith) (omega arith))
number_short (negsuc n) h = omega (arith, decimal_short (suc n) 5 (omega arith) (omega arith))

module _ (k : ℕ) (h : k < 28) where
  pub smaller_short : length (decimal (pair_at k).smaller) ≤ 1
  smaller_short = label_short (pair_at k).smaller (omega (arith, in_order k h, larger_below k h))

  pub larger_short : length (decimal (pair_at k).larger) ≤ 1
  larger_short = label_short (pair_at k).larger (larger_below k h)

  pub line_short : (z : ℤ) → nat_abs z ≤ 10000 → length (pair_line (pair_at k) z) ≤ 11
  unfolding pair_line line
  line_short z b =
      let a = decimal (pair_at k).smaller in
      let c = decimal (pair_at k).larger in
      omega (
        arith,
        length-append a (32 ∷ (c ++ (32 ∷ (signed_text z ++ (10 ∷ []))))),
        length-append c (32 ∷ (signed_text z ++ (10 ∷ []))),
        length-append (signed_text z) (10 ∷ []),
        smaller_short,
        larger_short,
        number_short z b,
      )

  -- a line is its words one after another, as the code writes them
  pub line_added : {a b : ℕ} {n number : ℤ} {before first second after : List ℕ} {at one two end : ℕ}
      → a ≡ (pair_at k).smaller → b ≡ (pair_at k).larger → n ≡ number → at ≤ length before → one ≤ length first
      → Laid at (decimal a ++ (32 ∷ [])) before first one
      → Laid one (decimal b ++ (32 ∷ [])) first second two
      → Laid two (signed_text n ++ (10 ∷ [])) second after end
      → Laid at (pair_line (pair_at k) number) before after end
  unfolding pair_line line
  line_added {a} {b} {n} {before = before} {after = after} {at = at} {end = end} ea eb en h l f g s =
      subst (λ (t : List ℕ). Laid at t before after end)
      (λ i. line (decimal (ea i) ∷ decimal (eb i) ∷ signed_text (en i) ∷ []))
      (added_word (decimal a) (decimal b) (signed_text n ∷ []) h f (added_word (decimal b) (signed_text n) [] l g s))

-- an integer from -10,000 to 10,000 that is held in 32 bits is read back unchanged
pub read_back : (z : ℤ) → nat_abs z ≤ 10000 → to_z w32 (of_z w32 z) ≡ z
read_back z h = to_z-of_z (fits z h)
  where
    fits : (z : ℤ) → nat_abs z ≤ 10000 → SFits w32 z
    fits (pos n) h = record { sfits = omega arith }
    fits (negsuc n) h = record { sfits = omega arith }

-- ---- one line more

lines_more_of : (ps : List Two) (ns : List ℤ) (k : ℕ) → k < length ps → k < length ns
    → lines_of (take (suc k) ps) (take (suc k) ns)
    ≡ lines_of (take k ps) (take k ns)
    ++ pair_line (get_or ps k (record { smaller = 0; larger = 0 })) (get_or ns k (pos 0))
unfolding lines_of
lines_more_of [] ns k h l = absurd (omega arith)
lines_more_of (p ∷ ps) [] k h l = absurd (omega arith)
lines_more_of (p ∷ ps) (n ∷ ns) zero h l = append-nil (pair_line p n)
lines_more_of (p ∷ ps) (n ∷ ns) (suc k) h l =
    ap (λ (t : List ℕ). pair_line p n ++ t) (lines_more_of ps ns k (omega arith) (omega arith))
    ∙ sym (append_assoc (pair_line p n) (lines_of (take k ps) (take k ns))
    (pair_line (get_or ps k (record { smaller = 0; larger = 0 })) (get_or ns k (pos 0))))

pub lines_more : (ns : List ℤ) (k : ℕ) → k < 28 → k < length ns
    → lines_of (take (k + 1) all_pairs) (take (k + 1) ns)
    ≡ lines_of (take k all_pairs) (take k ns) ++ pair_line (pair_at k) (get_or ns k (pos 0))
lines_more ns k h l = rw (add-one k) (lines_more_of all_pairs ns k (omega (arith, twenty_eight)) l)

pub lines_all : (ns : List ℤ) (k : ℕ) → 28 ≤ k → length ns ≤ k
    → lines_of (take k all_pairs) (take k ns) ≡ lines_of all_pairs ns
lines_all ns k h l = λ i. lines_of (take_all k all_pairs (omega (arith, twenty_eight)) i) (take_all k ns l i)
