-- A refusal's line goes to the front of a longer text.
use Prim.Native.Nat.{ℕ, ◌≤◌, ◌<◌}
use mathlib.Core.Path.{◌≡◌, ap, ◌∙◌}
use mathlib.Core.List.{List, [], ◌∷◌}
use native.Mathlib.Omega.{arith}
use lib.ListN.{length, take, replicate, length-append}
use lib.Seq.{take_all}
use Rattle.base.specs.Lists.{overlaid}
use Rattle.base.proofs.ListLaws.{take_overlaid}
use Rattle.text.specs.Decimal.{decimal}
use Rattle.text.specs.Texts.{line, TellsIn}
use Rattle.text.proofs.DecimalLaws.{decimal_short}
use Rattle.desk_line.specs.Desk.{answer_line, Tells}
use Rattle.desk_text.specs.Room.{text_size}

line_short : (n : ℕ) → n < 256 → length (answer_line n) ≤ text_size
unfolding answer_line line
line_short n h = omega (arith, length-append (decimal n) (10 ∷ []), decimal_short n 3 (omega arith) (omega arith))

pub answer_told : (n : ℕ) → n < 256 → {bytes : ℕ} {shown text : List ℕ} → Tells (answer_line n) bytes shown
    → text ≡ overlaid (take text_size (take bytes shown)) (replicate text_size 0)
    → TellsIn text_size (answer_line n) bytes text
answer_told n h {bytes} {shown} t e =
    let line : take bytes shown ≡ answer_line n =
    rw (t.bytes_are, t.text_is) (take_overlaid (answer_line n) (replicate 11 0)) in
    record {
      bytes_are = t.bytes_are;
      text_is =
          e
          ∙ ap (λ (l : List ℕ). overlaid l (replicate text_size 0))
          (ap (take text_size) line ∙ take_all text_size (answer_line n) (line_short n h));
    }
