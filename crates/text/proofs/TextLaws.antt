-- Laws of a text that grows: bytes laid behind the written ones, one after another; a number; lines.
use Prim.Native.Nat.{ℕ, ◌+◌, ◌≤◌, ◌<◌}
use mathlib.Core.Path.{◌≡◌, refl, sym, ap, ap₂, ◌∙◌}
use mathlib.Core.List.{List, [], ◌∷◌, ◌++◌, append_assoc}
use native.Mathlib.Numerals.{add-one}
use native.Mathlib.Omega.{arith}
use lib.ListN.{length, take, drop, set, replicate, length-append, length-drop}
use lib.Seq.{take_at, drop_at, drop-drop, set_split, length-take-le}
use Rattle.base.specs.steps.Laying.{Laid}
use Rattle.base.specs.Lists.{overlaid}
use Rattle.base.proofs.ListLaws.{overlaid_append}
use Rattle.base.specs.Digits.{digits}
use Rattle.base.proofs.PackLaws.{length_part}
use Rattle.text.specs.Decimal.{places, shown, decimal}
use Rattle.text.specs.Texts.{line, TellsIn}
use Rattle.text.proofs.DecimalLaws.{length_decimal}

-- ---- bytes added

-- k bytes of the buffer are lent, and come back with the new bytes in them
added_part : {bytes part : List ℕ} {k : ℕ} (before : List ℕ) (at : ℕ) → part ≡ bytes → k ≡ length bytes
    → Laid at bytes before (take at before ++ (part ++ drop k (drop at before))) (at + k)
unfolding overlaid
added_part before at e l =
    record {
      ends = ap (λ (n : ℕ). at + n) l;
      lies = ap₂ (λ (b : List ℕ) (n : ℕ). take at before ++ (b ++ drop n (drop at before))) e l;
    }

-- one byte is stored
pub added_byte : (before : List ℕ) (at x : ℕ) → at < length before → Laid at (x ∷ []) before (set before at x) (at + 1)
unfolding overlaid
added_byte before at x h =
    record {
      ends = refl;
      lies =
          set_split before at x h
          ∙ ap (λ (l : List ℕ). take at before ++ (x ∷ l))
          (sym (drop-drop 1 at before ∙ ap (λ (k : ℕ). drop k before) (add-one at)));
    }

-- xs are laid, and then ys behind them: together they are laid
pub added_then : {xs ys before between after : List ℕ} {at middle end : ℕ} → at ≤ length before
    → Laid at xs before between middle
    → Laid middle ys between after end → Laid at (xs ++ ys) before after end
unfolding overlaid
added_then {xs} {ys} {before} {between} {after} {at} {middle} {end} h f g =
    record {
      ends = omega (arith, f.ends, g.ends, length-append xs ys);
      lies =
          g.lies
          ∙ ap₂ (λ (p q : List ℕ). p ++ overlaid ys q)
          (ap (take middle) there ∙ take_at front (drop (length xs) rest) middle size)
          (ap (drop middle) there ∙ drop_at front (drop (length xs) rest) middle size)
          ∙ append_assoc (take at before) xs (overlaid ys (drop (length xs) rest))
          ∙ ap (λ (l : List ℕ). take at before ++ l) (sym (overlaid_append xs ys rest));
    }
  where
    front : List ℕ
    front = take at before ++ xs

    rest : List ℕ
    rest = drop at before

    there : between ≡ front ++ drop (length xs) rest
    there = f.lies ∙ sym (append_assoc (take at before) xs (drop (length xs) rest))

    size : length front ≡ middle
    size = omega (arith, length-append (take at before) xs, length-take-le at before h, f.ends)

-- A number in decimal and a byte are laid. The digits stand in k bytes that were lent, and the byte behind them.
pub added_number : {part : List ℕ} {k m : ℕ} (before : List ℕ) (at n then : ℕ) → k ≡ places n → m ≡ k
    → at + k + 1 ≤ length before
    → part ≡ shown (digits 10 (length (take m (drop at before))) n)
    → Laid at (decimal n ++ (then ∷ [])) before
    (set (take at before ++ (part ++ drop m (drop at before))) (at + k) then) (at + k + 1)
unfolding decimal
added_number {part} {k} {m} before at n then e d h p =
    rw d (added_then (omega arith) digits_added
    (added_byte (take at before ++ (part ++ drop k (drop at before))) (at + k) then within))
  where
    size : length (take m (drop at before)) ≡ places n
    size = ap (λ (j : ℕ). length (take j (drop at before))) d ∙ length_part at k before (omega arith) ∙ e

    same : part ≡ decimal n
    same = p ∙ ap (λ (j : ℕ). shown (digits 10 j n)) size

    digits_added : Laid at (decimal n) before (take at before ++ (part ++ drop k (drop at before))) (at + k)
    digits_added = added_part before at same (e ∙ sym (length_decimal n))

    within : at + k < length (take at before ++ (part ++ drop k (drop at before)))
    within =
        omega (
          arith,
          length-append (take at before) (part ++ drop k (drop at before)),
          length-append part (drop k (drop at before)),
          length-take-le at before (omega arith),
          length-drop k (drop at before),
          length-drop at before,
          ap length same,
          length_decimal n,
        )

-- ---- a buffer that starts with a text

-- bytes that are laid behind the text make the text longer
pub told_more : {size at end : ℕ} {text bytes before after : List ℕ} → TellsIn size text at before
    → Laid at bytes before after end
    → TellsIn size (text ++ bytes) end after
unfolding overlaid
told_more {size} {at} {end} {text} {bytes} {before} {after} t f =
    record {
      bytes_are = omega (arith, length-append text bytes, t.bytes_are, f.ends);
      text_is =
          f.lies
          ∙ ap₂ (λ (p q : List ℕ). p ++ overlaid bytes q)
          (ap (take at) t.text_is ∙ take_at text (drop (length text) zeros) at (sym t.bytes_are))
          (ap (drop at) t.text_is ∙ drop_at text (drop (length text) zeros) at (sym t.bytes_are))
          ∙ sym (overlaid_append text bytes zeros);
    }
  where
    zeros : List ℕ
    zeros = replicate size 0

-- a text is no longer than its buffer
pub told_within : {size bytes : ℕ} {text buffer : List ℕ} → TellsIn size text bytes buffer → bytes ≤ length buffer
unfolding overlaid
told_within t = rw (t.bytes_are, t.text_is) (simp length-append (omega arith))

-- ---- lines

-- a line of two words or more is its first word, a space, and the line of the other words
line_word : (w v : List ℕ) (ws : List (List ℕ)) → (w ++ (32 ∷ [])) ++ line (v ∷ ws) ≡ line (w ∷ v ∷ ws)
unfolding line
line_word w v ws = append_assoc w (32 ∷ []) (line (v ∷ ws))

-- a word and a space are laid, and then the rest of the line
pub added_word : {before between after : List ℕ} {at middle end : ℕ} (w v : List ℕ) (ws : List (List ℕ))
    → at ≤ length before
    → Laid at (w ++ (32 ∷ [])) before between middle → Laid middle (line (v ∷ ws)) between after end
    → Laid at (line (w ∷ v ∷ ws)) before after end
added_word w v ws h f g = rw (← line_word w v ws) (added_then h f g)
