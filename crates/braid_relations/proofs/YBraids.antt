-- Conversion is a homomorphism on the braids: a Y word and its Artin word stand for each other. An Artin word turned to
-- Y letters stands for the braid of the Artin word. Y words one after another stand for the braids one after another,
-- and the inverse of a Y word for the inverse braid. A Y word stands for one braid only. `SameBraid` says what two
-- words of one braid have in common.
use Prim.Native.Nat.{ℕ}
use mathlib.Core.Path.{◌≡◌, sym, ap, ◌∙◌}
use mathlib.Core.Bool.{true}
use mathlib.Core.List.{List, [], ◌++◌, append_assoc, append-nil}
use lib.ListN.{length, take}
use Rattle.base.proofs.ListLaws.{every_append, and_both}
use Rattle.word.specs.Letters.{is_letter}
use Rattle.word.specs.Reduction.{reduced}
use Rattle.word.specs.Words.{codes}
use Rattle.word.proofs.LetterLaws.{Lettered}
use Rattle.word.proofs.ReadLaws.{accepted_word}
use Rattle.braid_same.specs.SameBraid.{SameBraid}
use Rattle.braid_same.proofs.Laws.{same_none, same_then, same_turned, same_append, same_inside}
use Rattle.braid_same.proofs.Cancelling.{reduced_same}
use Rattle.word_dialect.specs.Dialect.{inverted, from_y, to_y, converted, are_parts, WroteConverted}
use Rattle.word_dialect.proofs.InverseWords.{inverted_lettered, inverted_twice, undone}
use Rattle.word_dialect.proofs.ConversionLaws.{converted_append, converted_lettered, converted_inverted, there_and_back}
use Rattle.word_dialect.proofs.ConvertLaws.{accepted}
use Rattle.word_dialect.proofs.RoundTrip.{output_codes}
use Rattle.braid_relations.specs.YWords.{StandsFor}

-- ---- inverse words

-- a word and then its inverse, and a word's inverse and then the word, are the same braid as the empty word
pub undone_same : (u : List ℕ) → Lettered u → SameBraid (u ++ inverted u) []
unfolding reduced
undone_same u e =
    let l : Lettered (u ++ inverted u) =
    every_append is_letter u (inverted u) ∙ and_both e (inverted_lettered u e) in
    let r : reduced (u ++ inverted u) ≡ [] =
    ap (λ (v : List ℕ). reduced (u ++ v)) (sym (append-nil (inverted u))) ∙ undone u [] e in
    rw r at (reduced_same (u ++ inverted u) l)

pub undone_before : (u : List ℕ) → Lettered u → SameBraid (inverted u ++ u) []
undone_before u e = rw (inverted_twice u e) at (undone_same (inverted u) (inverted_lettered u e))

-- the inverses of two words of the same braid
inverted_same : (u v : List ℕ) → Lettered u → Lettered v → SameBraid u v → SameBraid (inverted u) (inverted v)
inverted_same u v eu ev s =
    let through : SameBraid (inverted u ++ (u ++ inverted v)) (inverted u ++ (v ++ inverted v)) =
    same_inside (inverted u) (inverted v) s in
    let left : SameBraid (inverted u ++ (u ++ inverted v)) (inverted v) =
    rw (sym (append_assoc (inverted u) u (inverted v))) (same_append (undone_before u eu) (same_none (inverted v))) in
    let right : SameBraid (inverted u ++ (v ++ inverted v)) (inverted u) =
    rw (append-nil (inverted u)) at (same_append (same_none (inverted u)) (undone_same v ev)) in
    same_then (same_turned right) (same_then (same_turned through) left)

-- ---- what a Y word means

module _ (parts : List ℕ) (ps : are_parts parts ≡ true) where
  -- a Y word stands for the braid of its Artin word
  pub from_y_stands : (y : List ℕ) → StandsFor parts y (converted from_y parts y)
  from_y_stands y = same_none (converted from_y parts y)

  -- the Y word of an Artin word stands for the braid of the Artin word
  pub to_y_stands : (w : List ℕ) → Lettered w → StandsFor parts (converted to_y parts w) w
  to_y_stands w e =
      let v = converted from_y parts (converted to_y parts w) in
      let ev = converted_lettered from_y parts ps (converted to_y parts w) (converted_lettered to_y parts ps w e) in
      same_then (reduced_same v ev) (rw (there_and_back parts ps to_y w e) (same_turned (reduced_same w e)))

  -- Y words one after another
  pub append_stands : (u v x z : List ℕ) → StandsFor parts u x → StandsFor parts v z → StandsFor parts (u ++ v) (x ++ z)
  append_stands u v x z s t = rw (converted_append from_y parts ps u v) (same_append s t)

  -- the inverse of a Y word
  pub inverse_stands : (u x : List ℕ) → Lettered u → Lettered x → StandsFor parts u x
      → StandsFor parts (inverted u) (inverted x)
  inverse_stands u x eu ex s =
      rw (converted_inverted from_y parts ps u eu)
      (inverted_same (converted from_y parts u) x (converted_lettered from_y parts ps u eu) ex s)

  -- the Y word of an Artin word stands for the braid of every other Artin word of this braid
  pub to_y_same : (w v : List ℕ) → Lettered w → SameBraid w v → StandsFor parts (converted to_y parts w) v
  to_y_same w v e s = same_then (to_y_stands w e) s

  -- what a Y word stands for is one braid
  pub one_braid : (y w v : List ℕ) → StandsFor parts y w → StandsFor parts y v → SameBraid w v
  one_braid y w v s t = same_then (same_turned s) t

-- ---- from bytes to bytes

module _ (word parts : List ℕ) {before after : List ℕ} {bytes : ℕ} where
  -- what Artin to Y writes stands for the braid of the word
  pub to_y_written : WroteConverted to_y word parts before after 0 bytes
      → StandsFor parts (codes (take bytes after)) (codes word)
  to_y_written w =
      let a = accepted to_y (length before) word parts (sym w.answer_is) in
      rw (output_codes to_y word parts w)
      (to_y_stands parts a.1 (codes word) (accepted_word word a.0).lettered)

  -- a Y word stands for the braid of what Y to Artin writes
  pub from_y_written : WroteConverted from_y word parts before after 0 bytes
      → StandsFor parts (codes word) (codes (take bytes after))
  from_y_written w = rw (output_codes from_y word parts w) (same_none (converted from_y parts (codes word)))
