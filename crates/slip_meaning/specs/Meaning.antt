-- The single claim of demand 3: an operation that writes a new word keeps the meaning of the old word. The claim is
-- about the file of the word handed in and the file of the new word.
use Rattle.std.specs.Prelude.{ℕ, ◌≡◌, List, ◌⊎◌, length}
use Rattle.field.specs.Binary.{Operations, BinaryField}
use Rattle.field.specs.Fields.{digest_bytes}
use Rattle.word.specs.Words.{codes, word_answer}
use Rattle.word.specs.Exponent.{exponent_sum}
use Rattle.pair.specs.declared.Pair.{Pair}
use Rattle.pair.specs.Action.{word_on}
use Rattle.pair.specs.Good.{TValues, GoodPair}
use Rattle.word_crossing.specs.Crossings.{crossings_from}
use Rattle.key.specs.Keys.{key_field, key_answer}
use Rattle.slip_verdict.specs.Verdict.{verdict}

pub record SameMeaning (word new : List ℕ) : Type 0 where
  -- both files are accepted words
  pub old_accepted : word_answer word ≡ 0
  pub new_accepted : word_answer new ≡ 0
  -- The new word carries each pair to exactly the pair to which the old word carries it, matrix and labels alike. The
  -- field may be any binary field, such as GF(32) and GF(256). The T-values may be any other than zero, and the first
  -- two need not be 1. The matrix may hold any 64 elements of the field, with any labels below 8.
  pub carried : (F : Operations) → BinaryField F → (ts : List ℕ) → TValues F ts → (p : Pair) → GoodPair F p
      → word_on F ts (codes new) p ≡ word_on F ts (codes word) p
  -- Under every accepted key of either size, and every digest that goes with the key, the verdict gives both words the
  -- same answer. The answer is 0 or 14.
  pub verdicts : (key digest : List ℕ) → key_answer key ≡ 0 → length digest ≡ digest_bytes (key_field key)
      → verdict key digest new ≡ verdict key digest word
  pub zero_or_14 : (key digest : List ℕ) → key_answer key ≡ 0 → length digest ≡ digest_bytes (key_field key)
      → (verdict key digest word ≡ 0) ⊎ (verdict key digest word ≡ 14)
  -- The number of positive letters less the number of inverse ones is the same integer in both words.
  pub exponent : exponent_sum (codes new) ≡ exponent_sum (codes word)
  -- From every list of eight labels, the signed number of crossings of every two labels is the same in both words
  -- (document 02, §2).
  pub crossed : (labels : List ℕ) → length labels ≡ 8 → (a b : ℕ)
      → crossings_from labels a b (codes new) ≡ crossings_from labels a b (codes word)
