-- Laws of the writers of words: what a writer returns and leaves in the output, on a refusal and on success; which
-- codes pass the questions of the writer from codes; and how that writer builds the file.
use Prim.Native.Nat.{ℕ, ◌+◌, ◌-◌, ◌*◌, ◌/◌, ◌%◌, ◌≤◌}
use mathlib.Core.Path.{◌≡◌, sym, ap, ap₂, ◌∙◌}
use mathlib.Core.Bool.{true}
use mathlib.Core.List.{List, [], ◌∷◌, ◌++◌, append_assoc, append-nil}
use native.Mathlib.Omega.{arith}
use borrow.Author.Tests.{le-leb}
use lib.ListN.{length, take, drop, get_or, set, length-append, length-drop, drop_of_length-le, get_or-eq_default}
use lib.Seq.{length-take-le, length_front, take_all, take_at, drop_at, drop-drop}
use mir.Syntax.{w16}
use Rattle.std.specs.Int.{to_be_bytes}
use Rattle.base.specs.Questions.{Question, first_no, granted}
use Rattle.base.specs.Lists.{every, overlaid}
use Rattle.base.proofs.QuestionLaws.{passed_answers, granted_zero, granted_refused}
use Rattle.base.proofs.ListLaws.{overlay_step, overlay_whole}
use Rattle.word.specs.Letters.{is_letter}
use Rattle.word.specs.Words.{packed, word_file, writer_questions, Wrote}
use Rattle.word.proofs.WordLaws.{length_packed, length_word_file, word_file_number, word_file_front, word_file_byte}

module _ (questions : List Question) (file before : List ℕ) where
  -- a refusal, as `Written::refused` makes it, reports no bytes and leaves the output unchanged
  pub wrote_refused : {answer bytes : ℕ} (n : ℕ) → (answer ≡ n) × (bytes ≡ 0) → first_no questions ≡ n → (n ≡ 0 → ⊥)
      → Wrote questions file before before answer bytes
  wrote_refused n r e h =
      record {
        answer_is = r.0 ∙ sym e;
        bytes_is = r.1 ∙ sym (granted_refused (length file) 0 (λ z. h (sym e ∙ z)));
        output_is = sym (granted_refused (overlaid file before) before (λ z. h (sym e ∙ z)));
      }

  -- on success the file stands in the output's first bytes
  pub wrote_done : {after : List ℕ} {bytes : ℕ} → first_no questions ≡ 0 → bytes ≡ length file
      → after ≡ overlaid file before
      → Wrote questions file before after 0 bytes
  wrote_done e b o =
      record {
        answer_is = sym e;
        bytes_is = b ∙ sym (granted_zero (length file) 0 e);
        output_is = o ∙ sym (granted_zero (overlaid file before) before e);
      }

-- questions and a file may be replaced by others with the same answer and the same bytes
pub wrote_same : {qs qs' : List Question} {file file' before after : List ℕ} {answer bytes : ℕ}
    → first_no qs ≡ first_no qs' → file ≡ file' → Wrote qs file before after answer bytes
    → Wrote qs' file' before after answer bytes
wrote_same {before = before} e f w =
    record {
      answer_is = w.answer_is ∙ e;
      bytes_is = w.bytes_is ∙ ap₂ (λ (n : ℕ) (l : List ℕ). granted n (length l) 0) e f;
      output_is = w.output_is ∙ ap₂ (λ (n : ℕ) (l : List ℕ). granted n (overlaid l before) before) e f;
    }

-- at most 10,000 letters and an output of at least 5,002 bytes pass the questions of the writer from codes
pub writable : (room : ℕ) (cs : List ℕ) → 5002 ≤ room → length cs ≤ 10000 → every is_letter cs ≡ true
    → first_no (writer_questions room cs) ≡ 0
writable room cs h g e =
    passed_answers (writer_questions room cs) (le-leb 5002 room h, (le-leb (length cs) 10000 g, (e, tt)))

-- ---- the file of a word, as the code writes it

-- the first i bytes of a list, laid over the output, replace its first i bytes
pub overlay_part : (bytes out : List ℕ) (i : ℕ) → i ≤ length bytes
    → overlaid (take i bytes) out ≡ take i bytes ++ drop i out
unfolding overlaid
overlay_part bytes out i h = ap (λ (j : ℕ). take i bytes ++ drop j out) (length-take-le i bytes h)

-- all bytes from place i on were lent, and came back changed by f
lent_back : (f : List ℕ → List ℕ) (i : ℕ) (xs : List ℕ)
    → take i xs ++ (f (take (length xs - i) (drop i xs)) ++ drop (length xs - i) (drop i xs))
    ≡ take i xs ++ f (drop i xs)
lent_back f i xs =
    let e : length (drop i xs) ≤ length xs - i = omega (arith, length-drop i xs) in
    ap₂ (λ (p q : List ℕ). take i xs ++ (f p ++ q)) (take_all (length xs - i) (drop i xs) e)
    (drop_of_length-le (drop i xs) e)
    ∙ ap (λ (p : List ℕ). take i xs ++ p) (append-nil (f (drop i xs)))

-- `two` is the number of letters in two bytes
module _ (cs out two : List ℕ) (is : two ≡ to_be_bytes w16 (length cs)) where
  -- the output with the number of letters in its first two bytes
  abbrev pub numbered : List ℕ
  numbered = two ++ drop 2 out

  pub length_numbered : 2 ≤ length out → length numbered ≡ length out
  length_numbered room = simp (length-append, length-drop) (omega (arith, ap length is))

  numbered_is : length cs ≤ 10000 → numbered ≡ take 2 (word_file cs) ++ drop 2 out
  numbered_is few =
      let high : length cs / 256 % 256 ≡ length cs / 256 = omega arith in
      ap (λ (p : List ℕ). p ++ drop 2 out)
      (is ∙ ap (λ (x : ℕ). x ∷ length cs % 256 ∷ []) high ∙ sym (word_file_number cs few))

  -- the numbered output with ys in place of all bytes after the first two
  abbrev paired : List ℕ → List ℕ
  paired ys = take 2 numbered ++ (ys ++ drop (length numbered - 2) (drop 2 numbered))

  -- the number of bytes that hold two codes
  abbrev pairs : ℕ
  pairs = length cs / 2

  -- if ys begins with the bytes that hold two codes, the output holds the file, except for the last code of an odd word
  module _ (few : length cs ≤ 10000) (room : 5002 ≤ length out) (ys : List ℕ)
      (e : ys ≡ overlaid (take pairs (packed cs)) (take (length numbered - 2) (drop 2 numbered))) where
    paired_is : paired ys ≡ take (2 + pairs) (word_file cs) ++ drop (2 + pairs) out
    paired_is =
        let two : length (take 2 (word_file cs)) ≡ 2 = ap length (word_file_number cs few) in
        ap paired e
        ∙ lent_back (overlaid (take pairs (packed cs))) 2 numbered
        ∙ ap (λ (xs : List ℕ). take 2 xs ++ overlaid (take pairs (packed cs)) (drop 2 xs))
        (numbered_is few)
        ∙ ap₂ (λ (p q : List ℕ). p ++ overlaid (take pairs (packed cs)) q)
        (take_at (take 2 (word_file cs)) (drop 2 out) 2 two) (drop_at (take 2 (word_file cs)) (drop 2 out) 2 two)
        ∙ ap (λ (p : List ℕ). take 2 (word_file cs) ++ p)
        (overlay_part (packed cs) (drop 2 out) pairs (omega (arith, length_packed cs)))
        ∙ sym (append_assoc (take 2 (word_file cs)) (take pairs (packed cs)) (drop pairs (drop 2 out)))
        ∙ ap₂ (λ (p q : List ℕ). p ++ q) (sym (word_file_front cs pairs)) (drop-drop pairs 2 out)

    pub length_paired : length (paired ys) ≡ length out
    length_paired =
        ap length paired_is
        ∙ length_front out (take (2 + pairs) (word_file cs)) (2 + pairs)
        (length-take-le (2 + pairs) (word_file cs) (omega (arith, length_word_file cs))
        ∙ sym (length-take-le (2 + pairs) out (omega arith)))

    -- if the number of codes is even, the output holds the whole file
    pub even_written : (length cs % 2 ≡ 1 → ⊥) → paired ys ≡ overlaid (word_file cs) out
    even_written h = paired_is ∙ overlay_whole (word_file cs) out (2 + pairs) (omega (arith, length_word_file cs))

    -- if the number of codes is odd, the last code goes into the high half of one more byte, and the output holds the
    -- whole file
    pub odd_written : length cs % 2 ≡ 1
        → set (paired ys) (2 + pairs) (get_or cs (length cs - 1) 0 * 16) ≡ overlaid (word_file cs) out
    odd_written h =
        ap₂ (λ (o : List ℕ) (b : ℕ). set o (2 + pairs) b) paired_is last
        ∙ overlay_step (word_file cs) out (2 + pairs) (omega (arith, length_word_file cs)) (omega arith)
        ∙ overlay_whole (word_file cs) out (2 + pairs + 1) (omega (arith, length_word_file cs))
      where
        last : get_or cs (length cs - 1) 0 * 16 ≡ get_or (word_file cs) (2 + pairs) 0
        last =
            let a : pairs * 2 ≡ length cs - 1 = omega arith in
            let z : get_or cs (length cs - 1 + 1) 0 ≡ 0 = get_or-eq_default cs 0 (omega arith) in
            sym (word_file_byte cs pairs ∙ ap (λ (i : ℕ). get_or cs i 0 * 16 + get_or cs (i + 1) 0) a ∙ omega arith)
