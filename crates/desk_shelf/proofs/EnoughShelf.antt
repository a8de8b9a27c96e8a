-- How much of a file is enough to read: of a shelf 1,037 bytes, of a key 129, of a digest 65, of a word 5,003. A longer
-- shelf file is no shelf. A longer key, digest or word gets the answer that these bytes of it get.
use Prim.Native.Nat.{ℕ, ◌+◌, ◌<◌}
use mathlib.Core.Path.{◌≡◌, refl, sym, ap, ap₂, ◌∙◌}
use mathlib.Core.Bool.{Bool, true, false, cond, ◌||◌}
use mathlib.Core.List.{List, []}
use native.Mathlib.Omega.{arith}
use borrow.Author.Tests.{ne_eqb}
use lib.Dec.{eqb}
use lib.ListN.{length, take}
use lib.Seq.{take_all}
use Rattle.base.specs.Questions.{first_no}
use Rattle.text.specs.Enough.{Enough, EnoughOfTwo}
use Rattle.text.proofs.EnoughLaws.{enough_long, enough_granted, enough_of_two, enough_of_three}
use Rattle.word.specs.Words.{codes, word_answer, letters}
use Rattle.word.proofs.LongWords.{enough_of_word, whole_word}
use Rattle.key.specs.Keys.{key_answer}
use Rattle.slip_verdict.specs.Verdict.{verdict}
use Rattle.shelf.specs.Shelves.{shelf_bytes, empty_shelf, has_slot, held, is_held}
use Rattle.shelf.specs.Charges.{admitted, charging}
use Rattle.shelf.specs.Calls.{Work, load, judge, answer_to, is_verdict, after}
use Rattle.shelf.proofs.ChipLaws.{on_chip}
use Rattle.shelf.proofs.CallLaws.{left_alone, load_30, load_answer, judge_30, judge_31, judge_answer}
use Rattle.desk_slip.proofs.Enough.{enough_of_files, long_key_answer}
use Rattle.desk_shelf.specs.Serving.{is_shelf, shelf_in, unanswered, served_answer, served_shelf, EnoughOfShelf}
use Rattle.desk_shelf.specs.Serving.{EnoughToLoad, EnoughToJudge}
use Rattle.desk_shelf.proofs.ServingLaws.{answer_as, shelf_as}

-- ---- a file that is too long is no shelf

long_shelf : (file : List ℕ) → shelf_bytes < length file → is_shelf file ≡ false
unfolding is_shelf
long_shelf file h =
    ap₂ (λ (a b : Bool). a || b) (ne_eqb (length file) 0 (λ e. omega arith))
    (ne_eqb (length file) shelf_bytes (λ e. omega arith))

module _ (s : ℕ) (h : shelf_bytes < s) where
  enough_tested : Enough s is_shelf
  enough_tested = enough_long is_shelf (λ _. false) 0 shelf_bytes s (omega arith) h long_shelf

  enough_answer : (p : ℕ) (work : Work) → Enough s (λ file. served_answer file p work)
  enough_answer p work =
      enough_long (λ file. served_answer file p work) (λ _. unanswered) 0 shelf_bytes s (omega arith) h
      (λ file l. answer_as file p work (long_shelf file l))

  enough_left : (p : ℕ) (work : Work) → Enough s (λ file. served_shelf file p work)
  enough_left p work =
      enough_long (λ file. served_shelf file p work) (λ _. empty_shelf) 0 shelf_bytes s (omega arith) h
      (λ file l. shelf_as file p work (long_shelf file l))

  pub enough_of_shelf : EnoughOfShelf s
  enough_of_shelf = record { shelf = enough_tested; answer = enough_answer; left = enough_left }

-- ---- if two kinds of work get the same answer from a shelf, or leave the same shelf, they do so for the file

module _ (p : ℕ) (first second : Work) where
  alike_answer : (file : List ℕ) → answer_to p first (shelf_in file) ≡ answer_to p second (shelf_in file)
      → served_answer file p first ≡ served_answer file p second
  unfolding served_answer
  alike_answer file e = ap (λ (a : ℕ). cond (is_shelf file) a unanswered) e

  alike_left : (file : List ℕ) → after p first (shelf_in file) ≡ after p second (shelf_in file)
      → served_shelf file p first ≡ served_shelf file p second
  unfolding served_shelf
  alike_left file e = ap (λ (l : List ℕ). cond (is_shelf file) l empty_shelf) e

-- ---- a key that is too long is refused as an empty one is

empty_1 : key_answer [] ≡ 1
unfolding key_answer first_no
empty_1 = refl

module _ (p n : ℕ) (shelf key : List ℕ) (h : 128 < length key) where
  long_answer : answer_to p (load n key) shelf ≡ answer_to p (load n []) shelf
  long_answer = go (has_slot p n) refl
    where
      go : (b : Bool) → has_slot p n ≡ b → answer_to p (load n key) shelf ≡ answer_to p (load n []) shelf
      go true e = load_answer p n shelf key e ∙ long_key_answer key h ∙ sym (load_answer p n shelf [] e ∙ empty_1)
      go false e = load_30 p n shelf key e ∙ sym (load_30 p n shelf [] e)

  -- loading an empty key is refused, and so is loading one that is too long
  idle : eqb (answer_to p (load n []) shelf) 0 ≡ false
  idle = go (has_slot p n) refl
    where
      go : (b : Bool) → has_slot p n ≡ b → eqb (answer_to p (load n []) shelf) 0 ≡ false
      go true e = ap (λ (a : ℕ). eqb a 0) (load_answer p n shelf [] e ∙ empty_1)
      go false e = ap (λ (a : ℕ). eqb a 0) (load_30 p n shelf [] e)

  long_left : after p (load n key) shelf ≡ after p (load n []) shelf
  long_left =
      left_alone p (load n key) shelf (ap (λ (a : ℕ). eqb a 0) long_answer ∙ idle)
      ∙ sym (left_alone p (load n []) shelf idle)

pub enough_to_load : (s k : ℕ) → shelf_bytes < s → 128 < k → EnoughToLoad s k
enough_to_load s k hs hk =
    record {
      shelf = enough_tested s hs;
      answer = λ p n.
          enough_of_two (λ file key. served_answer file p (load n key)) s k (λ key. enough_answer s hs p (load n key))
          (λ file. enough_long (λ key. served_answer file p (load n key)) (λ _. served_answer file p (load n [])) 0
          128 k
          (omega arith) hk
          (λ key l. alike_answer p (load n key) (load n []) file (long_answer p n (shelf_in file) key l)));
      left = λ p n.
          enough_of_two (λ file key. served_shelf file p (load n key)) s k (λ key. enough_left s hs p (load n key))
          (λ file. enough_long (λ key. served_shelf file p (load n key)) (λ _. served_shelf file p (load n [])) 0 128 k
          (omega arith) hk
          (λ key l. alike_left p (load n key) (load n []) file (long_left p n (shelf_in file) key l)));
    }

-- ---- digest and word, by a key that is held

module _ (d w : ℕ) (hd : 64 < d) (hw : 5002 < w) where
  by_key : (key : List ℕ) → EnoughOfTwo d w (verdict key)
  by_key key digest word =
      let k = 129 + length key in
      let whole : take k key ≡ key = take_all k key (omega arith) in
      ap (λ (f : List ℕ). verdict f (take d digest) (take w word)) (sym whole)
      ∙ enough_of_files k d w (omega arith) hd hw key digest word

  same_letters : (word : List ℕ) → length (letters (take w word)) ≡ length (letters word)
  unfolding letters
  same_letters word =
      ap length
      (enough_granted word_answer codes (λ _. []) w (enough_of_word w hw) (whole_word w hw) (λ _. refl) word)

  same_answer : (p n : ℕ) (shelf : List ℕ) → EnoughOfTwo d w (λ digest word. answer_to p (judge n digest word) shelf)
  same_answer p n shelf digest word = go (has_slot p n) refl (is_held (held p n shelf)) refl
    where
      go : (b : Bool) → has_slot p n ≡ b → (c : Bool) → is_held (held p n shelf) ≡ c
          → answer_to p (judge n (take d digest) (take w word)) shelf ≡ answer_to p (judge n digest word) shelf
      go true e true f =
          judge_answer p n shelf (take d digest) (take w word) e f
          ∙ ap₂ (λ (k a : ℕ). on_chip (admitted p k shelf) a) (same_letters word) (by_key (held p n shelf) digest word)
          ∙ sym (judge_answer p n shelf digest word e f)
      go true e false f =
          judge_31 p n shelf (take d digest) (take w word) e f ∙ sym (judge_31 p n shelf digest word e f)
      go false e c f = judge_30 p n shelf (take d digest) (take w word) e ∙ sym (judge_30 p n shelf digest word e)

  same_left : (p n : ℕ) (shelf : List ℕ) → EnoughOfTwo d w (λ digest word. after p (judge n digest word) shelf)
  unfolding after
  same_left p n shelf digest word =
      ap₂ (λ (a k : ℕ). cond (is_verdict a) (charging p k shelf) shelf) (same_answer p n shelf digest word)
      (same_letters word)

  pub enough_to_judge : (s : ℕ) → shelf_bytes < s → EnoughToJudge s d w
  enough_to_judge s hs =
      record {
        shelf = enough_tested s hs;
        answer = λ p n.
            enough_of_three (λ file digest word. served_answer file p (judge n digest word)) s d w
            (λ digest word. enough_answer s hs p (judge n digest word))
            (λ file digest word. alike_answer p (judge n (take d digest) (take w word)) (judge n digest word) file
            (same_answer p n (shelf_in file) digest word));
        left = λ p n.
            enough_of_three (λ file digest word. served_shelf file p (judge n digest word)) s d w
            (λ digest word. enough_left s hs p (judge n digest word))
            (λ file digest word. alike_left p (judge n (take d digest) (take w word)) (judge n digest word) file
            (same_left p n (shelf_in file) digest word));
      }
