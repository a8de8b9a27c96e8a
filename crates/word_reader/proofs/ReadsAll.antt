-- Reading a whole file through the reader gives exactly its letters. After k moves from the first letter the reader
-- stands at place k. Past the last letter it stays. At place k it reads letter k of the file, counted from 0; past the
-- last letter none is left. A refused file has no letters.
use Prim.Native.Nat.{ℕ, zero, suc, ◌+◌, ◌≤◌, ◌<◌, min}
use mathlib.Core.Path.{◌≡◌, refl, sym, ap, ap₂, ◌∙◌}
use mathlib.Core.Bool.{Bool, true, false, cond}
use mathlib.Core.List.{List, [], ◌∷◌}
use native.Mathlib.Numerals.{add-one}
use native.Mathlib.Omega.{arith}
use borrow.Author.Tests.{ltb-true, ltb-false}
use lib.Dec.{ltb}
use lib.ListN.{length, drop, get_or, drop_of_length-le}
use lib.Seq.{drop-cons}
use denote.Ref.{Bor}
use Rattle.word.specs.Words.{codes, letters, LetterAt}
use Rattle.word.specs.declared.Letter.{Letter}
use Rattle.word_reader.specs.Reader.{opened, read_at, place_behind, place_after_turns, read_from, MovesOn}
use Rattle.word_reader.specs.declared.WordReader.{WordReader}
use Rattle.word_reader.proofs.CodeLaws.{none_left, codes_opened}

-- ---- any file, by its codes

module _ (file : List ℕ) where
  abbrev n : ℕ
  n = length (codes file)

  -- one move from the place after k moves leads to the place after k + 1 moves
  moved : (k p : ℕ) → p ≡ min k n → place_behind file p ≡ min (suc k) n
  moved k p e = go (ltb p n) refl
    where
      go : (b : Bool) → ltb p n ≡ b → cond b (p + 1) p ≡ min (suc k) n
      go true t = let h : p < n = ltb-true p n t in omega arith
      go false t = let h : n ≤ p = ltb-false p n t in omega arith

  place_is : (k : ℕ) → place_after_turns file k ≡ min k n
  unfolding place_after_turns
  place_is zero = omega arith
  place_is (suc k) = moved k (place_after_turns file k) (place_is k)

  -- at the place after k moves the reader reads what stands at place k, even past the last letter
  read_alike : (k p : ℕ) → p ≡ min k n → read_at file p ≡ read_at file k
  read_alike k p e = go (ltb k n) refl
    where
      go : (b : Bool) → ltb k n ≡ b → read_at file p ≡ read_at file k
      go true t = let h : k < n = ltb-true k n t in let equal : p ≡ k = omega arith in ap (read_at file) equal
      go false t =
          let h : n ≤ k = ltb-false k n t in sym (none_left file p refl (omega arith)) ∙ none_left file k refl h

  -- the reader reads, from a place on, the codes from that place on
  read_is : (m p : ℕ) → n ≤ p + m → read_from file m p ≡ drop p (codes file)
  unfolding read_from
  read_is zero p h = let l : n ≤ p = omega arith in sym (drop_of_length-le (codes file) l)
  read_is (suc m) p h = go (read_is m (p + 1)) (ltb p n) refl
    where
      go : (n ≤ p + 1 + m → read_from file m (p + 1) ≡ drop (p + 1) (codes file)) → (b : Bool) → ltb p n ≡ b
          → cond b (get_or (codes file) p 0 ∷ read_from file m (cond b (p + 1) p)) [] ≡ drop p (codes file)
      go rest true t =
          let l : p < n = ltb-true p n t in
          ap (◌∷◌ (get_or (codes file) p 0)) (rest (omega arith) ∙ ap (λ (j : ℕ). drop j (codes file)) (add-one p))
          ∙ sym (drop-cons (codes file) p 0 l)
      go rest false t = sym (drop_of_length-le (codes file) (ltb-false p n t))

-- ---- the file that a reader is opened on

module _ (file : List ℕ) where
  count_is : length (codes (opened file)) ≡ length (letters file)
  count_is = ap length (codes_opened file)

  -- after k moves the reader stands at place k, or right after the last letter if the file has fewer letters
  place_after : (k : ℕ) → place_after_turns (opened file) k ≡ min k (length (letters file))
  place_after k = place_is (opened file) k ∙ ap (min k) count_is

  -- at the place after k moves the reader reads letter k of the file
  pub letter_at : (k : ℕ) {p : ℕ} {word : List ℕ} {t : Letter} → word ≡ opened file → p ≡ min k (length (letters file))
      → t ≡ read_at word p
      → LetterAt file k t.left t.code
  letter_at k {p} {word} {t} w e s =
      let r : t ≡ read_at (opened file) k =
      s ∙ ap (λ (f : List ℕ). read_at f p) w ∙ read_alike (opened file) k p (e ∙ ap (min k) (sym count_is)) in
      record {
        left_is = ap (λ (l : Letter). l.left) r ∙ ap (ltb k) count_is;
        code_is = ap (λ (l : Letter). l.code) r ∙ ap (λ (l : List ℕ). get_or l k 0) (codes_opened file);
      }

  -- a reader that is opened and moved on once reads the second letter
  pub letter_second : {r q : WordReader} {t : Letter} → (r.file.now ≡ opened file) × (r.at ≡ 0)
      → (q.file ≡ r.file) × (q.at ≡ place_behind r.file.now r.at) → t ≡ read_at q.file.now q.at
      → LetterAt file 1 t.left t.code
  unfolding place_after_turns
  letter_second o m s =
      letter_at 1 (ap (λ (f : Bor (List ℕ)). f.now) m.0 ∙ o.0)
      (m.1 ∙ ap₂ place_behind o.0 o.1 ∙ place_after 1) s

  -- with as many moves as the file has letters, or more, the reader reads all letters
  pub reads_all : (m : ℕ) → length (letters file) ≤ m → read_from (opened file) m 0 ≡ letters file
  reads_all m h = read_is (opened file) m 0 (omega (arith, count_is)) ∙ codes_opened file

  -- r k is what `open` and then k calls of `moved_on` return: the place where it stands, and what `next` returns there
  module _ (r : ℕ → WordReader) (moves : MovesOn file r) where
    file_kept : (k : ℕ) → (r k).file.now ≡ opened file
    file_kept zero = moves.opened_on
    file_kept (suc k) = ap (λ (s : Bor (List ℕ)). s.now) (moves.same_file k) ∙ file_kept k

    at_is : (k : ℕ) → (r k).at ≡ place_after_turns (opened file) k
    unfolding place_after_turns
    at_is zero = moves.opened_at
    at_is (suc k) = moves.next_at k ∙ ap₂ place_behind (file_kept k) (at_is k)

    pub stands_at : (k : ℕ) → (r k).at ≡ min k (length (letters file))
    stands_at k = at_is k ∙ place_after k

    pub gives : (k : ℕ) {t : Letter} → t ≡ read_at (r k).file.now (r k).at → LetterAt file k t.left t.code
    gives k s = letter_at k (file_kept k) (stands_at k) s
