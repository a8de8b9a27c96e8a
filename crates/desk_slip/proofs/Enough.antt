-- How much of a file is enough to read: 129 bytes of a key, 65 of a digest and 5,003 of a signature, or more, get the
-- verdict that the whole files get, however long they are. So do 5,195 bytes of a slip whose parts lie end to end.
-- `WrongRooms` shows that one byte less is not enough for any of the four.
use Prim.Native.Nat.{ℕ, ◌+◌, ◌≤◌, ◌<◌}
use native.Mathlib.Decide.{ℕ_discrete}
use native.Mathlib.Omega.{arith}
use mathlib.Core.Path.{◌≡◌, sym, ap, ap₂, ◌∙◌}
use mathlib.Core.Bool.{Bool, cond, ◌||◌}
use mathlib.Core.List.{List}
use borrow.Author.Tests.{ne_eqb}
use lib.Dec.{eqb, lit≤}
use lib.ListN.{length, take}
use Rattle.base.specs.Digits.{value, part}
use Rattle.base.proofs.QuestionLaws.{fails}
use Rattle.text.specs.Enough.{Enough}
use Rattle.text.proofs.EnoughLaws.{enough_part, enough_picked, enough_long, enough_of_two, enough_of_three}
use Rattle.word.specs.Words.{word_answer}
use Rattle.word.proofs.LongWords.{enough_of_word, whole_word}
use Rattle.field.specs.Fields.{key_bytes, digest_bytes}
use Rattle.field.specs.declared.Field.{Field}
use Rattle.field.specs.declared.Field.TheVariants.{Gf32, Gf256}
use Rattle.key.specs.Keys.{key_field, key_answer}
use Rattle.slip_digest.proofs.Encoded.{digest_fits}
use Rattle.slip_verdict.specs.Verdict.{verdict}
use Rattle.slip_verdict.proofs.VerdictIff.{key_refused, digest_refused, word_refused}
use Rattle.desk_slip.specs.Slips.{desk_field, cut_verdict, desk_verdict, EnoughOfInput, EnoughOfFiles}

-- ---- three files

-- a key that is too long gets the answer 1
pub long_key_answer : (key : List ℕ) → 128 < length key → key_answer key ≡ 1
unfolding key_answer
long_key_answer key h =
    fails 1 _
    (ap₂ (λ (a b : Bool). a || b) (ne_eqb (length key) 83 (λ e. omega arith))
    (ne_eqb (length key) 128 (λ e. omega arith)))

pub long_key : (key digest word : List ℕ) → 128 < length key → verdict key digest word ≡ 1
long_key key digest word h = let e = long_key_answer key h in key_refused key digest word (λ z. omega arith) ∙ e

enough_of_key : (n : ℕ) → 128 < n → (digest word : List ℕ) → Enough n (λ key. verdict key digest word)
enough_of_key n h digest word =
    enough_long (λ key. verdict key digest word) (λ _. 1) 0 128 n (omega arith) h (λ key l. long_key key digest word l)

-- under an accepted key, a digest that is too long gets the answer 8
enough_of_digest : (n : ℕ) → 64 < n → (key word : List ℕ) → Enough n (λ digest. verdict key digest word)
enough_of_digest n h key word = go (ℕ_discrete (key_answer key) 0)
  where
    go : Dec (key_answer key ≡ 0) → Enough n (λ digest. verdict key digest word)
    go (yes k) =
        enough_long (λ digest. verdict key digest word) (λ _. 8) 0 64 n (omega arith) h
        (λ digest l. digest_refused key digest word k (λ e. omega (arith, digest_fits (key_field key) digest e)))
    go (no r) = λ digest. key_refused key (take n digest) word r ∙ sym (key_refused key digest word r)

-- under an accepted key and digest, a refused word gets the answer of the word's questions
enough_of_signature : (n : ℕ) → 5002 < n → (key digest : List ℕ) → Enough n (verdict key digest)
enough_of_signature n h key digest word =
    go (ℕ_discrete (key_answer key) 0) (ℕ_discrete (length digest) (digest_bytes (key_field key)))
    (ℕ_discrete (word_answer (take n word)) 0)
  where
    go : Dec (key_answer key ≡ 0) → Dec (length digest ≡ digest_bytes (key_field key))
        → Dec (word_answer (take n word) ≡ 0)
        → verdict key digest (take n word) ≡ verdict key digest word
    go (no r) d w = key_refused key digest (take n word) r ∙ sym (key_refused key digest word r)
    go (yes k) (no r) w = digest_refused key digest (take n word) k r ∙ sym (digest_refused key digest word k r)
    go (yes k) (yes d) (yes w) = ap (verdict key digest) (whole_word n h word w)
    go (yes k) (yes d) (no r) =
        let same = enough_of_word n h word in
        word_refused key digest (take n word) k d r ∙ same ∙ sym (word_refused key digest word k d (λ z. r (same ∙ z)))

pub enough_of_files : (k d w : ℕ) → 128 < k → 64 < d → 5002 < w → EnoughOfFiles k d w
enough_of_files k d w a b c =
    enough_of_three verdict k d w (enough_of_key k a)
    (λ key. enough_of_two (verdict key) d w (enough_of_digest d b key) (enough_of_signature w c key))

-- ---- one input

enough_cut : (k d n : ℕ) → k + d + 5003 ≤ n → Enough n (cut_verdict k d)
unfolding cut_verdict
enough_cut k d n h input =
    let key = enough_part 0 k n (omega arith) input in
    let digest = enough_part k d n (omega arith) input in
    let word = enough_part (k + d) 5003 n h input in
    λ i. verdict (key i) (digest i) (word i)

-- for either field
rooms : (f : Field) → key_bytes f + digest_bytes f + 5003 ≤ 5195
rooms Gf32 = lit≤ tt
rooms Gf256 = lit≤ tt

pub enough_of_input : (n : ℕ) → 5194 < n → EnoughOfInput n
unfolding desk_verdict desk_field
enough_of_input n h =
    enough_picked (part 1 2)
    (λ bytes input. let f : Field = cond (eqb (value 256 bytes) 256) Gf256 Gf32 in
    cut_verdict (key_bytes f) (digest_bytes f) input) n
    (enough_part 1 2 n (omega arith))
    (λ bytes. let f : Field = cond (eqb (value 256 bytes) 256) Gf256 Gf32 in
    enough_cut (key_bytes f) (digest_bytes f) n (omega (arith, rooms f)))
