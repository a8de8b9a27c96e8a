-- The braid of a digest grows by one half byte's braid at a time, has at most 20 letters for each half byte, and
-- consists of letters. What the encoder writes is therefore an accepted word.
use Prim.Native.Nat.{ℕ, suc, ◌+◌, ◌*◌, ◌≤◌, ◌<◌}
use mathlib.Core.Path.{◌≡◌, refl, sym, ap, ◌∙◌}
use mathlib.Core.Bool.{Bool, true, false, ◌||◌, false≢true}
use mathlib.Core.List.{List, [], ◌∷◌, ◌++◌, append_assoc, append-nil}
use native.Mathlib.Omega.{arith}
use native.Mathlib.Numerals.{add-one}
use borrow.Author.Tests.{eqb-true}
use lib.ListN.{length, take, get_or, length-append}
use lib.Seq.{take-suc}
use Rattle.base.specs.Lists.{every}
use Rattle.base.specs.Digits.{halves}
use Rattle.base.proofs.ListLaws.{and_both, every_append}
use Rattle.base.proofs.DigitLaws.{length_halves, halves_below}
use Rattle.field.specs.Fields.{digest_bytes}
use Rattle.field.specs.declared.Field.{Field}
use Rattle.field.specs.declared.Field.TheVariants.{Gf32, Gf256}
use Rattle.word.specs.Letters.{is_letter}
use Rattle.word.specs.Words.{word_file, word_answer}
use Rattle.word.proofs.RoundTrip.{word_file_accepted}
use Rattle.slip_digest.specs.Digest.{half_byte_braid, braid_of, encoded, is_digest}
use Rattle.slip_digest.proofs.HalfByte.{braid_short, braid_letters}

-- a digest of either length has at most 64 bytes
pub digest_short : (digest : List ℕ) → (is_digest Gf32 digest || is_digest Gf256 digest) ≡ true → length digest ≤ 64
digest_short digest e = go (is_digest Gf32 digest) (is_digest Gf256 digest) refl refl e
  where
    go : (a b : Bool) → is_digest Gf32 digest ≡ a → is_digest Gf256 digest ≡ b → (a || b) ≡ true → length digest ≤ 64
    go true b p q e = omega (arith, eqb-true (length digest) 32 p)
    go false true p q e = omega (arith, eqb-true (length digest) 64 q)
    go false false p q e = absurd (false≢true e)

-- a digest that goes with a field has at most 64 bytes
pub digest_fits : (f : Field) (digest : List ℕ) → length digest ≡ digest_bytes f → length digest ≤ 64
digest_fits Gf32 digest e = omega arith
digest_fits Gf256 digest e = omega arith

braid_of_append : (hs ks : List ℕ) → braid_of (hs ++ ks) ≡ braid_of hs ++ braid_of ks
unfolding braid_of
braid_of_append [] ks = refl
braid_of_append (h ∷ hs) ks =
    ap (λ (w : List ℕ). half_byte_braid h ++ w) (braid_of_append hs ks)
    ∙ sym (append_assoc (half_byte_braid h) (braid_of hs) (braid_of ks))

-- one more half byte
pub braid_of_more : (hs : List ℕ) (k : ℕ) → k < length hs
    → braid_of (take (k + 1) hs) ≡ braid_of (take k hs) ++ half_byte_braid (get_or hs k 0)
unfolding braid_of
braid_of_more hs k p =
    ap (λ (n : ℕ). braid_of (take n hs)) (add-one k) ∙ ap braid_of (take-suc hs k 0 p)
    ∙ braid_of_append (take k hs) (get_or hs k 0 ∷ [])
    ∙ ap (λ (w : List ℕ). braid_of (take k hs) ++ w) (append-nil (half_byte_braid (get_or hs k 0)))

-- the braid of half bytes has at most 20 letters for each
short : (hs : List ℕ) → ((k : ℕ) → get_or hs k 0 < 16) → length (braid_of hs) ≤ 20 * length hs
unfolding braid_of
short [] b = omega arith
short (h ∷ hs) b =
    simp length-append (omega (arith, braid_short h (b 0), short hs (λ k. b (suc k))))

-- the braid of any numbers consists of letters
lettered : (hs : List ℕ) → every is_letter (braid_of hs) ≡ true
unfolding braid_of every
lettered [] = refl
lettered (h ∷ hs) = every_append is_letter (half_byte_braid h) (braid_of hs) ∙ and_both (braid_letters h) (lettered hs)

pub encoded_short : (digest : List ℕ) → ((k : ℕ) → get_or digest k 0 < 256) → length digest ≤ 64
    → length (encoded digest) ≤ 2560
unfolding encoded
encoded_short digest b e = omega (arith, short (halves digest) (halves_below digest b), length_halves digest)

pub encoded_letters : (digest : List ℕ) → every is_letter (encoded digest) ≡ true
unfolding encoded
encoded_letters digest = lettered (halves digest)

-- what the encoder writes is an accepted word, with the digest's braid as its letters
pub encoded_accepted : (digest : List ℕ) → ((k : ℕ) → get_or digest k 0 < 256) → length digest ≤ 64
    → word_answer (word_file (encoded digest)) ≡ 0
encoded_accepted digest b e =
    word_file_accepted (encoded digest) (omega (arith, encoded_short digest b e)) (encoded_letters digest)
