-- A digest as a braid. Each half byte of a digest of 32 or 64 bytes, high half first, becomes a power of a pure braid
-- generator. Nothing is cancelled between half bytes.
use Rattle.std.specs.Prelude.{ℕ, ◌+◌, ◌*◌, ◌-◌, ◌/◌, ◌%◌, Bool, ◌||◌, List, [], ◌∷◌, ◌++◌, map, reverse, eqb, length}
use Rattle.std.specs.Prelude.{get_or, replicate}
use Rattle.base.specs.Questions.{Question, ◌else◌}
use Rattle.base.specs.Lists.{values_from}
use Rattle.base.specs.Digits.{halves}
use Rattle.field.specs.Fields.{digest_bytes}
use Rattle.field.specs.declared.Field.{Field}
use Rattle.field.specs.declared.Field.TheVariants.{Gf32, Gf256}
use Rattle.word.specs.Words.{room_question, word_file, Wrote}

-- the low two bits 0, 1, 2, 3 select l = 7, 5, 3, 1, the number of a generator
abbrev pub selected : ℕ → ℕ
selected h = get_or (7 ∷ 5 ∷ 3 ∷ 1 ∷ []) (h % 4) 0

-- the high two bits plus 1 are p
abbrev pub power_of : ℕ → ℕ
power_of h = h / 4 + 1

-- The codes of b_(l+1) up to b7. A code is the generator's number less one, so these are the codes l to 6.
abbrev pub above : ℕ → List ℕ
above l = values_from (λ c. c) l (7 - l)

-- The half byte becomes b7 down to b_(l+1), then b_l 2 × p times, then the inverses of b_(l+1) up to b7.
unfoldable pub half_byte_braid : ℕ → List ℕ
half_byte_braid h =
    reverse (above (selected h))
    ++ (replicate (2 * power_of h) (selected h - 1) ++ map (λ c. c + 8) (above (selected h)))

-- the braids of half bytes, one after another
unfoldable pub braid_of : List ℕ → List ℕ
braid_of [] = []
braid_of (h ∷ hs) = half_byte_braid h ++ braid_of hs

-- the braid of a digest's half bytes, high half first
unfoldable pub encoded : List ℕ → List ℕ
encoded digest = braid_of (halves digest)

-- has the digest the length that goes with the field?
abbrev pub is_digest : Field → List ℕ → Bool
is_digest f digest = eqb (length digest) (digest_bytes f)

-- Digest, under a key of a field: 8
abbrev pub digest_questions : Field → List ℕ → List Question
digest_questions f digest = (is_digest f digest else 8) ∷ []

-- Encoder alone: 15, 8. The digest may have the length of either field.
abbrev pub encoder_questions : ℕ → List ℕ → List Question
encoder_questions room digest = room_question room ∷ (is_digest Gf32 digest || is_digest Gf256 digest else 8) ∷ []

-- what the encoder gives, and what it leaves in the output
abbrev pub WroteEncoded : List ℕ → List ℕ → List ℕ → ℕ → ℕ → Type 0
WroteEncoded digest before after answer bytes =
    Wrote (encoder_questions (length before) digest) (word_file (encoded digest)) before after answer bytes
