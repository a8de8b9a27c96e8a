-- `slip_encoder::encode` meets its contract: on 15 and on 8 it writes nothing. Otherwise the writer from codes writes
-- the braid of the digest, which passes that writer's questions.
use Prim.Native.Nat.{ℕ, ◌<◌}
use mathlib.Core.Path.{◌≡◌, refl, sym, ◌∙◌}
use mathlib.Core.List.{List, []}
use native.Mathlib.Omega.{arith}
use borrow.Author.Tests.{lt-leb, le-leb}
use lib.ListN.{length, drop, get_or}
use lib.Seq.{length-take-le}
use Rattle.base.specs.Questions.{Question, first_no}
use Rattle.base.proofs.QuestionLaws.{passes, fails, passed_answers}
use Rattle.word.proofs.WriteLaws.{wrote_refused, wrote_same, writable}
use Rattle.slip_digest.specs.Digest.{encoded, encoder_questions}
use Rattle.slip_digest.proofs.Encoded.{digest_short, encoded_short, encoded_letters}
use Rattle.slip_encoder.proofs.encode.Goals as goal

pub returns-then-out-lt-MAX_BYTES : goal.returns-then-out-lt-MAX_BYTES
returns-then-out-lt-MAX_BYTES c =
    let digest : List ℕ =
    c.args.digest.now in
    let room : ℕ =
    length c.args.out.now in
    let left : List Question =
    drop 1 (encoder_questions room digest) in
    wrote_refused _ _ c.args.out.now 15 c.refused.ensures
    (fails 15 left (lt-leb 5002 room c.if-out-lt-MAX_BYTES.true)) (omega arith)

pub returns-then-not-is_either : goal.returns-then-not-is_either
returns-then-not-is_either c =
    let digest : List ℕ =
    c.args.digest.now in
    let room : ℕ =
    length c.args.out.now in
    let left : List Question =
    drop 1 (encoder_questions room digest) in
    let past_1 : first_no (encoder_questions room digest) ≡ first_no left =
    passes 15 left (le-leb 5002 room c.if-out-lt-MAX_BYTES.false) in
    wrote_refused _ _ c.args.out.now 8 c.refused-then-not-is_either.ensures
    (past_1 ∙ fails 8 [] (sym c.is_either.ensures ∙ c.if-not-is_either.true)) (omega arith)

pub encode_into-n-requires : goal.encode_into-n-requires
encode_into-n-requires c =
    let digest : List ℕ =
    c.args.digest.now in (
      digest_short digest
          (sym c.is_either.ensures ∙ c.if-not-is_either.false),
      omega arith,
    )

pub slice_bounds-write_word-end : goal.slice_bounds-write_word-end
slice_bounds-write_word-end c =
    let e = c.encode_into-n in
    sym (length-take-le e.result e.new.codes (omega (arith, e.ensures.0, e.auto)))

pub returns : goal.returns
returns c =
    let digest : List ℕ =
    c.args.digest.now in
    let room : ℕ =
    length c.args.out.now in
    let passed = sym c.is_either.ensures ∙ c.if-not-is_either.false in
    let known : (i : ℕ) → get_or digest i 0 < 256 = λ i. omega (arith, c.type_inv.digest i) in
    wrote_same
    (writable room (encoded digest) (omega arith)
    (omega (arith, encoded_short digest known (digest_short digest passed))) (encoded_letters digest)
    ∙ sym (passed_answers (encoder_questions room digest) (le-leb 5002 room (omega arith), (passed, tt))))
    refl
    (rw c.encode_into-n.ensures.1 at c.write_word.ensures)
