-- `slip_verdict::first_half` meets its contract: the key's refusal or the digest's, with zeros, or the half of both.
use Prim.Native.Nat.{ℕ}
use mathlib.Core.Path.{◌≡◌, sym, ap, ◌∙◌}
use mathlib.Core.Bool.{Bool}
use mathlib.Core.List.{List}
use native.Mathlib.Omega.{arith}
use borrow.Author.Tests.{eqb-true}
use lib.ListN.{length}
use Rattle.base.proofs.QuestionLaws.{granted_zero}
use Rattle.key.specs.declared.Key.{Key}
use Rattle.key.specs.Keys.{key_answer, key_of, ReadsKey}
use Rattle.slip_digest.specs.Digest.{is_digest}
use Rattle.slip_digest.proofs.Encoded.{digest_fits}
use Rattle.slip_verdict.specs.Halves.{half_of}
use Rattle.slip_verdict.proofs.HalfLaws.{key_refused, digest_refused, none_refused, refused, made}
use Rattle.slip_verdict.proofs.first_half.Goals as goal

-- a key that was read without a refusal, and the digest's test under it
module _ (key digest : List ℕ) {answer : ℕ} {held : Key} (read : ReadsKey key answer held) (z : answer ≡ 0) where
  key_passed : key_answer key ≡ 0
  key_passed = sym read.answer_is ∙ z

  key_is : held ≡ key_of key
  key_is = read.key_is ∙ granted_zero _ _ key_passed

  tested : {b : Bool} → b ≡ is_digest held.field digest → is_digest (key_of key).field digest ≡ b
  tested e = sym (e ∙ ap (λ (k : Key). is_digest k.field digest) key_is)

pub returns-then-read-ne0 : goal.returns-then-read-ne0
returns-then-read-ne0 c =
    let key = c.args.key.now in
    let digest = c.args.digest.now in
    let e = c.read_key-read.ensures.answer_is in
    refused key digest _ c.refused.ensures
    (key_refused key digest (λ z. c.if-read-ne0.true (e ∙ z)) ∙ sym e) c.if-read-ne0.true

pub returns-then-not-is_digest : goal.returns-then-not-is_digest
returns-then-not-is_digest c =
    let key = c.args.key.now in
    let digest = c.args.digest.now in
    let read = c.read_key-read.ensures in
    let z = c.if-read-ne0.false in
    refused key digest 8 c.refused-then-not-is_digest.ensures
    (digest_refused key digest (key_passed key digest read z)
    (tested key digest read z c.is_digest.ensures ∙ c.if-not-is_digest.true))
    (omega arith)

pub half_of-requires : goal.half_of-requires
half_of-requires c =
    let digest = c.args.digest.now in
    digest_fits c.read_key-read.result.key.field digest
    (eqb-true (length digest) _ (sym c.is_digest.ensures ∙ c.if-not-is_digest.false))

pub returns : goal.returns
returns c =
    let key = c.args.key.now in
    let digest = c.args.digest.now in
    let read = c.read_key-read.ensures in
    let z = c.if-read-ne0.false in
    made key digest
    (none_refused key digest (key_passed key digest read z)
    (tested key digest read z c.is_digest.ensures ∙ c.if-not-is_digest.false))
    (c.half_of.ensures ∙ ap (λ (k : Key). half_of k digest) (key_is key digest read z))
