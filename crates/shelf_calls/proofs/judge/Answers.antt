-- `shelf_calls::judge` meets its contract: 30, 31, the refusal of the file that is held, or what the slip gets under
-- its key.
use Prim.Native.Nat.{ℕ}
use mathlib.Core.Path.{◌≡◌, refl, sym, ap, ◌∙◌}
use mathlib.Core.Bool.{true, false}
use mathlib.Core.List.{List}
use native.Mathlib.Omega.{arith}
use borrow.Author.Rules.{rules}
use borrow.Author.Tests.{lt-ltb, le-ltb, eqb-true, eqb-false}
use lib.Dec.{leb}
use lib.ListN.{length}
use Rattle.base.specs.Questions.{first_no}
use Rattle.base.specs.Digits.{part}
use Rattle.base.proofs.QuestionLaws.{granted_zero}
use Rattle.base.proofs.ListLaws.{and_left}
use Rattle.word.specs.Words.{letters}
use Rattle.key.specs.Keys.{key_answer, key_of}
use Rattle.key.specs.declared.Key.{Key}
use Rattle.shelf.specs.Shelves.{slot_bytes, is_publisher, has_slot, slot_place, file_in, held, is_held}
use Rattle.shelf.specs.Charges.{admitted}
use Rattle.shelf.specs.Calls.{judge, chip_questions, is_verdict}
use Rattle.shelf.proofs.SlotLaws.{held_in}
use Rattle.shelf.proofs.ChipLaws.{key_no_verdict}
use Rattle.shelf.proofs.CallLaws.{refused, judged, judge_30, judge_31, judge_key, judge_slip}
use Rattle.shelf_calls.proofs.judge.Goals as goal

-- the file found at the slot's place is the file that is held
found : (p n : ℕ) (shelf : List ℕ) {at : ℕ} {file : List ℕ} → has_slot p n ≡ true → at ≡ slot_place p n
    → file ≡ file_in (part at slot_bytes shelf)
    → file ≡ held p n shelf
found p n shelf has e f =
    f ∙ ap (λ (at : ℕ). file_in (part at slot_bytes shelf)) e ∙ sym (held_in p n shelf has)

some : {file here : List ℕ} → here ≡ file → (length here ≡ 0 → ⊥) → is_held file ≡ true
some {file} e h = lt-ltb 0 (length file) (omega (arith, ap length e))

none : {file here : List ℕ} → here ≡ file → length here ≡ 0 → is_held file ≡ false
none {file} e h = le-ltb 0 (length file) (omega (arith, ap length e))

pub returns-in_default : goal.returns-in_default
returns-in_default c =
    let a = c.args in
    refused a.publisher (judge a.number a.digest.now a.word.now) a.shelf.now 30
    (judge_30 a.publisher a.number a.shelf.now a.digest.now a.word.now
    (c.in_default.ensures))
    refl

pub returns-then-is_empty : goal.returns-then-is_empty
returns-then-is_empty c =
    let a = c.args in
    let slot = c.in-Some.ensures in
    let file = found a.publisher a.number a.shelf.now slot.0 slot.1 c.file_at-file.ensures in
    refused a.publisher (judge a.number a.digest.now a.word.now) a.shelf.now 31
    (judge_31 a.publisher a.number a.shelf.now a.digest.now a.word.now slot.0
    (none file (eqb-true _ 0 (sym c.is_empty.ensures ∙ c.if-is_empty.true))))
    refl

pub returns-then-read-ne0 : goal.returns-then-read-ne0
returns-then-read-ne0 c =
    let a = c.args in
    let slot = c.in-Some.ensures in
    let file = found a.publisher a.number a.shelf.now slot.0 slot.1 c.file_at-file.ensures in
    let said = c.read_key-read.ensures.answer_is ∙ ap key_answer file in
    let bad : key_answer (held a.publisher a.number a.shelf.now) ≡ 0 → ⊥ =
    λ z. c.if-read-ne0.true (said ∙ z) in
    refused a.publisher (judge a.number a.digest.now a.word.now) a.shelf.now c.read_key-read.result.answer
    (judge_key a.publisher a.number a.shelf.now a.digest.now a.word.now slot.0
    (some file (eqb-false _ 0 (sym c.is_empty.ensures ∙ c.if-is_empty.false))) bad
    ∙ sym said)
    (ap is_verdict said ∙ key_no_verdict (held a.publisher a.number a.shelf.now) bad)

pub judge_under-requires : goal.judge_under-requires
judge_under-requires c =
    let a = c.args in
    let slot = c.in-Some.ensures in
    (search rules, and_left (is_publisher a.publisher) (leb a.number 3) slot.0)

pub returns : goal.returns
returns c =
    let a = c.args in
    let slot = c.in-Some.ensures in
    let file = found a.publisher a.number a.shelf.now slot.0 slot.1 c.file_at-file.ensures in
    let r = c.read_key-read.ensures in
    let ok = admitted a.publisher (length (letters a.word.now)) a.shelf.now in
    let key = r.key_is ∙ granted_zero _ _ (sym r.answer_is ∙ c.if-read-ne0.false) ∙ ap key_of file in
    judged a.publisher a.number a.digest.now a.word.now a.shelf.now
    (c.judge_under.ensures.answer_is
    ∙ ap (λ (k : Key). first_no (chip_questions ok k a.digest.now a.word.now)) key
    ∙ sym (judge_slip a.publisher a.number a.shelf.now a.digest.now a.word.now slot.0
    (some file (eqb-false _ 0 (sym c.is_empty.ensures ∙ c.if-is_empty.false)))
    (sym (r.answer_is ∙ ap key_answer file) ∙ c.if-read-ne0.false)))
    c.judge_under.ensures.shelf_is
