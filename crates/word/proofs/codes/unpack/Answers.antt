-- `word::codes::unpack` meets its contract: it unpacks eight bytes at a time, then the last bytes singly.
use Prim.Native.Nat.{ℕ, ◌-◌, ◌*◌, ◌≤◌}
use mathlib.Core.Path.{◌≡◌, sym, ap, ◌∙◌}
use mathlib.Core.List.{List, ◌++◌}
use native.Mathlib.Omega.{arith}
use lib.ListN.{length, take, drop, length-drop, take-append-drop}
use lib.Seq.{length-take-le, take_all}
use Rattle.base.specs.Lists.{overlaid}
use Rattle.base.specs.Digits.{halves}
use Rattle.base.proofs.ListLaws.{overlaid_more}
use Rattle.base.proofs.DigitLaws.{length_halves, halves_append}
use Rattle.word.proofs.codes.unpack.Goals as goal

-- the last bytes, under eight, complete the codes
last_more : (bytes row codes new : List ℕ) (done : ℕ) → done ≤ length bytes → 2 * length bytes ≤ length row
    → length codes ≡ length row
    → codes ≡ overlaid (halves (take done bytes)) row
    → new ≡ overlaid (halves (take (length bytes - done) (drop done bytes)))
    (take (length codes - 2 * done) (drop (2 * done) codes))
    → take (2 * done) codes ++ (new ++ drop (length codes - 2 * done) (drop (2 * done) codes))
    ≡ overlaid (halves bytes) row
last_more bytes row codes new done h room size o w =
    let n : ℕ = length codes - 2 * done in
    let last = length_halves (drop done bytes) in
    let place : 2 * done ≡ length (halves (take done bytes)) =
    sym (length_halves (take done bytes) ∙ ap (λ (m : ℕ). 2 * m) (length-take-le done bytes h)) in
    ap (λ (l : List ℕ). take (2 * done) codes ++ (l ++ drop n (drop (2 * done) codes)))
    (w
    ∙ ap (λ (l : List ℕ). overlaid (halves l) (take n (drop (2 * done) codes)))
    (take_all (length bytes - done) (drop done bytes) (omega (arith, length-drop done bytes))))
    ∙ overlaid_more (halves (take done bytes)) (halves (drop done bytes)) row codes (2 * done) n place
    (omega (arith, length-drop done bytes)) (omega (arith, length-drop done bytes)) o
    ∙ ap (λ (l : List ℕ). overlaid l row)
    (sym (halves_append (take done bytes) (drop done bytes)) ∙ ap halves (take-append-drop done bytes))

pub returns : goal.returns
returns c =
    last_more c.args.bytes.now c.args.codes.now c.whole_words-done.new.codes
    c.singly.new.codes c.whole_words-done.result
    c.whole_words-done.ensures.0 c.requires c.whole_words-done.auto.codes c.whole_words-done.ensures.2
    c.singly.ensures
