-- What shortening promises follows from a word that is the same braid: a refusal leaves the output, and otherwise the
-- writer of words writes the new word.
use Prim.Native.Nat.{ℕ, ◌≤◌}
use mathlib.Core.Path.{◌≡◌, refl, sym, subst, ◌∙◌}
use mathlib.Core.List.{List, []}
use native.Mathlib.Omega.{arith}
use borrow.Author.Tests.{le-leb}
use lib.ListN.{length, take}
use Rattle.base.specs.Questions.{first_no}
use Rattle.base.specs.Lists.{every}
use Rattle.base.proofs.QuestionLaws.{passes}
use Rattle.word.specs.Words.{codes, word_questions, word_answer, WroteWord}
use Rattle.word.proofs.ReadLaws.{accepted_word}
use Rattle.word.proofs.WriteLaws.{wrote_refused, writable, wrote_same}
use Rattle.braid_same.proofs.Laws.{same_lettered}
use Rattle.slip_meaning.proofs.SameBraids.{written_means}
use Rattle.swap_cancel.proofs.SwapCancelLaws.{swapped_length}
use Rattle.word_shortener.specs.Shortener.{shortener_questions, Shortened}
use Rattle.word_shortener.specs.steps.Routes.{BothWays}

module _ (word out : List ℕ) where
  -- if the output has room, the answer is that of the word's questions
  pub past_room : 5002 ≤ length out → first_no (shortener_questions (length out) word) ≡ word_answer word
  unfolding word_answer
  past_room h = passes 15 (word_questions word) (le-leb 5002 (length out) h)

  -- a refusal leaves the output unchanged
  pub not_shortened : {effort answer bytes : ℕ} (n : ℕ) → (answer ≡ n) × (bytes ≡ 0)
      → first_no (shortener_questions (length out) word) ≡ n
      → (n ≡ 0 → ⊥)
      → Shortened effort word out out answer bytes
  unfolding every
  not_shortened n r e h =
      record {
        new = [];
        wrote = wrote_refused _ _ out n r e h;
        lettered = refl;
        irreducible = λ k l s. omega arith;
        saves = λ z. absurd (h (sym r.0 ∙ z));
        means = λ z. absurd (h (sym r.0 ∙ z));
      }

  -- the word of a row is shortened and written
  pub shortened : {effort answer bytes r : ℕ} {old now after : List ℕ} → 5002 ≤ length out → word_answer word ≡ 0
      → old ≡ codes word
      → BothWays effort old now r
      → WroteWord (take r now) out after answer bytes
      → Shortened effort word out after answer bytes
  shortened {effort = effort} {r = r} {now = now} room a is b w =
      let ways : BothWays effort (codes word) now r = subst (λ (v : List ℕ). BothWays effort v now r) is b in
      let same = ways.laid.same in
      let accepted = accepted_word word a in
      let fewer = swapped_length (codes word) in
      let few : length (take r now) ≤ 10000 = omega (arith, ways.saves.not_longer, accepted.count, accepted.few) in
      record {
        new = take r now;
        wrote =
            wrote_same
            (writable (length out) (take r now) room few (same_lettered same accepted.lettered)
            ∙ sym (past_room room ∙ a))
            refl w;
        lettered = same_lettered same accepted.lettered;
        irreducible = ways.laid.irreducible;
        saves = λ z. ways.saves;
        means = λ z. written_means word (take r now) a same few;
      }
