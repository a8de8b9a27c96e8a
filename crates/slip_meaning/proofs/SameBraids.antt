-- Two accepted words that are the same braid have the same meaning. They reach the same matrix from Pub(S), so under
-- every key and digest they get the same verdict. Two corollaries state parts of the claim in the terms of other
-- operations.
use Prim.Native.Nat.{ℕ, ◌≤◌}
use mathlib.Core.Path.{◌≡◌, refl, sym, ap, ◌∙◌}
use mathlib.Core.Bool.{true}
use mathlib.Core.List.{List}
use lib.ListN.{length}
use Rattle.base.specs.Questions.{first_no}
use Rattle.base.specs.Lists.{values_from}
use Rattle.field.specs.Binary.{Operations, BinaryField}
use Rattle.field.specs.Fields.{operations}
use Rattle.field.specs.declared.Field.{Field}
use Rattle.field.proofs.Fields.{binary}
use Rattle.word.specs.Words.{codes, word_answer, word_file}
use Rattle.word.specs.Strands.{strands_in_order, is_order}
use Rattle.word.proofs.ReadLaws.{accepted_word}
use Rattle.word.proofs.RoundTrip.{word_file_accepted, codes_word_file}
use Rattle.word.proofs.PositionLaws.{order_inverse}
use Rattle.pair.specs.declared.Pair.{Pair}
use Rattle.pair.specs.Action.{pair_of, word_on}
use Rattle.pair.specs.Good.{TValues, GoodPair}
use Rattle.pair.proofs.GoodLaws.{tested_pair, tested_values}
use Rattle.pair.proofs.WordLaws.{matrix_alone, list_alone}
use Rattle.word_crossing.specs.Crossings.{crossings}
use Rattle.pair_operands.specs.Operands.{elements, nonzero}
use Rattle.braid_same.specs.SameBraid.{SameBraid}
use Rattle.braid_same.proofs.Laws.{same_lettered}
use Rattle.key.specs.Keys.{key_field, key_answer, key_of}
use Rattle.key.proofs.KeyFacts.{key_values, key_pair, key_field_lem}
use Rattle.slip_verdict.specs.declared.Half.{Half}
use Rattle.slip_verdict.specs.Verdict.{signed, signed_over}
use Rattle.slip_verdict.specs.Halves.{second_half_questions}
use Rattle.slip_verdict.proofs.VerdictLaws.{signed_alike}
use Rattle.slip_verdict.proofs.HalfLaws.{Sized}
use Rattle.slip_verdict.proofs.CopiesAlike.{copies_alike}
use Rattle.slip_verdict.proofs.VerdictIff.{same_verdict, zero_or_14}
use Rattle.slip_meaning.specs.Meaning.{SameMeaning}

-- ---- from the braid to the meaning

-- two words of the same braid reach the same matrix from Pub(S) under an accepted key, over the key's field
same_signed : (key : List ℕ) {w v : List ℕ} → SameBraid w v → key_answer key ≡ 0
    → signed (key_of key) v ≡ signed (key_of key) w
same_signed key {w} {v} s k =
    let f : Field = key_field key in
    let ts : List ℕ = (key_of key).t_values in
    let over : (u : List ℕ) → signed (key_of key) u ≡ signed_over (operations f) ts (key_of key).pair u =
    λ u. ap (λ (g : Field). signed_over (operations g) ts (key_of key).pair u) (key_field_lem key) in
    over v
    ∙ signed_alike ts v w (s.carried (operations f) (binary f) ts (key_values key k)) (key_of key).pair (key_pair key)
    ∙ sym (over w)

-- two accepted words of the same braid have the same meaning
pub same_braid_means : (word new : List ℕ) → word_answer word ≡ 0 → word_answer new ≡ 0
    → SameBraid (codes word) (codes new) → SameMeaning word new
same_braid_means word new a n s =
    record {
      old_accepted = a;
      new_accepted = n;
      carried = s.carried;
      verdicts = λ key digest k d. same_verdict key digest word new k d a n (same_signed key s k);
      zero_or_14 = λ key digest k d. zero_or_14 key digest word k d a;
      exponent = s.exponent;
      crossed = s.crossed;
    }

-- an accepted word and the file written from codes of the same braid have the same meaning
pub written_means : (word v : List ℕ) → word_answer word ≡ 0 → SameBraid (codes word) v → length v ≤ 10000
    → SameMeaning word (word_file v)
written_means word v a s few =
    let e = same_lettered s (accepted_word word a).lettered in
    same_braid_means word (word_file v) a (word_file_accepted v few e) (rw (codes_word_file v few e) s)

-- ---- in other terms

-- Over either field, in the terms of the multiplier's questions: any 64 elements, any list of 0 to 7 each once, any
-- eight T-values other than zero.
pub carried_alike : {word new : List ℕ} → SameMeaning word new → (f : Field) (ts m labels : List ℕ)
    → length ts ≡ 8 → elements f ts ≡ true → nonzero ts ≡ true
    → length m ≡ 64 → elements f m ≡ true
    → length labels ≡ 8 → is_order labels ≡ true
    → word_on (operations f) ts (codes new) (pair_of m labels)
    ≡ word_on (operations f) ts (codes word) (pair_of m labels)
carried_alike s f ts m labels l e n lm em lo o =
    s.carried (operations f) (binary f) ts (tested_values f ts l e n) (pair_of m labels)
    (tested_pair f (pair_of m labels) lm lo em (order_inverse labels o))

-- Whatever positions a pair has, both words take its matrix and list to the same matrix and list.
pub any_positions : {word new : List ℕ} → SameMeaning word new → (F : Operations) → BinaryField F → (ts : List ℕ)
    → TValues F ts
    → (p : Pair) → GoodPair F (pair_of p.matrix p.labels)
    → ((word_on F ts (codes new) p).matrix ≡ (word_on F ts (codes word) p).matrix)
    × ((word_on F ts (codes new) p).labels ≡ (word_on F ts (codes word) p).labels)
any_positions {word} {new} s F L ts tv p good =
    let e = s.carried F L ts tv (pair_of p.matrix p.labels) good in (
      sym (matrix_alone F ts (codes new) p) ∙ ap (λ (q : Pair). q.matrix) e ∙ matrix_alone F ts (codes word) p,
      sym (list_alone F ts (codes new) p) ∙ ap (λ (q : Pair). q.labels) e ∙ list_alone F ts (codes word) p,
    )

-- from the starting list, the signed number of crossings of every two labels is the same in both words
pub crossings_alike : {word new : List ℕ} → SameMeaning word new → (a b : ℕ)
    → crossings a b (codes new) ≡ crossings a b (codes word)
unfolding crossings values_from
crossings_alike s a b = s.crossed strands_in_order refl a b

-- the second half gives two words of the same meaning the same answer, under every half of arrays of their sizes
-- (document 02, §4)
pub halves_alike : {word new : List ℕ} → SameMeaning word new → (h : Half) → Sized h
    → first_no (second_half_questions h new) ≡ first_no (second_half_questions h word)
halves_alike {word} {new} s h sized = copies_alike h sized word new s.old_accepted s.new_accepted s.carried
