-- What cloaking says: yes exactly if the key, the list and the word are accepted and the identity matrix with the list
-- comes back from the word unchanged, list included.
use Prim.Native.Nat.{ℕ}
use mathlib.Core.Path.{◌≡◌, refl, sym, ap, ◌∙◌}
use mathlib.Core.Bool.{Bool, true, false, false≢true}
use mathlib.Core.List.{List, ◌∷◌}
use mathlib.Core.Logic.{◌↔◌}
use Rattle.base.specs.Questions.{◌else◌, first_no}
use Rattle.base.specs.Lists.{equal}
use Rattle.base.proofs.QuestionLaws.{answers_passed, both_passed, granted_zero, granted_either}
use Rattle.base.proofs.ListLaws.{and_left, and_right, and_both, equal_true, equal_of}
use Rattle.field.specs.Binary.{Operations}
use Rattle.field.specs.Fields.{operations}
use Rattle.word.specs.Words.{codes, word_questions, word_answer}
use Rattle.word.specs.Strands.{inverse_list}
use Rattle.pair.specs.declared.Pair.{Pair}
use Rattle.pair.specs.Action.{word_on, identity_with}
use Rattle.pair.proofs.WordLaws.{positions_follow}
use Rattle.key.specs.Keys.{key_field, key_questions, key_answer, key_of}
use Rattle.slip_cloaking.specs.Cloaking.{same_pair, does_come_back, is_list, cloak_questions, Cloaks}
use Rattle.slip_cloaking.proofs.CloakLaws.{past_list}

-- The comparison of pairs looks at matrix and list. It says yes exactly if the pairs are equal, where the positions of
-- both are the inverse lists.
same_pair_lem : (p q : Pair) → p.positions ≡ inverse_list p.labels → q.positions ≡ inverse_list q.labels
    → same_pair p q ≡ true → p ≡ q
unfolding same_pair
same_pair_lem p q ip iq e =
    let m =
    equal_true p.matrix q.matrix (and_left (equal p.matrix q.matrix) (equal p.labels q.labels) e) in
    let l =
    equal_true p.labels q.labels (and_right (equal p.matrix q.matrix) (equal p.labels q.labels) e) in
    λ j. record { matrix = m j; labels = l j; positions = (ip ∙ ap inverse_list l ∙ sym iq) j }

pub same_pair_iff : (p q : Pair) → p.positions ≡ inverse_list p.labels → q.positions ≡ inverse_list q.labels
    → (same_pair p q ≡ true) ↔ (p ≡ q)
unfolding same_pair
same_pair_iff p q ip iq = (
  same_pair_lem p q ip iq,
  λ e. and_both (equal_of (ap (λ (r : Pair). r.matrix) e)) (equal_of (ap (λ (r : Pair). r.labels) e)),
)

-- over any field, `does_come_back` says yes exactly if the identity matrix with the list comes back
pub comes_back_iff : (F : Operations) (ts labels w : List ℕ)
    → (does_come_back F ts labels w ≡ true) ↔ (word_on F ts w (identity_with labels) ≡ identity_with labels)
unfolding does_come_back
comes_back_iff F ts labels w =
    same_pair_iff (word_on F ts w (identity_with labels)) (identity_with labels)
    (positions_follow F ts w (identity_with labels) refl) refl

module _ (key labels word : List ℕ) where
  -- the pair that comes back under the key, over its own field
  abbrev reached : Pair
  reached = word_on (operations (key_field key)) (key_of key).t_values (codes word) (identity_with labels)

  -- key, list and word are accepted, and the pair comes back
  pub record CloaksFor : Type 0 where
    pub key_accepted : key_answer key ≡ 0
    pub list_accepted : is_list labels ≡ true
    pub word_accepted : word_answer word ≡ 0
    pub comes_back : reached ≡ identity_with labels

  -- any operation that meets the contract says yes, on all inputs, if and only if all four hold
  module _ {answer : ℕ} {yes : Bool} (c : Cloaks key labels word answer yes) where
    abbrev back : Bool
    back = does_come_back (operations (key_field key)) (key_of key).t_values labels (codes word)

    accepted : first_no (cloak_questions key labels word) ≡ 0 → back ≡ true → CloaksFor
    unfolding key_answer word_answer
    accepted z b =
        let k = both_passed (key_questions key) ((is_list labels else 25) ∷ word_questions word) tt z in
        let l = (answers_passed ((is_list labels else 25) ∷ word_questions word) tt k.1).0 in
        record {
          key_accepted = k.0;
          list_accepted = l;
          word_accepted = sym (past_list key labels word k.0 l) ∙ z;
          comes_back = (comes_back_iff (operations (key_field key)) (key_of key).t_values labels (codes word)).0 b;
        }

    cloaks : yes ≡ true → CloaksFor
    cloaks y =
        granted_either (λ (b : Bool). b ≡ true → CloaksFor) (first_no (cloak_questions key labels word)) back
        false accepted
        (λ f. absurd (false≢true f)) (sym c.yes_is ∙ y)

    pub yes_iff : (yes ≡ true) ↔ CloaksFor
    yes_iff = (
      cloaks,
      λ f.
          c.yes_is
          ∙ granted_zero back false (past_list key labels word f.key_accepted f.list_accepted ∙ f.word_accepted)
          ∙ (comes_back_iff (operations (key_field key)) (key_of key).t_values labels (codes word)).1 f.comes_back,
    )
