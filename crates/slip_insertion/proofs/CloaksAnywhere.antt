-- Document 02, §12, from bytes to bytes. Cloaking words are inserted at places of an accepted word, each for the list
-- reached at its place. The result is an accepted word with the same verdict, under every digest. It is one claim about
-- a list of insertions as a whole, and about a list of insertions and moves in any order.
use Prim.Native.Nat.{ℕ, ◌+◌, ◌≤◌}
use mathlib.Core.Path.{◌≡◌, refl, sym, ap, ◌∙◌}
use mathlib.Core.Bool.{true}
use mathlib.Core.List.{List, [], ◌∷◌, ◌++◌, map}
use native.Mathlib.Omega.{arith}
use borrow.Author.Tests.{eqb-true}
use lib.Dec.{eqb}
use native.Mathlib.Decide.{ℕ_discrete}
use lib.ListN.{length, take, drop, length-append, take-append-drop}
use Rattle.base.specs.Questions.{first_no}
use Rattle.base.proofs.ListLaws.{and_left, and_right, and_both, every_append, every_take, every_drop}
use Rattle.field.specs.Fields.{operations, digest_bytes}
use Rattle.field.specs.Binary.{Operations}
use Rattle.field.proofs.Fields.{binary}
use Rattle.matrix.proofs.ProductLaws.{identity_elements}
use Rattle.word.specs.Letters.{is_letter}
use Rattle.word.specs.Words.{max_letters, codes, word_answer, word_file, WroteWord}
use Rattle.word.proofs.LetterLaws.{Lettered}
use Rattle.word.proofs.ReadLaws.{accepted_word}
use Rattle.word.proofs.WriteLaws.{writable}
use Rattle.word.proofs.RoundTrip.{codes_word_file, word_file_accepted, wrote_file}
use Rattle.pair.specs.declared.Pair.{Pair}
use Rattle.pair.specs.Action.{identity_with, word_on}
use Rattle.pair.specs.Good.{GoodPair}
use Rattle.word.proofs.PositionLaws.{order_below}
use Rattle.word.specs.Strands.{is_order}
use Rattle.key.specs.Keys.{key_field, key_answer, key_of}
use Rattle.key.proofs.KeyFacts.{key_values, key_pair}
use Rattle.slip_verdict.specs.Verdict.{verdict, signed, signed_over}
use Rattle.slip_cloaking.specs.Cloaking.{does_come_back, Cloaks}
use Rattle.slip_cloaking.proofs.CloakLaws.{answered, past_list}
use Rattle.slip_cloaking.proofs.CloakIff.{comes_back_iff, CloaksFor, yes_iff}
use Rattle.slip_verdict.proofs.VerdictIff.{same_verdict, digest_refused}
use Rattle.move_kinds.specs.Rewriting.{Step, move_of}
use Rattle.braid_same.proofs.Laws.{same_lettered}
use Rattle.move_kinds.proofs.MoveLaws.{Kept, move_kept}
use Rattle.slip_insertion.specs.Insertion.{inserted_at, Insertion, inserted_by, Hides, insertions}
use Rattle.slip_insertion.specs.Insertion.{HidesAll, Alteration, inserting, moving, altered, Allowed, alterations}
use Rattle.slip_insertion.specs.Insertion.{AllowedAll}
use Rattle.slip_insertion.proofs.CloakedPairs.{inserted_carries}

-- what the cloaking operation's answer 0 and its yes tell
cloaked : {key labels file : List ℕ} → Cloaks key labels file 0 true → CloaksFor key labels file
cloaked {key} {labels} {file} c = (yes_iff key labels file c).0 refl

-- the identity with a list that was accepted
list_good : {key labels file : List ℕ} → CloaksFor key labels file
    → GoodPair (operations (key_field key)) (identity_with labels)
list_good {key} {labels} c =
    let one = identity_elements (binary (key_field key)) in
    record {
      entries = one.size;
      entry_below = one.below;
      strands = eqb-true (length labels) 8 (and_left (eqb (length labels) 8) (is_order labels) c.list_accepted);
      label_below = order_below labels (and_right (eqb (length labels) 8) (is_order labels) c.list_accepted);
      positions_are = refl;
    }

-- ---- a word inserted

inserted_lettered : (place : ℕ) (v w : List ℕ) → Lettered v → Lettered w → Lettered (inserted_at place v w)
inserted_lettered place v w ev ew =
    every_append is_letter (take place w) (v ++ drop place w)
    ∙ and_both (every_take is_letter place w ew)
    (every_append is_letter v (drop place w) ∙ and_both ev (every_drop is_letter place w ew))

pub inserted_length : (place : ℕ) (v w : List ℕ) → length (inserted_at place v w) ≡ length w + length v
inserted_length place v w =
    simp length-append
    (omega (arith, sym (length-append (take place w) (drop place w)) ∙ ap length (take-append-drop place w)))

-- ---- what is kept of a word under a key

-- the word v has at most 10,000 letters, and carries Pub(S) where w carries it, matrix and list
record KeptUnder (key w v : List ℕ) : Type 0 where
  lettered : Lettered v
  short : length v ≤ 10000
  carried : word_on (operations (key_field key)) (key_of key).t_values v (key_of key).pair
      ≡ word_on (operations (key_field key)) (key_of key).t_values w (key_of key).pair

kept_none : {key w : List ℕ} → Lettered w → length w ≤ 10000 → KeptUnder key w w
kept_none e few = record { lettered = e; short = few; carried = refl }

kept_then : {key w v u : List ℕ} → KeptUnder key w v → KeptUnder key v u → KeptUnder key w u
kept_then a b = record { lettered = b.lettered; short = b.short; carried = b.carried ∙ a.carried }

module _ (key : List ℕ) (k : key_answer key ≡ 0) (w : List ℕ) (e : Lettered w) where
  insertion_kept : (i : Insertion) → Hides key i w → KeptUnder key w (inserted_by i w)
  insertion_kept i h =
      let v : List ℕ = codes i.file in
      let ev : Lettered v = (accepted_word i.file (cloaked h.cloaks).word_accepted).lettered in
      record {
        lettered = inserted_lettered i.place v w ev e;
        short = omega (arith, h.few, inserted_length i.place v w);
        carried =
            inserted_carries (binary (key_field key)) (key_of key).t_values i.place v w ev
            (key_of key).pair (key_pair key)
            (cloaked h.cloaks).comes_back;
      }

  move_kept_under : length w ≤ 10000 → (s : Step) → first_no (move_of s w).questions ≡ 0
      → KeptUnder key w (move_of s w).word
  move_kept_under few s a =
      let m : Kept w (move_of s w).word = move_kept w e few s.place s.kind a in
      record {
        lettered = same_lettered m.same e;
        short = m.short;
        carried =
            m.same.carried (operations (key_field key)) (binary (key_field key)) (key_of key).t_values
            (key_values key k) (key_of key).pair (key_pair key);
      }

  alteration_kept : length w ≤ 10000 → (c : Alteration) → Allowed key c w → KeptUnder key w (altered c w)
  alteration_kept few (inserting i) h = insertion_kept i h
  alteration_kept few (moving s) h = move_kept_under few s h

alterations_kept : (key : List ℕ) → key_answer key ≡ 0 → (cs : List Alteration) (w : List ℕ) → Lettered w
    → length w ≤ 10000
    → AllowedAll key cs w
    → KeptUnder key w (alterations cs w)
unfolding AllowedAll alterations
alterations_kept key k [] w e few h = kept_none e few
alterations_kept key k (c ∷ cs) w e few h =
    let one : KeptUnder key w (altered c w) = alteration_kept key k w e few c h.0 in
    kept_then one (alterations_kept key k cs (altered c w) one.lettered one.short h.1)

-- ---- the verdict

-- Two words under a key: the second is accepted, it carries Pub(S) where the first carries it, matrix and list, and its
-- verdict is that of the first, under every digest.
pub record SameVerdicts (key word new : List ℕ) : Type 0 where
  pub new_accepted : word_answer new ≡ 0
  pub carried : word_on (operations (key_field key)) (key_of key).t_values (codes new) (key_of key).pair
      ≡ word_on (operations (key_field key)) (key_of key).t_values (codes word) (key_of key).pair
  pub verdicts : (digest : List ℕ) → verdict key digest new ≡ verdict key digest word

module _ (key word : List ℕ) (k : key_answer key ≡ 0) (a : word_answer word ≡ 0) where
  kept_verdict : (v : List ℕ) → KeptUnder key (codes word) v → SameVerdicts key word (word_file v)
  unfolding signed_over key_of
  kept_verdict v h =
      record {
        new_accepted = new;
        carried = same_pair_lem;
        verdicts = λ digest. go digest (ℕ_discrete (length digest) (digest_bytes (key_field key)));
      }
    where
      new : word_answer (word_file v) ≡ 0
      new = word_file_accepted v h.short h.lettered

      same_pair_lem : word_on (operations (key_field key)) (key_of key).t_values (codes (word_file v)) (key_of key).pair
          ≡ word_on (operations (key_field key)) (key_of key).t_values (codes word) (key_of key).pair
      same_pair_lem =
          ap (λ (u : List ℕ). word_on (operations (key_field key)) (key_of key).t_values u (key_of key).pair)
          (codes_word_file v h.short h.lettered)
          ∙ h.carried

      reached : signed (key_of key) (codes (word_file v)) ≡ signed (key_of key) (codes word)
      reached = ap (λ (p : Pair). p.matrix) same_pair_lem

      go : (digest : List ℕ) → Dec (length digest ≡ digest_bytes (key_field key))
          → verdict key digest (word_file v) ≡ verdict key digest word
      go digest (yes d) = same_verdict key digest word (word_file v) k d a new reached
      go digest (no d) = digest_refused key digest (word_file v) k d ∙ sym (digest_refused key digest word k d)

  word_few : length (codes word) ≤ 10000
  word_few = omega (arith, (accepted_word word a).count, (accepted_word word a).few)

  word_lettered : Lettered (codes word)
  word_lettered = (accepted_word word a).lettered

  -- one insertion
  pub cloak_inserted : (i : Insertion) → Hides key i (codes word)
      → SameVerdicts key word (word_file (inserted_by i (codes word)))
  cloak_inserted i h = kept_verdict (inserted_by i (codes word)) (insertion_kept key k (codes word) word_lettered i h)

  -- insertions and moves, in any order, one after another
  pub cloaks_and_moves : (cs : List Alteration) → AllowedAll key cs (codes word)
      → SameVerdicts key word (word_file (alterations cs (codes word)))
  cloaks_and_moves cs h =
      kept_verdict (alterations cs (codes word)) (alterations_kept key k cs (codes word) word_lettered word_few h)

  -- insertions alone
  as_alterations : (is : List Insertion) (w : List ℕ) → alterations (map inserting is) w ≡ insertions is w
  unfolding alterations insertions
  as_alterations [] w = refl
  as_alterations (i ∷ is) w = as_alterations is (inserted_by i w)

  allowed : (is : List Insertion) (w : List ℕ) → HidesAll key is w → AllowedAll key (map inserting is) w
  unfolding HidesAll AllowedAll
  allowed [] w h = tt
  allowed (i ∷ is) w h = (h.0, allowed is (inserted_by i w) h.1)

  -- several insertions, one after another
  pub cloaks_inserted : (is : List Insertion) → HidesAll key is (codes word)
      → SameVerdicts key word (word_file (insertions is (codes word)))
  cloaks_inserted is h =
      rw (← as_alterations is (codes word)) (cloaks_and_moves (map inserting is) (allowed is (codes word) h))

  -- from bytes to bytes: the writer from codes, given the altered word and room for a word, answers 0, and the file in
  -- the output's first bytes, as many as it reports, has the same verdicts
  pub written_verdicts : (cs : List Alteration) → AllowedAll key cs (codes word)
      → {before after : List ℕ} {answer bytes : ℕ}
      → 5002 ≤ length before → WroteWord (alterations cs (codes word)) before after answer bytes
      → (answer ≡ 0) × SameVerdicts key word (take bytes after)
  written_verdicts cs h {before} room w =
      let m = alterations_kept key k cs (codes word) word_lettered word_few h in
      let asked = writable (length before) (alterations cs (codes word)) room m.short m.lettered in
      (w.answer_is ∙ asked, rw (wrote_file w asked) (cloaks_and_moves cs h))

-- ---- cloaking words in cloaking words

-- A word cloaks for a list. With a word inserted that cloaks for the list reached at its place, it still cloaks for the
-- list.
cloak_in_cloak : (key labels word : List ℕ) → Cloaks key labels word 0 true → (i : Insertion)
    → Cloaks key
    (word_on (operations (key_field key)) (key_of key).t_values (take i.place (codes word))
    (identity_with labels)).labels i.file 0 true
    → length (codes word) + length (codes i.file) ≤ max_letters
    → Cloaks key labels (word_file (inserted_by i (codes word))) 0 true
cloak_in_cloak key labels word c i d few =
    answered key labels new
    (past_list key labels new old.key_accepted old.list_accepted ∙ word_file_accepted v short ev)
    (sym
    (ap (λ (u : List ℕ). does_come_back F ts labels u) (codes_word_file v short ev)
    ∙ (comes_back_iff F ts labels v).1 (same ∙ old.comes_back)))
  where
    F : Operations
    F = operations (key_field key)

    ts : List ℕ
    ts = (key_of key).t_values

    old : CloaksFor key labels word
    old = cloaked c

    v : List ℕ
    v = inserted_by i (codes word)

    new : List ℕ
    new = word_file v

    ei : Lettered (codes i.file)
    ei = (accepted_word i.file (cloaked d).word_accepted).lettered

    ev : Lettered v
    ev =
        inserted_lettered i.place (codes i.file) (codes word) ei
        (accepted_word word old.word_accepted).lettered

    short : length v ≤ 10000
    short = omega (arith, few, inserted_length i.place (codes i.file) (codes word))

    same : word_on F ts v (identity_with labels) ≡ word_on F ts (codes word) (identity_with labels)
    same =
        inserted_carries (binary (key_field key)) ts i.place (codes i.file) (codes word) ei (identity_with labels)
        (list_good old) (cloaked d).comes_back
