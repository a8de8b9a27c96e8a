-- The digest's braid without what cancels between half bytes carries every good pair to the same pair. antt computes,
-- for every two levels, that the letters up to b7 and down again reduce to the way between the levels.
use Prim.Native.Nat.{ℕ, ◌+◌, ◌*◌, ◌≤◌, ◌<◌}
use mathlib.Core.Path.{◌≡◌, refl, sym, ap, subst, ◌∙◌}
use mathlib.Core.Bool.{Bool, true, ◌&&◌}
use mathlib.Core.List.{List, [], ◌++◌, map, reverse, append_assoc, append-nil}
use native.Mathlib.Omega.{arith}
use lib.ListN.{length, take, get_or}
use lib.Seq.{take_all}
use Rattle.base.specs.Lists.{every, equal, values_from, values, tally, each_once}
use Rattle.base.specs.Digits.{halves}
use Rattle.base.proofs.ListLaws.{and_left, and_right, every_values, equal_true, get_d_values}
use Rattle.field.specs.Binary.{Operations, BinaryField}
use Rattle.field.specs.Polynomial.{Degree, polynomials}
use Rattle.matrix_columns.specs.steps.Lanes.{columns_matrix}
use Rattle.matrix_columns.specs.steps.Constants.{Multiples, Constants}
use Rattle.matrix.proofs.ProductLaws.{identity_elements}
use Rattle.word.specs.Letters.{is_letter}
use Rattle.word.specs.Reduction.{in_front, reduced}
use Rattle.word.specs.Strands.{strands_in_order, swapped, list_after}
use Rattle.word.proofs.PositionLaws.{order_below}
use Rattle.word.proofs.StrandLaws.{after_append}
use Rattle.pair.specs.declared.Pair.{Pair}
use Rattle.pair.specs.Action.{t_value, pair_of, word_on, start}
use Rattle.pair.specs.Good.{GoodPair}
use Rattle.pair.specs.steps.Columns.{held_pair, values_at, Held, Carried}
use Rattle.pair.proofs.WordLaws.{word_on_append, list_carried, codes_good}
use Rattle.pair_powers.specs.steps.Powers.{PowerTable}
use Rattle.slip_digest.specs.Digest.{selected, above, half_byte_braid, braid_of, encoded}
use Rattle.slip_digest.proofs.Encoded.{braid_of_more}
use Rattle.slip_digest_braid.specs.steps.Ways.{way, power_run, level_list, Setting, CarriedFrom}
use Rattle.slip_digest_braid.specs.steps.Ways.{SameCarried, HalfByteCarried, DigestCarried, ShortMatrix}
use Rattle.slip_digest_braid.proofs.CarriedLaws.{same_none, same_then, same_append, same_inside, reduced_same}

-- the starting pair is a good pair
pub start_good : {F : Operations} → BinaryField F → GoodPair F start
unfolding start tally every each_once values_from
start_good L =
    let m = identity_elements L in
    record {
      entries = m.size;
      entry_below = m.below;
      strands = refl;
      label_below = order_below strands_in_order refl;
      positions_are = refl;
    }

-- from level l back up to b7, and from b7 down to level m
abbrev back : ℕ → List ℕ
back l = map (λ c. c + 8) (above l)

abbrev down : ℕ → List ℕ
down m = reverse (above m)

abbrev way_rule : ℕ → ℕ → Bool
way_rule l m = every is_letter (back l ++ down m) && equal (reduced (back l ++ down m)) (way l m)

ways : every (λ l. every (way_rule l) (values (λ m. m) 8)) (values (λ l. l) 8) ≡ true
unfolding values_from every equal in_front reduced way
ways = refl

way_rule_lem : (l m : ℕ) → l ≤ 7 → m ≤ 7 → way_rule l m ≡ true
way_rule_lem l m hl hm =
    every_values (way_rule l) (λ m. m) 8
    (every_values (λ l. every (way_rule l) (values (λ m. m) 8)) (λ l. l) 8 ways l (omega arith)) m (omega arith)

way_same : (l m : ℕ) → l ≤ 7 → m ≤ 7 → SameCarried (back l ++ down m) (way l m)
way_same l m hl hm =
    let t = way_rule_lem l m hl hm in
    let letters = every is_letter (back l ++ down m) in
    subst (SameCarried (back l ++ down m))
    (equal_true (reduced (back l ++ down m)) (way l m)
    (and_right letters (equal (reduced (back l ++ down m)) (way l m)) t))
    (reduced_same (back l ++ down m) (and_left letters (equal (reduced (back l ++ down m)) (way l m)) t))

-- one more half byte: v reaches level l, and the way to the half byte's level and its power follow
step_same : (w v : List ℕ) (l h : ℕ) → l ≤ 7 → selected h ≤ 7 → SameCarried w (v ++ back l)
    → SameCarried (w ++ half_byte_braid h) ((v ++ (way l (selected h) ++ power_run h)) ++ back (selected h))
unfolding half_byte_braid
step_same w v l h hl hm s =
    let m : ℕ = selected h in
    let rest : List ℕ = power_run h ++ back m in
    let e : v ++ ((back l ++ down m) ++ rest) ≡ (v ++ back l) ++ (down m ++ rest) =
    ap (λ (x : List ℕ). v ++ x) (append_assoc (back l) (down m) rest)
    ∙ sym (append_assoc v (back l) (down m ++ rest)) in
    let d : v ++ (way l m ++ rest) ≡ (v ++ (way l m ++ power_run h)) ++ back m =
    ap (λ (x : List ℕ). v ++ x) (sym (append_assoc (way l m) (power_run h) (back m)))
    ∙ sym (append_assoc v (way l m ++ power_run h) (back m)) in
    same_then (same_append s (same_none (down m ++ rest)))
    (subst (λ (x : List ℕ). SameCarried x ((v ++ (way l m ++ power_run h)) ++ back m)) e
    (subst (SameCarried (v ++ ((back l ++ down m) ++ rest))) d
    (same_inside v rest (way_same l m hl hm))))

-- ---- lists

abbrev list_rule : ℕ → ℕ → Bool
list_rule l h =
    equal (list_after (level_list l) (way l (selected h))) (level_list (selected h))
    && equal (list_after (level_list l) (way l (selected h) ++ power_run h)) (level_list (selected h))

lists : every (λ l. every (list_rule l) (values (λ h. h) 16)) (values (λ l. l) 8) ≡ true
unfolding values_from every equal way level_list list_after swapped
lists = refl

module _ (l h : ℕ) (hl : l ≤ 7) (b : h < 16) where
  list_rule_lem : list_rule l h ≡ true
  list_rule_lem =
      every_values (list_rule l) (λ h. h) 16
      (every_values (λ l. every (list_rule l) (values (λ h. h) 16)) (λ l. l) 8 lists l (omega arith)) h b

  -- the list after the way to the half byte's level, and after its power too
  pub way_list : list_after (level_list l) (way l (selected h)) ≡ level_list (selected h)
  way_list =
      equal_true _ _
      (and_left (equal (list_after (level_list l) (way l (selected h))) (level_list (selected h)))
      (equal (list_after (level_list l) (way l (selected h) ++ power_run h)) (level_list (selected h))) list_rule_lem)

  half_list : list_after (level_list l) (way l (selected h) ++ power_run h) ≡ level_list (selected h)
  half_list =
      equal_true _ _
      (and_right (equal (list_after (level_list l) (way l (selected h))) (level_list (selected h)))
      (equal (list_after (level_list l) (way l (selected h) ++ power_run h)) (level_list (selected h))) list_rule_lem)

value_at : (ts : List ℕ) (a : ℕ) → a < 8 → t_value ts strands_in_order a ≡ get_or ts a 0
unfolding t_value
value_at ts a h = ap (λ (k : ℕ). get_or ts k 0) (get_d_values (λ a. a) 8 a h)

-- The loop over half bytes: a word is multiplied in that, with the way back to level 7, carries pairs as the braid of
-- the first k half bytes does. It leaves the list of level l.
pub record Reached (bits : ℕ) (constants powers hs : List ℕ) (k l : ℕ) (columns labels columns' labels' : List ℕ) :
    Type 0 where
  pub word : List ℕ
  pub same : SameCarried (braid_of (take k hs)) (word ++ back l)
  pub list_is : list_after (level_list 7) word ≡ level_list l
  pub holds : Held bits constants columns' labels'
  pub carries : CarriedFrom bits constants powers 7 word columns labels columns' labels'

pub none_reached : (bits : ℕ) (cs powers hs columns labels : List ℕ) → Held bits cs columns labels
    → Reached bits cs powers hs 0 7 columns labels columns labels
unfolding braid_of values_from list_after word_on
none_reached bits cs powers hs columns labels held =
    record { word = []; same = same_none []; list_is = refl; holds = held; carries = λ p ts s good at. refl }

-- after a word, the pair is good again, and the labels are those of the level that the word reaches
module _ {bits : ℕ} {cs powers : List ℕ} (l : ℕ) (columns labels columns' labels' w : List ℕ)
    (list_is : list_after (level_list 7) w ≡ level_list l) (p : ℕ) (ts : List ℕ) (s : Setting bits p ts cs powers)
    (good : GoodPair (polynomials bits p) (held_pair columns labels)) (at : labels ≡ level_list 7)
    (e : held_pair columns' labels' ≡ word_on (polynomials bits p) ts w (held_pair columns labels)) where
  good_there : GoodPair (polynomials bits p) (held_pair columns' labels')
  good_there =
      subst (GoodPair (polynomials bits p)) (sym e) (codes_good s.binary ts w (held_pair columns labels) good)

  list_there : labels' ≡ level_list l
  list_there =
      ap (λ (q : Pair). q.labels) e ∙ list_carried (polynomials bits p) ts w (held_pair columns labels)
      ∙ ap (λ (k : List ℕ). list_after k w) at ∙ list_is

pub more_reached : {bits k l : ℕ} {cs powers hs columns labels columns' labels' columns'' labels'' : List ℕ} (h m : ℕ)
    → k < length hs → h ≡ get_or hs k 0 → h < 16 → l ≤ 7 → m ≡ selected h → m ≤ 7
    → Reached bits cs powers hs k l columns labels columns' labels'
    → HalfByteCarried bits cs powers l h columns' labels' columns'' labels''
    → Reached bits cs powers hs (k + 1) m columns labels columns'' labels''
more_reached {bits} {k} {l} {cs} {powers} {hs} {columns} {labels} {columns'} {labels'} h m b e below hl em hm r c =
    record {
      word = r.word ++ v;
      same = grown;
      list_is =
          after_append (level_list 7) r.word v ∙ ap (λ (x : List ℕ). list_after x v) r.list_is
          ∙ half_list l h hl below ∙ ap level_list (sym em);
      holds = c.holds;
      carries = λ p ts s good at.
          let d = r.carries p ts s good at in
          c.carries p ts s (good_there l columns labels columns' labels' r.word r.list_is p ts s good at d)
          (list_there l columns labels columns' labels' r.word r.list_is p ts s good at d)
          ∙ ap (word_on (polynomials bits p) ts v) d
          ∙ sym (word_on_append (polynomials bits p) ts r.word v (held_pair columns labels));
    }
  where
    v : List ℕ
    v = way l (selected h) ++ power_run h

    grown : SameCarried (braid_of (take (k + 1) hs)) ((r.word ++ v) ++ back m)
    grown =
        rw (braid_of_more hs k b, ← e, em)
        (step_same (braid_of (take k hs)) r.word l h hl (rw (← em) hm) r.same)

-- after the last half byte, the way back to level 7
pub all_reached : {bits : ℕ} {cs powers columns labels columns' labels' columns'' labels'' : List ℕ} (digest : List ℕ)
    (k l : ℕ) → length (halves digest) ≤ k → l ≤ 7
    → Reached bits cs powers (halves digest) k l columns labels columns' labels'
    → Carried bits cs (way l 7) columns' labels' columns'' labels''
    → DigestCarried bits cs powers digest columns labels columns''
unfolding encoded values_from
all_reached {bits} {columns = columns} {labels = labels} {labels'' = labels''} digest k l b hl r c =
    record {
      word = r.word ++ way l 7;
      list = labels'';
      same =
          rw (← take_all k (halves digest) b)
          (same_then r.same
          (same_append (same_none r.word) (rw append-nil at (way_same l 7 hl (omega arith)))));
      carries = λ p ts s good at.
          c.carries p s.degree ts s.constants_are
          ∙ ap (word_on (polynomials bits p) ts (way l 7)) (r.carries p ts s good at)
          ∙ sym (word_on_append (polynomials bits p) ts r.word (way l 7) (held_pair columns labels));
    }

-- ---- the matrix

-- the constants of the T-values at the places 0 to 7 are those of the T-values
in_order : {F : Operations} {bits : ℕ} (ts cs : List ℕ) → Constants F bits (values_at ts strands_in_order) cs
    → Constants F bits ts cs
in_order {F} {bits} ts cs c =
    record {
      bytes = c.bytes;
      of_value = λ a h. subst (Multiples F bits cs (8 * a)) (value a h) (c.of_value a h);
      of_reciprocal = λ a h.
          subst (λ (t : ℕ). Multiples F bits cs (64 + 8 * a) (F.inv t)) (value a h) (c.of_reciprocal a h);
    }
  where
    value : (a : ℕ) → a < 8 → get_or (values_at ts strands_in_order) a 0 ≡ get_or ts a 0
    value a h = get_d_values (t_value ts strands_in_order) 8 a h ∙ value_at ts a h

-- the columns that the digest's braid leaves hold the matrix that the braid reaches from the starting pair
pub short_is : {bits p : ℕ} → Degree bits p → (ts digest cs powers columns columns' : List ℕ) (begin : Pair)
    → begin ≡ start
    → columns_matrix columns ≡ begin.matrix
    → Constants (polynomials bits p) bits (values_at ts begin.labels) cs
    → PowerTable (polynomials bits p) bits cs 4 powers
    → DigestCarried bits cs powers digest columns strands_in_order columns'
    → ShortMatrix (polynomials bits p) ts digest (columns_matrix columns')
unfolding start values_from level_list list_after
short_is {bits} {p} degree ts digest cs powers columns columns' begin e m constants table d L tv =
    let F : Operations = polynomials bits p in
    let first : held_pair columns strands_in_order ≡ start =
    ap (λ (x : List ℕ). pair_of x strands_in_order) (m ∙ ap (λ (q : Pair). q.matrix) e) in
    let setting : Setting bits p ts cs powers =
    record {
      degree = degree;
      binary = L;
      constants_are =
          in_order ts cs
          (subst (λ (k : List ℕ). Constants F bits (values_at ts k) cs) (ap (λ (q : Pair). q.labels) e) constants);
      powers_are = table;
    } in
    ap (λ (q : Pair). q.matrix)
    (d.carries p ts setting (subst (GoodPair F) (sym first) (start_good L)) refl
    ∙ ap (word_on F ts d.word) first
    ∙ d.same.carried F L ts tv start (start_good L))
