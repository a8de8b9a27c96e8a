-- The kinds of moves on a word. Each kind has its questions, from 21 to 24 in the paper's order, and the word that it
-- leaves. Places count from 0, in the word on which the move is made. Kind 1, `removal`, is defined in crate `word`,
-- because free reduction repeats it.
use Rattle.std.specs.Prelude.{ℕ, ◌+◌, ◌-◌, Bool, false, cond, ◌&&◌, List, [], ◌∷◌, ◌++◌, leb, eqb, length, take, drop}
use Rattle.std.specs.Prelude.{get_or}
use Rattle.base.specs.Questions.{◌else◌}
use Rattle.word.specs.Letters.{is_letter, inverse, far, neighbours, same_sign}
use Rattle.word.specs.Words.{max_letters}
use Rattle.word.specs.Cancellation.{Move, removal}

-- Kind 2 swaps two adjacent letters whose generators differ by at least 2
abbrev pub exchange : ℕ → List ℕ → Move
exchange place w =
    let c : ℕ = get_or w place 0 in
    let d : ℕ = get_or w (place + 1) 0 in
    record {
      questions = (leb (place + 2) (length w) else 22) ∷ (far c d else 23) ∷ [];
      word = take place w ++ (d ∷ c ∷ drop (place + 2) w);
    }

-- Kind 3 turns j k j into k j k, where the generators differ by 1 and all three signs agree
abbrev pub braiding : ℕ → List ℕ → Move
braiding place w =
    let j : ℕ = get_or w place 0 in
    let k : ℕ = get_or w (place + 1) 0 in
    record {
      questions =
          (leb (place + 3) (length w) else 22)
          ∷ (neighbours j k && same_sign j k && eqb (get_or w (place + 2) 0) j else 23)
          ∷ [];
      word = take place w ++ (k ∷ j ∷ k ∷ drop (place + 3) w);
    }

-- Kind 16 + c inserts the letter c and then its inverse before the place
abbrev pub insertion : ℕ → ℕ → List ℕ → Move
insertion c place w =
    record {
      questions = (leb place (length w) else 22) ∷ (leb (length w + 2) max_letters else 24) ∷ [];
      word = take place w ++ (c ∷ inverse c ∷ drop place w);
    }

-- a kind that is none of the above
abbrev pub unknown : List ℕ → Move
unknown w = record { questions = (false else 21) ∷ []; word = w }

-- the kinds of insertions: 16 to 22, 24 to 30
abbrev pub inserts : ℕ → Bool
inserts kind = leb 16 kind && is_letter (kind - 16)

-- the move of a kind at a place
unfoldable pub move : ℕ → ℕ → List ℕ → Move
move kind place w =
    cond (eqb kind 1) (removal place w)
    (cond (eqb kind 2) (exchange place w)
    (cond (eqb kind 3) (braiding place w)
    (cond (inserts kind) (insertion (kind - 16) place w)
    (unknown w))))
