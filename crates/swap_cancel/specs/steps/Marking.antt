-- A word in which letters that cancel are marked. Only private contracts cite these definitions.
use Rattle.std.specs.Prelude.{ℕ, ◌+◌, ◌-◌, ◌≤◌, ◌<◌, ◌≡◌, true, cond, List, [], ◌∷◌, ◌++◌, ◌⊎◌, length, take, drop}
use Rattle.std.specs.Prelude.{get_or, Option, Some, None}
use Rattle.word.specs.Letters.{is_letter, generator, inverse}
use Rattle.word.specs.Words.{max_letters}
use Rattle.swap_cancel.specs.SwapCancel.{letter_behind}

-- the letters among the codes. A mark is no letter
unfoldable pub kept : List ℕ → List ℕ
kept [] = []
kept (c ∷ w) = cond (is_letter c) (c ∷ kept w) (kept w)

-- the code at place j is a letter of generator g
abbrev pub HasLetter : List ℕ → ℕ → ℕ → Type 0
HasLetter w g j = (is_letter (get_or w j 0) ≡ true) × (generator (get_or w j 0) ≡ g)

-- m is the place after the latest letter of generator g before place k, and 0 if there is none
pub record Newest (w : List ℕ) (g m k : ℕ) : Type 0 where
  pub read : m ≤ k
  pub none_later : (j : ℕ) → m ≤ j → j < k → HasLetter w g j → ⊥
  pub is_there : 0 < m → HasLetter w g (m - 1)

-- The first k codes of a word of n codes were read. `last` has at g + 1 the place after the latest letter of generator
-- g, and 0 if there is none. `before` has for each letter what `last` was before the letter was read.
pub record Marked (n : ℕ) (codes before last : List ℕ) (k : ℕ) : Type 0 where
  pub few : n ≤ max_letters
  pub in_row : n ≤ length codes
  pub room : n ≤ length before
  pub ten : length last ≡ 10
  pub lowest : get_or last 0 0 ≡ 0
  pub highest : get_or last 8 0 ≡ 0
  pub fresh : (j : ℕ) → k ≤ j → j < n → is_letter (get_or codes j 0) ≡ true
  pub latest : (g : ℕ) → g < 7 → Newest codes g (get_or last (g + 1) 0) k
  pub earlier : (p : ℕ) → p < k → is_letter (get_or codes p 0) ≡ true
      → Newest codes (generator (get_or codes p 0)) (get_or before p 0) p

-- the letter at place k is read: it stands behind the letters kept so far, and no later code changes
abbrev pub OneRead : List ℕ → List ℕ → ℕ → Type 0
OneRead codes after k =
    (kept (take (k + 1) after) ≡ letter_behind (kept (take k codes)) (get_or codes k 0))
    × (drop (k + 1) after ≡ drop (k + 1) codes)

-- a code stands behind the first n codes if it is a letter, and no code after place n changes
abbrev pub Packed : ℕ → ℕ → List ℕ → List ℕ → ℕ → Type 0
Packed n c before after r =
    (r ≤ n + 1) × (take r after ≡ take n before ++ kept (c ∷ [])) × (drop (n + 1) after ≡ drop (n + 1) before)

-- place `at` holds the letter that cancels with c
pub record Partner (codes last : List ℕ) (c at : ℕ) : Type 0 where
  pub own : get_or last (generator c + 1) 0 ≡ at + 1
  pub below : get_or last (generator c) 0 ≤ at
  pub above : get_or last (generator c + 2) 0 ≤ at
  pub cancels : get_or codes at 0 ≡ inverse c

-- No letter cancels with c: the latest letter of c's generator has one of a neighbouring generator after it, or is not
-- the inverse of c.
abbrev pub Alone : List ℕ → List ℕ → ℕ → Type 0
Alone codes last c =
    (get_or last (generator c + 1) 0 ≤ get_or last (generator c) 0)
    ⊎ ((get_or last (generator c + 1) 0 ≤ get_or last (generator c + 2) 0)
    ⊎ (get_or codes (get_or last (generator c + 1) 0 - 1) 0 ≡ inverse c → ⊥))

-- a place that holds the letter that cancels with c, or none and no letter does
abbrev pub PartnerOrNone : List ℕ → List ℕ → ℕ → Option ℕ → Type 0
PartnerOrNone codes last c None = Alone codes last c
PartnerOrNone codes last c (Some at) = Partner codes last c at
