-- The table of the runs of the sixteen codes, as the code lays it out: eight entries for each code. The first entries
-- are the letters of the run, at most seven. The last entry is their number. Only private contracts cite these
-- definitions.
use Rattle.std.specs.Prelude.{ℕ, zero, suc, ◌+◌, ◌*◌, ◌%◌, ◌<◌, ◌≤◌, ◌≡◌, Bool, true, List, length, take, get_or}
use Rattle.base.specs.Lists.{every}
use Rattle.base.specs.Digits.{part}
use Rattle.word.specs.Letters.{is_letter}
use Rattle.word.specs.Words.{word_file, Wrote}
use Rattle.word_dialect.specs.Dialect.{are_parts, each_by, run, converted, long_question}

-- code i of codes that go in steps, modulo 16
unfoldable pub code_at : ℕ → ℕ → ℕ → ℕ
code_at first step zero = first
code_at first step (suc i) = (code_at first step i + step) % 16

-- a run of letters by its first code, its step and its number of letters
pub record Steps (run : List ℕ) (first step number : ℕ) : Type 0 where
  pub first_below : first < 16
  pub step_below : step < 16
  pub few : number ≤ 7
  pub number_is : number ≡ length run
  pub letters_are : (i : ℕ) → i < number → code_at first step i ≡ get_or run i 0

-- the entries of code c are a run with this first code, this step and this number of letters
pub record Row (table : List ℕ) (c first step number : ℕ) : Type 0 where
  pub number_there : get_or table (8 * c + 7) 0 ≡ number
  pub letters_there : (i : ℕ) → i < 7 → get_or table (8 * c + i) 0 ≡ code_at first step i

-- the entries before place k are unchanged
abbrev pub Before : ℕ → List ℕ → List ℕ → Type 0
Before k before after = (j : ℕ) → j < k → get_or after j 0 ≡ get_or before j 0

-- the run that a table holds for code c
unfoldable pub table_run : List ℕ → ℕ → List ℕ
table_run table c = take (get_or table (8 * c + 7) 0) (part (8 * c) 7 table)

-- the table holds the runs of the codes below k, of at most seven letters each
abbrev pub HoldsRuns : Bool → List ℕ → ℕ → List ℕ → Type 0
HoldsRuns way parts k table =
    (c : ℕ) → c < k → (get_or table (8 * c + 7) 0 ≤ 7) × (table_run table c ≡ run way parts c)

-- a table of sixteen runs, of at most seven letters each
pub record IsTable (table : List ℕ) : Type 0 where
  pub size : length table ≡ 128
  pub few : (c : ℕ) → c < 16 → get_or table (8 * c + 7) 0 ≤ 7

-- each code becomes its run of the table
unfoldable pub laid : List ℕ → List ℕ → List ℕ
laid table w = each_by (table_run table) w

-- what the writer of a converted word is handed: at most 10,000 letters, parts of 7, and room in the output
pub record Convertible (w parts out : List ℕ) : Type 0 where
  pub lettered : every is_letter w ≡ true
  pub few : length w ≤ 10000
  pub parts_are : are_parts parts ≡ true
  pub room : 5002 ≤ length out

-- what the writer of a converted word returns, and what it leaves in the output
abbrev pub WroteRuns : Bool → List ℕ → List ℕ → List ℕ → List ℕ → ℕ → ℕ → Type 0
WroteRuns way w parts before after answer bytes =
    Wrote (long_question way w parts) (word_file (converted way parts w)) before after answer bytes
