-- A key shelf that a file holds, at the desk: which files are shelves, how a publisher and a key number are written,
-- what is answered, and what is then to be written.
use Rattle.std.specs.Prelude.{ℕ, ◌-◌, ◌≡◌, Bool, cond, ◌&&◌, ◌||◌, List, leb, eqb, length, take, get_or}
use Rattle.base.specs.Lists.{overlaid}
use Rattle.text.specs.Enough.{Enough, EnoughOfTwo, EnoughOfThree}
use Rattle.shelf.specs.Shelves.{shelf_bytes, empty_shelf}
use Rattle.shelf.specs.Calls.{Work, load, clear, judge, round, answer_to, after}
use Rattle.desk_line.specs.declared.Got.{Got}
use Rattle.desk_shelf.specs.declared.Served.{Served}

-- Is the file a shelf? It has the bytes of a shelf, or none: a file without bytes is the empty shelf.
unfoldable pub is_shelf : List ℕ → Bool
is_shelf file = eqb (length file) 0 || eqb (length file) shelf_bytes

abbrev pub shelf_in : List ℕ → List ℕ
shelf_in file = overlaid file empty_shelf

-- The number that a text of one digit writes. Any other text counts as 10, which is no publisher and no key number.
unfoldable pub digit_of : List ℕ → ℕ
digit_of text = cond (eqb (length text) 1 && leb 48 (get_or text 0 0) && leb (get_or text 0 0) 57)
    (get_or text 0 0 - 48) 10

-- what stands in place of an answer if a file could not be read or is no shelf; no answer of the papers has this number
abbrev pub unanswered : ℕ
unanswered = 255

-- the answer to a publisher's work on the shelf in a file, and the shelf that it leaves
unfoldable pub served_answer : List ℕ → ℕ → Work → ℕ
served_answer file publisher work = cond (is_shelf file) (answer_to publisher work (shelf_in file)) unanswered

unfoldable pub served_shelf : List ℕ → ℕ → Work → List ℕ
served_shelf file publisher work = cond (is_shelf file) (after publisher work (shelf_in file)) empty_shelf

-- What a verb gives: whether every file could be read, whether the first file is a shelf, the answer, and the shelf to
-- write.
pub record ServesFile (read : Bool) (file : List ℕ) (publisher : ℕ) (work : Work) (served : Served) : Type 0 where
  pub read_is : served.read ≡ read
  pub whole_is : served.whole ≡ is_shelf file
  pub answer_is : served.answer ≡ cond read (served_answer file publisher work) unanswered
  pub shelf_is : served.shelf ≡ cond read (served_shelf file publisher work) empty_shelf

-- The four verbs. Each file is what was read into its buffer; publisher and key number are texts.
abbrev pub LoadsFile : Got → Got → List ℕ → List ℕ → List ℕ → List ℕ → Served → Type 0
LoadsFile s k old publisher number key served =
    ServesFile (s.read && k.read) (take s.bytes old) (digit_of publisher)
    (load (digit_of number) (take k.bytes key)) served

abbrev pub ClearsFile : Got → List ℕ → List ℕ → List ℕ → Served → Type 0
ClearsFile s old publisher number served =
    ServesFile s.read (take s.bytes old) (digit_of publisher) (clear (digit_of number)) served

abbrev pub StartsRound : Got → List ℕ → List ℕ → Served → Type 0
StartsRound s old publisher served = ServesFile s.read (take s.bytes old) (digit_of publisher) round served

abbrev pub JudgesFile : Got → Got → Got → List ℕ → List ℕ → List ℕ → List ℕ → List ℕ → Served → Type 0
JudgesFile s d w old publisher number digest word served =
    ServesFile (s.read && d.read && w.read) (take s.bytes old) (digit_of publisher)
    (judge (digit_of number) (take d.bytes digest) (take w.bytes word)) served

-- How many bytes are enough to read: of a shelf, for any work; of a shelf and a key, to load the key; of a shelf, a
-- digest and a word, to judge a slip. Answer and shelf are those for the whole files, however long they are.
pub record EnoughOfShelf (s : ℕ) : Type 0 where
  pub shelf : Enough s is_shelf
  pub answer : (p : ℕ) (work : Work) → Enough s (λ file. served_answer file p work)
  pub left : (p : ℕ) (work : Work) → Enough s (λ file. served_shelf file p work)

pub record EnoughToLoad (s k : ℕ) : Type 0 where
  pub shelf : Enough s is_shelf
  pub answer : (p n : ℕ) → EnoughOfTwo s k (λ file key. served_answer file p (load n key))
  pub left : (p n : ℕ) → EnoughOfTwo s k (λ file key. served_shelf file p (load n key))

pub record EnoughToJudge (s d w : ℕ) : Type 0 where
  pub shelf : Enough s is_shelf
  pub answer : (p n : ℕ) → EnoughOfThree s d w (λ file digest word. served_answer file p (judge n digest word))
  pub left : (p n : ℕ) → EnoughOfThree s d w (λ file digest word. served_shelf file p (judge n digest word))
