-- Lists of labels, which document 01 calls strand orders: the label at each of the eight places, the position of each
-- label, and how a letter changes the list. Places count from 0. Positions count from 1, as in the paper.
use Rattle.std.specs.Prelude.{ℕ, zero, suc, ◌+◌, Bool, cond, ◌&&◌, List, [], ◌∷◌, eqb, get_or, set}
use Rattle.base.specs.Lists.{values, equal, each_once}
use Rattle.word.specs.Letters.{generator}

-- the starting list, 0 to 7
abbrev pub strands_in_order : List ℕ
strands_in_order = values (λ a. a) 8

-- is the list 0 to 7, each once?
abbrev pub is_order : List ℕ → Bool
is_order labels = each_once 8 labels

-- The last of the first n positions of a list at which label a stands. Without such a position it is 0.
unfoldable pub last_position : List ℕ → ℕ → ℕ → ℕ
last_position labels a zero = 0
last_position labels a (suc n) = cond (eqb (get_or labels n 0) a) (suc n) (last_position labels a n)

-- the inverse list of eight labels: for each label 0 to 7, its position, or 0 for a label that is not in the list
unfoldable pub inverse_list : List ℕ → List ℕ
inverse_list labels = values (λ a. last_position labels a 8) 8

-- Are a list and its positions inverse to each other? The list is 0 to 7, each once, and the positions are its inverse
-- list.
abbrev pub are_inverse : List ℕ → List ℕ → Bool
are_inverse labels positions = is_order labels && equal positions (inverse_list labels)

-- the labels at places g and g + 1 change places
unfoldable pub swapped : ℕ → List ℕ → List ℕ
swapped g labels = set (set labels g (get_or labels (g + 1) 0)) (g + 1) (get_or labels g 0)

-- the list that a word leaves: its letters act first to last, each on the list that the letter before it left
unfoldable pub list_after : List ℕ → List ℕ → List ℕ
list_after labels [] = labels
list_after labels (c ∷ w) = list_after (swapped (generator c) labels) w
