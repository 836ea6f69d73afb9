-- The work area, in bytes: the facts as in the lent table, then each cost and each share in 3 bytes, the lowest first.
use Rattle.std.specs.Prelude.{ℕ, zero, suc, ◌+◌, ◌*◌, ◌/◌, ◌%◌, List, [], ◌∷◌, get_or, set}
use Rattle.tables.specs.Layout.{facts_room, share_place}

-- the costs follow the facts, the shares the costs
abbrev pub costs_byte : ℕ
costs_byte = facts_room

abbrev pub shares_byte : ℕ
shares_byte = 1816

abbrev pub area_room : ℕ
area_room = 3352

-- a byte of the area, and a number in 3 bytes of it
unfoldable pub put_byte : List ℕ → ℕ → ℕ → List ℕ
put_byte w i v = set w i (v % 256)

unfoldable pub word_in : List ℕ → ℕ → ℕ
word_in w i = get_or w i 0 + 256 * get_or w (i + 1) 0 + 65536 * get_or w (i + 2) 0

unfoldable pub put_word : List ℕ → ℕ → ℕ → List ℕ
put_word w i v = put_byte (put_byte (put_byte w i v) (i + 1) (v / 256)) (i + 2) (v / 65536)

-- n numbers of 3 bytes, from byte i on
unfoldable pub threes : ℕ → ℕ → List ℕ → List ℕ
threes zero i w = []
threes (suc n) i w = word_in w i ∷ threes n (i + 3) w

-- where a cost and a share stand, and what stands there; a variable's number of values
abbrev pub cost_byte : ℕ → ℕ
cost_byte o = costs_byte + 3 * o

abbrev pub share_byte : ℕ → ℕ → ℕ
share_byte m o = shares_byte + 3 * share_place m o

abbrev pub cost_in : List ℕ → ℕ → ℕ
cost_in w o = word_in w (cost_byte o)

abbrev pub share_in : List ℕ → ℕ → ℕ → ℕ
share_in w m o = word_in w (share_byte m o)

abbrev pub dom_in : List ℕ → ℕ → ℕ
dom_in w v = get_or w v 0
