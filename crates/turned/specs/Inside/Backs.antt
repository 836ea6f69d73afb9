-- The operators backwards: from where each of them leads to a state.
use Rattle.std.specs.Prelude.{◌≡◌, true, List, [], ℕ, ◌+◌, ◌*◌, ◌-◌, ◌≤◌, ◌<◌, get_or}
use Rattle.graph.specs.Graph.{to}
use Rattle.tables.specs.declared.Counts.{Counts}
use Rattle.maps.specs.Inside.Walks.{space_of, states_of}
use Rattle.turned.specs.declared.back.Turned.{Turned}
use Rattle.turned.specs.Inside.Wants.{wanted}

-- what is found of operator o; of one that there is not, nothing
abbrev pub turned_at : List Turned → ℕ → Turned
turned_at turns o = get_or turns o (record { drop = 0; lift = 0; count = 0 })

-- of each operator: what is taken off the number of the state after it, what is put on, and how many offsets there are
abbrev pub drop_at : List Turned → ℕ → ℕ
drop_at turns o = (turned_at turns o).drop

abbrev pub lift_at : List Turned → ℕ → ℕ
lift_at turns o = (turned_at turns o).lift

abbrev pub count_at : List Turned → ℕ → ℕ
count_at turns o = (turned_at turns o).count

-- the i-th state from which operator o leads to b; its offset is the i-th of the operator's n places
unfoldable pub back_at : ℕ → List Turned → List ℕ → ℕ → ℕ → ℕ → ℕ
back_at n turns back o b i = b - drop_at turns o + lift_at turns o + get_or back (o * n + i) 0

-- of operator o: from these states it leads to a state, and from no others
pub record BackOf (c : Counts) (facts : List ℕ) (n : ℕ) (turns : List Turned) (back : List ℕ) (o : ℕ) : Type 0 where
  pub some : 1 ≤ count_at turns o
  pub few : count_at turns o ≤ n
  pub down : (b : ℕ) → b < states_of c facts → wanted c facts o b ≡ true → drop_at turns o ≤ b
  pub inside : (b i : ℕ) → b < states_of c facts → wanted c facts o b ≡ true → i < count_at turns o → back_at n turns back o b i < states_of c facts
  pub sound : (b i : ℕ) → b < states_of c facts → wanted c facts o b ≡ true → i < count_at turns o
      → (space_of c facts []).succ o (back_at n turns back o b i) ≡ to b
  pub matches : (a b : ℕ) → a < states_of c facts → (space_of c facts []).succ o a ≡ to b → wanted c facts o b ≡ true
  pub complete : (a b : ℕ) → a < states_of c facts → (space_of c facts []).succ o a ≡ to b → (i : ℕ) × (i < count_at turns o) × (a ≡ back_at n turns back o b i)

abbrev pub Backs : Counts → List ℕ → ℕ → List Turned → List ℕ → Type 0
Backs c facts n turns back = (o : ℕ) → o < c.ops → BackOf c facts n turns back o
