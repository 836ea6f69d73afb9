-- Distance tables and tables of best steps, round by round: what the functions below the entries ask and give.
use Rattle.std.specs.Prelude.{◌≡◌, Bool, true, false, List, ℕ, ◌≤◌, ◌<◌, length, get_or}
use Rattle.graph.specs.Cost.{Cost}
use Rattle.graph.specs.Graph.{Graph}
use Rattle.graph.specs.Least.{at_goal, best, least, Rounds}
use Rattle.graph.specs.Noted.{under, choose, chosen, noted}
use Rattle.meaning.specs.Limits.{most_cost}
use Rattle.tables.specs.declared.Counts.{Counts}
use Rattle.sweep.specs.declared.rounds.Pick.{Pick}
use Rattle.sweep.specs.Said.{NONE, HALT, said, said_at, advised, advised_at}

-- every price is one that an operator may have
abbrev pub PricesSmall : Counts → List ℕ → Type 0
PricesSmall c prices = (o : ℕ) → o < c.ops → get_or prices o 0 ≤ most_cost

-- with one price more, a number up to here still fits below NONE
abbrev pub most_addable : ℕ
most_addable = 4290000000

-- the numbers of the first n places are none, or small enough for one price more
abbrev pub Addable : ℕ → List ℕ → Type 0
Addable n t = (a : ℕ) → a < n → get_or t a 0 < NONE → get_or t a 0 ≤ most_addable

-- each of the first k places of t is as P says, and the others are those of t₀
pub record Made (P : ℕ → ℕ → Type 0) (k : ℕ) (t₀ t : List ℕ) : Type 0 where
  pub size : length t ≡ length t₀
  pub made : (a : ℕ) → a < k → P a (get_or t a 0)
  pub kept : (a : ℕ) → k ≤ a → get_or t a 0 ≡ get_or t₀ a 0

-- the first k places say the costs over no steps
abbrev pub Filled : ℕ → Graph → List ℕ → List ℕ → Type 0
Filled k G t₀ t = Made (λ a x. said x ≡ at_goal (G.goal a)) k t₀ t

-- the first k places advise to halt
abbrev pub Cleared : ℕ → List ℕ → List ℕ → Type 0
Cleared k b₀ b = Made (λ a x. x ≡ HALT) k b₀ b

-- the first k places are those of s
abbrev pub Copied : ℕ → List ℕ → List ℕ → List ℕ → Type 0
Copied k s t₀ t = Made (λ a x. x ≡ get_or s a 0) k t₀ t

-- the pick of the first k operators from a, where T says what it costs beyond: the least cost, and the lowest operator that attains it if that is below the cost
-- over no steps
pub record Picks (G : Graph) (T : ℕ → Cost) (a k : ℕ) (r : Pick) : Type 0 where
  pub cost : said r.cost ≡ best G T a k
  pub op : advised r.op ≡ chosen G T a k

-- the first k places are made of old by one step more; changed says whether one of them differs from old
pub record Swept (k : ℕ) (G : Graph) (old new₀ new : List ℕ) (changed : Bool) : Type 0 where
  pub table : Made (λ a x. said x ≡ best G (said_at old) a G.ops) k new₀ new
  pub same : changed ≡ false → (a : ℕ) → a < k → get_or new a 0 ≡ get_or old a 0
  pub differs : changed ≡ true → ((a : ℕ) → a < k → get_or new a 0 ≡ get_or old a 0) → ⊥

-- the first k places advise the pick wherever that is below old, and else as before
abbrev pub Noted : ℕ → Graph → List ℕ → List ℕ → List ℕ → Type 0
Noted k G old b₀ b =
    Made
    (λ a x. advised x ≡ choose (under (best G (said_at old) a G.ops) (said_at old a)) (chosen G (said_at old) a G.ops) (advised_at b₀ a))
    k b₀ b

-- the places of the states say the least costs over at most r steps
abbrev pub Held : Graph → List ℕ → List ℕ → ℕ → Type 0
Held G t₀ t r = Made (λ a x. said x ≡ least G r a) G.states t₀ t

-- and advise what stands noted after r rounds
abbrev pub HeldNotes : Graph → List ℕ → List ℕ → ℕ → Type 0
HeldNotes G b₀ b r = Made (λ a x. advised x ≡ noted G r a) G.states b₀ b

-- r rounds were made, and t and b, which were t₀ and b₀, are their table and what they noted
pub record Counted (G : Graph) (t₀ t b₀ b : List ℕ) (r : ℕ) : Type 0 where
  pub rounds : Rounds G r
  pub table : Held G t₀ t r
  pub notes : HeldNotes G b₀ b r
