-- The cheaper of two sequences: each judged up to the first moment a goal holds.
use Rattle.std.specs.Prelude.{ℕ, suc, ◌+◌, cond, List, [], ◌∷◌, leb, length, Option, Some, None, Result, Ok, Err}
use Rattle.std.specs.Result.{result_and, result_map_both}
use Rattle.refusals.specs.declared.Refusal.{Refusal}
use Rattle.meaning.specs.Sas.{State, after}
use Rattle.meaning.specs.Views.{complies}
use Rattle.meaning.specs.Split.{Task}
use Rattle.tables.specs.Layout.{Tables}
use Rattle.tables.specs.Task.{task_of, state_of}
use Rattle.sequences.specs.declared.stepping.Hitch.{Hitch}
use Rattle.sequences.specs.declared.choosing.Part.{Part}
use Rattle.sequences.specs.declared.choosing.Choice.{Choice}
use Rattle.sequences.specs.declared.choosing.Choice.TheVariants.{FirstPart, SecondPart, NoPart}
use Rattle.sequences.specs.declared.choosing.Cheaper.{Cheaper}
use Rattle.sequences.specs.declared.choosing.Cheaper.TheVariants.{First, Second, Neither}
use Rattle.sequences.specs.Stepping.{step_of, taken_apart}
use Rattle.scan.specs.Scan.{input_fault}
use Rattle.meaning.specs.Limits.{most_steps}

-- the first n steps of a list, at the cost p
abbrev pub part : ℕ → ℕ → Part
part n p = record { steps = n; cost = p }

-- a step that can't be taken puts the list out; one that was taken goes on with its cost
abbrev pub or_out : Result ℕ Hitch → (ℕ → Option Part) → Option Part
or_out m on = taken_apart m (λ h. None) on

-- after k steps that stored n tests and cost p together: a goal ends the judging, before the next step is looked at; a list that ends before is out
unfoldable pub reached_from : Task → ℕ → ℕ → ℕ → State → List ℕ → Option Part
reached_from T k n p s [] = cond (complies T.sas T.sas.goal s) (Some (part k p)) None
reached_from T k n p s (o ∷ os) =
    cond (complies T.sas T.sas.goal s) (Some (part k p))
    (or_out (step_of T n s o) (λ cost. reached_from T (suc k) (n + T.mark o) (p + cost) (after T.sas o s) os))

-- a list above the step limit is out
unfoldable pub reached_of : Task → State → List ℕ → Option Part
reached_of T s ops = cond (leb (length ops) most_steps) (reached_from T 0 0 0 s ops) None

-- the cheaper one; equal costs name the first
abbrev pub choice_of : Option Part → Option Part → Choice
choice_of (Some a) (Some b) = cond (leb a.cost b.cost) (FirstPart a) (SecondPart b)
choice_of (Some a) None = FirstPart a
choice_of None (Some b) = SecondPart b
choice_of None None = NoPart

-- of two lists from a state
abbrev pub chosen_from : Task → State → List ℕ → List ℕ → Choice
chosen_from T s a b = choice_of (reached_of T s a) (reached_of T s b)

-- THE CHEAPER OF TWO: which opening part, of how many steps, at what cost; a fault of what was handed in decides before all
unfoldable pub chosen_of : Tables → List ℕ → List ℕ → List ℕ → Result Choice Refusal
chosen_of t s a b = result_and (input_fault t s) (Ok (chosen_from (task_of t) (state_of s) a b))

-- the answer: the first, the second or neither, with the cost
abbrev pub named_of : Choice → Cheaper
named_of (FirstPart a) = First a.cost
named_of (SecondPart b) = Second b.cost
named_of NoPart = Neither

abbrev pub cheaper_of : Tables → List ℕ → List ℕ → List ℕ → Result Cheaper Refusal
cheaper_of t s a b = result_map_both named_of (λ r. r) (chosen_of t s a b)

-- what an answer tells: the number of the list that it names, 0 for neither, and the cost, 0 for neither. Refused input names no list: the refusal has a
-- number and a place of its own
abbrev pub list_named : Result Cheaper Refusal → ℕ
list_named (Ok (First p)) = 1
list_named (Ok (Second p)) = 2
list_named (Ok Neither) = 0
list_named (Err r) = 0

abbrev pub cost_named : Result Cheaper Refusal → ℕ
cost_named (Ok (First p)) = p
cost_named (Ok (Second p)) = p
cost_named (Ok Neither) = 0
cost_named (Err r) = 0

-- the list whose opening part is handed back, and of how many steps; for neither, or refused input, the empty part of the first list
abbrev pub list_of : {A : Type 0} → Result Choice Refusal → A → A → A
list_of (Ok (FirstPart p)) a b = a
list_of (Ok (SecondPart p)) a b = b
list_of (Ok NoPart) a b = a
list_of (Err r) a b = a

abbrev pub steps_of : Result Choice Refusal → ℕ
steps_of (Ok (FirstPart p)) = p.steps
steps_of (Ok (SecondPart p)) = p.steps
steps_of (Ok NoPart) = 0
steps_of (Err r) = 0
