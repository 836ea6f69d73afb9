-- What the end of the text says, and the whole text by the machine.
use Rattle.scan.specs.Found.{Found, clean}
use Rattle.std.specs.Prelude.{ℕ, ◌≤◌, ◌<◌, min, ◌≡◌, List, length, get_or, take, replicate, leb, Ok, Err}
use Rattle.refusals.specs.declared.Refusal.TheVariants.{
  OffForm,
  OutOfRange,
  NotRising,
  ClassMissing,
  SharesAboveCost,
  TooManyStates,
  IdleOperator,
}
use Rattle.meaning.specs.Limits.{most_ops, most_maps}
use Rattle.meaning.specs.Split.{sum}
use Rattle.tables.specs.Lines.{line_of_op}
use Rattle.scan.specs.Scan.{unless, ◌then◌, each}
use Rattle.tables.specs.Layout.{facts_room, costs_room, shares_room}
use Rattle.grammar.specs.Fields.{Outcome, leaves, filled, admitted}
use Rattle.text.specs.declared.Halt.{Halt}
use Rattle.text.specs.declared.Halt.TheVariants.{Going, Form, Range, Order, Missing, States, Idle}
use Rattle.text.specs.Inside.Area.{threes, costs_byte, shares_byte, cost_in, share_in, area_room}
use Rattle.text.specs.Inside.Control.{St, mk, start}
use Rattle.text.specs.Inside.Steps.{feed, ended}

-- what a reading that stopped in line l is refused with; nothing while it goes on
abbrev pub refusal_of : Halt → ℕ → Found
refusal_of Going l = clean
refusal_of Form l = Err (OffForm l)
refusal_of Range l = Err (OutOfRange l)
refusal_of Order l = Err (NotRising l)
refusal_of Missing l = Err (ClassMissing l)
refusal_of States l = Err (TooManyStates l)
refusal_of Idle l = Err (IdleOperator l)

-- after all else: an operator's shares total at most its cost; a control of a text has no more than these counts
unfoldable pub over : St → Found
over s =
    each
    (λ o. unless (leb (sum (λ m. share_in s.area m o) (min s.ctrl.counts.maps most_maps)) (cost_in s.area o)) (SharesAboveCost (line_of_op s.ctrl.counts.edition o)))
    (min s.ctrl.counts.ops most_ops)
    0

unfoldable pub last_fault : St → Found
last_fault s = refusal_of s.ctrl.halt s.ctrl.line then over s

-- the lent tables of an accepted task
unfoldable pub written : St → List ℕ → List ℕ → List ℕ → Outcome
written s f c h =
    leaves
    (Ok s.ctrl.counts)
    (filled facts_room (take facts_room s.area) f)
    (filled costs_room (threes costs_room costs_byte s.area) c)
    (filled shares_room (threes shares_room shares_byte s.area) h)

-- while one is filled: its first i places hold what stands in xs
pub record FilledTo (xs lent out : List ℕ) (i : ℕ) : Type 0 where
  pub fits : i ≤ length lent
  pub same : length out ≡ length lent
  pub holds : (k : ℕ) → k < i → get_or out k 0 ≡ get_or xs k 0

-- the end of the text: the lent tables are written on acceptance only
abbrev pub left_behind : Found → St → List ℕ → List ℕ → List ℕ → Outcome
left_behind (Ok tt) s f c h = written s f c h
left_behind (Err r) s f c h = leaves (Err r) f c h

unfoldable pub settled_as : St → List ℕ → List ℕ → List ℕ → Outcome
settled_as s f c h = left_behind (last_fault s) s f c h

unfoldable pub machine_end : St → List ℕ → List ℕ → List ℕ → Outcome
machine_end s f c h = settled_as (ended s) f c h

-- a whole text by the machine: what it leaves behind, where it is admitted
unfoldable pub machine_read : List ℕ → List ℕ → List ℕ → List ℕ → Outcome
machine_read text f c h = machine_end (feed (mk start (replicate area_room 0)) text) f c h

unfoldable pub read_all : List ℕ → List ℕ → List ℕ → List ℕ → Outcome
read_all text f c h = admitted text f c h (machine_read text f c h)
