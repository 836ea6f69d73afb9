-- The paper's list of refusals: the number of each, and its place. Every promise that speaks of a number or a place uses these two.
use Rattle.std.specs.Prelude.{ℕ}
use Rattle.refusals.specs.declared.Refusal.{Refusal}
use Rattle.refusals.specs.declared.Refusal.TheVariants.{
  TextTooLong,
  OffForm,
  OutOfRange,
  NotRising,
  ClassMissing,
  SharesAboveCost,
  TooManyStates,
  TableTooShort,
  ValueOutside,
  NoSuchOperator,
  SequenceTooLong,
  MayNotRun,
  NotTheNext,
  OtherOperator,
  RunFull,
  NoGoal,
  NotARun,
  IdleOperator,
  BeyondQuota,
}

-- the number, given exactly if ..
abbrev pub number_of : Refusal → ℕ
number_of TextTooLong = 1
number_of (OffForm line) = 2
number_of (OutOfRange line) = 3
number_of (NotRising line) = 4
number_of (ClassMissing line) = 5
number_of (SharesAboveCost line) = 6
number_of (TooManyStates line) = 7
number_of TableTooShort = 8
number_of (ValueOutside variable) = 9
number_of (NoSuchOperator step) = 10
number_of SequenceTooLong = 11
number_of (MayNotRun step) = 12
number_of (NotTheNext step) = 13
number_of (OtherOperator step) = 14
number_of (RunFull step) = 15
number_of (NoGoal steps) = 16
number_of NotARun = 17
number_of (IdleOperator line) = 18
number_of (BeyondQuota step) = 19

-- the place: a line, a variable, a step, a length, or 0
abbrev pub place_of : Refusal → ℕ
place_of TextTooLong = 0
place_of (OffForm line) = line
place_of (OutOfRange line) = line
place_of (NotRising line) = line
place_of (ClassMissing line) = line
place_of (SharesAboveCost line) = line
place_of (TooManyStates line) = line
place_of TableTooShort = 0
place_of (ValueOutside variable) = variable
place_of (NoSuchOperator step) = step
place_of SequenceTooLong = 0
place_of (MayNotRun step) = step
place_of (NotTheNext step) = step
place_of (OtherOperator step) = step
place_of (RunFull step) = step
place_of (NoGoal steps) = steps
place_of NotARun = 0
place_of (IdleOperator line) = line
place_of (BeyondQuota step) = step
