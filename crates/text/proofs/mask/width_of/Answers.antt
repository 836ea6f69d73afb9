-- A number of 32 bits has at most 32 leading zeros.
use lib.Count.{leading_le}
use Rattle.text.proofs.mask.width_of.Goals as goal

pub overflow_sub-result : goal.overflow_sub-result
overflow_sub-result c = leading_le 32 c.args.m
