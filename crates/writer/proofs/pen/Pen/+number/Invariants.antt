-- `writer::pen::Pen::put_number` and `put_digits` end: what is before a number's last two digits is less, and the one calls the other with the same number only once.
use Rattle.std.proofs.Common.{◌+◌}
use Rattle.writer.proofs.pen.Pen.+number.Given as goal

abbrev pub decreases-put_digits : goal.decreases-put_digits
decreases-put_digits l = l.v + l.v

abbrev pub decreases-put_number : goal.decreases-put_number
decreases-put_number l = l.v + l.v + 1
