-- `writer::pen::Pen::put_number` and `put_digits` meet their contracts: one digit, or what is before the last two, and those. Assumes nothing.
use borrow.Author.Rules.{rules}
use Rattle.writer.proofs.Pens.{after, so}
use Rattle.writer.proofs.Parts.{digit_alone, digits_two, digits_more_two}
use Rattle.writer.proofs.pen.Pen.+number.Goals as goal
use Rattle.writer.proofs.pen.Pen.+number.Goals.{put_digits-then-long, put_digits-else-long}

pub put_digits-returns : goal.put_digits-returns
put_digits-returns t c =
    let tens = c.put_digit.ensures in
    let last = c.put_digit-2.ensures in
    elim c.if-long.branch [
      | put_digits-then-long w ↦ so (after (after w.put_number.ensures (rw w.self-is at tens)) last) (digits_more_two _ (search rules))
      | put_digits-else-long w ↦ so (after (rw w.self-is at tens) last) (digits_two _ c.requires (search rules))
    ]

pub put_number-returns-then-v-lt10 : goal.put_number-returns-then-v-lt10
put_number-returns-then-v-lt10 t c = so c.put_digit.ensures (digit_alone _ c.if-v-lt10.true)
