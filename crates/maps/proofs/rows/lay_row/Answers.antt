-- `rows::lay_row` meets its contract: what is copied, and added to, and copied back is a row of the table. Assumes nothing.
use Rattle.maps.proofs.Laying.{row_laid}
use Rattle.maps.proofs.rows.lay_row.Goals as goal

pub returns : goal.returns
returns c =
    let pre = c.requires.lanes_in_bounds in
    row_laid pre.0 pre.1 c.copy_from_slice.ensures.after c.add_parts.ensures.row_len c.add_parts.ensures.by_index c.copy_from_slice-2.ensures.after
