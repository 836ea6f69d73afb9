-- What `classes::mask_of` keeps true: the mask has the classes passed so far, and each is below the number of values.
use Rattle.std.proofs.Common.{◌≡◌, true, ltb}
use Rattle.meaning.specs.Views.{every}
use Rattle.tables.specs.Layout.{row_at}
use Rattle.tables.specs.Inside.Masks.{mask_of}
use Rattle.tables.proofs.classes.mask_of.Given as goal

abbrev pub invariant-loop-x : goal.invariant-loop-x
invariant-loop-x l = (every (λ x. ltb (row_at l.facts l.row x) l.dom) l.x ≡ true) × (l.mask ≡ mask_of (row_at l.facts l.row) l.x)
