-- What `rows::add_parts` keeps true: the lanes passed so far have their parts, and those still to come are as they were.
use Rattle.std.proofs.Common.{ℕ, ◌≡◌, ◌+◌, ◌≤◌, ◌<◌, get_or}
use Rattle.maps.proofs.rows.add_parts.Given as goal

abbrev pub invariant-loop-o : goal.invariant-loop-o
invariant-loop-o l =
    record {
      made : (o : ℕ) → o < l.o → get_or l.row o 0 ≡ get_or l.initial.row o 0 + get_or l.part o 0;
      kept : (o : ℕ) → l.o ≤ o → get_or l.row o 0 ≡ get_or l.initial.row o 0;
    }
