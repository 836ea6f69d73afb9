-- What `Space::cell` keeps true: over the operators passed so far the cost is the least, and the operator the lowest that attains it.
use Rattle.std.proofs.Common.{◌≡◌, ◌≤◌}
use Rattle.graph.specs.Least.{best}
use Rattle.graph.specs.Noted.{chosen}
use Rattle.sweep.specs.Said.{NONE, said, said_at, advised}
use Rattle.sweep.specs.Inside.Walks.{space_of}
use Rattle.sweep.proofs.space.Space.cell.Given as goal

abbrev pub invariant-loop-o : goal.invariant-loop-o
invariant-loop-o l =
    let G = space_of l.self.c l.self.facts.now l.self.prices.now in
    record {
      most : l.least.cost ≤ NONE;
      least : said l.least.cost ≡ best G (said_at l.old) l.fn.a.0 l.o;
      lowest : advised l.least.op ≡ chosen G (said_at l.old) l.fn.a.0 l.o;
    }
