-- The numbered state space that a `Space` stands for: what its methods ask and give is said of it.
use Rattle.graph.specs.Graph.{Graph}
use Rattle.sweep.specs.declared.space.Space.{Space}
use Rattle.sweep.specs.Inside.Walks.{space_of}

abbrev pub graph_of : Space → Graph
graph_of s = space_of s.c s.facts.now s.prices.now
