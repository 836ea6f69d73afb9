-- What `back::turn_lists` keeps true: of the variables passed so far the numbers to take off and to put on are there, and the offsets are listed.
use Rattle.tables.specs.Layout.{dom_at}
use Rattle.maps.proofs.Walking.{Numbered}
use Rattle.turned.specs.Inside.Turns.{drop_digit, lift_digit, Listed}
use Rattle.turned.proofs.back.turn_lists.Given as goal

abbrev pub invariant-loop-v : goal.invariant-loop-v
invariant-loop-v l =
    record {
      drop : Numbered (dom_at l.facts) (drop_digit l.facts l.o.0) l.v-end l.v l.stride l.drop;
      lift : Numbered (dom_at l.facts) (lift_digit l.facts l.o.0) l.v-end l.v l.stride l.lift;
      listed : Listed l.facts l.o.0 l.v l.count l.initial.list l.list;
    }
