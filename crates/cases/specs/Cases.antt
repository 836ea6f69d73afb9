-- The starred cases of document 01, from text to answers, with the sum and the best steps of document 02; the coupling that nearly left, in edition 2; and idle
-- operators, where they are told.
use Rattle.std.specs.Prelude.{List, [], ◌∷◌}
use Prim.Native.String.{String, ◌++◌}
use Rattle.graph.specs.Cost.{none, fin}
use Rattle.graph.specs.Best.{halt, take}
use Rattle.cases.specs.Told.{yes!, costs, again, no!, distances, distance_at, best_at, bound_at, judging, run, Case}

-- case A up to its operators' costs, its operators, its maps
abbrev pub headA : String
headA = "edition=1\nvars=3\ndom=2,3,3\ninit=0,0,0\ngoal=0:1,1:2,2:2\nops=4\n"

abbrev pub mapsA : String
mapsA = "maps=3\nmap=0,1/0,0,0/0,0,0\nmap=0,0/0,1,2/0,0,0\nmap=0,0/0,0,0/0,1,2\n"

abbrev pub opsA : String
opsA = "op=1;0:0;0:1\nop=1;1:0,2:0;1:1,2:1\nop=1;1:1;1:2\nop=1;2:1;2:2\n"

-- A: in each map the operators that leave its variable alone are loops that cost 0, and no best step goes round one
abbrev pub A : String
A = headA ++ opsA ++ mapsA ++ "share=1,0,0,0\nshare=0,1,1,0\nshare=0,0,0,1\n"

-- C: A with the last line share=0,1,0,1
abbrev pub C : String
C = headA ++ opsA ++ mapsA ++ "share=1,0,0,0\nshare=0,1,1,0\nshare=0,1,0,1\n"

-- D: A with all costs 2 and shares 2,0,0,0 / 0,1,2,0 / 0,1,0,2
abbrev pub D : String
D =
    headA ++ "op=2;0:0;0:1\nop=2;1:0,2:0;1:1,2:1\nop=2;1:1;1:2\nop=2;2:1;2:2\n" ++ mapsA
    ++ "share=2,0,0,0\nshare=0,1,2,0\nshare=0,1,0,2\n"

-- E: two variables of two values, one operator of cost 1 from 0:0 to 0:1; maps keep variable 0 and variable 1, shares 1 and 0. The second has no way from
-- state 0,0, which settles the sum there: none, as document 02 has it
abbrev pub E : String
E =
    "edition=1\nvars=2\ndom=2,2\ninit=0,0\ngoal=0:1,1:1\nops=1\nop=1;0:0;0:1\nmaps=2\nmap=0,1/0,0\nmap=0,0/0,1\nshare=1\nshare=0\n"

-- G: the coupling that nearly left. Mount it; torque it and store the test; take the next one. One stored test is wanted, and a second is refused
abbrev pub headG : String
headG = "edition=2\nvars=2\ndom=2,2\ninit=0,0\ngoal=0:1,1:1\nquota=1\nops=3\n"

abbrev pub restG : String
restG = "op=2;0:0;0:1;0\nop=3;0:1,1:0;1:1;1\nop=1;1:1;1:0;0\nmaps=1\nmap=0,1/0,1\nshare=2,3,1\n"

abbrev pub G : String
G = headG ++ restG

-- the same where two stored tests are wanted: a store step that is sent again doesn't meet the quota
abbrev pub G2 : String
G2 = "edition=2\nvars=2\ndom=2,2\ninit=0,0\ngoal=0:1,1:1\nquota=2\nops=3\n" ++ restG

-- THE TABLE
unfoldable pub table : List Case
table =
    record {
      text = A;
      read = yes!;
      claims =
          distances 0 (fin 1 ∷ fin 0 ∷ []) 2 (take 0 ∷ halt ∷ [])
          ∷ distances 1 (fin 2 ∷ fin 1 ∷ fin 0 ∷ []) 3 (take 1 ∷ take 2 ∷ halt ∷ [])
          ∷ distances 2 (fin 1 ∷ fin 1 ∷ fin 0 ∷ []) 3 (take 1 ∷ take 3 ∷ halt ∷ [])
          ∷ best_at 1 (1 ∷ 0 ∷ 0 ∷ []) (take 1)
          ∷ bound_at (0 ∷ 0 ∷ 0 ∷ []) (fin 4)
          ∷ bound_at (1 ∷ 0 ∷ 0 ∷ []) (fin 3)
          ∷ judging (0 ∷ 0 ∷ 0 ∷ []) (0 ∷ 1 ∷ 2 ∷ 3 ∷ []) (costs 4)
          ∷ judging (0 ∷ 0 ∷ 0 ∷ []) (0 ∷ 2 ∷ []) (no! 12 2)
          ∷ judging (0 ∷ 0 ∷ 0 ∷ []) (0 ∷ []) (no! 16 1)
          ∷ judging (0 ∷ 0 ∷ 0 ∷ []) [] (no! 16 0)
          ∷ run (0 ∷ 0 ∷ 0 ∷ [])
          (record { number = 1; operator = 0; answer = yes!; columns = 1 ∷ 0 ∷ 0 ∷ 0 ∷ 0 ∷ 0 ∷ 0 ∷ 0 ∷ 0 ∷ 0 ∷ [] }
          ∷ record { number = 1; operator = 0; answer = again; columns = 1 ∷ 0 ∷ 0 ∷ 0 ∷ 0 ∷ 0 ∷ 0 ∷ 0 ∷ 0 ∷ 0 ∷ [] }
          ∷ record { number = 1; operator = 1; answer = no! 14 1; columns = 1 ∷ 0 ∷ 0 ∷ 0 ∷ 0 ∷ 0 ∷ 0 ∷ 0 ∷ 0 ∷ 0 ∷ [] }
          ∷ record { number = 3; operator = 1; answer = no! 13 3; columns = 1 ∷ 0 ∷ 0 ∷ 0 ∷ 0 ∷ 0 ∷ 0 ∷ 0 ∷ 0 ∷ 0 ∷ [] }
          ∷ [])
          ∷ [];
    }
    ∷ record { text = C; read = no! 6 8; claims = [] }
    ∷ record {
      text = D;
      read = yes!;
      claims = bound_at (0 ∷ 0 ∷ 0 ∷ []) (fin 8) ∷ judging (0 ∷ 0 ∷ 0 ∷ []) (0 ∷ 1 ∷ 2 ∷ 3 ∷ []) (costs 8) ∷ [];
    }
    ∷ record {
      text = E;
      read = yes!;
      claims =
          distances 0 (fin 1 ∷ fin 0 ∷ []) 2 (take 0 ∷ halt ∷ [])
          ∷ distances 1 (none ∷ fin 0 ∷ []) 1 (halt ∷ halt ∷ [])
          ∷ distance_at 0 (0 ∷ 0 ∷ []) (fin 1)
          ∷ distance_at 1 (0 ∷ 0 ∷ []) none
          ∷ best_at 0 (0 ∷ 0 ∷ []) (take 0)
          ∷ best_at 1 (0 ∷ 0 ∷ []) halt
          ∷ bound_at (0 ∷ 0 ∷ []) none
          ∷ [];
    }
    ∷ record {
      text = G;
      read = yes!;
      claims =
          distances 0 (fin 5 ∷ fin 3 ∷ fin 2 ∷ fin 0 ∷ []) 3 (take 0 ∷ take 1 ∷ take 0 ∷ halt ∷ [])
          ∷ bound_at (0 ∷ 0 ∷ []) (fin 5)
          ∷ judging (0 ∷ 0 ∷ []) (0 ∷ 1 ∷ []) (costs 5)
          ∷ judging (0 ∷ 0 ∷ []) (0 ∷ 1 ∷ 2 ∷ 1 ∷ []) (no! 19 4)
          ∷ judging (0 ∷ 0 ∷ []) (0 ∷ 1 ∷ 1 ∷ []) (no! 12 3)
          ∷ run (0 ∷ 0 ∷ [])
          (record { number = 1; operator = 0; answer = yes!; columns = 2 ∷ 0 ∷ 0 ∷ 0 ∷ 0 ∷ 0 ∷ 0 ∷ 0 ∷ 0 ∷ 0 ∷ [] }
          ∷ record { number = 2; operator = 1; answer = yes!; columns = 5 ∷ 0 ∷ 0 ∷ 0 ∷ 0 ∷ 0 ∷ 0 ∷ 0 ∷ 0 ∷ 1 ∷ [] }
          ∷ record { number = 3; operator = 1; answer = no! 12 3; columns = 5 ∷ 0 ∷ 0 ∷ 0 ∷ 0 ∷ 0 ∷ 0 ∷ 0 ∷ 0 ∷ 1 ∷ [] }
          ∷ record { number = 3; operator = 2; answer = yes!; columns = 6 ∷ 0 ∷ 0 ∷ 0 ∷ 0 ∷ 0 ∷ 0 ∷ 0 ∷ 0 ∷ 1 ∷ [] }
          ∷ record { number = 4; operator = 1; answer = no! 19 4; columns = 6 ∷ 0 ∷ 0 ∷ 0 ∷ 0 ∷ 0 ∷ 0 ∷ 0 ∷ 0 ∷ 1 ∷ [] }
          ∷ [])
          ∷ [];
    }
    ∷ record {
      text = G2;
      read = yes!;
      claims =
          run (0 ∷ 0 ∷ [])
          (record { number = 1; operator = 0; answer = yes!; columns = 2 ∷ 0 ∷ 0 ∷ 0 ∷ 0 ∷ 0 ∷ 0 ∷ 0 ∷ 0 ∷ 0 ∷ [] }
          ∷ record { number = 2; operator = 1; answer = yes!; columns = 5 ∷ 0 ∷ 0 ∷ 0 ∷ 0 ∷ 0 ∷ 0 ∷ 0 ∷ 0 ∷ 1 ∷ [] }
          ∷ record { number = 2; operator = 1; answer = again; columns = 5 ∷ 0 ∷ 0 ∷ 0 ∷ 0 ∷ 0 ∷ 0 ∷ 0 ∷ 0 ∷ 1 ∷ [] }
          ∷ [])
          ∷ [];
    }
    -- an edition that isn't, a quota and a mark out of range, and a fourth field in edition 1
    ∷ record { text = "edition=3\n"; read = no! 3 1; claims = [] }
    ∷ record { text = "edition=2\nvars=1\ndom=2\ninit=0\ngoal=-\nquota=1025\n"; read = no! 3 6; claims = [] }
    ∷ record { text = headG ++ "op=2;0:0;0:1;2\n"; read = no! 3 8; claims = [] }
    ∷ record { text = headA ++ "op=1;0:0;0:1;1\n"; read = no! 2 7; claims = [] }
    -- an idle operator of edition 2: after its mark, whose own faults come first
    ∷ record { text = headG ++ "op=1;0:0;0:0;1"; read = no! 18 8; claims = [] }
    ∷ record { text = headG ++ "op=1;0:0;0:0;2"; read = no! 3 8; claims = [] }
    ∷ record { text = headG ++ "op=1;0:0;0:0\n"; read = no! 2 8; claims = [] }
    -- idle operators after case A's head: one without effects; one whose effects stand among its preconditions; the same where the text ends, and where a wrong
    -- byte stands; but an effect that is no value is told first
    ∷ record { text = headA ++ "op=1;0:0;0:1\nop=0;-;-\n"; read = no! 18 8; claims = [] }
    ∷ record { text = headA ++ "op=1;1:0,2:0;1:0,2:0\n"; read = no! 18 7; claims = [] }
    ∷ record { text = headA ++ "op=1;0:0;0:0"; read = no! 18 7; claims = [] }
    ∷ record { text = headA ++ "op=1;0:0;0:0;"; read = no! 18 7; claims = [] }
    ∷ record { text = headA ++ "op=1;0:0;0:2"; read = no! 3 7; claims = [] }
    ∷ []
