-- The parts of the scan, as the program walks them.
use Rattle.scan.specs.Found.{Found}
use Rattle.std.specs.Prelude.{ℕ, Bool, ◌&&◌, List, leb, ltb}
use Rattle.refusals.specs.declared.Refusal.TheVariants.{OutOfRange}
use Rattle.meaning.specs.Limits.{most_vars, most_values, most_ops, most_maps, most_edition, most_quota}
use Rattle.meaning.specs.Split.{Task}
use Rattle.tables.specs.Layout.{dom_at, pre_at, eff_at}
use Rattle.scan.specs.Scan.{unless, ◌then◌, each, within, facts_fault, operator_fault, map_fault, shares_fault, split_fault}
use Rattle.tables.specs.Lines.{line_of_edition, line_of_vars, line_of_dom, line_of_init, line_of_goal, line_of_quota, line_of_ops, line_of_maps}

-- what operator o's line asks at variable v: what it asks of it, and what it does to it, is a value of v, or nothing
abbrev pub facts_fit : List ℕ → ℕ → ℕ → Bool
facts_fit facts o v = leb (pre_at facts o v) (dom_at facts v) && leb (eff_at facts o v) (dom_at facts v)

-- the lines before the operators: each link is its own line and then the next link
abbrev pub ops_fault : Task → Found
ops_fault T = unless (leb T.sas.ops most_ops) (OutOfRange (line_of_ops T.edition))

abbrev pub quota_fault : Task → Found
quota_fault T = unless (leb T.quota most_quota) (OutOfRange line_of_quota) then ops_fault T

abbrev pub goal_fault : Task → Found
goal_fault T = facts_fault T T.sas.goal line_of_goal then quota_fault T

abbrev pub init_fault : Task → Found
init_fault T = each (λ v. unless (ltb (T.sas.init v) (T.sas.dom v)) (OutOfRange line_of_init)) T.sas.vars 0 then goal_fault T

abbrev pub dom_fault : Task → Found
dom_fault T = each (λ v. unless (within 1 most_values (T.sas.dom v)) (OutOfRange line_of_dom)) T.sas.vars 0 then init_fault T

abbrev pub vars_fault : Task → Found
vars_fault T = unless (within 1 most_vars T.sas.vars) (OutOfRange line_of_vars) then dom_fault T

unfoldable pub head_fault : Task → Found
head_fault T = unless (within 1 most_edition T.edition) (OutOfRange line_of_edition) then vars_fault T

-- from the first operator's line to the last map's
unfoldable pub lines_fault : Task → Found
lines_fault T =
    each (operator_fault T) T.sas.ops 0
    then unless (within 1 most_maps T.maps) (OutOfRange (line_of_maps T.edition T.sas.ops))
    then each (map_fault T) T.maps 0

-- what the maps charge: the lines of the shares, then the split
abbrev pub charges_fault : Task → Found
charges_fault T = each (shares_fault T) T.maps 0 then each (split_fault T) T.sas.ops 0

-- all lines after the head
abbrev pub body_fault : Task → Found
body_fault T = lines_fault T then charges_fault T
