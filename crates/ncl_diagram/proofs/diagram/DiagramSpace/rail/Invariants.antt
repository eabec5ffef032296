use Rattle.ncl_diagram.proofs.diagram.DiagramSpace.rail.Given as goal

abbrev pub ghosts-rail_node : goal.ghosts-rail_node
ghosts-rail_node a = record { name = a.blank.name; parts = a.blank.parts }
