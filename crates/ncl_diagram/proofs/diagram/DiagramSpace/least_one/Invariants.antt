use Rattle.ncl_diagram.proofs.diagram.DiagramSpace.least_one.Given as goal

abbrev pub ghosts-find_least : goal.ghosts-find_least
ghosts-find_least a = record { name = a.blank.name; parts = a.blank.parts }
