use Rattle.ncl_base.proofs.Terms.{bytes_of, drop, files_of, has_file, ◌≡◌}
use Rattle.ncl_base.proofs.steady_source.place_of.Given as goal

-- the files before this one have other names
abbrev pub invariant-loop-i : goal.invariant-loop-i
invariant-loop-i l = record {
  found : has_file (files_of (drop l.i l.files)) l.name ≡ has_file (files_of l.files) l.name;
  first : bytes_of (files_of (drop l.i l.files)) l.name ≡ bytes_of (files_of l.files) l.name;
}
