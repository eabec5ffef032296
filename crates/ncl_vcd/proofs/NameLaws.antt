-- Names of printing characters fit on a line.
use Rattle.ncl_vcd.proofs.Terms.{All, All-head, All-tail, AllByRecursion, IsGraphicName, List, [], and_parts, arith, is_graphic, list_all, nat_tests, true, ℕ, ◌∷◌, ◌≡◌, ◌≤◌}
use Rattle.ncl_vcd.proofs.Changes.{IsOneLine}

graphic_least : (byte : ℕ) → is_graphic byte ≡ true → 33 ≤ byte
graphic_least byte graphic = grind (arith, nat_tests)

pub one_line-graphic : (name : List ℕ) → IsGraphicName name → IsOneLine name
one_line-graphic [] all = tt
one_line-graphic (byte ∷ name) all =
    let both = and_parts (is_graphic byte) (list_all is_graphic name) all in
    let least : 33 ≤ byte = graphic_least byte both.0 in
    ((λ e. let is : byte ≡ 10 = e in omega arith), one_line-graphic name both.1)

pub one_lines-graphic : (names : List (List ℕ)) → All IsGraphicName names → AllByRecursion IsOneLine names
one_lines-graphic [] all = tt
one_lines-graphic (name ∷ names) all = (one_line-graphic name (All-head IsGraphicName name names all), one_lines-graphic names (All-tail IsGraphicName name names all))
