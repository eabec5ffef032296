use Rattle.ncl_match.proofs.Terms.{least}
use Rattle.ncl_match.proofs.BitLaws.{Bool, Found, IsModel, List, None, Option, Some, WordFunction, apart_function, found, least-table_of, length, recursion_from_All, subst, sym, table_of, told-differ, told-same, true, words, ℕ, ◌∙◌, ◌≡◌}
use Rattle.ncl_match.proofs.bit.told.Goals as goal

-- what the least word of a table says of the function that it is the table of
found-of : (n m : ℕ) (table : List Bool) (f : WordFunction) (r : Option (List Bool)) → r ≡ least true n table → n ≡ m → table ≡ table_of (words m) f → Found m f r
found-of n m table f r e wide is =
    subst (Found m f) (sym (e ∙ (λ i. least true (wide i) (is i)) ∙ least-table_of m f)) (found m f)

pub returns-in-Some : goal.returns-in-Some
returns-in-Some g c = λ circuit models limit output f h are compared wide is within.
    let s = g.P.Space.meaning c.args.space.now in
    told-differ circuit models output f h compared (recursion_from_All IsModel models are) limit c.in-Some.word within
    (found-of s.width (length circuit.inputs) (s.table c.args.apart.one) (apart_function f h) (Some c.in-Some.word) (sym c.in-Some.is ∙ c.least_word.ensures) wide is)

pub returns-in-None : goal.returns-in-None
returns-in-None g c = λ circuit models limit output f h are compared wide is within.
    let s = g.P.Space.meaning c.args.space.now in
    told-same circuit models output f h compared (recursion_from_All IsModel models are) limit within
    (found-of s.width (length circuit.inputs) (s.table c.args.apart.one) (apart_function f h) None (sym c.in-None.is ∙ c.least_word.ensures) wide is)
