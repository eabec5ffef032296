-- Models one after another compute one function.
use Rattle.ncl_blif.proofs.Terms.{All-contains, AllByRecursion, AreJoined, Bool, Computes, Contains, Gives, IsModel, List, Model, [], length, length-map, map, refl, signals_of, subst, sym, width_of, ◌∙◌, ◌∷◌, ◌≡◌}
use Rattle.ncl_blif.proofs.Fitting as fitting
use Rattle.ncl_blif.proofs.Fitting.{map-agree_on}

-- a model gives an answer at a word of its width
pub gives_some : (m : Model) → IsModel m → (word : List Bool) → length word ≡ length m.inputs → (answer : List Bool) × Gives m word answer × (length answer ≡ length m.outputs)
gives_some m is word long =
    let (bits, fits) = fitting.some_fits m is word long in
    (map bits m.outputs, (bits, fits, refl), length-map m.outputs bits)

-- and one only
pub gives_one : (m : Model) → IsModel m → (word a b : List Bool) → Gives m word a → Gives m word b → a ≡ b
gives_one m is word a b (p, fits_p, is_a) (q, fits_q, is_b) =
    is_a ∙ map-agree_on p q m.outputs (λ signal output.
    All-contains (λ s. p s ≡ q s) (signals_of m) signal (fitting.fits_agree m is word p q fits_p fits_q)
    (All-contains (λ s. Contains (signals_of m) s) m.outputs signal is.outputs_driven output)) ∙ sym is_b

-- models that fit give an answer at a word of the first one's width
pub computes_some : (models : List Model) → AllByRecursion IsModel models → AreJoined models → (word : List Bool) → length word ≡ width_of models → (answer : List Bool) × Computes models word answer
computes_some [] each joined word long = (word, refl)
computes_some (m ∷ []) (is, each) joined word long =
    let (between, gives, wide) = gives_some m is word long in (between, (between, gives, refl))
computes_some (m ∷ next ∷ models) (is, each) joined word long =
    let (between, gives, wide) = gives_some m is word long in
    let (answer, rest) = computes_some (next ∷ models) each joined.1 between (wide ∙ sym joined.0) in
    (answer, (between, gives, rest))

-- and one only
pub computes_one : (models : List Model) → AllByRecursion IsModel models → (word a b : List Bool) → Computes models word a → Computes models word b → a ≡ b
computes_one [] each word a b p q = p ∙ sym q
computes_one (m ∷ models) (is, each) word a b (x, gives_x, rest_x) (y, gives_y, rest_y) =
    let same = gives_one m is word x y gives_x gives_y in
    computes_one models each y a b (subst (λ z. Computes models z a) same rest_x) rest_y
