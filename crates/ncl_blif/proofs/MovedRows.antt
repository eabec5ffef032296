-- A list that one function gives so far, and another from there on.
use Rattle.ncl_blif.proofs.Terms.{List, [], ap, append_assoc, drop, drop_more, get_or, get_or-append_seam, length, length-map, map, map-append, set_at, slice_set, sym, ℕ, ◌++◌, ◌+◌, ◌<◌, ◌∙◌, ◌∷◌, ◌≡◌}

next_at : {X : Type 0} (all : List X) (place : ℕ) (x : X) → place < length all → x ≡ get_or all place x → drop place all ≡ x ∷ drop (place + 1) all
next_at all place x within at = drop_more all place x within ∙ ap (λ y. y ∷ drop (place + 1) all) (sym at)

-- what stands at the place that is reached
pub reached : {X Y : Type 0} (f g : X → Y) (all done : List X) (place : ℕ) (x : X) (d : Y) → place ≡ length done → place < length all → x ≡ get_or all place x
    → get_or (map f done ++ map g (drop place all)) place d ≡ g x
reached f g all done place x d is within at =
    ap (λ rest. get_or (map f done ++ map g rest) place d) (next_at all place x within at)
    ∙ ap (λ n. get_or (map f done ++ map g (x ∷ drop (place + 1) all)) n d) (is ∙ sym (length-map done f))
    ∙ get_or-append_seam (map f done) (g x) (map g (drop (place + 1) all)) d

-- the list one place further
pub further_on : {X Y : Type 0} (f g : X → Y) (all done : List X) (place : ℕ) (x : X) → place ≡ length done → place < length all → x ≡ get_or all place x
    → slice_set (map f done ++ map g (drop place all)) place (f x) ≡ map f (done ++ x ∷ []) ++ map g (drop (place + 1) all)
further_on f g all done place x is within at =
    let rest = map g (drop (place + 1) all) in
    ap (λ left. slice_set (map f done ++ map g left) place (f x)) (next_at all place x within at)
    ∙ set_at (map f done) (g x) rest (f x) place (length-map done f ∙ sym is)
    ∙ sym (append_assoc (map f done) (f x ∷ []) rest) ∙ ap (λ front. front ++ rest) (sym (map-append f done (x ∷ [])))
