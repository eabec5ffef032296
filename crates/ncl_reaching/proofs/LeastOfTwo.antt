-- The least word that one of two tests passes is the lesser of those that each does.
use Rattle.ncl_reaching.proofs.Terms.{Bool, List, None, Option, Some, [], false, find, find-words, if◌then◌else◌, is_first, lesser, option_map, option_or, refl, suc, sym, true, words, zero, ℕ, ◌||◌, ◌∙◌, ◌∷◌, ◌≡◌}

-- behind a bit that both have
behind : (b : Bool) (x y : Option (List Bool)) → option_map (λ w. b ∷ w) (lesser x y) ≡ lesser (option_map (λ w. b ∷ w) x) (option_map (λ w. b ∷ w) y)
behind b None y = refl
behind b (Some v) None = refl
behind true (Some v) (Some w) = by (is_first v w)
  where
    by : (first : Bool) → option_map (λ w. true ∷ w) (if first then Some v else Some w) ≡ (if first then Some (true ∷ v) else Some (true ∷ w))
    by true = refl
    by false = refl
behind false (Some v) (Some w) = by (is_first v w)
  where
    by : (first : Bool) → option_map (λ w. false ∷ w) (if first then Some v else Some w) ≡ (if first then Some (false ∷ v) else Some (false ∷ w))
    by true = refl
    by false = refl

abbrev low : Option (List Bool) → Option (List Bool)
low = option_map (λ w. false ∷ w)

abbrev high : Option (List Bool) → Option (List Bool)
high = option_map (λ w. true ∷ w)

-- words that begin with 0 come first
both-halves : (a b x y : Option (List Bool)) → option_or (lesser (low a) (low b)) (lesser (high x) (high y)) ≡ lesser (option_or (low a) (high x)) (option_or (low b) (high y))
both-halves None None x y = refl
both-halves None (Some w) None y = refl
both-halves None (Some w) (Some v) y = refl
both-halves (Some v) None x None = refl
both-halves (Some v) None x (Some w) = refl
both-halves (Some v) (Some w) x y = by (is_first v w)
  where
    by : (first : Bool) → option_or (if first then Some (false ∷ v) else Some (false ∷ w)) (lesser (high x) (high y)) ≡ (if first then Some (false ∷ v) else Some (false ∷ w))
    by true = refl
    by false = refl

pub find-either : (n : ℕ) (f g : List Bool → Bool) → find (λ w. f w || g w) (words n) ≡ lesser (find f (words n)) (find g (words n))
find-either zero f g = by (f []) (g [])
  where
    none : List Bool
    none = []

    by : (a b : Bool) → (if (a || b) then Some none else None) ≡ lesser (if a then Some none else None) (if b then Some none else None)
    by true true = refl
    by true false = refl
    by false true = refl
    by false false = refl
find-either (suc n) f g =
    find-words n (λ w. f w || g w)
    ∙ (λ i. option_or (low (find-either n (λ w. f (false ∷ w)) (λ w. g (false ∷ w)) i)) (high (find-either n (λ w. f (true ∷ w)) (λ w. g (true ∷ w)) i)))
    ∙ (λ i. option_or (behind false (find (λ w. f (false ∷ w)) (words n)) (find (λ w. g (false ∷ w)) (words n)) i) (behind true (find (λ w. f (true ∷ w)) (words n)) (find (λ w. g (true ∷ w)) (words n)) i))
    ∙ both-halves (find (λ w. f (false ∷ w)) (words n)) (find (λ w. g (false ∷ w)) (words n)) (find (λ w. f (true ∷ w)) (words n)) (find (λ w. g (true ∷ w)) (words n))
    ∙ sym (λ i. lesser (find-words n f i) (find-words n g i))
