-- What stands at the places of lists that are mapped, or put together of parts.
use Rattle.ncl_assembly.proofs.Terms.{All-from_members, AllPairs, AllPairs-cons, Contains-from_Member, Contains-from_slice_get, List, Member, Member-append_cases, Member-append_left, Member-append_right, Member-flat_map, Member-from_Contains, Member-map, Some, [], ap, arith, flat_map, get_or, get_or-range_with_len, here, inl, inr, length-range_with_len, map, pairs-head, pairs-tail, range_with_len, refl, slice_get, slice_get-from_Contains, slice_get-get_or, subst, suc, there, zero, ℕ, ◌++◌, ◌<◌, ◌∙◌, ◌∷◌, ◌≡◌}

-- a member stands at a place, and what stands at a place is a member
pub place_of_member : {X : Type 0} (xs : List X) (x : X) → Member x xs → (k : ℕ) × (slice_get xs k ≡ Some x)
place_of_member xs x m = slice_get-from_Contains xs x (Contains-from_Member x m)

pub member_at : {X : Type 0} (xs : List X) (k : ℕ) (x : X) → slice_get xs k ≡ Some x → Member x xs
member_at xs k x at = Member-from_Contains xs x (Contains-from_slice_get xs k x at)

-- two functions applied one after the other
pub map-map : {X Y Z : Type 0} (f : X → Y) (g : Y → Z) (xs : List X) → map g (map f xs) ≡ map (λ x. g (f x)) xs
map-map f g [] = refl
map-map f g (x ∷ xs) = ap (λ l. g (f x) ∷ l) (map-map f g xs)

pub member_of_flat_map : {X Y : Type 0} (f : X → List Y) (xs : List X) (y : Y) → Member y (flat_map f xs) → (k : ℕ) × (x : X) × (slice_get xs k ≡ Some x) × Member y (f x)
member_of_flat_map f [] y m = elim m [ ]
member_of_flat_map f (x ∷ xs) y m =
    elim (Member-append_cases y (f x) (flat_map f xs) m) [
      | inl first ↦ (zero, x, refl, first)
      | inr rest ↦ let (k, z, at, n) = member_of_flat_map f xs y rest in (suc k, z, at, n)
    ]

module _ {X : Type 0} (R : X → X → Type 0) where
  -- what relates the elements of two lists joined relates those of each
  pub pairs-left : (xs ys : List X) → AllPairs R (xs ++ ys) → AllPairs R xs
  pairs-left [] ys all = λ i j d before within. absurd (omega (arith, within))
  pairs-left (x ∷ xs) ys all =
      AllPairs-cons R x xs (All-from_members (R x) xs (λ y m. pairs-head R x (xs ++ ys) all y (Member-append_left y ys m)))
      (pairs-left xs ys (pairs-tail R x (xs ++ ys) all))

  pub pairs-right : (xs ys : List X) → AllPairs R (xs ++ ys) → AllPairs R ys
  pairs-right [] ys all = all
  pairs-right (x ∷ xs) ys all = pairs-right xs ys (pairs-tail R x (xs ++ ys) all)

  -- and those of the first with those of the second
  pub pairs-across : (xs ys : List X) → AllPairs R (xs ++ ys) → (x y : X) → Member x xs → Member y ys → R x y
  pairs-across [] ys all x y m in_ys = elim m [ ]
  pairs-across (z ∷ xs) ys all x y here in_ys = pairs-head R x (xs ++ ys) all y (Member-append_right xs y in_ys)
  pairs-across (z ∷ xs) ys all x y (there m) in_ys = pairs-across xs ys (pairs-tail R z (xs ++ ys) all) x y m in_ys

  -- what relates the elements of the whole relates those of each part
  pub pairs_of_part : {A : Type 0} (f : A → List X) (a : A) {parts : List A} → AllPairs R (flat_map f parts) → Member a parts → AllPairs R (f a)
  pairs_of_part f a all (here {xs = parts}) = pairs-left (f a) (flat_map f parts) all
  pairs_of_part f a all (there {y = b} {xs = parts} m) = pairs_of_part f a (pairs-right (f b) (flat_map f parts) all) m

  -- and of a list of values, those at which the values were taken
  pub pairs_of_map : {A : Type 0} (f : A → X) (xs : List A) → AllPairs R (map f xs) → AllPairs (λ (x y : A). R (f x) (f y)) xs
  pairs_of_map f [] all = λ i j d before within. absurd (omega (arith, within))
  pairs_of_map {A} f (x ∷ xs) all =
      AllPairs-cons (λ (x y : A). R (f x) (f y)) x xs (All-from_members (λ (y : A). R (f x) (f y)) xs (λ y m. pairs-head R (f x) (map f xs) all (f y) (Member-map f y m)))
      (pairs_of_map f xs (pairs-tail R (f x) (map f xs) all))

-- numbers rise
abbrev pub Rise : List ℕ → Type 0
Rise xs = AllPairs (λ x y. x < y) xs

-- where the numbers of the parts rise, each is in one part
pub part_is_one : {A : Type 0} (f : A → List ℕ) (parts : List A) → Rise (flat_map f parts) → (i j : ℕ) (a b : A) (y : ℕ) → slice_get parts i ≡ Some a → slice_get parts j ≡ Some b → Member y (f a) → Member y (f b) → i ≡ j
part_is_one f [] up i j a b y at_a at_b in_a in_b = absurd cc
part_is_one f (x ∷ parts) up zero zero a b y at_a at_b in_a in_b = refl
part_is_one f (x ∷ parts) up zero (suc j) a b y at_a at_b in_a in_b =
    let same : a ≡ x = cc in
    let later = Member-flat_map f b y (member_at parts j b at_b) in_b in
    let less = pairs-across (λ x y. x < y) (f x) (flat_map f parts) up y y (subst (λ z. Member y (f z)) same in_a) later in
    absurd (omega (arith, less))
part_is_one f (x ∷ parts) up (suc i) zero a b y at_a at_b in_a in_b =
    let same : b ≡ x = cc in
    let later = Member-flat_map f a y (member_at parts i a at_a) in_a in
    let less = pairs-across (λ x y. x < y) (f x) (flat_map f parts) up y y (subst (λ z. Member y (f z)) same in_b) later in
    absurd (omega (arith, less))
part_is_one f (x ∷ parts) up (suc i) (suc j) a b y at_a at_b in_a in_b =
    ap suc (part_is_one f parts (pairs-right (λ x y. x < y) (f x) (flat_map f parts) up) i j a b y at_a at_b in_a in_b)

-- the numbers from 0 on rise, and each stands at its own place
pub range_rises : (n : ℕ) → Rise (range_with_len 0 n)
range_rises n i j d less within =
    let count = length-range_with_len 0 n in
    let at_i = get_or-range_with_len 0 n i d (omega (arith, less, within, count)) in
    let at_j = get_or-range_with_len 0 n j d (omega (arith, within, count)) in
    omega (arith, at_i, at_j, less)

pub at_range : (n i : ℕ) → i < n → slice_get (range_with_len 0 n) i ≡ Some i
at_range n i lt =
    let count = length-range_with_len 0 n in
    let value : get_or (range_with_len 0 n) i 0 ≡ i = omega (arith, get_or-range_with_len 0 n i 0 lt) in
    slice_get-get_or (range_with_len 0 n) i 0 (omega (arith, lt, count)) ∙ ap Some value
