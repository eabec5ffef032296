-- Lists that are joined of lists.
use Rattle.ncl_base.proofs.Terms.{List, [], arith, flat_map, inl, inr, join_with_byte, length, length-append, sum_by, sum_by-cons, ℕ, ◌+◌, ◌∷◌, ◌≡◌}
use Rattle.ncl_base.proofs.Members.{Member, here, there, Member-append_left, Member-append_right, Member-append_cases}

-- a member of a part is a member of the whole
pub Member-flat_map : {X Y : Type 0} (f : X → List Y) (x : X) (y : Y) {xs : List X} → Member x xs → Member y (f x) → Member y (flat_map f xs)
Member-flat_map f x y (here {xs = xs}) m = Member-append_left y (flat_map f xs) m
Member-flat_map f x y (there {y = z} {xs = xs} n) m = Member-append_right (f z) y (Member-flat_map f x y n m)

-- and a member of the whole is one of a part
pub member_of_flat_map : {X Y : Type 0} (f : X → List Y) (xs : List X) (y : Y) → Member y (flat_map f xs) → (x : X) × Member x xs × Member y (f x)
member_of_flat_map f [] y m = elim m [ ]
member_of_flat_map f (x ∷ xs) y m =
    elim (Member-append_cases y (f x) (flat_map f xs) m) [
      | inl first ↦ (x, here, first)
      | inr rest ↦ let (z, n, own) = member_of_flat_map f xs y rest in (z, there n, own)
    ]

-- texts with a byte between them
pub length-join_with_byte : (byte : ℕ) (text : List ℕ) (texts : List (List ℕ)) → length (join_with_byte byte (text ∷ texts)) + 1 ≡ sum_by (λ t. length t + 1) (text ∷ texts)
length-join_with_byte byte text [] = let whole : sum_by (λ t. length t + 1) (text ∷ []) ≡ length text + 1 + 0 = sum_by-cons (λ t. length t + 1) text [] in omega (arith, whole)
length-join_with_byte byte text (other ∷ texts) =
    let whole : sum_by (λ t. length t + 1) (text ∷ other ∷ texts) ≡ length text + 1 + sum_by (λ t. length t + 1) (other ∷ texts) = sum_by-cons (λ t. length t + 1) text (other ∷ texts) in
    let rest = length-join_with_byte byte other texts in
    omega (arith, whole, rest, length-append text (byte ∷ join_with_byte byte (other ∷ texts)))
