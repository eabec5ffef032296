-- Two lists side by side, what holds of each two elements, and one of the second changed.
use Rattle.ncl_shape.proofs.Terms.{AllZip, List, Member, Some, [], arith, get_or, here, length, refl, replicate, set, slice_get, subst, suc, sym, take, take_more, there, zero, ℕ, ◌++◌, ◌+◌, ◌<◌, ◌∷◌, ◌≡◌, ◌≢◌}

pub AllZip-same : {X Y : Type 0} (P Q : X → Y → Type 0) (xs : List X) (ys : List Y) → AllZip P xs ys → ((k : ℕ) (x : X) (y : Y) → slice_get xs k ≡ Some x → P x y → Q x y) → AllZip Q xs ys
AllZip-same P Q [] [] all to = tt
AllZip-same P Q [] (y ∷ ys) all to = absurd all
AllZip-same P Q (x ∷ xs) [] all to = absurd all
AllZip-same P Q (x ∷ xs) (y ∷ ys) all to = (to zero x y refl all.0, AllZip-same P Q xs ys all.1 (λ k. to (suc k)))

-- one fact of all, where nothing is at the start
pub AllZip-begin : {X Y : Type 0} (P : X → Y → Type 0) (y : Y) → ((x : X) → P x y) → (xs : List X) → AllZip P xs (replicate (length xs) y)
AllZip-begin P y holds [] = tt
AllZip-begin P y holds (x ∷ xs) = (holds x, AllZip-begin P y holds xs)

-- one element of the second list is changed, and the facts of the others stay or grow
pub AllZip-set : {X Y : Type 0} (P Q : X → Y → Type 0) (xs : List X) (ys : List Y) (k : ℕ) (x : X) (d new : Y) → AllZip P xs ys → slice_get xs k ≡ Some x
    → (P x (get_or ys k d) → Q x new) → ((j : ℕ) (z : X) (y : Y) → j ≢ k → slice_get xs j ≡ Some z → P z y → Q z y) → AllZip Q xs (set ys k new)
AllZip-set P Q [] ys k x d new all at made other = absurd cc
AllZip-set P Q (z ∷ xs) [] k x d new all at made other = absurd all
AllZip-set P Q (z ∷ xs) (y ∷ ys) zero x d new all at made other =
    let same : z ≡ x = cc in
    (subst (λ u. Q u new) (sym same) (made (subst (λ u. P u y) same all.0)), AllZip-same P Q xs ys all.1 (λ j u w. other (suc j) u w (λ e. omega (arith, e))))
AllZip-set P Q (z ∷ xs) (y ∷ ys) (suc k) x d new all at made other =
    (other zero z y (λ e. omega (arith, e)) refl all.0, AllZip-set P Q xs ys k x d new all.1 at made (λ j u w differ. other (suc j) u w (λ e. differ (omega (arith, e)))))

-- one more of both
AllZip-push : {X Y : Type 0} (R : X → Y → Type 0) (xs : List X) (ys : List Y) (x : X) (y : Y) → AllZip R xs ys → R x y → AllZip R (xs ++ x ∷ []) (ys ++ y ∷ [])
AllZip-push R [] [] x y all r = (r, tt)
AllZip-push R [] (w ∷ ys) x y all r = absurd all
AllZip-push R (z ∷ xs) [] x y all r = absurd all
AllZip-push R (z ∷ xs) (w ∷ ys) x y all r = (all.0, AllZip-push R xs ys x y all.1 r)

pub AllZip-more : {X Y : Type 0} (R : X → Y → Type 0) (xs : List X) (ys : List Y) (k : ℕ) (d : X) (y : Y) → k < length xs → AllZip R (take k xs) ys → R (get_or xs k d) y → AllZip R (take (k + 1) xs) (ys ++ y ∷ [])
AllZip-more R xs ys k d y lt all r = subst (λ l. AllZip R l (ys ++ y ∷ [])) (sym (take_more xs k d lt)) (AllZip-push R (take k xs) ys (get_or xs k d) y all r)

-- an element of either list goes with one of the other
pub AllZip-find : {X Y : Type 0} (R : X → Y → Type 0) (xs : List X) (ys : List Y) → AllZip R xs ys → (x : X) → Member x xs → (y : Y) × Member y ys × R x y
AllZip-find R [] ys all x m = elim m [ ]
AllZip-find R (x ∷ xs) [] all z m = absurd all
AllZip-find R (x ∷ xs) (y ∷ ys) all z here = (y, here, all.0)
AllZip-find R (x ∷ xs) (y ∷ ys) all z (there m) = let (w, in_ys, r) = AllZip-find R xs ys all.1 z m in (w, there in_ys, r)

pub AllZip-found : {X Y : Type 0} (R : X → Y → Type 0) (xs : List X) (ys : List Y) → AllZip R xs ys → (y : Y) → Member y ys → (x : X) × Member x xs × R x y
AllZip-found R xs [] all y m = elim m [ ]
AllZip-found R [] (y ∷ ys) all z m = absurd all
AllZip-found R (x ∷ xs) (y ∷ ys) all z here = (x, here, all.0)
AllZip-found R (x ∷ xs) (y ∷ ys) all z (there m) = let (w, in_xs, r) = AllZip-found R xs ys all.1 z m in (w, there in_xs, r)

-- two lists side by side have one length
pub AllZip-length : {X Y : Type 0} (R : X → Y → Type 0) (xs : List X) (ys : List Y) → AllZip R xs ys → length xs ≡ length ys
AllZip-length R [] [] all = refl
AllZip-length R [] (y ∷ ys) all = absurd all
AllZip-length R (x ∷ xs) [] all = absurd all
AllZip-length R (x ∷ xs) (y ∷ ys) all = omega (arith, AllZip-length R xs ys all.1)

-- a fact of each element of the second list beside what holds already
pub AllZip-and : {X Y : Type 0} (P : X → Y → Type 0) (Q : Y → Type 0) (d : Y) (xs : List X) (ys : List Y) → AllZip P xs ys → ((k : ℕ) → Q (get_or ys k d)) → AllZip (λ x y. P x y × Q y) xs ys
AllZip-and P Q d [] [] all each = tt
AllZip-and P Q d [] (y ∷ ys) all each = absurd all
AllZip-and P Q d (x ∷ xs) [] all each = absurd all
AllZip-and P Q d (x ∷ xs) (y ∷ ys) all each = ((all.0, each zero), AllZip-and P Q d xs ys all.1 (λ k. each (suc k)))

-- where the second of two lists that go together is cut, so is the first
pub zip_split : {X Y : Type 0} (R : X → Y → Type 0) (xs : List X) (before : List Y) (y : Y) (after : List Y) → AllZip R xs (before ++ y ∷ after) → (left : List X) × (x : X) × (right : List X) × (xs ≡ left ++ x ∷ right) × AllZip R left before × R x y
zip_split R [] [] y after zip = absurd zip
zip_split R (x ∷ xs) [] y after zip = ([], x, xs, refl, tt, zip.0)
zip_split R [] (z ∷ before) y after zip = absurd zip
zip_split R (x ∷ xs) (z ∷ before) y after zip =
    let (left, w, right, is, zipped, holds) = zip_split R xs before y after zip.1 in
    (x ∷ left, w, right, (λ i. x ∷ is i), (zip.0, zipped), holds)
