-- What stands between parentheses, one piece after another.
use Rattle.ncl_writer.proofs.Terms.{All, List, NetId, [], ap, append_assoc, arith, cases_lt, get_or, get_or-map, get_or_past, inl, inr, join_with_byte, length, map, map_push, opened, refl, subst, suc, suc-add, sym, take, take_more, zero, zip, ℕ, ◌++◌, ◌+◌, ◌<◌, ◌∙◌, ◌∷◌, ◌≡◌, ◌≤◌, ◌⊎◌}

-- what stands in front of the next piece: a parenthesis (40), or after others a comma (44)
abbrev pub front_of : List (List ℕ) → ℕ
front_of [] = 40
front_of (x ∷ xs) = 44

join-push : (x : List ℕ) (xs : List (List ℕ)) (y : List ℕ) → join_with_byte 44 (x ∷ (xs ++ y ∷ [])) ≡ join_with_byte 44 (x ∷ xs) ++ 44 ∷ y
join-push x [] y = refl
join-push x (z ∷ zs) y = ap (λ l. x ++ (44 ∷ l)) (join-push z zs y) ∙ sym (append_assoc x (44 ∷ join_with_byte 44 (z ∷ zs)) (44 ∷ y))

-- one piece more
pub opened-push : (xs : List (List ℕ)) (y : List ℕ) → opened (xs ++ y ∷ []) ≡ opened xs ++ front_of xs ∷ y
opened-push [] y = refl
opened-push (x ∷ xs) y = ap (λ l. 40 ∷ l) (join-push x xs y)

pub front_of-push : (xs : List (List ℕ)) (y : List ℕ) → front_of (xs ++ y ∷ []) ≡ 44
front_of-push [] y = refl
front_of-push (x ∷ xs) y = refl

-- the pieces so far, and what stands in front of the next
pub record Opens (text old : List ℕ) (front : ℕ) (xs : List (List ℕ)) : Type 0 where
  pub front_is : front ≡ front_of xs
  pub text_is : text ≡ old ++ opened xs

pub Opens-more : (text old : List ℕ) (front : ℕ) (xs ys : List (List ℕ)) (y new : List ℕ) → Opens text old front xs → ys ≡ xs ++ y ∷ [] → new ≡ (text ++ front ∷ []) ++ y → Opens new old 44 ys
Opens-more text old front xs ys y new is more e = record {
  front_is = sym (front_of-push xs y) ∙ ap front_of (sym more);
  text_is =
      e ∙ append_assoc text (front ∷ []) y ∙ (λ i. is.text_is i ++ is.front_is i ∷ y) ∙ append_assoc old (opened xs) (front_of xs ∷ y)
      ∙ ap (λ l. old ++ l) (sym (opened-push xs y) ∙ ap opened (sym more));
}

-- the values at a list with one more
pub map-more : {X Y : Type 0} (f : X → Y) (xs : List X) (i : ℕ) (x : X) → i < length xs → x ≡ get_or xs i x → map f (take (i + 1) xs) ≡ map f (take i xs) ++ f x ∷ []
map-more f xs i x lt is = ap (map f) (take_more xs i x lt) ∙ map_push f (take i xs) (get_or xs i x) ∙ ap (λ y. map f (take i xs) ++ f y ∷ []) (sym is)

-- the pairs of a list with one more
pub zip-push : {X Y Z : Type 0} (f : X → Y → Z) (xs : List X) (ys : List Y) (k : ℕ) (d : X) (e : Y) → k < length xs → k < length ys → map (λ (x, y). f x y) (zip (take (k + 1) xs) ys) ≡ map (λ (x, y). f x y) (zip (take k xs) ys) ++ f (get_or xs k d) (get_or ys k e) ∷ []
zip-push f [] ys k d e l m = absurd (omega arith)
zip-push f (x ∷ xs) [] k d e l m = absurd (omega arith)
zip-push f (x ∷ xs) (y ∷ ys) zero d e l m = refl
zip-push f (x ∷ xs) (y ∷ ys) (suc k) d e l m = rw suc-add (ap (λ zs. f x y ∷ zs) (zip-push f xs ys k d e (omega arith) (omega arith)))

-- ---- the pin at a place, and its net

-- a name in a list of references
pub pin_at : {X : Type 0} (f : X → List ℕ) (items : List X) (pins : List (List ℕ)) (k : ℕ) (d : X) → map f items ≡ pins → k < length items → f (get_or items k d) ≡ get_or pins k []
pin_at f items pins k d same lt = sym (get_or-map f items k d [] lt) ∙ ap (λ l. get_or l k []) same

-- the net at a place of the inputs, or the output behind them
pub net_at : (nets : List (List ℕ)) (ins : List NetId) (out : NetId) (k : ℕ) → k ≤ length ins → get_or (map (λ (net : NetId). get_or nets net.0 []) (ins ++ out ∷ [])) k [] ≡ get_or nets (get_or ins k out).0 []
net_at nets [] out zero le = refl
net_at nets [] out (suc k) le = absurd (omega arith)
net_at nets (net ∷ ins) out zero le = refl
net_at nets (net ∷ ins) out (suc k) le = net_at nets ins out k (omega arith)

-- it is there
pub net_there : (nets : ℕ) (ins : List NetId) (out : NetId) (k : ℕ) → All (λ (net : NetId). net.0 < nets) ins → out.0 < nets → (get_or ins k out).0 < nets
net_there nets ins out k each last = by (cases_lt k (length ins))
  where
    by : (k < length ins) ⊎ (length ins ≤ k) → (get_or ins k out).0 < nets
    by (inl within) = each k out within
    by (inr past) = subst (λ (net : NetId). net.0 < nets) (sym (get_or_past ins k out past)) last
