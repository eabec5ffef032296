-- Lists of names: each name once, and the number of a name.
use Rattle.std.specs.List.{IsDistinct}
use Rattle.ncl_netlist.proofs.Terms.{AllByRecursion, AllDiffer, Bool, Bor, IsDistinct-head, IsDistinct-push, IsDistinct-tail, IsEquivalence, List, [], ap, apart_from_distinct, append-nil, append_assoc, arith, common_steps, cond, false, filter, fold-append, fold_push, get_or, if◌then◌else◌, insert_all, insert_key, length, list_any, list_any-append, lists_equiv, map, map-append, map_more, name_number, nat_eq_equiv, not, once_each, passes_at_first, position_or_len_is, refl, same_name, same_text, subst, sym, take, take_at, true, ℕ, ◌&&◌, ◌++◌, ◌+◌, ◌<◌, ◌||◌, ◌∙◌, ◌∷◌, ◌≡◌, ◌≤◌}

-- ---- names that are the same

pub same_name-equiv : IsEquivalence same_name
same_name-equiv = lists_equiv nat_eq_equiv

-- names that are the same are equal
pub equal_names : (x y : List ℕ) → same_name x y ≡ true → x ≡ y
equal_names x y e = same_text x y (sym e)

-- a name is the same as itself
pub same_itself : (x : List ℕ) → same_name x x ≡ true
same_itself x = same_name-equiv.refl x

pub same_flipped : (x y : List ℕ) → same_name x y ≡ same_name y x
same_flipped x y = same_name-equiv.symm x y

-- ---- two filters, one after the other

module _ {X : Type 0} (p q r : X → Bool) where
  filter-filter : ((x : X) → (q x && p x) ≡ r x) → (xs : List X) → filter p (filter q xs) ≡ filter r xs
  filter-filter both [] = refl
  filter-filter both (x ∷ xs) = by (q x) refl (filter-filter both xs)
    where
      by : (b : Bool) → q x ≡ b → filter p (filter q xs) ≡ filter r xs → filter p (filter q (x ∷ xs)) ≡ filter r (x ∷ xs)
      by true e rest =
          let one : p x ≡ r x = sym (ap (λ c. c && p x) e) ∙ both x in
          ap (λ c. filter p (cond c (x ∷ filter q xs) (filter q xs))) e ∙ (λ i. cond (one i) (x ∷ rest i) (rest i))
      by false e rest =
          let none : false ≡ r x = sym (ap (λ c. c && p x) e) ∙ both x in
          ap (λ c. filter p (cond c (x ∷ filter q xs) (filter q xs))) e ∙ (λ i. cond (none i) (x ∷ rest i) (rest i))

filter_none : {X : Type 0} (xs : List X) → filter (λ _. true) xs ≡ xs
filter_none [] = refl
filter_none (x ∷ xs) = ap (λ l. x ∷ l) (filter_none xs)

-- ---- names inserted one after another

-- whether no name of ks is the same
abbrev fresh : List (List ℕ) → List ℕ → Bool
fresh ks y = not (list_any (same_name y) ks)

pub insert_present : (ks : List (List ℕ)) (x : List ℕ) → list_any (same_name x) ks ≡ true → insert_key same_name ks x ≡ ks
insert_present ks x e = ap (λ c. if c then ks else ks ++ x ∷ []) e

pub insert_fresh : (ks : List (List ℕ)) (x : List ℕ) → list_any (same_name x) ks ≡ false → insert_key same_name ks x ≡ ks ++ x ∷ []
insert_fresh ks x e = ap (λ c. if c then ks else ks ++ x ∷ []) e

kept_test : (ks : List (List ℕ)) (x : List ℕ) → list_any (same_name x) ks ≡ true → (y : List ℕ) → (not (same_name y x) && fresh ks y) ≡ fresh ks y
kept_test ks x e y = by (same_name y x) refl
  where
    by : (b : Bool) → same_name y x ≡ b → (not b && fresh ks y) ≡ fresh ks y
    by true s = sym (ap (λ z. fresh ks z) (equal_names y x s) ∙ ap not e)
    by false s = refl

pushed_test : (a b : Bool) → (not b && not a) ≡ not (a || (b || false))
pushed_test true true = refl
pushed_test true false = refl
pushed_test false true = refl
pushed_test false false = refl

-- names behind references
pub any-now : (x : List ℕ) (keys : List (Bor (List ℕ))) → list_any (λ key. same_name x key.now) keys ≡ list_any (same_name x) (map (λ key. key.now) keys)
any-now x [] = refl
any-now x (key ∷ keys) = ap (λ b. same_name x key.now || b) (any-now x keys)

pub insert_key-now : (keys : List (Bor (List ℕ))) (x : Bor (List ℕ)) → map (λ key. key.now) (insert_key (λ a b. same_name a.now b.now) keys x) ≡ insert_key same_name (map (λ key. key.now) keys) x.now
insert_key-now keys x = by (list_any (λ key. same_name x.now key.now) keys) ∙ ap (λ b. if b then names else names ++ x.now ∷ []) (any-now x.now keys)
  where
    names : List (List ℕ)
    names = map (λ key. key.now) keys

    by : (b : Bool) → map (λ key. key.now) (if b then keys else keys ++ x ∷ []) ≡ (if b then names else names ++ x.now ∷ [])
    by true = refl
    by false = map-append (λ key. key.now) keys (x ∷ [])

-- what is inserted goes last, once each, where it is new
pub insert_all-grows : (ks xs : List (List ℕ)) → insert_all same_name ks xs ≡ ks ++ filter (fresh ks) (once_each xs)
insert_all-grows ks [] = sym (append-nil ks)
insert_all-grows ks (x ∷ xs) = by (list_any (same_name x) ks) refl (λ l. insert_all-grows l xs)
  where
    rest : List (List ℕ)
    rest = filter (λ y. not (same_name y x)) (once_each xs)

    tested : (b : Bool) → list_any (same_name x) ks ≡ b → cond (not b) (x ∷ filter (fresh ks) rest) (filter (fresh ks) rest) ≡ filter (fresh ks) (once_each (x ∷ xs))
    tested b e = ap (λ c. cond (not c) (x ∷ filter (fresh ks) rest) (filter (fresh ks) rest)) (sym e)

    by : (b : Bool) → list_any (same_name x) ks ≡ b → ((l : List (List ℕ)) → insert_all same_name l xs ≡ l ++ filter (fresh l) (once_each xs)) → insert_all same_name ks (x ∷ xs) ≡ ks ++ filter (fresh ks) (once_each (x ∷ xs))
    by true e rec =
        ap (λ l. insert_all same_name l xs) (insert_present ks x e)
        ∙ rec ks
        ∙ ap (λ l. ks ++ l) (sym (filter-filter (fresh ks) (λ y. not (same_name y x)) (fresh ks) (kept_test ks x e) (once_each xs)) ∙ tested true e)
    by false e rec =
        ap (λ l. insert_all same_name l xs) (insert_fresh ks x e)
        ∙ rec (ks ++ x ∷ [])
        ∙ append_assoc ks (x ∷ []) (filter (fresh (ks ++ x ∷ [])) (once_each xs))
        ∙ ap (λ l. ks ++ (x ∷ l)) (sym (filter-filter (fresh ks) (λ y. not (same_name y x)) (fresh (ks ++ x ∷ [])) (λ y. pushed_test (list_any (same_name y) ks) (same_name y x) ∙ ap not (sym (list_any-append (same_name y) ks (x ∷ [])))) (once_each xs)))
        ∙ ap (λ l. ks ++ l) (tested false e)

-- the names of one item more are inserted after those of the items in front of it
pub insert_all-turn : {X : Type 0} (name_of : X → List ℕ) (xs : List X) (i : ℕ) (x : X) (keys new : List (List ℕ)) (name : List ℕ) → keys ≡ insert_all same_name [] (map name_of (take i xs)) → new ≡ insert_key same_name keys name → name ≡ name_of (get_or xs i x) → i < length xs → new ≡ insert_all same_name [] (map name_of (take (i + 1) xs))
insert_all-turn name_of xs i x keys new name before inserted is within =
    inserted
    ∙ (λ j. insert_key same_name (before j) (is j))
    ∙ sym (fold_push (insert_key same_name) [] (map name_of (take i xs)) (name_of (get_or xs i x)))
    ∙ ap (insert_all same_name []) (sym (map_more name_of xs i x within))

-- names inserted into none are there once each
pub insert_all-none : (xs : List (List ℕ)) → insert_all same_name [] xs ≡ once_each xs
insert_all-none xs = insert_all-grows [] xs ∙ filter_none (once_each xs)

-- names that differ are there once each
pub once_each-AllDiffer : (xs : List (List ℕ)) → AllDiffer xs → once_each xs ≡ xs
once_each-AllDiffer [] d = refl
once_each-AllDiffer (x ∷ xs) d =
    ap (λ l. x ∷ filter (λ y. not (same_name y x)) l) (once_each-AllDiffer xs (IsDistinct-tail same_name x xs d))
    ∙ ap (λ l. x ∷ l) (all_pass xs (IsDistinct-head same_name x xs d))
  where
    all_pass : (ys : List (List ℕ)) → AllByRecursion (λ y. same_name x y ≡ false) ys → filter (λ y. not (same_name y x)) ys ≡ ys
    all_pass [] h = refl
    all_pass (y ∷ ys) h =
        ap (λ c. cond (not c) (y ∷ filter (λ z. not (same_name z x)) ys) (filter (λ z. not (same_name z x)) ys)) (same_flipped y x ∙ h.0)
        ∙ ap (λ l. y ∷ l) (all_pass ys h.1)

-- names that differ, and stand first, stay first
pub take-once_each : (xs ys : List (List ℕ)) → AllDiffer xs → take (length xs) (once_each (xs ++ ys)) ≡ xs
take-once_each xs ys d =
    let more = filter (fresh xs) (once_each ys) in
    let e : once_each (xs ++ ys) ≡ xs ++ more =
    sym (insert_all-none (xs ++ ys)) ∙ fold-append (insert_key same_name) [] xs ys
    ∙ ap (λ l. insert_all same_name l ys) (insert_all-none xs ∙ once_each-AllDiffer xs d)
    ∙ insert_all-grows xs ys in
    ap (λ l. take (length xs) l) e ∙ take_at xs more (length xs) refl

-- names that are inserted among names that differ leave them different
pub AllDiffer-insert_all : (ks xs : List (List ℕ)) → AllDiffer ks → AllDiffer (insert_all same_name ks xs)
AllDiffer-insert_all ks [] d = d
AllDiffer-insert_all ks (x ∷ xs) d =
    AllDiffer-insert_all (insert_key same_name ks x) xs (by (list_any (same_name x) ks) refl)
  where
    by : (b : Bool) → list_any (same_name x) ks ≡ b → AllDiffer (insert_key same_name ks x)
    by true e = subst AllDiffer (sym (insert_present ks x e)) d
    by false e = subst AllDiffer (sym (insert_fresh ks x e)) (IsDistinct-push same_name-equiv ks x d e)

AllDiffer-none : AllDiffer []
unfolding IsDistinct
AllDiffer-none = tt

-- no two names of a list with each name once are the same
pub AllDiffer-once_each : (xs : List (List ℕ)) → AllDiffer (once_each xs)
AllDiffer-once_each xs = subst AllDiffer (insert_all-none xs) (AllDiffer-insert_all [] xs AllDiffer-none)

-- an insert adds one name at most
pub length-insert_all : (ks xs : List (List ℕ)) → length (insert_all same_name ks xs) ≤ length ks + length xs
length-insert_all ks [] = omega arith
length-insert_all ks (x ∷ xs) =
    omega (arith, length-insert_all (insert_key same_name ks x) xs, one (list_any (same_name x) ks))
  where
    one : (b : Bool) → length (if b then ks else ks ++ x ∷ []) ≤ length ks + 1
    one true = omega arith
    one false = grind (arith, common_steps)

-- ---- the number of a name

-- a name that is inserted has its number whatever comes later
pub name_number-insert_key : (ks : List (List ℕ)) (x : List ℕ) (more : List (List ℕ)) → name_number (insert_key same_name ks x ++ more) x ≡ name_number ks x
name_number-insert_key [] x more = ap (λ c. cond (not c) (1 + name_number more x) 0) (same_itself x)
name_number-insert_key (k ∷ ks) x more = by (same_name x k) (list_any (same_name x) ks) refl refl (name_number-insert_key ks x more)
  where
    inserted : List (List ℕ)
    inserted = insert_key same_name ks x

    past : same_name x k ≡ false → (l : List (List ℕ)) → name_number (k ∷ l) x ≡ 1 + name_number l x
    past e l = ap (λ c. cond (not c) (1 + name_number l x) 0) e

    here : same_name x k ≡ true → (l : List (List ℕ)) → name_number (k ∷ l) x ≡ 0
    here e l = ap (λ c. cond (not c) (1 + name_number l x) 0) e

    later : (c : Bool) → same_name x k ≡ false → list_any (same_name x) ks ≡ c → insert_key same_name (k ∷ ks) x ≡ k ∷ inserted
    later true e f =
        insert_present (k ∷ ks) x (ap (λ c. c || list_any (same_name x) ks) e ∙ f) ∙ ap (λ l. k ∷ l) (sym (insert_present ks x f))
    later false e f =
        insert_fresh (k ∷ ks) x (ap (λ c. c || list_any (same_name x) ks) e ∙ f) ∙ ap (λ l. k ∷ l) (sym (insert_fresh ks x f))

    by : (b c : Bool) → same_name x k ≡ b → list_any (same_name x) ks ≡ c → name_number (inserted ++ more) x ≡ name_number ks x → name_number (insert_key same_name (k ∷ ks) x ++ more) x ≡ name_number (k ∷ ks) x
    by true c e f rec =
        ap (λ l. name_number (l ++ more) x) (insert_present (k ∷ ks) x (ap (λ b. b || list_any (same_name x) ks) e))
        ∙ here e (ks ++ more) ∙ sym (here e ks)
    by false c e f rec =
        ap (λ l. name_number (l ++ more) x) (later c e f)
        ∙ past e (inserted ++ more) ∙ ap (λ n. 1 + n) rec ∙ sym (past e ks)

-- a name of the list has a number below its length
pub name_number-lt-length : (names : List (List ℕ)) (x : List ℕ) → list_any (same_name x) names ≡ true → name_number names x < length names
name_number-lt-length [] x h = grind arith
name_number-lt-length (y ∷ ys) x h = by (same_name x y) refl (name_number-lt-length ys x)
  where
    by : (b : Bool) → same_name x y ≡ b → (list_any (same_name x) ys ≡ true → name_number ys x < length ys) → name_number (y ∷ ys) x < length (y ∷ ys)
    by true e rec =
        let n : name_number (y ∷ ys) x ≡ 0 = ap (λ c. cond (not c) (1 + name_number ys x) 0) e in
        omega (arith, n)
    by false e rec =
        let n : name_number (y ∷ ys) x ≡ 1 + name_number ys x = ap (λ c. cond (not c) (1 + name_number ys x) 0) e in
        omega (arith, n, rec (sym (ap (λ c. c || list_any (same_name x) ys) e) ∙ h))

-- the name at the number of a name is that name
pub get_or-name_number : (names : List (List ℕ)) (x d : List ℕ) → name_number names x < length names → get_or names (name_number names x) d ≡ x
get_or-name_number names x d within =
    sym (equal_names x (get_or names (name_number names x) d) (passes_at_first (same_name x) names d within))

-- the number of the name at a place is that place, where names differ
pub name_number-get_or : (names : List (List ℕ)) (i : ℕ) (d : List ℕ) → AllDiffer names → i < length names → name_number names (get_or names i d) ≡ i
name_number-get_or names i d differ within =
    position_or_len_is (same_name (get_or names i d)) names i d (omega arith)
    (λ k before. same_flipped (get_or names i d) (get_or names k d) ∙ apart_from_distinct same_name names k i d differ before within)
    (λ _. same_itself (get_or names i d))

-- each name once has the same names
pub list_any-once_each : (xs : List (List ℕ)) (x : List ℕ) → list_any (same_name x) (once_each xs) ≡ list_any (same_name x) xs
list_any-once_each [] x = refl
list_any-once_each (y ∷ ys) x = by (same_name x y) refl (list_any-once_each ys x)
  where
    others : same_name x y ≡ false → (l : List (List ℕ)) → list_any (same_name x) (filter (λ z. not (same_name z y)) l) ≡ list_any (same_name x) l
    others e [] = refl
    others e (z ∷ l) = at (same_name z y) refl (others e l)
      where
        at : (b : Bool) → same_name z y ≡ b → list_any (same_name x) (filter (λ w. not (same_name w y)) l) ≡ list_any (same_name x) l → list_any (same_name x) (filter (λ w. not (same_name w y)) (z ∷ l)) ≡ list_any (same_name x) (z ∷ l)
        at true s rec =
            ap (λ c. list_any (same_name x) (cond (not c) (z ∷ filter (λ w. not (same_name w y)) l) (filter (λ w. not (same_name w y)) l))) s
            ∙ rec ∙ ap (λ c. c || list_any (same_name x) l) (sym e ∙ ap (same_name x) (sym (equal_names z y s)))
        at false s rec =
            ap (λ c. list_any (same_name x) (cond (not c) (z ∷ filter (λ w. not (same_name w y)) l) (filter (λ w. not (same_name w y)) l))) s
            ∙ ap (λ c. same_name x z || c) rec

    by : (b : Bool) → same_name x y ≡ b → list_any (same_name x) (once_each ys) ≡ list_any (same_name x) ys → list_any (same_name x) (once_each (y ∷ ys)) ≡ list_any (same_name x) (y ∷ ys)
    by true e rec =
        ap (λ c. c || list_any (same_name x) (filter (λ z. not (same_name z y)) (once_each ys))) e
        ∙ sym (ap (λ c. c || list_any (same_name x) ys) e)
    by false e rec = ap (λ c. same_name x y || c) (others e (once_each ys) ∙ rec)
