-- The places of nets: how they are numbered, and what stands at them.
use Rattle.ncl_faults.proofs.Terms.{All, All-contains, AllPairs, Contains, Contains-from_Member, IsStage, List, Member, Member-append_left, Member-from_Contains, NetId, Rails, StageCell, StageData, [], ap, append_assoc, arith, cond, drop, drop_more, eqb-true, false_from_ne_true, get_or, here, insert_key, length, map, map-append, member_from_list_any, nat_eq, nets_of, out_of, rail_nets, refl, subst, suc, sym, take, take-append-drop, take_more, there, zero, ℕ, ◌++◌, ◌+◌, ◌<◌, ◌∙◌, ◌∷◌, ◌≡◌, ◌≢◌, get_or_append_left, length-append}
use Rattle.ncl_faults.proofs.Apart.{parts-differ}

abbrev pub AllDiffer : List ℕ → Type 0
AllDiffer nets = AllPairs (λ x y. x ≢ y) nets

pub left-differ : (xs ys : List ℕ) → AllDiffer (xs ++ ys) → AllDiffer xs
left-differ xs ys differ = λ i j d before within.
    let e = get_or_append_left xs ys d i (omega arith) in
    let f = get_or_append_left xs ys d j within in
    let n = length-append xs ys in
    λ same. differ i j d before (omega arith) (e ∙ same ∙ sym f)

-- a net that is in no front of a list goes last
pub insert_next : (front : List ℕ) (net : ℕ) (rest : List ℕ) → AllDiffer (front ++ net ∷ rest) → insert_key nat_eq front net ≡ front ++ net ∷ []
insert_next front net rest differ = ap (λ b. cond b front (front ++ net ∷ [])) (false_from_ne_true _ (λ among.
    let (x, m, at) = member_from_list_any (nat_eq net) front among in
    parts-differ net (net ∷ rest) differ (subst (λ y. Member y front) (sym (eqb-true net x at)) m) here))

pub rail_nets-append : (rails more : List Rails) → rail_nets (rails ++ more) ≡ rail_nets rails ++ rail_nets more
rail_nets-append [] more = refl
rail_nets-append (r ∷ rs) more = ap (λ nets. r.zero.0 ∷ r.one.0 ∷ nets) (rail_nets-append rs more)

pub rail_nets-more : (rails : List Rails) (i : ℕ) (d : Rails) → i < length rails → rail_nets (take (i + 1) rails) ≡ (rail_nets (take i rails) ++ (get_or rails i d).zero.0 ∷ []) ++ (get_or rails i d).one.0 ∷ []
rail_nets-more rails i d lt =
    ap rail_nets (take_more rails i d lt) ∙ rail_nets-append (take i rails) (get_or rails i d ∷ [])
    ∙ sym (append_assoc (rail_nets (take i rails)) ((get_or rails i d).zero.0 ∷ []) ((get_or rails i d).one.0 ∷ []))

-- the rails, cut at one
rails-cut : (rails : List Rails) (i : ℕ) (d : Rails) → i < length rails → rail_nets rails ≡ rail_nets (take i rails) ++ (get_or rails i d).zero.0 ∷ (get_or rails i d).one.0 ∷ rail_nets (drop (i + 1) rails)
rails-cut rails i d lt = ap rail_nets (sym (take-append-drop i rails) ∙ ap (λ l. take i rails ++ l) (drop_more rails i d lt)) ∙ rail_nets-append (take i rails) (get_or rails i d ∷ drop (i + 1) rails)

-- the rails of one bit more
pub insert_rails : (s : StageData) → IsStage s → (i : ℕ) (d : Rails) → i < length s.inputs → insert_key nat_eq (insert_key nat_eq (rail_nets (take i s.inputs)) (get_or s.inputs i d).zero.0) (get_or s.inputs i d).one.0 ≡ rail_nets (take (i + 1) s.inputs)
insert_rails s is i d lt =
    let front : List ℕ = rail_nets (take i s.inputs) in
    let z : ℕ = (get_or s.inputs i d).zero.0 in
    let o : ℕ = (get_or s.inputs i d).one.0 in
    let rest : List ℕ = rail_nets (drop (i + 1) s.inputs) ++ map out_of s.cells in
    let cut : nets_of s.inputs s.cells ≡ front ++ z ∷ o ∷ rest = ap (λ l. l ++ map out_of s.cells) (rails-cut s.inputs i d lt) ∙ append_assoc front (z ∷ o ∷ rail_nets (drop (i + 1) s.inputs)) (map out_of s.cells) in
    let differ : AllDiffer (front ++ z ∷ o ∷ rest) = subst AllDiffer cut is.nets_differ in
    ap (λ l. insert_key nat_eq l o) (insert_next front z (o ∷ rest) differ)
    ∙ insert_next (front ++ z ∷ []) o rest (subst AllDiffer (sym (append_assoc front (z ∷ []) (o ∷ rest))) differ)
    ∙ sym (rail_nets-more s.inputs i d lt)

-- the output of one cell more
pub insert_out : (s : StageData) → IsStage s → (i : ℕ) (d : StageCell) → i < length s.cells → insert_key nat_eq (nets_of s.inputs (take i s.cells)) (get_or s.cells i d).out.0 ≡ nets_of s.inputs (take (i + 1) s.cells)
insert_out s is i d lt =
    let front : List ℕ = nets_of s.inputs (take i s.cells) in
    let out : ℕ = (get_or s.cells i d).out.0 in
    let rest : List ℕ = map out_of (drop (i + 1) s.cells) in
    let cells : map out_of s.cells ≡ map out_of (take i s.cells) ++ out ∷ rest = ap (map out_of) (sym (take-append-drop i s.cells) ∙ ap (λ l. take i s.cells ++ l) (drop_more s.cells i d lt)) ∙ map-append out_of (take i s.cells) (get_or s.cells i d ∷ drop (i + 1) s.cells) in
    let cut : nets_of s.inputs s.cells ≡ front ++ out ∷ rest = ap (λ l. rail_nets s.inputs ++ l) cells ∙ sym (append_assoc (rail_nets s.inputs) (map out_of (take i s.cells)) (out ∷ rest)) in
    insert_next front out rest (subst AllDiffer cut is.nets_differ)
    ∙ append_assoc (rail_nets s.inputs) (map out_of (take i s.cells)) (out ∷ [])
    ∙ ap (λ l. rail_nets s.inputs ++ l) (sym (ap (map out_of) (take_more s.cells i d lt) ∙ map-append out_of (take i s.cells) (get_or s.cells i d ∷ [])))

-- what the inputs of a cell read are nets of the stage
pub reads-within : (s : StageData) → IsStage s → (i : ℕ) (d : StageCell) → i < length s.cells → All (λ (net : NetId). Contains (nets_of s.inputs s.cells) net.0) (get_or s.cells i d).ins.items
reads-within s is i d lt = λ place e within.
    let front = is.in_order (take i s.cells) (drop (i + 1) s.cells) (get_or s.cells i d) (sym (take-append-drop i s.cells) ∙ ap (λ l. take i s.cells ++ l) (drop_more s.cells i d lt)) in
    let net : ℕ = (get_or (get_or s.cells i d).ins.items place e).0 in
    let m : Member net (nets_of s.inputs (take i s.cells)) = Member-from_Contains (nets_of s.inputs (take i s.cells)) net (front place e within) in
    Contains-from_Member net
    (subst (λ cells. Member net (nets_of s.inputs cells)) (take-append-drop i s.cells)
    (subst (λ nets. Member net (rail_nets s.inputs ++ nets)) (sym (map-append out_of (take i s.cells) (drop i s.cells)))
    (subst (Member net) (append_assoc (rail_nets s.inputs) (map out_of (take i s.cells)) (map out_of (drop i s.cells)))
    (Member-append_left net (map out_of (drop i s.cells)) m))))

-- the rails of an output are nets of the stage
pub zero-member : (rails : List Rails) (i : ℕ) (d : Rails) → i < length rails → Member (get_or rails i d).zero.0 (rail_nets rails)
zero-member [] i d lt = absurd (omega arith)
zero-member (r ∷ rs) zero d lt = here
zero-member (r ∷ rs) (suc i) d lt = there (there (zero-member rs i d (omega arith)))

pub one-member : (rails : List Rails) (i : ℕ) (d : Rails) → i < length rails → Member (get_or rails i d).one.0 (rail_nets rails)
one-member [] i d lt = absurd (omega arith)
one-member (r ∷ rs) zero d lt = there here
one-member (r ∷ rs) (suc i) d lt = there (there (one-member rs i d (omega arith)))

pub at_rail : (P : ℕ → Type 0) (rails : List Rails) → All P (rail_nets rails) → (i : ℕ) (d : Rails) → i < length rails → P (get_or rails i d).zero.0 × P (get_or rails i d).one.0
at_rail P rails all i d lt = (All-contains P (rail_nets rails) _ all (Contains-from_Member _ (zero-member rails i d lt)), All-contains P (rail_nets rails) _ all (Contains-from_Member _ (one-member rails i d lt)))

-- a cell of a list that is read, as one of the stage
pub cell-read : (s : StageData) (cells : List StageCell) (i : ℕ) (cell : StageCell) → cells ≡ s.cells → i < length cells → cell ≡ get_or cells i cell → (i < length s.cells) × (cell ≡ get_or s.cells i cell)
cell-read s cells i cell same lt is = (subst (λ xs. i < length xs) same lt, is ∙ ap (λ xs. get_or xs i cell) same)
