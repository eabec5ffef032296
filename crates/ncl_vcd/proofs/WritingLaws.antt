-- The text of a dump as it is written, part by part.
use Rattle.ncl_vcd.proofs.Terms.{AllByRecursion, Bool, Fired, IsRunFrom, List, PipelineData, Some, State, [], ap, append-nil, append_assoc, arith, change_by, change_lines, changes_of, flat_map, flat_map-append, get_or, items_in, length, length-map, length-range_with_len, length-take-le, line, map, map-range_with_len_more, net_of_step, range_with_len, refl, step, suc, sym, take, take_more, time_lines, value_line, value_lines, variable_line, variable_lines, ℕ, ◌++◌, ◌+◌, ◌<◌, ◌^◌, ◌∙◌, ◌∷◌, ◌≡◌}

variable_lines-append : (from : ℕ) (xs ys : List (List ℕ)) → variable_lines from (xs ++ ys) ≡ variable_lines from xs ++ variable_lines (from + length xs) ys
variable_lines-append from [] ys = ap (λ n. variable_lines n ys) (let e : from ≡ from + 0 = omega arith in e)
variable_lines-append from (x ∷ xs) ys = ap (λ l. variable_line from x ∷ l) (variable_lines-append (from + 1) xs ys ∙ ap (λ n. variable_lines (from + 1) xs ++ variable_lines n ys) (let e : from + 1 + length xs ≡ from + suc (length xs) = omega arith in e))

value_lines-append : (from : ℕ) (xs ys : List Bool) → value_lines from (xs ++ ys) ≡ value_lines from xs ++ value_lines (from + length xs) ys
value_lines-append from [] ys = ap (λ n. value_lines n ys) (let e : from ≡ from + 0 = omega arith in e)
value_lines-append from (x ∷ xs) ys = ap (λ l. value_line from x ∷ l) (value_lines-append (from + 1) xs ys ∙ ap (λ n. value_lines (from + 1) xs ++ value_lines n ys) (let e : from + 1 + length xs ≡ from + suc (length xs) = omega arith in e))

-- one line more
line-more : (old : List ℕ) (ls : List (List ℕ)) (l : List ℕ) → (old ++ flat_map line ls) ++ line l ≡ old ++ flat_map line (ls ++ l ∷ [])
line-more old ls l = append_assoc old (flat_map line ls) (line l) ∙ ap (λ t. old ++ t) (ap (λ t. flat_map line ls ++ t) (sym (append-nil (line l))) ∙ sym (flat_map-append line ls (l ∷ [])))

-- one net more
pub nets-step : (old : List ℕ) (names : List (List ℕ)) (i : ℕ) (name : List ℕ) → i < length names → name ≡ get_or names i name → (old ++ flat_map line (variable_lines 0 (take i names))) ++ line (variable_line i name) ≡ old ++ flat_map line (variable_lines 0 (take (i + 1) names))
nets-step old names i name lt at =
    line-more old (variable_lines 0 (take i names)) (variable_line i name)
    ∙ ap (λ ls. old ++ flat_map line ls)
    (ap (λ n. variable_lines 0 (take i names) ++ variable_line n name ∷ []) (let size = length-take-le i names (omega arith) in let e : i ≡ 0 + length (take i names) = omega arith in e)
    ∙ sym (variable_lines-append 0 (take i names) (name ∷ []))
    ∙ ap (variable_lines 0) (ap (λ x. take i names ++ x ∷ []) at ∙ sym (take_more names i name lt)))

-- one value more
pub values-step : (old : List ℕ) (f : ℕ → Bool) (i : ℕ) → (old ++ flat_map line (value_lines 0 (map f (range_with_len 0 i)))) ++ line (value_line i (f i)) ≡ old ++ flat_map line (value_lines 0 (map f (range_with_len 0 (i + 1))))
values-step old f i =
    let front : List Bool = map f (range_with_len 0 i) in
    line-more old (value_lines 0 front) (value_line i (f i))
    ∙ ap (λ ls. old ++ flat_map line ls)
    (ap (λ n. value_lines 0 front ++ value_line n (f i) ∷ []) (let size = length-map (range_with_len 0 i) f in let many = length-range_with_len 0 i in let e : i ≡ 0 + length front = omega arith in e)
    ∙ sym (value_lines-append 0 front (f i ∷ []))
    ∙ ap (value_lines 0) (sym (map-range_with_len_more f 0 i i (let e : 0 + i ≡ i = omega arith in e))))

-- one step more
pub changes-step : (p : PipelineData) (s after : State) (left rest : List Fired) (f : Fired) (last net : ℕ) (value : Bool) (old new whole : List ℕ) → left ≡ f ∷ rest → after ≡ step p s f.item → net_of_step p s f.item ≡ Some net → value ≡ after.value net → new ≡ old ++ flat_map line (time_lines last f.time ++ value_line net value ∷ []) → old ++ flat_map line (change_lines last (changes_of p s left)) ≡ whole → new ++ flat_map line (change_lines f.time (changes_of p after rest)) ≡ whole
changes-step p s after left rest f last net value old new whole cut is at valued written before =
    let later : List (List ℕ) = change_lines f.time (changes_of p (step p s f.item) rest) in
    let own : List (List ℕ) = time_lines last f.time ++ value_line net ((step p s f.item).value net) ∷ [] in
    (λ k. (written ∙ ap (λ v. old ++ flat_map line (time_lines last f.time ++ value_line net v ∷ [])) (valued ∙ ap (λ (t : State). t.value net) is)) k ++ flat_map line (change_lines f.time (changes_of p (is k) rest)))
    ∙ append_assoc old (flat_map line own) (flat_map line later)
    ∙ ap (λ t. old ++ t) (sym (flat_map-append line own later) ∙ ap (flat_map line) (append_assoc (time_lines last f.time) (value_line net ((step p s f.item).value net) ∷ []) later))
    ∙ ap (λ o. old ++ flat_map line (change_lines last (change_by f (step p s f.item) o ++ changes_of p (step p s f.item) rest))) (sym at)
    ∙ ap (λ l. old ++ flat_map line (change_lines last (changes_of p s l))) (sym cut)
    ∙ before

-- the first steps of a run are a run
pub run-front : (p : PipelineData) (s : State) (steps rest : List Fired) → IsRunFrom p s (items_in (steps ++ rest)) → IsRunFrom p s (items_in steps)
run-front p s [] rest run = tt
run-front p s (f ∷ steps) rest run = (run.0, run-front p (step p s f.item) steps rest run.1)

-- small times, and one more
pub small-push : (steps : List Fired) (f : Fired) → AllByRecursion (λ (g : Fired). g.time < 2 ^ 64) steps → f.time < 2 ^ 64 → AllByRecursion (λ (g : Fired). g.time < 2 ^ 64) (steps ++ f ∷ [])
small-push [] f all small = (small, tt)
small-push (g ∷ steps) f all small = (all.0, small-push steps f all.1 small)

-- a text of lines, and more
grow : (old : List ℕ) (ls : List (List ℕ)) (l : List ℕ) → old ≡ flat_map line ls → old ++ line l ≡ flat_map line (ls ++ l ∷ [])
grow old ls l is = ap (λ t. t ++ line l) is ∙ ap (λ t. flat_map line ls ++ t) (sym (append-nil (line l))) ∙ sym (flat_map-append line ls (l ∷ []))

grow-all : (old : List ℕ) (ls more : List (List ℕ)) → old ≡ flat_map line ls → old ++ flat_map line more ≡ flat_map line (ls ++ more)
grow-all old ls more is = ap (λ t. t ++ flat_map line more) is ∙ sym (flat_map-append line ls more)

inner : (c d e f g : List ℕ) (nets values changes : List (List ℕ)) → ((((((nets ++ c ∷ []) ++ d ∷ []) ++ e ∷ []) ++ f ∷ []) ++ values) ++ g ∷ []) ++ changes ≡ ((nets ++ c ∷ d ∷ []) ++ (e ∷ f ∷ values ++ g ∷ [])) ++ changes
inner c d e f g [] values changes = refl
inner c d e f g (x ∷ nets) values changes = ap (λ l. x ∷ l) (inner c d e f g nets values changes)

regroup : (a b c d e f g : List ℕ) (nets values changes : List (List ℕ)) → (((((((((a ∷ []) ++ b ∷ []) ++ nets) ++ c ∷ []) ++ d ∷ []) ++ e ∷ []) ++ f ∷ []) ++ values) ++ g ∷ []) ++ changes ≡ ((a ∷ b ∷ nets ++ c ∷ d ∷ []) ++ (e ∷ f ∷ values ++ g ∷ [])) ++ changes
regroup a b c d e f g nets values changes = ap (λ l. a ∷ b ∷ l) (inner c d e f g nets values changes)

-- the whole text
pub whole-text : (a b c d e f g : List ℕ) (nets values changes : List (List ℕ)) → (((((((((([] ++ line a) ++ line b) ++ flat_map line nets) ++ line c) ++ line d) ++ line e) ++ line f) ++ flat_map line values) ++ line g) ++ flat_map line changes) ≡ flat_map line (((a ∷ b ∷ nets ++ c ∷ d ∷ []) ++ (e ∷ f ∷ values ++ g ∷ [])) ++ changes)
whole-text a b c d e f g nets values changes =
    let t1 = grow [] [] a refl in
    let t2 = grow ([] ++ line a) (a ∷ []) b t1 in
    let t3 = grow-all (([] ++ line a) ++ line b) ((a ∷ []) ++ b ∷ []) nets t2 in
    let t4 = grow _ (((a ∷ []) ++ b ∷ []) ++ nets) c t3 in
    let t5 = grow _ ((((a ∷ []) ++ b ∷ []) ++ nets) ++ c ∷ []) d t4 in
    let t6 = grow _ (((((a ∷ []) ++ b ∷ []) ++ nets) ++ c ∷ []) ++ d ∷ []) e t5 in
    let t7 = grow _ ((((((a ∷ []) ++ b ∷ []) ++ nets) ++ c ∷ []) ++ d ∷ []) ++ e ∷ []) f t6 in
    let t8 = grow-all _ (((((((a ∷ []) ++ b ∷ []) ++ nets) ++ c ∷ []) ++ d ∷ []) ++ e ∷ []) ++ f ∷ []) values t7 in
    let t9 = grow _ ((((((((a ∷ []) ++ b ∷ []) ++ nets) ++ c ∷ []) ++ d ∷ []) ++ e ∷ []) ++ f ∷ []) ++ values) g t8 in
    grow-all _ (((((((((a ∷ []) ++ b ∷ []) ++ nets) ++ c ∷ []) ++ d ∷ []) ++ e ∷ []) ++ f ∷ []) ++ values) ++ g ∷ []) changes t9
    ∙ ap (flat_map line) (regroup a b c d e f g nets values changes)
