-- The numbers of signals that go by names.
use Rattle.ncl_blif.proofs.Terms.{All, AllByRecursion, Bool, Contains, Contains-append_right, Contains-get_or, Cover, IsDistinct, IsDistinct-cons, IsDistinct-from_apart, List, NamedCover, NamedModel, NamedOutput, None, Option, Some, [], ap, apart_from_distinct, arith, bytes_eq, drivers_of, false, find, get_or, get_or-append-add, get_or-map, has_twins, is_driven, length, length-append, length-map, lesser, list_any, list_any-from_Contains, map, nat_list_eq_equiv, not, not-false, numbered_cover, numbered_model, option_map, or_parts, position_or_len, position_or_len_is, reads_undriven, refl, signal_number, subst, sym, true, undriven_line, ℕ, ◌+◌, ◌<◌, ◌∙◌, ◌∷◌, ◌≡◌}
use Rattle.ncl_blif.proofs.Anys.{find-none}
use Rattle.ncl_blif.proofs.DependenceLaws.{OutsDiffer, out_at}

-- what a list of covers gives past its end
abbrev pub no_cover : NamedCover
no_cover = record { line = 0; ins = []; out = []; on = true; rows = [] }

abbrev pub no_numbers : Cover
no_numbers = record { ins = []; out = 0; on = true; rows = [] }

-- the number of a driver is its place
pub number-driver : (names : List (List ℕ)) → IsDistinct bytes_eq names → (i : ℕ) (d : List ℕ) → i < length names → position_or_len (bytes_eq (get_or names i d)) names ≡ i
number-driver names differ i d within =
    let same = nat_list_eq_equiv in
    position_or_len_is (bytes_eq (get_or names i d)) names i d (omega arith)
    (λ k lower. same.symm (get_or names i d) (get_or names k d) ∙ apart_from_distinct bytes_eq names k i d differ lower within)
    (λ _. same.refl (get_or names i d))

-- the names that the covers drive
abbrev outs : NamedModel → List (List ℕ)
outs model = map (λ cover. cover.out) model.covers

-- the number of what the cover at a place drives stands after those of the inputs
pub number-out : (model : NamedModel) → IsDistinct bytes_eq (drivers_of model) → (k : ℕ) (d : NamedCover) → k < length model.covers → signal_number model (get_or model.covers k d).out ≡ length model.inputs + k
number-out model differ k d within =
    let drivers = drivers_of model in
    let at : get_or drivers (length model.inputs + k) d.out ≡ (get_or model.covers k d).out =
    get_or-append-add model.inputs (outs model) k d.out ∙ get_or-map (λ (cover : NamedCover). cover.out) model.covers k d d.out within in
    let many : length drivers ≡ length model.inputs + length model.covers =
    length-append model.inputs (outs model) ∙ ap (λ n. length model.inputs + n) (length-map model.covers (λ (cover : NamedCover). cover.out)) in
    ap (λ name. signal_number model name) (sym at) ∙ number-driver drivers differ (length model.inputs + k) d.out (omega arith)

-- what the numbered cover at a place drives
pub out-numbered : (model : NamedModel) → IsDistinct bytes_eq (drivers_of model) → (k : ℕ) (d : Cover) (e : NamedCover) → k < length model.covers
    → out_at (numbered_model model).covers k d ≡ length model.inputs + k
out-numbered model differ k d e within =
    ap (λ (cover : Cover). cover.out) (get_or-map (numbered_cover model) model.covers k e d within) ∙ number-out model differ k e within

-- no two numbered covers drive one signal
pub OutsDiffer-numbered : (model : NamedModel) → IsDistinct bytes_eq (drivers_of model) → OutsDiffer (numbered_model model).covers
OutsDiffer-numbered model differ i j d i_in j_in same =
    let many : length (numbered_model model).covers ≡ length model.covers = length-map model.covers (numbered_cover model) in
    omega (arith, sym (out-numbered model differ i d no_cover (omega arith)) ∙ same ∙ out-numbered model differ j d no_cover (omega arith))

-- what a cover drives has a driver
pub own_driven : (model : NamedModel) (k : ℕ) (d : NamedCover) → k < length model.covers → is_driven model (get_or model.covers k d).out ≡ true
own_driven model k d within =
    let out = (get_or model.covers k d).out in
    let here : get_or (outs model) k d.out ≡ out = get_or-map (λ (cover : NamedCover). cover.out) model.covers k d d.out within in
    let many : length (outs model) ≡ length model.covers = length-map model.covers (λ (cover : NamedCover). cover.out) in
    let among : Contains (outs model) out = subst (Contains (outs model)) here (Contains-get_or (outs model) k d.out (omega arith)) in
    list_any-from_Contains nat_list_eq_equiv out (drivers_of model) (Contains-append_right model.inputs (outs model) out among)

lesser_missing : (a b : Option ℕ) → lesser a b ≡ None → (a ≡ None) × (b ≡ None)
lesser_missing None b h = (refl, h)
lesser_missing (Some x) None h = absurd cc
lesser_missing (Some x) (Some y) h = absurd cc

mapped_missing : {X : Type 0} (f : X → ℕ) (o : Option X) → option_map f o ≡ None → o ≡ None
mapped_missing f None h = refl
mapped_missing f (Some x) h = absurd cc

both_missing : (model : NamedModel) → undriven_line model ≡ None
    → (find (λ output. not (is_driven model output.signal)) model.outputs ≡ None) × (find (reads_undriven model) model.covers ≡ None)
both_missing model none =
    let (a, b) = lesser_missing _ _ none in (mapped_missing _ _ a, mapped_missing _ _ b)

-- where no line reads a signal without a driver, each output and each signal of a cover has one
pub outputs_driven : (model : NamedModel) → undriven_line model ≡ None → All (λ output. is_driven model output.signal ≡ true) model.outputs
outputs_driven model none k d within =
    let undriven : NamedOutput → Bool = λ output. not (is_driven model output.signal) in
    not-false (is_driven model (get_or model.outputs k d).signal) (find-none undriven model.outputs (both_missing model none).0 k d within)

pub covers_driven : (model : NamedModel) → undriven_line model ≡ None → All (λ cover. reads_undriven model cover ≡ false) model.covers
covers_driven model none k d within = find-none (reads_undriven model) model.covers (both_missing model none).1 k d within

fails_each : (x : List ℕ) (xs : List (List ℕ)) → list_any (bytes_eq x) xs ≡ false → AllByRecursion (λ y. bytes_eq x y ≡ false) xs
fails_each x [] h = tt
fails_each x (y ∷ ys) h = ((or_parts (bytes_eq x y) (list_any (bytes_eq x) ys) h).0, fails_each x ys (or_parts (bytes_eq x y) (list_any (bytes_eq x) ys) h).1)

-- names of which none stands twice differ
pub twins_differ : (names : List (List ℕ)) → has_twins names ≡ false → IsDistinct bytes_eq names
twins_differ [] h = IsDistinct-from_apart bytes_eq [] (λ i j d lower within. absurd (omega arith))
twins_differ (x ∷ xs) h =
    let (here, later) = or_parts (list_any (bytes_eq x) xs) (has_twins xs) h in
    IsDistinct-cons bytes_eq x xs (fails_each x xs here) (twins_differ xs later)
