-- Products under frames: a frame more, and one less.
use Rattle.ncl_decomp.proofs.Terms.{AddsSum, Frame, IsSameSum, List, Node, Signal, [], ap, append-nil, arith, is_empty, length, length-append, list_any, refl, subst, sum_by, sum_by-append, sum_by_push, sym, total, true, under, whole, ℕ, ◌*◌, ◌++◌, ◌+◌, ◌<◌, ◌∙◌, ◌∷◌, ◌≡◌, ◌≤◌}
use Rattle.ncl_decomp.proofs.Sums.{AddsSum-same, AddsSum-then, AddsSum-under, AddsSum-whole, AddsSum-always, under_total, whole_push, whole_room}

pub AddsSum-parted : (given sum others rests : List (List Signal)) (before nodes : List Node) (frames longer : List Frame) (frame : Frame) → AddsSum given before nodes (whole frames sum) → IsSameSum sum (others ++ under frame.literal rests) → frame.others ≡ others → longer ≡ frames ++ frame ∷ [] → AddsSum given before nodes (whole longer rests)
AddsSum-parted given sum others rests before nodes frames longer frame so_far same is pushed =
    let parts : List (List Signal) = frame.others ++ under frame.literal rests in
    let step : AddsSum (whole frames sum) nodes nodes (whole frames parts) =
    AddsSum-whole frames sum parts nodes nodes (AddsSum-same nodes sum parts (subst (λ others. IsSameSum sum (others ++ under frame.literal rests)) (sym is) same)) in
    subst (AddsSum given before nodes) (sym (ap (λ frames. whole frames rests) pushed ∙ whole_push frames frame rests))
    (AddsSum-then given (whole frames sum) (whole frames parts) before nodes nodes so_far step)

pub AddsSum-closed : (given sum new : List (List Signal)) (before nodes after : List Node) (frames rest : List Frame) (frame : Frame) → AddsSum given before nodes (whole frames sum) → frames ≡ rest ++ frame ∷ [] → AddsSum (frame.others ++ under frame.literal sum) nodes after new → AddsSum given before after (whole rest new)
AddsSum-closed given sum new before nodes after frames rest frame so_far popped closed =
    let parts : List (List Signal) = frame.others ++ under frame.literal sum in
    AddsSum-then given (whole rest parts) (whole rest new) before nodes after
    (subst (AddsSum given before nodes) (ap (λ frames. whole frames sum) popped ∙ whole_push rest frame sum) so_far)
    (AddsSum-whole rest parts new nodes after closed)

-- there is room for the nodes of what is under frames
pub frames_room : (given sum : List (List Signal)) (before nodes : List Node) (frames : List Frame) → AddsSum given before nodes (whole frames sum) → length nodes + total sum ≤ length before + total given
frames_room given sum before nodes frames so_far =
    omega (arith, ap length so_far.added, length-append before so_far.made, so_far.few, whole_room frames sum)

-- what is under a signal becomes one product
pub AddsSum-inner : (literal signal : Signal) (sum : List (List Signal)) (before after : List Node) → AddsSum sum before after ((signal ∷ []) ∷ []) → AddsSum (under literal sum) before after ((literal ∷ signal ∷ []) ∷ [])
AddsSum-inner literal signal sum before after adds = AddsSum-under literal sum ((signal ∷ []) ∷ []) before after adds

pub AddsSum-alone : (literal : Signal) (sum : List (List Signal)) (before : List Node) → 0 < length sum → list_any is_empty sum ≡ true → AddsSum (under literal sum) before before ((literal ∷ []) ∷ [])
AddsSum-alone literal sum before some empty = AddsSum-under literal sum ([] ∷ []) before before (AddsSum-always before sum some empty)

-- no frame, and nothing done
pub AddsSum-start : (sum : List (List Signal)) (before : List Node) (frames : List Frame) → frames ≡ [] → AddsSum sum before before (whole frames sum)
AddsSum-start sum before frames none =
    subst (λ frames. AddsSum sum before before (whole frames sum)) (sym none)
    (AddsSum-same before sum sum (record { as_many = refl; few = omega arith; filled = λ filled. filled; varying = λ inputs count varying. varying; same = λ test. refl }))

-- nothing is under a signal
pub AddsSum-empty : (literal : Signal) (others sum : List (List Signal)) (before : List Node) → length sum ≡ 0 → AddsSum (others ++ under literal sum) before before others
AddsSum-empty literal others [] before none =
    subst (λ sum. AddsSum sum before before others) (sym (append-nil others)) (AddsSum-start others before [] refl)
AddsSum-empty literal others (product ∷ sum) before none = absurd (omega (arith, none))

-- ---- fewer signals are left at each turn

-- the signals that are left twice, and three for each frame, since closing one puts one signal back at most
abbrev pub left_over : List (List Signal) → List Frame → ℕ
left_over sum frames = 2 * (total sum + sum_by (λ frame. total frame.others) frames) + 3 * length frames

framed : (frames longer : List Frame) (frame : Frame) → longer ≡ frames ++ frame ∷ [] → (sum_by (λ (f : Frame). total f.others) longer ≡ sum_by (λ (f : Frame). total f.others) frames + total frame.others) × (length longer ≡ length frames + 1)
framed frames longer frame pushed = (
  ap (λ fs. sum_by (λ (f : Frame). total f.others) fs) pushed ∙ sum_by_push (λ (f : Frame). total f.others) frames frame,
  let long = ap length pushed in let both = length-append frames (frame ∷ []) in omega (arith, long, both),
)

-- two products at least lose a signal that is taken out
pub parted_less : (literal : Signal) (sum others rests : List (List Signal)) (frames longer : List Frame) (frame : Frame) → IsSameSum sum (others ++ under literal rests) → 2 ≤ length rests → frame.others ≡ others → longer ≡ frames ++ frame ∷ [] → left_over rests longer < left_over sum frames
parted_less literal sum others rests frames longer frame same two is pushed =
    let (totals, lengths) = framed frames longer frame pushed in
    let parts = sum_by-append (λ (product : List Signal). length product) others (under literal rests) in
    let few = same.few in
    let kept = ap total is in
    let inner = under_total literal rests in
    omega (arith, few, parts, inner, two, kept, totals, lengths)

-- and a frame that is closed gives one back at most
pub closed_less : (sum new : List (List Signal)) (frames rest : List Frame) (frame : Frame) → frames ≡ rest ++ frame ∷ [] → total new ≤ total frame.others + total sum + 1 → left_over new rest < left_over sum frames
closed_less sum new frames rest frame popped short =
    let (totals, lengths) = framed rest frames frame popped in
    omega (arith, short, totals, lengths)
