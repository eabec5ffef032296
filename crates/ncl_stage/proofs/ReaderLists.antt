-- Which cells read a net, one cell after another.
use Rattle.ncl_stage.proofs.Terms.{All, All-map, Contains, Grows, IfOk, IfOk-weaker, IsStage, IsWiring, List, NetId, Result, StageData, WiringData, [], ap, arith, cases_lt, from_push, get_or, inl, inr, length, length-map, map, nets_of, items_at, pin_places, place_in, reads-within, subst, sym, take, take_more, ℕ, ◌+◌, ◌<◌, ◌∙◌, ◌≡◌, ◌≤◌}
use Rattle.ncl_stage.proofs.ChangedLaws.{nets-length}
use Rattle.ncl_stage.proofs.PlaceLaws.{place_in-at}

-- nets up to a place have the reader, and so one more
pub nets-next : (count : ℕ) (lists new : List (List ℕ)) (nets : List ℕ) (i reader d : ℕ) → i < length nets → Grows count lists new → Contains (items_at new (get_or nets i d)) reader → ((net : ℕ) → Contains (take i nets) net → Contains (items_at lists net) reader) → (net : ℕ) → Contains (take (i + 1) nets) net → Contains (items_at new net) reader
nets-next count lists new nets i reader d lt grows now before net has =
    elim (from_push (take i nets) (get_or nets i d) net (subst (λ ns. Contains ns net) (take_more nets i d lt) has)) [
      | inl earlier ↦ grows.kept net reader (before net earlier)
      | inr same ↦ subst (λ n. Contains (items_at new n) reader) same now
    ]

-- the cells so far are readers of what they read, and so is one more
pub each-next : (count rails : ℕ) (pins lists new : List (List ℕ)) (i : ℕ) → Grows count lists new → ((net : ℕ) → Contains (get_or pins i []) net → Contains (items_at new net) (rails + i)) → ((cell net : ℕ) → cell < i → Contains (get_or pins cell []) net → Contains (items_at lists net) (rails + cell)) → (cell net : ℕ) → cell < i + 1 → Contains (get_or pins cell []) net → Contains (items_at new net) (rails + cell)
each-next count rails pins lists new i grows now before cell net lt reads =
    elim (cases_lt cell i) [
      | inl earlier ↦ grows.kept net (rails + cell) (before cell net earlier reads)
      | inr later ↦
          let at : i ≡ cell = omega (arith, lt, later) in
          subst (λ n. Contains (items_at new net) (rails + n)) at (now net (subst (λ n. Contains (get_or pins n []) net) (sym at) reads))
    ]

-- what the cells of a stage read are its nets, and it has a net for each cell
pub pins-within : (s : StageData) → IsStage s → (nets : List ℕ) → nets ≡ nets_of s.inputs s.cells → (pins : List (List ℕ)) → pins ≡ map (pin_places nets) s.cells → All (All (λ place. place < length nets)) pins
pins-within s is nets named pins placed =
    subst (All (All (λ place. place < length nets))) (sym placed)
    (All-map (All (λ place. place < length nets)) (pin_places nets) s.cells (λ i d lt.
    All-map (λ place. place < length nets) (λ (net : NetId). place_in nets net.0) (get_or s.cells i d).ins.items (λ k e within.
    (place_in-at nets _ (subst (λ l. Contains l (get_or (get_or s.cells i d).ins.items k e).0) (sym named) (reads-within s is i d lt k e within))).0)))

pub few-pins : {X : Type 0} (s : StageData) (nets : List ℕ) → nets ≡ nets_of s.inputs s.cells → (pins : List X) (items : X → List ℕ) → map items pins ≡ map (pin_places nets) s.cells → length pins ≤ length nets
few-pins s nets named pins items placed =
    let many = nets-length s in
    let cells : length pins ≡ length s.cells = sym (length-map pins items) ∙ ap length placed ∙ length-map s.cells (pin_places nets) in
    omega (arith, many, cells, ap length named)

-- what is made is the wiring where its parts are
pub wired : {E : Type 0} (s : StageData) (made : Result WiringData E) (parts : WiringData) → IfOk made (λ w. w ≡ parts) → IsWiring s parts → IfOk made (IsWiring s)
wired s made parts is wiring = IfOk-weaker made (λ w. w ≡ parts) (IsWiring s) (λ w same. subst (IsWiring s) (sym same) wiring) is
