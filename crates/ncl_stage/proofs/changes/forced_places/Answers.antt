use Rattle.ncl_stage.proofs.Terms.{Contains, Contains-from_Member, IsStage, List, Member, Member-append_left, Member-append_right, Member-get_or, Member-map, Rails, Some, StageCell, StageData, ap, both_rails, get_or, kept_low, length, net_at, nets_of, one-member, out_of, output_net, place_in, rail_nets, refl, slice_get, slice_get-get_or, slice_get_past, subst, sym, zero-member, ℕ, ◌<◌, ◌∙◌, ◌≡◌, ◌≤◌}
use Rattle.ncl_stage.proofs.Unvisited.{other-rail, other-output, place-within, some-net}
use Rattle.ncl_stage.proofs.changes.forced_places.Goals as goal

-- the rails of an input that is read are nets
rails-named : (s : StageData) (nets : List ℕ) → nets ≡ nets_of s.inputs s.cells → (bits : List Rails) → bits ≡ s.inputs → (bit : ℕ) (pair : Rails) → bit < length bits → pair ≡ get_or bits bit pair → Contains nets pair.zero.0 × Contains nets pair.one.0
rails-named s nets named bits same bit pair lt at =
    let within : bit < length s.inputs = subst (λ xs. bit < length xs) same lt in
    let is : pair ≡ get_or s.inputs bit pair = at ∙ ap (λ xs. get_or xs bit pair) same in
    let zero = subst (λ (r : Rails). Member r.zero.0 (rail_nets s.inputs)) (sym is) (zero-member s.inputs bit pair within) in
    let one = subst (λ (r : Rails). Member r.one.0 (rail_nets s.inputs)) (sym is) (one-member s.inputs bit pair within) in
    subst (λ nets. Contains nets pair.zero.0 × Contains nets pair.one.0) (sym named)
    (Contains-from_Member pair.zero.0 (Member-append_left pair.zero.0 _ zero), Contains-from_Member pair.one.0 (Member-append_left pair.one.0 _ one))

pub place_of-zero-requires : goal.place_of-zero-requires
place_of-zero-requires c = (rails-named c.args.stage.now c.args.wiring.now.nets c.requires.nets c.items.result.now (c.items.ensures ∙ ap (λ (t : StageData). t.inputs) c.stage.view_is) c.in-Bit.bit c.in-Some.pair.now c.in-Some.ensures.lookup.3.0 c.in-Some.ensures.lookup.1).0

pub place_of-one-requires : goal.place_of-one-requires
place_of-one-requires c = (rails-named c.args.stage.now c.args.wiring.now.nets c.requires.nets c.items.result.now (c.items.ensures ∙ ap (λ (t : StageData). t.inputs) c.stage.view_is) c.in-Bit.bit c.in-Some.pair.now c.in-Some.ensures.lookup.3.0 c.in-Some.ensures.lookup.1).1

pub place_of-place-requires : goal.place_of-place-requires
place_of-place-requires c =
    let s : StageData = c.args.stage.now in
    let i = c.in-Cell.cell in
    let cells : c.items-in-Cell.result.now ≡ s.cells = c.items-in-Cell.ensures ∙ ap (λ (t : StageData). t.cells) c.stage.view_is in
    let cell : StageCell = c.in-Some-get.cell.now in
    let lt : i < length s.cells = subst (λ xs. i < length xs) cells c.in-Some-get.ensures.lookup.3.0 in
    let at : cell ≡ get_or s.cells i cell = c.in-Some-get.ensures.lookup.1 ∙ ap (λ xs. get_or xs i cell) cells in
    subst (λ nets. Contains nets cell.out.0) (sym c.requires.nets)
    (Contains-from_Member cell.out.0 (Member-append_right (rail_nets s.inputs) cell.out.0 (Member-map out_of cell (subst (λ (x : StageCell). Member x s.cells) (sym at) (Member-get_or s.cells i cell lt)))))

pub returns-in-Some-clause-others : goal.returns-in-Some-clause-others
returns-in-Some-clause-others c = λ place lt low high.
    let s : StageData = c.args.stage.now in
    let bits : c.items.result.now ≡ s.inputs = c.items.ensures ∙ ap (λ (t : StageData). t.inputs) c.stage.view_is in
    let pair : Rails = c.in-Some.pair.now in
    let bit_lt : c.in-Bit.bit < length s.inputs = subst (λ xs. c.in-Bit.bit < length xs) bits c.in-Some.ensures.lookup.3.0 in
    let at : slice_get s.inputs c.in-Bit.bit ≡ Some pair = slice_get-get_or s.inputs c.in-Bit.bit pair bit_lt ∙ ap Some (sym (c.in-Some.ensures.lookup.1 ∙ ap (λ xs. get_or xs c.in-Bit.bit pair) bits)) in
    let zero_at : c.place_of-zero.result ≡ place_in (nets_of s.inputs s.cells) pair.zero.0 = c.place_of-zero.ensures ∙ ap (λ nets. place_in nets pair.zero.0) c.requires.nets in
    let one_at : c.place_of-one.result ≡ place_in (nets_of s.inputs s.cells) pair.one.0 = c.place_of-one.ensures ∙ ap (λ nets. place_in nets pair.one.0) c.requires.nets in
    ap (λ v. kept_low s v (net_at s place)) c.in-Bit.is
    ∙ ap (λ o. both_rails o (net_at s place)) at
    ∙ other-rail s c.facts.ensures pair place (subst (λ nets. place < length nets) c.requires.nets lt) (λ e. low (e ∙ sym zero_at)) (λ e. high (e ∙ sym one_at))

pub returns-in-Some-get-clause-others : goal.returns-in-Some-get-clause-others
returns-in-Some-get-clause-others c = λ place lt apart again.
    let s : StageData = c.args.stage.now in
    let i = c.in-Cell.cell in
    let cells : c.items-in-Cell.result.now ≡ s.cells = c.items-in-Cell.ensures ∙ ap (λ (t : StageData). t.cells) c.stage.view_is in
    let cell : StageCell = c.in-Some-get.cell.now in
    let cell_lt : i < length s.cells = subst (λ xs. i < length xs) cells c.in-Some-get.ensures.lookup.3.0 in
    let at : slice_get s.cells i ≡ Some cell = slice_get-get_or s.cells i cell cell_lt ∙ ap Some (sym (c.in-Some-get.ensures.lookup.1 ∙ ap (λ xs. get_or xs i cell) cells)) in
    let stands : c.place_of-place.result ≡ place_in (nets_of s.inputs s.cells) cell.out.0 = c.place_of-place.ensures ∙ ap (λ nets. place_in nets cell.out.0) c.requires.nets in
    ap (λ v. kept_low s v (net_at s place)) c.in-Cell.is
    ∙ ap (λ o. output_net o (net_at s place)) at
    ∙ other-output s c.facts.ensures cell.out.0 place (subst (λ nets. place < length nets) c.requires.nets lt) (λ e. apart (e ∙ sym stands))

pub returns-in-None-clause-others : goal.returns-in-None-clause-others
returns-in-None-clause-others c = λ place lt apart again.
    let s : StageData = c.args.stage.now in
    let bits : c.items.result.now ≡ s.inputs = c.items.ensures ∙ ap (λ (t : StageData). t.inputs) c.stage.view_is in
    ap (λ v. kept_low s v (net_at s place)) c.in-Bit.is
    ∙ ap (λ o. both_rails o (net_at s place)) (slice_get_past s.inputs c.in-Bit.bit (subst (λ xs. length xs ≤ c.in-Bit.bit) bits c.in-None.ensures.lookup.3))

pub returns-in-None-get-clause-others : goal.returns-in-None-get-clause-others
returns-in-None-get-clause-others c = λ place lt apart again.
    let s : StageData = c.args.stage.now in
    let cells : c.items-in-Cell.result.now ≡ s.cells = c.items-in-Cell.ensures ∙ ap (λ (t : StageData). t.cells) c.stage.view_is in
    ap (λ v. kept_low s v (net_at s place)) c.in-Cell.is
    ∙ ap (λ o. output_net o (net_at s place)) (slice_get_past s.cells c.in-Cell.cell (subst (λ xs. length xs ≤ c.in-Cell.cell) cells c.in-None-get.ensures.lookup.3))

-- there is a first net
first-net : (s : StageData) (nets : List ℕ) → nets ≡ nets_of s.inputs s.cells → IsStage s → (0 < length nets) × (0 < length nets)
first-net s nets named is =
    let some = subst (λ ns. 0 < length ns) (sym named) (some-net s is) in
    (some, some)

pub returns-in-Base-clause-within : goal.returns-in-Base-clause-within
returns-in-Base-clause-within c = first-net c.args.stage.now c.args.wiring.now.nets c.requires.nets c.facts.ensures

pub returns-in-None-clause-within : goal.returns-in-None-clause-within
returns-in-None-clause-within c = first-net c.args.stage.now c.args.wiring.now.nets c.requires.nets c.facts.ensures

pub returns-in-None-get-clause-within : goal.returns-in-None-get-clause-within
returns-in-None-get-clause-within c = first-net c.args.stage.now c.args.wiring.now.nets c.requires.nets c.facts.ensures

pub returns-in-Some-clause-within : goal.returns-in-Some-clause-within
returns-in-Some-clause-within c =
    let s : StageData = c.args.stage.now in
    let nets = c.args.wiring.now.nets in
    let bits : c.items.result.now ≡ s.inputs = c.items.ensures ∙ ap (λ (t : StageData). t.inputs) c.stage.view_is in
    let pair : Rails = c.in-Some.pair.now in
    let lt : c.in-Bit.bit < length s.inputs = subst (λ xs. c.in-Bit.bit < length xs) bits c.in-Some.ensures.lookup.3.0 in
    let at : pair ≡ get_or s.inputs c.in-Bit.bit pair = c.in-Some.ensures.lookup.1 ∙ ap (λ xs. get_or xs c.in-Bit.bit pair) bits in
    let stands : (net : ℕ) → Contains (nets_of s.inputs s.cells) net → place_in nets net < length nets = λ net has. subst (λ ns. place_in ns net < length ns) (sym c.requires.nets) (place-within s net has) in (
      subst (λ n. n < length nets) (sym c.place_of-zero.ensures) (stands pair.zero.0 (rails-named s (nets_of s.inputs s.cells) refl s.inputs refl c.in-Bit.bit pair lt at).0),
      subst (λ n. n < length nets) (sym c.place_of-one.ensures) (stands pair.one.0 (rails-named s (nets_of s.inputs s.cells) refl s.inputs refl c.in-Bit.bit pair lt at).1),
    )

pub returns-in-Base-clause-others : goal.returns-in-Base-clause-others
returns-in-Base-clause-others c = λ place lt apart again. ap (λ v. kept_low c.args.stage.now v (net_at c.args.stage.now place)) c.in-Base.is

pub returns-in-Some-get-clause-within : goal.returns-in-Some-get-clause-within
returns-in-Some-get-clause-within c =
    let s : StageData = c.args.stage.now in
    let i = c.in-Cell.cell in
    let cells : c.items-in-Cell.result.now ≡ s.cells = c.items-in-Cell.ensures ∙ ap (λ (t : StageData). t.cells) c.stage.view_is in
    let cell : StageCell = c.in-Some-get.cell.now in
    let lt : i < length s.cells = subst (λ xs. i < length xs) cells c.in-Some-get.ensures.lookup.3.0 in
    let at : cell ≡ get_or s.cells i cell = c.in-Some-get.ensures.lookup.1 ∙ ap (λ xs. get_or xs i cell) cells in
    let known = Contains-from_Member cell.out.0 (Member-append_right (rail_nets s.inputs) cell.out.0 (Member-map out_of cell (subst (λ (x : StageCell). Member x s.cells) (sym at) (Member-get_or s.cells i cell lt)))) in
    let own = subst (λ n. n < length c.args.wiring.now.nets) (sym c.place_of-place.ensures) (subst (λ ns. place_in ns cell.out.0 < length ns) (sym c.requires.nets) (place-within s cell.out.0 known)) in
    (own, own)
