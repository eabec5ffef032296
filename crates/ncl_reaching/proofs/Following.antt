-- A stage behind another: together they are a stage, and the back one has in it the values that it has at the word which the front
-- one makes.
use Rattle.ncl_reaching.proofs.Terms.{All, All-contains, All-from_members, AllPairs, AllPairs-append, AllPairs-cons, Base, Bool, BothRails, CanFollow, Contains, Contains-from_Member, Contains-from_slice_get, IsInOrder, IsOneRailed, IsStage, List, Member, Member-append_cases, Member-append_left, Member-append_right, Member-from_Contains, Member-map, NetId, Nets, NoRail, None, Option, Rails, Reads, Some, StageCell, StageData, Th22, Variant, [], all_data, among, among-from_member, ap, append_assoc, append_split, arith, arity_of, by_net, false, followed, follower, followers, gate-listed, get_or-map, get_or_from_slice_get, has_data, here, high-value, holds, holds_at, in_order, inl, inr, is_illegal, kept_low, length, length-map, list_all, map, map-append, map-same, member_of_map, named-has, named-only, named_rails, nets_of, no_rails, not, out_of, output-listed, outputs-listed, pairs-head, pairs-tail, pin_values, pin_values-same, rail-place, rail_at, rail_nets, refl, right-differ, same_from_both, same_from_lengths, set_of, shows, slice_get, slice_get_within, stage_function, subst, suc, sym, there, true, val, val-output, val-rail, value-high, zero, ℕ, ◌&&◌, ◌*◌, ◌++◌, ◌+◌, ◌<◌, ◌||◌, ◌∙◌, ◌∷◌, ◌≡◌, ◌≢◌}

-- ---- followers

-- the follower of a rail of some bits
pub record IsFollower (outputs rails : List Rails) (bit : ℕ) (r : Bool) (g : StageCell) : Type 0 where
  pub taken : NetId
  pub reads : g.ins.items ≡ taken ∷ taken ∷ []
  pub kind : g.kind ≡ Th22
  pub from : taken.0 ≡ rail_at outputs bit r
  pub out : out_of g ≡ rail_at rails bit r

-- the place of the follower of a rail
abbrev pub place_of : ℕ → Bool → ℕ
place_of bit false = 2 * bit
place_of bit true = 2 * bit + 1

pub followers-outs : (outputs rails : List Rails) → length outputs ≡ length rails → map out_of (followers outputs rails) ≡ rail_nets rails
followers-outs [] [] many = refl
followers-outs [] (r ∷ rails) many = absurd (omega (arith, many))
followers-outs (o ∷ outputs) [] many = absurd (omega (arith, many))
followers-outs (o ∷ outputs) (r ∷ rails) many = ap (λ nets. r.zero.0 ∷ r.one.0 ∷ nets) (followers-outs outputs rails (omega (arith, many)))

pub followers-many : (outputs rails : List Rails) → length outputs ≡ length rails → length (followers outputs rails) ≡ 2 * length rails
followers-many [] [] many = refl
followers-many [] (r ∷ rails) many = absurd (omega (arith, many))
followers-many (o ∷ outputs) [] many = absurd (omega (arith, many))
followers-many (o ∷ outputs) (r ∷ rails) many = let rest = followers-many outputs rails (omega (arith, many)) in omega (arith, rest)

pub follower-at : (outputs rails : List Rails) → length outputs ≡ length rails → (bit : ℕ) (r : Bool) → bit < length rails → (g : StageCell) × (slice_get (followers outputs rails) (place_of bit r) ≡ Some g) × IsFollower outputs rails bit r g
follower-at [] rails many bit r lt = absurd (omega (arith, many, lt))
follower-at (o ∷ outputs) [] many bit r lt = absurd (omega (arith, lt))
follower-at (o ∷ outputs) (x ∷ rails) many zero false lt = (follower o.zero x.zero, refl, record { taken = o.zero; reads = refl; kind = refl; from = refl; out = refl })
follower-at (o ∷ outputs) (x ∷ rails) many zero true lt = (follower o.one x.one, refl, record { taken = o.one; reads = refl; kind = refl; from = refl; out = refl })
follower-at (o ∷ outputs) (x ∷ rails) many (suc bit) r lt =
    let (g, at, is) = follower-at outputs rails (omega (arith, many)) bit r (omega (arith, lt)) in
    (g, ap (slice_get (followers (o ∷ outputs) (x ∷ rails))) (later bit r) ∙ at, record { taken = is.taken; reads = is.reads; kind = is.kind; from = is.from; out = is.out })
  where
    later : (bit : ℕ) (r : Bool) → place_of (suc bit) r ≡ suc (suc (place_of bit r))
    later bit false = omega arith
    later bit true = omega arith

pub follower-is : (outputs rails : List Rails) → length outputs ≡ length rails → (g : StageCell) → Member g (followers outputs rails) → (bit : ℕ) × (r : Bool) × (bit < length rails) × IsFollower outputs rails bit r g
follower-is [] rails many g m = elim m [ ]
follower-is (o ∷ outputs) [] many g m = elim m [ ]
follower-is (o ∷ outputs) (x ∷ rails) many g here = (0, false, omega arith, record { taken = o.zero; reads = refl; kind = refl; from = refl; out = refl })
follower-is (o ∷ outputs) (x ∷ rails) many g (there here) = (0, true, omega arith, record { taken = o.one; reads = refl; kind = refl; from = refl; out = refl })
follower-is (o ∷ outputs) (x ∷ rails) many g (there (there m)) =
    let (bit, r, lt, is) = follower-is outputs rails (omega (arith, many)) g m in
    (suc bit, r, omega (arith, lt), record { taken = is.taken; reads = is.reads; kind = is.kind; from = is.from; out = is.out })

-- ---- gates by their nets

pub by_net-outs : (gates : List StageCell) → map out_of (map by_net gates) ≡ map out_of gates
by_net-outs [] = refl
by_net-outs (g ∷ gates) = ap (λ xs. out_of g ∷ xs) (by_net-outs gates)

-- where they come in a list, the gates before them are by their nets too
by_net-split : (gates before after : List StageCell) (c : StageCell) → map by_net gates ≡ before ++ c ∷ after
    → (front : List StageCell) × (g : StageCell) × (back : List StageCell) × (gates ≡ front ++ g ∷ back) × (before ≡ map by_net front) × (by_net g ≡ c)
by_net-split [] [] after c e = absurd cc
by_net-split [] (b ∷ before) after c e = absurd cc
by_net-split (g ∷ gates) [] after c e = let same : by_net g ≡ c = cc in ([], g, gates, refl, refl, same)
by_net-split (g ∷ gates) (b ∷ before) after c e =
    let same : by_net g ≡ b = cc in
    let rest : map by_net gates ≡ before ++ c ∷ after = cc in
    let (front, h, back, parts, fronts, at) = by_net-split gates before after c rest in
    (g ∷ front, h, back, (λ i. g ∷ parts i), (λ i. sym same i ∷ fronts i), at)

-- gates that go by their nets differ where their nets do
by_nets-differ : (gates : List StageCell) → ((g : StageCell) → Member g gates → g.cell.0 ≡ out_of g) → AllPairs (λ x y. x ≢ y) (map out_of gates) → AllPairs (λ (x y : StageCell). x.cell.0 ≢ y.cell.0) gates
by_nets-differ [] own differ = λ i j d before within. absurd (omega (arith, within))
by_nets-differ (g ∷ gates) own differ =
    AllPairs-cons (λ (x y : StageCell). x.cell.0 ≢ y.cell.0) g gates
    (All-from_members (λ (y : StageCell). g.cell.0 ≢ y.cell.0) gates (λ y m e.
    pairs-head (λ a b. a ≢ b) (out_of g) (map out_of gates) differ (out_of y) (Member-map out_of y m) (sym (own g here) ∙ e ∙ own y (there m))))
    (by_nets-differ gates (λ y m. own y (there m)) (pairs-tail (λ a b. a ≢ b) (out_of g) (map out_of gates) differ))

-- a gate of two inputs that are one net
both-one : (high : Bool) → set_of Th22 (high ∷ high ∷ []) ≡ high
both-one true = refl
both-one false = refl

and-false : (b : Bool) → (b && false) ≡ false
and-false true = refl
and-false false = refl

module _ (front back : StageData) (can : CanFollow front back) where
  abbrev pub c : StageData
  c = followed front back

  abbrev joints : List StageCell
  joints = followers front.outputs back.inputs

  abbrev gates : List StageCell
  gates = map by_net back.cells

  abbrev front_nets : List ℕ
  front_nets = nets_of front.inputs front.cells

  abbrev back_nets : List ℕ
  back_nets = nets_of back.inputs back.cells

  -- ---- it is a stage

  pub nets-followed : nets_of c.inputs c.cells ≡ front_nets ++ back_nets
  nets-followed =
      ap (λ nets. rail_nets front.inputs ++ nets)
      (map-append out_of front.cells (joints ++ gates) ∙ ap (λ nets. map out_of front.cells ++ nets) (map-append out_of joints gates ∙ (λ i. followers-outs front.outputs back.inputs can.many i ++ by_net-outs back.cells i)))
      ∙ sym (append_assoc (rail_nets front.inputs) (map out_of front.cells) back_nets)

  pub by_nets-followed : (g : StageCell) → Member g c.cells → g.cell.0 ≡ out_of g
  by_nets-followed g m = elim (Member-append_cases g front.cells (joints ++ gates) m) [
    | inl first ↦ can.by_nets g first
    | inr later ↦ elim (Member-append_cases g joints gates later) [
      | inl joint ↦ joint-own front.outputs back.inputs g joint
      | inr own ↦ let (h, n, e) = member_of_map by_net back.cells g own in subst (λ (x : StageCell). x.cell.0 ≡ out_of x) e refl
    ]
  ]
    where
      joint-own : (outputs rails : List Rails) (g : StageCell) → Member g (followers outputs rails) → g.cell.0 ≡ out_of g
      joint-own [] rails g m = elim m [ ]
      joint-own (o ∷ outputs) [] g m = elim m [ ]
      joint-own (o ∷ outputs) (r ∷ rails) g here = refl
      joint-own (o ∷ outputs) (r ∷ rails) g (there here) = refl
      joint-own (o ∷ outputs) (r ∷ rails) g (there (there m)) = joint-own outputs rails g m

  joint-in : (g : StageCell) → Member g joints → Member g c.cells
  joint-in g m = Member-append_right front.cells g (Member-append_left g gates m)

  gate-in : (g : StageCell) → Member g back.cells → Member (by_net g) c.cells
  gate-in g m = Member-append_right front.cells (by_net g) (Member-append_right joints (by_net g) (Member-map by_net g m))

  differ : AllPairs (λ x y. x ≢ y) (nets_of c.inputs c.cells)
  differ =
      subst (AllPairs (λ x y. x ≢ y)) (sym nets-followed)
      (AllPairs-append (λ x y. x ≢ y) front_nets back_nets can.is_front.nets_differ can.is_back.nets_differ
      (λ x y in_front in_back e. can.apart x in_front (subst (λ z. Member z back_nets) (sym e) in_back)))

  arities : All (λ (g : StageCell). length g.ins.items ≡ arity_of g.kind) c.cells
  arities = All-from_members (λ (g : StageCell). length g.ins.items ≡ arity_of g.kind) c.cells (λ g m.
      elim (Member-append_cases g front.cells (joints ++ gates) m) [
        | inl first ↦ All-contains (λ (g : StageCell). length g.ins.items ≡ arity_of g.kind) front.cells g can.is_front.arities (Contains-from_Member g first)
        | inr later ↦ elim (Member-append_cases g joints gates later) [
          | inl joint ↦
              let (bit, r, lt, is) = follower-is front.outputs back.inputs can.many g joint in
              ap (λ (xs : List NetId). length xs) is.reads ∙ sym (ap arity_of is.kind)
          | inr own ↦
              let (h, n, e) = member_of_map by_net back.cells g own in
              subst (λ (x : StageCell). length x.ins.items ≡ arity_of x.kind) e
              (All-contains (λ (g : StageCell). length g.ins.items ≡ arity_of g.kind) back.cells h can.is_back.arities (Contains-from_Member h n))
        ]
      ])

  -- what is known before the gates of the back stage
  known-front : (more : List StageCell) (net : ℕ) → Member net front_nets → Member net (nets_of front.inputs (front.cells ++ more))
  known-front more net m =
      subst (Member net) (append_assoc (rail_nets front.inputs) (map out_of front.cells) (map out_of more) ∙ ap (λ nets. rail_nets front.inputs ++ nets) (sym (map-append out_of front.cells more)))
      (Member-append_left net (map out_of more) m)

  known-back : (some : List StageCell) (net : ℕ) → Member net (nets_of back.inputs some) → Member net (nets_of front.inputs (front.cells ++ (joints ++ map by_net some)))
  known-back some net m =
      subst (Member net) (ap (λ nets. rail_nets front.inputs ++ nets) (sym whole))
      (Member-append_right (rail_nets front.inputs) net (Member-append_right (map out_of front.cells) net m))
    where
      whole : map out_of (front.cells ++ (joints ++ map by_net some)) ≡ map out_of front.cells ++ nets_of back.inputs some
      whole =
          map-append out_of front.cells (joints ++ map by_net some)
          ∙ ap (λ nets. map out_of front.cells ++ nets) (map-append out_of joints (map by_net some) ∙ (λ i. followers-outs front.outputs back.inputs can.many i ++ by_net-outs some i))

  in-order : IsInOrder front.inputs c.cells
  in-order before after g parts = elim (append_split front.cells (joints ++ gates) before g after parts) [
    | inl (rest, cut) ↦ can.is_front.in_order before rest g cut
    | inr (mid, first, second) ↦ elim (append_split joints gates mid g after second) [
      | inl (rest, cut) ↦ of_joint mid first g (subst (Member g) (sym cut) (Member-append_right mid g here))
      | inr (more, third, own) ↦ of_gate more g after own (first ∙ ap (λ xs. front.cells ++ xs) third)
    ]
  ]
    where
      of_joint : (mid : List StageCell) → before ≡ front.cells ++ mid → (g : StageCell) → Member g joints → Reads (nets_of front.inputs before) g
      of_joint mid first g m =
          let (bit, r, lt, is) = follower-is front.outputs back.inputs can.many g m in
          let known : Member is.taken.0 (nets_of front.inputs before) =
          subst (λ xs. Member is.taken.0 (nets_of front.inputs xs)) (sym first)
          (known-front mid is.taken.0 (subst (λ x. Member x front_nets) (sym is.from) (output-listed can.is_front bit r (let many = can.many in omega (arith, lt, many))))) in
          subst (λ (ins : List NetId). All (λ net. Contains (nets_of front.inputs before) net.0) ins) (sym is.reads)
          (All-from_members (λ (net : NetId). Contains (nets_of front.inputs before) net.0) (is.taken ∷ is.taken ∷ []) (λ net n.
          Contains-from_Member net.0 (subst (λ (x : NetId). Member x.0 (nets_of front.inputs before)) (only is.taken net n) known)))
        where
          only : (taken net : NetId) → Member net (taken ∷ taken ∷ []) → taken ≡ net
          only taken net here = refl
          only taken net (there here) = refl
          only taken net (there (there m)) = elim m [ ]

      of_gate : (more : List StageCell) (g : StageCell) (after : List StageCell) → gates ≡ more ++ g ∷ after → before ≡ front.cells ++ (joints ++ more) → Reads (nets_of front.inputs before) g
      of_gate more g after own first =
          let (some, h, others, cut, same, is) = by_net-split back.cells more after g own in
          let reads = can.is_back.in_order some others h cut in
          subst (λ (x : StageCell). Reads (nets_of front.inputs before) x) is
          (All-from_members (λ (net : NetId). Contains (nets_of front.inputs before) net.0) h.ins.items (λ net n.
          Contains-from_Member net.0
          (subst (λ xs. Member net.0 (nets_of front.inputs xs)) (sym (first ∙ ap (λ xs. front.cells ++ (joints ++ xs)) same))
          (known-back some net.0 (Member-from_Contains (nets_of back.inputs some) net.0 (All-contains (λ (z : NetId). Contains (nets_of back.inputs some) z.0) h.ins.items net reads (Contains-from_Member net n)))))))

  pub followed-is_stage : IsStage c
  followed-is_stage = record {
    some_inputs = can.is_front.some_inputs;
    few_inputs = can.is_front.few_inputs;
    some_outputs = can.is_back.some_outputs;
    few_outputs = can.is_back.few_outputs;
    nets_differ = differ;
    cells_differ = by_nets-differ c.cells by_nets-followed (right-differ (rail_nets c.inputs) (map out_of c.cells) differ);
    arities = arities;
    in_order = in-order;
    outputs_known = All-from_members (Contains (nets_of c.inputs c.cells)) (rail_nets back.outputs) (λ net m.
        let known = Member-from_Contains back_nets net (All-contains (λ z. Contains back_nets z) (rail_nets back.outputs) net can.is_back.outputs_known (Contains-from_Member net m)) in
        Contains-from_Member net (subst (Member net) (sym nets-followed) (Member-append_right front_nets net known)));
  }

  -- ---- its values

  module _ (word : List Bool) (wide : length word ≡ length front.inputs) (one : IsOneRailed front word) where
    -- the word that the front stage makes
    abbrev pub made : List Bool
    made = stage_function front word

    pub made-wide : length made ≡ length back.inputs
    made-wide = length-map front.outputs (λ (r : Rails). val front word Base r.one.0) ∙ can.many

    -- the rails of the front stage's outputs are those that it names at the back stage
    handed : (bit : ℕ) (r : Bool) → bit < length back.inputs → val front word Base (rail_at front.outputs bit r) ≡ among (named_rails back.inputs made) (rail_at back.inputs bit r)
    handed bit r lt =
        let there_is : bit < length front.outputs = let many = can.many in omega (arith, lt, many) in
        same_from_both _ _
        (λ high.
        among-from_member _ (subst (λ q. Member (rail_at back.inputs bit q) (named_rails back.inputs made)) (sym (high-value front word one bit there_is r high)) (named-has back.inputs made made-wide bit lt)))
        (λ high.
        subst (λ q. val front word Base (rail_at front.outputs bit q) ≡ true) (sym (named-only back.inputs (map out_of back.cells) can.is_back.nets_differ made made-wide bit r lt high))
        (value-high front word one bit there_is))

    module _ (kept : Variant) (free : (net : ℕ) → Member net front_nets → kept_low c kept net ≡ false) where
      abbrev v : Nets
      v = val c word kept

      -- the front stage has its own values
      pub front-values : (net : ℕ) → Member net front_nets → v net ≡ val front word Base net
      front-values = in_order front can.is_front (λ net. v net ≡ val front word Base net)
          (λ net m.
          val-rail c followed-is_stage word kept net m
          ∙ ap (λ low. among (named_rails front.inputs word) net && not low) (free net (Member-append_left net (map out_of front.cells) m))
          ∙ sym (val-rail front can.is_front word Base net m))
          (λ g m reads.
          val-output c followed-is_stage word kept g (Member-append_left g (joints ++ gates) m)
          ∙ ap (λ low. not low && holds v g) (free (out_of g) (gate-listed front g m))
          ∙ ap (set_of g.kind) (pin_values-same v (val front word Base) g.ins.items reads)
          ∙ sym (val-output front can.is_front word Base g m))

      -- a rail of the back stage is high where the word names it and it isn't kept low
      pub joint-value : (bit : ℕ) (r : Bool) → bit < length back.inputs → v (rail_at back.inputs bit r) ≡ (not (kept_low c kept (rail_at back.inputs bit r)) && among (named_rails back.inputs made) (rail_at back.inputs bit r))
      joint-value bit r lt =
          let (g, at, is) = follower-at front.outputs back.inputs can.many bit r lt in
          let m : Member g joints = Member-from_Contains joints g (Contains-from_slice_get joints (place_of bit r) g at) in
          let listed : Member is.taken.0 front_nets = subst (λ x. Member x front_nets) (sym is.from) (output-listed can.is_front bit r (let many = can.many in omega (arith, lt, many))) in
          ap v (sym is.out)
          ∙ val-output c followed-is_stage word kept g (joint-in g m)
          ∙ ap (λ kind. not (kept_low c kept (out_of g)) && set_of kind (pin_values v g.ins.items)) is.kind
          ∙ ap (λ (ins : List NetId). not (kept_low c kept (out_of g)) && set_of Th22 (pin_values v ins)) is.reads
          ∙ ap (λ high. not (kept_low c kept (out_of g)) && high) (both-one (v is.taken.0) ∙ front-values is.taken.0 listed ∙ ap (val front word Base) is.from ∙ handed bit r lt)
          ∙ ap (λ x. not (kept_low c kept x) && among (named_rails back.inputs made) (rail_at back.inputs bit r)) is.out

      module _ (variant : Variant)
          (rails_low : (net : ℕ) → Member net (rail_nets back.inputs) → (not (kept_low c kept net) && among (named_rails back.inputs made) net) ≡ (among (named_rails back.inputs made) net && not (kept_low back variant net)))
          (gates_low : (g : StageCell) → Member g back.cells → kept_low c kept (out_of g) ≡ kept_low back variant (out_of g)) where
        -- the back stage has the values that it has at the word which the front stage makes
        pub back-values : (net : ℕ) → Member net back_nets → v net ≡ val back made variant net
        back-values = in_order back can.is_back (λ net. v net ≡ val back made variant net)
            (λ net m.
            let (bit, r, lt, e) = rail-place back.inputs net m in
            ap v e ∙ joint-value bit r lt
            ∙ ap (λ x. not (kept_low c kept x) && among (named_rails back.inputs made) x) (sym e)
            ∙ rails_low net m
            ∙ sym (val-rail back can.is_back made variant net m))
            (λ g m reads.
            val-output c followed-is_stage word kept (by_net g) (gate-in g m)
            ∙ ap (λ low. not low && holds v g) (gates_low g m)
            ∙ ap (λ pins. not (kept_low back variant (out_of g)) && set_of g.kind pins) (pin_values-same v (val back made variant) g.ins.items reads)
            ∙ sym (val-output back can.is_back made variant g m))

        pub output-data : (r : Rails) → Member r back.outputs → has_data v r ≡ has_data (val back made variant) r
        output-data r m =
            let (zero_in, one_in) = outputs-listed can.is_back r m in
            (λ i. back-values r.zero.0 zero_in i || back-values r.one.0 one_in i)

        pub data-followed : all_data c v ≡ all_data back (val back made variant)
        data-followed = go back.outputs (λ r m. m)
          where
            go : (bits : List Rails) → ((r : Rails) → Member r bits → Member r back.outputs) → list_all (has_data v) bits ≡ list_all (has_data (val back made variant)) bits
            go [] within = refl
            go (r ∷ bits) within = (λ i. output-data r (within r here) i && go bits (λ x m. within x (there m)) i)

    -- ---- under Base

    abbrev w : Nets
    w = val c word Base

    swap-true : (b : Bool) → (true && b) ≡ (b && true)
    swap-true true = refl
    swap-true false = refl

    pub base-values : (net : ℕ) → Member net back_nets → w net ≡ val back made Base net
    base-values = back-values Base (λ net m. refl) Base (λ net m. swap-true (among (named_rails back.inputs made) net)) (λ g m. refl)

    -- a test of two rails of an output
    output-same : (test : Nets → Rails → Bool) → ((r : Rails) → Member r back.outputs → test w r ≡ test (val back made Base) r) → (output : ℕ) → holds_at (test w) (slice_get back.outputs output) ≡ holds_at (test (val back made Base)) (slice_get back.outputs output)
    output-same test same output = go (slice_get back.outputs output) refl
      where
        go : (o : Option Rails) → slice_get back.outputs output ≡ o → holds_at (test w) o ≡ holds_at (test (val back made Base)) o
        go None at = refl
        go (Some r) at = same r (Member-from_Contains back.outputs r (Contains-from_slice_get back.outputs output r at))

    base-data : (r : Rails) → Member r back.outputs → has_data w r ≡ has_data (val back made Base) r
    base-data = output-data Base (λ net m. refl) Base (λ net m. swap-true (among (named_rails back.inputs made) net)) (λ g m. refl)

    base-illegal : (r : Rails) → Member r back.outputs → is_illegal w r ≡ is_illegal (val back made Base) r
    base-illegal r m =
        let (zero_in, one_in) = outputs-listed can.is_back r m in
        (λ i. base-values r.zero.0 zero_in i && base-values r.one.0 one_in i)

    pub shows-both : (output : ℕ) → shows c word (BothRails output) ≡ shows back made (BothRails output)
    shows-both output = output-same is_illegal base-illegal output

    pub shows-none : (output : ℕ) → shows c word (NoRail output) ≡ shows back made (NoRail output)
    shows-none output = output-same (λ u r. not (has_data u r)) (λ r m. ap not (base-data r m)) output

    -- it makes the word that the back stage makes of that of the front stage
    pub function-followed : stage_function c word ≡ stage_function back made
    function-followed = map-same (λ (r : Rails). w r.one.0) (λ (r : Rails). val back made Base r.one.0) back.outputs (λ r m. base-values r.one.0 (outputs-listed can.is_back r m).1)

    pub one-followed : IsOneRailed back made → IsOneRailed c word
    one-followed ones = record {
      some = λ r m. base-data r m ∙ ones.some r m;
      legal = λ r m. base-illegal r m ∙ ones.legal r m;
    }

    -- its rails have the bits of that word
    pub rail-value : (bit : ℕ) (r : Bool) → bit < length back.inputs → w (rail_at back.inputs bit r) ≡ among (named_rails back.inputs made) (rail_at back.inputs bit r)
    rail-value bit r lt = joint-value Base (λ net m. refl) bit r lt

    -- so the word on them is that word
    pub word-followed : map (λ (r : Rails). w r.one.0) back.inputs ≡ made
    word-followed = same_from_lengths (map (λ (r : Rails). w r.one.0) back.inputs) made (length-map back.inputs (λ (r : Rails). w r.one.0) ∙ sym made-wide)
        (λ bit x y at_x at_y.
        let within : bit < length made = slice_get_within made bit y at_y in
        let lt : bit < length back.inputs = let long = made-wide in omega (arith, within, long) in
        let there_is : bit < length front.outputs = let many = can.many in omega (arith, lt, many) in
        sym (get_or_from_slice_get (map (λ (r : Rails). w r.one.0) back.inputs) bit x false at_x)
        ∙ get_or-map (λ (r : Rails). w r.one.0) back.inputs bit no_rails false lt
        ∙ rail-value bit true lt ∙ sym (handed bit true lt)
        ∙ sym (get_or-map (λ (r : Rails). val front word Base r.one.0) front.outputs bit no_rails false there_is)
        ∙ get_or_from_slice_get made bit y false at_y)
