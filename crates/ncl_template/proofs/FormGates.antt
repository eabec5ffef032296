-- The gates of a form as a template.
use Rattle.ncl_template.proofs.Terms.{AddsAmong, AddsForm, AddsInner, AddsTemplate, AreInner, Bool, Contains, Contains-from_Member, Fits, FitsAt, Form, FormGate, FormPin, Inner, IsCase, IsFormGate, IsFormPin, IsFormed, IsGateOf, IsNull, IsTemplate, List, Member, Member-append_cases, Member-append_left, Member-append_right, Member-from_Contains, Member-map, NetId, Nets, Obeys, One, Rails, ShowWord, StageCell, Zero, [], ap, append-nil, append_assoc, arith, arity_of, both_ways, cases_lt, cost_of_inputs, eqb-true, false, false_from_ne_true, gate_bit, get_or, get_or_append_left, get_or_push, here, holds, inl, inner_bits, inr, length, length-append, length-map, length_push, map, member_of_map, more, nat_eq, no_net, no_pair, none, not, out_of, pin_net, pin_values, rail_nets, refl, set_of, subst, suc, sym, there, true, true_from_ne_false, zero, ℕ, ◌&&◌, ◌++◌, ◌+◌, ◌<◌, ◌∙◌, ◌∷◌, ◌≡◌, ◌≤◌}
use Rattle.ncl_template.proofs.Leaves.{IsLeaf, ShowWord-length, low_from_unset, template_of_leaves}
use Rattle.ncl_template.proofs.InOrder.{AreInOrder, in_order-append, arities-in_order, IsInOrder-from}
use Rattle.ncl_template.proofs.AmongLaws.{obeys_part, case_part, made_in, AddsAmong-from}
use Rattle.ncl_template.proofs.FormLaws.{not_same, asked, asked_up, pins_shown, pins_unset, all_pins}

-- ---- the inner gates

-- the gates below the rails, whose nets have these bits: where the inputs show a word, but the one at a place is NULL, and
-- the gate at a place is low, if there are such
record IsUnder (ins : List Rails) (bits : List Bool → ℕ → ℕ → List Bool) (under : List StageCell) (nets : List NetId) : Type 0 where
  wide : (word : List Bool) (null low : ℕ) → length (bits word null low) ≡ length nets
  high : (base : Nets) (word : List Bool) → Obeys base under → ShowWord base ins word → (low : ℕ) → length nets ≤ low → (k : ℕ) → k < length nets → base (get_or nets k no_net).0 ≡ get_or (bits word (length word) low) k false
  rises : (base v : Nets) (word : List Bool) → IsCase base v ins under word → (null : ℕ) → (null < length ins → IsNull v (get_or ins null no_pair)) → (low : ℕ) → (low < length nets → v (get_or nets low no_net).0 ≡ false) → (k : ℕ) → k < length nets → v (get_or nets k no_net).0 ≡ true → get_or (bits word null low) k false ≡ true
  only : (c : StageCell) → Contains under c → (k : ℕ) × (k < length nets) × (out_of c ≡ (get_or nets k no_net).0)
  known : (k : ℕ) → k < length nets → Member (get_or nets k no_net).0 (map out_of under)
  order : AreInOrder (rail_nets ins) under

rail_known : (ins : List Rails) (k : ℕ) → k < length ins → Member (get_or ins k no_pair).zero.0 (rail_nets ins) × Member (get_or ins k no_pair).one.0 (rail_nets ins)
rail_known [] k lt = absurd (omega (arith, lt))
rail_known (r ∷ ins) zero lt = (here, there here)
rail_known (r ∷ ins) (suc k) lt = let (first, second) = rail_known ins k (omega (arith, lt)) in (there (there first), there (there second))

module _ (ins : List Rails) (nets : List NetId) (gate : FormGate) (c : StageCell) (is : IsGateOf ins nets gate c) (count : ℕ) (of : IsFormGate (length ins) count gate) where
  gate_arity : length c.ins.items ≡ arity_of c.kind
  gate_arity = ap length is.ins_are ∙ length-map gate.pins.items (pin_net ins nets) ∙ of.arity ∙ ap arity_of (sym is.kind)

  gate_reads : (known : List ℕ) → ((n : ℕ) → Member n (rail_nets ins) → Member n known) → ((k : ℕ) → k < count → Member (get_or nets k no_net).0 known) → (n : NetId) → Member n c.ins.items → Member n.0 known
  gate_reads known rails inner n m =
      let (p, among, at) = member_of_map (pin_net ins nets) gate.pins.items n (subst (Member n) is.ins_are m) in
      subst (λ (x : NetId). Member x.0 known) at (pin p (all_pins (length ins) count gate of p among))
    where
      pin : (p : FormPin) → IsFormPin (length ins) count p → Member (pin_net ins nets p).0 known
      pin (Zero k) lt = rails (get_or ins k no_pair).zero.0 (rail_known ins k lt).0
      pin (One k) lt = rails (get_or ins k no_pair).one.0 (rail_known ins k lt).1
      pin (Inner k) lt = inner k lt

no_under : (ins : List Rails) → IsUnder ins (λ word null low. []) [] []
no_under ins = record {
  wide = λ word null low. refl;
  high = λ base word obeys shown low past k lt. absurd (omega (arith, lt));
  rises = λ base v word case null is low down k lt up. absurd (omega (arith, lt));
  only = λ c m. elim (Member-from_Contains [] c m) [ ];
  known = λ k lt. absurd (omega (arith, lt));
  order = tt;
}

-- what holds at each place holds at one more
by_place : (P : ℕ → Type 0) (count : ℕ) → ((k : ℕ) → k < count → P k) → P count → (k : ℕ) → k < count + 1 → P k
by_place P count each last k lt =
    elim (cases_lt k count) [
      | inl early ↦ each k early
      | inr past ↦ subst P (let same : count ≡ k = omega (arith, past, lt) in same) last
    ]

module _ (ins : List Rails) (bits : List Bool → ℕ → ℕ → List Bool) (under : List StageCell) (nets : List NetId) (is : IsUnder ins bits under nets) (gate : FormGate) (c : StageCell) (gate_is : IsGateOf ins nets gate c) (fit : IsFormGate (length ins) (length nets) gate) where
  pins_are : (p : FormPin) → Member p gate.pins.items → IsFormPin (length ins) (length nets) p
  pins_are = all_pins (length ins) (length nets) gate fit

  abbrev new_bit : List Bool → ℕ → ℕ → Bool
  new_bit word null low = not (nat_eq (length (bits word null low)) low) && gate_bit word null (bits word null low) gate

  abbrev more_bits : List Bool → ℕ → ℕ → List Bool
  more_bits word null low = bits word null low ++ new_bit word null low ∷ []

  abbrev nets_more : List NetId
  nets_more = nets ++ c.out ∷ []

  abbrev all_more : List StageCell
  all_more = under ++ c ∷ []

  -- the nets and bits at the places before, and at the last
  net_before : (k : ℕ) → k < length nets → get_or nets_more k no_net ≡ get_or nets k no_net
  net_before k lt = get_or_append_left nets (c.out ∷ []) no_net k lt

  net_last : get_or nets_more (length nets) no_net ≡ c.out
  net_last = get_or_push nets c.out no_net (length nets) refl

  bit_before : (word : List Bool) (null low k : ℕ) → k < length nets → get_or (more_bits word null low) k false ≡ get_or (bits word null low) k false
  bit_before word null low k lt = get_or_append_left (bits word null low) (new_bit word null low ∷ []) false k (omega (arith, lt, is.wide word null low))

  bit_last : (word : List Bool) (null low : ℕ) → get_or (more_bits word null low) (length nets) false ≡ new_bit word null low
  bit_last word null low = get_or_push (bits word null low) (new_bit word null low) false (length nets) (is.wide word null low)

  under_in : (g : StageCell) → Contains under g → Contains all_more g
  under_in g m = Contains-from_Member g (Member-append_left g (c ∷ []) (Member-from_Contains under g m))

  c_in : Contains all_more c
  c_in = let first : Member c (c ∷ []) = here in Contains-from_Member c (Member-append_right under c first)

  last_high : (base : Nets) (word : List Bool) → Obeys base all_more → ShowWord base ins word → (low : ℕ) → length nets + 1 ≤ low → base c.out.0 ≡ new_bit word (length word) low
  last_high base word obeys shown low past =
      obeys.each c c_in
      ∙ asked (nat_eq (length (bits word (length word) low)) low) _ _ (not_same _ low (omega (arith, past, is.wide word (length word) low)))
      ((λ i. set_of (gate_is.kind i) (pin_values base (gate_is.ins_are i)))
      ∙ ap (set_of gate.kind) (pins_shown ins word nets base shown (bits word (length word) low) (length nets) (is.high base word (obeys_part all_more under under_in base obeys) shown low (omega (arith, past))) gate.pins.items pins_are))

  last_rises : (base v : Nets) (word : List Bool) → IsCase base v ins all_more word → (null : ℕ) → (null < length ins → IsNull v (get_or ins null no_pair)) → (low : ℕ) → (low < length nets_more → v (get_or nets_more low no_net).0 ≡ false) → v c.out.0 ≡ true → new_bit word null low ≡ true
  last_rises base v word case null null_is low down up =
      let before : (k : ℕ) → k < length nets → v (get_or nets k no_net).0 ≡ true → get_or (bits word null low) k false ≡ true =
      is.rises base v word (case_part all_more under under_in base v ins word case) null null_is low (λ lt. sym (ap (λ (n : NetId). v n.0) (net_before low lt)) ∙ down (omega (arith, lt, length_push nets c.out))) in
      asked_up (nat_eq (length (bits word null low)) low) _
      (false_from_ne_true _ (λ same.
      let at : length nets ≡ low = sym (is.wide word null low) ∙ eqb-true (length (bits word null low)) low same in
      both_ways (v c.out.0) (sym (ap (λ (n : NetId). v n.0) (subst (λ k. get_or nets_more k no_net ≡ c.out) at net_last)) ∙ down (omega (arith, at, length_push nets c.out))) up))
      (true_from_ne_false _ (λ unset.
      both_ways (v c.out.0) (low_from_unset v c (case.supported.each c c_in) (pins_unset ins word nets base v case.below case.shown null null_is (bits word null low) (length nets) before gate c gate_is pins_are unset)) up))

  one_more : IsUnder ins more_bits all_more nets_more
  one_more = record {
    wide = λ word null low. length_push (bits word null low) (new_bit word null low) ∙ ap (λ n. n + 1) (is.wide word null low) ∙ sym (length_push nets c.out);
    high = λ base word obeys shown low past k lt.
        by_place (λ k. base (get_or nets_more k no_net).0 ≡ get_or (more_bits word (length word) low) k false) (length nets)
        (λ k lt. ap (λ (n : NetId). base n.0) (net_before k lt) ∙ is.high base word (obeys_part all_more under under_in base obeys) shown low (omega (arith, past, length_push nets c.out)) k lt ∙ sym (bit_before word (length word) low k lt))
        (ap (λ (n : NetId). base n.0) net_last ∙ last_high base word obeys shown low (omega (arith, past, length_push nets c.out)) ∙ sym (bit_last word (length word) low))
        k (omega (arith, lt, length_push nets c.out));
    rises = λ base v word case null null_is low down k lt.
        by_place (λ k. v (get_or nets_more k no_net).0 ≡ true → get_or (more_bits word null low) k false ≡ true) (length nets)
        (λ k lt up. bit_before word null low k lt ∙ is.rises base v word (case_part all_more under under_in base v ins word case) null null_is low (λ lt. sym (ap (λ (n : NetId). v n.0) (net_before low lt)) ∙ down (omega (arith, lt, length_push nets c.out))) k lt (sym (ap (λ (n : NetId). v n.0) (net_before k lt)) ∙ up))
        (λ up. bit_last word null low ∙ last_rises base v word case null null_is low down (sym (ap (λ (n : NetId). v n.0) net_last) ∙ up))
        k (omega (arith, lt, length_push nets c.out));
    only = λ g m.
        elim (Member-append_cases g under (c ∷ []) (Member-from_Contains all_more g m)) [
          | inl old ↦ let (k, lt, out) = is.only g (Contains-from_Member g old) in (k, omega (arith, lt, length_push nets c.out), out ∙ sym (ap (λ (n : NetId). n.0) (net_before k lt)))
          | inr new ↦ (length nets, omega (arith, length_push nets c.out), same g new ∙ sym (ap (λ (n : NetId). n.0) net_last))
        ];
    known = λ k lt.
        by_place (λ k. Member (get_or nets_more k no_net).0 (map out_of all_more)) (length nets)
        (λ k lt.
        let (g, among, at) = member_of_map out_of under (get_or nets k no_net).0 (is.known k lt) in
        subst (λ n. Member n (map out_of all_more)) (at ∙ sym (ap (λ (n : NetId). n.0) (net_before k lt))) (Member-map out_of g (Member-append_left g (c ∷ []) among)))
        (subst (λ n. Member n (map out_of all_more)) (sym (ap (λ (n : NetId). n.0) net_last)) (Member-map out_of c (Member-from_Contains all_more c c_in)))
        k (omega (arith, lt, length_push nets c.out));
    order =
        in_order-append (rail_nets ins) under (c ∷ []) is.order (
          gate_arity ins nets gate c gate_is (length nets) fit,
          gate_reads ins nets gate c gate_is (length nets) fit (rail_nets ins ++ map out_of under) (λ n m. Member-append_left n (map out_of under) m) (λ k lt. Member-append_right (rail_nets ins) (get_or nets k no_net).0 (is.known k lt)),
          tt,
        );
  }
    where
      same : (g : StageCell) → Member g (c ∷ []) → out_of g ≡ c.out.0
      same _ here = refl
      same g (there m) = elim m [ ]

-- what inner gates are, behind others
record Made (ins : List Rails) (bits : List Bool → ℕ → ℕ → List Bool) (under : List StageCell) (some : List NetId) (inner : List FormGate) (before now : List StageCell) (nets : List NetId) : Type 0 where
  made : List StageCell
  added : now ≡ before ++ made
  is : IsUnder ins (λ word null low. inner_bits word null low (bits word null low) inner) (under ++ made) nets
  count : length made ≡ length inner
  nets_count : length nets ≡ length some + length inner

made_of : (ins : List Rails) (bits : List Bool → ℕ → ℕ → List Bool) (under : List StageCell) (some : List NetId) (inner : List FormGate) (before now : List StageCell) (nets : List NetId) → IsUnder ins bits under some → AreInner (length ins) (length some) inner → AddsInner ins some inner before now nets → Made ins bits under some inner before now nets
made_of ins bits under _ _ _ _ _ is are (none nets cells) = record {
  made = [];
  added = sym (append-nil cells);
  is = subst (λ all. IsUnder ins bits all nets) (sym (append-nil under)) is;
  count = refl;
  nets_count = omega arith;
}
made_of ins bits under _ _ _ _ _ is are (more some gate gates before now after net nets adds rest) =
    let c : StageCell = adds.cell in
    let next : IsUnder ins (λ word null low. bits word null low ++ (not (nat_eq (length (bits word null low)) low) && gate_bit word null (bits word null low) gate) ∷ []) (under ++ c ∷ []) (some ++ net ∷ []) =
    subst (λ n. IsUnder ins (more_bits ins bits under some is gate c adds.is are.0) (under ++ c ∷ []) (some ++ n ∷ [])) adds.drives (one_more ins bits under some is gate c adds.is are.0) in
    let others = made_of ins (λ word null low. bits word null low ++ (not (nat_eq (length (bits word null low)) low) && gate_bit word null (bits word null low) gate) ∷ []) (under ++ c ∷ []) (some ++ net ∷ []) gates now after nets next (subst (λ n. AreInner (length ins) n gates) (sym (length_push some net)) are.1) rest in
    record {
      made = c ∷ others.made;
      added = others.added ∙ (λ i. adds.added i ++ others.made) ∙ append_assoc before (c ∷ []) others.made;
      is = subst (λ all. IsUnder ins (λ word null low. inner_bits word null low (bits word null low) (gate ∷ gates)) all nets) (append_assoc under (c ∷ []) others.made) others.is;
      count = ap suc others.count;
      nets_count = omega (arith, others.nets_count, length_push some net);
    }

-- ---- the rails

module _ (ins : List Rails) (waits : List Bool → ℕ → Bool) (inner : List FormGate) (under : List StageCell) (nets : List NetId) (is_under : IsUnder ins (λ word null low. inner_bits word null low [] inner) under nets) (many : length nets ≡ length inner) where
  leaf_fits : (set : List Bool → Bool) (gate : FormGate) (c : StageCell) → ((word : List Bool) → length word ≡ length ins → FitsAt (set word) waits inner gate word) → IsFormGate (length ins) (length nets) gate → IsGateOf ins nets gate c → IsLeaf ins [] under set c
  leaf_fits set gate c fits of is = record {
    exact = λ base word obeys shown.
        (λ i. set_of (is.kind i) (pin_values base (is.ins_are i)))
        ∙ ap (set_of gate.kind) (pins_shown ins word nets base shown (inner_bits word (length word) (length inner) [] inner) (length nets) (is_under.high base word obeys shown (length inner) (omega (arith, many))) gate.pins.items (all_pins (length ins) (length nets) gate of))
        ∙ (fits word (ShowWord-length base ins word shown)).exact;
    waits_for = λ base v word case r m null. elim (Member-from_Contains [] r m) [ ];
    observes = λ base v word case g m high low.
        let wide : length word ≡ length ins = ShowWord-length base ins word case.shown in
        let past : length word < length ins → ⊥ = λ within. omega (arith, within, wide) in
        let (k, lt, out) = is_under.only g m in
        let up : get_or (inner_bits word (length word) (length inner) [] inner) k false ≡ true = sym (is_under.high base word case.obeys case.shown (length inner) (omega (arith, many)) k lt) ∙ sym (ap base out) ∙ high in
        pins_unset ins word nets base v case.below case.shown (length word) (λ within. absurd (past within)) (inner_bits word (length word) k [] inner) (length nets) (is_under.rises base v word case (length word) (λ within. absurd (past within)) k (λ within. sym (ap v out) ∙ low)) gate c is (all_pins (length ins) (length nets) gate of)
        ((fits word wide).observing k (omega (arith, lt, many)) up);
  }

  -- where an input is NULL that is waited for at the word, a gate is not set
  rail_waits : (bit : Bool) (gate : FormGate) (c : StageCell) (base v : Nets) (word : List Bool) → FitsAt bit waits inner gate word → IsFormGate (length ins) (length nets) gate → IsGateOf ins nets gate c → IsCase base v ins under word → (k : ℕ) → k < length ins → waits word k ≡ true → IsNull v (get_or ins k no_pair) → holds v c ≡ false
  rail_waits bit gate c base v word fits of is case k lt passes null =
      let wide : length word ≡ length ins = ShowWord-length base ins word case.shown in
      pins_unset ins word nets base v case.below case.shown k (λ within. null) (inner_bits word k (length inner) [] inner) (length nets) (is_under.rises base v word case k (λ within. null) (length inner) (λ within. absurd (omega (arith, within, many)))) gate c is (all_pins (length ins) (length nets) gate of)
      (fits.waiting k (omega (arith, lt, wide)) passes)

module _ (f : List Bool → Bool) (ins : List Rails) (waits : List Bool → ℕ → Bool) (form : Form) (fits : Fits f (length ins) waits form) (under : List StageCell) (nets : List NetId) (is_under : IsUnder ins (λ word null low. inner_bits word null low [] form.inner.items) under nets) (many : length nets ≡ length form.inner.items) (c d : StageCell) (is_zero : IsGateOf ins nets form.zero c) (is_one : IsGateOf ins nets form.one d) where
  zero_fit : IsFormGate (length ins) (length nets) form.zero
  zero_fit = subst (λ n. IsFormGate (length ins) n form.zero) (sym many) fits.is.zero.fit

  one_fit : IsFormGate (length ins) (length nets) form.one
  one_fit = subst (λ n. IsFormGate (length ins) n form.one) (sym many) fits.is.one.fit

  form_template : IsTemplate f ins [] (under ++ c ∷ d ∷ []) (record { zero = c.out; one = d.out })
  form_template =
      template_of_leaves f ins [] under c d
      (leaf_fits ins waits form.inner.items under nets is_under many (λ word. not (f word)) form.zero c (λ word wide. (fits.at word wide).0) zero_fit is_zero)
      (leaf_fits ins waits form.inner.items under nets is_under many f form.one d (λ word wide. (fits.at word wide).1) one_fit is_one)

  form_waits : (cells : List StageCell) → ((g : StageCell) → Contains (under ++ c ∷ d ∷ []) g → Contains cells g) → (base v : Nets) (word : List Bool) → IsCase base v ins cells word → (k : ℕ) → k < length ins → waits word k ≡ true → IsNull v (get_or ins k no_pair) → IsNull v (record { zero = c.out; one = d.out })
  form_waits cells within base v word case k lt passes null =
      let below : IsCase base v ins under word = case_part cells under (λ g m. within g (Contains-from_Member g (Member-append_left g (c ∷ d ∷ []) (Member-from_Contains under g m)))) base v ins word case in
      let wide : length word ≡ length ins = ShowWord-length base ins word case.shown in
      let first : Member c (c ∷ d ∷ []) = here in
      let second : Member d (c ∷ d ∷ []) = there here in
      record {
        zero =
            low_from_unset v c (case.supported.each c (within c (Contains-from_Member c (Member-append_right under c first))))
            (rail_waits ins waits form.inner.items under nets is_under many (not (f word)) form.zero c base v word (fits.at word wide).0 zero_fit is_zero below k lt passes null);
        one =
            low_from_unset v d (case.supported.each d (within d (Contains-from_Member d (Member-append_right under d second))))
            (rail_waits ins waits form.inner.items under nets is_under many (f word) form.one d base v word (fits.at word wide).1 one_fit is_one below k lt passes null);
      }

  form_formed : IsFormed ins (under ++ c ∷ d ∷ []) (record { zero = c.out; one = d.out })
  form_formed =
      let known : List ℕ = rail_nets ins ++ map out_of under in
      let rails : (n : ℕ) → Member n (rail_nets ins) → Member n known = λ n m. Member-append_left n (map out_of under) m in
      let inner : (k : ℕ) → k < length nets → Member (get_or nets k no_net).0 known = λ k lt. Member-append_right (rail_nets ins) (get_or nets k no_net).0 (is_under.known k lt) in
      let order : AreInOrder (rail_nets ins) (under ++ c ∷ d ∷ []) =
      in_order-append (rail_nets ins) under (c ∷ d ∷ []) is_under.order (
        gate_arity ins nets form.zero c is_zero (length nets) zero_fit,
        gate_reads ins nets form.zero c is_zero (length nets) zero_fit known rails inner,
        (
          gate_arity ins nets form.one d is_one (length nets) one_fit,
          gate_reads ins nets form.one d is_one (length nets) one_fit (known ++ out_of c ∷ []) (λ n m. Member-append_left n (out_of c ∷ []) (rails n m)) (λ k lt. Member-append_left (get_or nets k no_net).0 (out_of c ∷ []) (inner k lt)),
          tt,
        ),
      ) in
      let first : Member c (c ∷ d ∷ []) = here in
      let second : Member d (c ∷ d ∷ []) = there here in
      record {
        arities = arities-in_order (rail_nets ins) (under ++ c ∷ d ∷ []) order;
        in_order = IsInOrder-from ins (under ++ c ∷ d ∷ []) order;
        zero_driven = Contains-from_Member (out_of c) (Member-map out_of c (Member-append_right under c first));
        one_driven = Contains-from_Member (out_of d) (Member-map out_of d (Member-append_right under d second));
      }

-- ---- what is added

-- two gates, and up to three inner ones but over two inputs, are no more than the gates of a node may be
gate_count : (n : ℕ) (under : List StageCell) (c d : StageCell) → 2 ≤ n → n ≤ 4 → length under ≤ 3 → (n ≡ 2 → length under ≡ 0) → length (under ++ c ∷ d ∷ []) ≤ cost_of_inputs n
gate_count zero under c d some most few flat = absurd (omega (arith, some))
gate_count (suc zero) under c d some most few flat = absurd (omega (arith, some))
gate_count (suc (suc zero)) under c d some most few flat = omega (arith, flat refl, length-append under (c ∷ d ∷ []))
gate_count (suc (suc (suc zero))) under c d some most few flat = omega (arith, few, length-append under (c ∷ d ∷ []))
gate_count (suc (suc (suc (suc zero)))) under c d some most few flat = omega (arith, few, length-append under (c ∷ d ∷ []))
gate_count (suc (suc (suc (suc (suc n))))) under c d some most few flat = absurd (omega (arith, most))

module _ (f : List Bool → Bool) (ins : List Rails) (waits : List Bool → ℕ → Bool) (form : Form) (fits : Fits f (length ins) waits form) (before after : List StageCell) (out : Rails) (adds : AddsForm ins form before after out) where
  base_of : Made ins (λ word null low. []) [] [] form.inner.items before adds.now adds.nets
  base_of = made_of ins (λ word null low. []) [] [] form.inner.items before adds.now adds.nets (no_under ins) fits.is.zero.are adds.inner

  rails_are : ◌≡◌ {A = Rails} (record { zero = adds.zero.cell.out; one = adds.one.cell.out }) out
  rails_are = λ i. record { zero = adds.zero.drives i; one = adds.one.drives i }

  gates_of : List StageCell
  gates_of = base_of.made ++ adds.zero.cell ∷ adds.one.cell ∷ []

  -- the gates of a form that fits a function are a template of it
  pub AddsTemplate-form : AddsTemplate f ins [] (cost_of_inputs (length ins)) before after out
  unfolding gates_of
  AddsTemplate-form =
      let base = base_of in
      let c : StageCell = adds.zero.cell in
      let d : StageCell = adds.one.cell in
      record {
        made = gates_of;
        added = adds.one.added ∙ (λ i. adds.zero.added i ++ d ∷ []) ∙ append_assoc adds.now (c ∷ []) (d ∷ []) ∙ (λ i. base.added i ++ c ∷ d ∷ []) ∙ append_assoc before base.made (c ∷ d ∷ []);
        template = subst (IsTemplate f ins [] gates_of) rails_are (form_template f ins waits form fits base.made adds.nets base.is (omega (arith, base.nets_count)) c d adds.zero.is adds.one.is);
        formed = subst (IsFormed ins gates_of) rails_are (form_formed f ins waits form fits base.made adds.nets base.is (omega (arith, base.nets_count)) c d adds.zero.is adds.one.is);
        few = gate_count (length ins) base.made c d fits.is.some fits.is.few (omega (arith, base.count, fits.is.zero.few)) (λ two. base.count ∙ fits.is.flat two);
      }

  -- which waits among all cells as they fit
  pub AddsAmong-form : AddsAmong f ins waits (cost_of_inputs (length ins)) before after out
  unfolding gates_of AddsTemplate-form
  AddsAmong-form =
      AddsAmong-from f ins [] waits (cost_of_inputs (length ins)) before after out AddsTemplate-form
      (λ base v word case k lt passes null.
      subst (IsNull v) rails_are
      (form_waits f ins waits form fits base_of.made adds.nets base_of.is (omega (arith, base_of.nets_count)) adds.zero.cell adds.one.cell adds.zero.is adds.one.is after (made_in f ins [] waits (cost_of_inputs (length ins)) before after out AddsTemplate-form) base v word case k lt passes null))
