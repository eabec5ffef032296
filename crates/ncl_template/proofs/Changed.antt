-- A function that is one of the other inputs where the first is 0, and another one where it is 1: four templates, of the first, of
-- whether the two differ, and of two pairs, are one of it.
use Rattle.ncl_template.proofs.Terms.{AddsTemplate, All-contains, Bool, Contains, Contains-from_Member, IsCase, IsFormed, IsNull, IsTemplate, List, Member, Member-append_cases, Member-append_left, Member-append_right, Member-from_Contains, NetId, Nets, Obeys, Rails, ShowWord, Shows, StageCell, [], ap, append-nil, append_assoc, arith, arity_of, beq, choice, differs, false, here, if◌then◌else◌, inl, inr, length, length-append, map, map-append, nets_of, not, out_of, rail_nets, refl, row_value, subst, sym, there, true, ℕ, ◌*◌, ◌++◌, ◌+◌, ◌∙◌, ◌∷◌, ◌≡◌}
use Rattle.ncl_template.proofs.InOrder.{AreInOrder, in_order-wider, in_order-append, arities-in_order, IsInOrder-from}
use Rattle.ncl_template.proofs.AmongLaws.{obeys_part}

-- gates that are formed are in order
are_in_order : (known : List ℕ) (gates : List StageCell) → ((c : StageCell) → Member c gates → length c.ins.items ≡ arity_of c.kind) → ((before after : List StageCell) (c : StageCell) → gates ≡ before ++ c ∷ after → (net : NetId) → Member net c.ins.items → Member net.0 (known ++ map out_of before)) → AreInOrder known gates
are_in_order known [] arities reads = tt
are_in_order known (g ∷ gates) arities reads = (
  arities g here,
  λ net m. subst (Member net.0) (append-nil known) (reads [] gates g refl net m),
  are_in_order (known ++ out_of g ∷ []) gates (λ c m. arities c (there m))
      (λ before after c is net m. subst (Member net.0) (sym (append_assoc known (out_of g ∷ []) (map out_of before))) (reads (g ∷ before) after c (ap (λ gates. g ∷ gates) is) net m)),
)

order_of : (ins : List Rails) (gates : List StageCell) (out : Rails) → IsFormed ins gates out → AreInOrder (rail_nets ins) gates
order_of ins gates out formed =
    are_in_order (rail_nets ins) gates
    (λ c m. All-contains (λ (c : StageCell). length c.ins.items ≡ arity_of c.kind) gates c formed.arities (Contains-from_Member c m))
    (λ before after c is net m.
    Member-from_Contains (nets_of ins before) net.0
    (All-contains (λ (net : NetId). Contains (nets_of ins before) net.0) c.ins.items net (formed.in_order before after c is) (Contains-from_Member net m)))

-- a pair that is driven is known
pair_nets_known : (known : List ℕ) (r : Rails) (rest : List Rails) → Member r.zero.0 known → Member r.one.0 known → ((n : ℕ) → Member n (rail_nets rest) → Member n known) → (n : ℕ) → Member n (rail_nets (r ∷ rest)) → Member n known
pair_nets_known known r rest low high others _ here = low
pair_nets_known known r rest low high others _ (there here) = high
pair_nets_known known r rest low high others n (there (there m)) = others n m

no_nets : (known : List ℕ) (n : ℕ) → Member n (rail_nets []) → Member n known
no_nets known n m = elim m [ ]

-- whether two bits are 1, and whether they differ
abbrev both : List Bool → Bool
both = row_value (record { at_00 = false; at_01 = false; at_10 = false; at_11 = true })

abbrev differ : List Bool → Bool
differ = row_value (record { at_00 = false; at_01 = true; at_10 = true; at_11 = false })

-- a value that is changed where a bit is 1 and another value differs
changed_value : (b p q : Bool) → differ (p ∷ both (b ∷ not (beq p q) ∷ []) ∷ []) ≡ (if b then q else p)
changed_value true true true = refl
changed_value true true false = refl
changed_value true false true = refl
changed_value true false false = refl
changed_value false true true = refl
changed_value false true false = refl
changed_value false false true = refl
changed_value false false false = refl

module _ (x : Rails) (rest : List Rails) (f g : List Bool → Bool) (p q r out : Rails) (gp gq gr go : List StageCell) where
  abbrev all : List StageCell
  all = (gp ++ gq) ++ (gr ++ go)

  module _ (tp : IsTemplate f rest rest gp p) (tq : IsTemplate (differs f g) rest rest gq q) (tr : IsTemplate both (x ∷ q ∷ []) (x ∷ q ∷ []) gr r) (to : IsTemplate differ (p ∷ r ∷ []) (p ∷ r ∷ []) go out) where
    in_p : (c : StageCell) → Contains gp c → Contains all c
    in_p c m = Contains-from_Member c (Member-append_left c (gr ++ go) (Member-append_left c gq (Member-from_Contains gp c m)))

    in_q : (c : StageCell) → Contains gq c → Contains all c
    in_q c m = Contains-from_Member c (Member-append_left c (gr ++ go) (Member-append_right gp c (Member-from_Contains gq c m)))

    in_r : (c : StageCell) → Contains gr c → Contains all c
    in_r c m = Contains-from_Member c (Member-append_right (gp ++ gq) c (Member-append_left c go (Member-from_Contains gr c m)))

    in_o : (c : StageCell) → Contains go c → Contains all c
    in_o c m = Contains-from_Member c (Member-append_right (gp ++ gq) c (Member-append_right gr c (Member-from_Contains go c m)))

    -- what the inner pairs show
    module _ (base : Nets) (obeys : Obeys base all) (b : Bool) (word : List Bool) (shown : ShowWord base (x ∷ rest) (b ∷ word)) where
      abbrev changed : List Bool
      changed = b ∷ differs f g word ∷ []

      shows_pair : ShowWord base (x ∷ q ∷ []) changed
      shows_pair = (shown.0, (tq.value base word (obeys_part all gq in_q base obeys) shown.1, tt))

      shows_last : ShowWord base (p ∷ r ∷ []) (f word ∷ both changed ∷ [])
      shows_last = (tp.value base word (obeys_part all gp in_p base obeys) shown.1, (tr.value base changed (obeys_part all gr in_r base obeys) shows_pair, tt))

    -- what follows for lower values
    module _ (base v : Nets) (b : Bool) (word : List Bool) (case : IsCase base v (x ∷ rest) all (b ∷ word)) where
      part : (cells : List StageCell) → ((c : StageCell) → Contains cells c → Contains all c) → (ins : List Rails) (bits : List Bool) → ShowWord base ins bits → IsCase base v ins cells bits
      part cells within ins bits shown = record { obeys = obeys_part all cells within base case.obeys; shown = shown; below = case.below; supported = record { each = λ c m. case.supported.each c (within c m) } }

      case_o : IsCase base v (p ∷ r ∷ []) go (f word ∷ both (b ∷ differs f g word ∷ []) ∷ [])
      case_o = part go in_o (p ∷ r ∷ []) (f word ∷ both (b ∷ differs f g word ∷ []) ∷ []) (shows_last base case.obeys b word case.shown)

      case_r : IsCase base v (x ∷ q ∷ []) gr (b ∷ differs f g word ∷ [])
      case_r = part gr in_r (x ∷ q ∷ []) (b ∷ differs f g word ∷ []) (shows_pair base case.obeys b word case.shown)

      first_of : (y z : Rails) → Contains (y ∷ z ∷ []) y
      first_of y z = let m : Member y (y ∷ z ∷ []) = here in Contains-from_Member y m

      second_of : (y z : Rails) → Contains (y ∷ z ∷ []) z
      second_of y z = let m : Member z (y ∷ z ∷ []) = there here in Contains-from_Member z m

      from_p : IsNull v p → IsNull v out
      from_p null = to.needs base v (f word ∷ both (b ∷ differs f g word ∷ []) ∷ []) case_o p (first_of p r) null

      from_r : IsNull v r → IsNull v out
      from_r null = to.needs base v (f word ∷ both (b ∷ differs f g word ∷ []) ∷ []) case_o r (second_of p r) null

      from_q : IsNull v q → IsNull v out
      from_q null = from_r (tr.needs base v (b ∷ differs f g word ∷ []) case_r q (second_of x q) null)

      needs_of : (y : Rails) → Member y (x ∷ rest) → IsNull v y → IsNull v out
      needs_of _ here null = from_r (tr.needs base v (b ∷ differs f g word ∷ []) case_r x (first_of x q) null)
      needs_of y (there m) null = from_p (tp.needs base v word (part gp in_p rest word case.shown.1) y (Contains-from_Member y m) null)

      observed_of : (c : StageCell) → Contains all c → base (out_of c) ≡ true → v (out_of c) ≡ false → IsNull v out
      observed_of c m high low =
          elim (Member-append_cases c (gp ++ gq) (gr ++ go) (Member-from_Contains all c m)) [
            | inl early ↦
                elim (Member-append_cases c gp gq early) [
                  | inl m ↦ from_p (tp.observed base v word (part gp in_p rest word case.shown.1) c (Contains-from_Member c m) high low)
                  | inr m ↦ from_q (tq.observed base v word (part gq in_q rest word case.shown.1) c (Contains-from_Member c m) high low)
                ]
            | inr late ↦
                elim (Member-append_cases c gr go late) [
                  | inl m ↦ from_r (tr.observed base v (b ∷ differs f g word ∷ []) case_r c (Contains-from_Member c m) high low)
                  | inr m ↦ to.observed base v (f word ∷ both (b ∷ differs f g word ∷ []) ∷ []) case_o c (Contains-from_Member c m) high low
                ]
          ]

    changed_template : IsTemplate (choice f g) (x ∷ rest) (x ∷ rest) all out
    changed_template = record { value = value; needs = needs; observed = observed }
      where
        value : (base : Nets) (word : List Bool) → Obeys base all → ShowWord base (x ∷ rest) word → Shows base out (choice f g word)
        value base [] obeys shown = absurd shown
        value base (b ∷ word) obeys shown = subst (Shows base out) (changed_value b (f word) (g word)) (to.value base (f word ∷ both (b ∷ differs f g word ∷ []) ∷ []) (obeys_part all go in_o base obeys) (shows_last base obeys b word shown))

        needs : (base v : Nets) (word : List Bool) → IsCase base v (x ∷ rest) all word → (y : Rails) → Contains (x ∷ rest) y → IsNull v y → IsNull v out
        needs base v [] case y m null = absurd case.shown
        needs base v (b ∷ word) case y m null = needs_of base v b word case y (Member-from_Contains (x ∷ rest) y m) null

        observed : (base v : Nets) (word : List Bool) → IsCase base v (x ∷ rest) all word → (c : StageCell) → Contains all c → base (out_of c) ≡ true → v (out_of c) ≡ false → IsNull v out
        observed base v [] case c m high low = absurd case.shown
        observed base v (b ∷ word) case c m high low = observed_of base v b word case c m high low

  changed_formed : IsFormed rest gp p → IsFormed rest gq q → IsFormed (x ∷ q ∷ []) gr r → IsFormed (p ∷ r ∷ []) go out → IsFormed (x ∷ rest) all out
  changed_formed fp fq fr fo =
      let known : List ℕ = rail_nets (x ∷ rest) in
      let wider : (n : ℕ) → Member n (rail_nets rest) → Member n known = λ n m. there (there m) in
      let after_p : List ℕ = known ++ map out_of gp in
      let after_q : List ℕ = known ++ map out_of (gp ++ gq) in
      let after_r : List ℕ = after_q ++ map out_of gr in
      let in_known : (n : ℕ) → Member n known → Member n after_q = λ n m. Member-append_left n (map out_of (gp ++ gq)) m in
      let of_p : (n : ℕ) → Member n (map out_of gp) → Member n after_q = λ n m. Member-append_right known n (subst (Member n) (sym (map-append out_of gp gq)) (Member-append_left n (map out_of gq) m)) in
      let of_q : (n : ℕ) → Member n (map out_of gq) → Member n after_q = λ n m. Member-append_right known n (subst (Member n) (sym (map-append out_of gp gq)) (Member-append_right (map out_of gp) n m)) in
      let of_r : (n : ℕ) → Member n (map out_of gr) → Member n after_r = λ n m. Member-append_right after_q n m in
      let driven : (gates : List StageCell) (net : NetId) → Contains (map out_of gates) net.0 → Member net.0 (map out_of gates) = λ gates net m. Member-from_Contains (map out_of gates) net.0 m in
      let order : AreInOrder known all =
      in_order-append known (gp ++ gq) (gr ++ go)
      (in_order-append known gp gq (in_order-wider (rail_nets rest) known wider gp (order_of rest gp p fp)) (in_order-wider (rail_nets rest) after_p (λ n m. Member-append_left n (map out_of gp) (wider n m)) gq (order_of rest gq q fq)))
      (in_order-append after_q gr go
      (in_order-wider (rail_nets (x ∷ q ∷ [])) after_q
      (pair_nets_known after_q x (q ∷ []) (in_known x.zero.0 here) (in_known x.one.0 (there here)) (pair_nets_known after_q q [] (of_q q.zero.0 (driven gq q.zero fq.zero_driven)) (of_q q.one.0 (driven gq q.one fq.one_driven)) (no_nets after_q)))
      gr (order_of (x ∷ q ∷ []) gr r fr))
      (in_order-wider (rail_nets (p ∷ r ∷ [])) after_r
      (pair_nets_known after_r p (r ∷ []) (Member-append_left p.zero.0 (map out_of gr) (of_p p.zero.0 (driven gp p.zero fp.zero_driven))) (Member-append_left p.one.0 (map out_of gr) (of_p p.one.0 (driven gp p.one fp.one_driven))) (pair_nets_known after_r r [] (of_r r.zero.0 (driven gr r.zero fr.zero_driven)) (of_r r.one.0 (driven gr r.one fr.one_driven)) (no_nets after_r)))
      go (order_of (p ∷ r ∷ []) go out fo))) in
      let last : (n : ℕ) → Member n (map out_of go) → Contains (map out_of all) n = λ n m.
      Contains-from_Member n (subst (Member n) (sym (map-append out_of (gp ++ gq) (gr ++ go) ∙ ap (λ ns. map out_of (gp ++ gq) ++ ns) (map-append out_of gr go))) (Member-append_right (map out_of (gp ++ gq)) n (Member-append_right (map out_of gr) n m))) in
      record {
        arities = arities-in_order known all order;
        in_order = IsInOrder-from (x ∷ rest) all order;
        zero_driven = last out.zero.0 (driven go out.zero fo.zero_driven);
        one_driven = last out.one.0 (driven go out.one fo.one_driven);
      }

-- what is the first function, and shows where that differs from the second, makes the choice of both
pub AddsTemplate-changed : (x : Rails) (rest : List Rails) (f g : List Bool → Bool) (most : ℕ) (before now next late after : List StageCell) (p q r out : Rails) → AddsTemplate f rest rest most before now p → AddsTemplate (differs f g) rest rest most now next q → AddsTemplate both (x ∷ q ∷ []) (x ∷ q ∷ []) 2 next late r → AddsTemplate differ (p ∷ r ∷ []) (p ∷ r ∷ []) 2 late after out → AddsTemplate (choice f g) (x ∷ rest) (x ∷ rest) (2 * most + 4) before after out
AddsTemplate-changed x rest f g most before now next late after p q r out ap aq ar ao = record {
  made = (ap.made ++ aq.made) ++ (ar.made ++ ao.made);
  added =
      ao.added
      ∙ (λ i. ar.added i ++ ao.made)
      ∙ append_assoc next ar.made ao.made
      ∙ (λ i. aq.added i ++ (ar.made ++ ao.made))
      ∙ (λ i. (ap.added i ++ aq.made) ++ (ar.made ++ ao.made))
      ∙ (λ i. append_assoc before ap.made aq.made i ++ (ar.made ++ ao.made))
      ∙ append_assoc before (ap.made ++ aq.made) (ar.made ++ ao.made);
  template = changed_template x rest f g p q r out ap.made aq.made ar.made ao.made ap.template aq.template ar.template ao.template;
  formed = changed_formed x rest f g p q r out ap.made aq.made ar.made ao.made ap.formed aq.formed ar.formed ao.formed;
  few = omega (arith, length-append (ap.made ++ aq.made) (ar.made ++ ao.made), length-append ap.made aq.made, length-append ar.made ao.made, ap.few, aq.few, ar.few, ao.few);
}
