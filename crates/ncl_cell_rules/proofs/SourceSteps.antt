-- The source of each net, from what drives it.
use Rattle.ncl_cell_rules.proofs.Terms.{AckOf, AcksBank, Cell, ComesFrom, Contains, Contains-append_left, Contains-last, HasOnlyOrigin, HaveSameOrigins, IsCell, IsGate, IsInputPort, IsJoin, IsNetlist, IsOfBank, IsSourceOf, IsSummary, List, Many, Member, Member-from_Contains, NetId, NetlistData, None, OfNets, Origin, Port, Rail, RailOf, Some, Source, [], ack, ap, arith, from_push, gate, here, inl, inr, port, rail, refl, subst, sym, there, ℕ, ◌++◌, ◌∙◌, ◌∷◌, ◌≡◌, ◌⊎◌}
use Rattle.ncl_cell_rules.proofs.OriginLaws.{port_origin, register_origin, ack_origin}
use Rattle.ncl_cell_rules.specs.declared.source.Source.TheVariants.{Ack}
use Rattle.ncl_cell_rules.proofs.Summaries.{named, summary_cases, same_source, other_source, summary_moves}
use Rattle.ncl_cell_rules.proofs.CellOrigins.{gate_origin}
use Rattle.ncl_cell_rules.proofs.NetOrigins.{acked_is_one, bank_is_one}

module _ (n : NetlistData) where
  -- one net more
  to_more : (nets : List NetId) (net : NetId) (o : Origin) → (OfNets n nets o ⊎ ComesFrom n net.0 o) → OfNets n (nets ++ net ∷ []) o
  to_more nets net o (inl (other, among, from)) = (other, Contains-append_left nets (net ∷ []) other among, from)
  to_more nets net o (inr from) = (net, Contains-last nets net, from)

  from_more : (nets : List NetId) (net : NetId) (o : Origin) → OfNets n (nets ++ net ∷ []) o → (OfNets n nets o ⊎ ComesFrom n net.0 o)
  from_more nets net o (other, among, from) = elim (from_push nets net other among) [
    | inl old ↦ inl (other, old, from)
    | inr same ↦ inr (subst (λ (x : NetId). ComesFrom n x.0 o) (sym same) from)
  ]

  pub same_again : (nets : List NetId) (net : NetId) (s : Source) → IsSummary (OfNets n nets) s → IsSourceOf n net.0 s → IsSummary (OfNets n (nets ++ net ∷ [])) s
  same_again nets net s of_nets of_net =
      summary_moves (λ o. OfNets n nets o ⊎ ComesFrom n net.0 o) (OfNets n (nets ++ net ∷ [])) (to_more nets net) (from_more nets net) s
      (same_source (OfNets n nets) (ComesFrom n net.0) s of_nets of_net)

  pub another : (nets : List NetId) (net : NetId) (s t : Source) → (s ≡ t → ⊥) → IsSummary (OfNets n nets) s → IsSourceOf n net.0 t → IsSummary (OfNets n (nets ++ net ∷ [])) Many
  another nets net s t differ of_nets of_net =
      summary_moves (λ o. OfNets n nets o ⊎ ComesFrom n net.0 o) (OfNets n (nets ++ net ∷ [])) (to_more nets net) (from_more nets net) Many
      (other_source (OfNets n nets) (ComesFrom n net.0) s t differ of_nets of_net)

  pub joined : (nets : List NetId) (net : NetId) (s t r : Source) → IsJoin s t r → IsSummary (OfNets n nets) s → IsSourceOf n net.0 t → IsSummary (OfNets n (nets ++ net ∷ [])) r
  joined nets net s t r (inl (same, is_s)) of_nets of_net = subst (IsSummary (OfNets n (nets ++ net ∷ []))) (sym is_s) (same_again nets net s of_nets (subst (IsSourceOf n net.0) (sym same) of_net))
  joined nets net s t r (inr (differ, is_many)) of_nets of_net = subst (IsSummary (OfNets n (nets ++ net ∷ []))) (sym is_many) (another nets net s t differ of_nets of_net)

module _ (n : NetlistData) (is : IsNetlist n) where
  pub port_source : (net : ℕ) → IsInputPort n net → IsSourceOf n net Port
  port_source net at = record { comes = port at; only = λ other from. port_origin n is net other at from }

  -- of the banks of a cell there is one, so an origin that is named by such a bank is named by this one
  of_one_bank : (IsOf : ℕ → Type 0) (name : ℕ → Origin) → ((x y : ℕ) → IsOf x → IsOf y → x ≡ y) → (bank : ℕ) → IsOf bank → (o : Origin) → ((request : ℕ) × IsOf request × (o ≡ name request)) → o ≡ name bank
  of_one_bank IsOf name one bank of_bank o (request, of_request, named) = named ∙ ap name (one request bank of_request of_bank)

  pub register_source : (c : Cell) (bank : NetId) → IsOfBank n bank.0 c → IsSourceOf n c.out.0 (Rail bank)
  register_source c bank of_bank = record {
    comes = rail c of_bank;
    only = λ other from. of_one_bank (λ b. IsOfBank n b c) RailOf (bank_is_one n is c) bank.0 of_bank other (register_origin n is c of_bank.0 of_bank.1 c.out.0 other refl from);
  }

  pub ack_source : (c : Cell) (bank : NetId) → AcksBank n bank.0 c → IsSourceOf n c.out.0 (Ack bank)
  ack_source c bank acks = record {
    comes = ack c acks;
    only = λ other from. of_one_bank (λ b. AcksBank n b c) AckOf (acked_is_one n is c) bank.0 acks other (ack_origin n is c acks.0 acks.1 c.out.0 other refl from);
  }

  pub gate_source : (c : Cell) → IsCell n c → IsGate c → (s : Source) → IsSummary (OfNets n c.ins.items) s → IsSourceOf n c.out.0 s
  gate_source c in_c is_gate s is_s =
      summary_moves (OfNets n c.ins.items) (ComesFrom n c.out.0)
      (λ o (net, reads, from). gate c in_c is_gate reads from)
      (λ o from. let (input, reads, from_input) = gate_origin n is c in_c is_gate c.out.0 o refl from in (record { 0 = input }, reads, from_input))
      s is_s

  -- the first net alone
  pub one_net : (net : NetId) (s : Source) → IsSourceOf n net.0 s → IsSummary (OfNets n (net ∷ [])) s
  one_net net s is_s =
      summary_moves (ComesFrom n net.0) (OfNets n (net ∷ []))
      (λ o from. (net, (0, omega arith, refl), from))
      (λ o (other, among, from). subst (λ (x : NetId). ComesFrom n x.0 o) (only_one other among) from)
      s is_s
    where
      by_member : (other : NetId) → Member other (net ∷ []) → other ≡ net
      by_member other here = refl
      by_member other (there m) = elim m [ ]

      only_one : (other : NetId) → Contains (net ∷ []) other → other ≡ net
      only_one other among = by_member other (Member-from_Contains (net ∷ []) other among)

  -- ---- what a source tells

  pub only_from_source : (net : ℕ) (s : Source) (o : Origin) → IsSourceOf n net s → named s ≡ Some o → HasOnlyOrigin n net o
  only_from_source net s o is_s at =
      elim (summary_cases (ComesFrom n net) s is_s) [
        | inl (p, at_p, only) ↦
            let both : Some p ≡ Some o = sym at_p ∙ at in
            let same : p ≡ o = cc in
            subst (HasOnlyOrigin n net) same record { comes = only.comes; only = only.only }
        | inr (many, two) ↦ let none : None ≡ Some o = sym (ap named many) ∙ at in absurd cc
      ]

  pub source_from_only : (net : ℕ) (s : Source) (o : Origin) → IsSourceOf n net s → HasOnlyOrigin n net o → named s ≡ Some o
  source_from_only net s o is_s only =
      elim (summary_cases (ComesFrom n net) s is_s) [
        | inl (p, at_p, of_p) ↦ at_p ∙ ap Some (only.only p of_p.comes)
        | inr (many, two) ↦ absurd (two.differ (only.only two.one two.is_one ∙ sym (only.only two.two two.is_two)))
      ]

  -- two nets with one source that names an origin have the same origins, and with two sources they do not
  pub same_origins : (x y : ℕ) (s : Source) (o : Origin) → named s ≡ Some o → IsSourceOf n x s → IsSourceOf n y s → HaveSameOrigins n x y
  same_origins x y s o at of_x of_y =
      let only_x = only_from_source x s o of_x at in
      let only_y = only_from_source y s o of_y at in
      record {
        to = λ p from. subst (ComesFrom n y) (sym (only_x.only p from)) only_y.comes;
        from = λ p from. subst (ComesFrom n x) (sym (only_y.only p from)) only_x.comes;
      }

  pub source_of_same : (x y : ℕ) (s t : Source) (o : Origin) → named s ≡ Some o → IsSourceOf n x s → IsSourceOf n y t → HaveSameOrigins n x y → named t ≡ Some o
  source_of_same x y s t o at of_x of_y same =
      let only_x = only_from_source x s o of_x at in
      source_from_only y t o of_y record { comes = same.to o only_x.comes; only = λ p from. only_x.only p (same.from p from) }
