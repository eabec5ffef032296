-- The nets of a stage whose nets have other numbers are those of the stage, renamed.
use Rattle.ncl_shape.proofs.Terms.{AllZip, Contains, Contains-from_Member, IsRenamedCell, List, Member-from_Contains, Member-map, Rails, StageCell, [], ap, map, map-append, nets_of, out_of, rail_nets, refl, renamed_net, renamed_rails, sym, ℕ, ◌++◌, ◌∙◌, ◌∷◌, ◌≡◌}

module _ (to : ℕ → ℕ) where
  pub rail_nets-renamed : (rs : List Rails) → rail_nets (map (renamed_rails to) rs) ≡ map to (rail_nets rs)
  rail_nets-renamed [] = refl
  rail_nets-renamed (r ∷ rs) = ap (λ rest. to r.zero.0 ∷ to r.one.0 ∷ rest) (rail_nets-renamed rs)

  outs-renamed : (cells others : List StageCell) → AllZip (IsRenamedCell to) cells others → map out_of others ≡ map to (map out_of cells)
  outs-renamed [] [] zip = refl
  outs-renamed [] (d ∷ others) zip = absurd zip
  outs-renamed (c ∷ cells) [] zip = absurd zip
  outs-renamed (c ∷ cells) (d ∷ others) zip =
      let first : d.out ≡ renamed_net to c.out = zip.0.out in
      let rest = outs-renamed cells others zip.1 in
      λ i. (first i).0 ∷ rest i

  pub nets-renamed : (inputs : List Rails) (cells others : List StageCell) → AllZip (IsRenamedCell to) cells others → nets_of (map (renamed_rails to) inputs) others ≡ map to (nets_of inputs cells)
  nets-renamed inputs cells others zip =
      (λ i. rail_nets-renamed inputs i ++ outs-renamed cells others zip i) ∙ sym (map-append to (rail_nets inputs) (map out_of cells))

  -- what is among some nets is, renamed, among these renamed
  pub known-renamed : (nets : List ℕ) (net : ℕ) → Contains nets net → Contains (map to nets) (to net)
  known-renamed nets net known = Contains-from_Member (to net) (Member-map to net (Member-from_Contains nets net known))
