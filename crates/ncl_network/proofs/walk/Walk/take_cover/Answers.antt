use Rattle.ncl_network.proofs.Terms.{All, IsSome, IsSource, IsWalked, Some, [], ap, cover_value, get, length, length-map, map, nat_cmp, signal_value, subst, sym, weight_of_folded, weight_of_rows, ◌++◌, ◌∙◌, ◌∷◌, ◌≡◌, ◌≤◌}
use Rattle.ncl_network.proofs.Walking.{FoldsInto, IsWalked-more}
use Rattle.ncl_network.proofs.walk.Walk.take_cover.Goals as goal

pub returns : goal.returns
returns c model done place at walked =
    let found : map Some c.in_ok-ins.ins.items ≡ map (get nat_cmp c.args.self.now.signals) c.args.cover.now.ins =
    c.in_ok-ins.ensures ∙ ap (map (get nat_cmp c.args.self.now.signals)) c.items.ensures in
    let into : FoldsInto c.args.cover.now c.in_ok-ins.ins.items c.in_ok-folded.folded = record {
      value = λ word nodes.
          c.in_ok-folded.ensures.value word nodes
          ∙ (λ i. cover_value c.args.cover.now.on (c.items-2.ensures i) (map (signal_value word nodes) (c.deref.ensures.value i)));
      fine = c.in_ok-folded.ensures.folded;
      sources = λ inputs count all.
          c.in_ok-folded.ensures.sources inputs count (subst (All (λ signal. IsSource inputs count signal.from)) (sym c.deref.ensures.value) all);
      weight = subst (λ rows. weight_of_folded c.in_ok-folded.folded ≤ weight_of_rows rows) c.items-2.ensures c.in_ok-folded.ensures.weight;
    } in
    subst (λ nodes. IsWalked model (get nat_cmp c.add.new.self.signals) nodes (done ++ place ∷ [])) (sym c.in_ok-add.ensures.nodes)
    (IsWalked-more model (get nat_cmp c.args.self.now.signals) (get nat_cmp c.add.new.self.signals) c.args.self.now.nodes.items done place c.args.cover.now c.in_ok-ins.ins.items c.in_ok-folded.folded at found into c.in_ok-add.ensures.known walked)

pub look_up-requires : goal.look_up-requires
look_up-requires c = subst (All (λ name. IsSome (get nat_cmp c.args.self.now.signals name))) (sym c.items.ensures) c.requires.known

pub fold_cover-requires : goal.fold_cover-requires
fold_cover-requires c =
    let found = c.in_ok-ins.ensures ∙ ap (map (get nat_cmp c.args.self.now.signals)) c.items.ensures in
    let wide : length c.args.cover.now.ins ≡ length c.deref.result.now =
    sym (length-map c.args.cover.now.ins (get nat_cmp c.args.self.now.signals)) ∙ sym (ap length found) ∙ length-map c.in_ok-ins.ins.items Some ∙ sym (ap length c.deref.ensures.value) in
    subst (All (λ row. length row ≡ length c.deref.result.now)) (sym c.items-2.ensures) (λ k d lt. c.requires.widths k d lt ∙ wide)
