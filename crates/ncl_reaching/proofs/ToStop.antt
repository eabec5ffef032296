-- A run goes on by all items in turn, until none of them happens.
use Rattle.ncl_reaching.proofs.Terms.{GoesToStop, IsCellOrder, IsRunFrom, Item, List, PipelineData, Shape, State, [], after, after-append, all-named, all_items, ap, append-nil, append_assoc, arith, both_ways, enabled, false, false_from_ne_true, happened, happened-after, happened-run, item_in_range, length, length-append, none-happens, refl, run-append, subst, sym, tried, ℕ, ◌++◌, ◌+◌, ◌∙◌, ◌∷◌, ◌≡◌}

-- a run goes on from a state to another
pub record GoesOn (p : PipelineData) (start s : State) (before run : List Item) : Type 0 where
  pub more : List Item
  pub parts : run ≡ before ++ more
  pub is_run : IsRunFrom p start more
  pub leads : after p start more ≡ s

empty : (xs : List Item) → length xs ≡ 0 → xs ≡ []
empty [] e = refl
empty (x ∷ xs) e = absurd (omega (arith, e))

module _ (p : PipelineData) (start s : State) (before run now : List Item) (g : GoesOn p start s before run) where
  pub goes-more : (t : State) (items : List Item) → t ≡ tried p s items → now ≡ run ++ happened p s items → GoesOn p start t before now
  goes-more t items moved is = record {
    more = g.more ++ happened p s items;
    parts = is ∙ ap (λ xs. xs ++ happened p s items) g.parts ∙ append_assoc before g.more (happened p s items);
    is_run = run-append p start g.more (happened p s items) g.is_run (subst (λ u. IsRunFrom p u (happened p s items)) (sym g.leads) (happened-run p s items));
    leads = after-append p start g.more (happened p s items) ∙ ap (λ u. after p u (happened p s items)) g.leads ∙ happened-after p s items ∙ sym moved;
  }

  -- where it didn't become longer it has come to a stop
  pub goes-to_stop : Shape p.netlist p → (order : List ℕ) → IsCellOrder p.netlist order → now ≡ run ++ happened p s (all_items p order) → length now ≡ length run → GoesToStop p start before now
  goes-to_stop shape order ord is same =
      let long : length now ≡ length run + length (happened p s (all_items p order)) = ap length is ∙ length-append run (happened p s (all_items p order)) in
      let none : happened p s (all_items p order) ≡ [] = empty (happened p s (all_items p order)) (omega (arith, long, same)) in
      record {
        more = g.more;
        parts = is ∙ ap (λ xs. run ++ xs) none ∙ append-nil run ∙ g.parts;
        is_run = g.is_run;
        quiet = λ item. subst (λ u. enabled p u item ≡ false) (sym g.leads) (false_from_ne_true _ (λ can.
            both_ways _ (none-happens p s (all_items p order) none item (all-named p shape order ord item (item_in_range p s item can))) can));
      }
