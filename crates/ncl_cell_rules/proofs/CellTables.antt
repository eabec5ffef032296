-- Tables with an entry for each net, which takes in one cell after another.
use Rattle.ncl_cell_rules.proofs.Terms.{Cell, CellAt, IsTable, List, NetlistData, [], ap, arith, drop, get_or, get_or-replicate, get_or_from_slice_get, length, length-replicate, refl, replicate, slice_get_within, subst, sym, take, take_all, take_at, ℕ, ◌++◌, ◌+◌, ◌<◌, ◌∙◌, ◌≡◌, ◌≤◌}

-- what a table says of a net, by the cells so far: what of none, and what of one more
pub record Entry (X : Type 0) : Type 0 where
  pub none : X
  pub of : ℕ → List Cell → X
  pub add : ℕ → X → Cell → X
  pub of_none : (net : ℕ) → of net [] ≡ none
  pub of_more : (net : ℕ) (cells : List Cell) (k : ℕ) (c : Cell) → k < length cells → of net (take (k + 1) cells) ≡ add net (of net (take k cells)) (get_or cells k c)

-- the entries of the first k cells
pub record HasEntries {X : Type 0} (n : NetlistData) (e : Entry X) (k : ℕ) (table : List X) : Type 0 where
  pub sized : length table ≡ length n.nets
  pub each : (net : ℕ) → net < length n.nets → get_or table net e.none ≡ e.of net (take k n.cells)

module _ {X : Type 0} (n : NetlistData) (e : Entry X) where
  -- before any cell
  pub entries_begin : (table : List X) (size : ℕ) → table ≡ replicate size e.none → size ≡ length n.nets → HasEntries n e 0 table
  entries_begin table size same sized = record {
    sized = ap length same ∙ length-replicate size e.none ∙ sized;
    each = λ net lt.
        ap (λ l. get_or l net e.none) same ∙ get_or-replicate size net e.none e.none (omega (arith, lt, sized)) ∙ sym (e.of_none net);
  }

  module _ (k : ℕ) (c : Cell) (table : List X) (so_far : HasEntries n e k table) (at : CellAt n k c) where
    -- one cell more
    pub entries_more : (new : List X) → length new ≡ length table → ((net : ℕ) → net < length table → get_or new net e.none ≡ e.add net (get_or table net e.none) c)
        → HasEntries n e (k + 1) new
    entries_more new long made = record {
      sized = long ∙ so_far.sized;
      each = λ net lt.
          let sized = so_far.sized in
          let more = e.of_more net n.cells k c (slice_get_within n.cells k c at) in
          made net (omega (arith, lt, sized))
          ∙ ap (λ x. e.add net x c) (so_far.each net lt)
          ∙ sym (more ∙ ap (e.add net (e.of net (take k n.cells))) (get_or_from_slice_get n.cells k c c at));
    }

    -- which changes nothing
    pub entries_same : ((net : ℕ) (x : X) → e.add net x c ≡ x) → HasEntries n e (k + 1) table
    entries_same nothing = entries_more table refl (λ net lt. sym (nothing net (get_or table net e.none)))

    -- which is written to a slice that stands for all of the table
    pub entries_written : (len : ℕ) → len ≡ length table → (slice new : List X) → slice ≡ table → length new ≡ length slice
        → ((net : ℕ) → net < length slice → get_or new net e.none ≡ e.add net (get_or slice net e.none) c)
        → HasEntries n e (k + 1) (take len (new ++ drop (length new) table))
    entries_written len whole slice new same long made =
        let size = long ∙ ap length same in
        subst (HasEntries n e (k + 1)) (sym (take_at new (drop (length new) table) len (size ∙ sym whole)))
        (entries_more new size (λ net lt. made net (subst (λ l. net < length l) (sym same) lt) ∙ ap (λ l. e.add net (get_or l net e.none) c) same))

  -- after all cells the table is whole
  pub entries_whole : (k : ℕ) (table : List X) (cells : List Cell) → cells ≡ n.cells → length cells ≤ k → HasEntries n e k table → IsTable n e.none (λ net. e.of net n.cells) table
  entries_whole k table cells same all so_far = record {
    sized = so_far.sized;
    each = λ net lt. so_far.each net lt ∙ ap (e.of net) (take_all k n.cells (omega (arith, all, ap length same)));
  }
