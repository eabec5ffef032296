-- The nodes that one node becomes, and how far the nodes of a network are split.
use Rattle.std.specs.Prelude.{◌≡◌, ℕ, ◌+◌, ◌*◌, ◌<◌, ◌≤◌, List, [], ◌∷◌, ◌++◌, Bool, false, length, map, sum_by, All}
use Rattle.std.specs.List.{list_any, list_all}
use Rattle.ncl_blif.specs.Meaning.{cover_value}
use Rattle.ncl_blif.specs.Model.{weight_of_rows}
use Rattle.ncl_network.specs.declared.network.Signal.{Signal}
use Rattle.ncl_network.specs.declared.network.Node.{Node}
use Rattle.ncl_network.specs.Network.{signal_value, node_values, is_constant, IsSource, ReadBefore}
use Rattle.ncl_decomp.specs.Products.{total, IsFilled}
use Rattle.ncl_decomp.specs.Split.{IsNarrow, IsOfTwoOr, cost_of_nodes}

-- there is what the signals are of, where there are so many inputs and nodes, and none of them is constant
pub record AreVarying (inputs count : ℕ) (signals : List Signal) : Type 0 where
  pub exist : All (λ signal. IsSource inputs count signal.from) signals
  pub vary : All (λ signal. is_constant signal.from ≡ false) signals

-- products in another order, with signals that some of them have in front, tell the same
pub record IsSameSum (sum new : List (List Signal)) : Type 0 where
  pub as_many : length new ≡ length sum
  pub few : total new ≤ total sum
  pub filled : All IsFilled sum → All IsFilled new
  pub varying : (inputs count : ℕ) → All (AreVarying inputs count) sum → All (AreVarying inputs count) new
  pub same : (test : Signal → Bool) → list_any (list_all test) new ≡ list_any (list_all test) sum

-- nodes after so many others tell of each product whether it is 1
pub record TellProducts (inputs count : ℕ) (sum : List (List Signal)) (made : List Node) (terms : List Signal) : Type 0 where
  -- they are nodes of two inputs, in order
  pub narrow : All IsNarrow made
  pub pairs : All (λ node. length node.ins ≡ 2) made
  pub reads_before : ReadBefore inputs count made
  -- the term of each product is 1 where all its signals are
  pub varying : AreVarying inputs (count + length made) terms
  pub values : (word bits : List Bool) → length bits ≡ count → map (signal_value word (node_values word bits made)) terms ≡ map (list_all (signal_value word bits)) sum

-- such nodes are added, with a term for each product, no more of both than the products have signals
pub record AddsTerms (sum : List (List Signal)) (before after : List Node) (terms : List Signal) : Type 0 where
  pub made : List Node
  pub added : after ≡ before ++ made
  pub as_many : length terms ≡ length sum
  pub few : length made + length terms ≤ total sum
  pub tell : (inputs : ℕ) → All (AreVarying inputs (length before)) sum → TellProducts inputs (length before) sum made terms

-- nodes after so many others make new products out of some, whose sum is the same
pub record TellSum (inputs count : ℕ) (sum : List (List Signal)) (made : List Node) (new : List (List Signal)) : Type 0 where
  pub narrow : All IsNarrow made
  pub pairs : All (λ node. length node.ins ≡ 2) made
  pub reads_before : ReadBefore inputs count made
  pub varying : All (AreVarying inputs (count + length made)) new
  pub values : (word bits : List Bool) → length bits ≡ count → list_any (list_all (signal_value word (node_values word bits made))) new ≡ list_any (list_all (signal_value word bits)) sum

-- such nodes are added, no more than there are signals less in the products
pub record AddsSum (sum : List (List Signal)) (before after : List Node) (new : List (List Signal)) : Type 0 where
  pub made : List Node
  pub added : after ≡ before ++ made
  pub few : length made + total new ≤ total sum
  pub shorter : length new ≤ length sum
  pub some : 0 < length sum → 0 < length new
  pub filled : All IsFilled sum → All IsFilled new
  pub tell : (inputs : ℕ) → All (AreVarying inputs (length before)) sum → TellSum inputs (length before) sum made new

-- a node with these inputs becomes nodes after so many others, of which this is the signal
pub record Becomes (inputs count : ℕ) (ins : List Signal) (node : Node) (made : List Node) (image : Signal) : Type 0 where
  pub narrow : All IsNarrow made
  pub kinds : All (IsOfTwoOr (node ∷ [])) made
  pub reads_before : ReadBefore inputs count made
  pub exists : IsSource inputs (count + length made) image.from
  pub varies : is_constant image.from ≡ false
  pub value : (word bits : List Bool) → length bits ≡ count → signal_value word (node_values word bits made) image ≡ cover_value node.on node.rows (map (signal_value word bits) ins)
  pub cost : cost_of_nodes made ≤ 5 * weight_of_rows node.rows

-- such nodes are added, no more than the node weighs
pub record AddsNode (ins : List Signal) (node : Node) (before after : List Node) (image : Signal) : Type 0 where
  pub made : List Node
  pub added : after ≡ before ++ made
  pub few : length made ≤ weight_of_rows node.rows
  pub becomes : (inputs : ℕ) → AreVarying inputs (length before) ins → Becomes inputs (length before) ins node made image

-- the first nodes of a network are split into nodes, and these are their signals
pub record AreSplit (inputs : ℕ) (done nodes : List Node) (images : List Signal) : Type 0 where
  -- each node has a signal, and its bits
  pub as_many : length images ≡ length done
  pub varying : AreVarying inputs (length nodes) images
  pub values : (word : List Bool) → map (signal_value word (node_values word [] nodes)) images ≡ node_values word [] done
  -- the nodes are narrow and in order, and cost no more than they may
  pub narrow : All IsNarrow nodes
  pub kinds : All (IsOfTwoOr done) nodes
  pub reads_before : ReadBefore inputs 0 nodes
  pub few : length nodes ≤ sum_by (λ node. weight_of_rows node.rows) done
  pub cost : cost_of_nodes nodes ≤ 5 * sum_by (λ node. weight_of_rows node.rows) done
