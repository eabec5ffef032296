-- The nets of a stage and of a tree: what belongs to one is listed among its nets.
use Rattle.ncl_machine.proofs.Terms.{All-contains, Bool, Cell, Contains, Contains-from_Member, IsLayoutOf, IsStage, Layout, Member, Member-append_left, Member-append_right, Member-from_Contains, Member-map, NetId, PipelineData, Rails, StageCell, StageData, arith, cases_lt, get_or, here, inl, inr, length, map, net_of, nets_of, no_rails, out_of, out_rail, rail-no_output, rail-within, rail_at, rail_nets, rails_within, refl, same_output, stage_nets, subst, suc, sym, width, ℕ, ◌<◌, ◌≡◌, ◌≤◌}
use Rattle.ncl_machine.proofs.InOrder.{in_order}

-- bit b of bank k
abbrev pub in_bit : Layout → ℕ → ℕ → Rails
in_bit l k b = get_or (l.stage k).inputs b no_rails

-- a rail of the inputs, a gate's output, and a rail of the outputs
pub rail-listed : (s : StageData) (b : ℕ) (r : Bool) → b < length s.inputs → Member (rail_at s.inputs b r) (nets_of s.inputs s.cells)
rail-listed s b r lt = Member-append_left (rail_at s.inputs b r) (map out_of s.cells) (rail-within s.inputs b r lt)

pub gate-listed : (s : StageData) (g : StageCell) → Member g s.cells → Member (out_of g) (nets_of s.inputs s.cells)
gate-listed s g m = Member-append_right (rail_nets s.inputs) (out_of g) (Member-map out_of g m)

module _ {s : StageData} (is : IsStage s) where
  -- what drives the outputs is known
  known : (net : ℕ) → Member net (rail_nets s.outputs) → Member net (nets_of s.inputs s.cells)
  known net m =
      Member-from_Contains (nets_of s.inputs s.cells) net
      (All-contains (λ net. Contains (nets_of s.inputs s.cells) net) (rail_nets s.outputs) net is.outputs_known (Contains-from_Member net m))

  pub output-listed : (j : ℕ) (r : Bool) → j < length s.outputs → Member (rail_at s.outputs j r) (nets_of s.inputs s.cells)
  output-listed j r lt = known (rail_at s.outputs j r) (rail-within s.outputs j r lt)

  pub outputs-listed : (r : Rails) → Member r s.outputs → Member r.zero.0 (nets_of s.inputs s.cells) × Member r.one.0 (nets_of s.inputs s.cells)
  outputs-listed r m = let (zero_in, one_in) = rails_within r m in (known r.zero.0 zero_in, known r.one.0 one_in)

  -- a gate reads nets of its stage
  pub inputs-listed : (g : StageCell) → Member g s.cells → (x : NetId) → Member x g.ins.items → Member x.0 (nets_of s.inputs s.cells)
  inputs-listed g m =
      (in_order s is (λ y. Member y (nets_of s.inputs s.cells) × ((c : StageCell) → Member c s.cells → out_of c ≡ y → (x : NetId) → Member x c.ins.items → Member x.0 (nets_of s.inputs s.cells)))
      (λ y rail. (Member-append_left y (map out_of s.cells) rail, λ c n e x r. absurd (rail-no_output s is y rail c n e)))
      (λ c n reads. (gate-listed s c n, λ d n' e x r. (reads x (subst (λ (k : StageCell). Member x k.ins.items) (same_output s is d c n' n e) r)).0))
      (out_of g) (gate-listed s g m)).1 g m refl

module _ {p : PipelineData} {l : Layout} (is : IsLayoutOf p l) where
  -- the net of a cell of a tree, and the root of each, the sink's too
  pub tree-listed : (j : ℕ) (z : Cell) → j < l.last → Member z (l.tree j) → Member z.out.0 (l.tree_nets j)
  tree-listed j z lt m = subst (Member z.out.0) (sym (is.tree_outputs j lt)) (Member-map net_of z m)

  pub ki-listed : Member p.ki (l.tree_nets l.last)
  ki-listed = subst (Member p.ki) (sym is.ki_nets) here

  pub root-listed : (j : ℕ) → j ≤ l.last → Member (l.root j) (l.tree_nets j)
  root-listed j le =
      elim (cases_lt j l.last) [
        | inl lt ↦ let (c, m, e) = is.root_in j lt in subst (λ x. Member x (l.tree_nets j)) e (tree-listed j c lt m)
        | inr past ↦
            let e : l.last ≡ j = omega (arith, le, past) in
            subst (λ x. Member (l.root x) (l.tree_nets x)) e (subst (λ x. Member x (l.tree_nets l.last)) (sym is.ki) ki-listed)
      ]

  -- a bank has as many bits as the stage before it has outputs
  pub in_outputs : (j b : ℕ) → j < l.last → b < width l (suc j) → b < length (l.stage j).outputs
  in_outputs j b lt within = let same = is.joined j lt in omega (arith, within, same)

  -- the A nets of a bank are outputs of the stage before it
  pub out-listed : (j b : ℕ) (r : Bool) → j < l.last → b < width l (suc j) → Member (out_rail l j b r) (stage_nets l j)
  out-listed j b r lt within = output-listed (is.is_stage j (omega (arith, lt))) b r (in_outputs j b lt within)
