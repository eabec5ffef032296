use Rattle.ncl_diagram.proofs.Terms.{Bool, List, Node, Option, Ref, ap, arith, branch, child, constant_place, false, least, not, subst, sym, table_from, true, ℕ, ◌+◌, ◌∙◌, ◌≡◌, ◌≢◌}
use Rattle.ncl_diagram.proofs.Joining.{branch_at}
use Rattle.ncl_diagram.proofs.LeastLaws.{Walks, least-constant, walks_end, walks_high, walks_low}
use Rattle.ncl_diagram.proofs.Rails.{table_from-constant}
use Rattle.ncl_diagram.proofs.least.find_least.Goals as goal
use Rattle.ncl_diagram.proofs.least.find_least.Goals.{then-low-never, else-low-never}

pub returns-then-x-never-clause-word : goal.returns-then-x-never-clause-word
returns-then-x-never-clause-word g c =
    ap (λ (p : ℕ). least c.args.value c.args.width (table_from c.args.nodes.now c.args.width 0 p)) (c.if-x-never.true ∙ c.constant-never.ensures)
    ∙ ap (least c.args.value c.args.width) (table_from-constant c.args.nodes.now (not c.args.value) c.args.width 0)
    ∙ least-constant c.args.width c.args.value

pub loop-bit-preserved : goal.loop-bit-preserved
loop-bit-preserved g c =
    let n : ℕ = c.args.width in
    let nodes : List Node = c.args.nodes.now in
    let bit : ℕ = c.loop-bit.bit in
    let p : ℕ = c.loop-bit.at.place in
    let whole : Option (List Bool) = least c.args.value n (table_from nodes n 0 c.args.x.place) in
    let low : c.child-low.result.place ≡ branch nodes bit false p = c.child-low.ensures ∙ ap (child bit false p) c.read-node.ensures.node ∙ sym (branch_at nodes bit false p) in
    elim c.if-low-never.branch [
      | then-low-never w ↦
          let some : branch nodes bit false p ≢ constant_place (not c.args.value) = λ e. w.if-low-never.true (low ∙ e ∙ sym c.constant-never.ensures) in
          let walks = walks_low n nodes c.args.value whole bit p c.loop-bit.word c.requires.canonical c.loop-bit-test.true c.loop-bit.invariant some in
          subst (λ (q : ℕ). Walks n nodes c.args.value whole (bit + 1) q c.if-low-never.word) (sym (ap (λ (r : Ref). r.place) w.at-is ∙ low))
          (subst (λ (prefix : List Bool). Walks n nodes c.args.value whole (bit + 1) (branch nodes bit false p) prefix) (sym (w.word-is ∙ w.push.ensures)) walks)
      | else-low-never w ↦
          let none : branch nodes bit false p ≡ constant_place (not c.args.value) = sym low ∙ w.if-low-never.false ∙ c.constant-never.ensures in
          let high : w.child-at.result.place ≡ branch nodes bit true p = w.child-at.ensures ∙ ap (child bit true p) c.read-node.ensures.node ∙ sym (branch_at nodes bit true p) in
          let walks = walks_high n nodes c.args.value whole bit p c.loop-bit.word c.requires.canonical c.loop-bit-test.true c.loop-bit.invariant none in
          subst (λ (q : ℕ). Walks n nodes c.args.value whole (bit + 1) q c.if-low-never.word) (sym (ap (λ (r : Ref). r.place) w.at-is ∙ high))
          (subst (λ (prefix : List Bool). Walks n nodes c.args.value whole (bit + 1) (branch nodes bit true p) prefix) (sym (w.word-is ∙ w.push-else-low-never.ensures)) walks)
    ]

pub returns-clause-word : goal.returns-clause-word
returns-clause-word g c =
    let n : ℕ = c.args.width in
    let nodes : List Node = c.args.nodes.now in
    let whole : Option (List Bool) = least c.args.value n (table_from nodes n 0 c.args.x.place) in
    let end : c.loop-bit.bit ≡ n = omega arith in
    walks_end n nodes c.args.value whole c.loop-bit.at.place c.loop-bit.word c.requires.canonical
    (subst (λ (level : ℕ). Walks n nodes c.args.value whole level c.loop-bit.at.place c.loop-bit.word) end c.loop-bit.invariant)
