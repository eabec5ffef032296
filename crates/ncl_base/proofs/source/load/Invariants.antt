use Rattle.ncl_base.proofs.Terms.{IfSome, IsTrue, List, MOST_BYTES, Some, bytes_of, raised, vec_len, ℕ, ◌++◌, ◌+◌, ◌-◌, ◌≡◌, ◌≤◌, ◌⊎◌}
use Rattle.ncl_base.proofs.source.load.Given as goal

-- what was read, and what is left, is the file
abbrev pub invariant-loop-buffer : goal.invariant-loop-buffer
invariant-loop-buffer g l = record {
  within : vec_len l.bytes ≤ MOST_BYTES + 1;
  told : IfSome (g.S.Source.files l.fn.source) (λ fs. (rest : List ℕ) × (g.S.Source.left l.source ≡ Some rest) × (l.bytes.items ++ rest ≡ bytes_of fs l.fn.name));
  files : g.S.Source.files l.source ≡ g.S.Source.files l.fn.source;
  given : ((vec_len l.bytes ≡ 0) × (g.S.Source.given l.source ≡ g.S.Source.given l.fn.source)) ⊎ (g.S.Source.given l.source ≡ raised (g.S.Source.given l.fn.source) (vec_len l.bytes));
  opens : g.S.Source.opens l.source ≡ raised (g.S.Source.opens l.fn.source) 1;
  faults : g.S.Source.faults l.fn.source ≤ g.S.Source.faults l.source;
  allowed : g.S.Source.allowed l.source ≡ g.S.Source.allowed l.fn.source;
  begun : IsTrue (g.S.Source.begun l.source);
}

abbrev pub decreases-loop-buffer : goal.decreases-loop-buffer
decreases-loop-buffer g l = MOST_BYTES + 1 - vec_len l.bytes
