use Rattle.ncl_base.proofs.Terms.{Files, IfSome, List, MOST_BYTES, None, Option, Some, ap, arith, bytes_of, drop, drop-append_seam, length, sym, ℕ, ◌++◌, ◌+◌, ◌∙◌, ◌≡◌}
use Rattle.ncl_base.proofs.source.load.Goals as goal

-- what is left of a file is what comes after the bytes that were read
left_over : (files : Option Files) (left : Option (List ℕ)) (bytes name : List ℕ) → length bytes ≡ MOST_BYTES + 1
    → IfSome files (λ fs. (rest : List ℕ) × (left ≡ Some rest) × (bytes ++ rest ≡ bytes_of fs name))
    → IfSome files (λ fs. left ≡ Some (drop (MOST_BYTES + 1) (bytes_of fs name)))
left_over None left bytes name n told = tt
left_over (Some fs) left bytes name n (rest, is_left, joined) =
    is_left ∙ ap Some (sym (drop-append_seam bytes rest) ∙ ap (λ t. drop (length bytes) t) joined ∙ ap (λ k. drop k (bytes_of fs name)) n)

pub returns-clause-bounded : goal.returns-clause-bounded
returns-clause-bounded g c = λ _. left_over _ _ c.loop-buffer.bytes.items _ (omega arith) c.loop-buffer.invariant.told
