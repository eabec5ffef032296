use Rattle.ncl_compile.proofs.Terms.{BankParts, IsBankBetween, Some, length, pairs_read, slice_get, slice_index, width_of, widths_of, ℕ, ◌≡◌}
use Rattle.ncl_compile.proofs.banks.banks_of.Given as goal

abbrev pub invariant-loop-number : goal.invariant-loop-number
invariant-loop-number l =
    (length l.banks.items ≡ l.number)
    × ((k : ℕ) (bank : BankParts) → slice_get l.banks.items k ≡ Some bank → IsBankBetween (pairs_read (width_of l.models) l.stages k) (length l.models) k (slice_index (widths_of l.models) k) bank)
