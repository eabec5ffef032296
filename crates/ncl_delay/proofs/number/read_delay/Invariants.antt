use Rattle.ncl_delay.proofs.Terms.{AllDigits, digits_value, is_ascii_digit, list_all, take, true, ◌≡◌}
use Rattle.ncl_delay.proofs.number.read_delay.Given as goal

-- the bytes so far are digits, and the value is theirs
abbrev pub invariant-loop-byte : goal.invariant-loop-byte
invariant-loop-byte l =
    let so_far = take l.byte-index l.field in
    (list_all is_ascii_digit so_far ≡ true) × AllDigits 10 so_far × (l.value ≡ digits_value 10 so_far)
