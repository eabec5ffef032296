-- Pairs that show bits, and pairs that are NULL.
use Rattle.ncl_rails.proofs.Terms.{Bool, IsNull, Nets, Rails, Shows, and_left, and_right, exchanged, false, has_data, if◌then◌else◌, is_illegal, not, or_from, or_left, or_right, true, ◌≡◌}

Shows-exchanged : (v : Nets) (r : Rails) (b : Bool) → Shows v r b → Shows v (exchanged r) (not b)
Shows-exchanged v r true shown = record { high = shown.high; low = shown.low }
Shows-exchanged v r false shown = record { high = shown.high; low = shown.low }

-- a pair that shows a bit shows the inverse when it is exchanged
pub Shows-turned : (v : Nets) (r : Rails) (b inverted : Bool) → Shows v r b → Shows v (if inverted then exchanged r else r) (if inverted then not b else b)
Shows-turned v r b true shown = Shows-exchanged v r b shown
Shows-turned v r b false shown = shown

-- a pair that is NULL is NULL when it is exchanged
pub IsNull-turned : (v : Nets) (r : Rails) (inverted : Bool) → IsNull v r → IsNull v (if inverted then exchanged r else r)
IsNull-turned v r true null = record { zero = null.one; one = null.zero }
IsNull-turned v r false null = null

pub null_has_none : (v : Nets) (r : Rails) → IsNull v r → has_data v r ≡ false
null_has_none v r null = or_from _ _ null.zero null.one

pub shown_has_data : (v : Nets) (r : Rails) (b : Bool) → Shows v r b → has_data v r ≡ true
shown_has_data v r true shown = or_right _ _ shown.high
shown_has_data v r false shown = or_left _ _ shown.high

pub shown_is_legal : (v : Nets) (r : Rails) (b : Bool) → Shows v r b → is_illegal v r ≡ false
shown_is_legal v r true shown = and_left _ _ shown.low
shown_is_legal v r false shown = and_right _ _ shown.low
