-- What is on the pins of a gate, made pin after pin.
use Rattle.ncl_template.proofs.Terms.{List, [], ap, arith, get_or, length, length-map, length-take-le, map, take, take_all, ℕ, ◌++◌, ◌+◌, ◌<◌, ◌∙◌, ◌∷◌, ◌≡◌, ◌≤◌}
use Rattle.ncl_base.proofs.Growing.{map_push}

pub values-room : {X Y : Type 0} (f : X → Y) (pins read : List X) (i : ℕ) (made : List Y) → read ≡ pins → i < length read → length pins ≤ 4 → made ≡ map f (take i pins) → length made < 4
values-room f pins read i made same lt few is =
    let count = ap length same in
    let some = ap length is ∙ length-map (take i pins) f ∙ length-take-le i pins (omega (arith, count, lt)) in
    omega (arith, some, count, lt, few)

pub values-more : {X Y : Type 0} (f : X → Y) (pins read : List X) (i : ℕ) (d : X) (made new : List Y) (y : Y) → read ≡ pins → i < length read → made ≡ map f (take i pins) → y ≡ f (get_or read i d) → new ≡ made ++ y ∷ [] → new ≡ map f (take (i + 1) pins)
values-more f pins read i d made new y same lt is shows pushed =
    let count = ap length same in
    map_push f pins i d made new y (omega (arith, count, lt)) is (shows ∙ ap (λ xs. f (get_or xs i d)) same) pushed

pub values-whole : {X Y : Type 0} (f : X → Y) (pins read : List X) (i : ℕ) (made : List Y) → read ≡ pins → length read ≤ i → made ≡ map f (take i pins) → made ≡ map f pins
values-whole f pins read i made same all is =
    let count = ap length same in
    is ∙ ap (map f) (take_all i pins (omega (arith, count, all)))
