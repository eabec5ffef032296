-- Values of nets, and rounds in which nets rise.
use Rattle.std.specs.Prelude.{◌≡◌, ℕ, zero, suc, Bool, true, ◌||◌, ◌&&◌, cond, nat_eq, List}
use Rattle.std.specs.List.{list_any}

-- a value for each net: true is 1, high, and false is 0, low
abbrev pub Nets : Type 0
Nets = ℕ → Bool

-- each net that is high in v is high in w
abbrev pub IsBelow : Nets → Nets → Type 0
IsBelow v w = (net : ℕ) → v net ≡ true → w net ≡ true

-- v with one net changed
abbrev pub with_net : Nets → ℕ → Bool → Nets
with_net v net value other = cond (nat_eq net other) value (v other)

-- one of the nets in a list
abbrev pub among : List ℕ → Nets
among nets net = list_any (nat_eq net) nets

-- one round over cells: the output of each cell that `raises` names goes to 1, and no net falls
abbrev pub round : {C : Type 0} → (C → ℕ) → (Nets → C → Bool) → List C → Nets → Nets
round out raises cells v net = v net || list_any (λ cell. nat_eq (out cell) net && raises v cell) cells

-- so many rounds
abbrev pub rounds : {C : Type 0} → (C → ℕ) → (Nets → C → Bool) → List C → ℕ → Nets → Nets
rounds out raises cells zero v = v
rounds out raises cells (suc n) v = round out raises cells (rounds out raises cells n v)
