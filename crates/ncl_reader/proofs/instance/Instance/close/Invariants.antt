use Rattle.ncl_reader.proofs.Terms.{◌≡◌, List, ℕ, [], map, take, unwrap_or, Contains, Conn, net_on, AreJoins, pins_in}
use Rattle.ncl_reader.proofs.instance.Instance.close.Given as goal

-- the nets on the pins so far, which are joined
abbrev pub invariant-loop-pin : goal.invariant-loop-pin
invariant-loop-pin l = (conns : List Conn) → AreJoins conns l.self.joins.items → (l.pins.items ≡ map (λ pin. unwrap_or (net_on conns pin) []) (map (λ n. n.now) (take l.pin-index l.pin-items))) × ((x : List ℕ) → Contains (map (λ n. n.now) (take l.pin-index l.pin-items)) x → Contains (pins_in conns) x)
