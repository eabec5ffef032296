-- One write, or one read, more.
use Rattle.ncl_base.proofs.Terms.{Grew, GrewWithin, List, None, Option, Some, ap, append_assoc, arith, drop, length, length-drop, subst, sym, take, take-add, take-append-drop, take_all, ℕ, ◌++◌, ◌+◌, ◌-◌, ◌∙◌, ◌≡◌}

rest_whole : (bytes : List ℕ) (d : ℕ) → take (length bytes - d) (drop d bytes) ≡ drop d bytes
rest_whole bytes d = take_all _ (drop d bytes) (omega (arith, length-drop d bytes))

pub grew_on : (old mid new : Option (List ℕ)) (bytes : List ℕ) (d n : ℕ) → Grew old (take d bytes) mid → Grew mid (take n (take (length bytes - d) (drop d bytes))) new → Grew old (take (d + n) bytes) new
grew_on None mid new bytes d n a b = tt
grew_on (Some w) mid new bytes d n a b =
    let c : Grew mid (take n (drop d bytes)) new = subst (λ r. Grew mid (take n r) new) (rest_whole bytes d) b in
    let e : new ≡ Some ((w ++ take d bytes) ++ take n (drop d bytes)) = subst (λ m. Grew m (take n (drop d bytes)) new) a c in
    e ∙ ap Some (append_assoc w (take d bytes) (take n (drop d bytes)) ∙ ap (λ t. w ++ t) (sym (take-add d n bytes)))

pub grew_part : (old mid : Option (List ℕ)) (bytes : List ℕ) (d : ℕ) → Grew old (take d bytes) mid → (new : Option (List ℕ)) → new ≡ mid → GrewWithin old bytes new
grew_part None mid bytes d a new e = tt
grew_part (Some w) mid bytes d a new e = (take d bytes, drop d bytes, e ∙ a, sym (take-append-drop d bytes))
