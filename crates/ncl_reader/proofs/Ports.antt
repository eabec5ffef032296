-- What a header keeps of a name, and its ports: those of a name, that they differ, and that they are few.
pub use Rattle.ncl_reader.proofs.Terms.{◌≡◌, ℕ, arith, List, [], ◌∷◌, ◌++◌, Bool, true, false, not, cond, subst, Option, Some, None, inl, inr, refl, sym, ap, ◌∙◌, Contains, list_any, is_some, option_or, bytes_eq, false≢true, find-append, IsDistinct-push, IsDistinct-from_apart, nat_eq_equiv, lists_equiv, bytes_eq-Decides, ◌||◌, AllDiffer, Said, said_at, names_said, way_by, way_of, LacksWay, ◌≢◌, map, MatchOption, option_map, same_Some, Span, Lexeme, Range, span_of, numbers_of, bit_name, IsDeclared, Ranges, range_at, IsRanges, ports_of, AreDeclared, ports_at, ports_by, bit_port, suc, ◌+◌, ◌-◌, ◌<◌, ◌≤◌, length, get_or, ◌⊎◌, flat_map, cases_lt, map-append, get_or-map, length-map, IsDistinct-tail, IsDistinct-cons, apart_from_distinct, member_of_flat_map, Member, here, there, Member-append_cases, member_of_map, Contains-from_Member, recursion_from_members, Port, width, Covers, Stands, IsVector, IsClear, bits_of, length-append, sum_by-cons, range_width, bits_said, Contains-append_cases, btree_map_updates_str, span_width, rules, map_push, Contains-append_left, take, Bor, append-nil, flat_map-append, KeepsNames, header_of, AreCellsOf, joined_in, said_by, ended, spelled}
pub use Rattle.ncl_reader.proofs.Among.{contains-from_any, any-from_contains, any-push, bytes_eq-comm, found-among, found-name, none-among, single, taken}
use Rattle.ncl_reader.proofs.Bits.{bit_name-injective, at_default, length-numbers_of, number-rises, number-falls, few_bit}
pub use Rattle.ncl_reader.proofs.SaidDeclared.{names-append, bits-push, said_declared, header_stands, header_few}

-- what is told of the first that is said
pub said-here : (x : List ℕ) (s : Said) (said : List Said) → bytes_eq s.name x ≡ true → said_at (s ∷ said) x ≡ Some s
said-here x s said e = rw e refl

pub said-there : (x : List ℕ) (s : Said) (said : List Said) → bytes_eq s.name x ≡ false → said_at (s ∷ said) x ≡ said_at said x
said-there x s said e = rw e refl

-- what is found was said of the name
pub some-said : (x : List ℕ) (said : List Said) (s : Said) → said_at said x ≡ Some s → Contains said s × (s.name ≡ x)
some-said x said s = found-among (λ (s : Said). s.name) x said s

pub found-said : (x : List ℕ) (said : List Said) (s : Said) → said_at said x ≡ Some s → Contains (names_said said) x
found-said x said s = found-name (λ (s : Said). s.name) x said s

pub not-said : (x : List ℕ) (said : List Said) → (Contains (names_said said) x → ⊥) → said_at said x ≡ None
not-said x said absent = by (said_at said x) refl
  where
    by : (found : Option Said) → said_at said x ≡ found → found ≡ None
    by None e = refl
    by (Some s) e = absurd (absent (found-said x said s e))

pub not_any : (b : Bool) → (b ≡ true → ⊥) → b ≡ false
not_any true wrong = absurd (wrong refl)
not_any false wrong = refl

-- no names differ, and so do names and a new one
pub differ_none : AllDiffer []
differ_none = IsDistinct-from_apart bytes_eq [] (λ i j d lower within. absurd (omega arith))

pub differ_more : (names : List (List ℕ)) (x : List ℕ) → AllDiffer names → (Contains names x → ⊥) → AllDiffer (names ++ x ∷ [])
differ_more names x all new = IsDistinct-push (lists_equiv nat_eq_equiv) names x all (not_any (list_any (bytes_eq x) names) (λ is. new (contains-from_any x names is)))

-- whether a name has a direction, by what is kept
abbrev pub LacksOf : Option (Option Bool) → Bool → Type 0
LacksOf (Some None) b = b ≡ true
LacksOf way b = b ≡ false

pub none-test : (w : Option Bool) (b : Bool) → is_some w ≡ not b → LacksOf (Some w) b
none-test None true e = refl
none-test (Some v) false e = refl
none-test None false e = absurd (false≢true e)
none-test (Some v) true e = absurd (false≢true (sym e))

lacks_by : (names : List (List ℕ)) (said : List Said) (x : List ℕ) (found : Option Said) (listed : Bool) (way : Option (Option Bool)) (b : Bool) → said_at said x ≡ found → list_any (bytes_eq x) names ≡ listed → way_by found listed ≡ way → LacksOf way b → LacksWay b names said x
lacks_by names said x (Some s) listed (Some (Some w)) false f l e is = inr (found-said x said s f)
lacks_by names said x (Some s) listed (Some (Some w)) true f l e is = absurd (false≢true (sym is))
lacks_by names said x None true (Some None) true f l e is = (contains-from_any x names l, none-among (λ (s : Said). s.name) x said f)
lacks_by names said x None true (Some None) false f l e is = absurd (false≢true is)
lacks_by names said x None false None false f l e is = inl (λ stands. false≢true (sym l ∙ any-from_contains x names stands))
lacks_by names said x None false None true f l e is = absurd (false≢true (sym is))
lacks_by names said x found listed way b f l e is = absurd cc

pub lacks : (names : List (List ℕ)) (said : List Said) (x : List ℕ) (way : Option (Option Bool)) (b : Bool) → way_of names said x ≡ way → LacksOf way b → LacksWay b names said x
lacks names said x way b e is = lacks_by names said x (said_at said x) (list_any (bytes_eq x) names) way b refl refl e is

-- something is kept of the names of the header alone
listed_by : (found : Option Said) (listed : Bool) → (found ≡ None → listed ≡ true) → is_some (way_by found listed) ≡ true
listed_by (Some s) listed is = refl
listed_by None true is = refl
listed_by None false is = absurd (false≢true (is refl))

pub kept_some : (names : List (List ℕ)) (said : List Said) (x : List ℕ) → Contains names x → is_some (way_of names said x) ≡ true
kept_some names said x stands = listed_by (said_at said x) (list_any (bytes_eq x) names) (λ none. any-from_contains x names stands)

kept_by : (names : List (List ℕ)) (said : List Said) (x : List ℕ) → ((y : List ℕ) → Contains (names_said said) y → Contains names y) → (found : Option Said) (listed : Bool) → said_at said x ≡ found → list_any (bytes_eq x) names ≡ listed → is_some (way_by found listed) ≡ true → Contains names x
kept_by names said x known (Some s) listed f l e = known x (found-said x said s f)
kept_by names said x known None true f l e = contains-from_any x names l
kept_by names said x known None false f l e = absurd (false≢true e)

pub kept_known : (names : List (List ℕ)) (said : List Said) (x : List ℕ) → ((y : List ℕ) → Contains (names_said said) y → Contains names y) → is_some (way_of names said x) ≡ true → Contains names x
kept_known names said x known e = kept_by names said x known (said_at said x) (list_any (bytes_eq x) names) refl refl e

-- a name more in the header
more_by : (here : Bool) (found : Option Said) (listed : Bool) → (here ≡ true → found ≡ None) → cond here (Some None) (way_by found listed) ≡ way_by found (listed || here)
more_by true (Some s) listed new = let bad : Some s ≡ None = new refl in absurd cc
more_by true None true new = refl
more_by true None false new = refl
more_by false (Some s) listed new = refl
more_by false None true new = refl
more_by false None false new = refl

pub name_more : (names : List (List ℕ)) (said : List Said) (x y : List ℕ) → (Contains (names_said said) x → ⊥) → cond (bytes_eq x y) (Some None) (way_of names said y) ≡ way_of (names ++ x ∷ []) said y
name_more names said x y new =
    more_by (bytes_eq x y) (said_at said y) (list_any (bytes_eq y) names) (λ here. subst (λ z. said_at said z ≡ None) ((bytes_eq-Decides x y).0 here) (not-said x said new))
    ∙ ap (way_by (said_at said y)) (ap (λ b. list_any (bytes_eq y) names || b) (bytes_eq-comm x y) ∙ sym (any-push y names x))

-- a direction more
direct_by : (s : Said) (y : List ℕ) (here : Bool) (found : Option Said) (listed : Bool) → bytes_eq s.name y ≡ here → (here ≡ true → found ≡ None) → cond here (Some (Some s.output)) (way_by found listed) ≡ way_by (option_or found (said_at (s ∷ []) y)) listed
direct_by s y true (Some t) listed is new = let bad : Some t ≡ None = new refl in absurd cc
direct_by s y true None listed is new = ap (λ f. way_by f listed) (sym (said-here y s [] is))
direct_by s y false (Some t) listed is new = refl
direct_by s y false None listed is new = ap (λ f. way_by f listed) (sym (said-there y s [] is))

pub direction_more : (names : List (List ℕ)) (said : List Said) (s : Said) (y : List ℕ) → (Contains (names_said said) s.name → ⊥) → cond (bytes_eq s.name y) (Some (Some s.output)) (way_of names said y) ≡ way_of names (said ++ s ∷ []) y
direction_more names said s y new =
    direct_by s y (bytes_eq s.name y) (said_at said y) (list_any (bytes_eq y) names) refl (λ here. subst (λ z. said_at said z ≡ None) ((bytes_eq-Decides s.name y).0 here) (not-said s.name said new))
    ∙ ap (λ f. way_by f (list_any (bytes_eq y) names)) (sym (find-append (λ (t : Said). bytes_eq t.name y) said (s ∷ [])))

bit_ports : (x : List ℕ) (output : Bool) (ks : List ℕ) → map (λ bit. record { name = bit; output = output }) (map (bit_name x) ks) ≡ map (bit_port x output) ks
bit_ports x output [] = refl
bit_ports x output (k ∷ ks) = ap (λ l. bit_port x output k ∷ l) (bit_ports x output ks)

ports_same : (x : List ℕ) (output : Bool) (range : Option Range) → ports_of (Some (record { name = x; output = output; range = range })) ≡ ports_by x output (option_map span_of range)
ports_same x output None = refl
ports_same x output (Some range) = bit_ports x output (numbers_of (span_of range))

-- what is kept as a direction was said
directed_by_said : (w : Bool) (found : Option Said) (listed : Bool) → way_by found listed ≡ Some (Some w) → (s : Said) × (found ≡ Some s) × (s.output ≡ w)
directed_by_said w (Some s) listed e = (s, refl, cc)
directed_by_said w None true e = absurd cc
directed_by_said w None false e = absurd cc

module _ (ranges : Ranges) (xs : List Lexeme) (is : IsRanges ranges xs) (said : List Said) (declared : AreDeclared xs said) (names : List (List ℕ)) (x : List ℕ) where
  ranged : (s : Said) → said_at said x ≡ Some s → range_at ranges x ≡ Some (option_map span_of s.range)
  ranged s found =
      let (among, name) = some-said x said s found in
      is.declared x s.range (subst (λ y. IsDeclared xs y s.range) name (declared s among))

  ports-found : (w : Bool) (span : Option Span) → way_of names said x ≡ Some (Some w) → range_at ranges x ≡ Some span → ports_at said x ≡ ports_by x w span
  ports-found w span way at =
      let (s, found, output) = directed_by_said w (said_at said x) (list_any (bytes_eq x) names) way in
      let name = (some-said x said s found).1 in
      let same : option_map span_of s.range ≡ span = same_Some (option_map span_of s.range) span (sym (ranged s found) ∙ at) in
      ap ports_of found ∙ ports_same s.name s.output s.range ∙ (λ i. ports_by (name i) (output i) (same i))

  unranged : (span : Option Span) → range_at ranges x ≡ Some span → ((other : Span) → range_at ranges x ≢ Some (Some other)) → range_at ranges x ≡ Some None
  unranged None at none = at
  unranged (Some span) at none = absurd (none span at)

  pub ports-vector : (w : Bool) (span : Option Span) → way_of names said x ≡ Some (Some w) → MatchOption span ((other : Span) → range_at ranges x ≢ Some (Some other)) (λ found. range_at ranges x ≡ Some (Some found)) → ports_at said x ≡ ports_by x w span
  ports-vector w (Some span) way at = ports-found w (Some span) way at
  ports-vector w None way none =
      let (s, found, output) = directed_by_said w (said_at said x) (list_any (bytes_eq x) names) way in
      ports-found w None way (unranged (option_map span_of s.range) (ranged s found) none)

-- a name without a direction has no ports
undirected_by : (found : Option Said) (listed : Bool) → ((w : Bool) → way_by found listed ≢ Some (Some w)) → ports_of found ≡ []
undirected_by None listed other = refl
undirected_by (Some s) listed other = absurd (other s.output refl)

pub ports-undirected : (names : List (List ℕ)) (said : List Said) (x : List ℕ) → ((w : Bool) → way_of names said x ≢ Some (Some w)) → ports_at said x ≡ []
ports-undirected names said x other = undirected_by (said_at said x) (list_any (bytes_eq x) names) other

-- a name differs from those behind it
pub differ_member : (x : List ℕ) (names : List (List ℕ)) → AllDiffer (x ∷ names) → (y : List ℕ) → Member y names → x ≡ y → ⊥
differ_member x names all y among same =
    let (i, within, at) = Contains-from_Member y among in
    let apart : bytes_eq x (get_or names i y) ≡ false = apart_from_distinct bytes_eq (x ∷ names) 0 (suc i) y all (omega arith) (omega (arith, within)) in
    false≢true (sym apart ∙ (bytes_eq-Decides x (get_or names i y)).1 (same ∙ sym at))

-- names and others, of which none is among them
differ_join : (a b : List (List ℕ)) → AllDiffer a → AllDiffer b → ((z : List ℕ) → Member z a → Member z b → ⊥) → AllDiffer (a ++ b)
differ_join [] b one two apart = two
differ_join (x ∷ a) b one two apart =
    IsDistinct-cons bytes_eq x (a ++ b)
    (recursion_from_members (λ y. bytes_eq x y ≡ false) (a ++ b) (λ y among. not_any (bytes_eq x y) (λ same. elim (Member-append_cases y a b among) [
      | inl front ↦ differ_member x a one y front ((bytes_eq-Decides x y).0 same)
      | inr back ↦ apart y (subst (λ z. Member z (x ∷ a)) ((bytes_eq-Decides x y).0 same) here) back
    ])))
    (differ_join a b (IsDistinct-tail bytes_eq x a one) two (λ z front back. apart z (there front) back))

-- names of names, of which two have none in common
differ_flat : (g : List ℕ → List (List ℕ)) (names : List (List ℕ)) → AllDiffer names → ((x : List ℕ) → Member x names → AllDiffer (g x)) → ((x y z : List ℕ) → Member x names → Member y names → Member z (g x) → Member z (g y) → x ≡ y) → AllDiffer (flat_map g names)
differ_flat g [] all each one = differ_none
differ_flat g (x ∷ names) all each one =
    differ_join (g x) (flat_map g names) (each x here)
    (differ_flat g names (IsDistinct-tail bytes_eq x names all) (λ y among. each y (there among)) (λ y w z first second. one y w z (there first) (there second)))
    (λ z front back. let (y, among, is) = member_of_flat_map g names z back in differ_member x names all y among (one x y z here (there among) front is))

-- the numbers of a vector are covered, and differ
number_at : (span : Span) (i : ℕ) → i < width span → ((span.first ≤ span.last) × (get_or (numbers_of span) i 0 ≡ span.first + i)) ⊎ ((span.last < span.first) × (get_or (numbers_of span) i 0 ≡ span.first - i))
number_at span i within = elim (cases_lt span.last span.first) [
  | inl falls ↦ inr (falls, sym (number-falls span i falls within))
  | inr rises ↦ inl (rises, sym (number-rises span i rises within))
]

covers_at : (span : Span) (i : ℕ) → i < width span → Covers span (get_or (numbers_of span) i 0)
covers_at span i within = elim (number_at span i within) [
  | inl rises ↦ inl (omega (arith, rises, within), omega (arith, rises, within))
  | inr falls ↦ inr (omega (arith, falls, within), omega (arith, falls, within))
]

other_number : (span : Span) (i j : ℕ) → i < j → j < width span → get_or (numbers_of span) i 0 ≡ get_or (numbers_of span) j 0 → ⊥
other_number span i j before within same = elim (number_at span j within) [
  | inl rises ↦ elim (number_at span i (omega (arith, before, within))) [
    | inl too ↦ omega (arith, rises, too, same, before)
    | inr falls ↦ omega (arith, rises.0, falls.0)
  ]
  | inr falls ↦ elim (number_at span i (omega (arith, before, within))) [
    | inl rises ↦ omega (arith, rises.0, falls.0)
    | inr too ↦ omega (arith, falls, too, same, before, within)
  ]
]

-- the bits of a vector
module _ (x : List ℕ) (span : Span) (few : (k : ℕ) → Covers span k → k < 65536) where
  bit_at : (i : ℕ) (d : List ℕ) → i < width span → get_or (map (bit_name x) (numbers_of span)) i d ≡ bit_name x (get_or (numbers_of span) i 0)
  bit_at i d within = get_or-map (bit_name x) (numbers_of span) i 0 d (omega (arith, within, length-numbers_of span))

  bits_differ : AllDiffer (map (bit_name x) (numbers_of span))
  bits_differ = IsDistinct-from_apart bytes_eq (map (bit_name x) (numbers_of span)) (λ i j d before within. not_any (bytes_eq (get_or (map (bit_name x) (numbers_of span)) i d) (get_or (map (bit_name x) (numbers_of span)) j d)) (λ same.
      let less : j < width span = omega (arith, within, length-map (numbers_of span) (bit_name x), length-numbers_of span) in
      let first = few (get_or (numbers_of span) i 0) (covers_at span i (omega (arith, before, less))) in
      let second = few (get_or (numbers_of span) j 0) (covers_at span j less) in
      let names = sym (bit_at i d (omega (arith, before, less))) ∙ (bytes_eq-Decides (get_or (map (bit_name x) (numbers_of span)) i d) (get_or (map (bit_name x) (numbers_of span)) j d)).0 same ∙ bit_at j d less in
      other_number span i j before less (bit_name-injective x x (get_or (numbers_of span) i 0) (get_or (numbers_of span) j 0) (omega (arith, first)) (omega (arith, second)) names).1))

pub bit_of_map : (x : List ℕ) (span : Span) (z : List ℕ) → Member z (map (bit_name x) (numbers_of span)) → (k : ℕ) × (z ≡ bit_name x k) × Covers span k
bit_of_map x span z among =
    let (k, stands, is) = member_of_map (bit_name x) (numbers_of span) z among in
    let (i, within, at) = Contains-from_Member k stands in
    let less : i < width span = omega (arith, within, length-numbers_of span) in
    (k, sym is, subst (Covers span) (at_default (numbers_of span) i 0 k within ∙ at) (covers_at span i less))

-- the one name
pub alone : (x z : List ℕ) → Member z (x ∷ []) → z ≡ x
alone x z here = refl
alone x z (there none) = elim none [ ]

-- the names of the ports of a name
abbrev pub names_of : Option Said → List (List ℕ)
names_of None = []
names_of (Some said) = bits_of said.name said.range

names_again : (output : Bool) (bits : List (List ℕ)) → map (λ (port : Port). port.name) (map (λ bit. record { name = bit; output = output }) bits) ≡ bits
names_again output [] = refl
names_again output (x ∷ bits) = ap (λ l. x ∷ l) (names_again output bits)

names-ports_of : (found : Option Said) → map (λ (port : Port). port.name) (ports_of found) ≡ names_of found
names-ports_of None = refl
names-ports_of (Some said) = names_again said.output (bits_of said.name said.range)

pub names-ports : (said : List Said) (names : List (List ℕ)) → map (λ (port : Port). port.name) (flat_map (ports_at said) names) ≡ flat_map (λ x. names_of (said_at said x)) names
names-ports said [] = refl
names-ports said (x ∷ names) = map-append (λ (port : Port). port.name) (ports_at said x) (flat_map (ports_at said) names) ∙ (λ i. names-ports_of (said_at said x) i ++ names-ports said names i)

module _ (ranges : Ranges) (xs : List Lexeme) (is : IsRanges ranges xs) (clear : IsClear xs) where
  small_bits : (x : List ℕ) (range : Range) → IsVector xs x range → (k : ℕ) → Covers (span_of range) k → k < 65536
  small_bits x range declared k covers = few_bit ranges xs is x range k declared covers

  bits_of_differ : (x : List ℕ) (range : Option Range) → IsDeclared xs x range → AllDiffer (bits_of x range)
  bits_of_differ x None declared = differ_more [] x differ_none (λ found. omega (arith, found.1))
  bits_of_differ x (Some range) declared = bits_differ x (span_of range) (small_bits x range declared)

  -- a name of a port tells the name that it is a port of
  one_name : (x y z : List ℕ) (a b : Option Range) → IsDeclared xs x a → IsDeclared xs y b → Stands xs x → Stands xs y → Member z (bits_of x a) → Member z (bits_of y b) → x ≡ y
  one_name x y z None None one two stands also here_x here_y = sym (alone x z here_x) ∙ alone y z here_y
  one_name x y z None (Some range) one two stands also here_x here_y =
      let (k, name, covers) = bit_of_map y (span_of range) z here_y in
      absurd (clear y range k two covers (subst (Stands xs) (sym (alone x z here_x) ∙ name) stands))
  one_name x y z (Some range) None one two stands also here_x here_y =
      let (k, name, covers) = bit_of_map x (span_of range) z here_x in
      absurd (clear x range k one covers (subst (Stands xs) (sym (alone y z here_y) ∙ name) also))
  one_name x y z (Some r) (Some s) one two stands also here_x here_y =
      let (k, name, covers) = bit_of_map x (span_of r) z here_x in
      let (j, other, covered) = bit_of_map y (span_of s) z here_y in
      let few = small_bits x r one k covers in
      let less = small_bits y s two j covered in
      (bit_name-injective x y k j (omega (arith, few)) (omega (arith, less)) (sym name ∙ other)).0

  module _ (said : List Said) (declared : AreDeclared xs said) where
    declared_at : (x : List ℕ) (s : Said) → said_at said x ≡ Some s → IsDeclared xs s.name s.range × (s.name ≡ x)
    declared_at x s found = let (among, name) = some-said x said s found in (declared s among, name)

    each_by : (x : List ℕ) (found : Option Said) → said_at said x ≡ found → AllDiffer (names_of found)
    each_by x None e = differ_none
    each_by x (Some s) e = bits_of_differ s.name s.range (declared_at x s e).0

    one_by : (x y z : List ℕ) (a b : Option Said) → said_at said x ≡ a → said_at said y ≡ b → Stands xs x → Stands xs y → Member z (names_of a) → Member z (names_of b) → x ≡ y
    one_by x y z None b e f stands also here_x here_y = elim here_x [ ]
    one_by x y z (Some s) None e f stands also here_x here_y = elim here_y [ ]
    one_by x y z (Some s) (Some t) e f stands also here_x here_y =
        let (first, name) = declared_at x s e in
        let (second, other) = declared_at y t f in
        sym name ∙ one_name s.name t.name z s.range t.range first second (subst (Stands xs) (sym name) stands) (subst (Stands xs) (sym other) also) here_x here_y ∙ other

    pub ports_differ : (names : List (List ℕ)) → AllDiffer names → ((x : List ℕ) → Contains names x → Stands xs x) → AllDiffer (map (λ (port : Port). port.name) (flat_map (ports_at said) names))
    ports_differ names all stand =
        subst AllDiffer (sym (names-ports said names))
        (differ_flat (λ x. names_of (said_at said x)) names all (λ x among. each_by x (said_at said x) refl)
        (λ x y z first second. one_by x y z (said_at said x) (said_at said y) refl refl (stand x (Contains-from_Member x first)) (stand y (Contains-from_Member y second))))

-- the bits of what was said of a name
abbrev said_width : Option Said → ℕ
said_width None = 0
said_width (Some said) = range_width said.range

-- one port, or as many as bits
ports_by_range : (x : List ℕ) (range : Option Range) → length (bits_of x range) ≤ 1 + range_width range
ports_by_range x None = omega arith
ports_by_range x (Some range) = omega (arith, length-map (numbers_of (span_of range)) (bit_name x), length-numbers_of (span_of range))

few_of : (found : Option Said) → length (ports_of found) ≤ 1 + said_width found
few_of None = omega arith
few_of (Some s) =
    let count : length (ports_of (Some s)) ≡ length (bits_of s.name s.range) = length-map (bits_of s.name s.range) (λ bit. record { name = bit; output = s.output }) in
    omega (arith, count, ports_by_range s.name s.range)

abbrev widths : List Said → List (List ℕ) → ℕ
widths said [] = 0
widths said (x ∷ names) = said_width (said_at said x) + widths said names

few_at : (said : List Said) (names : List (List ℕ)) → length (flat_map (ports_at said) names) ≤ length names + widths said names
few_at said [] = omega arith
few_at said (x ∷ names) = omega (arith, length-append (ports_at said x) (flat_map (ports_at said) names), few_of (said_at said x), few_at said names)

-- what is said of one name counts once
without : (s : Said) (said : List Said) (names : List (List ℕ)) → ((x : List ℕ) → Member x names → s.name ≡ x → ⊥) → widths (s ∷ said) names ≡ widths said names
without s said [] other = refl
without s said (x ∷ names) other = by (bytes_eq s.name x) refl (without s said names (λ y among. other y (there among)))
  where
    by : (b : Bool) → bytes_eq s.name x ≡ b → widths (s ∷ said) names ≡ widths said names → widths (s ∷ said) (x ∷ names) ≡ widths said (x ∷ names)
    by true is rest = absurd (other x here ((bytes_eq-Decides s.name x).0 is))
    by false is rest = λ i. said_width (said-there x s said is i) + rest i

once : (s : Said) (said : List Said) (names : List (List ℕ)) → AllDiffer names → widths (s ∷ said) names ≤ range_width s.range + widths said names
once s said [] all = omega arith
once s said (x ∷ names) all = by (bytes_eq s.name x) refl (once s said names (IsDistinct-tail bytes_eq x names all))
  where
    by : (b : Bool) → bytes_eq s.name x ≡ b → widths (s ∷ said) names ≤ range_width s.range + widths said names → widths (s ∷ said) (x ∷ names) ≤ range_width s.range + widths said (x ∷ names)
    by true is rest =
        let same = (bytes_eq-Decides s.name x).0 is in
        let first : said_width (said_at (s ∷ said) x) ≡ range_width s.range = ap said_width (said-here x s said is) in
        let others : widths (s ∷ said) names ≡ widths said names = without s said names (λ y among e. differ_member x names all y among (sym same ∙ e)) in
        omega (arith, first, others)
    by false is rest =
        let first : said_width (said_at (s ∷ said) x) ≡ said_width (said_at said x) = ap said_width (said-there x s said is) in
        omega (arith, first, rest)

widths_few : (said : List Said) (names : List (List ℕ)) → AllDiffer names → widths said names ≤ bits_said said
widths_few [] names all = none names
  where
    none : (names : List (List ℕ)) → widths [] names ≤ 0
    none [] = omega arith
    none (x ∷ names) = omega (arith, none names)
widths_few (s ∷ said) names all =
    let one : bits_said (s ∷ said) ≡ range_width s.range + bits_said said = sum_by-cons (λ (r : Said). range_width r.range) s said in
    omega (arith, one, once s said names all, widths_few said names all)

-- as many as names, and the bits of vectors
pub ports_few : (said : List Said) (names : List (List ℕ)) → AllDiffer names → length (flat_map (ports_at said) names) ≤ length names + bits_said said
ports_few said names all = omega (arith, few_at said names, widths_few said names all)
