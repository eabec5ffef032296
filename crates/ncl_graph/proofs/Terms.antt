-- What the proofs of this crate take from the library, the crates below and its own definitions, passed on.
pub use Rattle.std.proofs.Common.{Bool, List, [], ap, append_assoc, arith, cond, drop, false, get_or, inl, inr, length, length-set, not, refl, replicate, set, subst, suc, sym, take, true, vec_len, zero, ℕ, ◌*◌, ◌++◌, ◌+◌, ◌<◌, ◌∙◌, ◌∷◌, ◌≡◌, ◌≢◌, ◌≤◌, ◌⊎◌}
pub use Rattle.std.proofs.lemmas.Bool.{cases_eq, cases_lt}
pub use Rattle.std.proofs.lemmas.List.{get_or-replicate, get_or-set_other, get_or-set_same, get_or_append_left, get_or_at, get_or_default, get_or_past, get_or_read, length-append, length-replicate, length_push, set_past, take_more}
pub use Rattle.std.proofs.lemmas.List.Elements.{All-append, All-cons, All-contains, All-get_or, All-nil, All-push, All-weaker, Contains-append_left, Contains-append_right, Contains-get_or, Contains-push, Contains-push_cases}
pub use Rattle.std.proofs.lemmas.List.Quantifiers.{all_pairs_push}
pub use Rattle.std.proofs.lemmas.List.Sums.{sum_by-set}
pub use Rattle.std.specs.List.{All, Contains, count_by, slice_index_or}
pub use Rattle.ncl_base.proofs.Growing.{as_many_as, cases_contains, cut_at, last_of, pair_front, pair_last, split_at, split_push}
pub use Rattle.ncl_graph.specs.Graph.{IsGraph, IsOnCycle, IsOrder, Leads, StandsAfter, successors}
pub use Rattle.ncl_graph.specs.Graph.Leads.{arc, further}
pub use Rattle.ncl_graph.specs.Ranks.{IsWhole, NeverRises, rank_of, work}
pub use Rattle.ncl_graph.specs.Reach.{IsWalk, Reaches, was_reached}
pub use Rattle.ncl_graph.specs.Search.{IsSearch, Stands, StaysMet, is_new, mark_at, new_count}
pub use Rattle.ncl_graph.specs.declared.mark.Mark.{Mark}
pub use Rattle.ncl_graph.specs.declared.mark.Mark.TheVariants.{Done, New, Open}
