-- The command of a form, as its rules are added one by one.
use Rattle.ncl_command.specs.Rules.{app_with}
use Rattle.ncl_command.proofs.Terms.{Bor, List, Rule, Text, [], ap, append_assoc, get_or, length, map, map-append, map_more, option_meant, option_rule, place_rule, sym, take, with_rule, ℕ, ◌++◌, ◌+◌, ◌<◌, ◌∙◌, ◌∷◌, ◌≡◌}
use Rattle.ncl_command.specs.declared.form.FormOption.{FormOption}

-- the rule of one place more
pub places_more : (places : List (Bor Text)) (i : ℕ) (d : Bor Text) → i < length places
    → with_rule (app_with (map place_rule (map (λ place. place.now) (take i places)))) (place_rule (get_or places i d).now)
    ≡ app_with (map place_rule (map (λ place. place.now) (take (i + 1) places)))
unfolding app_with
places_more places i d within =
    ap app_with
    (sym (map-append place_rule (map (λ (place : Bor Text). place.now) (take i places)) ((get_or places i d).now ∷ []))
    ∙ ap (map place_rule) (sym (map_more (λ (place : Bor Text). place.now) places i d within)))

-- the rule of one option more
pub rules_more : (before : List Rule) (options : List FormOption) (i : ℕ) (d : FormOption) → i < length options
    → with_rule (app_with (before ++ map option_rule (map option_meant (take i options)))) (option_rule (option_meant (get_or options i d)))
    ≡ app_with (before ++ map option_rule (map option_meant (take (i + 1) options)))
unfolding app_with
rules_more before options i d within =
    ap app_with
    (append_assoc before (map option_rule (map option_meant (take i options))) (option_rule (option_meant (get_or options i d)) ∷ [])
    ∙ ap (λ rules. before ++ rules)
    (sym (map-append option_rule (map option_meant (take i options)) (option_meant (get_or options i d) ∷ []))
    ∙ ap (map option_rule) (sym (map_more option_meant options i d within))))
