use Rattle.std.proofs.Common.{◌≡◌, ℕ, Bool, true, ◌&&◌, List, ◌∷◌, Some, None, Option, refl, sym, ◌∙◌, leb, rules}
use Rattle.std.proofs.lemmas.Iterator.{YieldsList-from_slice}
use Rattle.std.proofs.lemmas.Iterator.Search.{all_from_yields_List}
use Rattle.std.proofs.lemmas.List.Recursion.{same_from_clauses}
use Rattle.std.specs.List.{list_all}
use borrow.Author.Tests.{tests}
use Rattle.rules.specs.Limits.{largest_e_value}
use Rattle.rules.specs.Ranges.{values_fit}
use Rattle.table.proofs.ranges.e_values_fit.Goals as goal

-- one e-value by itself
abbrev value_fits : Option ℕ → Bool
value_fits None = true
value_fits (Some v) = leb v largest_e_value

one_more : (x : Option ℕ) (xs : List (Option ℕ)) → values_fit (x ∷ xs) ≡ (value_fits x && values_fit xs)
one_more None xs = refl
one_more (Some v) xs = refl

pub returns : goal.returns
returns c =
    all_from_yields_List value_fits _ _ _ c.all.ensures.ran (YieldsList-from_slice c.args.values.now cc) (λ x b q k. search (rules, tests))
    ∙ sym (same_from_clauses values_fit (list_all value_fits) (λ x b. value_fits x && b) refl one_more (λ x xs. refl) c.args.values.now)
