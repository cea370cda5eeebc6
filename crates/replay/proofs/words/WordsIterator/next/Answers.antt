use Rattle.std.proofs.Common.{◌≡◌, ◌<◌, ℕ, Bool, List, ◌∷◌, [], length, Option, Some, None, MatchOption, Bor, refl, ap, arith, rules}
use Rattle.std.proofs.lemmas.Bool.Decides.{nat_tests}
use Rattle.std.proofs.lemmas.Str.{len_utf8_bounds}
use Rattle.std.specs.Char.{char_set_contains}
use Rattle.std.specs.Option.{unwrap_or}
use Rattle.std.specs.Str.Pattern.{FindsBy, SplitsAroundMatch}
use Rattle.replay.proofs.words.WordsIterator.next.Goals as goal

-- where the first space or tab is
abbrev FindsBlank : List ℕ → Option (ℕ × ℕ) → Type 0
FindsBlank s r = (k : ℕ → Bool) → ((c : ℕ) → char_set_contains (32 ∷ 9 ∷ []) c ≡ k c) → FindsBy k s r

-- what stands behind the first blank of a text, or nothing, is shorter than the text
shorter : (s : List ℕ) (r : Option (Bor (List ℕ) × Bor (List ℕ))) (d x : Bor (List ℕ) × Bor (List ℕ)) → length d.1.now ≡ 0 → 0 < length s
    → MatchOption r (FindsBlank s None) (λ y. SplitsAroundMatch FindsBlank s y.0.now y.1.now) → x ≡ unwrap_or r d → length x.1.now < length s
shorter s None d x empty some cut is = let e = ap (λ (y : Bor (List ℕ) × Bor (List ℕ)). length y.1.now) is in omega arith
shorter s (Some y) d x empty some (i, j, found, word, after, order, ends, lengths) is =
    let e = ap (λ (z : Bor (List ℕ) × Bor (List ℕ)). length z.1.now) is in
    let blank = (found (char_set_contains (32 ∷ 9 ∷ [])) (λ c. refl)).1 in
    omega (arith, blank.2.ends, lengths, len_utf8_bounds blank.0)

pub returns-clause-goes : goal.returns-clause-goes
returns-clause-goes c =
    let rest = c.trim_start_matches-rest.result.now in
    let some : 0 < length rest = grind (arith, nat_tests) in
    let lt : length c.unwrap_or.result.1.now < length rest = shorter rest c.split_once.result _ _ refl some c.split_once.ensures.cases c.unwrap_or.ensures in
    record { on = λ _. (tt, tt, omega arith); keeps = tt; rests = search rules }
