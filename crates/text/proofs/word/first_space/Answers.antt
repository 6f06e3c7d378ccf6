use Rattle.std.proofs.Common.{◌≡◌, ◌==◌, ◌≤◌, ◌∙◌, ℕ, length, Option, None, Some, true, false, Bool, cond, ap, refl, rules, arith}
use Rattle.std.specs.List.{position_or_len}
use Rattle.std.specs.Option.{unwrap_or}
use Rattle.std.proofs.lemmas.Iterator.{YieldsList-from_slice}
use Rattle.std.proofs.lemmas.Iterator.Search.{position_from_yields_List}
use Rattle.std.proofs.lemmas.List.Sums.{prefix_len-le-length}
use borrow.Author.Tests.{tests, ltb-false}
use lib.Dec.{ltb}
use Rattle.text.proofs.word.first_space.Goals as goal

-- a place that is found below a length, or else the length
or_end : (b : Bool) (place n : ℕ) → ltb place n ≡ b → place ≤ n → unwrap_or (cond b (Some place) None) n ≡ place
or_end true place n e h = refl
or_end false place n e h = let k = ltb-false place n e in omega arith

pub returns-clause-value : goal.returns-clause-value
returns-clause-value c =
    let found = position_from_yields_List (λ b. b == 32) _ _ c.position.result c.position.ensures.ran (YieldsList-from_slice c.args.text.now cc) (λ x b q k. search (rules, tests)) in
    c.unwrap_or.ensures ∙ ap (λ (r : Option ℕ). unwrap_or r (length c.args.text.now)) found ∙ or_end _ (position_or_len (λ b. b == 32) c.args.text.now) (length c.args.text.now) refl (prefix_len-le-length _ c.args.text.now)

pub returns-clause-bound : goal.returns-clause-bound
returns-clause-bound c = rw (returns-clause-value c) (prefix_len-le-length _ c.args.text.now)
