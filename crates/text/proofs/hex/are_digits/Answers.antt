use Rattle.std.proofs.Common.{◌≡◌, ◌<◌, rules}
use borrow.Author.Tests.{tests}
use Rattle.std.proofs.lemmas.Iterator.{cases_from_all, YieldsList-from_slice}
use Rattle.text.specs.Hex.{digit_of}
use Rattle.text.specs.HexLaws.{digits_by}
use Rattle.text.proofs.hex.are_digits.Goals as goal

pub returns : goal.returns
unfolding digit_of
returns c = digits_by c.args.word.now c.all.result (cases_from_all _ _ _ (λ x. digit_of x < 16) (λ x. digit_of x ≡ 16) c.all.ensures.ran (YieldsList-from_slice c.args.word.now cc) (λ x q k. search (rules, tests)) (λ x q k. search (rules, tests)))
