-- Two words that the code reads as a pair, where the meaning has them one by one: the step of a plan for them.
-- Assumes nothing.
use Rattle.std.specs.Prelude.{◌≡◌, Bool, List, ℕ}
use Rattle.std.proofs.Math.Path.{refl}
use Rattle.std.proofs.Common.{sym, ◌∙◌}
use Rattle.xdr.specs.Meaning.Codecs.{◌⨾◌}
use Rattle.xdr.specs.Meaning.Items.{word, word_pair}
use Rattle.xdr.specs.Meaning.Format.{Format, exactly, ◌⨟◌}
use Rattle.xdr.specs.Laws.Plans.{Prog, ask, follow, run, Plan, at, ◌then◌, pair-is-c}

module _ {U : Type 0} (k : ℕ × ℕ → Prog U) (s : List ℕ) (p : ℕ) (b : Bool) where
  pub words-is : follow (λ x n d. run (k x) s n d) b ((word ⨾ word).kind.read s p) ≡ run (ask word_pair.kind.read k) s p b
  unfolding word_pair
  words-is = refl

-- two words, and nothing behind them
abbrev pub two-words : Plan (exactly (word ⨾ word))
two-words = record { by = ask word_pair.kind.read; is = λ k s p b. words-is k s p b }

-- two words, and what stands behind them
module _ {M S : Type 0} {F : Format M S} (P : Plan F) {U : Type 0} (k : ℕ × (ℕ × S) → Prog U) (s : List ℕ) (p : ℕ) (b : Bool) where
  pub words-then-is : follow (λ x n d. run (k x) s n d) b ((exactly word ⨟ exactly word ⨟ F).held.read s p)
      ≡ run (ask word_pair.kind.read (λ x. P.by (λ y. k (x.0, (x.1, y))))) s p b
  words-then-is =
      (at (exactly word) then at (exactly word) then P).is k s p b
      ∙ sym (pair-is-c (at (exactly word)) (at (exactly word)) (λ x. P.by (λ y. k (x.0, (x.1, y)))) s p b)
      ∙ words-is (λ x. P.by (λ y. k (x.0, (x.1, y)))) s p b

abbrev pub words-then : {M S : Type 0} {F : Format M S} → Plan F → Plan (exactly word ⨟ exactly word ⨟ F)
words-then P =
    record {
      by = λ k. ask word_pair.kind.read (λ x. P.by (λ y. k (x.0, (x.1, y))));
      is = λ k s p b. words-then-is P k s p b;
    }
