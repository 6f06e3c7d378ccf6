-- What is known of text on its way out: all but whether a write fails, which is not in a program's hands.
-- Assumes nothing.
use Rattle.std.specs.Prelude.{◌≡◌, List, ◌++◌, Bool, ⊤, None, Some, true, false, cond, ℕ, ◌+◌, leb, length}
use Rattle.std.proofs.lemmas.List.Edits.{sets}
use Rattle.std.specs.declared.option.Option.{Option}
use Rattle.io.specs.Digits.{last_digits, IsDigitCount}
use Rattle.stdio.specs.declared.output.Out.{Out}

-- so much text waits
abbrev pub waiting : ℕ → Out
waiting n = record { count = n; lost = false }

-- some text was lost
abbrev pub gone : Out
gone = record { count = 0; lost = true }

-- where a flush leads, if a write fails and if not
unfoldable pub flushed : Out → Bool → Out
flushed at failed = cond at.lost at (record { count = 0; lost = failed })

-- the contract of `flush`. Where nothing waits, nothing is written
pub record Flushed (at r : Out) : Type 0 where
  pub is : r ≡ flushed at r.lost
  pub idle : at.lost ≡ false → at.count ≡ 0 → r.lost ≡ false

-- what waits and is lost after text was taken, and the buffer
pub record After : Type 0 where
  pub out : Out
  pub buffer : List ℕ

-- where that leads, if a write fails and if not
unfoldable pub said : List ℕ → Out → List ℕ → Bool → After
said buf at text failed =
    cond at.lost (record { out = at; buffer = buf })
    (cond (leb (at.count + length text) (length buf)) (record { out = waiting (at.count + length text); buffer = sets buf at.count text })
    (cond failed (record { out = gone; buffer = buf })
    (cond (leb (length text) (length buf)) (record { out = waiting (length text); buffer = sets buf 0 text })
    (record { out = waiting 0; buffer = buf }))))

-- the contract of `say`
abbrev pub Said : List ℕ → Out → List ℕ → Out → List ℕ → Type 0
Said buf at text r after = ◌≡◌ {A = After} (record { out = r; buffer = after }) (said buf at text r.lost)

-- the contract of `number`: what `say` does with its digits, and with as few of them as hold it
pub record Numbered (buf : List ℕ) (at : Out) (n : ℕ) (r : Out) (after : List ℕ) : Type 0 where
  pub places : ℕ
  pub fewest : IsDigitCount 10 1 n places
  pub said : Said buf at (last_digits 10 places n) r after

-- what the writer holds and what waits is what it held and what waited, and then the text: nothing is lost on the way, where the bytes that a
-- writer holds are known
abbrev pub Kept : Option (List ℕ) → Option (List ℕ) → List ℕ → List ℕ → List ℕ → Type 0
Kept None new waited text waits = ⊤
Kept (Some xs) None waited text waits = ⊥
Kept (Some xs) (Some ys) waited text waits = ys ++ waits ≡ (xs ++ waited) ++ text

-- the same of a number in decimal
pub record KeptNumber (old new : Option (List ℕ)) (waited : List ℕ) (n : ℕ) (waits : List ℕ) : Type 0 where
  pub places : ℕ
  pub fewest : IsDigitCount 10 1 n places
  pub kept : Kept old new waited (last_digits 10 places n) waits
