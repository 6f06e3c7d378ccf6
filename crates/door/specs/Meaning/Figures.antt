-- Figures in a lent list.
-- Assumes nothing.
use Rattle.std.specs.Prelude.{◌≡◌, List, ◌++◌, ℕ, replicate}
use Rattle.std.proofs.lemmas.List.Edits.{sets}

-- figures f at the front of a list: what is left of i
pub record Shown (f i i' : List ℕ) : Type 0 where
  pub list : i' ≡ sets i 0 f

-- figures f, and k zeros behind them
pub record Padded (f : List ℕ) (k : ℕ) (i i' : List ℕ) : Type 0 where
  pub shown : Shown (f ++ replicate k 0) i i'

-- the figures of x
pub record Shows {A : Type 0} (list : A → List ℕ) (x : A) (i i' : List ℕ) : Type 0 where
  pub shown : Shown (list x) i i'

-- a number, and the figures of x
pub record Says {A : Type 0} (code : A → ℕ) (list : A → List ℕ) (x : A) (i : List ℕ) (r : ℕ) (i' : List ℕ) : Type 0 where
  pub number : r ≡ code x
  pub shown : Shown (list x) i i'
