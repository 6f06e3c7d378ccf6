-- An optional value and a counted list, each in the two ways that it can be written: by its name, and by what its flag or count says.
-- Assumes nothing.
use Rattle.std.specs.Prelude.{Bool, true, false, List, [], ◌∷◌, ℕ, zero, suc}
use Rattle.std.proofs.Math.Option.{Option, none, some}

-- n values
abbrev pub Tuple : Type 0 → ℕ → Type 0
Tuple M zero = Unit {0}
Tuple M (suc n) = M × Tuple M n

module _ (M : Type 0) where
  abbrev pub If : Bool → Type 0
  If true = M
  If false = Unit {0}

  abbrev pub to_option : (b : Bool) → If b → Option M
  to_option true x = some x
  to_option false u = none

  abbrev pub from_option : Option M → (b : Bool) × If b
  from_option (some x) = (true, x)
  from_option none = (false, tt)

  abbrev pub to_list : (n : ℕ) → Tuple M n → List M
  to_list zero u = []
  to_list (suc n) t = t.0 ∷ to_list n t.1

  abbrev pub from_list : List M → (n : ℕ) × Tuple M n
  from_list [] = (0, tt)
  from_list (x ∷ l) = (suc (from_list l).0, (x, (from_list l).1))
