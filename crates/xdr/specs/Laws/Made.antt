-- Optional values and counted lists: the two ways of writing each undo each other.
-- Assumes nothing.
use Rattle.std.specs.Prelude.{◌≡◌, refl, Bool, true, false, List, [], ◌∷◌, ℕ, zero, suc}
use Rattle.std.proofs.Common.{ap}
use Rattle.std.proofs.Math.Option.{Option, none, some}
use Rattle.xdr.specs.Meaning.Shapes.{Tuple, If, to_option, from_option, to_list, from_list}

module _ (M : Type 0) where
  pub from_to : (b : Bool) (x : If M b) → from_option M (to_option M b x) ≡ (b, x)
  from_to true x = refl
  from_to false u = refl

  pub to_from : (o : Option M) → to_option M (from_option M o).0 (from_option M o).1 ≡ o
  to_from (some x) = refl
  to_from none = refl

  pub list-from-to : (n : ℕ) (t : Tuple M n) → from_list M (to_list M n t) ≡ (n, t)
  list-from-to zero u = refl
  list-from-to (suc n) t = ap (λ z. (suc z.0, (t.0, z.1))) (list-from-to n t.1)

  pub list-to-from : (l : List M) → to_list M (from_list M l).0 (from_list M l).1 ≡ l
  list-to-from [] = refl
  list-to-from (x ∷ l) = ap (λ k. x ∷ k) (list-to-from l)
