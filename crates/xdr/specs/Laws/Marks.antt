-- What is loose in two parts is loose in the whole.
-- Assumes nothing.
use Rattle.std.specs.Prelude.{◌≡◌, refl, Bool, true, false, ◌&&◌, List, [], ◌∷◌, ◌++◌, ℕ}
use Rattle.std.proofs.Common.{arith}
use Rattle.xdr.specs.Meaning.Answer.{Way, Loose, here, shifted, clean}

pub clean-append : {A : Type 0} (v w : List A) → clean (v ++ w) ≡ (clean v && clean w)
clean-append [] w = refl
clean-append (x ∷ v) w = refl

-- where it stands makes no difference
pub clean-here : (w : List Way) → clean (here w) ≡ clean w
clean-here [] = refl
clean-here (x ∷ w) = refl

pub clean-shifted : (k : ℕ) (w : List Loose) → clean (shifted k w) ≡ clean w
clean-shifted k [] = refl
clean-shifted k (x ∷ w) = refl

pub none_here : (w : List Way) → here w ≡ [] → w ≡ []
none_here [] h = refl
none_here (x ∷ w) h = let z : ◌≡◌ {A = ℕ} 0 1 = cc in absurd (omega arith)

pub none-shifted : (k : ℕ) (w : List Loose) → shifted k w ≡ [] → w ≡ []
none-shifted k [] h = refl
none-shifted k (x ∷ w) h = let z : ◌≡◌ {A = ℕ} 0 1 = cc in absurd (omega arith)

-- no mark in the whole: none in either part
pub none_left : {A : Type 0} (v w : List A) → [] ≡ v ++ w → v ≡ []
none_left [] w h = refl
none_left (x ∷ v) w h = let z : ◌≡◌ {A = ℕ} 0 1 = cc in absurd (omega arith)

pub none_right : {A : Type 0} (v w : List A) → [] ≡ v ++ w → w ≡ []
none_right [] w h = cc
none_right (x ∷ v) w h = let z : ◌≡◌ {A = ℕ} 0 1 = cc in absurd (omega arith)

pub clean-none : {A : Type 0} (w : List A) → clean w ≡ true → w ≡ []
clean-none [] h = refl
clean-none (x ∷ w) h = let z : ◌≡◌ {A = ℕ} 0 1 = cc in absurd (omega arith)

pub and_left : (b c : Bool) → (b && c) ≡ true → b ≡ true
and_left true c h = refl
and_left false c h = h

pub and_right : (b c : Bool) → (b && c) ≡ true → c ≡ true
and_right true c h = h
and_right false c h = let z : ◌≡◌ {A = ℕ} 0 1 = cc in absurd (omega arith)
