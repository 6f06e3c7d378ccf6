-- A union on a status: one format follows the status of success, another follows that of every failure.
-- Assumes nothing.
use Rattle.std.specs.Prelude.{◌≡◌, refl}
use Rattle.std.proofs.Common.{ap, ◌∙◌}
use Rattle.std.proofs.Math.Option.{Option, none, some}
use Rattle.xdr.specs.Meaning.Kind.{Codec}
use Rattle.xdr.specs.Meaning.Codecs.{mapped}
use Rattle.xdr.specs.Meaning.Format.{Format, Branch, branch, tagged, named}

-- a type of statuses: one is success, and each other one is a failure
pub record Status (A Fail : Type 0) : Type 0 where
  pub of : A → Option Fail
  pub to : Option Fail → A
  pub to_of : (a : A) → to (of a) ≡ a
  pub of_to : (o : Option Fail) → of (to o) ≡ o

-- what came with success, or a failure and what came with it
pub data Result (Fail M N : Type 0) : Type 0 where
  ok : M → Result Fail M N
  failed : Fail → N → Result Fail M N

-- the names that a type has for the two
pub record Arms (Fail S T R : Type 0) : Type 0 where
  pub to : Result Fail S T → R
  pub from : R → Result Fail S T
  pub from_to : (x : Result Fail S T) → from (to x) ≡ x
  pub to_from : (y : R) → to (from y) ≡ y

-- the format that follows a status
module _ {Fail M N S T : Type 0} (F : Format M S) (G : Format N T) where
  abbrev pub arm_of : Option Fail → Branch
  arm_of none = branch F
  arm_of (some f) = branch G

  abbrev pub to_result : (o : Option Fail) → (arm_of o).Msg → Result Fail M N
  to_result none m = ok m
  to_result (some f) n = failed f n

  abbrev pub from_result : Result Fail M N → (o : Option Fail) × (arm_of o).Msg
  from_result (ok m) = (none, m)
  from_result (failed f n) = (some f, n)

  abbrev pub to_held : (o : Option Fail) → (arm_of o).Has → Result Fail S T
  to_held none x = ok x
  to_held (some f) y = failed f y

  abbrev pub from_held : Result Fail S T → (o : Option Fail) × (arm_of o).Has
  from_held (ok x) = (none, x)
  from_held (failed f y) = (some f, y)

  pub from_to_result : (o : Option Fail) (x : (arm_of o).Msg) → from_result (to_result o x) ≡ (o, x)
  from_to_result none m = refl
  from_to_result (some f) n = refl

  pub to_from_result : (r : Result Fail M N) → to_result (from_result r).0 (from_result r).1 ≡ r
  to_from_result (ok m) = refl
  to_from_result (failed f n) = refl

  pub from_to_held : (o : Option Fail) (x : (arm_of o).Has) → from_held (to_held o x) ≡ (o, x)
  from_to_held none x = refl
  from_to_held (some f) y = refl

-- a status of C, and what follows it: F after success, G after each failure
module _ {A Fail M N S T R : Type 0} (C : Codec A) (U : Status A Fail) (F : Format M S) (G : Format N T) (W : Arms Fail S T R) where
  abbrev pub status_of : Codec (Option Fail)
  status_of = mapped C U.of U.to U.to_of U.of_to

  abbrev pub on_status : Format (Result Fail M N) R
  on_status =
      named (tagged status_of (arm_of F G))
      (record {
        to = λ x. to_result F G x.0 x.1;
        from = from_result F G;
        from_to = λ x. from_to_result F G x.0 x.1;
        to_from = to_from_result F G;
        hold = λ y. W.to (to_held F G y.0 y.1);
        pieces = λ r. from_held F G (W.from r);
        pieces_hold = λ y. ap (from_held F G) (W.from_to (to_held F G y.0 y.1)) ∙ from_to_held F G y.0 y.1;
      })
