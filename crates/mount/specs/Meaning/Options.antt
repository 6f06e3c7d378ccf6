-- An optional value, as the code holds it: the two types have the same values.
-- Assumes nothing.
use Rattle.std.specs.Prelude.{◌≡◌, refl, Some, None}
use Rattle.std.specs.Prelude as std
use Rattle.std.proofs.Math.Option.{Option, none, some}
use Rattle.xdr.specs.Meaning.Cases.{Cases}
use Rattle.xdr.specs.Meaning.Views.{view_option}

module _ {S : Type 0} where
  abbrev pub option_to : Option S → std.Option S
  option_to none = None
  option_to (some x) = Some x

  pub option_from_to : (x : Option S) → view_option (option_to x) ≡ x
  option_from_to none = refl
  option_from_to (some x) = refl

  pub option_to_from : (y : std.Option S) → option_to (view_option y) ≡ y
  option_to_from None = refl
  option_to_from (Some x) = refl

  abbrev pub option_cases : Cases S (std.Option S)
  option_cases = record { to = option_to; from = view_option; from_to = option_from_to; to_from = option_to_from }
