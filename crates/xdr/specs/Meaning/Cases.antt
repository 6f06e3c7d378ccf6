-- An optional value, under the names that a type has for its two cases.
-- Assumes nothing.
use Rattle.std.specs.Prelude.{◌≡◌, refl}
use Rattle.std.proofs.Math.Option.{Option}
use Rattle.xdr.specs.Meaning.Kind.{Codec}
use Rattle.xdr.specs.Meaning.Codecs.{mapped}
use Rattle.xdr.specs.Meaning.Items.{option}
use Rattle.xdr.specs.Meaning.Format.{Format, Renaming, named, optional}

pub record Cases (M T : Type 0) : Type 0 where
  pub to : Option M → T
  pub from : T → Option M
  pub from_to : (x : Option M) → from (to x) ≡ x
  pub to_from : (y : T) → to (from y) ≡ y

-- a flag, and the value if it is true
abbrev pub maybe : {M T : Type 0} → Codec M → Cases M T → Codec T
maybe C U = mapped (option C) U.to U.from U.from_to U.to_from

-- the same of what is held: the message is an option
abbrev pub case_names : {M S T : Type 0} → Cases S T → Renaming (Option M) (Option M) (Option S) T
case_names U =
    record {
      to = λ x. x;
      from = λ m. m;
      from_to = λ x. refl;
      to_from = λ m. refl;
      hold = U.to;
      pieces = U.from;
      pieces_hold = U.from_to;
    }

abbrev pub maybe_held : {M S T : Type 0} → Format M S → Cases S T → Format (Option M) T
maybe_held F U = named (optional F) (case_names U)
