-- opaque_auth and auth_unix: their fields in order.
-- Assumes nothing.
use Rattle.std.specs.Prelude.{refl, []}
use Rattle.xdr.specs.Meaning.Items.{word}
use Rattle.xdr.specs.Meaning.Format.{Format, exactly, ◌⨟◌, named}
use Rattle.xdr.specs.Meaning.Formats.{bytes, word_list}
use Rattle.xdr.specs.Meaning.Pieces.{nothing}
use Rattle.rpc.specs.Meaning.Closed.{auth-flavor}
use Rattle.rpc.specs.Meaning.Messages.{OpaqueAuth, AuthUnix}
use Rattle.rpc.specs.declared.auth.auth_flavor.TheVariants.{AUTH_NULL}
use Rattle.rpc.specs.declared.auth.opaque_auth.{opaque_auth}
use Rattle.rpc.specs.declared.auth.auth_unix.{auth_unix}

unfoldable pub opaque-auth : Format OpaqueAuth opaque_auth
opaque-auth =
    named (exactly auth-flavor ⨟ bytes)
    (record {
      to = λ x. record { flavor = x.0; body = x.1 };
      from = λ m. (m.flavor, m.body);
      from_to = λ x. refl;
      to_from = λ m. refl;
      hold = λ y. record { flavor = y.0; body = y.1 };
      pieces = λ y. (y.flavor, y.body);
      pieces_hold = λ y. refl;
    })

-- the null verifier: no bytes, and as a held value the empty piece at place 0
abbrev pub empty_auth : OpaqueAuth
empty_auth = record { flavor = AUTH_NULL; body = [] }

abbrev pub no_auth : opaque_auth
no_auth = record { flavor = AUTH_NULL; body = nothing }

unfoldable pub auth-unix : Format AuthUnix auth_unix
auth-unix =
    named (exactly word ⨟ bytes ⨟ exactly word ⨟ exactly word ⨟ word_list)
    (record {
      to = λ x. record { stamp = x.0; machinename = x.1.0; uid = x.1.1.0; gid = x.1.1.1.0; gids = x.1.1.1.1 };
      from = λ m. (m.stamp, (m.machinename, (m.uid, (m.gid, m.gids))));
      from_to = λ x. refl;
      to_from = λ m. refl;
      hold = λ y. record { stamp = y.0; machinename = y.1.0; uid = y.1.1.0; gid = y.1.1.1.0; gids = y.1.1.1.1 };
      pieces = λ y. (y.stamp, (y.machinename, (y.uid, (y.gid, y.gids))));
      pieces_hold = λ y. refl;
    })
