-- made by tools/generate from crates/mount/rfc/portmap.x
-- The mapping of a program to its port, which the port mapper keeps (RFC 1057, appendix A).
-- Assumes nothing.
use Rattle.std.specs.Prelude.{refl}
use Rattle.xdr.specs.Meaning.Kind.{Codec}
use Rattle.xdr.specs.Meaning.Codecs.{mapped, ◌⨾◌}
use Rattle.xdr.specs.Meaning.Items.{word}
use Rattle.mount.specs.declared.portmap.mapping.{mapping}

-- mapping
unfoldable pub port_mapping : Codec mapping
port_mapping = mapped (word ⨾ word ⨾ word ⨾ word) (λ x. record { prog = x.0; vers = x.1.0; prot = x.1.1.0; port = x.1.1.1 }) (λ m. (m.prog, (m.vers, (m.prot, m.port)))) (λ x. refl) (λ m. refl)
