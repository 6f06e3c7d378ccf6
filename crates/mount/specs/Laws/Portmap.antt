-- made by tools/generate from crates/mount/rfc/portmap.x
-- What follows for the kinds of portmap: how they are read, how many bytes they have, and what is laid of them.
-- Assumes nothing.
use Rattle.std.specs.Prelude.{refl, List, [], ℕ}
use Rattle.xdr.specs.Meaning.Codecs.{◌⨾◌}
use Rattle.xdr.specs.Meaning.Items.{word}
use Rattle.xdr.specs.Meaning.Format.{exactly, ◌⨟◌}
use Rattle.xdr.specs.Laws.Fixed.{Fixed, seen-fixed, pair-fixed, word-fixed}
use Rattle.xdr.specs.Laws.Plans.{◌next◌}
use Rattle.xdr.specs.Laws.Records.{ByPlan, fields, one}
use Rattle.xdr.specs.Laws.Lengths.{Within, mapped-within, pair-within, word-within}
use Rattle.xdr.specs.Laws.Writers.{Writer}
use Rattle.xdr.specs.Laws.Fields.{pair-writer, fixed-writer, Lays}
use Rattle.xdr.specs.Laws.Unpadded.{Unpadded, view-unpadded, pair-unpadded, word-unpadded}
use Rattle.mount.specs.Meaning.Portmap.{port_mapping}
use Rattle.mount.specs.declared.portmap.mapping.{mapping}

-- mapping
abbrev pub port-mapping-plan : ByPlan port_mapping
unfolding port_mapping
port-mapping-plan = fields (one word next one word next one word next one word) _ _ _ _

pub port-mapping-within : Within 0 port_mapping.kind
unfolding port_mapping
port-mapping-within = mapped-within (word ⨾ word ⨾ word ⨾ word) _ _ _ _ (pair-within word-within (pair-within word-within (pair-within word-within word-within)))

pub port-mapping-unpadded : Unpadded port_mapping.kind
unfolding port_mapping
port-mapping-unpadded = view-unpadded (λ x. refl) (pair-unpadded word-unpadded (pair-unpadded word-unpadded (pair-unpadded word-unpadded word-unpadded)))

pub port-mapping-fixed : Fixed 16 port_mapping
unfolding port_mapping
port-mapping-fixed = seen-fixed (pair-fixed word-fixed (pair-fixed word-fixed (pair-fixed word-fixed word-fixed))) _ _ _ _

abbrev pub port-mapping-3 : Writer (exactly word ⨟ exactly word)
port-mapping-3 = pair-writer (fixed-writer word-fixed) (fixed-writer word-fixed)

abbrev pub port-mapping-2 : Writer (exactly word ⨟ exactly word ⨟ exactly word)
port-mapping-2 = pair-writer (fixed-writer word-fixed) port-mapping-3

abbrev pub port-mapping-1 : Writer (exactly word ⨟ exactly word ⨟ exactly word ⨟ exactly word)
port-mapping-1 = pair-writer (fixed-writer word-fixed) port-mapping-2

pub port-mapping-lays : (v : mapping) (o z : List ℕ) → Lays (exactly word ⨟ exactly word ⨟ exactly word ⨟ exactly word) [] (v.prog, (v.vers, (v.prot, v.port))) o z → Lays (exactly port_mapping) [] v o z
unfolding port_mapping
port-mapping-lays v o z a = record { put = λ r h. a.put (record { short = r.short; inside = refl }) h }
