-- What the code's own types say, in the terms of `Meaning`.
-- Assumes nothing.
use Rattle.xdr.specs.Meaning.Views.{view_option}
use Rattle.mount.specs.Meaning.Ask.{Said, refuse, reply, silence, hand_over, mnt, umnt, export, getport}
use Rattle.mount.specs.declared.asking.Asked.{Asked}

abbrev pub view_asked : Asked → Said
view_asked (Asked.Refused r) = refuse r
view_asked (Asked.Replied n) = reply n
view_asked Asked.Silent = silence
view_asked (Asked.HandOver p v f c n) = hand_over p v f (view_option c) n
view_asked (Asked.Mnt c x n) = mnt (view_option c) x n
view_asked (Asked.Umnt c x n) = umnt (view_option c) x n
view_asked (Asked.Export c n) = export (view_option c) n
view_asked (Asked.Getport c x n) = getport (view_option c) x n
