-- What the writers' proofs cite: the bytes of times to be set, by their cases, and how many there are.
-- Assumes nothing.
use Rattle.std.specs.Prelude.{◌≡◌, refl, List, ◌++◌, ℕ, ◌+◌, length}
use Rattle.std.proofs.Common.{sym, ap, ap₂, ◌∙◌, append-nil, arith, length-append}
use Rattle.xdr.specs.Meaning.Kind.{Codec}
use Rattle.xdr.specs.Meaning.Items.{word, word_pair}
use Rattle.xdr.specs.Laws.Padding.{word-length}
use Rattle.nfsattr.specs.Meaning.Attr.{nfstime}
use Rattle.nfs.specs.Meaning.Set.{SetTime, dont_change, server_time, client_time, set_time, Times, timed}
use Rattle.nfsattr.specs.Laws.Sizes.{nfstime-fixed}
use Rattle.nfsattr.specs.Laws.Words.{tag-time}
use Rattle.xdr.specs.Laws.Optional.{Between}
use Rattle.nfsattr.specs.declared.attr.nfstime3.{nfstime3}

-- what is done with a time: a tag, and the client's time where it is 2
abbrev pub time_bytes : SetTime → List ℕ
time_bytes dont_change = word.kind.write 0
time_bytes server_time = word.kind.write 1
time_bytes (client_time t) = word.kind.write 2 ++ nfstime.kind.write t

abbrev pub time_length : SetTime → ℕ
time_length dont_change = 4
time_length server_time = 4
time_length (client_time t) = 12

time-is : (t : SetTime) → time_bytes t ≡ set_time.kind.write t
unfolding set_time
time-is dont_change = sym (append-nil (word.kind.write 0))
time-is server_time = sym (append-nil (word.kind.write 1))
time-is (client_time t) = refl

time-long : (t : SetTime) → length (time_bytes t) ≡ time_length t
time-long dont_change = word-length 0
time-long server_time = word-length 1
time-long (client_time t) =
    length-append (word.kind.write 2) (nfstime.kind.write t) ∙ ap₂ (λ a b. a + b) (word-length 2) (nfstime-fixed.writes t)

time-within : (t : SetTime) → Between 4 12 (time_length t)
time-within dont_change = record { least = omega arith; greatest = omega arith }
time-within server_time = record { least = omega arith; greatest = omega arith }
time-within (client_time t) = record { least = omega arith; greatest = omega arith }

module _ {T : Type 0} (U : Times T) where
  pub time-bytes : (t : SetTime) {v : T} → v ≡ U.to t → time_bytes t ≡ (timed U).kind.write v
  time-bytes t e = time-is t ∙ ap set_time.kind.write (sym (ap U.from e ∙ U.from_to t))

  pub time-length : (t : SetTime) {v : T} → v ≡ U.to t → length ((timed U).kind.write v) ≡ time_length t
  time-length t e = ap length (sym (time-bytes t e)) ∙ time-long t

  pub time-between : (v : T) → Between 4 12 (length ((timed U).kind.write v))
  time-between v = rw (time-length (U.from v) (sym (U.to_from v))) (time-within (U.from v))

-- a kind that is such a time: what its writer and its size come to, by the case that was told
pub record Timed {T : Type 0} (U : Times T) (D : Codec T) : Type 1 where
  pub is : D ≡ timed U

module _ {T : Type 0} {U : Times T} {D : Codec T} (O : Timed U D) (v : T) where
  by-case : (t : SetTime) → v ≡ U.to t → time_bytes t ≡ D.kind.write v
  by-case t e = rw O.is (time-bytes U t e)

  pub dont-bytes : v ≡ U.to dont_change → word.kind.write 0 ≡ D.kind.write v
  dont-bytes e = by-case dont_change e

  pub server-bytes : v ≡ U.to server_time → word.kind.write 1 ≡ D.kind.write v
  server-bytes e = by-case server_time e

  pub client-bytes : (t : nfstime3) → v ≡ U.to (client_time t) → word.kind.write 2 ++ word_pair.kind.write (t.seconds, t.nseconds) ≡ D.kind.write v
  client-bytes t e = tag-time 2 t ∙ by-case (client_time t) e

  sized : (t : SetTime) → v ≡ U.to t → time_length t ≡ length (D.kind.write v)
  sized t e = sym (time-long t) ∙ ap length (by-case t e)

  pub dont-size : v ≡ U.to dont_change → 4 ≡ length (D.kind.write v)
  dont-size e = sized dont_change e

  pub server-size : v ≡ U.to server_time → 4 ≡ length (D.kind.write v)
  server-size e = sized server_time e

  pub client-size : (t : nfstime3) → v ≡ U.to (client_time t) → 12 ≡ length (D.kind.write v)
  client-size t e = sized (client_time t) e
