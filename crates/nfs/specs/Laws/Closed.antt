-- A closed enumeration is written as the word of its number.
-- Assumes nothing.
use Rattle.std.specs.Prelude.{◌≡◌, List, [], ℕ}
use Rattle.xdr.specs.Meaning.Answer.{Written}
use Rattle.xdr.specs.Meaning.Items.{word}
use Rattle.xdr.specs.Meaning.Format.{exactly}
use Rattle.xdr.specs.Meaning.Public.{Writes}
use Rattle.xdr.specs.Laws.Closed.{by_number}
use Rattle.nfs.specs.Meaning.Set.{time_how, how_number, hows, each_how}
use Rattle.nfs.specs.declared.set._time_how.{_time_how}

pub time-how-writes : (a : _time_how) {v : ℕ} (at : ℕ) (o : List ℕ) {w : Written} {o' : List ℕ} → v ≡ how_number a → Writes (exactly word) [] v at o w o'
    → Writes (exactly time_how) [] a at o w o'
unfolding time_how
time-how-writes = by_number how_number hows each_how
