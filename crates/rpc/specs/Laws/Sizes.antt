-- How long each kind is written that is the same in every reading, fixed or by its pieces; and when its pieces lie inside.
-- Assumes nothing.
use Rattle.std.specs.Prelude.{◌≡◌, Bool, ◌&&◌, ℕ, ◌+◌, ◌≤◌, length}
use Rattle.std.proofs.Math.Path.{refl, ap₂}
use Rattle.std.proofs.Common.{sym, ap, ◌∙◌, arith, length-append, Fits}
use mathlib.Core.List.{List, ◌++◌, append_assoc}
use Rattle.std.specs.Int.{w64}
use Rattle.xdr.specs.Meaning.Bytes.{Bytes}
use Rattle.xdr.specs.Meaning.Items.{word, word_pair}
use Rattle.xdr.specs.Meaning.Formats.{bytes, word_list, piece_held, words_held}
use Rattle.xdr.specs.Meaning.Pieces.{is_inside, are_inside, size_up_to, words_up_to}
use Rattle.xdr.specs.Meaning.Public.{output}
use Rattle.xdr.specs.Laws.Marks.{and_left, and_right}
use Rattle.xdr.specs.Laws.Padding.{word-length, word-pair-length, size_small, words_small}
use Rattle.xdr.specs.Laws.LayPieces.{words_size}
use Rattle.xdr.specs.Laws.Write.{Ready}
use Rattle.xdr.specs.Laws.Writers.{bytes-sized}
use Rattle.xdr.specs.Meaning.Format.{exactly}
use Rattle.xdr.specs.Laws.Putting.{Sized}
use Rattle.rpc.specs.Meaning.Closed.{auth-flavor, flavor_number}
use Rattle.rpc.specs.Meaning.Auth.{opaque-auth, auth-unix}
use Rattle.rpc.specs.Meaning.Reading.{mismatch-info}
use Rattle.rpc.specs.Meaning.Message.{call-body}
use Rattle.rpc.specs.declared.auth.opaque_auth.{opaque_auth}
use Rattle.rpc.specs.declared.auth.auth_unix.{auth_unix}
use Rattle.rpc.specs.declared.reply.mismatch_info.{mismatch_info}
use Rattle.rpc.specs.declared.message.call_body.{call_body}

-- the sizes; those of pieces are 0 for counts that cannot be written
abbrev pub auth_size : opaque_auth → ℕ
auth_size m = 4 + size_up_to m.body.count

abbrev pub unix_size : auth_unix → ℕ
unix_size m = 12 + size_up_to m.machinename.count + words_up_to m.gids.count

abbrev pub call_size : call_body → ℕ
call_size m = 16 + auth_size m.cred + auth_size m.verf

-- a size, where the code has found which case it is: a rule for `omega`
pub same_size : {S : Type 0} (size : S → ℕ) (m k : S) → m ≡ k → size m ≡ size k
same_size size m k e = ap size e

-- sums of the sizes of pieces
module _ (n r : ℕ) (e : r ≡ size_up_to n) where
  pub auth-fits : Fits w64 (4 + r)
  auth-fits = record { fits = omega (arith, size_small n) }

  pub auth-most : 4 + r ≤ 1048584
  auth-most = omega (arith, size_small n)

  pub unix-fits : Fits w64 (12 + r)
  unix-fits = record { fits = omega (arith, size_small n) }

  module _ (k q : ℕ) (f : q ≡ words_up_to k) where
    pub unix-fits-2 : Fits w64 (12 + r + q)
    unix-fits-2 = record { fits = omega (arith, size_small n, words_small k) }

    pub unix-most : 12 + r + q ≤ 5242900
    unix-most = omega (arith, size_small n, words_small k)

pub ruleset sums = (auth-fits, auth-most, unix-fits, unix-fits-2, unix-most)

-- mismatch_info
pub info-written : (m : mismatch_info) → word_pair.kind.write (m.low, m.high) ≡ mismatch-info.kind.write m
unfolding word_pair mismatch-info
info-written m = refl

pub info-length : (m : mismatch_info) → length (mismatch-info.kind.write m) ≡ 8
info-length m = ap length (sym (info-written m)) ∙ word-pair-length m.low m.high

module _ (s : List ℕ) where
  -- opaque_auth: its pieces, its bytes, its length
  pub auth-body : (m : opaque_auth) → Ready opaque-auth s m → Ready bytes s m.body
  unfolding opaque-auth
  auth-body m h = record { short = h.short; inside = h.inside }

  pub auth-written : (m : opaque_auth) → word.kind.write (flavor_number m.flavor) ++ output bytes s m.body ≡ output opaque-auth s m
  unfolding opaque-auth auth-flavor
  auth-written m = refl

  pub auth-length : (m : opaque_auth) → Ready opaque-auth s m → length (output opaque-auth s m) ≡ auth_size m
  auth-length m h =
      ap length (sym (auth-written m)) ∙ simp (length-append, word-length) (omega (arith, bytes-sized s m.body (auth-body m h)))

  -- auth_unix
  pub unix-name : (m : auth_unix) → Ready auth-unix s m → Ready bytes s m.machinename
  unfolding auth-unix
  unix-name m h = record { short = h.short; inside = and_left (piece_held.inside s m.machinename) (words_held.inside s m.gids) h.inside }

  pub unix-gids : (m : auth_unix) → Ready auth-unix s m → Ready word_list s m.gids
  unfolding auth-unix
  unix-gids m h = record { short = h.short; inside = and_right (piece_held.inside s m.machinename) (words_held.inside s m.gids) h.inside }

  pub unix-written : (m : auth_unix)
      → ((word.kind.write m.stamp ++ output bytes s m.machinename) ++ word_pair.kind.write (m.uid, m.gid)) ++ output word_list s m.gids
      ≡ output auth-unix s m
  unfolding word_pair auth-unix
  unix-written m = simp append_assoc

  pub gids-size : Bytes s → (m : auth_unix) → Ready auth-unix s m → length (output word_list s m.gids) ≡ words_up_to m.gids.count
  unfolding words_held
  gids-size b m h = words_size s m.gids b h.short (unix-gids m h).inside

  unix-length : (m : auth_unix) → Bytes s → Ready auth-unix s m → length (output auth-unix s m) ≡ unix_size m
  unix-length m b h =
      ap length (sym (unix-written m))
      ∙ simp (length-append, word-length, word-pair-length) (omega (arith, bytes-sized s m.machinename (unix-name m h), gids-size b m h))

  -- call_body
  pub call-cred : (m : call_body) → Ready call-body s m → Ready opaque-auth s m.cred
  unfolding call-body
  call-cred m h =
      record { short = h.short; inside = and_left (opaque-auth.held.inside s m.cred) (opaque-auth.held.inside s m.verf) h.inside }

  pub call-verf : (m : call_body) → Ready call-body s m → Ready opaque-auth s m.verf
  unfolding call-body
  call-verf m h =
      record { short = h.short; inside = and_right (opaque-auth.held.inside s m.cred) (opaque-auth.held.inside s m.verf) h.inside }

  pub call-written : (m : call_body)
      → ((word_pair.kind.write (m.rpcvers, m.prog) ++ word_pair.kind.write (m.vers, m.proc)) ++ output opaque-auth s m.cred)
      ++ output opaque-auth s m.verf ≡ output call-body s m
  unfolding word_pair call-body
  call-written m = simp append_assoc

  pub call_length : (m : call_body) → Ready call-body s m → length (output call-body s m) ≡ call_size m
  call_length m h =
      ap length (sym (call-written m))
      ∙ simp (length-append, word-pair-length) (omega (arith, auth-length m.cred (call-cred m h), auth-length m.verf (call-verf m h)))

-- the lengths, for the writers
pub info-sized : Sized (exactly mismatch-info) (λ m. 8)
info-sized = record { long = λ s m b r. info-length m }

pub auth-sized : Sized opaque-auth auth_size
auth-sized = record { long = λ s m b r. auth-length s m r }

pub unix-sized : Sized auth-unix unix_size
unix-sized = record { long = unix-length }

pub call-sized : Sized call-body call_size
call-sized = record { long = λ s m b r. call_length s m r }

-- whether the pieces lie inside, by what the code found of the parts
module _ (s : List ℕ) (i : Bool) where
  pub auth-found : (m : opaque_auth) → i ≡ is_inside s m.body → i ≡ opaque-auth.held.inside s m
  unfolding opaque-auth piece_held
  auth-found m e = e

  module _ (j k : Bool) where
    pub unix-found : (m : auth_unix) → j ≡ is_inside s m.machinename → k ≡ are_inside s m.gids → i ≡ (j && k) → i ≡ auth-unix.held.inside s m
    unfolding auth-unix piece_held words_held
    unix-found m e f g = g ∙ ap₂ (λ x y. x && y) e f

    pub call-found : (m : call_body) → j ≡ opaque-auth.held.inside s m.cred → k ≡ opaque-auth.held.inside s m.verf → i ≡ (j && k)
        → i ≡ call-body.held.inside s m
    unfolding call-body
    call-found m e f g = g ∙ ap₂ (λ x y. x && y) e f

pub ruleset shared-insides = (auth-found, unix-found, call-found)

-- a size of 4 more, for a message
pub word_more : (n m : ℕ) → n ≡ m → 4 + n ≡ 4 + m
word_more n m e = ap (λ k. 4 + k) e

pub ruleset shared-sizes = (info-sized, auth-sized, unix-sized, call-sized, word_more)
