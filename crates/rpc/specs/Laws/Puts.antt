-- What each kind's fields leave of a buffer, laid one behind the other, of kinds that are the same in every reading: each law is in the shape of
-- the goal of `put_X`.
-- Assumes nothing.
use Rattle.std.specs.Prelude.{◌≡◌, List, ◌++◌, ℕ, ◌+◌, ◌-◌, ◌≤◌, length, drop}
use Rattle.std.proofs.Common.{ap, ◌∙◌, arith}
use borrow.Rule.Slice.PartMut.{mid_of, put_mid}
use Rattle.xdr.specs.Meaning.Items.{word, word_pair}
use Rattle.xdr.specs.Meaning.Formats.{bytes}
use Rattle.xdr.specs.Meaning.Public.{output, laid, laid_of}
use Rattle.xdr.specs.Laws.Padding.{word-length, word-pair-length}
use Rattle.xdr.specs.Laws.Write.{Put, Ready, put_same, put-laid, field, lent_of}
use Rattle.xdr.specs.Laws.Writers.{bytes-sized}
use Rattle.rpc.specs.Meaning.Closed.{flavor_number}
use Rattle.rpc.specs.Meaning.Auth.{opaque-auth}
use Rattle.rpc.specs.Meaning.Reading.{mismatch-info}
use Rattle.rpc.specs.Laws.Sizes.{auth_size, auth-written, auth-body, call-cred, call-verf, info-written}
use Rattle.rpc.specs.declared.auth.opaque_auth.{opaque_auth}
use Rattle.rpc.specs.declared.reply.mismatch_info.{mismatch_info}

-- the part from a on that is lent, and the buffer when it is back as zs
abbrev pub lent_from : ℕ → List ℕ → List ℕ
lent_from a ys = mid_of a (length ys - a) ys

abbrev pub back_at : ℕ → List ℕ → List ℕ → List ℕ
back_at a ys zs = put_mid a (length ys - a) ys zs

-- the same under another name of its length
pub put-sized : {xs ys bs : List ℕ} {n m : ℕ} → n ≡ m → Put xs ys n bs → Put xs ys m bs
put-sized {xs} {bs = bs} e f = record { is = f.is ∙ ap (λ k. bs ++ drop k xs) e; long = f.long ∙ e }

module _ (xs ys : List ℕ) where
  pub info-put : (m : mismatch_info) → 8 ≤ length xs → ys ≡ laid (word_pair.kind.write (m.low, m.high)) xs → Put xs ys 8 (mismatch-info.kind.write m)
  info-put m h e = put_same (info-written m) (put-laid (word-pair-length m.low m.high) h e)

  module _ (zs : List ℕ) where
    pub tag-put : {n : ℕ} {cs : List ℕ} (v : ℕ) → 4 + n ≤ length xs → ys ≡ laid (word.kind.write v) xs → Put (lent_from 4 ys) zs n cs
        → Put xs (back_at 4 ys zs) (4 + n) (word.kind.write v ++ cs)
    tag-put v h e f = field (put-laid (word-length v) (omega arith) e) h f

    module _ (s : List ℕ) where
      pub auth-put : (m : opaque_auth) (v : ℕ) → Ready opaque-auth s m → auth_size m ≤ length xs → v ≡ flavor_number m.flavor
          → ys ≡ laid (word.kind.write v) xs → zs ≡ laid_of bytes s m.body (lent_from 4 ys)
          → Put xs (back_at 4 ys zs) (auth_size m) (output opaque-auth s m)
      auth-put m v r h e f g =
          put_same (ap (λ n. word.kind.write n ++ output bytes s m.body) e ∙ auth-written s m)
          (lent_of bytes s m.body (auth-body s m r) (put-laid (word-length v) (omega arith) f) h (bytes-sized s m.body (auth-body s m r)) g)

-- what `put_X` is handed of its parts
pub ruleset shared-readies = (call-cred, call-verf)

pub ruleset shared-puts = (info-put, auth-put)
