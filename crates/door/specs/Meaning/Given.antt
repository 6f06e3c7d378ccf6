-- What the exported writers of single values take and answer. The figures are those that the readers give, and they are a value where each
-- fits its field.
-- Assumes nothing.
use Rattle.std.specs.Prelude.{◌≡◌, Bool, true, cond, ◌&&◌, ◌||◌, List, [], ◌∷◌, ◌⊎◌, ℕ, ◌%◌, ◌≤◌, ◌<◌, ltb, eqb, length, get_or}
use Rattle.std.proofs.Math.Option.{Option, none, some}
use Rattle.std.proofs.lemmas.List.Edits.{sets}
use Rattle.xdr.specs.Meaning.Answer.{Written}
use Rattle.xdr.specs.Meaning.Combinators.{Seen, means, undeclared, among}
use Rattle.xdr.specs.Meaning.Format.{exactly}
use Rattle.xdr.specs.Meaning.Public.{Writes}
use Rattle.xdr.specs.declared.piece.Piece.{Piece}
use Rattle.nfsattr.specs.Meaning.Attr.{ftype_number, ftypes, fattr}
use Rattle.nfs.specs.Meaning.Change.{set_mode_to, set_uid_to, set_gid_to, set_size_to}
use Rattle.nfs.specs.Meaning.Set.{SetTime, dont_change, server_time, client_time, atime_to, mtime_to, sattr}
use Rattle.nfs.specs.Meaning.Sources.{WritesDiropargsFrom}
use Rattle.nfsattr.specs.declared.attr.ftype3.{ftype3}
use Rattle.nfsattr.specs.declared.attr.fattr3.{fattr3}
use Rattle.nfs.specs.declared.set.sattr3.{sattr3}
use Rattle.nfs.specs.declared.dir.diropargs3.{diropargs3}
use Rattle.rpc.specs.Meaning.Closed.{flavor_number, flavors}
use Rattle.rpc.specs.Meaning.Sources.{WritesUnixFrom, WritesCallFrom}
use Rattle.rpc.specs.declared.auth.auth_flavor.{auth_flavor}
use Rattle.rpc.specs.declared.auth.auth_unix.{auth_unix}
use Rattle.rpc.specs.declared.message.call_body.{call_body}
use Rattle.door.specs.Meaning.Exports.{wrote_code, wrote_figure}

-- a value's writing told, where `Wrote x w o'` is that writing x answers w and leaves o': as a fragment's is
module _ {S : Type 0} (Wrote : S → Written → List ℕ → Type 0) where
  pub record WrittenTold (x : S) (i : List ℕ) (r : ℕ) (o' i' : List ℕ) : Type 0 where
    pub answer : Written
    pub writes : Wrote x answer o'
    pub number : r ≡ wrote_code answer
    pub list : i' ≡ sets i 0 (wrote_figure answer ∷ [])

  -- 253 where a number does not fit
  abbrev pub GivenTold : Option S → (o i : List ℕ) (r : ℕ) (o' i' : List ℕ) → Type 0
  GivenTold none o i r o' i' = (r ≡ 253) × (o' ≡ o) × (i' ≡ i)
  GivenTold (some x) o i r o' i' = WrittenTold x i r o' i'

  -- and 254 where a list is too short
  pub record WriteCalled (k : ℕ) (given : List ℕ → Option S) (l o i : List ℕ) (r : ℕ) (o' i' : List ℕ) : Type 0 where
    pub room : k ≤ length l → 1 ≤ length i → GivenTold (given l) o i r o' i'
    pub short : (length l < k) ⊎ (length i < 1) → (r ≡ 254) × (o' ≡ o) × (i' ≡ i)

-- the rest of a number by the count of words; its own, where it is a word
abbrev pub low : ℕ → ℕ
low n = n % 4294967296

-- the numbers at some places of a list are words
abbrev pub is_word : ℕ → Bool
is_word n = ltb n 4294967296

abbrev pub are_words : List ℕ → List ℕ → Bool
are_words [] l = true
are_words (p ∷ ps) l = is_word (get_or l p 0) && are_words ps l

-- a declared number, or none
abbrev pub seen_or : {A B : Type 0} → (A → Option B) → Seen A → Option B
seen_or f (means a w) = f a
seen_or f undeclared = none

-- `yugerzat_write_fattr3`
abbrev pub fattr3_words : List ℕ
fattr3_words = 0 ∷ 1 ∷ 2 ∷ 3 ∷ 4 ∷ 7 ∷ 8 ∷ 11 ∷ 12 ∷ 13 ∷ 14 ∷ 15 ∷ 16 ∷ []

-- of a list's numbers, words passed through w
abbrev pub fattr3_by : (ℕ → ℕ) → List ℕ → ftype3 → fattr3
fattr3_by w l t =
    record {
      ftype = t;
      mode = w (get_or l 1 0);
      nlink = w (get_or l 2 0);
      uid = w (get_or l 3 0);
      gid = w (get_or l 4 0);
      size = get_or l 5 0;
      used = get_or l 6 0;
      rdev = record { specdata1 = w (get_or l 7 0); specdata2 = w (get_or l 8 0) };
      fsid = get_or l 9 0;
      fileid = get_or l 10 0;
      atime = record { seconds = w (get_or l 11 0); nseconds = w (get_or l 12 0) };
      mtime = record { seconds = w (get_or l 13 0); nseconds = w (get_or l 14 0) };
      ctime = record { seconds = w (get_or l 15 0); nseconds = w (get_or l 16 0) };
    }

abbrev pub fattr3_of : List ℕ → ftype3 → fattr3
fattr3_of = fattr3_by (λ n. n)

abbrev pub fattr3_given : List ℕ → Option fattr3
fattr3_given l =
    cond (are_words fattr3_words l) (seen_or (λ t. some (fattr3_of l t)) (among ftype_number ftypes (get_or l 0 0))) none

abbrev pub WriteFattr3Called : (l o : List ℕ) (start : ℕ) (i : List ℕ) (r : ℕ) (o' i' : List ℕ) → Type 0
WriteFattr3Called l o start i r o' i' =
    WriteCalled (λ x w o'. Writes (exactly fattr) [] x start o w o') 17 fattr3_given l o i r o' i'

-- `yugerzat_write_diropargs3`: every number is a place or a count
abbrev pub piece_of : List ℕ → ℕ → ℕ → Piece
piece_of l p n = record { at = get_or l p 0; count = get_or l n 0; clean = true }

abbrev pub diropargs3_given : List ℕ → Option diropargs3
diropargs3_given l = some (record { dir = record { «data» = piece_of l 0 1 }; name = piece_of l 2 3 })

abbrev pub WriteDiropargs3Called : (dirs names l o : List ℕ) (start : ℕ) (i : List ℕ) (r : ℕ) (o' i' : List ℕ) → Type 0
WriteDiropargs3Called s t l o start i r o' i' =
    WriteCalled (λ x w o'. WritesDiropargsFrom s t x start o w o') 4 diropargs3_given l o i r o' i'

-- `yugerzat_write_sattr3`: what stands behind a flag of 0 is nothing, whatever it is; so is what stands behind a tag of 0 or 1
abbrev pub option_fits : ℕ → ℕ → Bool
option_fits flag v = eqb flag 0 || is_word v

abbrev pub time_fits : ℕ → ℕ → ℕ → Bool
time_fits tag s n = ltb tag 2 || (eqb tag 2 && (is_word s && is_word n))

abbrev pub sattr3_fits : List ℕ → Bool
sattr3_fits l =
    option_fits (get_or l 0 0) (get_or l 1 0) && option_fits (get_or l 2 0) (get_or l 3 0) && option_fits (get_or l 4 0) (get_or l 5 0)
    && time_fits (get_or l 8 0) (get_or l 9 0) (get_or l 10 0) && time_fits (get_or l 11 0) (get_or l 12 0) (get_or l 13 0)

abbrev pub option_of : ℕ → ℕ → Option ℕ
option_of flag v = cond (eqb flag 0) none (some v)

abbrev pub time_of : ℕ → ℕ → ℕ → SetTime
time_of tag s n =
    cond (eqb tag 0) dont_change (cond (eqb tag 1) server_time (client_time (record { seconds = s; nseconds = n })))

abbrev pub sattr3_by : (ℕ → ℕ) → List ℕ → sattr3
sattr3_by w l =
    record {
      mode = set_mode_to (option_of (get_or l 0 0) (w (get_or l 1 0)));
      uid = set_uid_to (option_of (get_or l 2 0) (w (get_or l 3 0)));
      gid = set_gid_to (option_of (get_or l 4 0) (w (get_or l 5 0)));
      size = set_size_to (option_of (get_or l 6 0) (get_or l 7 0));
      atime = atime_to (time_of (get_or l 8 0) (w (get_or l 9 0)) (w (get_or l 10 0)));
      mtime = mtime_to (time_of (get_or l 11 0) (w (get_or l 12 0)) (w (get_or l 13 0)));
    }

abbrev pub sattr3_of : List ℕ → sattr3
sattr3_of = sattr3_by (λ n. n)

abbrev pub sattr3_given : List ℕ → Option sattr3
sattr3_given l = cond (sattr3_fits l) (some (sattr3_of l)) none

abbrev pub WriteSattr3Called : (l o : List ℕ) (start : ℕ) (i : List ℕ) (r : ℕ) (o' i' : List ℕ) → Type 0
WriteSattr3Called l o start i r o' i' =
    WriteCalled (λ x w o'. Writes (exactly sattr) [] x start o w o') 14 sattr3_given l o i r o' i'

-- `yugerzat_write_call`
abbrev pub call_words : List ℕ
call_words = 0 ∷ 1 ∷ 2 ∷ 3 ∷ 4 ∷ []

abbrev pub call_by : (ℕ → ℕ) → List ℕ → auth_flavor → auth_flavor → call_body
call_by w l a b =
    record {
      rpcvers = w (get_or l 1 0);
      prog = w (get_or l 2 0);
      vers = w (get_or l 3 0);
      proc = w (get_or l 4 0);
      cred = record { flavor = a; body = piece_of l 6 7 };
      verf = record { flavor = b; body = piece_of l 9 10 };
    }

abbrev pub call_of : List ℕ → auth_flavor → auth_flavor → call_body
call_of = call_by (λ n. n)

-- with its xid
abbrev pub call_given : List ℕ → Option (ℕ × call_body)
call_given l =
    cond (are_words call_words l)
    (seen_or (λ a. seen_or (λ b. some (get_or l 0 0, call_of l a b)) (among flavor_number flavors (get_or l 8 0))) (among flavor_number flavors (get_or l 5 0)))
    none

abbrev pub WriteCallCalled : (creds verfs l o : List ℕ) (start : ℕ) (i : List ℕ) (r : ℕ) (o' i' : List ℕ) → Type 0
WriteCallCalled s t l o start i r o' i' =
    WriteCalled (λ x w o'. WritesCallFrom s t x.0 x.1 start o w o') 11 call_given l o i r o' i'

-- `yugerzat_write_auth_unix`
abbrev pub unix_words : List ℕ
unix_words = 0 ∷ 3 ∷ 4 ∷ []

abbrev pub unix_by : (ℕ → ℕ) → List ℕ → auth_unix
unix_by w l =
    record { stamp = w (get_or l 0 0); machinename = piece_of l 1 2; uid = w (get_or l 3 0); gid = w (get_or l 4 0); gids = piece_of l 5 6 }

abbrev pub unix_of : List ℕ → auth_unix
unix_of = unix_by (λ n. n)

abbrev pub unix_given : List ℕ → Option auth_unix
unix_given l = cond (are_words unix_words l) (some (unix_of l)) none

abbrev pub WriteUnixCalled : (names groups l o : List ℕ) (start : ℕ) (i : List ℕ) (r : ℕ) (o' i' : List ℕ) → Type 0
WriteUnixCalled s t l o start i r o' i' =
    WriteCalled (λ x w o'. WritesUnixFrom s t x start o w o') 7 unix_given l o i r o' i'
