-- What the exported readers of single values answer: a number, and figures in a lent list.
-- Assumes nothing.
use Rattle.std.specs.Prelude.{◌≡◌, true, cond, ◌⊎◌, List, [], ◌∷◌, ◌++◌, ℕ, zero, suc, ◌+◌, ◌≤◌, ◌<◌, length, replicate}
use Rattle.std.proofs.Common.{inl, inr}
use Rattle.std.proofs.Math.Option.{Option, none, some}
use Rattle.std.proofs.lemmas.List.Edits.{sets}
use Rattle.xdr.specs.Meaning.Answer.{Answer, took, refused}
use Rattle.xdr.specs.Meaning.Format.{exactly}
use Rattle.xdr.specs.Meaning.Public.{Answers}
use Rattle.xdr.specs.Meaning.Pieces.{is_inside}
use Rattle.xdr.specs.declared.piece.Piece.{Piece}
use Rattle.nfsattr.specs.Meaning.Attr.{ftype_number, fattr}
use Rattle.nfs.specs.Meaning.Change.{set_mode_from, set_uid_from, set_gid_from, set_size_from}
use Rattle.nfs.specs.Meaning.Set.{SetTime, dont_change, server_time, client_time, atime_from, mtime_from, sattr}
use Rattle.nfs.specs.Meaning.Dir.{diropargs}
use Rattle.nfsattr.specs.declared.attr.fattr3.{fattr3}
use Rattle.nfs.specs.declared.set.sattr3.{sattr3}
use Rattle.nfs.specs.declared.dir.diropargs3.{diropargs3}
use Rattle.rpc.specs.Meaning.Closed.{flavor_number}
use Rattle.rpc.specs.Meaning.Reading.{accept_arms, Reading}
use Rattle.rpc.specs.Meaning.Message.{rpc_msg_of}
use Rattle.rpc.specs.Meaning.UnixIn.{AnswersIn}
use Rattle.rpc.specs.declared.auth.opaque_auth.{opaque_auth}
use Rattle.rpc.specs.declared.auth.auth_unix.{auth_unix}
use Rattle.rpc.specs.declared.message.call_body.{call_body}
use Rattle.rpc.specs.declared.reply.mismatch_info.{mismatch_info}
use Rattle.xdr.specs.Meaning.Refusal.{number_of, place_of, wanting_of}

-- what is told of a reading, where a value of its kind has k figures: 0 with the place after the value, 1 if it was in published form and
-- else 0, and its figures; or the refusal's number with its place and zeros
abbrev pub read_code : {S : Type 0} → Answer S → ℕ
read_code (took x n b) = 0
read_code (refused r) = number_of r

abbrev pub read_figures : {S : Type 0} → (S → List ℕ) → ℕ → Answer S → List ℕ
read_figures f k (took x n b) = n ∷ cond b 1 0 ∷ f x
read_figures f k (refused r) = place_of r ∷ wanting_of r ∷ replicate k 0

module _ {S : Type 0} (Answered : Answer S → Type 0) (f : S → List ℕ) (k : ℕ) (i : List ℕ) (r : ℕ) (i' : List ℕ) where
  pub record ValueTold : Type 0 where
    pub answer : Answer S
    pub answers : Answered answer
    pub number : r ≡ read_code answer
    pub list : i' ≡ sets i 0 (read_figures f k answer)

  -- 254 where the list has no room for them
  pub record ValueCalled : Type 0 where
    pub room : 2 + k ≤ length i → ValueTold
    pub short : length i < 2 + k → (r ≡ 254) × (i' ≡ i)

-- `yugerzat_read_diropargs3`: the handle's piece, and the name's
abbrev pub piece_figures : Piece → List ℕ
piece_figures x = x.at ∷ x.count ∷ []

abbrev pub diropargs3_figures : diropargs3 → List ℕ
diropargs3_figures x = piece_figures x.dir.«data» ++ piece_figures x.name

abbrev pub Diropargs3Called : (s : List ℕ) (at : ℕ) (i : List ℕ) (r : ℕ) (i' : List ℕ) → Type 0
Diropargs3Called s at = ValueCalled (Answers diropargs s at) diropargs3_figures 4

-- `yugerzat_read_fattr3`: the fields in their order, a time as two
abbrev pub fattr3_figures : fattr3 → List ℕ
fattr3_figures a =
    ftype_number a.ftype ∷ a.mode ∷ a.nlink ∷ a.uid ∷ a.gid ∷ a.size ∷ a.used ∷ a.rdev.specdata1 ∷ a.rdev.specdata2 ∷ a.fsid
    ∷ a.fileid ∷ a.atime.seconds ∷ a.atime.nseconds ∷ a.mtime.seconds ∷ a.mtime.nseconds ∷ a.ctime.seconds ∷ a.ctime.nseconds ∷ []

abbrev pub Fattr3Called : (s : List ℕ) (at : ℕ) (i : List ℕ) (r : ℕ) (i' : List ℕ) → Type 0
Fattr3Called s at = ValueCalled (Answers (exactly fattr) s at) fattr3_figures 17

-- `yugerzat_read_sattr3`: 1 and what is set, or zeros; of a time its tag with seconds and nanoseconds
abbrev pub option_figures : Option ℕ → List ℕ
option_figures none = 0 ∷ 0 ∷ []
option_figures (some v) = 1 ∷ v ∷ []

abbrev pub time_figures : SetTime → List ℕ
time_figures dont_change = 0 ∷ 0 ∷ 0 ∷ []
time_figures server_time = 1 ∷ 0 ∷ 0 ∷ []
time_figures (client_time t) = 2 ∷ t.seconds ∷ t.nseconds ∷ []

abbrev pub sattr3_figures : sattr3 → List ℕ
sattr3_figures a =
    option_figures (set_mode_from a.mode) ++ (option_figures (set_uid_from a.uid) ++ (option_figures (set_gid_from a.gid)
    ++ (option_figures (set_size_from a.size) ++ (time_figures (atime_from a.atime) ++ time_figures (mtime_from a.mtime)))))

abbrev pub Sattr3Called : (s : List ℕ) (at : ℕ) (i : List ℕ) (r : ℕ) (i' : List ℕ) → Type 0
Sattr3Called s at = ValueCalled (Answers (exactly sattr) s at) sattr3_figures 14

-- `yugerzat_read_rpc_msg` and `yugerzat_read_current_rpc_msg`: xid, then 0 with a call's figures, 1 with an accepted reply's, 2 with the versions of a denial, or 3 with its auth_stat
abbrev pub auth_figures : opaque_auth → List ℕ
auth_figures a = flavor_number a.flavor ∷ piece_figures a.body

abbrev pub info_figures : mismatch_info → List ℕ
info_figures v = v.low ∷ v.high ∷ []

abbrev pub call_figures : call_body → List ℕ
call_figures c = c.rpcvers ∷ c.prog ∷ c.vers ∷ c.proc ∷ (auth_figures c.cred ++ auth_figures c.verf)

-- accept_stat's number, and the versions of PROG_MISMATCH
abbrev pub accept_figures_by : (tag : ℕ) → (accept_arms tag).Msg → List ℕ
accept_figures_by zero u = 0 ∷ 0 ∷ 0 ∷ []
accept_figures_by (suc zero) u = 1 ∷ 0 ∷ 0 ∷ []
accept_figures_by (suc (suc zero)) v = 2 ∷ info_figures v
accept_figures_by (suc (suc (suc n))) u = suc (suc (suc n)) ∷ 0 ∷ 0 ∷ []

-- in a reading
module _ {Stat Auth Accept Rejected Accepted Reply Body Msg : Type 0} (R : Reading Stat Auth Accept Rejected Accepted Reply Body Msg) where
  abbrev pub accept_figures : Accept → List ℕ
  accept_figures b = accept_figures_by (R.from b).0 (R.from b).1

  abbrev pub denied_figures : mismatch_info ⊎ Auth → List ℕ
  denied_figures (inl v) = 2 ∷ (info_figures v ++ replicate 8 0)
  denied_figures (inr s) = 3 ∷ R.auth_number s ∷ replicate 9 0

  abbrev pub reply_figures : Accepted ⊎ Rejected → List ℕ
  reply_figures (inl a) = 1 ∷ (auth_figures (R.accepted.from a).0 ++ (accept_figures (R.accepted.from a).1 ++ replicate 4 0))
  reply_figures (inr d) = denied_figures (R.rejected.from d)

  abbrev pub body_figures_by : call_body ⊎ Reply → List ℕ
  body_figures_by (inl c) = 0 ∷ call_figures c
  body_figures_by (inr r) = reply_figures (R.reply.from r)

  abbrev pub body_figures : Body → List ℕ
  body_figures b = body_figures_by (R.body.from b)

  abbrev pub message_figures : Msg → List ℕ
  message_figures m = (R.msg.from m).0 ∷ body_figures (R.msg.from m).1

  abbrev pub RpcMsgCalled : (s : List ℕ) (at : ℕ) (i : List ℕ) (r : ℕ) (i' : List ℕ) → Type 0
  RpcMsgCalled s at = ValueCalled (Answers (rpc_msg_of R) s at) message_figures 12

-- `yugerzat_read_auth_unix`: of a credential's body
abbrev pub unix_figures : auth_unix → List ℕ
unix_figures a = a.stamp ∷ a.machinename.at ∷ a.machinename.count ∷ a.uid ∷ a.gid ∷ piece_figures a.gids

abbrev pub UnixCalled : (s : List ℕ) (at count : ℕ) (i : List ℕ) (r : ℕ) (i' : List ℕ) → Type 0
UnixCalled s at count = ValueCalled (AnswersIn s (record { at = at; count = count; clean = true })) unix_figures 7

-- `yugerzat_part`: 0 and the piece where it lies inside; 4 and the empty piece at the start where it does not
abbrev pub part_code : (s : List ℕ) (x : Piece) → ℕ
part_code s x = cond (is_inside s x) 0 4

abbrev pub part_figures : (s : List ℕ) (x : Piece) → List ℕ
part_figures s x = cond (is_inside s x) (piece_figures x) (0 ∷ 0 ∷ [])

pub record PartCalled (s : List ℕ) (x : Piece) (i : List ℕ) (r : ℕ) (i' : List ℕ) : Type 0 where
  pub room : 2 ≤ length i → (r ≡ part_code s x) × (i' ≡ sets i 0 (part_figures s x))
  pub short : length i < 2 → (r ≡ 254) × (i' ≡ i)
