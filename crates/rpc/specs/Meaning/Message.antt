-- Calls, which are the same in every reading, and whole messages over a reading, with tolerance 3.
-- Assumes nothing.
use Rattle.std.specs.Prelude.{◌≡◌, Bool, true, ◌⊎◌, List, [], ◌∷◌}
use Rattle.std.proofs.Math.Path.{refl}
use Rattle.std.proofs.Common.{sym, ap, ◌∙◌, inl, inr}
use Prim.Native.Nat.{ℕ, zero, suc, ◌<◌}
use native.Mathlib.Omega.{arith}
use Rattle.xdr.specs.Meaning.Answer.{stray_tag}
use Rattle.xdr.specs.Meaning.Combinators.{Seen, means}
use Rattle.xdr.specs.Meaning.Codecs.{void}
use Rattle.xdr.specs.Meaning.Items.{number, word, opaque}
use Rattle.xdr.specs.Meaning.Held.{map_seen, Meant}
use Rattle.xdr.specs.Meaning.Format.{Format, exactly, ◌⨟◌, named, Branch, branch, tagged, Choice, Lawfully, choice}
use Rattle.xdr.specs.Meaning.Formats.{piece_held}
use Rattle.xdr.specs.Meaning.Combinators.{Exact}
use Rattle.xdr.specs.Laws.Pieces.{nothing-inside}
use Rattle.rpc.specs.Meaning.Closed.{auth-flavor}
use Rattle.rpc.specs.Meaning.Messages.{CallBody, RpcBody, call, reply, RpcMsg}
use Rattle.rpc.specs.Meaning.Auth.{opaque-auth, empty_auth, no_auth}
use Rattle.rpc.specs.Meaning.Reading.{Reading}
use Rattle.rpc.specs.Meaning.Reply.{reply_body_of}
use Rattle.rpc.specs.declared.message.call_body.{call_body}

unfoldable pub call-body : Format CallBody call_body
call-body =
    named (exactly word ⨟ exactly word ⨟ exactly word ⨟ exactly word ⨟ opaque-auth ⨟ opaque-auth)
    (record {
      to = λ x. record { rpcvers = x.0; prog = x.1.0; vers = x.1.1.0; proc = x.1.1.1.0; cred = x.1.1.1.1.0; verf = x.1.1.1.1.1 };
      from = λ m. (m.rpcvers, (m.prog, (m.vers, (m.proc, (m.cred, m.verf)))));
      from_to = λ x. refl;
      to_from = λ m. refl;
      hold = λ y. record { rpcvers = y.0; prog = y.1.0; vers = y.1.1.0; proc = y.1.1.1.0; cred = y.1.1.1.1.0; verf = y.1.1.1.1.1 };
      pieces = λ y. (y.rpcvers, (y.prog, (y.vers, (y.proc, (y.cred, y.verf)))));
      pieces_hold = λ y. refl;
    })

abbrev pub empty_call : CallBody
empty_call = record { rpcvers = 0; prog = 0; vers = 0; proc = 0; cred = empty_auth; verf = empty_auth }

-- as a held value
abbrev pub no_call : call_body
no_call = record { rpcvers = 0; prog = 0; vers = 0; proc = 0; cred = no_auth; verf = no_auth }

module _ {Stat Auth Accept Rejected Accepted Reply Body Msg : Type 0} (R : Reading Stat Auth Accept Rejected Accepted Reply Body Msg) where
  -- rpc_body; tolerance 3: a tag of 2 or more is a CALL with every field zero and empty
  abbrev pub body_branches : ℕ → Branch
  body_branches zero = branch call-body
  body_branches (suc zero) = branch (reply_body_of R)
  body_branches (suc (suc n)) = branch (exactly void)

  abbrev pub see_body : (tag : ℕ) → (body_branches tag).Msg → Seen (RpcBody Accept Rejected)
  see_body zero c = means (call c) []
  see_body (suc zero) r = means (reply r) []
  see_body (suc (suc n)) u = means (call empty_call) (stray_tag ∷ [])

  abbrev pub from_body : RpcBody Accept Rejected → (tag : ℕ) × (body_branches tag).Msg
  from_body (call c) = (0, c)
  from_body (reply r) = (1, r)

  -- the same of what the code holds
  abbrev pub hold_body : (tag : ℕ) → (body_branches tag).Has → Seen Body
  hold_body zero c = means (R.body.to (inl c)) []
  hold_body (suc zero) r = means (R.body.to (inr r)) []
  hold_body (suc (suc n)) u = means (R.body.to (inl no_call)) (stray_tag ∷ [])

  abbrev pub mean_body_by : List ℕ → call_body ⊎ Reply → RpcBody Accept Rejected
  mean_body_by s (inl c) = call (call-body.held.mean s c)
  mean_body_by s (inr r) = reply ((reply_body_of R).held.mean s r)

  abbrev pub mean_body : List ℕ → Body → RpcBody Accept Rejected
  mean_body s m = mean_body_by s (R.body.from m)

  abbrev pub inside_body_by : List ℕ → call_body ⊎ Reply → Bool
  inside_body_by s (inl c) = call-body.held.inside s c
  inside_body_by s (inr r) = (reply_body_of R).held.inside s r

  abbrev pub inside_body : List ℕ → Body → Bool
  inside_body s m = inside_body_by s (R.body.from m)

  abbrev pub marks_body_by : List ℕ → call_body ⊎ Reply → List Bool
  marks_body_by s (inl c) = call-body.held.marks s c
  marks_body_by s (inr r) = (reply_body_of R).held.marks s r

  abbrev pub marks_body : List ℕ → Body → List Bool
  marks_body s m = marks_body_by s (R.body.from m)

  abbrev pub body_choice : Choice word body_branches (RpcBody Accept Rejected) Body
  body_choice = record { see = see_body; to = from_body; hold = hold_body; mean = mean_body; inside = inside_body; marks = marks_body }

  pub body_laws : Lawfully word body_branches body_choice
  unfolding word number opaque piece_held auth-flavor opaque-auth call-body
  body_laws = record { kept = kept; back = back; square = square; within = within }
    where
      kept : (tag : ℕ) (x : (body_branches tag).Msg) → Exact (tagged word body_branches).codec.kind.Good from_body (tag, x) (see_body tag x)
      kept zero c = refl
      kept (suc zero) r = refl
      kept (suc (suc n)) u =
          let z : 0 < 4294967296 = omega arith in
          (z, (z, (z, (z, (z, ((z, (z, tt)), (z, (z, tt))))))))

      back : (m : RpcBody Accept Rejected) → see_body (from_body m).0 (from_body m).1 ≡ means m []
      back (call c) = refl
      back (reply r) = refl

      square : (s : List ℕ) (tag : ℕ) (y : (body_branches tag).Has)
          → see_body tag ((body_branches tag).format.held.mean s y) ≡ map_seen (mean_body s) (hold_body tag y)
      square s zero c = ap (λ z. means (mean_body_by s z) []) (sym (R.body.from_to (inl c)))
      square s (suc zero) r = ap (λ z. means (mean_body_by s z) []) (sym (R.body.from_to (inr r)))
      square s (suc (suc n)) u = ap (λ z. means (mean_body_by s z) (stray_tag ∷ [])) (sym (R.body.from_to (inl no_call)))

      within : (s : List ℕ) (tag : ℕ) (y : (body_branches tag).Has) → (body_branches tag).format.held.inside s y ≡ true
          → Meant (λ z. inside_body s z ≡ true) (hold_body tag y)
      within s zero c h = ap (inside_body_by s) (R.body.from_to (inl c)) ∙ h
      within s (suc zero) r h = ap (inside_body_by s) (R.body.from_to (inr r)) ∙ h
      within s (suc (suc n)) u h = ap (inside_body_by s) (R.body.from_to (inl no_call)) ∙ simp (nothing-inside s)

  unfoldable pub rpc_body_of : Format (RpcBody Accept Rejected) Body
  rpc_body_of = choice word body_branches body_choice body_laws

  unfoldable pub rpc_msg_of : Format (RpcMsg Accept Rejected) Msg
  rpc_msg_of =
      named (exactly word ⨟ rpc_body_of)
      (record {
        to = λ x. record { xid = x.0; body = x.1 };
        from = λ m. (m.xid, m.body);
        from_to = λ x. refl;
        to_from = λ m. refl;
        hold = R.msg.to;
        pieces = R.msg.from;
        pieces_hold = R.msg.from_to;
      })
