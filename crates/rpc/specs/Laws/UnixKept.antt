-- Demands 2 and 3 of the auth_unix inside a credential: its reading is a public reading of auth_unix in the message up to the body's end, and
-- means the same in the whole message.
-- Assumes nothing.
use Rattle.std.specs.Prelude.{◌≡◌, Bool, true, false, List, ◌++◌, ℕ, ◌+◌, ◌-◌, ◌≤◌, length, take, drop}
use Rattle.std.proofs.Common.{sym, ap, ◌∙◌, arith, length-drop}
use borrow.Author.Tests.{leb-true}
use Rattle.std.proofs.Math.ListN.{length-take}
use Rattle.std.proofs.lemmas.List.{take-append-le, drop-append-le}
use Rattle.xdr.specs.Meaning.Bytes.{part}
use Rattle.xdr.specs.Meaning.Answer.{Answer, took, refused, most}
use Rattle.xdr.specs.Meaning.Pieces.{is_inside}
use Rattle.xdr.specs.declared.refusal.Refusal.TheVariants.{Ended}
use Rattle.xdr.specs.declared.piece.Piece.{Piece}
use Rattle.rpc.specs.Meaning.Auth.{auth-unix}
use Rattle.rpc.specs.Meaning.UnixIn.{unix_in}
use Rattle.rpc.specs.declared.auth.auth_unix.{auth_unix}

-- a part of the front of a message is that part of the message
pub part-grows : (f t : List ℕ) (p n : ℕ) → p ≤ n → n ≤ length f → part (f ++ t) p n ≡ part f p n
part-grows f t p n h k =
    ap (take (n - p)) (drop-append-le p f t (omega arith))
    ∙ take-append-le (n - p) (drop p f) t (omega (arith, length-drop p f))

module _ (s : List ℕ) (x : Piece) where
  -- the message up to the end of the body
  abbrev pub up_to : List ℕ
  up_to = take (x.at + x.count) s

  pub inside-read : is_inside s x ≡ true → unix_in s x ≡ auth-unix.held.read up_to x.at
  unfolding unix_in
  inside-read i = simp i

  pub outside-read : is_inside s x ≡ false → unix_in s x ≡ refused (Ended 0 4)
  unfolding unix_in
  outside-read i = simp i

  pub up-to-short : length s ≤ most → length up_to ≤ most
  up-to-short h = omega (arith, length-take (x.at + x.count) s)

  pub up-to-holds : is_inside s x ≡ true → x.at ≤ length up_to
  unfolding is_inside
  up-to-holds i = omega (arith, length-take (x.at + x.count) s, leb-true (x.at + x.count) (length s) i)

  pub took-inside : (t : Bool) → is_inside s x ≡ t → {v : auth_unix} {n : ℕ} {b : Bool} → unix_in s x ≡ took v n b → is_inside s x ≡ true
  took-inside true i e = i
  took-inside false i {v} {n} {b} e =
      let g : ◌≡◌ {A = Answer auth_unix} (refused (Ended 0 4)) (took v n b) = sym (outside-read i) ∙ e in
      let z : ◌≡◌ {A = ℕ} 0 1 = cc in absurd (omega arith)

-- a body in s, and in s' one that begins at the same place, with the same bytes before its end and t behind them
pub record Longer (s s' : List ℕ) (x x' : Piece) (t : List ℕ) : Type 0 where
  pub at : x'.at ≡ x.at
  pub more : up_to s' x' ≡ up_to s x ++ t
  pub inside : is_inside s x ≡ true
  pub inside' : is_inside s' x' ≡ true
  pub short : length s ≤ most
  pub short' : length s' ≤ most
