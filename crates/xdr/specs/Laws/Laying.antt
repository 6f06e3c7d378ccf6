-- Writing a linked list element by element: what the loop has laid so far.
-- Assumes nothing.
use Rattle.std.specs.Prelude.{◌≡◌, refl, Bool, true, false, List, [], ◌∷◌, ◌++◌, ℕ, ◌+◌, ◌-◌, ◌≤◌, ◌<◌, length, drop}
use Rattle.std.proofs.Common.{sym, ap, ap₂, subst, ◌∙◌, append_assoc, append-nil, arith, length-append}
use Rattle.std.proofs.Math.Option.{Option, none, some}
use borrow.Rule.Slice.PartMut.{mid_of, put_mid}
use Rattle.xdr.specs.Meaning.Bytes.{Bytes}
use Rattle.xdr.specs.Meaning.Answer.{Answer, took, refused, most}
use Rattle.xdr.specs.Meaning.Format.{Format, optional}
use Rattle.xdr.specs.Meaning.Cases.{Cases, maybe_held}
use Rattle.xdr.specs.Meaning.Linked.{has_count, elements_of}
use Rattle.xdr.specs.Meaning.Lists.{linked, list_of}
use Rattle.xdr.specs.Meaning.Public.{output}
use Rattle.xdr.specs.Laws.Even.{Even}
use Rattle.xdr.specs.Laws.Fields.{Lays}
use Rattle.xdr.specs.Laws.Held.{taken-inside}
use Rattle.xdr.specs.Laws.Linked.{put, optional-some}
use Rattle.xdr.specs.Laws.Walks.{by_names, by-names-refused, list-ends, list-goes, list-refused, step-size}
use Rattle.xdr.specs.Laws.Write.{Put, Ready, start, room, field}
use Rattle.xdr.specs.declared.piece.Piece.{Piece}
use Rattle.xdr.specs.declared.refusal.Refusal.{Refusal}

module _ {M S : Type 0} (F : Format M S) (s : List ℕ) (p : ℕ) (o : List ℕ) where
  -- the list that is read at p of s stands at the front of a buffer, which was o, if that has room
  pub record LaysFrom (z : List ℕ) : Type 0 where
    pub put : length s ≤ most → {l : List M} {n : ℕ} {b : Bool} → (linked F).kind.read s p ≡ took l n b → length ((linked F).kind.write l) ≤ length o
        → Put o z (length ((linked F).kind.write l)) ((linked F).kind.write l)

  -- of the list l, which ends at n: what is written of it up to the place q of s stands there, and the rest of it is read at q
  pub record Rest (l : List M) (n q : ℕ) (z : List ℕ) : Type 0 where
    pub left : List M
    pub mark : Bool
    pub reads : (linked F).kind.read s q ≡ took left n mark
    pub done : List ℕ
    pub puts : Put o z (q - p) done
    pub bytes : done ++ (linked F).kind.write left ≡ (linked F).kind.write l
    pub ahead : p ≤ q

  pub record Partly (q : ℕ) (z : List ℕ) : Type 0 where
    pub put : length s ≤ most → {l : List M} {n : ℕ} {b : Bool} → (linked F).kind.read s p ≡ took l n b → length ((linked F).kind.write l) ≤ length o → Rest l n q z

  -- nothing so far
  pub partly-start : Partly p o
  partly-start =
      record {
        put = λ h {l} {n} {b} e r.
            let z : p - p ≡ 0 = omega arith in
            record {
              left = l;
              mark = b;
              reads = e;
              done = [];
              puts = subst (λ k. Put o o k []) (sym z) (start o);
              bytes = refl;
              ahead = omega arith;
            };
      }

-- it is the list that is held there
pub list-lays : {M S : Type 0} (F : Format M S) (s : List ℕ) (x : Piece) (o z : List ℕ) → LaysFrom F s x.at o z → Lays (list_of F) s x o z
list-lays {M} F s x o z c = record { put = λ r h. by r h ((linked F).kind.read s x.at) refl }
  where
    by : Ready (list_of F) s x → length (output (list_of F) s x) ≤ length o → (a : Answer (List M)) → (linked F).kind.read s x.at ≡ a
        → Put o z (length (output (list_of F) s x)) (output (list_of F) s x)
    by r h (took l n b) e =
        let f : l ≡ elements_of ((linked F).kind.read s x.at) = ap elements_of (sym e) in
        subst (λ v. Put o z (length ((linked F).kind.write v)) ((linked F).kind.write v)) f
        (c.put r.short e (subst (λ v. length ((linked F).kind.write v) ≤ length o) (sym f) h))
    by r h (refused q) e =
        let f : false ≡ true = ap (has_count x.count) (sym e) ∙ r.inside in
        let z : ◌≡◌ {A = ℕ} 0 1 = cc f in absurd (omega arith)

module _ {M S T : Type 0} (F : Format M S) (U : Cases S T) (s : List ℕ) (h : Bytes s) (p : ℕ) (o : List ℕ) (q : ℕ) (z : List ℕ) (c : Partly F s p o q z) where
  -- a list that is not read is not asked for
  pub partly-refused : {r : Refusal} → (maybe_held F U).held.read s q ≡ refused r → LaysFrom F s p o z
  partly-refused {r} e =
      record {
        put = λ k f i.
            let d = c.put k f i in
            let g : ◌≡◌ {A = Answer (List M)} (took d.left _ d.mark) (refused r) = sym d.reads ∙ list-refused F s h q (by-names-refused F U s q e) in
            let v : ◌≡◌ {A = ℕ} 0 1 = cc g in absurd (omega arith);
      }

  module _ {t : T} {n : ℕ} {b : Bool} (e : (maybe_held F U).held.read s q ≡ took t n b) (even : Even F.codec.kind) where
    step_is : (optional F).held.read s q ≡ took (U.from t) n b
    step_is = by_names F U s q e

    ready : length s ≤ most → Ready (maybe_held F U) s t
    ready k = record { short = k; inside = taken-inside (maybe_held F U).held s q e }

    size : n ≡ q + length (output (maybe_held F U) s t)
    size = step-size F s h q step_is even

    -- what the step writes is the front of what is left
    pub record Front (l : List M) (r : List ℕ) : Type 0 where
      pub is : (linked F).kind.write l ≡ output (maybe_held F U) s t ++ r

    module _ (l : List M) (m : ℕ) (d : Bool) (f : (linked F).kind.read s q ≡ took l m d) where
      -- at the end nothing is left behind it
      front-end : U.from t ≡ none → Front l []
      front-end i =
          let g : ◌≡◌ {A = Answer (List M)} (took l m d) (took [] n b) = sym f ∙ list-ends F s h q (step_is ∙ ap (λ v. took v n b) i) in
          let j : l ≡ [] = cc g in
          record { is = ap (linked F).kind.write j ∙ ap (λ v. (optional F).codec.kind.write ((optional F).held.mean s v) ++ []) (sym i) }

      -- an element is followed by the rest
      pub record Onward : Type 0 where
        pub behind : List M
        pub mark : Bool
        pub reads : (linked F).kind.read s n ≡ took behind m mark
        pub front : Front l ((linked F).kind.write behind)

      front-on : (y : S) → U.from t ≡ some y → Onward
      front-on y i = go ((linked F).kind.read s n) refl
        where
          j : ◌≡◌ {A = Answer (List M)} (took l m d) (put (optional F).codec (optional-some F) (F.held.mean s y) b ((linked F).kind.read s n))
          j = sym f ∙ list-goes F s h q (step_is ∙ ap (λ v. took v n b) i)

          go : (a : Answer (List M)) → (linked F).kind.read s n ≡ a → Onward
          go (took k n' b') g =
              let v : ◌≡◌ {A = Answer (List M)} (took l m d) (put (optional F).codec (optional-some F) (F.held.mean s y) b (took k n' b')) =
              j ∙ ap (put (optional F).codec (optional-some F) (F.held.mean s y) b) g in
              let w : l ≡ F.held.mean s y ∷ k = cc v in
              let u : n' ≡ m = cc v in
              record {
                behind = k;
                mark = b';
                reads = g ∙ ap (λ (x : ℕ). took k x b') u;
                front =
                    record {
                      is =
                          ap (linked F).kind.write w
                          ∙ ap (λ v. (optional F).codec.kind.write ((optional F).held.mean s v) ++ (linked F).kind.write k) (sym i);
                    };
              }
          go (refused r) g =
              let v : ◌≡◌ {A = Answer (List M)} (took l m d) (refused r) =
              j ∙ ap (put (optional F).codec (optional-some F) (F.held.mean s y) b) g in
              let w : ◌≡◌ {A = ℕ} 0 1 = cc v in absurd (omega arith)

    -- its bytes, laid behind those that stand there
    module _ {l : List M} {m : ℕ} (k : length s ≤ most) (d : Rest F s p o l m q z) (i : length ((linked F).kind.write l) ≤ length o) (r : List ℕ) (g : Front d.left r) where
      sum : length d.done + (length (output (maybe_held F U) s t) + length r) ≡ length ((linked F).kind.write l)
      sum =
          let a : d.done ++ (output (maybe_held F U) s t ++ r) ≡ (linked F).kind.write l = ap (λ v. d.done ++ v) (sym g.is) ∙ d.bytes in
          omega (arith, ap length a, length-append d.done (output (maybe_held F U) s t ++ r), length-append (output (maybe_held F U) s t) r)

      fits : q - p + length (output (maybe_held F U) s t) ≤ length o
      fits = omega (arith, sum, d.puts.long)

      after : {zs : List ℕ} → Lays (maybe_held F U) s t (mid_of (q - p) (length z - (q - p)) z) zs
          → Put o (put_mid (q - p) (length z - (q - p)) z zs) (n - p) (d.done ++ output (maybe_held F U) s t)
      after {zs} a =
          let v = field d.puts fits (a.put (ready k) (room d.puts (length (output (maybe_held F U) s t)) fits)) in
          let w : q - p + length (output (maybe_held F U) s t) ≡ n - p = omega (arith, size, d.ahead) in
          subst (λ x. Put o (put_mid (q - p) (length z - (q - p)) z zs) x (d.done ++ output (maybe_held F U) s t)) w v

    -- where there is no room for it, all has none
    pub partly-short : length o < n - p → LaysFrom F s p o z
    partly-short j =
        record {
          put = λ k {l} {n = m} {b = b'} f i.
              let d = c.put k f i in
              absurd (short k d i (U.from t) refl);
        }
      where
        short : {l : List M} {m : ℕ} → length s ≤ most → (d : Rest F s p o l m q z) → length ((linked F).kind.write l) ≤ length o → (v : Option S) → U.from t ≡ v → ⊥
        short {l} {m} k d i none u =
            omega (arith, fits k d i [] (front-end d.left m d.mark d.reads u), size, d.ahead)
        short {l} {m} k d i (some y) u =
            let w = front-on d.left m d.mark d.reads y u in
            omega (arith, fits k d i ((linked F).kind.write w.behind) w.front, size, d.ahead)

    module _ {zs : List ℕ} (a : Lays (maybe_held F U) s t (mid_of (q - p) (length z - (q - p)) z) zs) where
      pub partly-end : U.from t ≡ none → LaysFrom F s p o (put_mid (q - p) (length z - (q - p)) z zs)
      partly-end u =
          record {
            put = λ k {l} {n = m} {b = b'} f i.
                let d = c.put k f i in
                let g = front-end d.left m d.mark d.reads u in
                let w : d.done ++ output (maybe_held F U) s t ≡ (linked F).kind.write l =
                ap (λ v. d.done ++ v) (sym (append-nil (output (maybe_held F U) s t)) ∙ sym g.is) ∙ d.bytes in
                let v = after k d i [] g a in
                let j : n - p ≡ length ((linked F).kind.write l) = sym v.long ∙ ap length w in
                record { is = v.is ∙ ap₂ (λ (x : List ℕ) (y : ℕ). x ++ drop y o) w j; long = refl };
          }

      pub partly-on : (y : S) → U.from t ≡ some y → Partly F s p o n (put_mid (q - p) (length z - (q - p)) z zs)
      partly-on y u =
          record {
            put = λ k {l} {n = m} {b = b'} f i.
                let d = c.put k f i in
                let w = front-on d.left m d.mark d.reads y u in
                record {
                  left = w.behind;
                  mark = w.mark;
                  reads = w.reads;
                  done = d.done ++ output (maybe_held F U) s t;
                  puts = after k d i ((linked F).kind.write w.behind) w.front a;
                  bytes =
                      append_assoc d.done (output (maybe_held F U) s t) ((linked F).kind.write w.behind)
                      ∙ ap (λ v. d.done ++ v) (sym w.front.is)
                      ∙ d.bytes;
                  ahead = omega (arith, size, d.ahead);
                };
          }
