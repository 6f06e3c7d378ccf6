-- Optional values under the names of a type, as proofs cite them: how they are read, their bytes by their cases, and how many there are.
-- Assumes nothing.
use Rattle.std.specs.Prelude.{◌≡◌, refl, Bool, true, false, List, [], ◌++◌, ℕ, ◌+◌, ◌≤◌, length, drop}
use Rattle.std.proofs.Common.{sym, ap, ap₂, ◌∙◌, append-nil, arith, length-append}
use Rattle.std.proofs.Math.Bool.{and-true}
use Rattle.std.proofs.Math.Option.{Option, none, some}
use Rattle.xdr.specs.Meaning.Answer.{Answer, took, refused}
use Rattle.xdr.specs.Meaning.Kind.{Codec}
use Rattle.xdr.specs.Meaning.Items.{word, hyper, word_pair, flag, option}
use Rattle.xdr.specs.Meaning.Format.{Format, exactly, ◌⨟◌, flagged, if_format, optional}
use Rattle.xdr.specs.Meaning.Cases.{Cases, maybe, maybe_held}
use Rattle.xdr.specs.Meaning.Public.{output, laid}
use Rattle.xdr.specs.Meaning.Marks.{MarksAre}
use Rattle.xdr.specs.Laws.Padding.{flag-length}
use Rattle.xdr.specs.Laws.Fixed.{Fixed}
use Rattle.xdr.specs.Laws.Lengths.{Within, void-within, chain-within, view-within, mapped-within, option-within, flag-within, no_default}
use Rattle.xdr.specs.Laws.Plans.{Prog, ask, test, give, run}
use Rattle.xdr.specs.Laws.Records.{ByPlan}
use Rattle.xdr.specs.Laws.Write.{Ready, put-laid}
use Rattle.xdr.specs.Laws.Writers.{Writer}
use Rattle.xdr.specs.Laws.Fields.{Lays, lays-codec}

-- how many bytes n are, from a to b
pub record Between (a b n : ℕ) : Type 0 where
  pub least : a ≤ n
  pub greatest : n ≤ b

-- an optional value: a false flag, or a true one and the value
abbrev pub option_bytes : {M : Type 0} → Codec M → Option M → List ℕ
option_bytes C none = flag.kind.write false
option_bytes C (some x) = flag.kind.write true ++ C.kind.write x

abbrev pub option_length : {M : Type 0} → ℕ → Option M → ℕ
option_length k none = 4
option_length k (some x) = 4 + k

module _ {M T : Type 0} (C : Codec M) (U : Cases M T) where
  write-by : (v : T) (o : Option M) → U.from v ≡ o → option_bytes C o ≡ (maybe C U).kind.write v
  write-by v none e = rw (e, append-nil)
  write-by v (some x) e = rw e

  pub maybe-bytes : (o : Option M) {v : T} → v ≡ U.to o → option_bytes C o ≡ (maybe C U).kind.write v
  maybe-bytes o {v} e = write-by v o (ap U.from e ∙ U.from_to o)

  module _ {k : ℕ} (F : Fixed k C) where
    option-length : (o : Option M) → length (option_bytes C o) ≡ option_length k o
    option-length none = flag-length false
    option-length (some x) =
        length-append (flag.kind.write true) (C.kind.write x) ∙ ap₂ (λ a b. a + b) (flag-length true) (F.writes x)

    pub maybe-length : (o : Option M) {v : T} → v ≡ U.to o → length ((maybe C U).kind.write v) ≡ option_length k o
    maybe-length o e = ap length (sym (maybe-bytes o e)) ∙ option-length o

    between : (o : Option M) → Between 4 (4 + k) (option_length k o)
    between none = record { least = omega arith; greatest = omega arith }
    between (some x) = record { least = omega arith; greatest = omega arith }

    pub maybe-between : (v : T) → Between 4 (4 + k) (length ((maybe C U).kind.write v))
    maybe-between v = rw (maybe-length (U.from v) (sym (U.to_from v))) (between (U.from v))

-- a kind that is an optional value: what its writer and its size come to, by the case that was told
pub record Optional {M T : Type 0} (C : Codec M) (U : Cases M T) (D : Codec T) : Type 1 where
  pub is : D ≡ maybe C U

module _ {M T : Type 0} {C : Codec M} {U : Cases M T} {D : Codec T} (O : Optional C U D) (v : T) where
  pub none-bytes : v ≡ U.to none → flag.kind.write false ≡ D.kind.write v
  none-bytes e = rw O.is (maybe-bytes C U none e)

  pub some_bytes : (x : M) → v ≡ U.to (some x) → flag.kind.write true ++ C.kind.write x ≡ D.kind.write v
  some_bytes x e = rw O.is (maybe-bytes C U (some x) e)

  pub none-size : v ≡ U.to none → 4 ≡ length (D.kind.write v)
  none-size e = sym (flag-length false) ∙ ap length (none-bytes e)

module _ {M T : Type 0} {k : ℕ} {C : Codec M} {U : Cases M T} {D : Codec T} (O : Optional C U D) (F : Fixed k C) (v : T) where
  pub some_size : (x : M) → v ≡ U.to (some x) → 4 + k ≡ length (D.kind.write v)
  some_size x e = rw O.is (sym (maybe-length C U F (some x) e))

-- an optional value: its flag, and the value if that is true
module _ {M T : Type 0} (C : Codec M) (U : Cases M T) where
  abbrev pub maybe-by : Prog T
  maybe-by = ask flag.kind.read (λ v. test v (ask C.kind.read (λ x. give (U.to (some x)))) (give (U.to none)))

  module _ (s : List ℕ) (p : ℕ) where
    some_is : (n : ℕ) (b : Bool) → flag.kind.read s p ≡ took true n b → (a : Answer M) → C.kind.read s n ≡ a → (maybe C U).kind.read s p ≡ run maybe-by s p true
    some_is n b f (took x m d) g = rw (f, g)
    some_is n b f (refused r) g = rw (f, g)

    pub flag_is : (a : Answer Bool) → flag.kind.read s p ≡ a → (maybe C U).kind.read s p ≡ run maybe-by s p true
    flag_is (took true n b) f = some_is n b f (C.kind.read s n) refl
    flag_is (took false n b) f = rw f (ap (took (U.to none) n) (and-true b))
    flag_is (refused r) f = rw f

  abbrev pub maybe-plan : ByPlan (maybe C U)
  maybe-plan = record { by = maybe-by; is = λ s p. flag_is s p (flag.kind.read s p) refl }

-- what its writer lays, by the case that was told
module _ {M T : Type 0} {C : Codec M} {U : Cases M T} {D : Codec T} (O : Optional C U D) (v : T) (o z : List ℕ) where
  pub lays-void : v ≡ U.to none → z ≡ laid (flag.kind.write false) o → Lays (exactly D) [] v o z
  lays-void e f = lays-codec D [] v o z (f ∙ ap (λ b. laid b o) (none-bytes O v e))

  pub lays-value : (x : M) → v ≡ U.to (some x) → Lays (exactly flag ⨟ exactly C) [] (true, x) o z → Lays (exactly D) [] v o z
  lays-value x e a =
      let f : flag.kind.write true ++ C.kind.write x ≡ D.kind.write v = some_bytes O v x e in
      record {
        put =
            λ r h. let g = a.put (record { short = r.short; inside = refl }) (omega (arith, ap length f)) in
            record { is = g.is ∙ ap (λ b. b ++ drop (length b) o) f; long = refl };
      }

-- the same with pieces: sizes, what lies inside, and what is laid
module _ {M S : Type 0} {F : Format M S} (A : Writer F) where
  abbrev pub option_size : Option S → ℕ
  option_size none = 4
  option_size (some x) = 4 + A.size x

  pub option-sized : (s : List ℕ) (x : Option S) → Ready (optional F) s x → length (output (optional F) s x) ≡ option_size x
  option-sized s none r = ap length (append-nil (flag.kind.write false)) ∙ flag-length false
  option-sized s (some x) r =
      length-append (flag.kind.write true) (output F s x)
      ∙ ap₂ (λ a b. a + b) (flag-length true) (A.sized s x (record { short = r.short; inside = r.inside }))

  abbrev pub option-writer : Writer (optional F)
  option-writer = record { size = option_size; sized = option-sized }

pub record OptionalHeld {M S T : Type 0} (F : Format M S) (U : Cases S T) (G : Format (Option M) T) : Type 1 where
  pub is : G ≡ maybe_held F U

module _ {M S T : Type 0} {F : Format M S} {U : Cases S T} {G : Format (Option M) T} (O : OptionalHeld F U G) (s : List ℕ) (x : T) where
  is-inside : (y : Option S) → x ≡ U.to y → (optional F).held.inside s y ≡ G.held.inside s x
  is-inside y e = rw O.is (ap ((optional F).held.inside s) (sym (ap U.from e ∙ U.from_to y)))

  pub void-inside : x ≡ U.to none → true ≡ G.held.inside s x
  void-inside e = is-inside none e

  pub value-inside : (y : S) (b : Bool) → x ≡ U.to (some y) → b ≡ F.held.inside s y → b ≡ G.held.inside s x
  value-inside y b e f = f ∙ is-inside (some y) e

  is-output : (y : Option S) → x ≡ U.to y → output (optional F) s y ≡ output G s x
  is-output y e = rw O.is (ap (output (optional F) s) (sym (ap U.from e ∙ U.from_to y)))

  module _ (o z : List ℕ) where
    pub held-void : x ≡ U.to none → z ≡ laid (flag.kind.write false) o → Lays G s x o z
    held-void e f =
        let g : flag.kind.write false ≡ output G s x = sym (append-nil (flag.kind.write false)) ∙ is-output none e in
        record { put = λ r h. put-laid refl h (f ∙ ap (λ b. laid b o) g) }

    pub held-value : (y : S) → x ≡ U.to (some y) → Lays (exactly flag ⨟ F) s (true, y) o z → Lays G s x o z
    held-value y e a =
        let f : output (exactly flag ⨟ F) s (true, y) ≡ output G s x = is-output (some y) e in
        let i = is-inside (some y) e in
        record {
          put =
              λ r h. let g = a.put (record { short = r.short; inside = i ∙ r.inside }) (omega (arith, ap length f)) in
              record { is = g.is ∙ ap (λ b. b ++ drop (length b) o) f; long = refl };
        }

-- its marks: none, or those of the value
module _ {M S T : Type 0} {F : Format M S} {U : Cases S T} {G : Format (Option M) T} (O : OptionalHeld F U G) (x : T) where
  is-marks : (s : List ℕ) (y : Option S) → x ≡ U.to y → (optional F).held.marks s y ≡ G.held.marks s x
  is-marks s y e = rw O.is (ap ((optional F).held.marks s) (sym (ap U.from e ∙ U.from_to y)))

  pub void-marks : x ≡ U.to none → MarksAre G x []
  void-marks e = record { are = λ s. is-marks s none e }

  pub value-marks : (y : S) (l : List Bool) → x ≡ U.to (some y) → MarksAre F y l → MarksAre G x l
  value-marks y l e f = record { are = λ s. f.are s ∙ is-marks s (some y) e }

module _ {M S T : Type 0} {F : Format M S} {U : Cases S T} {G : Format (Option M) T} (O : OptionalHeld F U G) (A : Writer F) where
  pub held-sized : (s : List ℕ) (x : T) → Ready G s x → length (output G s x) ≡ option_size A (U.from x)
  held-sized s x r =
      let e : x ≡ U.to (U.from x) = sym (U.to_from x) in
      ap length (sym (is-output O s x (U.from x) e)) ∙ option-sized A s (U.from x) (record { short = r.short; inside = is-inside O s x (U.from x) e ∙ r.inside })

  pub void-size : (x : T) → x ≡ U.to none → 4 ≡ option_size A (U.from x)
  void-size x e = sym (ap (option_size A) (ap U.from e ∙ U.from_to none))

  pub value-size : (x : T) (y : S) (n : ℕ) → x ≡ U.to (some y) → n ≡ A.size y → 4 + n ≡ option_size A (U.from x)
  value-size x y n e f = ap (λ n. 4 + n) f ∙ sym (ap (option_size A) (ap U.from e ∙ U.from_to (some y)))

-- a true flag is the word 1
pub flag_word : (x : ℕ) → word_pair.kind.write (1, x) ≡ flag.kind.write true ++ word.kind.write x
unfolding word_pair flag word
flag_word x = refl

pub flag-hyper : (x : ℕ) → word.kind.write 1 ++ hyper.kind.write x ≡ flag.kind.write true ++ hyper.kind.write x
unfolding flag word
flag-hyper x = refl

-- an optional number that is written together with its flag
module _ {T : Type 0} {U : Cases ℕ T} {D : Codec T} where
  pub some_word : Optional word U D → (v : T) (x : ℕ) → v ≡ U.to (some x) → word_pair.kind.write (1, x) ≡ D.kind.write v
  some_word O v x e = flag_word x ∙ some_bytes O v x e

  pub some-hyper : Optional hyper U D → (v : T) (x : ℕ) → v ≡ U.to (some x) → word.kind.write 1 ++ hyper.kind.write x ≡ D.kind.write v
  some-hyper O v x e = flag-hyper x ∙ some_bytes O v x e

-- no rewriting is longer than the bytes read
pub maybe-within : {M T : Type 0} (C : Codec M) (U : Cases M T) → Within 0 C.kind → Within 0 (maybe C U).kind
maybe-within C U h = mapped-within (option C) U.to U.from U.from_to U.to_from (option-within C h)

module _ {M S T : Type 0} (F : Format M S) (U : Cases S T) (h : Within 0 F.codec.kind) where
  if-held-within : (b : Bool) → Within 0 (if_format F b).codec.kind
  if-held-within true = h
  if-held-within false = void-within

  pub held-within : Within 0 (maybe_held F U).codec.kind
  held-within =
      view-within _ _ (optional F).codec.laws
      (view-within _ _ (flagged F).codec.laws (chain-within flag-within if-held-within) (λ x m l u w e s f. no_default s))
      (λ x m l u w e s f. no_default s)
