use Rattle.std.proofs.Common.{◌≡◌, ◌≤◌, min, ℕ, ◌+◌, ◌-◌, ◌*◌, ◌<◌, length, true, false, List, ◌++◌, get_or, take, drop, Fits, w8, refl, sym, ap, subst, ◌∙◌, arith, length-drop, length-take-le, drop-drop}
use mathlib.Core.List.{append_assoc}
use Rattle.std.proofs.lemmas.List.Edits.{sets, sets-eq}
use borrow.Rule.Slice.PartMut.{put_mid}
use Rattle.xdr.specs.Meaning.Bytes.{Bytes}
use Rattle.xdr.specs.Laws.Lists.{known_bytes}
use Rattle.rpcwire.specs.Meaning.Stream.{Said, fits_of, settled, header_byte, Feeds}
use Rattle.rpcwire.specs.Meaning.Views.{view_fed}
use Rattle.rpcwire.specs.Laws.Steps.{Ended}
use Rattle.rpcwire.specs.Laws.Promise.{feed-misfit, feed-stopped}
use Rattle.rpcwire.specs.Laws.Turns.{Going, Turned, header-turned, bytes-turned, turned-out, turned-used, turned_on, going, feed-begun, feed-over, value-bound, moved_on}
use Rattle.rpcwire.specs.declared.assembler.Assembler.{Assembler}
use Rattle.rpcwire.specs.declared.assembler.Fed.{Fed}
use Rattle.rpcwire.proofs.assembler.feed.Goals as goal

-- an answer other than `More` ends the feed
ended : (r : Fed) → ((s : Assembler) (u : ℕ) → r ≡ Fed.More s u → ⊥) → Ended (view_fed r)
ended (Fed.Refused r s u) h = tt
ended (Fed.More s u) h = h s u refl
ended (Fed.Complete n s u) h = tt

-- what such an answer owes, once a turn has made it
owed : (s₀ : Assembler) (run d₀ : List ℕ) (r : Fed) (f : Said) (d : List ℕ) (j : ℕ) → Turned s₀ run d₀ f d j → view_fed r ≡ f
    → ((s : Assembler) (u : ℕ) → r ≡ Fed.More s u → ⊥) → fits_of s₀ (length d₀) ≡ true → s₀.stopped ≡ false → Bytes run
    → Feeds s₀ run d₀ (view_fed r) d
owed s₀ run d₀ r f d j t e h k z b =
    let t' = subst (λ (x : Said). Turned s₀ run d₀ x d j) (sym e) t in
    record { is = sym (turned-out s₀ run d₀ (view_fed r) d j t' (ended r h)) ∙ feed-begun s₀ run d₀ k z; bytes = b }

-- the turn of a header byte
header : (s₀ : Assembler) (run d₀ d : List ℕ) (s : Assembler) (i : ℕ) → Going s₀ run d₀ d s i → i < length run
    → Fits w8 (get_or run i 0) → s.left ≡ 0
    → Turned s₀ run d₀ (header_byte s.capacity s.placed s.header_count (s.header_value * 256 + get_or run i 0) (i + 1)) d (i + 1)
header s₀ run d₀ d s i g h w z = header-turned s₀ run d₀ d s i g z h (omega arith)

-- a part of the run copied into the buffer
stored : (run d f : List ℕ) (i n p : ℕ) → i + n ≤ length run → p + n ≤ length d → f ≡ take (i + n - i) (drop i run)
    → put_mid p (p + n - p) d f ≡ sets d p (take n (drop i run))
stored run d f i n p h k e =
    let e1 : i + n - i ≡ n = omega arith in
    let e2 : p + n - p ≡ n = omega arith in
    let e3 : f ≡ take n (drop i run) = e ∙ ap (λ (m : ℕ). take m (drop i run)) e1 in
    let e4 : length (take n (drop i run)) ≡ n = length-take-le n (drop i run) (omega (arith, length-drop i run)) in
    ap (λ (m : ℕ). put_mid p m d f) e2
    ∙ ap (λ (x : List ℕ). put_mid p n d x) e3
    ∙ ap (λ (x : List ℕ). take p d ++ (take n (drop i run) ++ x)) (drop-drop n p d)
    ∙ sym (append_assoc (take p d) (take n (drop i run)) (drop (p + n) d))
    ∙ ap (λ (m : ℕ). (take p d ++ take n (drop i run)) ++ drop (p + m) d) (sym e4)
    ∙ sym (sets-eq (take n (drop i run)) d p (omega arith))

-- the turn of a piece of a fragment
piece : (s₀ : Assembler) (run d₀ d : List ℕ) (s : Assembler) (i n : ℕ) (f : List ℕ) → Going s₀ run d₀ d s i → i < length run
    → n ≡ min s.left (length run - i) → (s.left ≡ 0 → ⊥) → f ≡ take (i + n - i) (drop i run)
    → Turned s₀ run d₀ (settled s.capacity (s.placed + n) (s.left - n) s.last (i + n)) (put_mid s.placed (s.placed + n - s.placed) d f) (i + n)
piece s₀ run d₀ d s i n f g h e z c =
    let fit = g.fits in
    subst (λ (x : List ℕ). Turned s₀ run d₀ (settled s.capacity (s.placed + n) (s.left - n) s.last (i + n)) x (i + n))
    (sym (stored run d f i n s.placed (omega arith) (omega (arith, fit)) c)) (bytes-turned s₀ run d₀ d s i g n e z h)

pub returns-then-not-fits : goal.returns-then-not-fits
returns-then-not-fits c =
    record {
      is = sym (feed-misfit c.args.state c.args.run.now c.args.buf.now (sym c.fits.ensures ∙ c.if-not-fits.true));
      bytes = known_bytes c.args.run.now c.type_inv.run;
    }

pub returns-then-state : goal.returns-then-state
returns-then-state c =
    record {
      is = sym (feed-stopped c.args.state c.args.run.now c.args.buf.now (sym c.fits.ensures ∙ c.if-not-fits.false) c.if-state.true);
      bytes = known_bytes c.args.run.now c.type_inv.run;
    }

pub loop-i-init : goal.loop-i-init
loop-i-init c = going c.args.state c.args.run.now c.args.buf.now (sym c.fits.ensures ∙ c.if-not-fits.false)

pub overflow_mul-word : goal.overflow_mul-word
overflow_mul-word c = omega (arith, value-bound c.loop-i.s (length c.loop-i.buf) c.loop-i.invariant.fits)

pub overflow_add-word : goal.overflow_add-word
overflow_add-word c =
    omega (arith, value-bound c.loop-i.s (length c.loop-i.buf) c.loop-i.invariant.fits, c.type_inv.run c.loop-i.i)

pub returns-in_default : goal.returns-in_default
returns-in_default c =
    let l = c.loop-i in
    let run = c.args.run.now in
    let t = header c.args.state run c.args.buf.now l.buf l.s l.i l.invariant c.loop-i-test.true (c.type_inv.run l.i) c.if-left-eq0.true in
    owed c.args.state run c.args.buf.now c.header_byte-step.result _ l.buf (l.i + 1) t c.header_byte-step.ensures c.in_default.not-More
    (sym c.fits.ensures ∙ c.if-not-fits.false) c.if-state.false (known_bytes run c.type_inv.run)

pub loop-i-smaller-then-left-eq0 : goal.loop-i-smaller-then-left-eq0
loop-i-smaller-then-left-eq0 c =
    let l = c.loop-i in
    let run = c.args.run.now in
    let t = header c.args.state run c.args.buf.now l.buf l.s l.i l.invariant c.loop-i-test.true (c.type_inv.run l.i) c.if-left-eq0.true in
    omega (arith, turned-used c.args.state run c.args.buf.now _ l.buf (l.i + 1) t c.in-More.next c.in-More.used (sym c.in-More.ensures))

pub loop-i-preserved-then-left-eq0 : goal.loop-i-preserved-then-left-eq0
loop-i-preserved-then-left-eq0 c =
    let l = c.loop-i in
    let run = c.args.run.now in
    let t = header c.args.state run c.args.buf.now l.buf l.s l.i l.invariant c.loop-i-test.true (c.type_inv.run l.i) c.if-left-eq0.true in
    turned_on c.args.state run c.args.buf.now _ l.buf (l.i + 1) t c.in-More.next c.in-More.used (sym c.in-More.ensures)

pub returns-in_default-step : goal.returns-in_default-step
returns-in_default-step c =
    let l = c.loop-i in
    let run = c.args.run.now in
    let n = c.min-n.result in
    let t = piece c.args.state run c.args.buf.now l.buf l.s l.i n c.copy_from_slice.new.self l.invariant c.loop-i-test.true c.min-n.ensures c.if-left-eq0.false c.copy_from_slice.ensures.after in
    owed c.args.state run c.args.buf.now c.settle-step.result _ _ (l.i + n) t c.settle-step.ensures c.in_default-step.not-More
    (sym c.fits.ensures ∙ c.if-not-fits.false) c.if-state.false (known_bytes run c.type_inv.run)

pub loop-i-smaller : goal.loop-i-smaller
loop-i-smaller c =
    let l = c.loop-i in
    let run = c.args.run.now in
    let n = c.min-n.result in
    let t = piece c.args.state run c.args.buf.now l.buf l.s l.i n c.copy_from_slice.new.self l.invariant c.loop-i-test.true c.min-n.ensures c.if-left-eq0.false c.copy_from_slice.ensures.after in
    moved_on (length run) l.i n l.s.left c.in-More-step.used c.min-n.ensures c.if-left-eq0.false c.loop-i-test.true
    (turned-used c.args.state run c.args.buf.now _ _ (l.i + n) t c.in-More-step.next c.in-More-step.used (sym c.in-More-step.ensures))

pub loop-i-preserved : goal.loop-i-preserved
loop-i-preserved c =
    let l = c.loop-i in
    let run = c.args.run.now in
    let n = c.min-n.result in
    let t = piece c.args.state run c.args.buf.now l.buf l.s l.i n c.copy_from_slice.new.self l.invariant c.loop-i-test.true c.min-n.ensures c.if-left-eq0.false c.copy_from_slice.ensures.after in
    turned_on c.args.state run c.args.buf.now _ _ (l.i + n) t c.in-More-step.next c.in-More-step.used (sym c.in-More-step.ensures)

pub returns : goal.returns
returns c =
    record {
      is =
          sym (feed-over c.args.state c.args.run.now c.args.buf.now c.loop-i.buf c.loop-i.s c.loop-i.i c.loop-i.invariant c.loop-i-test.false)
          ∙ feed-begun c.args.state c.args.run.now c.args.buf.now (sym c.fits.ensures ∙ c.if-not-fits.false) c.if-state.false;
      bytes = known_bytes c.args.run.now c.type_inv.run;
    }
