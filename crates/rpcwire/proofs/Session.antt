-- However a stream is cut into runs, it gives the same records, the same total used, the same stop and the same state at the end: every
-- way of feeding it is its bytes one by one.
-- Assumes nothing.
use Rattle.std.specs.Prelude.{◌≡◌, ◌⊎◌, Bool, cond, leb, ltb, length, set, take, drop}
use Rattle.std.proofs.Math.Path.{refl, sym, ap}
use Rattle.std.proofs.Common.{◌∙◌, subst, subst₂, inl, inr, ⊎_elim, add-zero, add_assoc, arith, length-set, length-append, take-append-drop, take-suc-set, length-take-le, leb-true}
use Rattle.std.proofs.Math.Option.{Option, none, some}
use mathlib.Core.List.{List, [], ◌∷◌, ◌++◌, foldl, foldl-append, append_assoc}
use Rattle.std.proofs.Math.Bool.{true, false}
use Prim.Native.Nat.{ℕ, zero, suc, ◌+◌, ◌-◌, ◌*◌, ◌%◌, ◌≤◌, ◌<◌}
use Rattle.std.proofs.Math.Seq.{take-append_seam, take-length}
use Rattle.std.proofs.lemmas.List.{take-append-le}
use Rattle.xdr.specs.Meaning.Bytes.{Bytes}
use Rattle.xdr.specs.Meaning.Answer.{most}
use Rattle.xdr.specs.Laws.Lists.{bytes_take, bytes_drop}
use Rattle.xdr.specs.declared.refusal.Refusal.TheVariants.{TooLong, Overrun}
use Rattle.rpcwire.specs.Meaning.Stream.{Said, more, complete, refused, Now, stand, fresh, feed_of, step_at, header_byte, headed, settled, fits_of, fresh_of, made, unmade}
use Rattle.rpcwire.specs.Meaning.Promise.{used_said, placed_said, state_said, shift_said, resume_said}
use Rattle.rpcwire.specs.Meaning.Session.{Stop, Heard, unheard, first, note, Call, note_call, heard, Next, Calls, Over, Equal, Way, HoweverCut, OnTheWay, SameStop, Stopping, Function, Keeps, call_of, in_runs, WhateverFeeds, singly, ByteByByte}
use Rattle.rpcwire.specs.Laws.Fits.{fit}
use Rattle.rpcwire.specs.Laws.Steps.{begin-more, Sound, used}
use Rattle.rpcwire.specs.Laws.Promise.{fresh-fits, sound, split, feed-stopped, feed-byte, byte-used, promised}
use Rattle.rpcwire.specs.declared.assembler.Assembler.{Assembler}

abbrev pub note_now : Heard → Now → Heard
note_now h n = note h n.said n.held

-- one byte
abbrev pub listen : Heard → ℕ → Heard
listen h b = note_now h (feed_of h.state (b ∷ []) h.held)

-- the stop that there is, where n bytes are used
abbrev stop_at : Bool → ℕ → Option Stop
stop_at true n = some (record { answer = Overrun; after = n })
stop_at false n = none

-- what holds from a fresh state on: the state can be fed, and what is noted of the stop is what it says
pub record Good (h : Heard) : Type 0 where
  pub fits : fits_of h.state (length h.held) ≡ true
  pub stop : h.stop ≡ stop_at h.state.stopped h.total

-- ---- a stopped state stays

first-stays : (o : Option Stop) (x y : Stop) → o ≡ some y → first o x ≡ o
first-stays none x y e = cc
first-stays (some z) x y e = refl

stopped-note : (h : Heard) (run : List ℕ) → Good h → h.state.stopped ≡ true → note_now h (feed_of h.state run h.held) ≡ h
stopped-note h run g t =
    ap (note_now h) (feed-stopped h.state run h.held g.fits t)
    ∙ ap (λ (n : ℕ). record { records = h.records; total = n; stop = first h.stop (record { answer = Overrun; after = n }); state = h.state; held = h.held }) (add-zero h.total)
    ∙ ap (λ (o : Option Stop). record { records = h.records; total = h.total; stop = o; state = h.state; held = h.held })
    (first-stays h.stop (record { answer = Overrun; after = h.total }) (record { answer = Overrun; after = h.total }) (g.stop ∙ ap (λ (b : Bool). stop_at b h.total) t))

pub stopped-listen : (h : Heard) (run : List ℕ) → Good h → h.state.stopped ≡ true → foldl listen h run ≡ h
stopped-listen h [] g t = refl
stopped-listen h (b ∷ bs) g t = ap (λ (k : Heard). foldl listen k bs) (stopped-note h (b ∷ []) g t) ∙ stopped-listen h bs g t

-- ---- what is good stays so

good-said : (h : Heard) (f : Said) (d : List ℕ) → Sound f d → h.stop ≡ none → Good (note h f d)
good-said h (more s u) d k e = record { fits = k.0; stop = e ∙ sym (ap (λ (b : Bool). stop_at b (h.total + u)) k.1) }
good-said h (complete n s u) d k e = record { fits = k.0; stop = e ∙ sym (ap (λ (b : Bool). stop_at b (h.total + u)) k.1) }
good-said h (refused r s u) d k e =
    record {
      fits = k.0;
      stop =
          ap (λ (o : Option Stop). first o (record { answer = r; after = h.total + u })) e
          ∙ ap (λ q. some (record { answer = q; after = h.total + u })) k.2
          ∙ sym (ap (λ (b : Bool). stop_at b (h.total + u)) k.1);
    }

good-at : (h : Heard) (run : List ℕ) (t : Bool) → Bytes run → Good h → h.state.stopped ≡ t → Good (note_now h (feed_of h.state run h.held))
good-at h run true hb g t = subst Good (sym (stopped-note h run g t)) g
good-at h run false hb g t =
    let n = feed_of h.state run h.held in
    good-said h n.said n.held (sound h.state run h.held hb g.fits) (g.stop ∙ ap (λ (b : Bool). stop_at b h.total) t)

good-next : (h : Heard) (run : List ℕ) → Bytes run → Good h → Good (note_now h (feed_of h.state run h.held))
good-next h run hb g = good-at h run h.state.stopped hb g refl

pub good-listen : (run : List ℕ) (h : Heard) → Bytes run → Good h → Good (foldl listen h run)
good-listen [] h hb g = g
good-listen (b ∷ bs) h hb g = good-listen bs (listen h b) hb.1 (good-next h (b ∷ []) (hb.0, tt) g)

-- ---- a run of which all is used is its bytes one by one

feed-none : (s : Assembler) (d : List ℕ) → fits_of s (length d) ≡ true → s.stopped ≡ false → feed_of s [] d ≡ stand (more s 0) d
unfolding feed_of
feed-none s d k t = ap (λ (f : Said). stand f d) (begin-more s (length d) k t)

none-note : (h : Heard) (t : Bool) → Good h → h.state.stopped ≡ t → note_now h (feed_of h.state [] h.held) ≡ h
none-note h true g t = stopped-note h [] g t
none-note h false g t =
    ap (note_now h) (feed-none h.state h.held g.fits t)
    ∙ ap (λ (n : ℕ). record { records = h.records; total = n; stop = h.stop; state = h.state; held = h.held }) (add-zero h.total)

note-shift : (h : Heard) (s : Assembler) (u : ℕ) (d₁ : List ℕ) (f : Said) (d : List ℕ) → note h (shift_said u f) d ≡ note (note h (more s u) d₁) f d
note-shift h s u d₁ (more s' v) d =
    ap (λ (n : ℕ). record { records = h.records; total = n; stop = h.stop; state = s'; held = d }) (sym (add_assoc h.total u v))
note-shift h s u d₁ (complete n s' v) d =
    ap (λ (m : ℕ). record { records = h.records ++ (take n d ∷ []); total = m; stop = h.stop; state = s'; held = d }) (sym (add_assoc h.total u v))
note-shift h s u d₁ (refused r s' v) d =
    ap (λ (n : ℕ). record { records = h.records; total = n; stop = first h.stop (record { answer = r; after = n }); state = s'; held = d })
    (sym (add_assoc h.total u v))

used-shift : (u : ℕ) (f : Said) → used_said (shift_said u f) ≡ u + used_said f
used-shift u (more s v) = refl
used-shift u (complete n s v) = refl
used-shift u (refused r s v) = refl

no_more : (bs : List ℕ) (h : Heard) → length bs ≡ 0 → foldl listen h bs ≡ h
no_more [] h e = refl
no_more (b ∷ bs) h e = absurd (omega arith)

-- with the run's other bytes, and what is known of them
module _ (b : ℕ) (bs : List ℕ) (hb : Bytes (b ∷ bs)) (ih : (h : Heard) → Good h → used (feed_of h.state bs h.held) ≡ length bs → foldl listen h bs ≡ note_now h (feed_of h.state bs h.held)) where
  turn-said : (h : Heard) (f : Said) (d : List ℕ) → Good (note h f d) → used_said f ≡ 1 → feed_of h.state (b ∷ bs) h.held ≡ resume_said f d bs
      → used (feed_of h.state (b ∷ bs) h.held) ≡ suc (length bs) → foldl listen (note h f d) bs ≡ note_now h (feed_of h.state (b ∷ bs) h.held)
  turn-said h (more s u) d g one e all =
      let m = feed_of s bs d in
      let z : u + used m ≡ suc (length bs) = sym (used-shift u m.said) ∙ sym (ap used e) ∙ all in
      ih (note h (more s u) d) g (omega arith)
      ∙ sym (note-shift h s u d m.said m.held)
      ∙ sym (ap (note_now h) e)
  turn-said h (complete n s u) d g one e all =
      let z : u ≡ suc (length bs) = sym (ap used e) ∙ all in
      no_more bs (note h (complete n s u) d) (omega arith) ∙ sym (ap (note_now h) e)
  turn-said h (refused r s u) d g one e all =
      let z : u ≡ suc (length bs) = sym (ap used e) ∙ all in
      no_more bs (note h (refused r s u) d) (omega arith) ∙ sym (ap (note_now h) e)

  turn : (h : Heard) (t : Bool) → Good h → h.state.stopped ≡ t → used (feed_of h.state (b ∷ bs) h.held) ≡ suc (length bs)
      → foldl listen h (b ∷ bs) ≡ note_now h (feed_of h.state (b ∷ bs) h.held)
  turn h true g t all =
      let z : used (feed_of h.state (b ∷ bs) h.held) ≡ 0 = ap used (feed-stopped h.state (b ∷ bs) h.held g.fits t) in
      absurd (omega arith)
  turn h false g t all =
      let one = feed_of h.state (b ∷ []) h.held in
      turn-said h one.said one.held (good-next h (b ∷ []) (hb.0, tt) g) (byte-used h.state h.held b g.fits t)
      (split h.state (b ∷ []) bs h.held (hb.0, tt)) all

pub heard-run : (run : List ℕ) (h : Heard) → Bytes run → Good h → used (feed_of h.state run h.held) ≡ length run
    → foldl listen h run ≡ note_now h (feed_of h.state run h.held)
heard-run [] h hb g all = sym (none-note h h.state.stopped g refl)
heard-run (b ∷ bs) h hb g all = turn b bs hb (λ k q n. heard-run bs k hb.1 q n) h h.state.stopped g refl all

-- ---- what stood in the buffer before plays no part

-- one answer with two buffers that agree on what was placed
record Alike (f : Said) (d e : List ℕ) : Type 0 where
  seen : take (placed_said f) d ≡ take (placed_said f) e
  next : take (state_said f).placed d ≡ take (state_said f).placed e
  long : length d ≡ length e

module _ (d e : List ℕ) (long : length d ≡ length e) where
  alike-settled : (c p l : ℕ) (z : Bool) (u : ℕ) → take p d ≡ take p e → Alike (settled c p l z u) d e
  unfolding settled
  alike-settled c p zero true u h = record { seen = h; next = refl; long = long }
  alike-settled c p zero false u h = record { seen = h; next = h; long = long }
  alike-settled c p (suc l) z u h = record { seen = h; next = h; long = long }

  alike-pick : (t : Bool) (f g : Said) → Alike f d e → Alike g d e → Alike (cond t f g) d e
  alike-pick true f g x y = x
  alike-pick false f g x y = y

  alike-byte : (c p n w u : ℕ) → take p d ≡ take p e → Alike (header_byte c p n w u) d e
  unfolding header_byte headed
  alike-byte c p n w u h =
      alike-pick (ltb n 3) _ _ (record { seen = h; next = h; long = long })
      (alike-pick (leb (w % 2147483648) (c - p)) _ _ (alike-settled c p (w % 2147483648) (leb 2147483648 w) u h) (record { seen = h; next = h; long = long }))

note-equal : (h g : Heard) (f : Said) (d e : List ℕ) → h.records ≡ g.records → h.total ≡ g.total → h.stop ≡ g.stop → Alike f d e → Equal (note h f d) (note g f e)
note-equal h g (more s u) d e r t o a = record { records = r; total = ap (λ (n : ℕ). n + u) t; stop = o; state = refl; seen = a.next; long = a.long }
note-equal h g (complete n s u) d e r t o a =
    record {
      records = ap (λ (x : List (List ℕ)). x ++ (take n d ∷ [])) r ∙ ap (λ (x : List ℕ). g.records ++ (x ∷ [])) a.seen;
      total = ap (λ (n : ℕ). n + u) t;
      stop = o;
      state = refl;
      seen = a.next;
      long = a.long;
    }
note-equal h g (refused n s u) d e r t o a =
    record {
      records = r;
      total = ap (λ (n : ℕ). n + u) t;
      stop =
          ap (λ (x : Option Stop). first x (record { answer = n; after = h.total + u })) o
          ∙ ap (λ (m : ℕ). first g.stop (record { answer = n; after = m + u })) t;
      state = refl;
      seen = a.next;
      long = a.long;
    }

step-equal : (h g : Heard) (l : ℕ) (s : Assembler) (d e : List ℕ) (b u : ℕ) → h.records ≡ g.records → h.total ≡ g.total → h.stop ≡ g.stop
    → (0 < l → s.placed < length d) → take s.placed d ≡ take s.placed e → length d ≡ length e → Equal (note_now h (step_at l s d b u)) (note_now g (step_at l s e b u))
unfolding step_at
step-equal h g zero s d e b u r t o p q m =
    note-equal h g (header_byte s.capacity s.placed s.header_count (s.header_value * 256 + b) u) d e r t o
    (alike-byte d e m s.capacity s.placed s.header_count (s.header_value * 256 + b) u q)
step-equal h g (suc l) s d e b u r t o p q m =
    let x = set d s.placed b in
    let y = set e s.placed b in
    let inside = p (omega arith) in
    let one : s.placed + 1 ≡ suc s.placed = omega arith in
    let agree : take (s.placed + 1) x ≡ take (s.placed + 1) y =
    ap (λ (k : ℕ). take k x) one ∙ take-suc-set d s.placed b inside ∙ ap (λ (z : List ℕ). z ++ (b ∷ [])) q
    ∙ sym (take-suc-set e s.placed b (omega arith)) ∙ ap (λ (k : ℕ). take k y) (sym one) in
    note-equal h g (settled s.capacity (s.placed + 1) l s.last u) x y r t o
    (alike-settled x y (length-set d s.placed b ∙ m ∙ sym (length-set e s.placed b)) s.capacity (s.placed + 1) l s.last u agree)

-- one byte, where the states are one
listen-at : (h g : Heard) (s : Assembler) (d e : List ℕ) (b : ℕ) (t : Bool) → h.records ≡ g.records → h.total ≡ g.total → h.stop ≡ g.stop
    → fits_of s (length d) ≡ true → s.stopped ≡ t → take s.placed d ≡ take s.placed e → length d ≡ length e
    → Equal (note_now h (feed_of s (b ∷ []) d)) (note_now g (feed_of s (b ∷ []) e))
listen-at h g s d e b true r t o f z q m =
    let f' = subst (λ (n : ℕ). fits_of s n ≡ true) m f in
    let a : Alike (refused Overrun s 0) d e = record { seen = q; next = q; long = m } in
    subst₂ (λ (x y : Now). Equal (note_now h x) (note_now g y)) (sym (feed-stopped s (b ∷ []) d f z)) (sym (feed-stopped s (b ∷ []) e f' z)) (note-equal h g (refused Overrun s 0) d e r t o a)
listen-at h g s d e b false r t o f z q m =
    let f' = subst (λ (n : ℕ). fits_of s n ≡ true) m f in
    let k = fit s (length d) f in
    subst₂ (λ (x y : Now). Equal (note_now h x) (note_now g y)) (sym (feed-byte s d b f z)) (sym (feed-byte s e b f' z))
    (step-equal h g s.left s d e b (0 + 1) r t o (λ l. omega (arith, k)) q m)

listen-equal : (h g : Heard) (b : ℕ) → Good h → Equal h g → Equal (listen h b) (listen g b)
listen-equal h g b f q =
    subst (λ (s : Assembler). Equal (listen h b) (note_now g (feed_of s (b ∷ []) g.held))) q.state
    (listen-at h g h.state h.held g.held b h.state.stopped q.records q.total q.stop f.fits refl q.seen q.long)

pub walk-equal : (run : List ℕ) (h g : Heard) → Bytes run → Good h → Equal h g → Equal (foldl listen h run) (foldl listen g run)
walk-equal [] h g hb f q = q
walk-equal (b ∷ bs) h g hb f q = walk-equal bs (listen h b) (listen g b) hb.1 (good-next h (b ∷ []) (hb.0, tt) f) (listen-equal h g b f q)

-- ---- to have heard the same

equal-sym : {h g : Heard} → Equal h g → Equal g h
equal-sym {h} {g} q =
    record {
      records = sym q.records;
      total = sym q.total;
      stop = sym q.stop;
      state = sym q.state;
      seen = sym (subst (λ (s : Assembler). take s.placed h.held ≡ take s.placed g.held) q.state q.seen);
      long = sym q.long;
    }

equal-trans : {h g k : Heard} → Equal h g → Equal g k → Equal h k
equal-trans {h} {g} {k} q r =
    record {
      records = q.records ∙ r.records;
      total = q.total ∙ r.total;
      stop = q.stop ∙ r.stop;
      state = q.state ∙ r.state;
      seen = q.seen ∙ subst (λ (s : Assembler). take s.placed g.held ≡ take s.placed k.held) (sym q.state) r.seen;
      long = q.long ∙ r.long;
    }

good-equal : {h g : Heard} → Equal h g → Good g → Good h
good-equal {h} {g} q f =
    record {
      fits = subst₂ (λ (s : Assembler) (n : ℕ). fits_of s n ≡ true) (sym q.state) (sym q.long) f.fits;
      stop = q.stop ∙ f.stop ∙ subst₂ (λ (s : Assembler) (n : ℕ). stop_at g.state.stopped g.total ≡ stop_at s.stopped n) (sym q.state) (sym q.total) refl;
    }

-- ---- every way of feeding is the stream's bytes one by one

-- another buffer
abbrev lend : Heard → List ℕ → Heard
lend h d = record { records = h.records; total = h.total; stop = h.stop; state = h.state; held = d }

note-lent : (h : Heard) (l : List ℕ) (f : Said) (d : List ℕ) → note (lend h l) f d ≡ note h f d
note-lent h l (more s u) d = refl
note-lent h l (complete n s u) d = refl
note-lent h l (refused r s u) d = refl

note-total : (h : Heard) (f : Said) (d : List ℕ) → (note h f d).total ≡ h.total + used_said f
note-total h (more s u) d = refl
note-total h (complete n s u) d = refl
note-total h (refused r s u) d = refl

-- what one call used
next-equal : (h g : Heard) (s : List ℕ) (c : Call) → Good g → Equal h g → Next h s c → Equal (note_call h c) (foldl listen g (take (used_said c.said) s))
next-equal h g s c f q k =
    let u = used_said c.said in
    let p = promised k.answers in
    let h' = lend h c.lent in
    let q' : Equal h' g = record { records = q.records; total = q.total; stop = q.stop; state = q.state; seen = k.placed ∙ q.seen; long = k.long ∙ q.long } in
    let f' : Good h' = good-equal q' f in
    let part = take u c.run in
    let hb : Bytes part = bytes_take u c.run k.answers.bytes in
    let e : foldl listen h' part ≡ note_call h c =
    heard-run part h' hb f' (ap used p.alone ∙ sym (length-take-le u c.run p.within))
    ∙ ap (note_now h') p.alone
    ∙ note-lent h c.lent c.said c.left in
    let same : part ≡ take u s = sym (take-append-le u c.run k.rest p.within) ∙ ap (take u) (sym k.run) in
    subst₂ (λ (x : Heard) (y : List ℕ). Equal x (foldl listen g y)) e same (walk-equal part h' g hb f' q')

-- the bytes that the calls used, and what is left
record Used (h g : Heard) (s : List ℕ) (cs : List Call) : Type 0 where
  done : List ℕ
  rest : List ℕ
  stream : done ++ rest ≡ s
  total : (heard h cs).total ≡ h.total + length done
  equal : Equal (heard h cs) (foldl listen g done)

calls-used : (cs : List Call) (s : List ℕ) (h g : Heard) → Bytes s → Good g → Equal h g → Calls h s cs → Used h g s cs
calls-used [] s h g hb f q k = record { done = []; rest = s; stream = refl; total = sym (add-zero h.total); equal = q }
calls-used (c ∷ cs) s h g hb f q k =
    let u = used_said c.said in
    let now = take u s in
    let later = drop u s in
    let w = calls-used cs later (note_call h c) (foldl listen g now) (bytes_drop u s hb) (good-listen now g (bytes_take u s hb) f) (next-equal h g s c f q k.0) k.1 in
    let p = promised k.0.answers in
    let whole : length s ≡ length c.run + length k.0.rest = ap length k.0.run ∙ length-append c.run k.0.rest in
    let short : length now ≡ u = length-take-le u s (omega (arith, p.within)) in
    let sum : length (now ++ w.done) ≡ length now + length w.done = length-append now w.done in
    record {
      done = now ++ w.done;
      rest = w.rest;
      stream = append_assoc now w.done w.rest ∙ ap (λ (l : List ℕ). now ++ l) w.stream ∙ take-append-drop u s;
      total =
          let a = w.total in
          let b = note-total h c.said c.left in
          omega arith;
      equal = subst (Equal (heard (note_call h c) cs)) (sym (foldl-append listen g now w.done)) w.equal;
    }

-- the part that was used is told by its length
done-is : (s done rest : List ℕ) → done ++ rest ≡ s → done ≡ take (length done) s
done-is s done rest e = sym (take-append_seam done rest) ∙ ap (take (length done)) e

done-bytes : {h g : Heard} {s : List ℕ} {cs : List Call} → Bytes s → (x : Used h g s cs) → Bytes x.done
done-bytes {s = s} hb x = subst Bytes (sym (done-is s x.done x.rest x.stream)) (bytes_take (length x.done) s hb)

-- ---- from a fresh state

fresh-made : (a : Assembler) (c : ℕ) (t : Bool) → leb c most ≡ t → cond t (made (fresh c)) (unmade TooLong) ≡ made a → (fresh c ≡ a) × (c ≤ most)
fresh-made a c true h e = (cc, leb-true c most h)
fresh-made a c false h e = let z : ◌≡◌ {A = ℕ} 0 1 = cc in absurd (omega arith)

is-fresh : (a : Assembler) (d : List ℕ) → fresh_of (length d) ≡ made a → (fresh (length d) ≡ a) × (length d ≤ most)
is-fresh a d e = fresh-made a (length d) (leb (length d) most) refl e

good-unheard : (a : Assembler) (d : List ℕ) → fresh_of (length d) ≡ made a → Good (unheard a d)
good-unheard a d e =
    let k = is-fresh a d e in
    subst (λ (s : Assembler). Good (unheard s d)) k.0 (record { fits = fresh-fits (length d) k.1; stop = refl })

equal-unheard : (a : Assembler) (d e : List ℕ) → fresh_of (length d) ≡ made a → length e ≡ length d → Equal (unheard a e) (unheard a d)
equal-unheard a d e f l =
    record {
      records = refl;
      total = refl;
      stop = refl;
      state = refl;
      seen = subst (λ (s : Assembler). take s.placed e ≡ take s.placed d) (is-fresh a d f).0 refl;
      long = l;
    }

-- a way of feeding, beside the bytes one by one into the buffer d
way-used : {s : List ℕ} (a : Assembler) (d e : List ℕ) {cs : List Call} → fresh_of (length d) ≡ made a → length e ≡ length d → Way s a e cs
    → Used (unheard a e) (unheard a d) s cs
way-used {s} a d e {cs} f l w = calls-used cs s (unheard a e) (unheard a d) w.bytes (good-unheard a d f) (equal-unheard a d e f l) w.calls

on-from : {s : List ℕ} {a : Assembler} {d e : List ℕ} {xs ys : List Call} → Used (unheard a d) (unheard a d) s xs → Used (unheard a e) (unheard a d) s ys
    → (heard (unheard a d) xs).total ≡ (heard (unheard a e) ys).total → Equal (heard (unheard a d) xs) (heard (unheard a e) ys)
on-from {s} {a} {d} {e} {xs} {ys} x y t =
    let n : length x.done ≡ length y.done = let p = x.total in let q = y.total in omega arith in
    let same : x.done ≡ y.done = done-is s x.done x.rest x.stream ∙ ap (λ (k : ℕ). take k s) n ∙ sym (done-is s y.done y.rest y.stream) in
    equal-trans x.equal (subst (λ (l : List ℕ). Equal (foldl listen (unheard a d) l) (heard (unheard a e) ys)) (sym same) (equal-sym y.equal))

pub on-the-way : (s : List ℕ) (a : Assembler) (d e : List ℕ) (xs ys : List Call) → OnTheWay s a d e xs ys
on-the-way s a d e xs ys x y l t = on-from (way-used a d d x.fresh refl x) (way-used a d e x.fresh (sym l) y) t

-- at the end it is the whole stream
over-used : {s : List ℕ} {h g : Heard} {cs : List Call} → Bytes s → Good g → Used h g s cs → ((heard h cs).total ≡ h.total + length s) ⊎ ((heard h cs).state.stopped ≡ true)
    → Equal (heard h cs) (foldl listen g s)
over-used {s} {h} {g} {cs} hb f x o =
    ⊎_elim
    (λ t.
    let n : length x.done ≡ length s = let p = x.total in omega arith in
    let all : x.done ≡ s = done-is s x.done x.rest x.stream ∙ ap (λ (k : ℕ). take k s) n ∙ take-length s in
    subst (λ (l : List ℕ). Equal (heard h cs) (foldl listen g l)) all x.equal)
    (λ t.
    let w = foldl listen g x.done in
    let stays : foldl listen w x.rest ≡ w = stopped-listen w x.rest (good-listen x.done g (done-bytes hb x) f) (ap (λ (a : Assembler). a.stopped) (sym x.equal.state) ∙ t) in
    let all : w ≡ foldl listen g s = sym stays ∙ sym (foldl-append listen g x.done x.rest) ∙ ap (foldl listen g) x.stream in
    subst (Equal (heard h cs)) all x.equal)
    o

way-over : {s : List ℕ} (a : Assembler) (d e : List ℕ) {cs : List Call} → fresh_of (length d) ≡ made a → length e ≡ length d → Way s a e cs → Over s (heard (unheard a e) cs)
    → Equal (heard (unheard a e) cs) (foldl listen (unheard a d) s)
way-over a d e f l w o = over-used w.bytes (good-unheard a d f) (way-used a d e f l w) (⊎_elim (λ t. inl (let z = t in omega arith)) inr o)

pub however-cut : (s : List ℕ) (a : Assembler) (d e : List ℕ) (xs ys : List Call) → HoweverCut s a d e xs ys
however-cut s a d e xs ys x y l p q = equal-trans (way-over a d d x.fresh refl x p) (equal-sym (way-over a d e x.fresh (sym l) y q))

pub same_stop : (s : List ℕ) (a : Assembler) (d e : List ℕ) (xs ys : List Call) → SameStop s a d e xs ys
same_stop s a d e xs ys x y l p q n = let c = (however-cut s a d e xs ys x y l p q).stop in (λ t. sym c ∙ t, λ t. c ∙ t)

pub good-way : {s : List ℕ} {a : Assembler} {d : List ℕ} {cs : List Call} → Way s a d cs → Good (heard (unheard a d) cs)
good-way {s} {a} {d} {cs} w =
    let x = way-used a d d w.fresh refl w in
    good-equal x.equal (good-listen x.done (unheard a d) (done-bytes w.bytes x) (good-unheard a d w.fresh))

stopping-good : (h : Heard) → Good h → Stopping h
stopping-good h g =
    let stop : (t : Bool) → h.state.stopped ≡ t → h.stop ≡ stop_at t h.total = λ t e. g.stop ∙ ap (λ (b : Bool). stop_at b h.total) e in
    record {
      none_yet = stop false;
      stop = stop true;
      stays = λ t {s} {c} k. (promised k.answers).stays (subst (λ (n : ℕ). fits_of h.state n ≡ true) (sym k.long) g.fits) t;
      goes_on = λ t {s} {c} k n. (promised k.answers).moves (subst (λ (n : ℕ). fits_of h.state n ≡ true) (sym k.long) g.fits) t n;
    }

pub stopping : {s : List ℕ} {a : Assembler} {d : List ℕ} {cs : List Call} → Way s a d cs → Stopping (heard (unheard a d) cs)
stopping {s} {a} {d} {cs} w = stopping-good (heard (unheard a d) cs) (good-way w)

-- ---- a function in runs of any lengths

pub in-runs : (F : Function) → Keeps F → (ns : List ℕ) (h : Heard) (s : List ℕ) → Bytes s → Calls h s (in_runs F ns h s)
unfolding in_runs
in-runs F keeps [] h s hb = tt
in-runs F keeps (n ∷ ns) h s hb =
    let c = call_of F h (take n s) in (
      record { rest = drop n s; run = sym (take-append-drop n s); placed = refl; long = refl; answers = keeps h.state (take n s) h.held (bytes_take n s hb) },
      in-runs F keeps ns (note_call h c) (drop (used_said c.said) s) (bytes_drop (used_said c.said) s hb),
    )

pub way_of : (F : Function) → Keeps F → (ns s : List ℕ) (a : Assembler) (d : List ℕ) → Bytes s → fresh_of (length d) ≡ made a
    → Way s a d (in_runs F ns (unheard a d) s)
way_of F keeps ns s a d hb f = record { bytes = hb; fresh = f; calls = in-runs F keeps ns (unheard a d) s hb }

pub whatever-feeds : (F G : Function) → WhateverFeeds F G
whatever-feeds F G kf kg s hb a d e f l ns ms p q =
    let g : fresh_of (length e) ≡ made a = subst (λ (n : ℕ). fresh_of n ≡ made a) l f in
    however-cut s a d e (in_runs F ns (unheard a d) s) (in_runs G ms (unheard a e) s) (way_of F kf ns s a d hb f) (way_of G kg ms s a e hb g) l p q

-- ---- every stream has a way to the end, by single bytes

module _ (F : Function) (keeps : Keeps F) where
  stopped-runs : (ns : List ℕ) (h : Heard) (s : List ℕ) → Bytes s → Good h → h.state.stopped ≡ true → heard h (in_runs F ns h s) ≡ h
  unfolding in_runs
  stopped-runs [] h s hb g t = refl
  stopped-runs (n ∷ ns) h s hb g t =
      let c = call_of F h (take n s) in
      let u = used_said c.said in
      let e : note_call h c ≡ h = ap (note_now h) (keeps h.state (take n s) h.held (bytes_take n s hb)).is ∙ stopped-note h (take n s) g t in
      ap (λ (k : Heard). heard k (in_runs F ns k (drop u s))) e ∙ stopped-runs ns h (drop u s) (bytes_drop u s hb) g t

  single-at : (b : ℕ) (bs : List ℕ) (h : Heard) (t : Bool) → Bytes (b ∷ bs) → Good h → h.state.stopped ≡ t
      → ((k : Heard) → Good k → heard k (in_runs F (singly bs) k bs) ≡ foldl listen k bs) → heard h (in_runs F (singly (b ∷ bs)) h (b ∷ bs)) ≡ foldl listen h (b ∷ bs)
  unfolding in_runs
  single-at b bs h true hb g t ih = stopped-runs (singly (b ∷ bs)) h (b ∷ bs) hb g t ∙ sym (stopped-listen h (b ∷ bs) g t)
  single-at b bs h false hb g t ih =
      ap (λ (n : Now). heard (note_now h n) (in_runs F (singly bs) (note_now h n) (drop (used n) (b ∷ bs)))) (keeps h.state (b ∷ []) h.held (hb.0, tt)).is
      ∙ ap (λ (u : ℕ). heard (listen h b) (in_runs F (singly bs) (listen h b) (drop u (b ∷ bs)))) (byte-used h.state h.held b g.fits t)
      ∙ ih (listen h b) (good-next h (b ∷ []) (hb.0, tt) g)

  single : (s : List ℕ) (h : Heard) → Bytes s → Good h → heard h (in_runs F (singly s) h s) ≡ foldl listen h s
  unfolding in_runs
  single [] h hb g = refl
  single (b ∷ bs) h hb g = single-at b bs h h.state.stopped hb g refl (λ k f. single bs k hb.1 f)

-- all is used, or the assembler is stopped
abbrev Heeded : List ℕ → Heard → Type 0
Heeded s h = ((foldl listen h s).total ≡ h.total + length s) ⊎ ((foldl listen h s).state.stopped ≡ true)

heeded-at : (b : ℕ) (bs : List ℕ) (h : Heard) (t : Bool) → Bytes (b ∷ bs) → Good h → h.state.stopped ≡ t → ((k : Heard) → Good k → Heeded bs k) → Heeded (b ∷ bs) h
heeded-at b bs h true hb g t ih = inr (ap (λ (k : Heard). k.state.stopped) (stopped-listen h (b ∷ bs) g t) ∙ t)
heeded-at b bs h false hb g t ih =
    let n = feed_of h.state (b ∷ []) h.held in
    let one : (listen h b).total ≡ h.total + 1 = note-total h n.said n.held ∙ ap (λ (u : ℕ). h.total + u) (byte-used h.state h.held b g.fits t) in
    ⊎_elim (λ e. inl (let z = e in omega arith)) inr (ih (listen h b) (good-next h (b ∷ []) (hb.0, tt) g))

heeded : (s : List ℕ) (h : Heard) → Bytes s → Good h → Heeded s h
heeded [] h hb g = inl (sym (add-zero h.total))
heeded (b ∷ bs) h hb g = heeded-at b bs h h.state.stopped hb g refl (λ k f. heeded bs k hb.1 f)

pub byte-by-byte : (F : Function) → ByteByByte F
byte-by-byte F keeps s hb a d f =
    let g = good-unheard a d f in
    subst (Over s) (sym (single F keeps s (unheard a d) hb g)) (⊎_elim (λ t. inl (let z = t in omega arith)) inr (heeded s (unheard a d) hb g))
