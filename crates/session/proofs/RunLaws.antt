-- Messages told one after another, and what is left of a tape behind them.
use mathlib.Core.Path.{◌≡◌, refl, ap, sym, ◌∙◌}
use mathlib.Core.List.{List, [], ◌∷◌, ◌++◌, append-nil, append_assoc}
use Prim.Native.Nat.{ℕ, zero, suc, ◌+◌, ◌-◌, ◌≤◌, ◌<◌, min}
use native.Mathlib.Decide.{dec_lt}
use native.Mathlib.Omega.{arith}
use lib.ListN.{length, length-append, drop}
use Rattle.rules.specs.Messages.{Message}
use Rattle.rules.specs.State.{State}
use Rattle.rules.specs.Refusals.{least_room}
use Rattle.rules.specs.Step.{step}
use Rattle.rules.specs.Run.{after}
use Rattle.rules.specs.Tape.{message_bytes, message_of, messages_from}
use Rattle.rules.specs.Print.{Line, closing, record_lines, refused_lines, lines_from}
use Rattle.text.specs.Text.{line_text, lines_text}
use Rattle.tape.specs.View.{offset_after}
use Rattle.tape.proofs.PartLaws.{messages_next}
use Rattle.session.specs.declared.Cursor.{Cursor}
use Rattle.text.specs.Outputs.{Puts}
use Rattle.text.proofs.PutsLaws.{puts_then, lines_append, first_none, first_next, first-from}
use Rattle.session.specs.Lines.{most_text, message_lines, message_text, told_lines, told_text, sent, offset_behind, AreTold, Runs}

-- ---- some messages, then others

pub after-append : (s : State) (ms ns : List Message) → after s (sent (ms ++ ns)) ≡ after (after s (sent ms)) (sent ns)
unfolding after
after-append s [] ns = refl
after-append s (m ∷ ms) ns = after-append (step s m least_room).state ms ns

pub told-append : (k : ℕ) (s : State) (ms ns : List Message) → told_lines k s (ms ++ ns) ≡ told_lines k s ms ++ told_lines (k + length ms) (after s (sent ms)) ns
unfolding after told_lines
told-append k s [] ns = let z : k + zero ≡ k = omega arith in rw z refl
told-append k s (m ∷ ms) ns =
    let a : State = (step s m least_room).state in
    let z : k + suc (length ms) ≡ k + 1 + length ms = omega arith in
    rw z
    (ap (λ (x : List Line). message_lines k s m ++ x) (told-append (k + 1) a ms ns)
    ∙ sym (append_assoc (message_lines k s m) (told_lines (k + 1) a ms) (told_lines (k + 1 + length ms) (after a (sent ms)) ns)))

pub lines_told : (k : ℕ) (s : State) (ms ns : List Message) → lines_from k s (ms ++ ns) ≡ told_lines k s ms ++ lines_from (k + length ms) (after s (sent ms)) ns
unfolding after told_lines lines_from
lines_told k s [] ns = let z : k + zero ≡ k = omega arith in rw z refl
lines_told k s (m ∷ ms) ns =
    let a = step s m least_room in
    let z : k + suc (length ms) ≡ k + 1 + length ms = omega arith in
    rw z
    (sym (append_assoc (record_lines a.fills) (refused_lines k a.outcome) (lines_from (k + 1) a.state (ms ++ ns)))
    ∙ ap (λ (x : List Line). message_lines k s m ++ x) (lines_told (k + 1) a.state ms ns)
    ∙ sym (append_assoc (message_lines k s m) (told_lines (k + 1) a.state ms) (lines_from (k + 1 + length ms) (after a.state (sent ms)) ns)))

told-one : (k : ℕ) (s : State) (m : Message) → told_lines k s (m ∷ []) ≡ message_lines k s m
unfolding told_lines
told-one k s m = append-nil (message_lines k s m)

-- ---- the messages of a tape

messages_length : (n : ℕ) (p : List ℕ) → length (messages_from n p) ≡ n
messages_length zero p = refl
messages_length (suc n) p = ap suc (messages_length n (drop message_bytes p))

messages_append : (t : List ℕ) (at i j : ℕ) → messages_from (i + j) (drop at t) ≡ messages_from i (drop at t) ++ messages_from j (drop (offset_behind t i at) t)
messages_append t at zero j = let z : zero + j ≡ j = omega arith in rw z refl
messages_append t at (suc i) j =
    let z : suc i + j ≡ suc (i + j) = omega arith in
    let rest : List Message = messages_from j (drop (offset_behind t i (offset_after t at)) t) in
    rw z
    (messages_next t at (i + j)
    ∙ ap (λ (x : List Message). message_of (drop at t) ∷ x) (messages_append t (offset_after t at) i j)
    ∙ sym (ap (λ (x : List Message). x ++ rest) (messages_next t at i)))

behind-next : (t : List ℕ) (n at : ℕ) → offset_behind t (suc n) at ≡ offset_after t (offset_behind t n at)
behind-next t zero at = refl
behind-next t (suc n) at = behind-next t n (offset_after t at)

-- ---- one message more

module _ (tape : List ℕ) (n : ℕ) (p : Cursor) (most : ℕ) (s : State) (lent : List ℕ) where
  abbrev first : ℕ → List Message
  first k = messages_from k (drop p.next tape)

  abbrev text : ℕ → List ℕ
  text k = told_text (p.position + 1) s (first k)

  -- none yet
  pub told-start : (offset : ℕ) → offset ≡ min p.at (length lent) → AreTold tape n p most s lent s (record { position = p.position; next = p.next; at = offset }) lent
  unfolding after told_lines
  told-start offset e =
      let z : p.position - p.position ≡ 0 = omega arith in
      record {
        puts = rw z (first_none text most most_text lent p.at offset refl e);
        state = rw z refl;
        next = rw z refl;
        inside = (omega arith, omega arith);
      }

  module _ (s' : State) (r : Cursor) (out : List ℕ) (t : AreTold tape n p most s lent s' r out) where
    abbrev k : ℕ
    k = r.position - p.position

    abbrev m : Message
    m = message_of (drop r.next tape)

    counted : r.position + 1 - p.position ≡ k + 1
    counted = let h = t.inside.0 in omega (arith, h)

    one-first : first (k + 1) ≡ first k ++ (m ∷ [])
    one-first = messages_append tape p.next k 1 ∙ ap (λ (at : ℕ). first k ++ (message_of (drop at tape) ∷ [])) (sym t.next)

    one-text : text (k + 1) ≡ text k ++ message_text (r.position + 1) s' m
    one-text =
        let h = t.inside.0 in
        let l = messages_length k (drop p.next tape) in
        let z : p.position + 1 + length (first k) ≡ r.position + 1 = omega (arith, h, l) in
        ap (told_text (p.position + 1) s) one-first
        ∙ ap lines_text (told-append (p.position + 1) s (first k) (m ∷ []))
        ∙ lines_append (told_lines (p.position + 1) s (first k)) (told_lines (p.position + 1 + length (first k)) (after s (sent (first k))) (m ∷ []))
        ∙ (λ i. text k ++ lines_text (told_lines (z i) (sym t.state i) (m ∷ [])))
        ∙ ap (λ (ls : List Line). text k ++ lines_text ls) (told-one (r.position + 1) s' m)

    one_state : (step s' m least_room).state ≡ after s (sent (first (k + 1)))
    unfolding after
    one_state =
        ap (λ (x : State). (step x m least_room).state) t.state
        ∙ sym (after-append s (first k) (m ∷ []))
        ∙ ap (λ (ms : List Message). after s (sent ms)) (sym one-first)

    one-next : offset_after tape r.next ≡ offset_behind tape (k + 1) p.next
    one-next =
        let z : k + 1 ≡ suc k = omega arith in
        ap (offset_after tape) t.next ∙ sym (behind-next tape k p.next) ∙ ap (λ (i : ℕ). offset_behind tape i p.next) (sym z)

    pub told-next : (next offset : ℕ) (new : List ℕ) (s'' : State) → r.position < n → r.at ≤ most → next ≡ offset_after tape r.next → Puts (message_text (r.position + 1) s' m) out r.at offset new
        → length (message_text (r.position + 1) s' m) ≤ most_text → s'' ≡ (step s' m least_room).state → AreTold tape n p most s lent s'' (record { position = r.position + 1; next = next; at = offset }) new
    told-next next offset new s'' h a e d f g =
        let i = t.inside.0 in
        record {
          puts = rw counted (first_next text most most_text lent p.at k r.at out (message_text (r.position + 1) s' m) offset new t.puts a one-text f d);
          state = rw counted (g ∙ one_state);
          next = rw counted (e ∙ one-next);
          inside = (omega (arith, i), omega (arith, h));
        }

-- from an offset of the output past its end, or its end
pub told-from : (tape : List ℕ) (n : ℕ) (p : Cursor) (most : ℕ) (s : State) (lent : List ℕ) (s' : State) (r : Cursor) (out : List ℕ) (offset : ℕ) → offset ≡ min p.at (length lent)
    → AreTold tape n (record { position = p.position; next = p.next; at = offset }) most s lent s' r out → AreTold tape n p most s lent s' r out
told-from tape n p most s lent s' r out offset e t =
    record {
      puts = first-from _ most most_text lent p.at offset _ r.at out e t.puts;
      state = t.state;
      next = t.next;
      inside = t.inside;
    }

-- ---- what is left

-- the bytes that are left behind i messages of n, from an offset of the tape and a state on
abbrev pub left_text : List ℕ → ℕ → ℕ → ℕ → State → List ℕ
left_text tape n i at s = lines_text (lines_from (i + 1) s (messages_from (n - i) (drop at tape)))

-- before the first message
pub left_all : (tape : List ℕ) (n at : ℕ) (s : State) → left_text tape n 0 at s ≡ lines_text (lines_from 1 s (messages_from n (drop at tape)))
left_all tape n at s = let z : n - 0 ≡ n = omega arith in rw z refl

-- behind some
pub left_told : (tape : List ℕ) (n : ℕ) (p : Cursor) (most : ℕ) (s : State) (lent : List ℕ) (s' : State) (r : Cursor) (out : List ℕ) → AreTold tape n p most s lent s' r out
    → left_text tape n p.position p.next s ≡ told_text (p.position + 1) s (messages_from (r.position - p.position) (drop p.next tape)) ++ left_text tape n r.position r.next s'
left_told tape n p most s lent s' r out t =
    let k : ℕ = r.position - p.position in
    let a = t.inside.0 in
    let b = t.inside.1 in
    let ms : List Message = messages_from k (drop p.next tape) in
    let ns : List Message = messages_from (n - r.position) (drop (offset_behind tape k p.next) tape) in
    let z : n - p.position ≡ k + (n - r.position) = omega (arith, a, b) in
    let l = messages_length k (drop p.next tape) in
    let y : p.position + 1 + length ms ≡ r.position + 1 = omega (arith, a, l) in
    rw z
    (ap (λ (xs : List Message). lines_text (lines_from (p.position + 1) s xs)) (messages_append tape p.next k (n - r.position))
    ∙ ap lines_text (lines_told (p.position + 1) s ms ns)
    ∙ lines_append (told_lines (p.position + 1) s ms) (lines_from (p.position + 1 + length ms) (after s (sent ms)) ns)
    ∙ (λ i. told_text (p.position + 1) s ms ++ lines_text (lines_from (y i) (sym t.state i) (messages_from (n - r.position) (drop (sym t.next i) tape)))))

-- behind the last
pub left_last : (tape : List ℕ) (n i at : ℕ) (s : State) → n ≤ i → left_text tape n i at s ≡ line_text (closing s)
unfolding lines_from
left_last tape n i at s h = let z : n - i ≡ 0 = omega arith in rw z (append-nil (line_text (closing s)))

-- ---- what a run does

module _ (tape : List ℕ) (n : ℕ) (p : Cursor) (most : ℕ) (s : State) (lent : List ℕ) (s' : State) (r : Cursor) (out : List ℕ) (t : Runs tape n p most s lent s' r out) where
  -- it tells a message, where there is one and the output is not written past the offset
  pub some-told : p.position < n → p.at ≤ most → p.position < r.position
  unfolding told_lines
  some-told h l =
      elim (dec_lt p.position r.position) [
        | yes y ↦ y
        | no y ↦
            let z : r.position - p.position ≡ 0 = omega (arith, y) in
            let e : Puts [] lent p.at r.at out = rw z at t.told.puts.puts in
            let x = t.end (omega (arith, h, y)) in
            let f = e.end in
            absurd (omega (arith, x, f, l))
      ]

  -- no byte is left out where the output has room for one message more
  pub none-lost : most + most_text ≤ length lent → p.at ≤ most + most_text
      → (r.at ≤ most + most_text) × (r.at + length (left_text tape n r.position r.next s') ≡ p.at + length (left_text tape n p.position p.next s))
  none-lost h l =
      let w = t.told.puts.whole h l in
      let e = t.told.puts.puts.end in
      let a : List ℕ = told_text (p.position + 1) s (messages_from (r.position - p.position) (drop p.next tape)) in
      let b : List ℕ = left_text tape n r.position r.next s' in
      let k : length (left_text tape n p.position p.next s) ≡ length a + length b = ap length (left_told tape n p most s lent s' r out t.told) ∙ length-append a b in
      (omega (arith, w, e), omega (arith, w, e, h, k))

  -- in an output that ends before the offset every message is told, and the last line may follow
  pub all_told : length lent ≤ most → (e : ℕ) (last : List ℕ) → Puts (line_text (closing s')) out r.at e last → Puts (left_text tape n p.position p.next s) lent p.at e last
  all_told h e last q =
      let f = t.told.puts.puts.end in
      let k : n ≤ r.position =
      elim (dec_lt r.position n) [
        | yes y ↦ let x = t.end y in absurd (omega (arith, x, f, h))
        | no y ↦ omega (arith, y)
      ]
      in
      rw (left_told tape n p most s lent s' r out t.told, left_last tape n r.position r.next s' k) (puts_then _ (line_text (closing s')) lent p.at out r.at e last t.told.puts.puts q)
