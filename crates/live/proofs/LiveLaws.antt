-- Records answered page after page and read after read; an opening before them.
use mathlib.Core.Path.{◌≡◌, refl, ap, sym, ◌∙◌}
use mathlib.Core.Bool.{Bool, true, false, true≢false}
use mathlib.Core.List.{List, [], ◌++◌}
use Prim.Native.Nat.{ℕ, zero, suc, ◌+◌, ◌-◌, ◌*◌, ◌≤◌, ◌<◌}
use native.Mathlib.Decide.{dec_lt}
use native.Mathlib.Omega.{arith}
use borrow.Author.Tests.{eqb-true, eqb-false, eq-eqb}
use lib.Dec.{eqb}
use lib.ListN.{length, length-append, length-set, length-drop, take, drop, get_or, set}
use lib.Seq.{length-take-le, take-take, get_or-take, get_or-set_same, get_or-set_other}
use Rattle.std.specs.List.{CopiedTo}
use Rattle.rules.specs.Basics.{pick, All}
use Rattle.rules.specs.State.{State}
use Rattle.rules.specs.Tape.{header_bytes, message_bytes}
use Rattle.rules.specs.Run.{Opened, refused_opening, started, opening}
use Rattle.rules.proofs.BasicsLaws.{all_append}
use Rattle.state.specs.Layout.{Sized, is_sized}
use Rattle.state.specs.View.{state_of}
use Rattle.state.proofs.StateLaws.{sized_is}
use Rattle.tape.specs.View.{strategy_from}
use Rattle.opening.specs.Opens.{Opens}
use Rattle.text.specs.Outputs.{Puts}
use Rattle.text.proofs.PutsLaws.{puts_room}
use Rattle.feed.specs.declared.Cursor.{Cursor}
use Rattle.feed.specs.Replies.{most_reply, after_records, replies_text, records_from, whole_records, Runs}
use Rattle.feed.proofs.RunLaws.{after-append, replies_append, records_append}
use Rattle.output.specs.Counted.{counted}
use Rattle.live.specs.declared.Total.{Total}
use Rattle.live.specs.Lives.{IsRead, IsAnswered, IsRound, Lived, IsRun}

-- ---- page after page

-- the first k records of some bytes are answered, and n of their bytes counted
pub record Goes (bytes : List ℕ) (s s' : State) (k n : ℕ) : Type 0 where
  pub inside : k ≤ whole_records bytes
  pub state : s' ≡ after_records s (records_from k bytes)
  pub size : n ≡ counted (length (replies_text s (records_from k bytes)))

pub goes_none : (bytes : List ℕ) (s : State) → Goes bytes s s 0 0
goes_none bytes s = record { inside = omega arith; state = refl; size = refl }

module _ (bytes : List ℕ) (p : Cursor) (most : ℕ) (t : State) (page : List ℕ) (u : State) (r : Cursor) (out : List ℕ) (h : Runs bytes p most t page u r out) (z : p.at ≡ 0) where
  -- a page has one record at least
  pub some-answered : p.position < whole_records bytes → p.position < r.position
  some-answered l =
      elim (dec_lt p.position r.position) [
        | yes y ↦ y
        | no y ↦
            let e : r.position - p.position ≡ 0 = omega (arith, y) in
            let q : Puts [] page p.at r.at out = rw e at h.told.puts.puts in
            let x = h.end (omega (arith, l, y)) in
            let f = q.end in
            absurd (omega (arith, x, f, z))
      ]

  -- and no byte of their answers is left out
  pub goes-next : (s : State) (n n' : ℕ) → most + most_reply ≤ length page → Goes bytes s t p.position n → n' ≡ counted (n + length (take r.at out)) → Goes bytes s u r.position n'
  goes-next s n n' l g e =
      let i = h.told.inside in
      let k : ℕ = r.position - p.position in
      let a : List (List ℕ) = records_from p.position bytes in
      let b : List (List ℕ) = records_from k (drop (message_bytes * p.position) bytes) in
      let c : p.position + k ≡ r.position = omega (arith, i.0) in
      let both : records_from r.position bytes ≡ a ++ b = ap (λ (m : ℕ). records_from m bytes) (sym c) ∙ records_append bytes p.position k in
      let text : length (replies_text s (a ++ b)) ≡ length (replies_text s a) + length (replies_text t b) =
      ap length (replies_append s a b) ∙ length-append (replies_text s a) (replies_text (after_records s a) b) ∙ ap (λ (x : State). length (replies_text s a) + length (replies_text x b)) (sym g.state)
      in
      let w = h.told.puts.whole l (omega (arith, z)) in
      let end = h.told.puts.puts.end in
      let part = length-take-le r.at out (puts_room _ page p.at r.at out h.told.puts.puts) in
      record {
        inside = omega (arith, i.1, g.inside);
        state = h.told.state ∙ ap (λ (x : State). after_records x b) g.state ∙ sym (after-append s a b) ∙ ap (after_records s) (sym both);
        size = rw both (omega (arith, text, w, end, part, e, z, l, g.size));
      }

-- ---- one read

-- the input has ended
pub round_over : (input input' : List ℕ) (left got : ℕ) (s : State) → IsRead input input' left got → left < length input → IsRound input input' left s s (record { left = left; answered = 0; bytes = 0; going = false })
round_over input input' left got s r h =
    let l : length (take left input) ≡ left = length-take-le left input (omega arith) in
    record {
      heard = take left input;
      few = (omega (arith, l), omega (arith, l));
      first = take-take left left input (omega arith);
      answered = record { inside = omega arith; all = λ e. absurd (true≢false (sym e)); state = refl; size = refl };
      left = omega (arith, l);
      rest = λ j k. let z : message_bytes * 0 + j ≡ j = omega arith in rw z (sym (get_or-take left input' j 0 k) ∙ ap (λ (x : List ℕ). get_or x j 0) r.first);
      sized = r.sized;
    }

-- what is there is answered, and what is left moves to the front
pub round_heard : (input mid input' : List ℕ) (left got : ℕ) (s s' : State) (k n : ℕ) (going : Bool) → IsRead input mid left got → IsAnswered (take (left + got) mid) s s' k n going → length input' ≡ length mid → CopiedTo mid input' (message_bytes * k) 0 (left + got - message_bytes * k)
    → IsRound input input' left s s' (record { left = left + got - message_bytes * k; answered = k; bytes = n; going = going })
round_heard input mid input' left got s s' k n going r a same copied =
    let l : length (take (left + got) mid) ≡ left + got = length-take-le (left + got) mid r.inside in
    let i = r.inside in
    let z = r.sized in
    record {
      heard = take (left + got) mid;
      few = (omega (arith, l), omega (arith, l, i, z));
      first = take-take left (left + got) mid (omega arith) ∙ r.first;
      answered = a;
      left = omega (arith, l);
      rest = λ j h. let z : j - 0 ≡ j = omega arith in copied j 0 (omega arith) (omega (arith, h)) ∙ ap (λ (n : ℕ). get_or mid (message_bytes * k + n) 0) z ∙ sym (get_or-take (left + got) mid (message_bytes * k + j) 0 (omega (arith, h)));
      sized = same ∙ z;
    }

-- ---- read after read

-- records with all their bytes
all_whole : (bytes : List ℕ) (k : ℕ) → k ≤ whole_records bytes → All (λ p. message_bytes ≤ length p) (records_from k bytes)
all_whole bytes zero h = tt
all_whole bytes (suc k) h = (omega arith, all_whole (drop message_bytes bytes) k (let l = length-drop message_bytes bytes in omega (arith, l)))

records_length : (bytes : List ℕ) (k : ℕ) → length (records_from k bytes) ≡ k
records_length bytes zero = refl
records_length bytes (suc k) = ap suc (records_length (drop message_bytes bytes) k)

pub lived_none : (s : State) → Lived s s (record { records = 0; bytes = 0 })
lived_none s = record { records = []; whole = tt; many = refl; state = refl; bytes = refl }

-- the records of one more read, answered from the state that the others left
pub lived_more : (s t u : State) (r : Total) (bytes : List ℕ) (k n m : ℕ) (going : Bool) → Lived s t r → IsAnswered bytes t u k n going → m ≡ counted (r.bytes + n) → Lived s u (record { records = r.records + k; bytes = m })
lived_more s t u r bytes k n m going v a e =
    let b : List (List ℕ) = records_from k bytes in
    let text : length (replies_text s (v.records ++ b)) ≡ length (replies_text s v.records) + length (replies_text t b) =
    ap length (replies_append s v.records b) ∙ length-append (replies_text s v.records) (replies_text (after_records s v.records) b) ∙ ap (λ (x : State). length (replies_text s v.records) + length (replies_text x b)) (sym v.state)
    in
    record {
      records = v.records ++ b;
      whole = all_append _ v.records b v.whole (all_whole bytes k a.inside);
      many = let l = length-append v.records b in let x = records_length bytes k in omega (arith, l, x, v.many);
      state = a.state ∙ ap (λ (x : State). after_records x b) v.state ∙ sym (after-append s v.records b);
      bytes = omega (arith, text, e, v.bytes, a.size);
    }

-- ---- an opening before them

abbrev is_started : Opened → Bool
is_started (refused_opening n) = false
is_started (started s) = true

abbrev state_or : State → Opened → State
state_or t (refused_opening n) = t
state_or t (started s) = s

module _ (longs words longs₁ words₁ head : List ℕ) (r : ℕ) (fits : Sized longs words) (o : Opens longs words (strategy_from header_bytes head) r longs₁ words₁) where
  sized : is_sized longs words ≡ true
  sized = sized_is longs words fits

  -- accepted: the records' run begins with its state
  pub run-opened : (longs' words' : List ℕ) (n : Total) → r ≡ 0 → Lived (state_of longs₁ words₁) (state_of longs' words') n → IsRun longs words longs' words' head n
  run-opened longs' words' n z v =
      let e : started (state_of longs₁ words₁) ≡ opening (strategy_from header_bytes head) = rw (eq-eqb r 0 z) at (o.answer sized) in
      record {
        opened = λ s q. rw (ap (state_or s) (e ∙ q)) at v;
        refused = λ k q. absurd (true≢false (ap is_started (e ∙ q)));
      }

  -- no record is read: it is refused, or its line was not taken
  pub run-over : IsRun longs words longs₁ words₁ head (record { records = 0; bytes = 0 })
  run-over = go (eqb r 0) refl (o.answer sized)
    where
      go : (b : Bool) → eqb r 0 ≡ b → pick b (started (state_of longs₁ words₁)) (refused_opening r) ≡ opening (strategy_from header_bytes head) → IsRun longs words longs₁ words₁ head (record { records = 0; bytes = 0 })
      go true e a = run-opened longs₁ words₁ (record { records = 0; bytes = 0 }) (eqb-true r 0 e) (lived_none (state_of longs₁ words₁))
      go false e a =
          let same = o.refused (omega (arith, eqb-false r 0 e)) in
          record {
            opened = λ s q. absurd (true≢false (sym (ap is_started (a ∙ q))));
            refused = λ k q. (same.0, same.1, refl, refl);
          }
