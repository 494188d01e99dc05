-- M-100: what the reader hands on is the meaning; the claims.
use mathlib.Core.Path.{◌≡◌, refl, ap, ap₂, sym, ◌∙◌, subst}
use mathlib.Core.Bool.{Bool, true, false, true≢false}
use mathlib.Core.List.{List, ◌∷◌, ◌++◌, map}
use Prim.Native.Nat.{ℕ, zero, suc, ◌+◌, ◌*◌, ◌≤◌}
use native.Mathlib.Decide.{ℕ_discrete}
use native.Mathlib.Omega.{arith}
use borrow.Author.Tests.{eq-eqb, ne_eqb, lt-ltb, le-ltb}
use lib.Dec.{eqb, ltb}
use lib.IntN.{pos}
use lib.ListN.{length, get_or, take, drop, length-append, length-drop}
use lib.Seq.{take_at, drop_at}
use Rattle.rules.specs.Basics.{pick, All}
use Rattle.rules.specs.Messages.{Terms, Body, local, national, order, response, modify, cancel, clock, reduce, Message}
use Rattle.rules.specs.Tape.{Header, header_of, Fields, fields_of, uses_of, used_fields, body_of, message_of, messages_from, is_kind, known_kinds, legs_from, Tape, refused_tape, reads, tape_refusal, tape_of, strategy_of, messages_of, is_damaged, has_unknown_kind}
use Rattle.rules.specs.Spelling.{yes_or_no, fourth, meant, meant_from, Meaning, meaning_of, form_from, form_of, Accepted, raw_from, Plain, OneForm, OneMeaning, OneSpelling, form_refusal, reply_to, buffer_after, GoodReply, FormsAreWritten}
use Rattle.rules.proofs.TestLaws.{and_left, and_right, between_high}
use Rattle.rules.proofs.SectionLaws.{sound}
use Rattle.rules.proofs.FormLaws.{FitMeaning, meaning_fit, form-bytes, form-length, form-header, form-accepted, form-meaning, form-raw, legs_count}

-- ---- a message of its fields, and the fields of a message

-- the fields with another kind and fourth byte
abbrev with_bytes : ℕ → ℕ → Fields → Fields
with_bytes k w f =
    record {
      kind = k;
      side = f.side;
      account = f.account;
      wish_or_leg = w;
      id = f.id;
      participant = f.participant;
      units = f.units;
      price = f.price;
      ask = f.ask;
      ask_size = f.ask_size;
      time = f.time;
    }

abbrev message_said : Fields → Message
message_said f = record { time = f.time; body = body_of f }

yes_test : (w : ℕ) → ltb 0 (yes_or_no w) ≡ ltb 0 w
yes_test w = go (ltb 0 w)
  where
    go : (b : Bool) → ltb 0 (pick b 1 0) ≡ b
    go true = refl
    go false = refl

body_said : (k w : ℕ) (f : Fields) → body_of (with_bytes k (fourth k w) f) ≡ body_of (with_bytes k w f)
body_said k w f =
    elim (ℕ_discrete k 3) [
      | yes e ↦ subst (λ (j : ℕ). body_of (with_bytes j (fourth j w) f) ≡ body_of (with_bytes j w f)) (sym e) (rw (yes_test w))
      | no n ↦ rw (ne_eqb k 3 n)
    ]

message_said_lem : (p : List ℕ) → message_of p ≡ message_said (meant (fields_of p))
message_said_lem p =
    let u : Fields = used_fields (uses_of (get_or p 0 0)) (fields_of p) in
    ap (λ (b : Body). message_with (fields_of p).time b) (sym (body_said u.kind u.wish_or_leg u))
  where
    message_with : ℕ → Body → Message
    message_with t b = record { time = t; body = b }

abbrev blank : ℕ → ℕ → Fields
blank k t = record { kind = k; side = 0; account = 0; wish_or_leg = 0; id = 0; participant = 0; units = 0; price = pos 0; ask = pos 0; ask_size = 0; time = t }

abbrev of_terms : ℕ → ℕ → ℕ → Terms → Fields
of_terms k w t x =
    record { kind = k; side = x.side; account = x.account; wish_or_leg = w; id = x.id; participant = x.participant; units = x.units; price = x.price; ask = pos 0; ask_size = 0; time = t }

-- the fields that a message has
abbrev fields_said : ℕ → Body → Fields
fields_said t (local q) =
    record { kind = 1; side = 0; account = 0; wish_or_leg = q.leg; id = 0; participant = 0; units = q.bid_size; price = q.bid; ask = q.ask; ask_size = q.ask_size; time = t }
fields_said t (national q) =
    record { kind = 2; side = 0; account = 0; wish_or_leg = q.leg; id = 0; participant = 0; units = 0; price = q.bid; ask = q.ask; ask_size = 0; time = t }
fields_said t (order x wish) = of_terms 3 (pick wish 1 0) t x
fields_said t (response x) = of_terms 4 0 t x
fields_said t (modify x) =
    record { kind = 5; side = x.side; account = 0; wish_or_leg = 0; id = x.id; participant = x.participant; units = x.units; price = x.price; ask = pos 0; ask_size = 0; time = t }
fields_said t (cancel i p) =
    record { kind = 6; side = 0; account = 0; wish_or_leg = 0; id = i; participant = p; units = 0; price = pos 0; ask = pos 0; ask_size = 0; time = t }
fields_said t clock = blank 7 t
fields_said t (reduce i p n) =
    record { kind = 8; side = 0; account = 0; wish_or_leg = 0; id = i; participant = p; units = n; price = pos 0; ask = pos 0; ask_size = 0; time = t }

said_kind : (k : ℕ) (f : Fields) → is_kind k ≡ true → fields_said f.time (body_of (used_fields (uses_of k) (with_bytes k f.wish_or_leg f))) ≡ meant (with_bytes k f.wish_or_leg f)
said_kind zero f h = absurd (true≢false (sym h))
said_kind (suc zero) f h = refl
said_kind (suc (suc zero)) f h = refl
said_kind (suc (suc (suc zero))) f h = refl
said_kind (suc (suc (suc (suc zero)))) f h = refl
said_kind (suc (suc (suc (suc (suc zero))))) f h = refl
said_kind (suc (suc (suc (suc (suc (suc zero)))))) f h = refl
said_kind (suc (suc (suc (suc (suc (suc (suc zero))))))) f h = refl
said_kind (suc (suc (suc (suc (suc (suc (suc (suc zero)))))))) f h = refl
said_kind (suc (suc (suc (suc (suc (suc (suc (suc (suc k))))))))) f h = absurd (omega (arith, between_high 1 (suc (suc (suc (suc (suc (suc (suc (suc (suc k))))))))) 8 h))

fields_said_lem : (p : List ℕ) → is_kind (get_or p 0 0) ≡ true → meant (fields_of p) ≡ fields_said (message_of p).time (message_of p).body
fields_said_lem p h = sym (said_kind (get_or p 0 0) (fields_of p) h)

-- ---- lists of them

messages_said : (n : ℕ) (p : List ℕ) → messages_from n p ≡ map message_said (meant_from n p)
messages_said zero p = refl
messages_said (suc n) p = ap₂ (λ (a : Message) (bs : List Message). a ∷ bs) (message_said_lem p) (messages_said n (drop 36 p))

abbrev said_in : Message → Fields
said_in m = fields_said m.time m.body

meant-said : (n : ℕ) (p : List ℕ) → known_kinds n p ≡ true → meant_from n p ≡ map said_in (messages_from n p)
meant-said zero p h = refl
meant-said (suc n) p h =
    ap₂ (λ (a : Fields) (bs : List Fields). a ∷ bs) (fields_said_lem p (and_left (is_kind (get_or p 0 0)) (known_kinds n (drop 36 p)) h))
    (meant-said n (drop 36 p) (and_right (is_kind (get_or p 0 0)) (known_kinds n (drop 36 p)) h))

read_count : (n : ℕ) (p : List ℕ) → length (messages_from n p) ≡ n
read_count zero p = refl
read_count (suc n) p = ap suc (read_count n (drop 36 p))

-- ---- a tape of its meaning, and the meaning of a tape that was read

abbrev handed : Meaning → Tape
handed m = reads (record { legs = m.legs; settings = m.settings }) (map message_said m.messages)

abbrev taken_up : Meaning → Tape → Meaning
taken_up d (refused_tape n) = d
taken_up d (reads o ms) = record { leg_count = length o.legs; message_count = length ms; settings = o.settings; legs = o.legs; messages = map said_in ms }

tape_read : (t : List ℕ) → tape_refusal t ≡ 0 → tape_of t ≡ reads (strategy_of t) (messages_of t)
unfolding tape_of
tape_read t h = rw h

tape_handed : (t : List ℕ) → tape_refusal t ≡ 0 → tape_of t ≡ handed (meaning_of t)
unfolding meaning_of strategy_of messages_of
tape_handed t h =
    tape_read t h ∙ ap (reads (record { legs = legs_from (header_of t).leg_count (drop (header_of t).leg_offset t); settings = (header_of t).settings })) (messages_said (header_of t).message_count (drop (header_of t).message_offset t))

meaning_taken : (t : List ℕ) (d : Meaning) → tape_refusal t ≡ 0 → meaning_of t ≡ taken_up d (tape_of t)
unfolding meaning_of strategy_of messages_of
meaning_taken t d h =
    let e : Header = header_of t in
    let p : List ℕ = drop e.message_offset t in
    rw (tape_read t h, legs_count e.leg_count (drop e.leg_offset t), read_count e.message_count p, meant-said e.message_count p (sound t h).kinds)

-- ---- the claim

-- fields as they are meant: those that are not used are 0, and a wish is 0 or 1
plain-meant : (f : Fields) → Plain (meant f)
plain-meant f =
    record {
      side = λ e. rw e;
      account = λ e. rw e;
      wish_or_leg = λ e. rw e (fourth-none (eqb f.kind 3));
      id = λ e. rw e;
      participant = λ e. rw e;
      units = λ e. rw e;
      price = λ e. rw e;
      ask = λ e. rw e;
      ask_size = λ e. rw e;
      wish = λ e. rw (eq-eqb f.kind 3 e) (yes-most (ltb 0 (pick (uses_of f.kind).wish_or_leg f.wish_or_leg 0)));
    }
  where
    fourth-none : (b : Bool) → pick b (yes_or_no 0) 0 ≡ 0
    fourth-none true = refl
    fourth-none false = refl

    yes-most : (b : Bool) → pick b 1 0 ≤ 1
    yes-most true = omega arith
    yes-most false = omega arith

all_plain : (n : ℕ) (p : List ℕ) → All Plain (meant_from n p)
all_plain zero p = tt
all_plain (suc n) p = (plain-meant (fields_of p), all_plain n (drop 36 p))

one_form : (t : List ℕ) → Accepted t → OneForm t
unfolding meaning_of
one_form t a =
    let m : Meaning = meaning_of t in
    let h : FitMeaning m = meaning_fit t a in
    let z : 24 * (header_of t).leg_count ≡ (header_of t).leg_count * 24 = omega arith in
    let r : 40 + (header_of t).leg_count * 24 + (header_of t).message_count * 36 ≤ 65_535 = h.room in
    let n : length (form_from m) ≡ 40 + (header_of t).leg_count * 24 + (header_of t).message_count * 36 = form-length m h in
    let raw : raw_from (header_of t).message_count (drop (40 + 24 * (header_of t).leg_count) (form_from m)) ≡ m.messages = rw z (form-raw m h) in
    record {
      accepted = record { bytes = form-bytes m h; passed = form-accepted m h };
      same = form-meaning m h;
      itself = ap form_from (form-meaning m h);
      legs_at = ap (λ (e : Header). e.leg_offset) (form-header m h);
      messages_at = ap (λ (e : Header). e.message_offset) (form-header m h) ∙ omega arith;
      size = omega arith;
      most = omega (arith, (sound t a.passed).room);
      raw = raw;
      plain = subst (All Plain) (sym raw) (all_plain (header_of t).message_count (drop (header_of t).message_offset t));
    }

one_meaning : (t u : List ℕ) → Accepted t → Accepted u → OneMeaning t u
one_meaning t u a b =
    record {
      forms = (λ e. ap form_from e, λ e. sym (form-meaning (meaning_of t) (meaning_fit t a)) ∙ ap meaning_of e ∙ form-meaning (meaning_of u) (meaning_fit u b));
      handed_on = (
        λ e. tape_handed t a.passed ∙ ap handed e ∙ sym (tape_handed u b.passed),
        λ e. meaning_taken t (meaning_of t) a.passed ∙ ap (taken_up (meaning_of t)) e ∙ sym (meaning_taken u (meaning_of t) b.passed),
      );
    }

pub one_spelling : OneSpelling
unfolding OneSpelling
one_spelling = (one_form, one_meaning)

-- ---- the writer

rows : (d u s : Bool) → ◌≡◌ {A = ℕ} (pick d 60 (pick u 61 (pick s 70 0))) (pick (eqb (pick d 60 (pick u 61 0)) 0) (pick s 70 0) (pick d 60 (pick u 61 0)))
rows true u s = refl
rows false true s = refl
rows false false s = refl

form_number : (t b : List ℕ) → form_refusal t b ≡ pick (eqb (tape_refusal t) 0) (pick (ltb (length b) (length (form_of t))) 70 0) (tape_refusal t)
unfolding form_refusal tape_refusal
form_number t b = rows (is_damaged t) (has_unknown_kind t) (ltb (length b) (length (form_of t)))

-- what is given where the number is not 0
not_written : (t b : List ℕ) (n : ℕ) → (n ≡ 0 → ⊥) → form_refusal t b ≡ n → (reply_to t b ≡ record { number = n; size = 0 }) × (buffer_after t b ≡ b)
unfolding reply_to buffer_after
not_written t b n h e = (rw (e, ne_eqb n 0 h), rw (e, ne_eqb n 0 h))

-- and where it is
is_written : (t b : List ℕ) → form_refusal t b ≡ 0 → (reply_to t b ≡ record { number = 0; size = length (form_of t) }) × (buffer_after t b ≡ form_of t ++ drop (length (form_of t)) b)
unfolding reply_to buffer_after
is_written t b e = (rw e, rw e)

good_reply : (t b : List ℕ) → GoodReply t b
good_reply t b =
    record {
      refused = λ r. not_written t b (tape_refusal t) r (form_number t b ∙ rw (ne_eqb (tape_refusal t) 0 r));
      short = λ p l. not_written t b 70 (λ (z : 70 ≡ 0). absurd (omega arith)) (form_number t b ∙ rw (p, lt-ltb (length b) (length (form_of t)) l));
      done = λ p l. (
          let n : ℕ = length (form_of t) in
          let w = is_written t b (form_number t b ∙ rw (p, le-ltb (length b) (length (form_of t)) l)) in (
            w.0,
            ap (take n) w.1 ∙ take_at (form_of t) (drop n b) n refl,
            ap (drop n) w.1 ∙ drop_at (form_of t) (drop n b) n refl,
            ap length w.1 ∙ omega (arith, length-append (form_of t) (drop n b), length-drop n b),
          )
          );
    }

pub forms_are_written : FormsAreWritten
unfolding FormsAreWritten
forms_are_written = good_reply
