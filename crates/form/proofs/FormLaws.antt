-- The form as parts of a tape, and what a writer gives.
use mathlib.Core.Path.{◌≡◌, refl, sym, ap, ap₂, ◌∙◌}
use mathlib.Core.List.{List, [], ◌∷◌, ◌++◌, append_assoc}
use Prim.Native.Nat.{ℕ, zero, suc, ◌+◌, ◌*◌, ◌%◌, ◌≤◌, ◌<◌}
use native.Mathlib.Decide.{ℕ_discrete, dec_lt}
use native.Mathlib.Omega.{arith}
use lib.ListN.{length, get_or, drop, take-append-drop}
use lib.Seq.{sets, sets-eq, get_or-drop, drop-drop}
use Rattle.rules.specs.Tape.{header_bytes, leg_bytes, Header, header_of, leg_of, legs_from, tape_refusal}
use Rattle.std.specs.Prelude.{Result, Ok, Err, IsErrAnd}
use Rattle.types.specs.declared.Refusal.{Refusal}
use Rattle.types.specs.Refusals.{number_of}
use Rattle.types.proofs.RefusalLaws.{is_some_number}
use Rattle.rules.specs.Spelling.{Bytes, little_endian, meant_from, field_bytes, header_fields, leg_form, legs_form, messages_form, meaning_of, form_from, form_of, reply_to, buffer_after, Accepted, OneForm, OneSpelling, GoodReply, FormsAreWritten}
use Rattle.rules.specs.Spelling as R
use Rattle.rules.proofs.SpellingLaws.{byte_back, bytes_at_lem, bytes_drop}
use Rattle.rules.proofs.SectionLaws.{Sound, sound}
use Rattle.rules.proofs.HandedLaws.{one_spelling, forms_are_written}
use Rattle.types.specs.View.{upto}
use Rattle.tape.proofs.LegLaws.{bytes_are}
use Rattle.text.specs.Buffer.{Wrote}
use Rattle.form.specs.Writes.{bytes_at, counts_in, size_in, form_in, Holds, reply_of}
use Rattle.form.proofs.RecordLaws.{half_bytes, word_bytes, long_bytes, four_bytes, eight-bytes}

-- ---- the header

module _ (t : List ℕ) (b : Bytes t) where
  two : (x y : ℕ) → get_or t x 0 ∷ get_or t y 0 ∷ [] ≡ little_endian 2 (get_or t x 0 + 256 * get_or t y 0)
  two x y = sym (half_bytes (get_or t x 0) (get_or t y 0) (bytes_at_lem t b x) (bytes_at_lem t b y))

  header-bytes : counts_in t (header_bytes + (header_of t).leg_count * leg_bytes) ++ bytes_at 32 8 t ≡ field_bytes (header_fields (meaning_of t))
  unfolding upto meaning_of
  header-bytes =
      ap₂ (λ (x : List ℕ) (r : List ℕ). x ++ r) (two 0 1)
      (ap (λ (r : List ℕ). little_endian 2 40 ++ r)
      (ap₂ (λ (x : List ℕ) (r : List ℕ). x ++ r) (two 4 5)
      (ap (λ (r : List ℕ). little_endian 2 (40 + (header_of t).leg_count * 24) ++ r)
      (ap₂ (λ (x : List ℕ) (r : List ℕ). x ++ r) (two 8 9)
      (ap₂ (λ (x : List ℕ) (r : List ℕ). x ++ r) (two 10 11)
      (ap₂ (λ (x : List ℕ) (r : List ℕ). x ++ r) (two 12 13)
      (ap₂ (λ (x : List ℕ) (r : List ℕ). x ++ r) (two 14 15)
      (ap₂ (λ (x : List ℕ) (r : List ℕ). x ++ r) (two 16 17)
      (ap₂ (λ (x : List ℕ) (r : List ℕ). x ++ r) (two 18 19)
      (ap₂ (λ (x : List ℕ) (r : List ℕ). x ++ r) (sym (word_bytes (get_or t 20 0) (get_or t 21 0) (get_or t 22 0) (get_or t 23 0) (four_bytes t b 20 21 22 23)))
      (ap₂ (λ (x : List ℕ) (r : List ℕ). x ++ r)
      (sym (long_bytes (get_or t 24 0) (get_or t 25 0) (get_or t 26 0) (get_or t 27 0) (get_or t 28 0) (get_or t 29 0) (get_or t 30 0) (get_or t 31 0) (eight-bytes t b 24 25 26 27 28 29 30 31)))
      (sym (long_bytes (get_or t 32 0) (get_or t 33 0) (get_or t 34 0) (get_or t 35 0) (get_or t 36 0) (get_or t 37 0) (get_or t 38 0) (get_or t 39 0) (eight-bytes t b 32 33 34 35 36 37 38 39))))))))))))))

-- ---- the legs

values_shift : (f : ℕ → ℕ) (at k n : ℕ) → upto f (at + k) n ≡ upto (λ i. f (at + i)) k n
unfolding upto
values_shift f at k zero = refl
values_shift f at k (suc n) = let e : at + k + 1 ≡ at + (k + 1) = omega arith in rw e (ap (λ (l : List ℕ). f (at + k) ∷ l) (values_shift f at (k + 1) n))

values_append : (f : ℕ → ℕ) (k m n : ℕ) → upto f k (m + n) ≡ upto f k m ++ upto f (k + m) n
unfolding upto
values_append f k zero n = let e : k + 0 ≡ k = omega arith in let g : 0 + n ≡ n = omega arith in rw (e, g)
values_append f k (suc m) n =
    let e : k + suc m ≡ k + 1 + m = omega arith in
    let g : suc m + n ≡ suc (m + n) = omega arith in
    rw (e, g) (ap (λ (l : List ℕ). f k ∷ l) (values_append f (k + 1) m n))

-- bytes from an offset on, as those of the part that starts there
bytes_there : (t : List ℕ) (at n : ℕ) → bytes_at n at t ≡ upto (λ i. get_or (drop at t) i 0) 0 n
bytes_there t at n =
    let e : at ≡ at + 0 = omega arith in
    ap (λ (k : ℕ). upto (λ i. get_or t i 0) k n) e ∙ values_shift (λ i. get_or t i 0) at 0 n ∙ sym (λ j. upto (λ i. get_or-drop at t i 0 j) 0 n)

last_three : (p : List ℕ) → Bytes p → upto (λ i. get_or p i 0) 21 3 ≡ get_or p 21 0 % 256 ∷ get_or p 22 0 % 256 ∷ get_or p 23 0 % 256 ∷ []
unfolding upto
last_three p b = rw (byte_back (get_or p 21 0) (bytes_at_lem p b 21), byte_back (get_or p 22 0) (bytes_at_lem p b 22), byte_back (get_or p 23 0) (bytes_at_lem p b 23))

leg_bytes_lem : (p : List ℕ) → Bytes p → upto (λ i. get_or p i 0) 0 24 ≡ leg_form (leg_of p)
leg_bytes_lem p b = values_append (λ i. get_or p i 0) 0 21 3 ∙ ap₂ (λ (x : List ℕ) (r : List ℕ). x ++ r) (bytes_are 21 p) (last_three p b)

legs_bytes : (n : ℕ) (t : List ℕ) (at : ℕ) → Bytes t → bytes_at (n * leg_bytes) at t ≡ legs_form (legs_from n (drop at t))
unfolding upto
legs_bytes zero t at b = refl
legs_bytes (suc n) t at b =
    let e : suc n * 24 ≡ 24 + n * 24 = omega arith in
    ap (λ (k : ℕ). upto (λ i. get_or t i 0) at k) e
    ∙ values_append (λ i. get_or t i 0) at 24 (n * 24)
    ∙ ap₂ (λ (x : List ℕ) (r : List ℕ). x ++ r) (bytes_there t at 24 ∙ leg_bytes_lem (drop at t) (bytes_drop at t b))
    (legs_bytes n t (at + 24) b ∙ ap (λ (p : List ℕ). legs_form (legs_from n p)) (sym (drop-drop 24 at t)))

-- ---- the whole

pub form_is : (t : List ℕ) → Bytes t → form_in (header_of t) t ≡ form_of t
unfolding form_from meaning_of
form_is t b =
    let h : Header = header_of t in
    let counts : List ℕ = counts_in t (40 + h.leg_count * 24) in
    let rest : List ℕ = messages_form (meant_from h.message_count (drop h.message_offset t)) in
    sym (append_assoc counts (bytes_at 32 8 t) (bytes_at (h.leg_count * 24) h.leg_offset t ++ rest))
    ∙ ap₂ (λ (x : List ℕ) (r : List ℕ). x ++ (r ++ rest)) (header-bytes t b) (legs_bytes h.leg_count t h.leg_offset b)

-- ---- what a writer gives

good_reply : (t buffer : List ℕ) → GoodReply t buffer
unfolding FormsAreWritten
good_reply t buffer = forms_are_written t buffer

one_form : (t : List ℕ) → Accepted t → OneForm t
unfolding OneSpelling
one_form t a = one_spelling.0 t a

pub form_size : (t : List ℕ) → Accepted t → length (form_of t) ≡ size_in (header_of t)
form_size t a = omega (arith, (one_form t a).size)

pub tape_holds : (t : List ℕ) → tape_refusal t ≡ 0 → Holds (header_of t) t
tape_holds t h =
    let s : Sound t = sound t h in
    record { header = s.least; legs = s.legs; messages = s.messages; size = omega (arith, s.room, s.most) }

-- under 60 and 61
pub is_refused : (t buffer : List ℕ) (n : ℕ) → n ≡ tape_refusal t → (n ≡ 0 → ⊥) → (record { number = n; size = 0 } ≡ reply_to t buffer) × (buffer ≡ buffer_after t buffer)
is_refused t buffer n e h =
    let g = (good_reply t buffer).refused (λ z. h (e ∙ z)) in
    (sym (g.0 ∙ ap (λ (k : ℕ). record { number = k; size = 0 }) (sym e)), sym g.1)

-- the same by the row handed on
pub turned-back : (t buffer : List ℕ) (r : Result ℕ Refusal) (row : Refusal) → IsErrAnd r (λ f. f ≡ row) → number_of row ≡ tape_refusal t → (reply_of r ≡ reply_to t buffer) × (buffer ≡ buffer_after t buffer)
turned-back t buffer (Ok n) row h e = absurd h
turned-back t buffer (Err f) row h e = let p : 0 < number_of f = is_some_number f in is_refused t buffer (number_of f) (ap number_of h ∙ e) (λ z. omega arith)

-- under 70
pub is_short : (t buffer : List ℕ) → Accepted t → length buffer < size_in (header_of t) → (record { number = 70; size = 0 } ≡ reply_to t buffer) × (buffer ≡ buffer_after t buffer)
is_short t buffer a h = let g = (good_reply t buffer).short a.passed (omega (arith, form_size t a)) in (sym g.0, sym g.1)

-- the form written
pub is_done : (t buffer after : List ℕ) (r : ℕ) → Accepted t → size_in (header_of t) ≤ length buffer → r ≡ size_in (header_of t) → Wrote (form_in (header_of t) t) 0 buffer r after
    → (record { number = 0; size = r } ≡ reply_to t buffer) × (after ≡ buffer_after t buffer)
is_done t buffer after r a h e w =
    let n : ℕ = length (form_of t) in
    let s : n ≡ size_in (header_of t) = form_size t a in
    let g = (good_reply t buffer).done a.passed (omega arith) in
    let z : 0 + n ≡ n = omega arith in
    let x : after ≡ form_of t ++ drop n buffer
    = w.holds ∙ ap (sets buffer 0) (form_is t a.bytes) ∙ sets-eq (form_of t) buffer 0 (omega arith) ∙ ap (λ (k : ℕ). form_of t ++ drop k buffer) z in
    let y : buffer_after t buffer ≡ form_of t ++ drop n buffer = sym (take-append-drop n (buffer_after t buffer)) ∙ ap₂ (λ (p : List ℕ) (q : List ℕ). p ++ q) g.1 g.2 in
    (◌∙◌ {b = record { number = 0; size = n }} (ap (λ (k : ℕ). record { number = 0; size = k }) (e ∙ sym s)) (sym g.0), x ∙ sym y)

-- ---- what a reply says

module _ (t buffer : List ℕ) (r : R.Reply) (e : r ≡ reply_to t buffer) where
  -- 0: the tape is accepted, and the form has room
  pub record Said : Type 0 where
    pub passed : tape_refusal t ≡ 0
    pub size : r.size ≡ length (form_of t)
    pub room : length (form_of t) ≤ length buffer
    pub same : length (buffer_after t buffer) ≡ length buffer

  pub done-said : r.number ≡ 0 → Said
  done-said z =
      let g = good_reply t buffer in
      elim (ℕ_discrete (tape_refusal t) 0) [
        | yes p ↦
            elim (dec_lt (length buffer) (length (form_of t))) [
              | yes l ↦ absurd (omega (arith, z, ap (λ (x : R.Reply). x.number) (e ∙ (g.short p l).0)))
              | no l ↦ (
                  let d = g.done p (omega (arith, l)) in
                  record { passed = p; size = ap (λ (x : R.Reply). x.size) (e ∙ d.0); room = omega (arith, l); same = d.3 }
                  )
            ]
        | no n ↦ absurd (n (sym (ap (λ (x : R.Reply). x.number) (e ∙ (g.refused n).0)) ∙ z))
      ]

  -- another number, where every form has room: the tape's own
  pub refused-said : Bytes t → 65_535 ≤ length buffer → (r.number ≡ 0 → ⊥) → (tape_refusal t ≡ 0 → ⊥) × (r.number ≡ tape_refusal t)
  refused-said b h n =
      let g = good_reply t buffer in
      elim (ℕ_discrete (tape_refusal t) 0) [
        | yes p ↦ (
            let s : Sound t = sound t p in
            let k : length (form_of t) ≤ length buffer = omega (arith, (one_form t (record { bytes = b; passed = p })).size, s.room, s.most, h) in
            absurd (n (ap (λ (x : R.Reply). x.number) (e ∙ (g.done p k).0)))
            )
        | no m ↦ (m, ap (λ (x : R.Reply). x.number) (e ∙ (g.refused m).0))
      ]
