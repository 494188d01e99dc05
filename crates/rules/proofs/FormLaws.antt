-- M-100: the written form of a meaning, read back.
use mathlib.Core.Path.{◌≡◌, refl, ap, ap₂, sym, ◌∙◌}
use mathlib.Core.Bool.{true, false, not}
use mathlib.Core.List.{List, [], ◌∷◌, ◌++◌, append_assoc}
use Prim.Native.Nat.{ℕ, zero, suc, ◌+◌, ◌*◌, ◌≤◌, ◌<◌}
use native.Mathlib.Omega.{arith}
use lib.ListN.{length, get_or, take, drop, length-append}
use lib.Seq.{take_at, drop_at, drop-drop, get_or-append-add}
use Rattle.rules.specs.Strategy.{Leg}
use Rattle.rules.specs.Tape.{Header, header_of, Fields, fields_of, is_damaged, bytes_of, leg_of, legs_from, is_kind, known_kinds, has_unknown_kind, tape_refusal}
use Rattle.rules.specs.Spelling.{Bytes, Field, field, field_bytes, meant, meant_from, message_fields, header_fields, leg_form, legs_form, messages_form, Meaning, meaning_of, form_from, raw_from, Accepted}
use Rattle.rules.proofs.TestLaws.{and_left, and_right}
use Rattle.rules.proofs.SpellingLaws.{byte_back, half_back, Fit, fields_back, FitSettings, settings_back, bytes_at_lem, bytes_read, bytes_drop, bytes_append, bytes_fields, settings-fit, fields_fit, meant_again, meant_fit}
use Rattle.rules.proofs.SectionLaws.{Sound, sound, whole-fits}

-- ---- a meaning that fits the bytes of a form

pub record FitLeg (l : Leg) : Type 0 where
  pub symbol : length l.symbol ≡ 21
  pub bytes : Bytes l.symbol
  pub side : l.side < 256
  pub ratio : l.ratio < 256
  pub mpv : l.mpv < 256

abbrev pub FitLegs : List Leg → Type 0
FitLegs [] = Unit {0}
FitLegs (l ∷ ls) = FitLeg l × FitLegs ls

pub record FitMessage (f : Fields) : Type 0 where
  pub fit : Fit f
  pub meaning : meant f ≡ f
  pub known : is_kind f.kind ≡ true

abbrev pub FitMessages : List Fields → Type 0
FitMessages [] = Unit {0}
FitMessages (f ∷ fs) = FitMessage f × FitMessages fs

pub record FitMeaning (m : Meaning) : Type 0 where
  pub settings : FitSettings m.settings
  pub leg_count : length m.legs ≡ m.leg_count
  pub message_count : length m.messages ≡ m.message_count
  pub legs : FitLegs m.legs
  pub messages : FitMessages m.messages
  pub room : 40 + m.leg_count * 24 + m.message_count * 36 ≤ 65_535

-- ---- of a tape

pub legs_count : (n : ℕ) (p : List ℕ) → length (legs_from n p) ≡ n
legs_count zero p = refl
legs_count (suc n) p = ap suc (legs_count n (drop 24 p))

pub messages_count : (n : ℕ) (p : List ℕ) → length (meant_from n p) ≡ n
messages_count zero p = refl
messages_count (suc n) p = ap suc (messages_count n (drop 36 p))

read_length : (n : ℕ) (p : List ℕ) → length (bytes_of n p) ≡ n
read_length zero p = refl
read_length (suc n) p = ap suc (read_length n (drop 1 p))

legs_fit : (n : ℕ) (p : List ℕ) → Bytes p → FitLegs (legs_from n p)
legs_fit zero p b = tt
legs_fit (suc n) p b = (
  record { symbol = read_length 21 p; bytes = bytes_read 21 p b; side = bytes_at_lem p b 21; ratio = bytes_at_lem p b 22; mpv = bytes_at_lem p b 23 },
  legs_fit n (drop 24 p) (bytes_drop 24 p b),
)

messages_fit : (n : ℕ) (p : List ℕ) → Bytes p → known_kinds n p ≡ true → FitMessages (meant_from n p)
messages_fit zero p b k = tt
messages_fit (suc n) p b k = (
  record { fit = meant_fit (fields_of p) (fields_fit p b); meaning = meant_again (fields_of p); known = and_left (is_kind (get_or p 0 0)) (known_kinds n (drop 36 p)) k },
  messages_fit n (drop 36 p) (bytes_drop 36 p b) (and_right (is_kind (get_or p 0 0)) (known_kinds n (drop 36 p)) k),
)

pub meaning_fit : (t : List ℕ) → Accepted t → FitMeaning (meaning_of t)
unfolding meaning_of
meaning_fit t a =
    let b : Bytes t = a.bytes in
    let s : Sound t = sound t a.passed in
    let e : Header = header_of t in
    let r : 40 + e.leg_count * 24 + e.message_count * 36 ≤ length t = s.room in
    let q : length t ≤ 65_535 = s.most in
    record {
      settings = settings-fit t b;
      leg_count = legs_count e.leg_count (drop e.leg_offset t);
      message_count = messages_count e.message_count (drop e.message_offset t);
      legs = legs_fit e.leg_count (drop e.leg_offset t) (bytes_drop e.leg_offset t b);
      messages = messages_fit e.message_count (drop e.message_offset t) (bytes_drop e.message_offset t b) s.kinds;
      room = omega arith;
    }

-- ---- legs and messages read back

at_seam : (xs ys : List ℕ) (n k : ℕ) → length xs ≡ n → get_or (xs ++ ys) (n + k) 0 ≡ get_or ys k 0
at_seam xs ys n k h = ap (λ (j : ℕ). get_or (xs ++ ys) (j + k) 0) (sym h) ∙ get_or-append-add xs ys k 0

-- bytes that are there
read_taken : (n : ℕ) (p : List ℕ) → n ≤ length p → bytes_of n p ≡ take n p
read_taken zero p h = refl
read_taken (suc n) [] h = absurd (omega arith)
read_taken (suc n) (x ∷ p) h = ap (λ (l : List ℕ). x ∷ l) (read_taken n p (omega arith))

read_back : (n : ℕ) (xs ys : List ℕ) → length xs ≡ n → bytes_of n (xs ++ ys) ≡ xs
read_back n xs ys h = read_taken n (xs ++ ys) (omega (arith, length-append xs ys)) ∙ take_at xs ys n h

leg-back : (l : Leg) (r : List ℕ) → FitLeg l → leg_of (leg_form l ++ r) ≡ l
leg-back l r h =
    let bs : List ℕ = field_bytes (field 1 l.side ∷ field 1 l.ratio ∷ field 1 l.mpv ∷ []) in
    let s : List ℕ = l.symbol in
    ap leg_of (append_assoc s bs r)
    ∙ (λ i. record {
      symbol = read_back 21 s (bs ++ r) h.symbol i;
      side = (at_seam s (bs ++ r) 21 0 h.symbol ∙ byte_back l.side h.side) i;
      ratio = (at_seam s (bs ++ r) 21 1 h.symbol ∙ byte_back l.ratio h.ratio) i;
      mpv = (at_seam s (bs ++ r) 21 2 h.symbol ∙ byte_back l.mpv h.mpv) i;
    })

leg-length : (l : Leg) → FitLeg l → length (leg_form l) ≡ 24
leg-length l h = omega (arith, h.symbol, length-append l.symbol (field_bytes (field 1 l.side ∷ field 1 l.ratio ∷ field 1 l.mpv ∷ [])))

legs_back : (ls : List Leg) (r : List ℕ) → FitLegs ls → legs_from (length ls) (legs_form ls ++ r) ≡ ls
legs_back [] r h = refl
legs_back (l ∷ ls) r h =
    rw (append_assoc (leg_form l) (legs_form ls) r)
    (ap₂ (λ (a : Leg) (bs : List Leg). a ∷ bs) (leg-back l (legs_form ls ++ r) h.0)
    (ap (legs_from (length ls)) (drop_at (leg_form l) (legs_form ls ++ r) 24 (leg-length l h.0)) ∙ legs_back ls r h.1))

legs_length : (ls : List Leg) → FitLegs ls → length (legs_form ls) ≡ length ls * 24
legs_length [] h = refl
legs_length (l ∷ ls) h = omega (arith, length-append (leg_form l) (legs_form ls), leg-length l h.0, legs_length ls h.1)

messages_length : (fs : List Fields) → length (messages_form fs) ≡ length fs * 36
messages_length [] = refl
messages_length (f ∷ fs) = omega (arith, messages_length fs)

raw_back : (fs : List Fields) → FitMessages fs → raw_from (length fs) (messages_form fs) ≡ fs
raw_back [] h = refl
raw_back (f ∷ fs) h = ap₂ (λ (a : Fields) (bs : List Fields). a ∷ bs) (fields_back f (messages_form fs) h.0.fit) (raw_back fs h.1)

messages_back : (fs : List Fields) → FitMessages fs → meant_from (length fs) (messages_form fs) ≡ fs
messages_back [] h = refl
messages_back (f ∷ fs) h =
    ap₂ (λ (a : Fields) (bs : List Fields). a ∷ bs) (ap meant (fields_back f (messages_form fs) h.0.fit) ∙ h.0.meaning) (messages_back fs h.1)

kinds_back : (fs : List Fields) → FitMessages fs → known_kinds (length fs) (messages_form fs) ≡ true
kinds_back [] h = refl
kinds_back (f ∷ fs) h = rw (byte_back f.kind h.0.fit.kind, h.0.known, kinds_back fs h.1)

-- ---- the form read back

legs_bytes : (ls : List Leg) → FitLegs ls → Bytes (legs_form ls)
legs_bytes [] h = tt
legs_bytes (l ∷ ls) h =
    let bs : List Field = field 1 l.side ∷ field 1 l.ratio ∷ field 1 l.mpv ∷ [] in
    bytes_append (leg_form l) (legs_form ls) (bytes_append l.symbol (field_bytes bs) h.0.bytes (bytes_fields bs)) (legs_bytes ls h.1)

messages_bytes : (fs : List Fields) → Bytes (messages_form fs)
messages_bytes [] = tt
messages_bytes (f ∷ fs) = bytes_append (field_bytes (message_fields f)) (messages_form fs) (bytes_fields (message_fields f)) (messages_bytes fs)

-- the meaning of a tape by its header
abbrev meaning_by : List ℕ → Header → Meaning
meaning_by t e =
    record {
      leg_count = e.leg_count;
      message_count = e.message_count;
      settings = e.settings;
      legs = legs_from e.leg_count (drop e.leg_offset t);
      messages = meant_from e.message_count (drop e.message_offset t);
    }

abbrev meaning_with : Meaning → List Leg → List Fields → Meaning
meaning_with m ls fs = record { leg_count = m.leg_count; message_count = m.message_count; settings = m.settings; legs = ls; messages = fs }

module _ (m : Meaning) (h : FitMeaning m) where
  pub form-bytes : Bytes (form_from m)
  unfolding form_from
  form-bytes =
      bytes_append (field_bytes (header_fields m)) (legs_form m.legs ++ messages_form m.messages) (bytes_fields (header_fields m))
      (bytes_append (legs_form m.legs) (messages_form m.messages) (legs_bytes m.legs h.legs) (messages_bytes m.messages))

  pub form-length : length (form_from m) ≡ 40 + m.leg_count * 24 + m.message_count * 36
  unfolding form_from
  form-length =
      omega (
        arith,
        length-append (legs_form m.legs) (messages_form m.messages),
        legs_length m.legs h.legs,
        messages_length m.messages,
        ap (λ (n : ℕ). n * 24) h.leg_count,
        ap (λ (n : ℕ). n * 36) h.message_count,
      )

  pub form-header : header_of (form_from m) ≡ record { leg_count = m.leg_count; leg_offset = 40; message_count = m.message_count; message_offset = 40 + m.leg_count * 24; settings = m.settings }
  unfolding form_from
  form-header =
      let r : 40 + m.leg_count * 24 + m.message_count * 36 ≤ 65_535 = h.room in
      rw (
        half_back m.leg_count [] (omega arith),
        half_back m.message_count [] (omega arith),
        half_back (40 + m.leg_count * 24) [] (omega arith),
        settings_back m (legs_form m.legs ++ messages_form m.messages) h.settings,
      )

  form-legs : legs_from m.leg_count (drop 40 (form_from m)) ≡ m.legs
  unfolding form_from
  form-legs = ap (λ (n : ℕ). legs_from n (legs_form m.legs ++ messages_form m.messages)) (sym h.leg_count) ∙ legs_back m.legs (messages_form m.messages) h.legs

  form-behind : drop (40 + m.leg_count * 24) (form_from m) ≡ messages_form m.messages
  unfolding form_from
  form-behind =
      sym (drop-drop (m.leg_count * 24) 40 (field_bytes (header_fields m) ++ (legs_form m.legs ++ messages_form m.messages)))
      ∙ drop_at (legs_form m.legs) (messages_form m.messages) (m.leg_count * 24) (legs_length m.legs h.legs ∙ ap (λ (n : ℕ). n * 24) h.leg_count)

  form-damaged : is_damaged (form_from m) ≡ false
  form-damaged =
      let r : 40 + m.leg_count * 24 + m.message_count * 36 ≤ 65_535 = h.room in
      let n : length (form_from m) ≡ 40 + m.leg_count * 24 + m.message_count * 36 = form-length in
      whole-fits (header_of (form_from m)) (length (form_from m)) m.leg_count m.message_count (ap (λ (e : Header). e.leg_count) form-header) (ap (λ (e : Header). e.leg_offset) form-header)
      (ap (λ (e : Header). e.message_count) form-header) (ap (λ (e : Header). e.message_offset) form-header) n (omega arith)

  form-known : has_unknown_kind (form_from m) ≡ false
  form-known =
      ap (λ (e : Header). not (known_kinds e.message_count (drop e.message_offset (form_from m)))) form-header
      ∙ ap₂ (λ (n : ℕ) (p : List ℕ). not (known_kinds n p)) (sym h.message_count) form-behind ∙ ap not (kinds_back m.messages h.messages)

  pub form-accepted : tape_refusal (form_from m) ≡ 0
  unfolding tape_refusal
  form-accepted = rw (form-damaged, form-known)

  pub form-meaning : meaning_of (form_from m) ≡ m
  unfolding meaning_of
  form-meaning =
      let e : meant_from m.message_count (drop (40 + m.leg_count * 24) (form_from m)) ≡ m.messages
      = ap₂ meant_from (sym h.message_count) form-behind ∙ messages_back m.messages h.messages in
      ap (meaning_by (form_from m)) form-header ∙ ap₂ (λ (ls : List Leg) (fs : List Fields). meaning_with m ls fs) form-legs e

  pub form-raw : raw_from m.message_count (drop (40 + m.leg_count * 24) (form_from m)) ≡ m.messages
  form-raw = ap₂ raw_from (sym h.message_count) form-behind ∙ raw_back m.messages h.messages
