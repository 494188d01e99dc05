-- Document 02, M-100, "Tapes in one spelling": the meaning of a tape, its written form, and what a writer gives for a tape and a lent buffer; number 70.
use Rattle.std.specs.Prelude.{◌≡◌, false, ◌↔◌, List, [], ◌∷◌, ◌++◌, ℕ, zero, suc, ◌+◌, ◌-◌, ◌*◌, ◌/◌, ◌%◌, ◌≤◌, ◌<◌, eqb, ltb, ℤ, pos, negsuc, length, take, drop}
use Rattle.rules.specs.Basics.{pick, All, Rule, rule, first_of}
use Rattle.rules.specs.Strategy.{Leg, Settings}
use Rattle.rules.specs.Tape.{header_bytes, leg_bytes, message_bytes, header_of, legs_from, Fields, fields_of, Uses, uses_of, used_fields, tape_row, tape_refusal, tape_of}

-- ---- the meaning

-- "a wish being yes or no": 1 for any but 0
abbrev pub yes_or_no : ℕ → ℕ
yes_or_no w = pick (ltb 0 w) 1 0

-- the fourth byte of a record of a kind: an order's wish, or a leg
abbrev pub fourth : ℕ → ℕ → ℕ
fourth kind w = pick (eqb kind 3) (yes_or_no w) w

-- "the used fields .., a wish being yes or no", by a row of flags: a field that is not used is 0
abbrev pub meant_by : Uses → Fields → Fields
meant_by row f =
    let u = used_fields row f in
    record {
      kind = u.kind;
      side = u.side;
      account = u.account;
      wish_or_leg = fourth u.kind u.wish_or_leg;
      id = u.id;
      participant = u.participant;
      units = u.units;
      price = u.price;
      ask = u.ask;
      ask_size = u.ask_size;
      time = u.time;
    }

-- by the row of the kind, in the table that the reader goes by
abbrev pub meant : Fields → Fields
meant f = meant_by (uses_of f.kind) f

-- those of n messages, "in their sequence"
abbrev pub meant_from : ℕ → List ℕ → List Fields
meant_from zero p = []
meant_from (suc n) p = meant (fields_of p) ∷ meant_from n (drop message_bytes p)

-- "its counts and settings, its legs, and the used fields of its messages in their sequence, a wish being yes or no"
pub record Meaning : Type 0 where
  pub leg_count : ℕ
  pub message_count : ℕ
  pub settings : Settings
  pub legs : List Leg
  pub messages : List Fields

-- "The meaning of a tape"
unfoldable pub meaning_of : List ℕ → Meaning
meaning_of t =
    record {
      leg_count = (header_of t).leg_count;
      message_count = (header_of t).message_count;
      settings = (header_of t).settings;
      legs = legs_from (header_of t).leg_count (drop (header_of t).leg_offset t);
      messages = meant_from (header_of t).message_count (drop (header_of t).message_offset t);
    }

-- ---- the written form

-- "Little-endian": a number in so many bytes
abbrev pub little_endian : ℕ → ℕ → List ℕ
little_endian zero v = []
little_endian (suc w) v = v % 256 ∷ little_endian w (v / 256)

-- "prices signed": the 32 bits of a price, in two's complement
abbrev pub bits_of : ℤ → ℕ
bits_of (pos n) = n
bits_of (negsuc n) = 4_294_967_295 - n

-- a field of a record: its width in bytes, and its value
pub record Field : Type 0 where
  pub width : ℕ
  pub value : ℕ

abbrev pub field : ℕ → ℕ → Field
field w v = record { width = w; value = v }

-- fields, one after another
abbrev pub field_bytes : List Field → List ℕ
field_bytes [] = []
field_bytes (f ∷ fs) = little_endian f.width f.value ++ field_bytes fs

-- "legs at offset 40, messages straight after", also where there are none
abbrev pub header_fields : Meaning → List Field
header_fields m =
    let s = m.settings in
    field 2 m.leg_count ∷ field 2 header_bytes ∷ field 2 m.message_count ∷ field 2 (header_bytes + m.leg_count * leg_bytes)
    ∷ field 2 s.interval ∷ field 2 s.distance ∷ field 2 s.most_legs ∷ field 2 s.amount1 ∷ field 2 s.amount5 ∷ field 2 s.amount10
    ∷ field 4 s.minimum ∷ field 8 s.first_number ∷ field 8 s.opening_time ∷ []

-- "symbol, side, ratio, MPV"
abbrev pub leg_form : Leg → List ℕ
leg_form l = l.symbol ++ field_bytes (field 1 l.side ∷ field 1 l.ratio ∷ field 1 l.mpv ∷ [])

-- the legs, one after another
abbrev pub legs_form : List Leg → List ℕ
legs_form [] = []
legs_form (l ∷ ls) = leg_form l ++ legs_form ls

-- "unused fields zero, any auction wish written as 1": the fields of a message as they are meant
abbrev pub message_fields : Fields → List Field
message_fields f =
    field 1 f.kind ∷ field 1 f.side ∷ field 1 f.account ∷ field 1 f.wish_or_leg
    ∷ field 4 f.id ∷ field 4 f.participant ∷ field 4 f.units ∷ field 4 (bits_of f.price) ∷ field 4 (bits_of f.ask) ∷ field 4 f.ask_size
    ∷ field 8 f.time ∷ []

-- the messages, one after another
abbrev pub messages_form : List Fields → List ℕ
messages_form [] = []
messages_form (f ∷ fs) = field_bytes (message_fields f) ++ messages_form fs

-- the form of a meaning
unfoldable pub form_from : Meaning → List ℕ
form_from m = field_bytes (header_fields m) ++ (legs_form m.legs ++ messages_form m.messages)

-- the written form of a tape
abbrev pub form_of : List ℕ → List ℕ
form_of t = form_from (meaning_of t)

-- ---- the writer

-- "A buffer too short for it is refused with 70, after 60 and 61"
abbrev pub form_row : List ℕ → List ℕ → List Rule
form_row t buffer = tape_row t ++ (rule 70 (ltb (length buffer) (length (form_of t))) ∷ [])

-- the number that turns a tape or a buffer back, 0 for none
unfoldable pub form_refusal : List ℕ → List ℕ → ℕ
form_refusal t buffer = first_of (form_row t buffer)

-- that number, and how many bytes the form has, 0 where it is not written
pub record Reply : Type 0 where
  pub number : ℕ
  pub size : ℕ

unfoldable pub reply_to : List ℕ → List ℕ → Reply
reply_to t buffer = record { number = form_refusal t buffer; size = pick (eqb (form_refusal t buffer) 0) (length (form_of t)) 0 }

-- "Bytes of the lent buffer past the form stay"; "under each of the three it is left untouched"
unfoldable pub buffer_after : List ℕ → List ℕ → List ℕ
buffer_after t buffer = pick (eqb (form_refusal t buffer) 0) (form_of t ++ drop (length (form_of t)) buffer) buffer

-- ---- what is claimed of meanings and forms

-- a list of bytes
abbrev pub Bytes : List ℕ → Type 0
Bytes [] = Unit {0}
Bytes (b ∷ bs) = (b < 256) × Bytes bs

-- "every tape the reader accepts": bytes that meet neither 60 nor 61
pub record Accepted (t : List ℕ) : Type 0 where
  pub bytes : Bytes t
  pub passed : tape_refusal t ≡ 0

-- n message records, every field as it stands, used or not
abbrev pub raw_from : ℕ → List ℕ → List Fields
raw_from zero p = []
raw_from (suc n) p = fields_of p ∷ raw_from n (drop 36 p)

-- "unused fields zero, any auction wish written as 1": of a record's fields as they stand
pub record Plain (f : Fields) : Type 0 where
  pub side : (uses_of f.kind).side ≡ false → f.side ≡ 0
  pub account : (uses_of f.kind).account ≡ false → f.account ≡ 0
  pub wish_or_leg : (uses_of f.kind).wish_or_leg ≡ false → f.wish_or_leg ≡ 0
  pub id : (uses_of f.kind).id ≡ false → f.id ≡ 0
  pub participant : (uses_of f.kind).participant ≡ false → f.participant ≡ 0
  pub units : (uses_of f.kind).units ≡ false → f.units ≡ 0
  pub price : (uses_of f.kind).price ≡ false → f.price ≡ pos 0
  pub ask : (uses_of f.kind).ask ≡ false → f.ask ≡ pos 0
  pub ask_size : (uses_of f.kind).ask_size ≡ false → f.ask_size ≡ 0
  pub wish : f.kind ≡ 3 → f.wish_or_leg ≤ 1

-- the form of an accepted tape
pub record OneForm (t : List ℕ) : Type 0 where
  -- is a tape that the reader accepts
  pub accepted : Accepted (form_of t)
  -- means the same
  pub same : meaning_of (form_of t) ≡ meaning_of t
  -- "the written form of a written form is itself"
  pub itself : form_of (form_of t) ≡ form_of t
  -- "legs at offset 40, messages straight after"
  pub legs_at : (header_of (form_of t)).leg_offset ≡ 40
  pub messages_at : (header_of (form_of t)).message_offset ≡ 40 + 24 * (header_of t).leg_count
  -- has no byte behind them
  pub size : length (form_of t) ≡ 40 + 24 * (header_of t).leg_count + 36 * (header_of t).message_count
  -- is no longer than the tape
  pub most : length (form_of t) ≤ length t
  -- has every field as it is meant
  pub raw : raw_from (header_of t).message_count (drop (40 + 24 * (header_of t).leg_count) (form_of t)) ≡ (meaning_of t).messages
  -- and no other
  pub plain : All Plain (raw_from (header_of t).message_count (drop (40 + 24 * (header_of t).leg_count) (form_of t)))

-- of two accepted tapes
pub record OneMeaning (t u : List ℕ) : Type 0 where
  -- "Two accepted tapes have the same meaning exactly when their written forms are the same bytes"
  pub forms : (meaning_of t ≡ meaning_of u) ↔ (form_of t ≡ form_of u)
  -- and exactly when the reader hands on the same opening and the same messages
  pub handed_on : (meaning_of t ≡ meaning_of u) ↔ (tape_of t ≡ tape_of u)

-- M-100, for all lists of bytes
unfoldable pub OneSpelling : Type 0
OneSpelling = ((t : List ℕ) → Accepted t → OneForm t) × ((t u : List ℕ) → Accepted t → Accepted u → OneMeaning t u)

-- ---- what is claimed of the writer

-- of a tape and a buffer, whatever they are
pub record GoodReply (t buffer : List ℕ) : Type 0 where
  -- 60 and 61 first, and the buffer "left untouched"
  pub refused : (tape_refusal t ≡ 0 → ⊥) → (reply_to t buffer ≡ record { number = tape_refusal t; size = 0 }) × (buffer_after t buffer ≡ buffer)
  -- "A buffer too short for it is refused with 70"
  pub short : tape_refusal t ≡ 0 → length buffer < length (form_of t) → (reply_to t buffer ≡ record { number = 70; size = 0 }) × (buffer_after t buffer ≡ buffer)
  -- "Bytes of the lent buffer past the form stay"
  pub done : tape_refusal t ≡ 0 → length (form_of t) ≤ length buffer
      → (reply_to t buffer ≡ record { number = 0; size = length (form_of t) })
      × (take (length (form_of t)) (buffer_after t buffer) ≡ form_of t)
      × (drop (length (form_of t)) (buffer_after t buffer) ≡ drop (length (form_of t)) buffer)
      × (length (buffer_after t buffer) ≡ length buffer)

-- M-100, for all tapes and buffers
unfoldable pub FormsAreWritten : Type 0
FormsAreWritten = (t buffer : List ℕ) → GoodReply t buffer
