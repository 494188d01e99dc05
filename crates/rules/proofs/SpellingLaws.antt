-- M-100: numbers and records in bytes and back, and fields as they are meant.
use mathlib.Core.Path.{◌≡◌, refl, ap}
use mathlib.Core.Bool.{Bool, true, false}
use mathlib.Core.List.{List, [], ◌∷◌, ◌++◌}
use Prim.Native.Nat.{ℕ, zero, suc, ◌+◌, ◌/◌, ◌%◌, ◌<◌}
use native.Mathlib.Decide.{dec_lt}
use native.Mathlib.Omega.{arith}
use borrow.Author.Tests.{lt-ltb, le-ltb}
use lib.Dec.{eqb, ltb}
use lib.IntN.{ℤ, pos}
use lib.ListN.{get_or, drop}
use Rattle.rules.specs.Basics.{pick}
use Rattle.rules.specs.Strategy.{Settings}
use Rattle.rules.specs.Tape.{half, word, long, signed, settings_of, Fields, fields_of, Uses, uses_of, bytes_of}
use Rattle.rules.specs.Spelling.{Bytes, little_endian, bits_of, Field, field_bytes, yes_or_no, meant, message_fields, header_fields, Meaning}
use Rattle.rules.proofs.TestLaws.{pick_both}

-- ---- numbers in bytes and back

pub byte_back : (v : ℕ) → v < 256 → v % 256 ≡ v
byte_back v h = omega arith

pub half_back : (v : ℕ) (r : List ℕ) → v < 65_536 → half (little_endian 2 v ++ r) 0 ≡ v
half_back v r h = omega arith

pub word_back : (v : ℕ) (r : List ℕ) → v < 4_294_967_296 → word (little_endian 4 v ++ r) 0 ≡ v
word_back v r h = omega arith

pub long-back : (v : ℕ) (r : List ℕ) → v < 18_446_744_073_709_551_616 → long (little_endian 8 v ++ r) 0 ≡ v
long-back v r h = omega arith

-- ---- prices in two's complement

-- a price of 32 bits
pub record InBits (z : ℤ) : Type 0 where
  pub fits : bits_of z < 4_294_967_296
  pub back : signed (bits_of z) ≡ z

pub bits_back : (n : ℕ) → n < 4_294_967_296 → bits_of (signed n) ≡ n
bits_back n h =
    elim (dec_lt n 2_147_483_648) [
      | yes l ↦ rw (lt-ltb n 2_147_483_648 l)
      | no k ↦ rw (le-ltb n 2_147_483_648 (omega arith)) (omega arith)
    ]

pub signed_in : (n : ℕ) → n < 4_294_967_296 → InBits (signed n)
signed_in n h = let e : bits_of (signed n) ≡ n = bits_back n h in record { fits = omega arith; back = ap signed e }

pub zero_in : InBits (pos 0)
zero_in = record { fits = omega arith; back = refl }

-- ---- the fields of a record and back

-- fields that fit the bytes of their record
pub record Fit (f : Fields) : Type 0 where
  pub kind : f.kind < 256
  pub side : f.side < 256
  pub account : f.account < 256
  pub wish_or_leg : f.wish_or_leg < 256
  pub id : f.id < 4_294_967_296
  pub participant : f.participant < 4_294_967_296
  pub units : f.units < 4_294_967_296
  pub price : InBits f.price
  pub ask : InBits f.ask
  pub ask_size : f.ask_size < 4_294_967_296
  pub time : f.time < 18_446_744_073_709_551_616

pub fields_back : (f : Fields) (r : List ℕ) → Fit f → fields_of (field_bytes (message_fields f) ++ r) ≡ f
fields_back f r h =
    rw (
      byte_back f.kind h.kind,
      byte_back f.side h.side,
      byte_back f.account h.account,
      byte_back f.wish_or_leg h.wish_or_leg,
      word_back f.id [] h.id,
      word_back f.participant [] h.participant,
      word_back f.units [] h.units,
      word_back (bits_of f.price) [] h.price.fits,
      h.price.back,
      word_back (bits_of f.ask) [] h.ask.fits,
      h.ask.back,
      word_back f.ask_size [] h.ask_size,
      long-back f.time [] h.time,
    )

-- settings that fit theirs
pub record FitSettings (s : Settings) : Type 0 where
  pub interval : s.interval < 65_536
  pub distance : s.distance < 65_536
  pub most_legs : s.most_legs < 65_536
  pub amount1 : s.amount1 < 65_536
  pub amount5 : s.amount5 < 65_536
  pub amount10 : s.amount10 < 65_536
  pub minimum : s.minimum < 4_294_967_296
  pub first_number : s.first_number < 18_446_744_073_709_551_616
  pub opening_time : s.opening_time < 18_446_744_073_709_551_616

pub settings_back : (m : Meaning) (r : List ℕ) → FitSettings m.settings → settings_of (field_bytes (header_fields m) ++ r) ≡ m.settings
settings_back m r h =
    let s : Settings = m.settings in
    rw (
      half_back s.interval [] h.interval,
      half_back s.distance [] h.distance,
      half_back s.most_legs [] h.most_legs,
      half_back s.amount1 [] h.amount1,
      half_back s.amount5 [] h.amount5,
      half_back s.amount10 [] h.amount10,
      word_back s.minimum [] h.minimum,
      long-back s.first_number [] h.first_number,
      long-back s.opening_time [] h.opening_time,
    )

-- ---- bytes at offsets

pub bytes_at_lem : (t : List ℕ) → Bytes t → (i : ℕ) → get_or t i 0 < 256
bytes_at_lem [] h i = omega arith
bytes_at_lem (b ∷ bs) h zero = h.0
bytes_at_lem (b ∷ bs) h (suc i) = bytes_at_lem bs h.1 i

pub bytes_drop : (n : ℕ) (t : List ℕ) → Bytes t → Bytes (drop n t)
bytes_drop zero t h = h
bytes_drop (suc n) [] h = tt
bytes_drop (suc n) (b ∷ bs) h = bytes_drop n bs h.1

-- those that are read, past the end too
pub bytes_read : (n : ℕ) (t : List ℕ) → Bytes t → Bytes (bytes_of n t)
bytes_read zero t h = tt
bytes_read (suc n) t h = (bytes_at_lem t h 0, bytes_read n (drop 1 t) (bytes_drop 1 t h))

pub bytes_append : (s t : List ℕ) → Bytes s → Bytes t → Bytes (s ++ t)
bytes_append [] t h k = k
bytes_append (b ∷ bs) t h k = (h.0, bytes_append bs t h.1 k)

bytes_number : (w v : ℕ) → Bytes (little_endian w v)
bytes_number zero v = tt
bytes_number (suc w) v = (omega arith, bytes_number w (v / 256))

pub bytes_fields : (fs : List Field) → Bytes (field_bytes fs)
bytes_fields [] = tt
bytes_fields (f ∷ fs) = bytes_append (little_endian f.width f.value) (field_bytes fs) (bytes_number f.width f.value) (bytes_fields fs)

module _ (t : List ℕ) (b : Bytes t) where
  pub half-fits : (at : ℕ) → half t at < 65_536
  half-fits at = omega (arith, bytes_at_lem t b at, bytes_at_lem t b (at + 1))

  pub word_fits : (at : ℕ) → word t at < 4_294_967_296
  word_fits at = omega (arith, half-fits at, half-fits (at + 2))

  pub long-fits : (at : ℕ) → long t at < 18_446_744_073_709_551_616
  long-fits at = omega (arith, word_fits at, word_fits (at + 4))

  pub settings-fit : FitSettings (settings_of t)
  settings-fit =
      record {
        interval = half-fits 8;
        distance = half-fits 10;
        most_legs = half-fits 12;
        amount1 = half-fits 14;
        amount5 = half-fits 16;
        amount10 = half-fits 18;
        minimum = word_fits 20;
        first_number = long-fits 24;
        opening_time = long-fits 32;
      }

  pub fields_fit : Fit (fields_of t)
  fields_fit =
      record {
        kind = bytes_at_lem t b 0;
        side = bytes_at_lem t b 1;
        account = bytes_at_lem t b 2;
        wish_or_leg = bytes_at_lem t b 3;
        id = word_fits 4;
        participant = word_fits 8;
        units = word_fits 12;
        price = signed_in (word t 16) (word_fits 16);
        ask = signed_in (word t 20) (word_fits 20);
        ask_size = word_fits 24;
        time = long-fits 28;
      }

-- ---- fields as they are meant

yes_again : (w : ℕ) → yes_or_no (yes_or_no w) ≡ yes_or_no w
yes_again w = go (ltb 0 w)
  where
    go : (b : Bool) → ◌≡◌ {A = ℕ} (pick (ltb 0 (pick b 1 0)) 1 0) (pick b 1 0)
    go true = refl
    go false = refl

pick_again : {A : Type 0} (b : Bool) (x z : A) → pick b (pick b x z) z ≡ pick b x z
pick_again true x z = refl
pick_again false x z = refl

-- the fourth byte under a row's flag b, in a record whose kind is an order's or not
abbrev fourth_if : Bool → Bool → ℕ → ℕ
fourth_if b c w = pick c (yes_or_no (pick b w 0)) (pick b w 0)

fourth_again : (b c : Bool) (w : ℕ) → fourth_if b c (fourth_if b c w) ≡ fourth_if b c w
fourth_again true true w = yes_again w
fourth_again true false w = refl
fourth_again false true w = refl
fourth_again false false w = refl

pub meant_again : (f : Fields) → meant (meant f) ≡ meant f
meant_again f =
    let u : Uses = uses_of f.kind in
    rw (
      pick_again u.side f.side 0,
      pick_again u.account f.account 0,
      fourth_again u.wish_or_leg (eqb f.kind 3) f.wish_or_leg,
      pick_again u.id f.id 0,
      pick_again u.participant f.participant 0,
      pick_again u.units f.units 0,
      pick_again u.price f.price (pos 0),
      pick_again u.ask f.ask (pos 0),
      pick_again u.ask_size f.ask_size 0,
    )

used-fits : (n : ℕ) (b : Bool) (x : ℕ) → x < suc n → pick b x 0 < suc n
used-fits n b x h = pick_both (λ y. y < suc n) b h (omega arith)

pub meant_fit : (f : Fields) → Fit f → Fit (meant f)
meant_fit f h =
    let u : Uses = uses_of f.kind in
    let w : ℕ = pick u.wish_or_leg f.wish_or_leg 0 in
    record {
      kind = h.kind;
      side = used-fits 255 u.side f.side h.side;
      account = used-fits 255 u.account f.account h.account;
      wish_or_leg = pick_both (λ y. y < 256) (eqb f.kind 3) (pick_both (λ y. y < 256) (ltb 0 w) (omega arith) (omega arith)) (used-fits 255 u.wish_or_leg f.wish_or_leg h.wish_or_leg);
      id = used-fits 4_294_967_295 u.id f.id h.id;
      participant = used-fits 4_294_967_295 u.participant f.participant h.participant;
      units = used-fits 4_294_967_295 u.units f.units h.units;
      price = pick_both InBits u.price h.price zero_in;
      ask = pick_both InBits u.ask h.ask zero_in;
      ask_size = used-fits 4_294_967_295 u.ask_size f.ask_size h.ask_size;
      time = h.time;
    }
