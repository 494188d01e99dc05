-- What the tape's types stand for in the rules.
use Rattle.std.specs.Prelude.{◌≡◌, List, ℕ, ◌+◌, ◌*◌, ◌<◌, min, length, drop}
use Rattle.rules.specs.Strategy as S
use Rattle.rules.specs.Tape as T
use Rattle.types.specs.View.{leg_at, settings_of}
use Rattle.types.specs.declared.Opening.{Opening}
use Rattle.tape.specs.declared.Header.{Header}
use Rattle.tape.specs.declared.Uses.{Uses}
use Rattle.tape.specs.declared.Fields.{Fields}
use Rattle.tape.specs.declared.Section.{Section}

-- a header
abbrev pub header_of : Header → T.Header
header_of h =
    record {
      leg_count = h.legcount;
      leg_offset = h.legoffset;
      message_count = h.messagecount;
      message_offset = h.messageoffset;
      settings = settings_of h.settings;
    }

-- a row of flags
abbrev pub uses_of : Uses → T.Uses
uses_of u = T.uses u.side u.account u.wishorleg u.id u.participant u.units u.price u.ask u.asksize

-- the fields of a message record
abbrev pub fields_of : Fields → T.Fields
fields_of f =
    record {
      kind = f.kind;
      side = f.side;
      account = f.account;
      wish_or_leg = f.wishorleg;
      id = f.id;
      participant = f.participant;
      units = f.units;
      price = f.price;
      ask = f.ask;
      ask_size = f.asksize;
      time = f.time;
    }

-- the opening of a header and of as many legs as it counts, which stand from an offset on
abbrev pub strategy_from : ℕ → List ℕ → S.Strategy
strategy_from at t = record { legs = T.legs_from (T.header_of t).leg_count (drop at t); settings = (T.header_of t).settings }

-- the opening that is read, field by field: the header's count and settings, and four legs from an offset on, those beyond the count too
pub record Reads (at : ℕ) (t : List ℕ) (r : Opening) : Type 0 where
  pub count : r.count ≡ (T.header_of t).leg_count
  pub settings : settings_of r.settings ≡ (T.header_of t).settings
  pub legs : (k : ℕ) → k < 4 → leg_at r k ≡ T.leg_of (drop (at + T.leg_bytes * k) t)

-- a section
abbrev pub section_of : Section → T.Section
section_of s = record { start = s.start; size = s.size }

-- the offset behind the message record at an offset, the tape's end at the latest
abbrev pub offset_after : List ℕ → ℕ → ℕ
offset_after t at = min (at + T.message_bytes) (length t)
