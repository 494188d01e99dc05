-- Bytes written into a lent buffer, and the written form as parts of a tape.
use Rattle.std.specs.Prelude.{◌≡◌, List, ◌++◌, ℕ, ◌+◌, ◌-◌, ◌*◌, ◌≤◌, ◌<◌, length, get_or, drop, Result, Ok, Err}
use Rattle.rules.specs.Tape.{header_bytes, leg_bytes, message_bytes, Header}
use Rattle.rules.specs.Spelling as R
use Rattle.rules.specs.Spelling.{little_endian, meant_from, messages_form}
use Rattle.types.specs.declared.Refusal.{Refusal}
use Rattle.types.specs.Refusals.{number_in}
use Rattle.types.specs.View.{upto}
use Rattle.state.specs.Lent.{Lent, LentMut}
use Rattle.text.specs.Buffer.{Wrote}

-- the bytes stand from an offset on, n of them, and r is the offset behind them
abbrev pub Writes : List ℕ → ℕ → LentMut → ℕ → ℕ → Type 0
Writes bytes n out at r = Wrote bytes at out.entry.now r out.exit.now × (length out.exit.now ≡ length out.entry.now) × (r ≡ at + n)

-- n bytes of a tape from an offset on
abbrev pub bytes_at : ℕ → ℕ → List ℕ → List ℕ
bytes_at n at t = upto (λ i. get_or t i 0) at n

-- leg count, leg offset, message count, message offset
abbrev pub counts_in : List ℕ → ℕ → List ℕ
counts_in t behind = bytes_at 2 0 t ++ (little_endian 2 header_bytes ++ (bytes_at 2 4 t ++ little_endian 2 behind))

-- the form's size, by a tape's header
abbrev pub size_in : Header → ℕ
size_in h = header_bytes + h.leg_count * leg_bytes + h.message_count * message_bytes

-- the form by a tape's header: settings and legs as they stand, messages as they are meant
abbrev pub form_in : Header → List ℕ → List ℕ
form_in h t =
    counts_in t (header_bytes + h.leg_count * leg_bytes)
    ++ (bytes_at 32 8 t ++ (bytes_at (h.leg_count * leg_bytes) h.leg_offset t ++ messages_form (meant_from h.message_count (drop h.message_offset t))))

-- the tape has the header and both sections, and the form is no longer than a tape may be
pub record Holds (h : Header) (t : List ℕ) : Type 0 where
  pub header : header_bytes ≤ length t
  pub legs : h.leg_count * leg_bytes ≤ length t - h.leg_offset
  pub messages : h.message_count * message_bytes ≤ length t - h.message_offset
  pub size : size_in h < 65_536

-- the bytes of a form, 0 where it is not written
abbrev pub size_of : Result ℕ Refusal → ℕ
size_of (Ok n) = n
size_of (Err r) = 0

-- what a writer gives: the number that turns back, 0 for none, and the bytes of the form, 0 where it is not written
abbrev pub reply_of : Result ℕ Refusal → R.Reply
reply_of r = record { number = number_in r; size = size_of r }

-- what a writer gives for a tape and a lent buffer, and the buffer then
abbrev pub Formed : Lent → LentMut → Result ℕ Refusal → Type 0
Formed tape out r = (reply_of r ≡ R.reply_to tape.entry.now out.entry.now) × (out.exit.now ≡ R.buffer_after tape.entry.now out.entry.now)
