-- What tapeform writes, by the number of its tape, and what is handed over of it.
use mathlib.Core.Path.{◌≡◌, sym, ap, ◌∙◌}
use mathlib.Core.List.{List}
use Prim.Native.Nat.{ℕ, ◌+◌, ◌≤◌}
use native.Mathlib.Omega.{arith}
use borrow.Author.Tests.{ne_eqb}
use lib.ListN.{length, take}
use lib.Seq.{length-take-le}
use Rattle.rules.specs.Tape.{tape_refusal}
use Rattle.rules.specs.Spelling.{form_of, Reply, reply_to, buffer_after}
use Rattle.rules.specs.Print.{refused_line}
use Rattle.text.specs.Text.{line_text}
use Rattle.form.proofs.FormLaws.{Said, done-said}
use Rattle.output.specs.Counted.{counted}
use Rattle.tapeform.specs.Forms.{form_text}

accepted_text : (t : List ℕ) → tape_refusal t ≡ 0 → form_text t ≡ form_of t
unfolding form_text
accepted_text t h = rw h

pub refused_text : (t : List ℕ) (n : ℕ) → (tape_refusal t ≡ 0 → ⊥) → n ≡ tape_refusal t → line_text (refused_line 0 n) ≡ form_text t
unfolding form_text
refused_text t n h e = rw (e, ne_eqb (tape_refusal t) 0 h)

-- the part of a page or a line that is handed over
part-handed : (page : List ℕ) (n bytes : ℕ) (text : List ℕ) → n ≤ length page → n ≡ length text → bytes ≡ counted (0 + length (take n page)) → bytes ≡ counted (length text)
part-handed page n bytes text h k e = let t = length-take-le n page h in omega (arith, e, t, k)

module _ (t page after : List ℕ) (r : Reply) (e : r ≡ reply_to t page) (a : after ≡ buffer_after t page) (z : r.number ≡ 0) where
  said : Said t page r e
  said = done-said t page r e z

  pub form-room : r.size ≤ length after
  form-room = let s = said in omega (arith, s.size, s.room, s.same, ap length a)

  pub form-handed : (bytes : ℕ) → bytes ≡ counted (0 + length (take r.size after)) → bytes ≡ counted (length (form_text t))
  form-handed bytes = part-handed after r.size bytes (form_text t) form-room (said.size ∙ ap length (sym (accepted_text t said.passed)))

pub line_handed : (text line : List ℕ) (n bytes : ℕ) → n ≡ length text → n ≤ 128 → length line ≡ 128 → bytes ≡ counted (0 + length (take n line)) → bytes ≡ counted (length text)
line_handed text line n bytes k h l = part-handed line n bytes text (omega (arith, h, l)) k
