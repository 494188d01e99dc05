-- How a tape begins, and the bytes of a whole tape.
use mathlib.Core.Path.{◌≡◌, refl, ap, sym, ◌∙◌}
use mathlib.Core.Bool.{Bool, true, false}
use mathlib.Core.List.{List, [], ◌∷◌, ◌++◌, append-nil}
use Prim.Native.Nat.{ℕ, ◌<◌}
use native.Mathlib.Omega.{arith}
use borrow.Author.Tests.{ne_eqb, eqb-true}
use lib.Dec.{eqb}
use lib.ListN.{drop}
use Rattle.std.specs.Prelude.{Result, Ok, Err, IsErrAnd}
use Rattle.rules.specs.Basics.{pick}
use Rattle.rules.specs.Strategy.{Strategy, opening_refusal}
use Rattle.rules.specs.Run.{Opened, refused_opening, started, start_of, opening}
use Rattle.rules.specs.Tape.{messages_from, tape_refusal, strategy_of, messages_of, tape_of}
use Rattle.rules.specs.Print.{title_line, refused_line, lines_from, opened_lines, lines_of}
use Rattle.types.specs.declared.Refusal.{Refusal}
use Rattle.types.specs.Refusals.{number_of, number_in}
use Rattle.types.proofs.RefusalLaws.{is_some_number}
use Rattle.state.specs.Layout.{Sized, is_sized}
use Rattle.state.specs.View.{state_of}
use Rattle.state.proofs.StateLaws.{sized_is}
use Rattle.opening.specs.Opens.{Opens, opened_by}
use Rattle.text.specs.Text.{line_text, lines_text}
use Rattle.session.specs.declared.Start.{Start}
use Rattle.session.specs.declared.TurnedBack.{TurnedBack}
use Rattle.session.specs.Lines.{tape_text, OpenedBy, Begins}

-- ---- a tape begins

abbrev number_of_opened : Opened → ℕ
number_of_opened (refused_opening n) = n
number_of_opened (started s) = 0

number_is : (o : Strategy) → number_of_opened (opening o) ≡ opening_refusal o
unfolding opening
number_is o = go (eqb (opening_refusal o) 0) refl
  where
    go : (b : Bool) → eqb (opening_refusal o) 0 ≡ b → number_of_opened (pick b (started (start_of o)) (refused_opening (opening_refusal o))) ≡ opening_refusal o
    go true e = sym (eqb-true (opening_refusal o) 0 e)
    go false e = refl

module _ (l w tape : List ℕ) where
  -- a tape that is turned back by a row of its own
  pub turned-back : (r : Result Unit Refusal) (row : Refusal) → IsErrAnd r (λ f. f ≡ row) → number_of row ≡ tape_refusal tape → OpenedBy l w tape l w (number_in r)
  turned-back (Ok b) row h e = absurd h
  turned-back (Err f) row h e =
      let p : 0 < number_of row = is_some_number row in
      let q : number_of f ≡ tape_refusal tape = ap number_of h ∙ e in
      record { number = rw (ne_eqb (tape_refusal tape) 0 (λ z. omega arith)) q; opened = λ z. absurd (omega arith); refused = λ x. (refl, refl) }

  -- another tape, by its opening
  pub by-opening : (o : Strategy) (l' w' : List ℕ) (n : ℕ) → Sized l w → tape_refusal tape ≡ 0 → opening o ≡ opening (strategy_of tape) → Opens l w o n l' w' → OpenedBy l w tape l' w' n
  by-opening o l' w' n x z e p =
      let s : is_sized l w ≡ true = sized_is l w x in
      record {
        number = rw z (p.number ∙ rw s (sym (number_is o) ∙ ap number_of_opened e ∙ number_is (strategy_of tape)));
        opened = λ _. p.answer s ∙ e;
        refused = p.refused;
      }

-- ---- its lines

module _ (l w tape l' w' : List ℕ) where
  pub opened-lines : (n : ℕ) → (tape_refusal tape ≡ 0 → opened_by n (state_of l' w') ≡ opening (strategy_of tape)) → n ≡ pick (eqb (tape_refusal tape) 0) (opening_refusal (strategy_of tape)) (tape_refusal tape) → lines_of tape ≡ pick (eqb n 0) (title_line ∷ lines_from 1 (state_of l' w') (messages_of tape)) (refused_line 0 n ∷ [])
  unfolding lines_of tape_of
  opened-lines n o k = go (eqb (tape_refusal tape) 0) refl
    where
      shown : (c : Bool) → opened_lines (pick c (started (state_of l' w')) (refused_opening n)) (messages_of tape) ≡ pick c (title_line ∷ lines_from 1 (state_of l' w') (messages_of tape)) (refused_line 0 n ∷ [])
      shown true = refl
      shown false = refl

      go : (c : Bool) → eqb (tape_refusal tape) 0 ≡ c → lines_of tape ≡ pick (eqb n 0) (title_line ∷ lines_from 1 (state_of l' w') (messages_of tape)) (refused_line 0 n ∷ [])
      go true e = rw e (ap (λ (o : Opened). opened_lines o (messages_of tape)) (sym (o (eqb-true (tape_refusal tape) 0 e))) ∙ shown (eqb n 0))
      go false e = let m : n ≡ tape_refusal tape = k ∙ rw e refl in rw (m, e) refl

  -- "A tape refused with 60 or 61, or a refused opening, prints the one line `refused 0` and its number"
  pub back-text : (t : TurnedBack) → Begins l w tape l' w' (Err t) → line_text (refused_line 0 (number_of t.row)) ≡ tape_text tape
  unfolding tape_text
  back-text t b =
      let p : 0 < number_of t.row = is_some_number t.row in
      rw (opened-lines (number_of t.row) b.by.opened b.by.number, ne_eqb (number_of t.row) 0 (λ z. omega arith)) (sym (append-nil (line_text (refused_line 0 (number_of t.row)))))

  -- a tape that is not turned back: the title and the lines of the messages
  pub read-text : (r : Start) → Begins l w tape l' w' (Ok r) → line_text title_line ++ lines_text (lines_from 1 (state_of l' w') (messages_from r.count (drop r.at tape))) ≡ tape_text tape
  unfolding tape_text messages_of
  read-text r b = rw (b.count, b.at, opened-lines 0 b.by.opened b.by.number) refl
