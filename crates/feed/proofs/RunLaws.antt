-- Records told one after another.
use mathlib.Core.Path.{◌≡◌, refl, ap, sym, ◌∙◌}
use mathlib.Core.List.{List, [], ◌∷◌, ◌++◌, append-nil, append_assoc}
use Prim.Native.Nat.{ℕ, zero, suc, ◌+◌, ◌-◌, ◌*◌, ◌≤◌, ◌<◌, min}
use native.Mathlib.Omega.{arith}
use lib.ListN.{length, drop}
use lib.Seq.{drop-drop}
use Rattle.rules.specs.State.{State}
use Rattle.rules.specs.Tape.{message_bytes}
use Rattle.text.specs.Outputs.{Puts}
use Rattle.text.proofs.PutsLaws.{first_none, first_next, first-from}
use Rattle.feed.specs.declared.Cursor.{Cursor}
use Rattle.feed.specs.Replies.{most_reply, after_record, reply_text, after_records, replies_text, records_from, whole_records, AreTold}

-- ---- some records, then others

pub after-append : (s : State) (ps qs : List (List ℕ)) → after_records s (ps ++ qs) ≡ after_records (after_records s ps) qs
after-append s [] qs = refl
after-append s (p ∷ ps) qs = after-append (after_record s p) ps qs

pub replies_append : (s : State) (ps qs : List (List ℕ)) → replies_text s (ps ++ qs) ≡ replies_text s ps ++ replies_text (after_records s ps) qs
replies_append s [] qs = refl
replies_append s (p ∷ ps) qs =
    ap (λ (x : List ℕ). reply_text s p ++ x) (replies_append (after_record s p) ps qs)
    ∙ sym (append_assoc (reply_text s p) (replies_text (after_record s p) ps) (replies_text (after_records (after_record s p) ps) qs))

pub records_append : (p : List ℕ) (i j : ℕ) → records_from (i + j) p ≡ records_from i p ++ records_from j (drop (message_bytes * i) p)
records_append p zero j = let z : zero + j ≡ j = omega arith in rw z refl
records_append p (suc i) j =
    let z : suc i + j ≡ suc (i + j) = omega arith in
    let d : drop (message_bytes * i) (drop message_bytes p) ≡ drop (message_bytes * suc i) p = let e : message_bytes + message_bytes * i ≡ message_bytes * suc i = omega arith in drop-drop (message_bytes * i) message_bytes p ∙ ap (λ (n : ℕ). drop n p) e in
    rw z (ap (λ (ps : List (List ℕ)). p ∷ ps) (records_append (drop message_bytes p) i j ∙ ap (λ (q : List ℕ). records_from i (drop message_bytes p) ++ records_from j q) d))

-- ---- one record more

module _ (input : List ℕ) (p : Cursor) (most : ℕ) (s : State) (lent : List ℕ) where
  abbrev first : ℕ → List (List ℕ)
  first k = records_from k (drop (message_bytes * p.position) input)

  abbrev text : ℕ → List ℕ
  text k = replies_text s (first k)

  -- none yet
  pub told-start : (start : ℕ) → start ≡ min p.at (length lent) → AreTold input p most s lent s (record { position = p.position; at = start }) lent
  told-start start e =
      let z : p.position - p.position ≡ 0 = omega arith in
      record {
        puts = rw z (first_none text most most_reply lent p.at start refl e);
        state = rw z refl;
        inside = (omega arith, omega arith);
      }

  module _ (s' : State) (r : Cursor) (out : List ℕ) (t : AreTold input p most s lent s' r out) where
    abbrev k : ℕ
    k = r.position - p.position

    abbrev q : List ℕ
    q = drop (message_bytes * r.position) input

    counted : r.position + 1 - p.position ≡ k + 1
    counted = let h = t.inside.0 in omega (arith, h)

    one-first : first (k + 1) ≡ first k ++ (q ∷ [])
    one-first =
        let h = t.inside.0 in
        let e : message_bytes * p.position + message_bytes * k ≡ message_bytes * r.position = omega (arith, h) in
        records_append (drop (message_bytes * p.position) input) k 1
        ∙ ap (λ (x : List ℕ). first k ++ (x ∷ [])) (drop-drop (message_bytes * k) (message_bytes * p.position) input ∙ ap (λ (n : ℕ). drop n input) e)

    one-text : text (k + 1) ≡ text k ++ reply_text s' q
    one-text =
        ap (replies_text s) one-first
        ∙ replies_append s (first k) (q ∷ [])
        ∙ ap (λ (x : State). text k ++ (reply_text x q ++ [])) (sym t.state)
        ∙ ap (λ (x : List ℕ). text k ++ x) (append-nil (reply_text s' q))

    one_state : after_record s' q ≡ after_records s (first (k + 1))
    one_state = ap (λ (x : State). after_record x q) t.state ∙ sym (after-append s (first k) (q ∷ [])) ∙ ap (after_records s) (sym one-first)

    pub told-next : (end : ℕ) (new : List ℕ) (s'' : State) → r.position < whole_records input → r.at ≤ most → Puts (reply_text s' q) out r.at end new → length (reply_text s' q) ≤ most_reply → s'' ≡ after_record s' q
        → AreTold input p most s lent s'' (record { position = r.position + 1; at = end }) new
    told-next end new s'' h a d f g =
        let i = t.inside.0 in
        record {
          puts = rw counted (first_next text most most_reply lent p.at k r.at out (reply_text s' q) end new t.puts a one-text f d);
          state = rw counted (g ∙ one_state);
          inside = (omega (arith, i), omega (arith, h));
        }

-- from an offset of the output past its end, or its end
pub told-from : (input : List ℕ) (p : Cursor) (most : ℕ) (s : State) (lent : List ℕ) (s' : State) (r : Cursor) (out : List ℕ) (start : ℕ) → start ≡ min p.at (length lent)
    → AreTold input (record { position = p.position; at = start }) most s lent s' r out → AreTold input p most s lent s' r out
told-from input p most s lent s' r out start e t =
    record {
      puts = first-from _ most most_reply lent p.at start _ r.at out e t.puts;
      state = t.state;
      inside = t.inside;
    }
