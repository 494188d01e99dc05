-- Bytes put into an output, one text after another.
use mathlib.Core.Path.{◌≡◌, refl, ap, sym, ◌∙◌, subst}
use mathlib.Core.List.{List, [], ◌∷◌, ◌++◌, append-nil, append_assoc}
use Prim.Native.Nat.{ℕ, ◌+◌, ◌*◌, ◌≤◌, min}
use native.Mathlib.Decide.{dec_lt}
use native.Mathlib.Nat.{mul-add}
use native.Mathlib.Omega.{arith}
use lib.ListN.{length, length-append, take}
use lib.Seq.{sets, length-sets, take_at}
use Rattle.rules.specs.Print.{Line}
use Rattle.text.specs.Text.{line_text, lines_text}
use Rattle.text.specs.Outputs.{most_line, Puts, PutsFirst}
use Rattle.text.proofs.SetsLaws.{sets_append, sets_least}

-- a line's bytes, from the buffer that they were printed into
pub puts_line : (bytes rest m lent : List ℕ) (n at r : ℕ) (out : List ℕ) → n ≡ length bytes → m ≡ bytes ++ rest → n ≤ most_line → Puts (take n m) lent at r out → Puts bytes lent at r out × (length bytes ≤ most_line)
puts_line bytes rest m lent n at r out e h f p = (subst (λ (t : List ℕ). Puts t lent at r out) (rw h (take_at bytes rest n (sym e))) p, omega (arith, e, f))

-- an output keeps its length
pub puts_same : (text lent : List ℕ) (at r : ℕ) (out : List ℕ) → Puts text lent at r out → length out ≡ length lent
puts_same text lent at r out p = ap length p.bytes ∙ length-sets lent at text

-- the offset behind bytes that were put
pub puts_room : (text lent : List ℕ) (at r : ℕ) (out : List ℕ) → Puts text lent at r out → r ≤ length out
puts_room text lent at r out p = let l = puts_same text lent at r out p in let e = p.end in omega (arith, l, e)

-- no bytes
pub puts_none : (lent : List ℕ) (at r : ℕ) → r ≡ min at (length lent) → Puts [] lent at r lent
puts_none lent at r e = record { bytes = refl; end = omega (arith, e) }

-- one text, then another
pub puts_then : (a b lent : List ℕ) (at : ℕ) (mid : List ℕ) (end r : ℕ) (out : List ℕ) → Puts a lent at end mid → Puts b mid end r out → Puts (a ++ b) lent at r out
puts_then a b lent at mid end r out p q =
    let l : length mid ≡ length lent = puts_same a lent at end mid p in
    let k : length (a ++ b) ≡ length a + length b = length-append a b in
    let e = p.end in
    let f = q.end in
    record {
      bytes =
          q.bytes
          ∙ rw e (sets_least b mid (at + length a) (length lent) (sym l))
          ∙ ap (λ (x : List ℕ). sets x (at + length a) b) p.bytes
          ∙ sym (sets_append a b lent at);
      end = omega (arith, l, k, e, f);
    }

-- the bytes of some lines and then others
pub lines_append : (ls ms : List Line) → lines_text (ls ++ ms) ≡ lines_text ls ++ lines_text ms
lines_append [] ms = refl
lines_append (l ∷ ls) ms = ap (λ (x : List ℕ). line_text l ++ x) (lines_append ls ms) ∙ sym (append_assoc (line_text l) (lines_text ls) (lines_text ms))

-- an offset past the end is as good as the end
pub puts_from : (text lent : List ℕ) (at start r : ℕ) (out : List ℕ) → start ≡ min at (length lent) → Puts text lent start r out → Puts text lent at r out
puts_from text lent at start r out e p = puts_then [] text lent at lent start r out (puts_none lent at start e) p

-- one line alone
pub one_line : (line : Line) (lent : List ℕ) (at r : ℕ) (out : List ℕ) (n : ℕ) → Puts (line_text line) lent at r out × (length (line_text line) ≤ n) → Puts (lines_text (line ∷ [])) lent at r out × (length (lines_text (line ∷ [])) ≤ n)
one_line line lent at r out n p = rw (append-nil (line_text line)) p

-- some lines, then others
pub lines_then : (ls ms : List Line) (a b : ℕ) (lent : List ℕ) (at : ℕ) (mid : List ℕ) (end r : ℕ) (out : List ℕ) → Puts (lines_text ls) lent at end mid × (length (lines_text ls) ≤ a) → Puts (lines_text ms) mid end r out × (length (lines_text ms) ≤ b)
    → Puts (lines_text (ls ++ ms)) lent at r out × (length (lines_text (ls ++ ms)) ≤ a + b)
lines_then ls ms a b lent at mid end r out p q =
    let k : length (lines_text ls ++ lines_text ms) ≡ length (lines_text ls) + length (lines_text ms) = length-append (lines_text ls) (lines_text ms) in
    let x = p.1 in
    let y = q.1 in
    rw (lines_append ls ms) (puts_then (lines_text ls) (lines_text ms) lent at mid end r out p.0 q.0, omega (arith, k, x, y))

-- ---- at most so many bytes for each of some things, one behind the other

-- those of the first i are put
pub record EachPut (first : ℕ → List ℕ) (most i : ℕ) (lent : List ℕ) (start at : ℕ) (out : List ℕ) : Type 0 where
  pub puts : Puts (first i) lent start at out
  pub few : length (first i) ≤ most * i

module _ (first : ℕ → List ℕ) (most : ℕ) (lent : List ℕ) (start : ℕ) where
  pub each_start : (at : ℕ) → first 0 ≡ [] → at ≡ min start (length lent) → EachPut first most 0 lent start at lent
  each_start at z e = record { puts = rw z (puts_none lent start at e); few = rw z (omega arith) }

  pub each_next : (i at : ℕ) (out text : List ℕ) (end : ℕ) (new : List ℕ) → first (i + 1) ≡ first i ++ text → EachPut first most i lent start at out → Puts text out at end new × (length text ≤ most)
      → EachPut first most (i + 1) lent start end new
  each_next i at out text end new z p q =
      let n : length (first i ++ text) ≡ length (first i) + length text = length-append (first i) text in
      let m : most * (i + 1) ≡ most * i + most * 1 = mul-add most i 1 in
      let a = p.few in
      let b = q.1 in
      record { puts = rw z (puts_then (first i) text lent start out at end new p.puts q.0); few = rw z (omega (arith, n, m, a, b)) }

-- ---- one text behind the other

module _ (first : ℕ → List ℕ) (most more : ℕ) (lent : List ℕ) where
  -- none yet
  pub first_none : (at start : ℕ) → first 0 ≡ [] → start ≡ min at (length lent) → PutsFirst first most more lent at 0 start lent
  first_none at start z e =
      record {
        puts = rw z (puts_none lent at start e);
        before = λ j h. absurd (omega (arith, h));
        whole = λ h k. rw z (omega (arith, k));
      }

  -- one more
  pub first_next : (at k r : ℕ) (out text : List ℕ) (end : ℕ) (new : List ℕ) → PutsFirst first most more lent at k r out → r ≤ most → first (k + 1) ≡ first k ++ text → length text ≤ more → Puts text out r end new
      → PutsFirst first most more lent at (k + 1) end new
  first_next at k r out text end new p h e f d =
      let c : length (first (k + 1)) ≡ length (first k) + length text = ap length e ∙ length-append (first k) text in
      let q = p.puts.end in
      record {
        puts = rw e (puts_then (first k) text lent at out r end new p.puts d);
        before =
            λ j l.
            elim (dec_lt j k) [
              | yes y ↦ p.before j y
              | no y ↦ let z : j ≡ k = omega (arith, l, y) in rw z (omega (arith, q, h))
            ];
        whole = λ x y. let w = p.whole x y in omega (arith, x, h, q, c, f, w);
      }

  -- from an offset past the end, or the end
  pub first-from : (at start k r : ℕ) (out : List ℕ) → start ≡ min at (length lent) → PutsFirst first most more lent start k r out → PutsFirst first most more lent at k r out
  first-from at start k r out e p =
      record {
        puts = puts_from (first k) lent at start r out e p.puts;
        before = λ j h. let b = p.before j h in omega (arith, b, e);
        whole = λ x y. let b = p.whole x (omega (arith, x, y, e)) in omega (arith, b, x, y, e);
      }
