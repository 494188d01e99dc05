-- Bytes written one after another: the values of a function, the rows of the kinds, the messages of a tape.
use mathlib.Core.Path.{◌≡◌, refl, sym, ap, ◌∙◌}
use mathlib.Core.List.{List, ◌++◌, append-nil}
use Prim.Native.Nat.{ℕ, zero, suc, ◌+◌, ◌-◌, ◌*◌, ◌≤◌, ◌<◌}
use native.Mathlib.Omega.{arith}
use lib.ListN.{length, get_or, set, drop, drop_of_length-le}
use lib.Seq.{sets, sets-eq, take_all, drop-drop}
use Rattle.rules.specs.Tape.{message_bytes, fields_of}
use Rattle.rules.specs.Spelling.{meant, meant_from, field_bytes, message_fields, messages_form}
use Rattle.types.specs.View.{upto}
use Rattle.types.proofs.TableLaws.{from-take}
use Rattle.text.specs.Buffer.{Wrote}
use Rattle.text.proofs.SetsLaws.{sets_append}
use Rattle.form.specs.Rows.{row_of, rows_from}

-- bytes behind bytes that were written
pub behind : {bs l m : List ℕ} {at r : ℕ} → Wrote bs at l r m → (more : List ℕ) → sets m r more ≡ sets l at (bs ++ more)
behind {bs} {l} {m} {at} {r} w more = rw (w.holds, w.end) (sym (sets_append bs more l at))

-- bytes over a list that has as many
pub sets_whole : (bs l : List ℕ) → length l ≡ length bs → sets l 0 bs ≡ bs
sets_whole bs l h =
    let z : 0 + length bs ≡ length bs = omega arith in
    sets-eq bs l 0 (omega arith) ∙ rw z (ap (λ (rest : List ℕ). bs ++ rest) (drop_of_length-le l {i = length bs} (omega arith)) ∙ append-nil bs)

-- the bytes of an array, one by one
pub array_bytes : (l : List ℕ) (n : ℕ) → length l ≡ n → upto (λ i. get_or l i 0) 0 n ≡ l
array_bytes l n h =
    let z : n ≡ n - 0 = omega arith in
    ap (upto (λ i. get_or l i 0) 0) z ∙ from-take 0 l n (omega arith) ∙ take_all n l (omega arith)

-- ---- the values of a function

module _ (f : ℕ → ℕ) where
  pub values-size : (k n : ℕ) → length (upto f k n) ≡ n
  unfolding upto
  values-size k zero = refl
  values-size k (suc n) = ap suc (values-size (k + 1) n)

  pub values-start : (k n : ℕ) (l : List ℕ) (at : ℕ) → sets l (at + 0) (upto f (k + 0) (n - 0)) ≡ sets l at (upto f k n)
  values-start k n l at =
      let e : at + 0 ≡ at = omega arith in
      let g : k + 0 ≡ k = omega arith in
      let h : n - 0 ≡ n = omega arith in
      rw (e, g, h)

  pub values-step : (k n : ℕ) (l : List ℕ) (at i x : ℕ) → i < n → x ≡ f (k + i)
      → sets (set l (at + i) x) (at + (i + 1)) (upto f (k + (i + 1)) (n - (i + 1))) ≡ sets l (at + i) (upto f (k + i) (n - i))
  unfolding upto
  values-step k n l at i x h q =
      let e : n - i ≡ suc (n - (i + 1)) = omega arith in
      let g : at + (i + 1) ≡ suc (at + i) = omega arith in
      let y : k + (i + 1) ≡ k + i + 1 = omega arith in
      rw (e, g, y, q)

  pub values-end : (k n : ℕ) (l : List ℕ) (at i : ℕ) → n ≤ i → sets l (at + i) (upto f (k + i) (n - i)) ≡ l
  unfolding upto
  values-end k n l at i h = let e : n - i ≡ 0 = omega arith in rw e

-- ---- rows

pub rows_step : (kind : ℕ) (l m : List ℕ) (at r : ℕ) → kind ≤ 8 → Wrote (row_of kind) at l r m → sets m r (rows_from (9 - (kind + 1)) (kind + 1)) ≡ sets l at (rows_from (9 - kind) kind)
rows_step kind l m at r h w = let e : 9 - kind ≡ suc (9 - (kind + 1)) = omega arith in rw e (behind w (rows_from (9 - (kind + 1)) (kind + 1)))

-- an array of their size is the rows
pub rows_whole : (l m : List ℕ) (r : ℕ) → length l ≡ 288 → Wrote (rows_from 8 1) 0 l r m → m ≡ rows_from 8 1
rows_whole l m r h w = w.holds ∙ sets_whole (rows_from 8 1) l h

-- ---- messages

pub messages_size : (n : ℕ) (p : List ℕ) → length (messages_form (meant_from n p)) ≡ 36 * n
messages_size zero p = refl
messages_size (suc n) p = omega (arith, messages_size n (drop message_bytes p))

pub messages_step : (n : ℕ) (t l m : List ℕ) (at r from : ℕ) → 0 < n → Wrote (field_bytes (message_fields (meant (fields_of (drop from t))))) at l r m
    → sets m r (messages_form (meant_from (n - 1) (drop (from + message_bytes) t))) ≡ sets l at (messages_form (meant_from n (drop from t)))
messages_step zero t l m at r from h w = absurd (omega arith)
messages_step (suc n) t l m at r from h w =
    let z : suc n - 1 ≡ n = omega arith in
    rw (z, ← drop-drop message_bytes from t) (behind w (messages_form (meant_from n (drop message_bytes (drop from t)))))
