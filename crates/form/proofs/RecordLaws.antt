-- A record's bytes under its kind's row are those of its fields as they are meant.
use mathlib.Core.Path.{◌≡◌, refl, sym, ap, ap₂, subst, ◌∙◌}
use mathlib.Core.Bool.{Bool, true, false}
use mathlib.Core.List.{List, [], ◌∷◌, ◌++◌}
use Prim.Native.Nat.{ℕ, zero, suc, ◌+◌, ◌-◌, ◌*◌, ◌/◌, ◌%◌, ◌≤◌, ◌<◌, min}
use native.Mathlib.Nat.{add-mul-mod_self_left, mod-eq_of_lt, add-mul-div_left, div-eq_of_lt}
use native.Mathlib.Omega.{arith}
use borrow.Author.Tests.{lt-ltb, ltb-false, ne_eqb}
use lib.Dec.{eqb, ltb}
use lib.IntN.{pos}
use lib.ListN.{length, get_or, drop, get_or-eq_default}
use lib.Seq.{get_or-drop}
use Rattle.rules.specs.Basics.{pick}
use Rattle.rules.specs.Tape.{signed, fields_of, Uses, uses_table, uses_of}
use Rattle.rules.specs.Spelling.{Bytes, little_endian, bits_of, yes_or_no, meant_by, meant, field_bytes, message_fields}
use Rattle.rules.proofs.SpellingLaws.{bits_back, bytes_at_lem, bytes_drop}
use Rattle.types.specs.View.{upto}
use Rattle.form.specs.Rows.{full, row_by, row_of, rows_from, row_at, lessers}

-- ---- a number that was read is written as its bytes

-- the lowest byte of a number, and the others
lowest : (w x y : ℕ) → x < 256 → little_endian (suc w) (x + 256 * y) ≡ x ∷ little_endian w y
lowest w x y h =
    let z : x / 256 ≡ 0 = div-eq_of_lt h in
    let p : (x + 256 * y) % 256 ≡ x = add-mul-mod_self_left x 256 y ∙ mod-eq_of_lt h in
    let q : (x + 256 * y) / 256 ≡ y = add-mul-div_left x y (omega arith) ∙ omega arith in
    ap₂ (λ (c : ℕ) (v : ℕ). c ∷ little_endian w v) p q

-- the number of some bytes, the lowest first
abbrev number_of : List ℕ → ℕ
number_of [] = 0
number_of (x ∷ xs) = x + 256 * number_of xs

number_bytes : (xs : List ℕ) → Bytes xs → little_endian (length xs) (number_of xs) ≡ xs
number_bytes [] b = refl
number_bytes (x ∷ xs) b = lowest (length xs) x (number_of xs) b.0 ∙ ap (λ (l : List ℕ). x ∷ l) (number_bytes xs b.1)

pub half_bytes : (a b : ℕ) → a < 256 → b < 256 → little_endian 2 (a + 256 * b) ≡ a ∷ b ∷ []
half_bytes a b h k = ap (little_endian 2) (let e : a + 256 * b ≡ number_of (a ∷ b ∷ []) = omega arith in e) ∙ number_bytes (a ∷ b ∷ []) (h, (k, tt))

pub word_bytes : (a b c d : ℕ) → Bytes (a ∷ b ∷ c ∷ d ∷ []) → little_endian 4 (a + 256 * b + 65_536 * (c + 256 * d)) ≡ a ∷ b ∷ c ∷ d ∷ []
word_bytes a b c d h =
    ap (little_endian 4) (let e : a + 256 * b + 65_536 * (c + 256 * d) ≡ number_of (a ∷ b ∷ c ∷ d ∷ []) = omega arith in e) ∙ number_bytes (a ∷ b ∷ c ∷ d ∷ []) h

pub long_bytes : (a b c d e f g h : ℕ) → Bytes (a ∷ b ∷ c ∷ d ∷ e ∷ f ∷ g ∷ h ∷ [])
    → little_endian 8 (a + 256 * b + 65_536 * (c + 256 * d) + 4_294_967_296 * (e + 256 * f + 65_536 * (g + 256 * h))) ≡ a ∷ b ∷ c ∷ d ∷ e ∷ f ∷ g ∷ h ∷ []
long_bytes a b c d e f g h k =
    ap (little_endian 8) (let q : a + 256 * b + 65_536 * (c + 256 * d) + 4_294_967_296 * (e + 256 * f + 65_536 * (g + 256 * h)) ≡ number_of (a ∷ b ∷ c ∷ d ∷ e ∷ f ∷ g ∷ h ∷ []) = omega arith in q)
    ∙ number_bytes (a ∷ b ∷ c ∷ d ∷ e ∷ f ∷ g ∷ h ∷ []) k

-- a list whose every place has a byte
pub bytes_of : (t : List ℕ) → ((i : ℕ) → i < length t → get_or t i 0 < 256) → Bytes t
bytes_of [] h = tt
bytes_of (x ∷ xs) h = (h 0 (omega arith), bytes_of xs (λ i l. h (suc i) (omega arith)))

module _ (p : List ℕ) (b : Bytes p) where
  pub four_bytes : (w x y z : ℕ) → Bytes (get_or p w 0 ∷ get_or p x 0 ∷ get_or p y 0 ∷ get_or p z 0 ∷ [])
  four_bytes w x y z = (bytes_at_lem p b w, (bytes_at_lem p b x, (bytes_at_lem p b y, (bytes_at_lem p b z, tt))))

  pub eight-bytes : (s t u v w x y z : ℕ) → Bytes (get_or p s 0 ∷ get_or p t 0 ∷ get_or p u 0 ∷ get_or p v 0 ∷ get_or p w 0 ∷ get_or p x 0 ∷ get_or p y 0 ∷ get_or p z 0 ∷ [])
  eight-bytes s t u v w x y z = (bytes_at_lem p b s, (bytes_at_lem p b t, (bytes_at_lem p b u, (bytes_at_lem p b v, four_bytes w x y z))))

-- ---- a field, used or not

least_of : (x : ℕ) → x < 256 → min x 255 ≡ x
least_of x h = omega arith

one-least : (u : Bool) (x : ℕ) → x < 256 → min x (full u) ∷ [] ≡ little_endian 1 (pick u x 0)
one-least true x h = ap (λ (v : ℕ). v ∷ []) (let e : min x 255 ≡ x % 256 = omega arith in e)
one-least false x h = ap (λ (v : ℕ). v ∷ []) (let e : min x 0 ≡ 0 = omega arith in e)

-- an order's wish, or a leg
fourth-least : (c u : Bool) (x : ℕ) → x < 256 → min x (pick c (pick u 1 0) (full u)) ∷ [] ≡ little_endian 1 (pick c (yes_or_no (pick u x 0)) (pick u x 0))
fourth-least true true zero h = ap (λ (v : ℕ). v ∷ []) (let e : min zero 1 ≡ zero = omega arith in e)
fourth-least true true (suc x) h = rw (lt-ltb 0 (suc x) (omega arith)) (ap (λ (v : ℕ). v ∷ []) (let e : min (suc x) 1 ≡ 1 = omega arith in e))
fourth-least true false x h = ap (λ (v : ℕ). v ∷ []) (let e : min x 0 ≡ 0 = omega arith in e)
fourth-least false true x h = one-least true x h
fourth-least false false x h = one-least false x h

word-least : (u : Bool) (w x y z : ℕ) → Bytes (w ∷ x ∷ y ∷ z ∷ []) → min w (full u) ∷ min x (full u) ∷ min y (full u) ∷ min z (full u) ∷ [] ≡ little_endian 4 (pick u (w + 256 * x + 65_536 * (y + 256 * z)) 0)
word-least true w x y z b = rw (least_of w b.0, least_of x b.1.0, least_of y b.1.1.0, least_of z b.1.1.1.0) (sym (word_bytes w x y z b))
word-least false w x y z b =
    let e : (v : ℕ) → min v 0 ≡ 0 = λ v. omega arith in
    rw (e w, e x, e y, e z)

cents_bits : (u : Bool) (w : ℕ) → w < 4_294_967_296 → bits_of (pick u (signed w) (pos 0)) ≡ pick u w 0
cents_bits true w h = bits_back w h
cents_bits false w h = refl

-- ---- a record

module _ (p : List ℕ) (b : Bytes p) where
  word-field : (u : Bool) (w x y z : ℕ)
      → min (get_or p w 0) (full u) ∷ min (get_or p x 0) (full u) ∷ min (get_or p y 0) (full u) ∷ min (get_or p z 0) (full u) ∷ []
      ≡ little_endian 4 (pick u (get_or p w 0 + 256 * get_or p x 0 + 65_536 * (get_or p y 0 + 256 * get_or p z 0)) 0)
  word-field u w x y z = word-least u (get_or p w 0) (get_or p x 0) (get_or p y 0) (get_or p z 0) (four_bytes p b w x y z)

  time-field : (s t u v w x y z : ℕ)
      → min (get_or p s 0) 255 ∷ min (get_or p t 0) 255 ∷ min (get_or p u 0) 255 ∷ min (get_or p v 0) 255 ∷ min (get_or p w 0) 255 ∷ min (get_or p x 0) 255 ∷ min (get_or p y 0) 255 ∷ min (get_or p z 0) 255 ∷ []
      ≡ little_endian 8 (get_or p s 0 + 256 * get_or p t 0 + 65_536 * (get_or p u 0 + 256 * get_or p v 0) + 4_294_967_296 * (get_or p w 0 + 256 * get_or p x 0 + 65_536 * (get_or p y 0 + 256 * get_or p z 0)))
  time-field s t u v w x y z =
      let l : (k : ℕ) → min (get_or p k 0) 255 ≡ get_or p k 0 = λ k. least_of (get_or p k 0) (bytes_at_lem p b k) in
      rw (l s, l t, l u, l v, l w, l x, l y, l z)
      (sym (long_bytes (get_or p s 0) (get_or p t 0) (get_or p u 0) (get_or p v 0) (get_or p w 0) (get_or p x 0) (get_or p y 0) (get_or p z 0) (eight-bytes p b s t u v w x y z)))

  cents-field : (u : Bool) (w x y z : ℕ)
      → min (get_or p w 0) (full u) ∷ min (get_or p x 0) (full u) ∷ min (get_or p y 0) (full u) ∷ min (get_or p z 0) (full u) ∷ []
      ≡ little_endian 4 (bits_of (pick u (signed (get_or p w 0 + 256 * get_or p x 0 + 65_536 * (get_or p y 0 + 256 * get_or p z 0))) (pos 0)))
  cents-field u w x y z =
      word-field u w x y z
      ∙ ap (little_endian 4)
      (sym (cents_bits u (get_or p w 0 + 256 * get_or p x 0 + 65_536 * (get_or p y 0 + 256 * get_or p z 0)) (omega (arith, bytes_at_lem p b w, bytes_at_lem p b x, bytes_at_lem p b y, bytes_at_lem p b z))))

  by_row : (u : Uses) (rest : List ℕ) → upto (λ i. min (get_or p i 0) (get_or (row_by (get_or p 0 0) u ++ rest) i 0)) 0 36 ≡ field_bytes (message_fields (meant_by u (fields_of p)))
  unfolding upto
  by_row u rest =
      ap₂ (λ (x : List ℕ) (r : List ℕ). x ++ r) (one-least true (get_or p 0 0) (bytes_at_lem p b 0))
      (ap₂ (λ (x : List ℕ) (r : List ℕ). x ++ r) (one-least u.side (get_or p 1 0) (bytes_at_lem p b 1))
      (ap₂ (λ (x : List ℕ) (r : List ℕ). x ++ r) (one-least u.account (get_or p 2 0) (bytes_at_lem p b 2))
      (ap₂ (λ (x : List ℕ) (r : List ℕ). x ++ r) (fourth-least (eqb (get_or p 0 0) 3) u.wish_or_leg (get_or p 3 0) (bytes_at_lem p b 3))
      (ap₂ (λ (x : List ℕ) (r : List ℕ). x ++ r) (word-field u.id 4 5 6 7)
      (ap₂ (λ (x : List ℕ) (r : List ℕ). x ++ r) (word-field u.participant 8 9 10 11)
      (ap₂ (λ (x : List ℕ) (r : List ℕ). x ++ r) (word-field u.units 12 13 14 15)
      (ap₂ (λ (x : List ℕ) (r : List ℕ). x ++ r) (cents-field u.price 16 17 18 19)
      (ap₂ (λ (x : List ℕ) (r : List ℕ). x ++ r) (cents-field u.ask 20 21 22 23)
      (ap₂ (λ (x : List ℕ) (r : List ℕ). x ++ r) (word-field u.ask_size 24 25 26 27)
      (time-field 28 29 30 31 32 33 34 35))))))))))

-- ---- a kind's row among the rows

-- one above 8 uses nothing but its time, as 7
row_above : (kind : ℕ) → 8 < kind → row_of kind ≡ row_of 7
row_above kind h =
    let e : uses_of kind ≡ uses_of 7 = get_or-eq_default uses_table (uses_of 7) {n = kind - 1} (omega arith) in
    ap (row_by kind) e ∙ rw (ne_eqb kind 3 (λ z. omega (arith, z, h)))

abbrev IsThere : ℕ → List ℕ → Type 0
IsThere at row = drop at (rows_from 8 1) ≡ row ++ drop (at + 36) (rows_from 8 1)

row_there : (kind : ℕ) → IsThere (row_at kind) (row_of kind)
row_there zero = refl
row_there (suc zero) = refl
row_there (suc (suc zero)) = refl
row_there (suc (suc (suc zero))) = refl
row_there (suc (suc (suc (suc zero)))) = refl
row_there (suc (suc (suc (suc (suc zero))))) = refl
row_there (suc (suc (suc (suc (suc (suc zero)))))) = refl
row_there (suc (suc (suc (suc (suc (suc (suc zero))))))) = refl
row_there (suc (suc (suc (suc (suc (suc (suc (suc zero)))))))) = refl
row_there (suc (suc (suc (suc (suc (suc (suc (suc (suc k))))))))) =
    let kind : ℕ = suc (suc (suc (suc (suc (suc (suc (suc (suc k)))))))) in
    subst (IsThere (row_at kind)) (sym (row_above kind (omega arith))) (rw (lt-ltb 8 kind (omega arith)) refl)

-- it ends among them
pub row_within : (kind row : ℕ) → row ≡ row_at kind → row + 36 ≤ 288
row_within kind row = go (ltb 8 kind) refl
  where
    go : (b : Bool) → ltb 8 kind ≡ b → row ≡ (pick b 7 kind - 1) * 36 → row + 36 ≤ 288
    go true e h = omega arith
    go false e h = omega (arith, ltb-false 8 kind e)

-- a record under its kind's row
pub record_bytes : (t : List ℕ) (at : ℕ) → Bytes t → lessers 36 at t (row_at (get_or t at 0)) (rows_from 8 1) ≡ field_bytes (message_fields (meant (fields_of (drop at t))))
record_bytes t at b =
    let p : List ℕ = drop at t in
    let kind : ℕ = get_or t at 0 in
    let rest : List ℕ = drop (row_at kind + 36) (rows_from 8 1) in
    let here : get_or p 0 0 ≡ kind = get_or-drop at t 0 0 ∙ ap (λ (j : ℕ). get_or t j 0) (let e : at + 0 ≡ at = omega arith in e) in
    let bytes : (i : ℕ) → get_or t (at + i) 0 ≡ get_or p i 0 = λ i. sym (get_or-drop at t i 0) in
    let row : (i : ℕ) → get_or (rows_from 8 1) (row_at kind + i) 0 ≡ get_or (row_by (get_or p 0 0) (uses_of (get_or p 0 0)) ++ rest) i 0
    = λ i. sym (get_or-drop (row_at kind) (rows_from 8 1) i 0) ∙ ap (λ (l : List ℕ). get_or l i 0) (row_there kind) ∙ ap (λ (k : ℕ). get_or (row_of k ++ rest) i 0) (sym here) in
    (λ j. upto (λ i. min (bytes i j) (row i j)) 0 36) ∙ by_row p (bytes_drop at t b) (uses_of (get_or p 0 0)) rest
