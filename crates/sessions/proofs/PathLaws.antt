-- A path's bytes are text.
use mathlib.Core.Path.{refl}
use mathlib.Core.List.{[], ◌∷◌}
use Prim.Native.Nat.{ℕ, ◌<◌}
use Rattle.std.specs.Prelude.{Result, Ok, Err, IsOk, MatchResult}
use native.Mathlib.Omega.{arith}
use Rattle.std.specs.Str.{IsUtf8}
use Rattle.std.proofs.lemmas.List.Elements.{All-cons, All-nil}
use Rattle.std.proofs.lemmas.Str.{IsUtf8-from_ascii}
use Rattle.std.proofs.lemmas.Str.Ascii.{IsAscii-from_all}

-- three bytes below 128, and ".tape" behind them
pub path_text : (a b c : ℕ) → a < 128 → b < 128 → c < 128 → IsUtf8 (a ∷ b ∷ c ∷ 46 ∷ 116 ∷ 97 ∷ 112 ∷ 101 ∷ [])
path_text a b c p q r =
    let P = λ (x : ℕ). x < 128 in
    let e = All-cons P 101 [] (omega arith) (All-nil P) in
    let pe = All-cons P 112 (101 ∷ []) (omega arith) e in
    let ape = All-cons P 97 (112 ∷ 101 ∷ []) (omega arith) pe in
    let tape = All-cons P 116 (97 ∷ 112 ∷ 101 ∷ []) (omega arith) ape in
    let end = All-cons P 46 (116 ∷ 97 ∷ 112 ∷ 101 ∷ []) (omega arith) tape in
    let one = All-cons P c (46 ∷ 116 ∷ 97 ∷ 112 ∷ 101 ∷ []) r end in
    let two = All-cons P b (c ∷ 46 ∷ 116 ∷ 97 ∷ 112 ∷ 101 ∷ []) q one in
    let path = a ∷ b ∷ c ∷ 46 ∷ 116 ∷ 97 ∷ 112 ∷ 101 ∷ [] in
    IsUtf8-from_ascii path (IsAscii-from_all path (All-cons P a (b ∷ c ∷ 46 ∷ 116 ∷ 97 ∷ 112 ∷ 101 ∷ []) p two))

-- a result whose error cannot be
pub is_taken : {T E : Type 0} (r : Result T E) (P : T → Type 0) (Q : E → Type 0) → MatchResult r P Q → ((e : E) → Q e → ⊥) → IsOk r
is_taken (Ok x) P Q m n = refl
is_taken (Err e) P Q m n = absurd (n e m)
