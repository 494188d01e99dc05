-- The bytes of a tape in an output.
use mathlib.Core.Path.{◌≡◌}
use mathlib.Core.List.{List}
use Prim.Native.Nat.{ℕ, min}
use native.Mathlib.Omega.{arith}
use lib.ListN.{length}
use lib.Seq.{sets}
use Rattle.text.specs.Outputs.{Puts}
use Rattle.session.specs.Lines.{tape_text}

-- the bytes of a tape, in an output from its start
pub all_put : (tape text lent : List ℕ) (r : ℕ) (out : List ℕ) → text ≡ tape_text tape → Puts text lent 0 r out → (r ≡ min (length (tape_text tape)) (length lent)) × (out ≡ sets lent 0 (tape_text tape))
all_put tape text lent r out e p = rw (← e) (let h = p.end in omega (arith, h), p.bytes)
