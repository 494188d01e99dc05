-- The part that is filled is 0; what stands before and behind it is as it was.
use mathlib.Core.Path.{◌≡◌, refl, sym, ap, ◌∙◌}
use mathlib.Core.List.{List, ◌++◌}
use Prim.Native.Nat.{ℕ, ◌+◌, ◌-◌}
use native.Mathlib.Omega.{arith}
use lib.ListN.{length, length-drop, get_or, take, drop}
use lib.Seq.{length-take-le, get_or-take, get_or-drop}
use borrow.Rule.Slice.PartMut.{put_mid, post_of, take_put, drop_put}
use Rattle.std.proofs.lemmas.List.{get_or-append_right, get_or_append_left}
use Rattle.state.specs.Layout as L
use Rattle.opening.proofs.clear_quotes.Goals as goal

pub returns : goal.returns
returns c =
    let w = c.args.words.now in
    let z = c.fill.new.self in
    let all = put_mid L.bids 24 w z in
    let rest = z ++ post_of L.bids 24 w in
    let size : length (take 24 (drop L.bids w)) ≡ 24 = length-take-le 24 (drop L.bids w) (omega (arith, length-drop L.bids w)) in
    record {
      none =
          λ i h.
          let e : L.bids + i - L.bids ≡ i = omega arith in
          get_or-append_right (take L.bids w) rest L.bids (L.bids + i) 0 (length-take-le L.bids w (omega arith)) (omega arith)
          ∙ ap (λ (k : ℕ). get_or rest k 0) e
          ∙ get_or_append_left z (post_of L.bids 24 w) 0 i (omega (arith, size, c.fill.ensures.len, h))
          ∙ c.fill.ensures.clones i 0 (omega (arith, size, h)) refl;
      kept =
          record {
            below = λ i h. sym (get_or-take L.bids all i 0 h) ∙ ap (λ (l : List ℕ). get_or l i 0) (take_put L.bids 24 w z (omega arith)) ∙ get_or-take L.bids w i 0 h;
            above =
                λ i h.
                let e : i ≡ L.sides + (i - L.sides) = omega arith in
                ap (λ (k : ℕ). get_or all k 0) e
                ∙ sym (get_or-drop L.sides all (i - L.sides) 0)
                ∙ ap (λ (l : List ℕ). get_or l (i - L.sides) 0) (drop_put L.bids L.sides w z (omega arith) (omega arith) (omega (arith, size, c.fill.ensures.len)))
                ∙ get_or-drop L.sides w (i - L.sides) 0
                ∙ ap (λ (k : ℕ). get_or w k 0) (sym e);
          };
    }
